-- The captures are played as claimed: two by computation, those around the limit for all that may stand behind them. Assumes nothing.
use mathlib.Core.Path.{◌≡◌, refl, sym, ap, subst, ◌∙◌}
use mathlib.Core.Bool.{false}
use mathlib.Core.List.{List, [], ◌∷◌, ◌++◌, map, append-nil}
use mathlib.Core.Logic.{inl}
use Prim.Native.Nat.{ℕ, zero, suc, ◌+◌, ◌*◌, ◌<◌}
use native.Mathlib.Omega.{arith}
use lib.ListN.{length, take, replicate, length-append, length-replicate, get_or-append, get_or-replicate}
use lib.Seq.{take_all}
use Rattle.text.specs.Text.{decimal, hex_byte}
use Rattle.capture.specs.declared.Cycle.{Cycle}
use Rattle.capture.specs.declared.Word.{Word}
use Rattle.capture.specs.declared.Word.TheVariants.{Budget, BadKind}
use Rattle.std.specs.Prelude.{Option, Some, None}
use Rattle.capture.specs.Capture.{head_good, body_of, records, before_bad_kind, count_of, played, count, word_for, word}
use Rattle.capture.specs.Claims.{headed}
use Rattle.capture.proofs.RecordLaws.{counted_once, records_extend}
use Rattle.capture.proofs.Words.{words_of}
use Rattle.capture.proofs.CaptureHolds.{count_is, played_is, word_is}
use Rattle.claims.specs.Calls.{Call, read, byte, Called, called, gives, heard}
use Rattle.capture_call.specs.Call.{call_of}
use Rattle.capture_play.specs.Play.{calls_of, shown, powered}
use Rattle.capture_text.specs.Lines.{line_of, lines_of, word_text, cycles_text, last_text, text_of}
use Rattle.capture_output.specs.Output.{start, cycle_limit, output}
use Rattle.conformance_claim.proofs.SheetHolds.{calls}
use Rattle.capture_claim.specs.Cases.{whole_case, whole_text, kinds, kind_answers, bad_head_line, bad_tail_text, bad_kind_text, times, free_line, budget_line, cycles_line, reads, CasesClaim}

-- to unfold this is to unfold what a capture is, how it is played and what is printed
unfoldable playing : Unit {0}
unfolding calls head_good body_of records before_bad_kind played count word_for word heard call_of calls_of shown powered start
playing = tt

unfoldable printing : Unit {0}
unfolding line_of lines_of word_text cycles_text last_text text_of output decimal hex_byte
printing = tt

whole_case_lem : output whole_case ≡ whole_text
unfolding playing printing
whole_case_lem = refl

kind_answers_lem : shown (heard start (calls_of cycle_limit kinds)) ≡ kind_answers
unfolding playing
kind_answers_lem = refl

kind_count : count cycle_limit kinds ≡ 33
unfolding playing
kind_count = refl

kind_word : word cycle_limit kinds ≡ Some BadKind
unfolding playing
kind_word = refl

start_fifos : (length start.write_fifo ≡ 1024) × (length start.read_fifo ≡ 1024)
unfolding playing
start_fifos = (refl, refl)

start_fresh : (start.device.control.established ≡ false) × (start.device.identity ≡ 0 ∷ 0 ∷ 0 ∷ 0 ∷ 0 ∷ [])
unfolding playing
start_fresh = (refl, refl)

damaged : (output (0x4c ∷ 0x4f ∷ 0x43 ∷ 0x00 ∷ 0x02 ∷ 0x00 ∷ 0x00 ∷ 0x00 ∷ 0x00 ∷ []) ≡ bad_head_line) × (output (headed (0x04 ∷ 0x00 ∷ 0x00 ∷ [])) ≡ bad_tail_text) × (output (headed (0x04 ∷ 0x00 ∷ 0x00 ∷ 0x00 ∷ [])) ≡ bad_kind_text)
unfolding playing printing
damaged = (refl, refl, refl)

-- ---- reads of ACCESS, one after the other

-- ACCESS of a free device reads 81h and leaves all as it was
free_access : called (read 0) start ≡ gives 0 (byte 0x81) start
unfolding playing
free_access = refl

zeros : Cycle
zeros = record { kind = 0; offset = 0; byte = 0 }

records_zero : (n : ℕ) → records (replicate (4 * n) 0) ≡ replicate n zeros
unfolding records zeros
records_zero zero = refl
records_zero (suc n) =
    let e : 4 * suc n ≡ suc (suc (suc (suc (4 * n)))) = omega arith in
    rw e (ap (λ (cs : List Cycle). zeros ∷ cs) (records_zero n))

calls_zero : (n : ℕ) → map call_of (replicate n zeros) ≡ replicate n (read 0)
unfolding call_of zeros
calls_zero zero = refl
calls_zero (suc n) = ap (λ (cs : List Call). read 0 ∷ cs) (calls_zero n)

lines_zero : (n : ℕ) → lines_of (shown (heard start (replicate n (read 0)))) ≡ times n free_line
unfolding heard shown printing
lines_zero zero = refl
lines_zero (suc n) =
    subst (λ (k : Called). lines_of (shown ((read 0, k.answer) ∷ heard k.left (replicate n (read 0)))) ≡ times (suc n) free_line) (sym free_access)
    (ap (λ (t : List ℕ). free_line ++ t) (lines_zero n))

-- ---- n of them, and whatever stands behind them, with n as the limit

module _ (n : ℕ) (rest : List ℕ) where
  body : List ℕ
  body = replicate (4 * n) 0 ++ rest

  bytes : length (replicate {A = ℕ} (4 * n) 0) ≡ 4 * n
  bytes = length-replicate {A = ℕ} (4 * n) 0

  body_bytes : length body ≡ 4 * n + length rest
  unfolding body
  body_bytes = length-append (replicate (4 * n) 0) rest ∙ ap (λ (k : ℕ). k + length rest) bytes

  all_counted : count_of n body ≡ n
  unfolding body
  all_counted = counted_once n body n (record {
    within = omega arith;
    whole = omega (arith, body_bytes);
    known = λ i l.
        let p : 4 * i < 4 * n = omega arith in
        rw (get_or-append (replicate (4 * n) 0) rest 0 (4 * i) (omega (arith, bytes, p)), get_or-replicate {A = ℕ} (4 * n) (4 * i) 0 0 p) (omega arith);
    stops = inl refl;
  })

  all_played : played n (headed body) ≡ replicate n zeros
  unfolding body
  all_played =
      played_is n body
      ∙ ap (λ (k : ℕ). take k (records body)) all_counted
      ∙ records_extend n (replicate (4 * n) 0) rest (omega (arith, bytes))
      ∙ ap (take n) (records_zero n)
      ∙ take_all n (replicate n zeros) (omega (arith, length-replicate n zeros))

  all_calls : calls_of n (headed body) ≡ replicate n (read 0)
  unfolding calls_of
  all_calls = ap (map call_of) all_played ∙ calls_zero n

  printed : (w : Option Word) → word n (headed body) ≡ w → text_of (shown (heard start (calls_of n (headed body)))) (word n (headed body)) (count n (headed body)) ≡ times n free_line ++ (word_text w ++ last_text w n)
  unfolding text_of
  printed w e = rw (all_calls, e, count_is n body, all_counted, lines_zero n) refl

module _ (n : ℕ) where
  none_over : word n (headed (body n [])) ≡ None
  none_over = word_is n (body n []) ∙ (words_of n (body n [])).nothing.1 (omega (arith, body_bytes n [], all_counted n []))

  some_over : (b : ℕ) (more : List ℕ) → word n (headed (body n (b ∷ more))) ≡ Some Budget
  some_over b more = word_is n (body n (b ∷ more)) ∙ (words_of n (body n (b ∷ more))).budget.1 (all_counted n (b ∷ more), omega (arith, body_bytes n (b ∷ more), all_counted n (b ∷ more)))

-- ---- 10,000 of them

full_text : output (headed reads) ≡ times 10000 free_line ++ cycles_line
unfolding output body printing
full_text =
    let e : replicate (4 * 10000) 0 ++ [] ≡ reads = append-nil reads in
    rw e at (printed 10000 [] None (none_over 10000))

over_text : (b : ℕ) (more : List ℕ) → output (headed (reads ++ (b ∷ more))) ≡ times 10000 free_line ++ (budget_line ++ cycles_line)
unfolding output body printing
over_text b more = printed 10000 (b ∷ more) (Some Budget) (some_over 10000 b more)

pub cases_hold : CasesClaim
cases_hold = record {
  whole = whole_case_lem;
  fifos = start_fifos;
  fresh = start_fresh;
  answers = kind_answers_lem;
  counted = kind_count;
  ended = kind_word;
  bad_head = damaged.0;
  bad_tail = damaged.1;
  bad_kind = damaged.2;
  full = full_text;
  over = over_text;
}
