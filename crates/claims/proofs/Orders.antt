-- What a command bit or a byte for the FIFO makes of phase, run number and FIFOs is what it makes of the mailbox. Assumes nothing.
use mathlib.Core.Path.{◌≡◌, refl, sym, ap, ◌∙◌}
use mathlib.Core.Bool.{Bool, true, false, cond, ◌&&◌, ◌||◌, true≢false}
use mathlib.Core.List.{List, [], ◌∷◌, ◌++◌}
use Prim.Native.Nat.{ℕ, zero, suc, ◌+◌, ◌%◌, ◌^◌, ◌≤◌, ◌<◌}
use Rattle.std.specs.Prelude.{Option, Some, None}
use native.Mathlib.Omega.{arith}
use lib.ListN.{length, length-append}
use lib.Dec.{eqb, leb, ltb}
use borrow.Author.Tests.{ltb-true, ltb-false, leb-true}
use Rattle.bits.specs.Bits.{bit, is_set}
use Rattle.record.specs.Limits.{fifo_least}
use Rattle.record.specs.declared.Phase.{Phase}
use Rattle.record.specs.declared.Phase.TheVariants.{Idle, Reception, Execution}
use Rattle.bits.proofs.TestLaws.{both_true, neither}
use Rattle.reg_fifo.specs.Fifo.{update_write_fifo, update_read_fifo}
use Rattle.reg_fifo.specs.declared.FifoAction.TheVariants.{Keep, Clear, Store}
use Rattle.reg_sts_read.specs.Size.{declared_size}
use Rattle.reg_sts_write.specs.Completion.{without_cause, ignored, enter_completion, bad_size}
use Rattle.reg_sts_write.specs.Sts.{sts_command, command_ready, next_run, tpm_go_after, tpm_go, response_retry, commanded_by, store_after, write_data_fifo}
use Rattle.reg_sts_write.specs.declared.Commanded.{Commanded}
use Rattle.reg_sts_write.specs.declared.sts.StsCommand.{StsCommand}
use Rattle.reg_sts_write.specs.declared.sts.StsCommand.TheVariants.{CommandReady, TpmGo, ResponseRetry}
use Rattle.claims.specs.Mailbox.{Mailbox, idle, ready, receiving, executing, answering, Mail, mail, size_of, more_expected, after_command_ready, bad_size_answer, go_ahead, after_tpm_go, after_retry, is_command_ready, is_tpm_go, is_response_retry, after_sts, after_byte, phase_of, command_of, answer_of, padded}
use Rattle.claims.proofs.Padded.{length_padded, clear_padded, put_padded, set_padded, size_padded}

-- ---- which command bit a byte is: 40h, go, retry, and the front's word for it

pub data StsCase : Bool → Bool → Bool → Option StsCommand → Type 0 where
  readies : StsCase true false false (Some CommandReady)
  goes : StsCase false true false (Some TpmGo)
  retries : StsCase false false true (Some ResponseRetry)
  nothing : StsCase false false false None

abbrev bit_of : Bool → ℕ
bit_of true = 1
bit_of false = 0

bit_is : (n : ℕ) → n < 2 → n ≡ bit_of (eqb n 1)
bit_is zero l = refl
bit_is (suc zero) l = refl
bit_is (suc (suc n)) l = absurd (omega (arith, l))

-- bits 6, 5 and 1
abbrev Decoded : ℕ → ℕ → ℕ → Type 0
Decoded a b c =
    StsCase (eqb (a + b + c) 1 && eqb a 1) (eqb (a + b + c) 1 && eqb b 1) (eqb (a + b + c) 1 && eqb c 1)
    (cond (eqb (a + b + c) 1) (cond (eqb a 1) (Some CommandReady) (cond (eqb b 1) (Some TpmGo) (Some ResponseRetry))) None)

decoded : (p q r : Bool) → Decoded (bit_of p) (bit_of q) (bit_of r)
decoded true true true = nothing
decoded true true false = nothing
decoded true false true = nothing
decoded true false false = readies
decoded false true true = nothing
decoded false true false = goes
decoded false false true = retries
decoded false false false = nothing

pub sts_case : (v : ℕ) → StsCase (is_command_ready v) (is_tpm_go v) (is_response_retry v) (sts_command v)
unfolding sts_command
sts_case v = by (bit 6 v) (bit 5 v) (bit 1 v) (is_set 6 v) (is_set 5 v) (is_set 1 v) (bit_is (bit 6 v) (omega arith)) (bit_is (bit 5 v) (omega arith)) (bit_is (bit 1 v) (omega arith))
  where
    by : (a b c : ℕ) (p q r : Bool) → a ≡ bit_of p → b ≡ bit_of q → c ≡ bit_of r → Decoded a b c
    by a b c p q r i j k = rw (i, j, k) (decoded p q r)

-- ---- what fits FIFOs of c bytes

abbrev pub Fits : ℕ → Mailbox → Type 0
Fits c idle = Unit {0}
Fits c ready = Unit {0}
Fits c (receiving bs) = (1 ≤ length bs) × (length bs ≤ c)
Fits c (executing bs) = (10 ≤ length bs) × (length bs ≤ c)
Fits c (answering a k) = (10 ≤ length a) × (length a ≤ c) × (k ≤ length a)

pub command_fits : (c : ℕ) (b : Mailbox) → Fits c b → length (command_of b) ≤ c
command_fits c idle f = omega arith
command_fits c ready f = omega arith
command_fits c (receiving bs) f = f.1
command_fits c (executing bs) f = f.1
command_fits c (answering a k) f = omega arith

pub answer_fits : (c : ℕ) (b : Mailbox) → Fits c b → length (answer_of b) ≤ c
answer_fits c idle f = omega arith
answer_fits c ready f = omega arith
answer_fits c (receiving bs) f = omega arith
answer_fits c (executing bs) f = omega arith
answer_fits c (answering a k) f = f.1

-- phase p, run number n and FIFOs w and r are the mailbox's
pub record Boxed (c : ℕ) (q : Mail) (p : Phase) (n : ℕ) (w r : List ℕ) : Type 0 where
  pub phase : p ≡ phase_of q.box
  pub number : n ≡ q.run
  pub write_fifo : w ≡ padded c (command_of q.box)
  pub read_fifo : r ≡ padded c (answer_of q.box)
  pub fits : Fits c q.box

-- ---- by number

-- a command that may go, with a size that runs, has its declared size
pub whole : (n s c : ℕ) → (ltb n 6 || ltb n s && ltb n c) ≡ false → (leb 10 s && leb s c) ≡ true → (10 ≤ s) × (s ≤ n)
whole n s c e f = (leb-true 10 s k.0, by (ltb n s) refl (ltb n c) refl (neither (ltb n 6) (ltb n s && ltb n c) e).1)
  where
    k : (leb 10 s ≡ true) × (leb s c ≡ true)
    k = both_true (leb 10 s) (leb s c) f

    by : (t : Bool) → ltb n s ≡ t → (u : Bool) → ltb n c ≡ u → (ltb n s && ltb n c) ≡ false → s ≤ n
    by true i true j z = absurd (true≢false (sym (rw (i, j) refl) ∙ z))
    by true i false j z = omega (arith, leb-true s c k.1, ltb-false n c j)
    by false i u j z = ltb-false n s i

-- one more byte fits where more is expected
room : (n s c : ℕ) → fifo_least ≤ c → (ltb n 6 || ltb n s && ltb n c) ≡ true → n < c
room n s c l e = by (ltb n 6) refl e
  where
    by : (t : Bool) → ltb n 6 ≡ t → (t || ltb n s && ltb n c) ≡ true → n < c
    by true i q = omega (arith, ltb-true n 6 i)
    by false i q = ltb-true n c (both_true (ltb n s) (ltb n c) q).1

-- ---- each order

module _ (c : ℕ) (l : fifo_least ≤ c) where
  -- what a command, given box b and byte v, leaves is q
  abbrev Leaves : Mail → Commanded → ℕ → Mailbox → Type 0
  Leaves q k v b = Boxed c q k.phase k.run (update_write_fifo k.fifos v (padded c (command_of b))) (update_read_fifo k.fifos bad_size (padded c (answer_of b)))

  keeps : (b : Mailbox) (n v : ℕ) → Fits c b → Leaves (mail b n) (ignored (phase_of b) n) v b
  keeps b n v f = record { phase = refl; number = refl; write_fifo = refl; read_fifo = refl; fits = f }

  cleared : (b : Mailbox) (n v : ℕ) → Fits c b → Boxed c (mail idle n) Idle n (update_write_fifo Clear v (padded c (command_of b))) (update_read_fifo Clear bad_size (padded c (answer_of b)))
  cleared b n v f = record {
    phase = refl;
    number = refl;
    write_fifo = clear_padded c (command_of b) (command_fits c b f);
    read_fifo = clear_padded c (answer_of b) (answer_fits c b f);
    fits = tt;
  }

  ready_leaves : (b : Mailbox) (n v : ℕ) → Fits c b → Leaves (mail (after_command_ready b) n) (command_ready (phase_of b) n) v b
  ready_leaves idle n v f = record { phase = refl; number = refl; write_fifo = refl; read_fifo = refl; fits = tt }
  ready_leaves ready n v f = keeps ready n v f
  ready_leaves (receiving bs) n v f = cleared (receiving bs) n v f
  ready_leaves (executing bs) n v f = cleared (executing bs) n v f
  ready_leaves (answering a k) n v f = cleared (answering a k) n v f

  going_leaves : (bs : List ℕ) (n v s k : ℕ) → s ≡ size_of bs → k ≡ c → Fits c (receiving bs) → Leaves (go_ahead c bs n) (tpm_go_after (length bs) n s k) v (receiving bs)
  going_leaves bs n v s k i j f = rw (i, j) (by (more_expected c bs) refl (leb 10 (size_of bs) && leb (size_of bs) c) refl)
    where
      by : (t : Bool) → more_expected c bs ≡ t → (u : Bool) → (leb 10 (size_of bs) && leb (size_of bs) c) ≡ u
          → Leaves (cond t (mail (receiving bs) n) (cond u (mail (executing bs) ((n + 1) % 2 ^ 32)) (mail (answering bad_size_answer 0) n)))
          (cond t (ignored (Reception (length bs)) n) (cond u (without_cause (Execution (length bs)) (next_run n) Keep) (enter_completion (length bad_size) n))) v (receiving bs)
      by true e u g = keeps (receiving bs) n v f
      by false e true g = record { phase = refl; number = refl; write_fifo = refl; read_fifo = refl; fits = (omega (arith, (whole (length bs) (size_of bs) c e g).0, (whole (length bs) (size_of bs) c e g).1), f.1) }
      by false e false g = record {
        phase = refl;
        number = refl;
        write_fifo = clear_padded c bs f.1;
        read_fifo = put_padded c bad_size [] (omega arith);
        fits = (omega arith, omega arith, omega arith);
      }

  abbrev size_in : Mailbox → ℕ
  size_in b = declared_size (padded c (command_of b))

  abbrev length_in : Mailbox → ℕ
  length_in b = length (padded c (command_of b))

  go_leaves : (b : Mailbox) (n v : ℕ) → Fits c b → Leaves (after_tpm_go c b n) (tpm_go (phase_of b) n (size_in b) (length_in b)) v b
  go_leaves idle n v f = keeps idle n v f
  go_leaves ready n v f = keeps ready n v f
  go_leaves (receiving bs) n v f = going_leaves bs n v _ _ (size_padded c bs) (length_padded c bs f.1) f
  go_leaves (executing bs) n v f = keeps (executing bs) n v f
  go_leaves (answering a k) n v f = keeps (answering a k) n v f

  retry_leaves : (b : Mailbox) (n v : ℕ) → Fits c b → Leaves (mail (after_retry b) n) (response_retry (phase_of b) n) v b
  retry_leaves idle n v f = keeps idle n v f
  retry_leaves ready n v f = keeps ready n v f
  retry_leaves (receiving bs) n v f = keeps (receiving bs) n v f
  retry_leaves (executing bs) n v f = keeps (executing bs) n v f
  retry_leaves (answering a k) n v f = record { phase = refl; number = refl; write_fifo = refl; read_fifo = refl; fits = (f.0, f.1, omega arith) }

  -- a byte at STS
  pub order_leaves : (b : Mailbox) (n v : ℕ) → Fits c b → Leaves (after_sts c v (mail b n)) (commanded_by (sts_command v) (phase_of b) n (size_in b) (length_in b)) v b
  order_leaves b n v f = by (sts_case v)
    where
      by : {r g t : Bool} {k : Option StsCommand} → StsCase r g t k
          → Leaves (cond r (mail (after_command_ready b) n) (cond g (after_tpm_go c b n) (cond t (mail (after_retry b) n) (mail b n)))) (commanded_by k (phase_of b) n (size_in b) (length_in b)) v b
      by readies = ready_leaves b n v f
      by goes = go_leaves b n v f
      by retries = retry_leaves b n v f
      by nothing = keeps b n v f

  storing_leaves : (bs : List ℕ) (n v s k : ℕ) → s ≡ size_of bs → k ≡ c → Fits c (receiving bs)
      → Leaves (mail (after_byte c v (receiving bs)) n) (store_after (length bs) n s k) v (receiving bs)
  storing_leaves bs n v s k i j f = rw (i, j) (by (more_expected c bs) refl)
    where
      longer : length (bs ++ (v ∷ [])) ≡ length bs + 1
      longer = simp length-append (omega arith)

      by : (t : Bool) → more_expected c bs ≡ t
          → Leaves (mail (cond t (receiving (bs ++ (v ∷ []))) (receiving bs)) n) (cond t (without_cause (Reception (length bs + 1)) n (Store (length bs))) (ignored (Reception (length bs)) n)) v (receiving bs)
      by true e = record {
        phase = ap Reception (sym longer);
        number = refl;
        write_fifo = set_padded c bs v (room (length bs) (size_of bs) c l e);
        read_fifo = refl;
        fits = (omega (arith, longer), omega (arith, longer, room (length bs) (size_of bs) c l e));
      }
      by false e = keeps (receiving bs) n v f

  -- a byte at the FIFO
  pub store_leaves : (b : Mailbox) (n v : ℕ) → Fits c b → Leaves (mail (after_byte c v b) n) (write_data_fifo (phase_of b) n (size_in b) (length_in b)) v b
  store_leaves idle n v f = keeps idle n v f
  store_leaves ready n v f = record { phase = refl; number = refl; write_fifo = set_padded c [] v (omega arith); read_fifo = refl; fits = (omega arith, omega arith) }
  store_leaves (receiving bs) n v f = storing_leaves bs n v _ _ (size_padded c bs) (length_padded c bs f.1) f
  store_leaves (executing bs) n v f = keeps (executing bs) n v f
  store_leaves (answering a k) n v f = keeps (answering a k) n v f
