-- What the trail of a list of calls has to do with the mailbox: the command's bytes are those that were sent, and who runs a command or has its
-- answer wrote its go. Assumes nothing.
use mathlib.Core.Path.{◌≡◌, refl, sym, ap, ◌∙◌}
use mathlib.Core.Bool.{Bool, true, false, cond, not, ◌&&◌, ◌||◌, true≢false}
use mathlib.Core.List.{List, [], ◌∷◌, ◌++◌}
use Prim.Native.Nat.{ℕ, ◌+◌, ◌/◌, ◌%◌, ◌^◌, ◌≤◌, ◌<◌}
use Rattle.std.specs.Prelude.{Option}
use native.Mathlib.Omega.{arith}
use lib.ListN.{length, take, length-append}
use lib.Seq.{take-length, take-append-le, get_or-take}
use lib.Dec.{eqb, leb, ltb}
use borrow.Author.Tests.{eqb-true, ltb-true, ltb-false}
use Rattle.arbiter_model.specs.Model.{Model, Holder, free, held, Event, restart, hash_start, hash_end, access, nothing, AccessBit, request_use, active_locality, seize, been_seized, withdraw, wait, access_step, write_event, ignores_page, step}
use Rattle.arbiter_model.specs.Waits.{relinquishes}
use Rattle.claims.specs.Launch.{start_counts}
use Rattle.claims.specs.Mailbox.{Mailbox, idle, ready, receiving, executing, answering, Mail, mail, size_of, more_expected, bad_size_answer, after_command_ready, after_tpm_go, after_retry, is_command_ready, is_tpm_go, after_sts, after_byte, after_fetch, is_active, by_active, is_sts_command, is_fifo, seizes, aborts, mail_written}
use Rattle.reg_sts_write.specs.declared.sts.StsCommand.{StsCommand}
use Rattle.claims.proofs.Orders as orders
use Rattle.claims.proofs.Orders.{Fits, whole, StsCase, sts_case}
use Rattle.bits.proofs.TestLaws.{both_true, neither}
use Rattle.claims.specs.Answers.{may_go, readies, Trail, trail, trail_written}

-- ---- who is active stays so, unless the command is aborted

access_stays : (m : Model) (a : AccessBit) (x y : ℕ) → m.active ≡ held y → relinquishes a (held y) x ≡ false → seizes a (held y) x ≡ false → (access_step a (held y) x m).active ≡ held y
access_stays m request_use x y q e f = by (eqb y x)
  where
    by : (t : Bool) → (cond t m (wait x m)).active ≡ held y
    by true = q
    by false = q
access_stays m active_locality x y q e f = rw e (by (m.waiting x))
  where
    by : (t : Bool) → (cond t (withdraw x m) m).active ≡ held y
    by true = q
    by false = q
access_stays m seize x y q e f = rw f q
access_stays m been_seized x y q e f = q

pub stays_active : (m : Model) (e : Event) (y : ℕ) → aborts m e ≡ false → m.active ≡ held y → (step m e).active ≡ held y
stays_active m restart y f q = absurd (true≢false f)
stays_active m hash_start y f q = rw (q, ap start_counts (sym q) ∙ f) refl
stays_active m hash_end y f q = rw f q
stays_active m (access x a) y f q = by (ignores_page m x) refl (neither _ _ f)
  where
    by : (t : Bool) → ignores_page m x ≡ t → (cond (ignores_page m x) false (relinquishes a m.active x) ≡ false) × ((not (ignores_page m x) && seizes a m.active x) ≡ false)
        → (cond (ignores_page m x) m (access_step a m.active x m)).active ≡ held y
    by true i k = rw i q
    by false i k =
        let n : Model = record { active = held y; waiting = m.waiting; sequence = m.sequence } in
        rw (i, q) (access_stays n a x y refl (rw (i, q) at k.0) (rw (i, q) at k.1))
stays_active m nothing y f q = q

-- ---- the bytes

-- a command's size is in its first six bytes
size_take : (n : ℕ) (bs : List ℕ) → 6 ≤ n → size_of (take n bs) ≡ size_of bs
size_take n bs l = rw (get_or-take n bs 2 0 (omega arith), get_or-take n bs 3 0 (omega arith), get_or-take n bs 4 0 (omega arith), get_or-take n bs 5 0 (omega arith)) refl

size_snoc : (bs : List ℕ) (v : ℕ) → 6 ≤ length bs → size_of (bs ++ (v ∷ [])) ≡ size_of bs
size_snoc bs v l =
    let e : size_of (take (length bs) (bs ++ (v ∷ []))) ≡ size_of (bs ++ (v ∷ [])) = size_take (length bs) (bs ++ (v ∷ [])) l in
    sym e ∙ ap size_of (take-append-le (length bs) bs (v ∷ []) (omega arith) ∙ take-length bs)

length_snoc : (bs : List ℕ) (v : ℕ) → length (bs ++ (v ∷ [])) ≡ length bs + 1
length_snoc bs v = simp length-append (omega arith)

-- the bytes that are received, of those that were sent
pub record Received (c : ℕ) (bs sent : List ℕ) : Type 0 where
  pub front : bs ≡ take (length bs) sent
  pub within : length bs ≤ length sent
  pub all : more_expected c bs ≡ true → sent ≡ bs
  pub sized : 6 < length bs → length bs ≤ size_of bs

-- a command that runs: as many bytes as it declares
pub record Taken (bs sent : List ℕ) : Type 0 where
  pub command : bs ≡ take (size_of sent) sent
  pub size : size_of sent ≡ length bs
  pub within : length bs ≤ length sent
  pub least : 10 ≤ length bs

first_byte : (c v : ℕ) → Received c (v ∷ []) (v ∷ [])
first_byte c v = record { front = refl; within = omega arith; all = λ e. refl; sized = λ l. absurd (omega arith) }

-- one more is sent, and taken
next_byte : (c : ℕ) (bs sent : List ℕ) (v : ℕ) → more_expected c bs ≡ true → Received c bs sent → Received c (bs ++ (v ∷ [])) (sent ++ (v ∷ []))
next_byte c bs sent v e r =
    rw (r.all e)
    (record { front = sym (take-length (bs ++ (v ∷ []))); within = omega arith; all = λ z. refl; sized = λ l. sized (ltb (length bs) 6) refl e l })
  where
    sized : (t : Bool) → ltb (length bs) 6 ≡ t → (ltb (length bs) 6 || ltb (length bs) (size_of bs) && ltb (length bs) c) ≡ true → 6 < length (bs ++ (v ∷ []))
        → length (bs ++ (v ∷ [])) ≤ size_of (bs ++ (v ∷ []))
    sized true i k l = absurd (omega (arith, length_snoc bs v, ltb-true (length bs) 6 i))
    sized false i k l =
        let j : length bs < size_of bs = ltb-true (length bs) (size_of bs) (both_true (ltb (length bs) (size_of bs)) (ltb (length bs) c) (rw i at k)).0 in
        omega (arith, length_snoc bs v, size_snoc bs v (ltb-false (length bs) 6 i))

-- one more is sent, and ignored
late_byte : (c : ℕ) (bs sent : List ℕ) (v : ℕ) → more_expected c bs ≡ false → Received c bs sent → Received c bs (sent ++ (v ∷ []))
late_byte c bs sent v e r = record {
  front = r.front ∙ sym (take-append-le (length bs) sent (v ∷ []) r.within);
  within = omega (arith, length_snoc sent v, r.within);
  all = λ z. absurd (true≢false (sym z ∙ e));
  sized = r.sized;
}

-- a command that goes has just its declared size: bytes are taken up to it, and no fewer may go
taken : (c : ℕ) (bs sent : List ℕ) → Received c bs sent → (10 ≤ size_of bs) × (size_of bs ≤ length bs) → Taken bs sent
taken c bs sent r w =
    let least : 10 ≤ length bs = omega (arith, w.0, w.1) in
    let same : size_of sent ≡ size_of bs = sym (ap size_of r.front ∙ size_take (length bs) sent (omega arith)) in
    let all : size_of bs ≡ length bs = omega (arith, w.1, r.sized (omega arith)) in
    record { command = r.front ∙ ap (λ (n : ℕ). take n sent) (sym (same ∙ all)); size = same ∙ all; within = r.within; least = least }

late_taken : (bs sent : List ℕ) (v : ℕ) → Taken bs sent → Taken bs (sent ++ (v ∷ []))
late_taken bs sent v k =
    let e : size_of (sent ++ (v ∷ [])) ≡ size_of sent = size_snoc sent v (omega (arith, k.least, k.within)) in
    record {
      command = k.command ∙ sym (ap (λ (n : ℕ). take n (sent ++ (v ∷ []))) e ∙ take-append-le (size_of sent) sent (v ∷ []) (omega (arith, k.size, k.within)));
      size = e ∙ k.size;
      within = omega (arith, length_snoc sent v, k.within);
      least = k.least;
    }

-- ---- what is known of the mailbox

abbrev pub Told : ℕ → Model → Mailbox → Trail → Type 0
Told c m idle t = Unit {0}
Told c m ready t = t.sent ≡ []
Told c m (receiving bs) t = Received c bs t.sent
Told c m (executing bs) t = Taken bs t.sent × (m.active ≡ held t.starter)
Told c m (answering a k) t = m.active ≡ held t.starter

-- where who is active stays so
still : (c : ℕ) (m m' : Model) (b : Mailbox) (t : Trail) → ((y : ℕ) → m.active ≡ held y → m'.active ≡ held y) → Told c m b t → Told c m' b t
still c m m' idle t f k = k
still c m m' ready t f k = k
still c m m' (receiving bs) t f k = k
still c m m' (executing bs) t f k = (k.0, f t.starter k.1)
still c m m' (answering a j) t f k = f t.starter k

pub still_fetched : (c : ℕ) (m : Model) (b : Mailbox) (t : Trail) → Told c m b t → Told c m (after_fetch b) t
still_fetched c m idle t k = k
still_fetched c m ready t k = k
still_fetched c m (receiving bs) t k = k
still_fetched c m (executing bs) t k = k
still_fetched c m (answering a j) t k = by (ltb j (length a))
  where
    by : (u : Bool) → Told c m (cond u (answering a (j + 1)) (answering a j)) t
    by true = k
    by false = k

-- ---- a write

active_then : (h : Holder) (x : ℕ) → is_active h x ≡ true → h ≡ held x
active_then free x e = absurd (true≢false (sym e))
active_then (held y) x e = ap held (eqb-true y x e)

sts_apart : (o : ℕ) → is_sts_command o ≡ true → is_fifo o ≡ false
sts_apart o e = let i : o % 0x1000 ≡ 0x18 = eqb-true (o % 0x1000) 0x18 e in rw i refl

module _ (c : ℕ) (m m' : Model) (q : Mail) (t : Trail) (f : Fits c q.box) (stays : (y : ℕ) → m.active ≡ held y → m'.active ≡ held y) (k : Told c m q.box t) where
  ready_told : (b : Mailbox) → Told c m' (after_command_ready b) (trail [] t.starter)
  ready_told idle = refl
  ready_told ready = refl
  ready_told (receiving bs) = tt
  ready_told (executing bs) = tt
  ready_told (answering a j) = tt

  -- a go at page x, which is active
  go_told : (x : ℕ) → m.active ≡ held x → (b : Mailbox) → Fits c b → Told c m b t → Told c m' (after_tpm_go c b q.run).box (cond (may_go c b) (trail t.sent x) t)
  go_told x i idle g k = k
  go_told x i ready g k = k
  go_told x i (receiving bs) g k = by (more_expected c bs) refl (leb 10 (size_of bs) && leb (size_of bs) c) refl
    where
      by : (u : Bool) → more_expected c bs ≡ u → (w : Bool) → (leb 10 (size_of bs) && leb (size_of bs) c) ≡ w
          → Told c m' (cond u (mail (receiving bs) q.run) (cond w (mail (executing bs) ((q.run + 1) % 2 ^ 32)) (mail (answering bad_size_answer 0) q.run))).box (cond (not u) (trail t.sent x) t)
      by true e w j = k
      by false e true j = (taken c bs t.sent k (whole (length bs) (size_of bs) c e j), stays x i)
      by false e false j = stays x i
  go_told x i (executing bs) g k = still c m m' (executing bs) t stays k
  go_told x i (answering a j) g k = still c m m' (answering a j) t stays k

  retry_told : (b : Mailbox) → Told c m b t → Told c m' (after_retry b) t
  retry_told idle k = k
  retry_told ready k = k
  retry_told (receiving bs) k = k
  retry_told (executing bs) k = still c m m' (executing bs) t stays k
  retry_told (answering a j) k = stays t.starter k

  store_told : (v : ℕ) (b : Mailbox) → Told c m b t → Told c m' (after_byte c v b) (trail (t.sent ++ (v ∷ [])) t.starter)
  store_told v idle k = tt
  store_told v ready k = rw k (first_byte c v)
  store_told v (receiving bs) k = by (more_expected c bs) refl
    where
      by : (u : Bool) → more_expected c bs ≡ u → Told c m' (cond u (receiving (bs ++ (v ∷ []))) (receiving bs)) (trail (t.sent ++ (v ∷ [])) t.starter)
      by true e = next_byte c bs t.sent v e k
      by false e = late_byte c bs t.sent v e k
  store_told v (executing bs) k = (late_taken bs t.sent v k.0, stays t.starter k.1)
  store_told v (answering a j) k = stays t.starter k

  -- a byte v at STS of page x, which is active
  order_told : (x v : ℕ) → m.active ≡ held x
      → Told c m' (after_sts c v q).box (cond (is_command_ready v) (trail [] t.starter) (cond (is_tpm_go v && may_go c q.box) (trail t.sent x) t))
  order_told x v i = by (sts_case v)
    where
      by : {r g u : Bool} {k : Option StsCommand} → StsCase r g u k
          → Told c m' (cond r (mail (after_command_ready q.box) q.run) (cond g (after_tpm_go c q.box q.run) (cond u (mail (after_retry q.box) q.run) q))).box
          (cond r (trail [] t.starter) (cond (g && may_go c q.box) (trail t.sent x) t))
      by orders.readies = ready_told q.box
      by orders.goes = go_told x i q.box f k
      by orders.retries = retry_told q.box k
      by orders.nothing = still c m m' q.box t stays k

pub written_told : (c : ℕ) (m : Model) (q : Mail) (t : Trail) (o v : ℕ) → Fits c q.box → Told c m q.box t
    → Told c (step m (write_event o v)) (mail_written c m q o v).box (trail_written c m q.box t o v)
written_told c m q t o v f k = by (aborts m (write_event o v)) refl (by_active m o) refl (is_sts_command o) refl (is_fifo o) refl
  where
    m' : Model
    m' = step m (write_event o v)

    page : by_active m o ≡ true → m.active ≡ held (o / 0x1000)
    page e = active_then m.active (o / 0x1000) (both_true (is_active m.active (o / 0x1000)) (not (ignores_page m (o / 0x1000))) e).0

    by : (a : Bool) → aborts m (write_event o v) ≡ a → (b : Bool) → by_active m o ≡ b → (s : Bool) → is_sts_command o ≡ s → (z : Bool) → is_fifo o ≡ z
        → Told c m' (cond a (mail idle q.run) (cond (b && s) (after_sts c v q) (cond (b && z) (mail (after_byte c v q.box) q.run) q))).box
        (cond a (trail [] t.starter) (cond (b && s && is_command_ready v) (trail [] t.starter) (cond (b && s && (is_tpm_go v && may_go c q.box)) (trail t.sent (o / 0x1000))
        (cond (b && z) (trail (t.sent ++ (v ∷ [])) t.starter) t))))
    by true i b j s e z g = tt
    by false i true j true e true g = absurd (true≢false (sym g ∙ sts_apart o e))
    by false i true j true e false g = order_told c m m' q t f (λ y. stays_active m (write_event o v) y i) k (o / 0x1000) v (page j)
    by false i true j false e true g = store_told c m m' q t f (λ y. stays_active m (write_event o v) y i) k v q.box k
    by false i true j false e false g = still c m m' q.box t (λ y. stays_active m (write_event o v) y i) k
    by false i false j s e z g = still c m m' q.box t (λ y. stays_active m (write_event o v) y i) k

-- a run goes on: nothing aborts it, and no 40h comes
pub goes_on : (c : ℕ) (m : Model) (bs : List ℕ) (n o v : ℕ) → (aborts m (write_event o v) || readies m o v) ≡ false
    → mail_written c m (mail (executing bs) n) o v ≡ mail (executing bs) n
goes_on c m bs n o v e = by (by_active m o && is_sts_command o) refl (by_active m o && is_fifo o)
  where
    q : Mail
    q = mail (executing bs) n

    k : (aborts m (write_event o v) ≡ false) × (readies m o v ≡ false)
    k = neither (aborts m (write_event o v)) (readies m o v) e

    bits : is_command_ready v ≡ false → after_sts c v q ≡ q
    bits r = on (sts_case v) r
      where
        on : {r g u : Bool} {k : Option StsCommand} → StsCase r g u k → r ≡ false
            → cond r (mail (after_command_ready (executing bs)) n) (cond g (after_tpm_go c (executing bs) n) (cond u (mail (after_retry (executing bs)) n) q)) ≡ q
        on orders.readies e = absurd (true≢false e)
        on orders.goes e = refl
        on orders.retries e = refl
        on orders.nothing e = refl

    by : (s : Bool) → (by_active m o && is_sts_command o) ≡ s → (z : Bool) → cond (aborts m (write_event o v)) (mail idle n) (cond s (after_sts c v q) (cond z (mail (after_byte c v (executing bs)) n) q)) ≡ q
    by true i z = rw k.0 (bits (rw i at k.1))
    by false i true = rw k.0 refl
    by false i false = rw k.0 refl
