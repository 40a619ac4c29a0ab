-- Whose command runs and whose answer is read, over lists of calls: what follows from the mailbox, in plain words. An answer reaches only the
-- locality that started its run. Run numbers start again at a power-on and after 2 ^ 32 runs: an answer to an older run whose number is in use again
-- is taken for the new run's. Assumes nothing.
use Rattle.std.specs.Prelude.{ℕ, ◌/◌, ◌%◌, ◌≤◌, ◌<◌, ◌≡◌, Bool, true, false, cond, not, ◌&&◌, ◌||◌, List, [], ◌∷◌, ◌++◌, ◌⊎◌, length, get_or, take, eqb, leb}
use Rattle.reg_layout.specs.Offsets.{within}
use Rattle.refusal.specs.Refusal.{accepted}
use Rattle.arbiter_model.specs.Model.{Model, held, write_event, step, fresh}
use Rattle.claims.specs.Calls.{Call, read, write, respond, window, State, nothing, byte, bytes, Answer, gives, called, refusal_of, left, after, StartsAccepted, OverLists}
use Rattle.claims.specs.Events.{Entry, powered_on, restarted, written, read_at, answered, none, entry_of, event_for, happens, model_after}
use Rattle.claims.specs.Mailbox.{Mailbox, idle, ready, receiving, executing, answering, Mail, mail, size_of, more_expected, bad_size_answer, is_command_ready, is_tpm_go, is_active, by_active, is_sts_command, is_fifo, aborts, mail_step, mail_after}

-- ---- two things more that a list of calls tells

-- may a command go: it is received, and no more is expected
abbrev pub may_go : ℕ → Mailbox → Bool
may_go c idle = false
may_go c ready = false
may_go c (receiving bs) = not (more_expected c bs)
may_go c (executing bs) = false
may_go c (answering a k) = false

-- an accepted write that is the active locality's 40h, its go that counts, or its byte for the FIFO
abbrev pub readies : Model → ℕ → ℕ → Bool
readies m o v = by_active m o && is_sts_command o && is_command_ready v

abbrev pub goes : ℕ → Model → Mailbox → ℕ → ℕ → Bool
goes c m b o v = by_active m o && is_sts_command o && (is_tpm_go v && may_go c b)

abbrev pub sends : Model → ℕ → Bool
sends m o = by_active m o && is_fifo o

pub record Trail : Type 0 where
  -- the bytes that the active locality wrote at its FIFO since its last 40h, or since it got the device: while a command is received or runs, since
  -- the 40h that left Idle, for in Ready no byte has come
  pub sent : List ℕ
  -- who wrote the last go that counted
  pub starter : ℕ

abbrev pub trail : List ℕ → ℕ → Trail
trail bs x = record { sent = bs; starter = x }

abbrev pub trail_written : ℕ → Model → Mailbox → Trail → ℕ → ℕ → Trail
trail_written c m b t o v =
    cond (aborts m (write_event o v)) (trail [] t.starter)
    (cond (readies m o v) (trail [] t.starter)
    (cond (goes c m b o v) (trail t.sent (o / 0x1000))
    (cond (sends m o) (trail (t.sent ++ (v ∷ [])) t.starter)
    t)))

abbrev pub trail_step : ℕ → Model → Mailbox → Trail → Entry → Trail
trail_step c m b t (powered_on established identity) = trail [] t.starter
trail_step c m b t restarted = trail [] t.starter
trail_step c m b t (written o v) = trail_written c m b t o v
trail_step c m b t (read_at o) = t
trail_step c m b t (answered a) = t
trail_step c m b t none = t

unfoldable pub trail_from : ℕ → Model → Mail → Trail → List (Call × Answer) → Trail
trail_from c m p t [] = t
trail_from c m p t (k ∷ ks) =
    let e : Entry = entry_of k.0 k.1.refusal in
    trail_from c (step m (event_for e)) (mail_step c m p e) (trail_step c m p.box t e) ks

abbrev pub trail_after : ℕ → List (Call × Answer) → Trail
trail_after c h = trail_from c fresh (mail idle 0) (trail [] 0) h

-- is there a command or an answer
abbrev pub has_mail : Mailbox → Bool
has_mail idle = false
has_mail ready = false
has_mail (receiving bs) = true
has_mail (executing bs) = true
has_mail (answering a k) = true

-- "0018..001A STS; 0024..0027 FIFO"
abbrev pub is_port : ℕ → Bool
is_port o = within 0x18 0x1a (o % 0x1000) || is_fifo o

-- ---- what ends a run before it is answered

-- 40h of the active locality, a release, a seizure, a start that counts, a reset or a power-on
abbrev pub ends_run : Model → Entry → Bool
ends_run m (powered_on established identity) = true
ends_run m restarted = true
ends_run m (written o v) = aborts m (write_event o v) || readies m o v
ends_run m (read_at o) = false
ends_run m (answered a) = false
ends_run m none = false

-- an answer that carries the number n and has 10 to c bytes
abbrev pub fits : ℕ → ℕ → ℕ → List ℕ → Bool
fits c n run a = eqb n run && (leb 10 (length a) && leb (length a) c)

-- a call that is no such answer
abbrev pub AnswersNot : ℕ → ℕ → Call → Type 0
AnswersNot c n k = (run : ℕ) (a : List ℕ) → k ≡ respond run a → fits c n run a ≡ false

-- calls that neither end the run n nor answer it, each handed what the last one left; m is the waiting book before them
unfoldable pub Undisturbed : ℕ → ℕ → Model → State → List Call → Type 0
Undisturbed c n m s [] = Unit {0}
Undisturbed c n m s (k ∷ ks) =
    (ends_run m (entry_of k (refusal_of k s)) ≡ false) × AnswersNot c n k × Undisturbed c n (step m (happens k s)) (left k s) ks

-- ---- the claim

-- what holds of the state s after calls whose waiting book is m, whose mailbox is p and whose trail is t, with FIFOs of c bytes
pub record Owned (c : ℕ) (m : Model) (p : Mail) (t : Trail) (s : State) : Type 0 where
  -- in Execution the window shows the bytes that the active locality wrote at its FIFO since the 40h that left Idle, in order, as many as it
  -- declared; later ones are ignored
  pub shows : (bs : List ℕ) → p.box ≡ executing bs → (called window s).answer ≡ record { refusal = 0; value = bytes (take (size_of t.sent) t.sent) }
  -- the locality whose command runs, or whose answer is there, is the one that wrote the go: an answer reaches only the locality that started its run
  pub runs : (bs : List ℕ) → p.box ≡ executing bs → m.active ≡ held t.starter
  pub has : (a : List ℕ) (k : ℕ) → p.box ≡ answering a k → m.active ≡ held t.starter
  -- and it has been active ever since: no call changes the active locality and leaves a command or an answer
  pub stays : (k : Call) → has_mail (mail_step c m p (entry_of k (refusal_of k s))).box ≡ true → (step m (happens k s)).active ≡ m.active
  -- an answer that is there was there before the call, or is the one that an accepted call of the engine brought, or is the 19h answer to the go that
  -- the active locality wrote
  pub comes : (k : Call) (a : List ℕ) (j : ℕ) → (mail_step c m p (entry_of k (refusal_of k s))).box ≡ answering a j
      → ((i : ℕ) × (p.box ≡ answering a i)) ⊎ ((run : ℕ) × (k ≡ respond run a) × (refusal_of k s ≡ accepted))
      ⊎ ((o v : ℕ) × (k ≡ write o v) × (goes c m p.box o v ≡ true) × (a ≡ bad_size_answer))
  -- an accepted answer is one to the run that is in Execution
  pub accepts : (run : ℕ) (a : List ℕ) → refusal_of (respond run a) s ≡ accepted → (bs : List ℕ) × (p.box ≡ executing bs) × (p.run ≡ run)
  -- a byte that the active locality reads from its FIFO, with bytes unread, is the next one of that answer, counted from the entry into
  -- Completion or from the last 02h
  pub reads : (o : ℕ) → o ≤ 0x4fff → is_fifo o ≡ true → is_active m.active (o / 0x1000) ≡ true → (a : List ℕ) (k : ℕ) → p.box ≡ answering a k → k < length a
      → (called (read o) s).answer ≡ record { refusal = 0; value = byte (get_or a k 0) }
  -- any other locality reads FFh at STS and FIFO, and its writes there leave no trace
  pub others : (o : ℕ) → o ≤ 0x4fff → is_port o ≡ true → is_active m.active (o / 0x1000) ≡ false → called (read o) s ≡ gives 0 (byte 0xff) s
  pub traceless : (o v : ℕ) → o ≤ 0x4fff → is_port o ≡ true → is_active m.active (o / 0x1000) ≡ false → called (write o v) s ≡ gives 0 nothing s
  -- a run is answered by the first answer that carries its number and has 10 to C bytes, unless something ended it before
  pub answered : (bs : List ℕ) → p.box ≡ executing bs → (cs : List Call) → Undisturbed c p.run m s cs → (a : List ℕ) → 10 ≤ length a → length a ≤ c
      → refusal_of (respond p.run a) (after s cs) ≡ accepted

abbrev pub OwnedAfter : State → List (Call × Answer) → State → Type 0
OwnedAfter s₀ h s =
    let c : ℕ = length s₀.write_fifo in
    StartsAccepted h → Owned c (model_after h) (mail_after c h) (trail_after c h) s

-- after every list of calls that starts with an accepted power-on; `Progress` says when one is
abbrev pub OwnedClaim : Type 0
OwnedClaim = OverLists OwnedAfter
