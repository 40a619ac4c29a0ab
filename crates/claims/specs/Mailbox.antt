-- Commands and their answers over lists of calls (document 01, 'Commands'): a second book, 'mailbox' being our own word, kept from the FIFOs'
-- length C, the calls, their refusal numbers and the waiting book alone, with no FIFO, no stored count and no record. Its numerals are the
-- paper's. Assumes nothing.
use Rattle.std.specs.Prelude.{ℕ, ◌+◌, ◌-◌, ◌*◌, ◌/◌, ◌%◌, ◌^◌, ◌≡◌, Bool, true, false, cond, not, ◌&&◌, ◌||◌, List, [], ◌∷◌, ◌++◌, length, get_or, replicate, eqb, leb, ltb}
use Rattle.bits.specs.Bits.{bit, is_set}
use Rattle.reg_layout.specs.Offsets.{within}
use Rattle.record.specs.declared.Phase.{Phase}
use Rattle.record.specs.declared.Phase.TheVariants.{Idle, Ready, Reception, Execution, Completion}
use Rattle.arbiter_model.specs.Model.{Model, Holder, free, held, Event, restart, hash_start, hash_end, access, nothing, AccessBit, request_use, active_locality, seize, been_seized, write_event, ignores_page, step, fresh}
use Rattle.arbiter_model.specs.Waits.{hands_over}
use Rattle.claims.specs.Calls.{Call, State, Answer, StartsAccepted, OverLists}
use Rattle.claims.specs.Events.{Entry, powered_on, restarted, written, read_at, answered, none, entry_of, event_for}
use Rattle.claims.specs.Launch.{start_counts}

-- ---- what it holds

pub data Mailbox : Type 0 where
  idle : Mailbox
  ready : Mailbox
  -- the command's bytes so far
  receiving : List ℕ → Mailbox
  -- the command's bytes
  executing : List ℕ → Mailbox
  -- the answer's bytes, and how many of them are read
  answering : List ℕ → ℕ → Mailbox

-- "the run number grows by one" beside it
pub record Mail : Type 0 where
  pub box : Mailbox
  pub run : ℕ

abbrev pub mail : Mailbox → ℕ → Mail
mail b n = record { box = b; run = n }

-- ---- what a write orders; c is C

-- "the declared size (bytes 2..5, high byte first)"
abbrev pub size_of : List ℕ → ℕ
size_of bs = get_or bs 2 0 * 2 ^ 24 + get_or bs 3 0 * 2 ^ 16 + get_or bs 4 0 * 2 ^ 8 + get_or bs 5 0

-- "while fewer than 6 bytes came, or fewer than both the declared size .. and C"
abbrev pub more_expected : ℕ → List ℕ → Bool
more_expected c bs = ltb (length bs) 6 || ltb (length bs) (size_of bs) && ltb (length bs) c

-- "40h: Idle goes to Ready ..; Ready stays; Reception, Execution and Completion go to Idle"
abbrev pub after_command_ready : Mailbox → Mailbox
after_command_ready idle = ready
after_command_ready ready = ready
after_command_ready (receiving bs) = idle
after_command_ready (executing bs) = idle
after_command_ready (answering a k) = idle

-- "00 C4 00 00 00 0A 00 00 00 19"
abbrev pub bad_size_answer : List ℕ
bad_size_answer = 0x00 ∷ 0xc4 ∷ 0x00 ∷ 0x00 ∷ 0x00 ∷ 0x0a ∷ 0x00 ∷ 0x00 ∷ 0x00 ∷ 0x19 ∷ []

-- "20h: in Reception with no more expected. If the declared size is at least 10 and at most C, Execution, and the run number grows by one,
-- 4,294,967,295 being followed by 0. Else Completion with 00 C4 .. Elsewhere ignored."
abbrev pub go_ahead : ℕ → List ℕ → ℕ → Mail
go_ahead c bs n =
    cond (more_expected c bs) (mail (receiving bs) n)
    (cond (leb 10 (size_of bs) && leb (size_of bs) c) (mail (executing bs) ((n + 1) % 2 ^ 32)) (mail (answering bad_size_answer 0) n))

abbrev pub after_tpm_go : ℕ → Mailbox → ℕ → Mail
after_tpm_go c idle n = mail idle n
after_tpm_go c ready n = mail ready n
after_tpm_go c (receiving bs) n = go_ahead c bs n
after_tpm_go c (executing bs) n = mail (executing bs) n
after_tpm_go c (answering a k) n = mail (answering a k) n

-- "02h: in Completion, reading starts over. Elsewhere ignored."
abbrev pub after_retry : Mailbox → Mailbox
after_retry idle = idle
after_retry ready = ready
after_retry (receiving bs) = receiving bs
after_retry (executing bs) = executing bs
after_retry (answering a k) = answering a 0

-- a byte v at 0018: "with exactly one of these bits set, others not counted"
abbrev pub one_counts : ℕ → Bool
one_counts v = eqb (bit 6 v + bit 5 v + bit 1 v) 1

abbrev pub is_command_ready : ℕ → Bool
is_command_ready v = one_counts v && is_set 6 v

abbrev pub is_tpm_go : ℕ → Bool
is_tpm_go v = one_counts v && is_set 5 v

abbrev pub is_response_retry : ℕ → Bool
is_response_retry v = one_counts v && is_set 1 v

-- the same of the active locality's page
abbrev pub after_sts : ℕ → ℕ → Mail → Mail
after_sts c v p =
    cond (is_command_ready v) (mail (after_command_ready p.box) p.run)
    (cond (is_tpm_go v) (after_tpm_go c p.box p.run)
    (cond (is_response_retry v) (mail (after_retry p.box) p.run)
    p))

-- "A FIFO write in Ready or in Reception with more expected stores the byte; else it is ignored."
abbrev pub after_byte : ℕ → ℕ → Mailbox → Mailbox
after_byte c v idle = idle
after_byte c v ready = receiving (v ∷ [])
after_byte c v (receiving bs) = cond (more_expected c bs) (receiving (bs ++ (v ∷ []))) (receiving bs)
after_byte c v (executing bs) = executing bs
after_byte c v (answering a k) = answering a k

-- "A FIFO read gives the next unread byte in Completion"
abbrev pub after_fetch : Mailbox → Mailbox
after_fetch idle = idle
after_fetch ready = ready
after_fetch (receiving bs) = receiving bs
after_fetch (executing bs) = executing bs
after_fetch (answering a k) = cond (ltb k (length a)) (answering a (k + 1)) (answering a k)

-- ---- what a call does to it; m is the waiting book before the call

-- is x the active locality
abbrev pub is_active : Holder → ℕ → Bool
is_active free x = false
is_active (held y) x = eqb y x

-- is a cycle at the offset one of the active locality, in a page that takes writes
abbrev pub by_active : Model → ℕ → Bool
by_active m o = is_active m.active (o / 0x1000) && not (ignores_page m (o / 0x1000))

-- "0018..001A STS; 0024..0027 FIFO"; "STS writes act at 0018 only"
abbrev pub is_sts_command : ℕ → Bool
is_sts_command o = eqb (o % 0x1000) 0x18

abbrev pub is_fifo : ℕ → Bool
is_fifo o = within 0x24 0x27 (o % 0x1000)

-- does a write to ACCESS of page x take the device from who has it: "active y below x"
abbrev pub seizes : AccessBit → Holder → ℕ → Bool
seizes request_use h x = false
seizes active_locality h x = false
seizes seize free x = false
seizes seize (held y) x = ltb y x
seizes been_seized h x = false

-- the events after which both FIFOs are emptied and the phase is Idle: power-on and reset, a start that counts, a handover, a seizure
abbrev pub aborts : Model → Event → Bool
aborts m restart = true
aborts m hash_start = start_counts m.active
aborts m hash_end = hands_over m hash_end
aborts m (access x a) = hands_over m (access x a) || not (ignores_page m x) && seizes a m.active x
aborts m nothing = false

abbrev pub mail_written : ℕ → Model → Mail → ℕ → ℕ → Mail
mail_written c m p o v =
    cond (aborts m (write_event o v)) (mail idle p.run)
    (cond (by_active m o && is_sts_command o) (after_sts c v p)
    (cond (by_active m o && is_fifo o) (mail (after_byte c v p.box) p.run)
    p))

-- "run number 0" at a power-on; reset "keeps the established flag, identity and run number"
abbrev pub mail_step : ℕ → Model → Mail → Entry → Mail
mail_step c m p (powered_on established identity) = mail idle 0
mail_step c m p restarted = mail idle p.run
mail_step c m p (written o v) = mail_written c m p o v
mail_step c m p (read_at o) = cond (is_active m.active (o / 0x1000) && is_fifo o) (mail (after_fetch p.box) p.run) p
mail_step c m p (answered a) = mail (answering a 0) p.run
mail_step c m p none = p

unfoldable pub mail_from : ℕ → Model → Mail → List (Call × Answer) → Mail
mail_from c m p [] = p
mail_from c m p (k ∷ ks) =
    let e : Entry = entry_of k.0 k.1.refusal in
    mail_from c (step m (event_for e)) (mail_step c m p e) ks

-- after a list of calls
abbrev pub mail_after : ℕ → List (Call × Answer) → Mail
mail_after c h = mail_from c fresh (mail idle 0) h

-- ---- the claim: record and FIFOs are the mailbox's

abbrev pub phase_of : Mailbox → Phase
phase_of idle = Idle
phase_of ready = Ready
phase_of (receiving bs) = Reception (length bs)
phase_of (executing bs) = Execution (length bs)
phase_of (answering a k) = Completion (length a) k

abbrev pub command_of : Mailbox → List ℕ
command_of idle = []
command_of ready = []
command_of (receiving bs) = bs
command_of (executing bs) = bs
command_of (answering a k) = []

abbrev pub answer_of : Mailbox → List ℕ
answer_of idle = []
answer_of ready = []
answer_of (receiving bs) = []
answer_of (executing bs) = []
answer_of (answering a k) = a

-- c bytes: those given, and 00h after them
abbrev pub padded : ℕ → List ℕ → List ℕ
padded c bs = bs ++ replicate (c - length bs) 0

pub record Mailed (c : ℕ) (p : Mail) (s : State) : Type 0 where
  pub phase : s.device.phase ≡ phase_of p.box
  pub run : s.device.control.run ≡ p.run
  pub write_fifo : s.write_fifo ≡ padded c (command_of p.box)
  pub read_fifo : s.read_fifo ≡ padded c (answer_of p.box)

abbrev pub MailedAfter : State → List (Call × Answer) → State → Type 0
MailedAfter s₀ h s = StartsAccepted h → Mailed (length s₀.write_fifo) (mail_after (length s₀.write_fifo) h) s

-- after every list of calls that starts with an accepted power-on; `Progress` says when one is
abbrev pub MailboxClaim : Type 0
MailboxClaim = OverLists MailedAfter
