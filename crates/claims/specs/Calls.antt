-- The public calls, what each of them answers and what it leaves, and lists of them, each handed what the last one left. Assumes nothing.
use Rattle.std.specs.Prelude.{ℕ, ◌-◌, ◌≡◌, Bool, true, false, cond, List, [], ◌∷◌, take, drop}
use Rattle.refusal.specs.Refusal.{accepted, number_of}
use Rattle.pcr.specs.Permission as table
use Rattle.pcr.specs.Permission.{permission}
use Rattle.record.specs.declared.Device.{Device}
use Rattle.call_admission.specs.Refusals.{lent_refusal_of}
use Rattle.call_outcome.specs.Result.{Result}
use Rattle.call_outcome.specs.declared.ReadOutcome.{ReadOutcome}
use Rattle.call_power.specs.Power as power
use Rattle.call_bus.specs.Bus as bus
use Rattle.call_respond.specs.Respond as engine
use Rattle.call_query.specs.Query as query
use Rattle.call_query.specs.declared.PcrOutcome.{PcrOutcome}
use Rattle.call_query.specs.Query.{Span}
use Rattle.pcr.specs.declared.Permission.{Permission}

-- ---- a call

-- which call it is, and its arguments other than the record and the FIFOs
pub data Call : Type 0 where
  -- established flag, identity bytes
  power_on : Bool → List ℕ → Call
  reset : Call
  -- offset
  read : ℕ → Call
  -- offset, byte
  write : ℕ → ℕ → Call
  -- run number, the engine's answer
  respond : ℕ → List ℕ → Call
  -- the questions: PCR; none; PCR and locality, twice; none
  pcr_value : ℕ → Call
  interrupt_line : Call
  may_reset : ℕ → ℕ → Call
  may_extend : ℕ → ℕ → Call
  window : Call

-- the record and both FIFOs, of any lengths
pub record State : Type 0 where
  pub device : Device
  pub write_fifo : List ℕ
  pub read_fifo : List ℕ

abbrev pub state : Device → List ℕ → List ℕ → State
state d w r = record { device = d; write_fifo = w; read_fifo = r }

-- what a call gives besides its refusal number and the record
pub data Value : Type 0 where
  nothing : Value
  -- a read's
  byte : ℕ → Value
  -- a PCR's twenty, or the part of a FIFO that the window shows
  bytes : List ℕ → Value
  -- the interrupt line's level, or a permission
  flag : Bool → Value

pub record Answer : Type 0 where
  pub refusal : ℕ
  pub value : Value

-- a call's answer, and what it leaves
pub record Called : Type 0 where
  pub answer : Answer
  pub left : State

abbrev pub gives : ℕ → Value → State → Called
gives n v s = record { answer = record { refusal = n; value = v }; left = s }

abbrev pub changes : Result → Called
changes t = gives (number_of t.refusal) nothing (state t.device t.write_fifo t.read_fifo)

-- a read leaves the FIFOs
abbrev pub reads : ReadOutcome → State → Called
reads t s = gives (number_of t.refusal) (byte t.byte) (state t.device s.write_fifo s.read_fifo)

-- "A question leaves the record and the FIFOs as it got them."
abbrev pub asks_pcr : PcrOutcome → State → Called
asks_pcr t s = gives (number_of t.refusal) (bytes t.value) s

abbrev pub asks_permission : Permission → State → Called
asks_permission t s = gives (number_of t.refusal) (flag t.allowed) s

-- the bytes of a FIFO that a span names
abbrev pub shown_by : Span → List ℕ → List ℕ → List ℕ
shown_by span w r = take (span.stop - span.start) (drop span.start (cond span.reading r w))

abbrev pub called : Call → State → Called
called (power_on established identity) s = changes (power.power_on established identity s.write_fifo s.read_fifo)
called reset s = changes (power.reset s.device s.write_fifo s.read_fifo)
called (read o) s = reads (bus.read s.device s.write_fifo s.read_fifo o) s
called (write o v) s = changes (bus.write s.device s.write_fifo s.read_fifo o v)
called (respond run a) s = changes (engine.respond s.device s.write_fifo s.read_fifo run a)
called (pcr_value i) s = asks_pcr (query.pcr_value s.device i) s
called interrupt_line s = gives accepted (flag (query.interrupt_line s.device)) s
called (may_reset i x) s = asks_permission (permission table.may_reset i x) s
called (may_extend i x) s = asks_permission (permission table.may_extend i x) s
called window s =
    gives (number_of (lent_refusal_of s.device s.write_fifo s.read_fifo))
    (bytes (shown_by (query.window_span s.device s.write_fifo s.read_fifo) s.write_fifo s.read_fifo))
    s

-- "Power-on knows only 2", and gives the fresh record even when refused: claims that set it apart name it by this
abbrev pub is_power_on : Call → Bool
is_power_on (power_on established identity) = true
is_power_on reset = false
is_power_on (read o) = false
is_power_on (write o v) = false
is_power_on (respond run a) = false
is_power_on (pcr_value i) = false
is_power_on interrupt_line = false
is_power_on (may_reset i x) = false
is_power_on (may_extend i x) = false
is_power_on window = false

abbrev pub refusal_of : Call → State → ℕ
refusal_of c s = (called c s).answer.refusal

abbrev pub left : Call → State → State
left c s = (called c s).left

-- ---- a list of calls, each handed what the last one left

-- what it leaves
unfoldable pub after : State → List Call → State
after s [] = s
after s (c ∷ cs) = after (left c s) cs

-- the calls with their answers; a book is kept from the calls and the answers' refusal numbers
unfoldable pub heard : State → List Call → List (Call × Answer)
heard s [] = []
heard s (c ∷ cs) = (c, (called c s).answer) ∷ heard (left c s) cs

-- a claim over every list that starts with a power-on, accepted or refused, with FIFOs of any lengths: of what the first call was handed, of
-- what is heard and of what is left
abbrev pub OverLists : (State → List (Call × Answer) → State → Type 0) → Type 0
OverLists P = (s : State) (established : Bool) (identity : List ℕ) (cs : List Call)
    → P s (heard s (power_on established identity ∷ cs)) (after s (power_on established identity ∷ cs))

-- ---- a list of calls, each lent FIFOs of its own: the host may lend others, of other lengths, at any call

pub record Lent : Type 0 where
  pub call : Call
  pub write_fifo : List ℕ
  pub read_fifo : List ℕ

-- what such a call is handed, and the record that it leaves
abbrev pub handed : Lent → Device → State
handed k d = state d k.write_fifo k.read_fifo

abbrev pub lent_left : Lent → Device → Device
lent_left k d = (left k.call (handed k d)).device

unfoldable pub lent_after : Device → List Lent → Device
lent_after d [] = d
lent_after d (k ∷ ks) = lent_after (lent_left k d) ks

unfoldable pub lent_heard : Device → List Lent → List (Call × Answer)
lent_heard d [] = []
lent_heard d (k ∷ ks) = (k.call, (called k.call (handed k d)).answer) ∷ lent_heard (lent_left k d) ks

-- a claim after each call of every such list that starts with a power-on, accepted or refused: of what is heard up to there, and of the record
abbrev pub OverLent : (List (Call × Answer) → Device → Type 0) → Type 0
OverLent P = (d : Device) (first : Lent) → is_power_on first.call ≡ true → (ks : List Lent) (n : ℕ) → P (lent_heard d (first ∷ take n ks)) (lent_after d (first ∷ take n ks))

-- ---- the first call was accepted

abbrev pub StartsAccepted : List (Call × Answer) → Type 0
StartsAccepted [] = ⊥
StartsAccepted (c ∷ cs) = c.1.refusal ≡ accepted
