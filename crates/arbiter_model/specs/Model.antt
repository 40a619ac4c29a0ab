-- Document 01's 'waiting book': who is active, who waits and whether a hash sequence is open, kept from events alone. What event a call
-- and its refusal number are is said where the calls are (`claims`); the book knows no call, no record and no stored flag. Assumes nothing.
use Rattle.std.specs.Prelude.{ℕ, zero, suc, ◌+◌, ◌/◌, ◌%◌, Bool, true, false, cond, ◌&&◌, eqb, leb, ltb}
use Rattle.bits.specs.Bits.{bit}
use Rattle.reg_layout.specs.Offsets.{within}

-- "It holds the active locality or none, the waiting localities, and whether a sequence is open."
pub data Holder : Type 0 where
  free : Holder
  held : ℕ → Holder

pub record Model : Type 0 where
  pub active : Holder
  pub waiting : ℕ → Bool
  pub sequence : Bool

-- the counted bit of ACCESS that stands alone, by TIS's names: 1, 5, 3 or 4
pub data AccessBit : Type 0 where
  request_use : AccessBit
  active_locality : AccessBit
  seize : AccessBit
  been_seized : AccessBit

-- ---- what happens to the model

pub data Event : Type 0 where
  restart : Event
  hash_start : Event
  hash_end : Event
  access : ℕ → AccessBit → Event
  nothing : Event

-- "ACCESS of page x with exactly one of bits 5, 4, 3 and 1 set"
abbrev pub access_event : ℕ → ℕ → Event
access_event x v =
    cond (eqb (bit 5 v + bit 4 v + bit 3 v + bit 1 v) 1)
    (cond (eqb (bit 1 v) 1) (access x request_use)
    (cond (eqb (bit 5 v) 1) (access x active_locality)
    (cond (eqb (bit 3 v) 1) (access x seize)
    (access x been_seized))))
    nothing

-- "Only in page 4: 4020..4023 hash end, 4028..402B hash start"; ACCESS of one of the five pages. The numerals are the paper's and not
-- `reg_layout`'s: a map that is wrong in code and definition alike does not keep this book
abbrev pub is_hash_start : ℕ → Bool
is_hash_start o = within 0x4028 0x402b o

abbrev pub is_hash_end : ℕ → Bool
is_hash_end o = within 0x4020 0x4023 o

abbrev pub is_access : ℕ → Bool
is_access o = leb o 0x4fff && eqb (o % 0x1000) 0

-- "An accepted write, first that applies"; what it then does, and "Any other write in page 4 while open: nothing", is in `step`
abbrev pub write_event : ℕ → ℕ → Event
write_event o v =
    cond (is_hash_start o) hash_start
    (cond (is_hash_end o) hash_end
    (cond (is_access o) (access_event (o / 0x1000) v)
    nothing))

-- ---- what the model does

abbrev pub nobody : ℕ → Bool
nobody y = false

-- x waits, or stops waiting
abbrev pub put : (ℕ → Bool) → ℕ → Bool → ℕ → Bool
put w x b y = cond (eqb y x) b (w y)

-- "none active, nobody waiting, closed"
abbrev pub fresh : Model
fresh = record { active = free; waiting = nobody; sequence = false }

-- the highest of the localities below n that wait
abbrev pub highest_below : ℕ → (ℕ → Bool) → Holder
highest_below zero w = free
highest_below (suc n) w = cond (w n) (held n) (highest_below n w)

abbrev pub highest : (ℕ → Bool) → Holder
highest w = highest_below 5 w

-- "Handover: the highest waiting locality is served, so it becomes active and stops waiting; with nobody waiting none is active,
-- and the device is free."
abbrev pub without : Holder → (ℕ → Bool) → ℕ → Bool
without free w = w
without (held h) w = put w h false

abbrev pub handover : Model → Model
handover m =
    record {
      active = highest m.waiting;
      waiting = without (highest m.waiting) m.waiting;
      sequence = m.sequence;
    }

-- x becomes active; x becomes active and stops waiting; x waits; x stops waiting
abbrev pub activate : ℕ → Model → Model
activate x m = record { active = held x; waiting = m.waiting; sequence = m.sequence }

abbrev pub acquire : ℕ → Model → Model
acquire x m = record { active = held x; waiting = put m.waiting x false; sequence = m.sequence }

abbrev pub wait : ℕ → Model → Model
wait x m = record { active = m.active; waiting = put m.waiting x true; sequence = m.sequence }

abbrev pub withdraw : ℕ → Model → Model
withdraw x m = record { active = m.active; waiting = put m.waiting x false; sequence = m.sequence }

-- "Hash start with none or 4 active: 4 becomes active, the sequence is open."
abbrev pub started : Model → Model
started m = record { active = held 4; waiting = m.waiting; sequence = true }

abbrev pub start : Holder → Model → Model
start free m = started m
start (held y) m = cond (eqb y 4) (started m) m

-- "Hash end while open: it closes; handover."
abbrev pub closed : Model → Model
closed m = record { active = m.active; waiting = m.waiting; sequence = false }

-- "Bit 1, a request: with none active x becomes active; with another active x waits."
-- "Bit 5: x active, handover; x waiting, it withdraws, so it stops waiting."
-- "Bit 3: with none or a lower one active, x becomes active and stops waiting."
abbrev pub access_step : AccessBit → Holder → ℕ → Model → Model
access_step request_use free x m = activate x m
access_step request_use (held y) x m = cond (eqb y x) m (wait x m)
access_step active_locality free x m = cond (m.waiting x) (withdraw x m) m
access_step active_locality (held y) x m = cond (eqb y x) (handover m) (cond (m.waiting x) (withdraw x m) m)
access_step seize free x m = acquire x m
access_step seize (held y) x m = cond (ltb y x) (acquire x m) m
access_step been_seized h x m = m

-- "Any other write in page 4 while open: nothing."
abbrev pub ignores_page : Model → ℕ → Bool
ignores_page m x = m.sequence && eqb x 4

abbrev pub step : Model → Event → Model
step m restart = fresh
step m hash_start = start m.active m
step m hash_end = cond m.sequence (handover (closed m)) m
step m (access x a) = cond (ignores_page m x) m (access_step a m.active x m)
step m nothing = m
