-- Playing a capture (document 02, W1): each record is a call of the front, handed what the last one left, from a power-on on. Assumes nothing.
use Rattle.std.specs.Prelude.{ℕ, suc, ◌≡◌, Bool, List, [], ◌∷◌, map, take}
use Rattle.std.proofs.lemmas.List.Edits.{sets}
use Rattle.record.specs.declared.Device.{Device}
use Rattle.text.specs.declared.Page.{Page}
use Rattle.text.specs.Page.{Gains}
use Rattle.call_power.specs.Power as power
use Rattle.capture.specs.Capture.{records, played, count, word}
use Rattle.claims.specs.Calls.{Call, State, state, Answer, changes, after, heard}
use Rattle.capture_call.specs.Call.{call_of, shown_byte}
use Rattle.capture_play.specs.declared.Played.{Played}

-- ---- the calls of a capture

-- the calls of the records that are played within the limit
unfoldable pub calls_of : ℕ → List ℕ → List Call
calls_of limit capture = map call_of (played limit capture)

-- ---- their answers

-- "the refusal number", and the byte: two for each record
unfoldable pub shown : List (Call × Answer) → List ℕ
shown [] = []
shown (h ∷ hs) = h.1.refusal ∷ shown_byte h.1.value ∷ shown hs

-- the cycles made: "refused ones counted"
unfoldable pub cycles_in : List (Call × Answer) → ℕ
cycles_in [] = 0
cycles_in (h ∷ hs) = suc (cycles_in hs)

-- ---- a whole capture

-- what a power-on leaves, whatever record there was
unfoldable pub powered : Bool → List ℕ → List ℕ → List ℕ → State
powered established identity w r = (changes (power.power_on established identity w r)).left

-- what is played from s on, with w and r in the FIFOs and a in the bytes lent for the answers afterwards: the count, which is the number of the
-- cycles made; the word; each record's answer, as far as there is room; and what the last call left
pub record Plays (p : Played) (a w r : List ℕ) (s : State) (limit : ℕ) (capture lent : List ℕ) : Type 0 where
  pub cycles : p.cycles ≡ count limit capture
  pub steps : p.cycles ≡ cycles_in (heard s (calls_of limit capture))
  pub word : p.word ≡ word limit capture
  pub answers : a ≡ sets lent 0 (shown (heard s (calls_of limit capture)))
  pub left : state p.device w r ≡ after s (calls_of limit capture)

-- ---- the parts of the code

-- calls cs, made from s on, leave the record d, the FIFOs w and r, and their answers on the page
pub record Turns (d : Device) (before after_all : Page) (w r : List ℕ) (cs : List Call) (s : State) : Type 0 where
  pub answers : Gains before (shown (heard s cs)) after_all
  pub left : state d w r ≡ after s cs

-- the calls of all whole records, and of the first n
abbrev pub calls_in : List ℕ → List Call
calls_in body = map call_of (records body)

abbrev pub first_calls : ℕ → List ℕ → List Call
first_calls n body = map call_of (take n (records body))

-- calls cs leave that, and their answers in the bytes lent from the front on, as far as there is room
pub record Runs (d : Device) (a w r : List ℕ) (cs : List Call) (s : State) (lent : List ℕ) : Type 0 where
  pub answers : a ≡ sets lent 0 (shown (heard s cs))
  pub left : state d w r ≡ after s cs
