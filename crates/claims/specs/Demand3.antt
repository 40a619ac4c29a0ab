-- Demand 3 of the letter; document 01, 'The waiting book': "a single claim about the whole list of calls". Quotes below are the letter's. Assumes
-- nothing.
use Rattle.std.specs.Prelude.{◌≡◌, Bool, true, false, List, [], ◌∷◌, ◌++◌, ◌⊎◌, ℕ, suc, ◌<◌, ◌≤◌, take}
use Rattle.arbiter_model.specs.Model.{Model, Holder, free, held, Event, access, request_use, highest, step}
use Rattle.arbiter_model.specs.Waits.{hands_over, handovers, is_release, is_restart, tally, written, beginnings, during, bound}
use Rattle.arbiter_model.specs.Claims.{Arbitrated}
use Rattle.arbiter.specs.State.{waits}
use Rattle.arbiter.specs.Agreement.{Agrees, holder}
use Rattle.record.specs.declared.Device.{Device}
use Rattle.claims.specs.Calls.{Call, is_power_on, State, Answer, Lent, handed, lent_left, lent_after, lent_heard, OverLent}
use Rattle.claims.specs.Events.{happens, events, model_after}

-- the record's active locality, or none
abbrev pub active_in : Device → Holder
active_in d = holder d.control.arbiter.active

-- does x wait in the record
abbrev pub waits_in : Device → ℕ → Bool
waits_in d x = waits d.control.arbiter x

-- the record's active locality, waiting flags and sequence are the model's
abbrev pub Keeps : Model → Device → Type 0
Keeps m d = Agrees m d.control.arbiter d.launch.sequence

-- the event of a call that is lent FIFOs
abbrev pub occurs : Lent → Device → Event
occurs k d = happens k.call (handed k d)

-- from the record d, and the model m, x is active no later than handover number (4 - x)(k + 1) + 1; `often` counts the requests
unfoldable pub Served : (ℕ → Model → List Event → ℕ) → Device → Model → ℕ → ℕ → Type 0
Served often d m x k =
    (ks : List Lent)
    -- as long as x waits it doesn't withdraw, no reset or power-on comes, and each higher locality writes its request at most k times
    → tally (is_release x) (during x m (events (lent_heard d ks))) ≡ 0
    → tally is_restart (during x m (events (lent_heard d ks))) ≡ 0
    → ((y : ℕ) → x < y → y < 5 → often y m (during x m (events (lent_heard d ks))) ≤ k)
    -- the list has that many handovers, or more
    → bound x k ≤ handovers m (events (lent_heard d ks))
    -- then among its calls there is one that makes x active: up to it x waits, and fewer handovers than that come before it
    → (n : ℕ) × ((j : ℕ) → j ≤ n → waits_in (lent_after d (take j ks)) x ≡ true) × (active_in (lent_after d (take (suc n) ks)) ≡ held x)
    × (handovers m (events (lent_heard d (take n ks))) < bound x k)

-- what holds of the record d after calls whose model is m
pub record Demand3 (m : Model) (d : Device) : Type 0 where
  -- the record's active locality and waiting flags are the model's, kept from calls and refusal numbers alone
  pub agrees : Keeps m d
  -- all that is claimed of the model
  pub arbitrated : Arbitrated m
  -- "Nobody waits while the device is free."
  pub nobody : active_in d ≡ free → (y : ℕ) → y < 5 → waits_in d y ≡ false
  -- "Each handover serves, in that step, the highest locality waiting, if any."
  pub serves : (c : Lent) → hands_over m (occurs c d) ≡ true → active_in (lent_left c d) ≡ highest (waits_in d)
  -- "a locality x that requests while another is active waits .."
  pub requests : (c : Lent) (x y : ℕ) → occurs c d ≡ access x request_use → active_in d ≡ held y → (y ≡ x → ⊥) → waits_in (lent_left c d) x ≡ true
  -- ".. until it is active, withdraws, or a reset or power-on comes"; and these end the wait
  pub lasts : (c : Lent) (x : ℕ) → waits_in d x ≡ true → is_release x (occurs c d) ≡ false → is_restart (occurs c d) ≡ false
      → (waits_in (lent_left c d) x ≡ true) ⊎ (active_in (lent_left c d) ≡ held x)
  pub ends : (c : Lent) (x : ℕ) → x < 5 → waits_in d x ≡ true → (is_release x (occurs c d) ≡ true) ⊎ (is_restart (occurs c d) ≡ true)
      → waits_in (lent_left c d) x ≡ false
  -- and no wait is longer than this
  pub served : (x k : ℕ) → x < 5 → waits_in d x ≡ true → Served written d m x k
  -- the same where a request counts only if it begins a wait
  pub served_by_waits : (x k : ℕ) → x < 5 → waits_in d x ≡ true → Served beginnings d m x k
  -- from the request c that x writes while another is active: handovers are counted after it
  pub served_from : (c : Lent) (x y k : ℕ) → x < 5 → occurs c d ≡ access x request_use → active_in d ≡ held y → (y ≡ x → ⊥)
      → Served written (lent_left c d) (step m (occurs c d)) x k

abbrev pub Demand3After : List (Call × Answer) → Device → Type 0
Demand3After h d = Demand3 (model_after h) d

-- the claim: after each call of every list that starts with a power-on, whatever FIFOs each call is lent
abbrev pub DemandThree : Type 0
DemandThree = OverLent Demand3After

-- in the user's words, "counted from the request that began the wait": calls before, the request c of x while y is active, and calls after it, in
-- which the handovers are counted
abbrev pub FromRequest : Type 0
FromRequest = (d : Device) (first : Lent) → is_power_on first.call ≡ true → (before : List Lent) (c : Lent) (x y k : ℕ) → x < 5
    → occurs c (lent_after d (first ∷ before)) ≡ access x request_use → active_in (lent_after d (first ∷ before)) ≡ held y → (y ≡ x → ⊥)
    → Served written (lent_after d (first ∷ before ++ (c ∷ []))) (model_after (lent_heard d (first ∷ before ++ (c ∷ [])))) x k

-- the same where each call is lent what the last one left
abbrev pub Demand3Handed : State → List (Call × Answer) → State → Type 0
Demand3Handed s₀ h s = Demand3After h s.device
