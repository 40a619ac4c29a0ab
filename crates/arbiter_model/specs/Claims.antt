-- What the letter's demand 3 claims of the waiting book; quotes are the letter's, and document 01's of what its words mean. Assumes nothing.
use Rattle.std.specs.Prelude.{ℕ, suc, ◌<◌, ◌≤◌, ◌≡◌, true, false, List, ◌⊎◌, take}
use Rattle.arbiter_model.specs.Model.{Model, free, held, Event, restart, access, request_use, active_locality, seize, highest, step}
use Rattle.arbiter_model.specs.Waits.{run, hands_over, handovers, is_request, is_release, is_restart, tally, written, begins, beginnings, during, bound}

-- "If x begins to wait and, as long as it waits, x doesn't withdraw, no reset or power-on comes, and each higher locality writes
-- its request at most k times, then x is active no later than handover number (4 - x)(k + 1) + 1": "in a list with n handovers
-- after that request, x has become active at the nth or before it." Here from any m in which x waits; `often` counts the requests. There is an event
-- that makes x active: up to it x waits, and fewer handovers than that come before it.
unfoldable pub Served : (ℕ → Model → List Event → ℕ) → Model → ℕ → ℕ → Type 0
Served often m x k =
    x < 5
    → m.waiting x ≡ true
    → (es : List Event)
    → tally (is_release x) (during x m es) ≡ 0
    → tally is_restart (during x m es) ≡ 0
    → ((y : ℕ) → x < y → y < 5 → often y m (during x m es) ≤ k)
    → bound x k ≤ handovers m es
    → (n : ℕ) × ((j : ℕ) → j ≤ n → (run m (take j es)).waiting x ≡ true) × ((run m (take (suc n) es)).active ≡ held x) × (handovers m (take n es) < bound x k)

-- m and m' are one to every reader of the model
pub record Same (m m' : Model) : Type 0 where
  pub active : m'.active ≡ m.active
  pub waiting : (y : ℕ) → m'.waiting y ≡ m.waiting y
  pub sequence : m'.sequence ≡ m.sequence

pub record Arbitrated (m : Model) : Type 0 where
  -- "Nobody waits while the device is free."
  pub free_unasked : m.active ≡ free → (y : ℕ) → y < 5 → m.waiting y ≡ false
  -- the active locality doesn't wait
  pub active_unasked : (y : ℕ) → y < 5 → m.active ≡ held y → m.waiting y ≡ false
  -- an open sequence means that 4 is active
  pub open_held_by4 : m.sequence ≡ true → m.active ≡ held 4
  -- "Each handover serves, in that step, the highest locality waiting, if any."
  pub serves : (e : Event) → hands_over m e ≡ true → (step m e).active ≡ highest m.waiting
  -- the active locality loses the device by a handover, a seizure, or a restart, and in no other way
  pub gives_up : (e : Event) (y : ℕ) → m.active ≡ held y → ((step m e).active ≡ held y → ⊥)
      → (hands_over m e ≡ true) ⊎ ((x : ℕ) × (e ≡ access x seize)) ⊎ (e ≡ restart)
  -- "a locality x that requests while another is active waits"
  pub requests : (x y : ℕ) → m.active ≡ held y → (y ≡ x → ⊥) → (step m (access x request_use)).waiting x ≡ true
  -- a second request begins nothing anew
  pub second_request : (x : ℕ) → x < 5 → m.waiting x ≡ true → Same m (step m (access x request_use)) × (begins x m (access x request_use) ≡ false)
  -- ".. until it is active, withdraws, or a reset or power-on comes"
  pub lasts : (x : ℕ) (e : Event) → m.waiting x ≡ true → is_release x e ≡ false → is_restart e ≡ false
      → ((step m e).waiting x ≡ true) ⊎ ((step m e).active ≡ held x)
  pub ends : (x : ℕ) (e : Event) → x < 5 → m.waiting x ≡ true → (is_release x e ≡ true) ⊎ (is_restart e ≡ true) → (step m e).waiting x ≡ false
  pub served : (x k : ℕ) → Served written m x k
  -- the same where a request counts only if it begins a wait, and so also where one that changes nothing doesn't count
  pub served_by_waits : (x k : ℕ) → Served beginnings m x k

-- what the premises count is just what they name
pub record Counted : Type 0 where
  pub requests : (y : ℕ) (e : Event) → is_request y e ≡ true → e ≡ access y request_use
  pub releases : (y : ℕ) (e : Event) → is_release y e ≡ true → e ≡ access y active_locality
  pub restarts : (e : Event) → is_restart e ≡ true → e ≡ restart
