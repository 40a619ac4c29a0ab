-- The map by the register that is found. Assumes nothing.
use mathlib.Core.Path.{◌≡◌, refl, sym, ◌∙◌}
use mathlib.Core.Bool.{Bool, true, false, cond, true≢false}
use Rattle.std.proofs.lemmas.Grind.{common_steps}
use Prim.Native.Nat.{ℕ, ◌+◌, ◌-◌, ◌/◌, ◌%◌, ◌<◌, ◌≤◌}
use native.Mathlib.Omega.{arith}
use lib.Dec.{eqb}
use borrow.Author.Tests.{eqb-true, ne_eqb}
use Rattle.reg_layout.specs.Offsets.{within, in_four, access, int_enable, int_vector, int_status, intf_capability, sts, data_fifo, identity}
use Rattle.reg_layout.proofs.Within.{not_within, within_then}
use Rattle.reg_map.specs.declared.Register.{Register}
use Rattle.reg_map.specs.declared.Register.TheVariants.{Access, IntEnable, IntVector, IntStatus, IntfCapability, Sts, DataFifo, Identity, Reserved}
use Rattle.reg_map.specs.Map.{register_at}

-- ---- a byte of STS, by its four and the place in it

pub at_sts : (at : ℕ) → at / 4 ≡ 6 → at % 4 < 3 → Sts (at % 4) ≡ register_at at
unfolding register_at
at_sts at e l = grind (arith, common_steps)

-- ---- the one eliminator of the map

-- nothing that takes a write lies there but perhaps ACCESS: no interrupt register, not byte 0 of STS, not the FIFO
pub record Inert (at : ℕ) : Type 0 where
  pub no_enable : in_four int_enable at ≡ false
  pub no_status : in_four int_status at ≡ false
  pub no_command : eqb at sts ≡ false
  pub no_fifo : in_four data_fifo at ≡ false

inert : (at : ℕ) → (int_enable ≤ at → at < int_vector → ⊥) → (int_status ≤ at → at < intf_capability → ⊥) → (at ≡ sts → ⊥) → (data_fifo ≤ at → at ≤ data_fifo + 3 → ⊥) → Inert at
inert at a b c d = record {
  no_enable = not_within int_enable (int_enable + 3) at (λ l m. a l (omega arith));
  no_status = not_within int_status (int_status + 3) at (λ l m. b l (omega arith));
  no_command = ne_eqb at sts c;
  no_fifo = not_within data_fifo (data_fifo + 3) at d;
}

vector_inert : (at : ℕ) → eqb at int_vector ≡ true → Inert at
vector_inert at e = rw (eqb-true at int_vector e) (inert int_vector (λ l m. omega arith) (λ l m. omega arith) (λ l. omega arith) (λ l m. omega arith))

capability_inert : (at : ℕ) → in_four intf_capability at ≡ true → Inert at
capability_inert at e =
    let k : _ = within_then intf_capability (intf_capability + 3) at e in
    inert at (λ l m. omega arith) (λ l m. omega arith) (λ l. omega arith) (λ l m. omega arith)

identity_inert : (at : ℕ) → within identity (identity + 4) at ≡ true → Inert at
identity_inert at e =
    let k : _ = within_then identity (identity + 4) at e in
    inert at (λ l m. omega arith) (λ l m. omega arith) (λ l. omega arith) (λ l m. omega arith)

no_command_lem : (at : ℕ) → within sts (sts + 2) at ≡ false → eqb at sts ≡ false
no_command_lem at e = ne_eqb at sts (λ q. let l : within sts (sts + 2) at ≡ true = rw q refl in true≢false (sym l ∙ e))

on_test : (P : Register → Type 0) {g h : Register} (t : Bool) → (t ≡ true → P g) → (t ≡ false → P h) → P (cond t g h)
on_test P true f m = f refl
on_test P false f m = m refl

module _ (P : Register → Type 0) (at : ℕ) (accessed : at ≡ access → P Access) (enable : in_four int_enable at ≡ true → P (IntEnable (at - int_enable)))
    (vector : Inert at → P IntVector) (status : in_four int_status at ≡ true → P (IntStatus (at - int_status))) (capability : (i : ℕ) → Inert at → P (IntfCapability i))
    (state : within sts (sts + 2) at ≡ true → P (Sts (at - sts))) (fifo : in_four data_fifo at ≡ true → P DataFifo) (ids : (i : ℕ) → Inert at → P (Identity i))
    (none : Inert at → P Reserved) where
  pub register_elim : P (register_at at)
  unfolding register_at
  register_elim =
      on_test P (eqb at access) (λ e. accessed (eqb-true at access e))
      (λ a. on_test P (in_four int_enable at) enable
      (λ no_enable. on_test P (eqb at int_vector) (λ e. vector (vector_inert at e))
      (λ b. on_test P (in_four int_status at) status
      (λ no_status. on_test P (in_four intf_capability at) (λ e. capability (at - intf_capability) (capability_inert at e))
      (λ c. on_test P (within sts (sts + 2) at) state
      (λ no_sts. on_test P (in_four data_fifo at) fifo
      (λ no_fifo. on_test P (within identity (identity + 4) at) (λ e. ids (at - identity) (identity_inert at e))
      (λ d. none (record { no_enable = no_enable; no_status = no_status; no_command = no_command_lem at no_sts; no_fifo = no_fifo })))))))))

-- the FIFO lies elsewhere
pub access_apart : (at : ℕ) → at ≡ access → in_four data_fifo at ≡ false
access_apart at e = rw e refl

pub fifo_apart : (a e at : ℕ) → within a e at ≡ true → e < data_fifo → in_four data_fifo at ≡ false
fifo_apart a e at t l = let k : _ = within_then a e at t in not_within data_fifo (data_fifo + 3) at (λ m n. omega arith)
