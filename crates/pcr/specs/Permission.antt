-- The permission table, and the question asked of it. Assumes nothing.
use Rattle.std.specs.Prelude.{ℕ, zero, suc, ◌-◌, Bool, false, None, Some, cond, ◌&&◌, ◌||◌, List, [], ◌∷◌, eqb, leb, get_or}
use Rattle.bits.specs.Bits.{is_set}
use Rattle.arbiter.specs.State.{localities}
use Rattle.refusal.specs.declared.Refusal.TheVariants.{Question}
use Rattle.pcr.specs.Bank.{pcrs}
use Rattle.pcr.specs.declared.Permission.{Permission}

-- n numbers, from a on
abbrev counted : ℕ → ℕ → List ℕ
counted a zero = []
counted a (suc n) = a ∷ counted (suc a) n

-- the numbers a to b
infix 40 ◌to◌
abbrev ◌to◌ : ℕ → ℕ → List ℕ
a to b = counted a (suc b - a)

pub record Row : Type 0 where
  pub pcrs_of : List ℕ
  pub reset_from : List ℕ
  pub extend_from : List ℕ

abbrev row : List ℕ → List ℕ → List ℕ → Row
row ps resets extends = record { pcrs_of = ps; reset_from = resets; extend_from = extends }

-- 'The permission table' (TIS Table 4): PCR, reset from, extend from
unfoldable pub permission_table : List Row
permission_table =
    row (0 to 15) [] (0 to 4)
    ∷ row (16 ∷ 23 ∷ []) (0 to 4) (0 to 4)
    ∷ row (17 ∷ 18 ∷ []) (4 ∷ []) (2 ∷ 3 ∷ 4 ∷ [])
    ∷ row (19 ∷ []) (4 ∷ []) (2 ∷ 3 ∷ [])
    ∷ row (20 ∷ []) (2 ∷ 4 ∷ []) (1 ∷ 2 ∷ 3 ∷ [])
    ∷ row (21 ∷ 22 ∷ []) (2 ∷ []) (2 ∷ [])
    ∷ []

abbrev has : List ℕ → ℕ → Bool
has [] n = false
has (k ∷ ks) n = eqb n k || has ks n

-- a row for PCR p has locality x in the column
abbrev in_column : (Row → List ℕ) → List Row → ℕ → ℕ → Bool
in_column column [] p x = false
in_column column (r ∷ rs) p x = has r.pcrs_of p && has (column r) x || in_column column rs p x

unfoldable pub may_reset : ℕ → ℕ → Bool
may_reset = in_column (λ r. r.reset_from) permission_table

unfoldable pub may_extend : ℕ → ℕ → Bool
may_extend = in_column (λ r. r.extend_from) permission_table

-- 'Code places and language forms', locality masks: locality x is bit x
abbrev pub in_mask : ℕ → ℕ → Bool
in_mask mask x = is_set x mask

-- the same in PCR p's entry of a table
abbrev pub by_mask : List ℕ → ℕ → ℕ → Bool
by_mask masks p x = in_mask (get_or masks p 0) x

abbrev pub given : Bool → Permission
given answer = record { refusal = None; allowed = answer }

-- 'When the front says no': a refused yes/no gives no
abbrev pub refused : Permission
refused = record { refusal = Some Question; allowed = false }

-- 'When the front says no', 5: refused exactly when the PCR is above 23 or the locality above 4
unfoldable pub permission : (ℕ → ℕ → Bool) → ℕ → ℕ → Permission
permission rule p x = cond (leb pcrs p || leb localities x) refused (given (rule p x))
