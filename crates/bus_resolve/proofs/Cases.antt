-- What an accepted write can be, with what its address then is. Assumes nothing.
use mathlib.Core.Path.{◌≡◌, refl}
use mathlib.Core.Bool.{Bool, true, false, cond, ◌&&◌, ◌||◌}
use Prim.Native.Nat.{ℕ}
use lib.Dec.{eqb}
use borrow.Author.Tests.{eqb-true, eqb-false}
use Rattle.reg_layout.specs.Offsets.{in_four, page_of, place_of, access, hash_locality, hash_start, hash_end, hash_data}
use Rattle.arbiter.specs.State.{holds}
use Rattle.arbiter.specs.Rules.{start_counts}
use Rattle.arbiter.specs.declared.Locality.{Locality}
use Rattle.std.specs.Prelude.{Option}
use Rattle.reg_map.specs.Map.{register_for}
use Rattle.bus_resolve.specs.declared.WriteKind.{WriteKind}
use Rattle.bus_resolve.specs.declared.WriteKind.TheVariants.{HashStart, HashEnd, HashData, Ignored, Ordinary}
use Rattle.bus_resolve.specs.Resolve.{page_at, may_write, resolve}

-- neither hash start nor hash end lies there
pub record Unhashed (o : ℕ) : Type 0 where
  pub start : in_four hash_start o ≡ false
  pub end : in_four hash_end o ≡ false

-- a sequence is open and this is its page
abbrev pub hash_page : ℕ → Bool → Bool
hash_page o sequence = sequence && eqb (page_of o) hash_locality

pub data Resolved (o : ℕ) (sequence : Bool) (owner : Option Locality) : WriteKind → Type 0 where
  starts : in_four hash_start o ≡ true → start_counts owner ≡ true → Resolved o sequence owner HashStart
  -- a start that does not count
  late_start : in_four hash_start o ≡ true → start_counts owner ≡ false → Resolved o sequence owner Ignored
  ends : in_four hash_start o ≡ false → in_four hash_end o ≡ true → sequence ≡ true → Resolved o sequence owner HashEnd
  -- an end with no sequence open
  late_end : in_four hash_start o ≡ false → in_four hash_end o ≡ true → sequence ≡ false → Resolved o sequence owner Ignored
  joins : Unhashed o → hash_page o sequence ≡ true → in_four hash_data o ≡ true → Resolved o sequence owner HashData
  -- any other write in page 4 while a sequence is open
  page_ignored : Unhashed o → hash_page o sequence ≡ true → in_four hash_data o ≡ false → Resolved o sequence owner Ignored
  accesses : Unhashed o → hash_page o sequence ≡ false → place_of o ≡ access → Resolved o sequence owner (Ordinary (register_for o))
  -- a register of the active locality's page
  reaches : Unhashed o → hash_page o sequence ≡ false → (place_of o ≡ access → ⊥) → holds owner (page_at o) ≡ true → Resolved o sequence owner (Ordinary (register_for o))
  -- a register of another's
  misses : Unhashed o → hash_page o sequence ≡ false → (place_of o ≡ access → ⊥) → holds owner (page_at o) ≡ false → Resolved o sequence owner Ignored

module _ (o : ℕ) (sequence : Bool) (owner : Option Locality) where
  usual : Unhashed o → hash_page o sequence ≡ false → (a h : Bool) → eqb (place_of o) access ≡ a → holds owner (page_at o) ≡ h
      → Resolved o sequence owner (cond (a || h) (Ordinary (register_for o)) Ignored)
  usual u p true h i j = accesses u p (eqb-true (place_of o) access i)
  usual u p false true i j = reaches u p (eqb-false (place_of o) access i) j
  usual u p false false i j = misses u p (eqb-false (place_of o) access i) j

  pub resolved : Resolved o sequence owner (resolve o sequence owner)
  unfolding resolve
  resolved =
      by (in_four hash_start o) refl (start_counts owner) refl (in_four hash_end o) refl sequence refl (hash_page o sequence) refl (in_four hash_data o) refl
    where
      by : (s : Bool) → in_four hash_start o ≡ s → (c : Bool) → start_counts owner ≡ c → (e : Bool) → in_four hash_end o ≡ e → (q : Bool) → sequence ≡ q
          → (h : Bool) → hash_page o sequence ≡ h → (d : Bool) → in_four hash_data o ≡ d
          → Resolved o sequence owner
          (cond s (cond c HashStart Ignored) (cond e (cond q HashEnd Ignored) (cond h (cond d HashData Ignored) (cond (may_write o owner) (Ordinary (register_for o)) Ignored))))
      by true i true j e k q l h m d n = starts i j
      by true i false j e k q l h m d n = late_start i j
      by false i c j true k true l h m d n = ends i k l
      by false i c j true k false l h m d n = late_end i k l
      by false i c j false k q l true m true n = joins (record { start = i; end = k }) m n
      by false i c j false k q l true m false n = page_ignored (record { start = i; end = k }) m n
      by false i c j false k q l false m d n = usual (record { start = i; end = k }) m (eqb (place_of o) access) (holds owner (page_at o)) refl refl
