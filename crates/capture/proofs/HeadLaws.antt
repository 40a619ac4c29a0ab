-- A capture's head against the five bytes, whole or as far as it goes. Assumes nothing.
use mathlib.Core.Path.{◌≡◌, refl, sym, ◌∙◌}
use mathlib.Core.Bool.{Bool, true, false, ◌&&◌, and-false}
use mathlib.Core.List.{List, [], ◌∷◌}
use Prim.Native.Nat.{ℕ, suc, ◌≤◌}
use Prim.Native.Nat.compare
use native.Mathlib.Omega.{arith}
use lib.ListN.{length, take, drop}
use lib.Dec.{eqb, leb}
use borrow.Author.Tests.{le-leb, lt-leb}
use Rattle.std.specs.Cmp.Lexicographic.{pointwise}
use Rattle.capture.specs.Capture.{head, agrees, head_good, body_of}

-- whole
begins : (h bytes : List ℕ) → pointwise eqb (take (length h) bytes) h ≡ leb (length h) (length bytes) && agrees h bytes
begins [] bytes = rw (le-leb 0 (length bytes) (omega arith)) refl
begins (x ∷ h) [] = rw (lt-leb (length (x ∷ h)) 0 (omega arith)) refl
begins (x ∷ h) (b ∷ bytes) = by (eqb b x) (pointwise eqb (take (length h) bytes) h) (begins h bytes)
  where
    by : (t p : Bool) → p ≡ leb (length h) (length bytes) && agrees h bytes → t && p ≡ leb (suc (length h)) (suc (length bytes)) && (t && agrees h bytes)
    by true p e = rw (compare.suc-suc (length h) (length bytes)) e
    by false p e = sym (and-false (leb (suc (length h)) (suc (length bytes))))

-- as far as it goes
pub goes : (h bytes : List ℕ) → length bytes ≤ length h → pointwise eqb bytes (take (length bytes) h) ≡ agrees h bytes
goes [] [] l = refl
goes (x ∷ h) [] l = refl
goes [] (b ∷ bytes) l = absurd (omega arith)
goes (x ∷ h) (b ∷ bytes) l = rw (goes h bytes (omega arith)) refl

module _ (capture : List ℕ) where
  pub good_is : (t : Bool) → pointwise eqb (take 5 capture) head ≡ t → head_good capture ≡ t
  unfolding head_good
  good_is t e = sym (begins head capture) ∙ e

  pub no_body : pointwise eqb (take 5 capture) head ≡ false → [] ≡ body_of capture
  unfolding body_of
  no_body e = rw (good_is false e)

  pub body_there : pointwise eqb (take 5 capture) head ≡ true → drop 5 capture ≡ body_of capture
  unfolding body_of
  body_there e = rw (good_is true e)
