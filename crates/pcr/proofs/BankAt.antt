-- What stands at each PCR of a bank, by one rule over its number. Assumes nothing.
use mathlib.Core.Path.{◌≡◌, refl, ap, ◌∙◌}
use mathlib.Core.Bool.{Bool, true, false, cond, ◌&&◌}
use mathlib.Core.List.{List, ◌++◌}
use Prim.Native.Nat.{ℕ, ◌+◌, ◌-◌, ◌<◌, ◌≤◌}
use native.Mathlib.Omega.{arith}
use lib.Dec.{leb, eqb}
use lib.ListN.{length, get_or, take, drop, replicate, get_or-replicate, get_or-append}
use lib.Seq.{length-take-le, length_paste_head, get_or-take, get_or-drop, get_or-append-add, get_or-set_same, get_or-set_other}
use borrow.Author.Tests.{leb-true, leb-false, eqb-true, eqb-false}
use Rattle.pcr.specs.declared.Pcr.{Pcr}
use Rattle.pcr.specs.Bank.{pcrs, pcr, all_bytes, no_pcr, value_at, replaced, dynamic, with_dynamic, fresh, launched}

module _ (bank : List Pcr) (v : Pcr) (p : ℕ) (n : length bank ≡ pcrs) where
  abbrev kept : List Pcr
  kept = take 17 bank

  kept_length : length kept ≡ 17
  kept_length = length-take-le 17 bank (omega arith)

  abbrev filled : List Pcr
  filled = kept ++ replicate 6 v

  filled_length : length filled ≡ 23
  filled_length = length_paste_head bank 17 (replicate 6 v) 6 (omega arith) (omega arith)

  inside : p < 23 → get_or (filled ++ drop 23 bank) p no_pcr ≡ get_or filled p no_pcr
  inside h = get_or-append filled (drop 23 bank) no_pcr p (omega (arith, filled_length))

  by_range : (l h : Bool) → leb 17 p ≡ l → leb p 22 ≡ h → value_at (filled ++ drop 23 bank) p ≡ cond (l && h) v.bytes (value_at bank p)
  by_range false h e f =
      let low : p < 17 = leb-false 17 p e in
      cc (inside (omega arith), get_or-append kept (replicate 6 v) no_pcr p (omega (arith, kept_length)), get_or-take 17 bank p no_pcr low)
  by_range true true e f =
      let low : 17 ≤ p = leb-true 17 p e in
      let high : p ≤ 22 = leb-true p 22 f in
      let at : 17 + (p - 17) ≡ p = omega arith in
      cc (inside (omega arith), kept_length, get_or-append-add kept (replicate 6 v) (p - 17) no_pcr, get_or-replicate 6 (p - 17) v no_pcr (omega arith))
  by_range true false e f =
      let high : 22 < p = leb-false p 22 f in
      let at : 23 + (p - 23) ≡ p = omega arith in
      cc (filled_length, get_or-append-add filled (drop 23 bank) (p - 23) no_pcr, get_or-drop 23 bank (p - 23) no_pcr)

pub dynamic_at : (bank : List Pcr) (b p : ℕ) → length bank ≡ pcrs → value_at (with_dynamic bank b) p ≡ cond (dynamic p) (all_bytes b) (value_at bank p)
unfolding with_dynamic
dynamic_at bank b p n = by_range bank (pcr (all_bytes b)) p n (leb 17 p) (leb p 22) refl refl

pub fresh_at : (p : ℕ) → p < pcrs → value_at fresh p ≡ cond (dynamic p) (all_bytes 255) (all_bytes 0)
unfolding fresh
fresh_at p h = dynamic_at (replicate pcrs (pcr (all_bytes 0))) 255 p refl ∙ ap (λ (v : Pcr). cond (dynamic p) (all_bytes 255) v.bytes) (get_or-replicate pcrs p (pcr (all_bytes 0)) no_pcr h)

pub launched_at : (bank : List Pcr) (p : ℕ) → length bank ≡ pcrs → value_at (launched bank) p ≡ cond (dynamic p) (all_bytes 0) (value_at bank p)
launched_at bank p n = dynamic_at bank 0 p n

pub replaced_at : (bank : List Pcr) (p q : ℕ) (value : List ℕ) → p < length bank → value_at (replaced bank p value) q ≡ cond (eqb q p) value (value_at bank q)
replaced_at bank p q value h = go (eqb q p) refl
  where
    go : (t : Bool) → eqb q p ≡ t → value_at (replaced bank p value) q ≡ cond t value (value_at bank q)
    go true e = ap (λ (v : Pcr). v.bytes) (rw (eqb-true q p e) (get_or-set_same bank p (pcr value) no_pcr h))
    go false e = ap (λ (v : Pcr). v.bytes) (get_or-set_other bank p q (pcr value) no_pcr (eqb-false q p e))
