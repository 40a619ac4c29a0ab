-- Bytes copied into a block of zeros, and one more set behind them. Assumes nothing.
use Rattle.std.proofs.Common.{◌≡◌, ℕ, suc, ◌-◌, ◌≤◌, ◌<◌, List, ◌∷◌, ◌++◌, length, set, take, drop, replicate, ap, ◌∙◌, arith, length-take-le}
use Rattle.std.proofs.lemmas.List.{drop-replicate}
use Rattle.std.proofs.Math.Seq.{set_at}
use Rattle.sha1_message.specs.Stream.{mark}
use Rattle.sha1_message.proofs.padding.mark.Goals as goal

copied_marked : (x t : List ℕ) (n : ℕ) → n < 64 → n ≤ length x → t ≡ take n x → set (t ++ drop n (replicate 64 0)) n 0x80 ≡ mark x n
unfolding mark
copied_marked x t n i l e =
    let k : 64 - n ≡ suc (63 - n) = omega arith in
    let z : drop n (replicate {A = ℕ} 64 0) ≡ 0 ∷ replicate (63 - n) 0 = drop-replicate n 64 0 ∙ ap (λ (j : ℕ). replicate j 0) k in
    rw (e, z) (set_at (take n x) 0 (replicate (63 - n) 0) 0x80 n (length-take-le n x l))

pub returns : goal.returns
returns c = copied_marked _ _ _ c.requires.n_bound c.requires.n_in_bounds c.copy_from_slice.ensures.after
