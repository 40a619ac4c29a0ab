-- The digest of an accepted message is there. Assumes nothing.
use Rattle.std.proofs.Common.{refl, ◌∙◌, eq-eqb, lt-ltb}
use Rattle.std.proofs.lemmas.Fn.{says_at}
use Rattle.sha1_exports.specs.Exports.{accepts, digest_in}
use Rattle.sha1_exports.proofs.digest_into.Goals as goal

pub returns-clause-out_after : goal.returns-clause-out_after
unfolding accepts digest_in
returns-clause-out_after g c =
    simp (eq-eqb _ _ c.if-out-ne20.false, lt-ltb _ _ c.if-m-limit.false)
    (c.copy_from_slice.ensures.after ∙ c.requires.digests _ (says_at g.F.Fn c.digest.ensures refl))
