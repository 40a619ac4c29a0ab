-- The bytes that join are counted. Assumes nothing.
use Rattle.std.proofs.Common.{ap, ◌∙◌, arith}
use Rattle.sha1_message.specs.declared.Stream.{Stream}
use Rattle.sha1_message.proofs.StreamLaws.{all_count}
use Rattle.sha1_vectors.proofs.million.Goals as goal

pub loop-preserved : goal.loop-preserved
loop-preserved g c =
    let counted = ap (λ (s : Stream). s.count) c.push_all.ensures ∙ all_count _ _ in
    omega (arith, counted)
