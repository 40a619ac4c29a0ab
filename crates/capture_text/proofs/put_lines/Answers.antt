-- One line more. Assumes nothing.
use Rattle.std.proofs.Common.{rules, ap, List, ℕ, [], get_or}
use Rattle.capture_text.proofs.LineLaws.{ahead_more, ahead_none}
use Rattle.capture_text.proofs.put_lines.Goals as goal

pub loop-refusal-init : goal.loop-refusal-init
loop-refusal-init c = λ r h. h

pub loop-refusal-preserved : goal.loop-refusal-preserved
loop-refusal-preserved c =
    let l = c.loop-refusal in
    ahead_more _ _ _ l.refusal-index l.invariant _ _ (search rules) (ap (λ (xs : List (List ℕ)). get_or xs l.refusal-index []) c.as_chunks.ensures.front) c.put_line.ensures

pub returns : goal.returns
returns c = ahead_none _ _ _ c.loop-refusal.refusal-index c.loop-refusal.invariant (search rules)
