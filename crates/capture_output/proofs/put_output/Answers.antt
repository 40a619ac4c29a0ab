-- The answers have their room, and the text is that of the records played. Assumes nothing.
use Rattle.capture_output.specs.Output.{start}
use Rattle.capture_output.proofs.OutputLaws.{answers_fit, puts_output}
use Rattle.capture_output.proofs.put_output.Goals as goal

pub put_text-requires : goal.put_text-requires
unfolding start
put_text-requires c = answers_fit _ _ _ _ _ _ c.play-p.ensures

pub returns : goal.returns
unfolding start
returns c = puts_output _ _ _ _ _ c.play-p.ensures _ _ _ c.put_text.ensures
