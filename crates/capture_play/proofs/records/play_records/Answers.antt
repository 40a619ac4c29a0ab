-- What the page holds is in the bytes lent. Assumes nothing.
use Rattle.std.proofs.Common.{rules}
use Rattle.capture_play.proofs.PlayLaws.{first_turns, runs}
use Rattle.capture_play.proofs.records.play_records.Goals as goal

pub returns : goal.returns
returns c =
    let same = c.turns.ensures.answers.same_reference in
    runs _ c.new-page.result c.turns.new.page _ _ _ _ _ _ c.new-page.ensures.lent c.new-page.ensures.used (first_turns c.args.n c.args.body.now c.requires _ _ _ _ _ _ c.turns.ensures) (search (rules, same))
