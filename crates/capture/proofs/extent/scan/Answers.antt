-- By its head. Assumes nothing.
use Rattle.std.proofs.Common.{rules}
use Rattle.capture.proofs.ExtentLaws.{none_played, bad_head_lem, counts_body, words_body}
use Rattle.capture.proofs.extent.scan.Goals as goal

pub returns-in-Some : goal.returns-in-Some
returns-in-Some c = search (rules, counts_body, words_body)

pub returns-in-None : goal.returns-in-None
returns-in-None c = search (rules, none_played, bad_head_lem)
