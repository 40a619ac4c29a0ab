-- As much is copied as there is room for. Assumes nothing.
use Rattle.std.proofs.Common.{rules}
use Rattle.text.proofs.PutLaws.{puts_cut}
use Rattle.text.proofs.Page.put.Goals as goal

pub returns : goal.returns
returns c = search (rules, puts_cut)
