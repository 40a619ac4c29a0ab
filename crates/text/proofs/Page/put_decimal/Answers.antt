-- The kit's digits. Assumes nothing.
use Rattle.std.proofs.Common.{rules}
use Rattle.text.proofs.DecimalLaws.{puts_decimal}
use Rattle.text.proofs.Page.put_decimal.Goals as goal

pub returns : goal.returns
returns c = search (rules, puts_decimal)
