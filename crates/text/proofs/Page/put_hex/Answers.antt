-- Two digits. Assumes nothing.
use Rattle.std.proofs.Common.{rules}
use Rattle.text.specs.Text.{hex_byte}
use Rattle.text.proofs.Page.put_hex.Goals as goal

pub returns : goal.returns
unfolding hex_byte
returns c = search rules
