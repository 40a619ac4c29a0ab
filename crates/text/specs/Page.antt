-- What a page gains. Assumes nothing.
use Rattle.std.specs.Prelude.{ℕ, ◌≡◌, List}
use Rattle.text.specs.declared.Page.{Page}
use Rattle.text.specs.Text.{Puts}

-- text, behind what it holds, in the same bytes
pub record Gains (before : Page) (text : List ℕ) (after : Page) : Type 0 where
  pub same_reference : after.lent.ghost_name ≡ before.lent.ghost_name
  pub puts : Puts before.lent.now before.used text after.lent.now after.used
