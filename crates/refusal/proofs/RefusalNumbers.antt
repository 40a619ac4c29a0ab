-- A call is accepted exactly when its refusal number is 0. Assumes nothing.
use mathlib.Core.Path.{◌≡◌, refl, sym, ap, ◌∙◌}
use mathlib.Core.Bool.{true, false, true≢false}
use native.Mathlib.Omega.{arith}
use Rattle.std.specs.Prelude.{Option, None, Some}
use Rattle.refusal.specs.Refusal.{accepted, number, number_of, accepts}
use Rattle.refusal.specs.declared.Refusal.{Refusal}
use Rattle.refusal.specs.declared.Refusal.TheVariants.{Offset, FifoLength, Run, AnswerLength, Question, Shape, HashLength}

pub number_positive : (r : Refusal) → number r ≡ accepted → ⊥
number_positive Offset e = omega arith
number_positive FifoLength e = omega arith
number_positive Run e = omega arith
number_positive AnswerLength e = omega arith
number_positive Question e = omega arith
number_positive Shape e = omega arith
number_positive HashLength e = omega arith

pub number_accepted : (n : Option Refusal) → number_of n ≡ accepted → n ≡ None
number_accepted None e = refl
number_accepted (Some r) e = absurd (number_positive r e)

-- the number of a refused call is not 0
pub number_refused : (n : Option Refusal) → (n ≡ None → ⊥) → number_of n ≡ accepted → ⊥
number_refused n f e = f (number_accepted n e)

-- the test on a refusal, and what it says
pub accepts_true : (n : Option Refusal) → accepts n ≡ true → n ≡ None
accepts_true None e = refl
accepts_true (Some r) e = absurd (true≢false (sym e))

pub none_accepts : (n : Option Refusal) → n ≡ None → accepts n ≡ true
none_accepts n e = ap accepts e

pub accepts_false : (n : Option Refusal) → accepts n ≡ false → n ≡ None → ⊥
accepts_false n e i = true≢false (sym (none_accepts n i) ∙ e)

-- an accepted call has no refusal
pub some_refused : (r : Refusal) → Some r ≡ None → ⊥
some_refused r = accepts_false (Some r) refl
