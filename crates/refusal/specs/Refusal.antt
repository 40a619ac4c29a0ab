-- The numbers of document 01's table 'When the front says no', and the number of each refusal of the code. Assumes nothing.
use Rattle.std.specs.Prelude.{ℕ, Bool, true, false, Option, None, Some}
use Rattle.refusal.specs.declared.Refusal.{Refusal}
use Rattle.refusal.specs.declared.Refusal.TheVariants.{Offset, FifoLength, Run, AnswerLength, Question, Shape, HashLength}

-- accepted
abbrev pub accepted : ℕ
accepted = 0

-- bus offset above 4FFFh
abbrev pub offset : ℕ
offset = 1

-- a FIFO length outside 1,024..8,192, or the two differ
abbrev pub fifo_length : ℕ
fifo_length = 2

-- engine answer while not in Execution, or with another run number
abbrev pub run : ℕ
run = 3

-- engine answer shorter than 10 or longer than C
abbrev pub answer_length : ℕ
answer_length = 4

-- question with PCR above 23 or locality above 4
abbrev pub question : ℕ
question = 5

-- record out of shape (the interrupt line question aside)
abbrev pub shape : ℕ
shape = 6

-- hash byte number 1,048,577 or later
abbrev pub hash_length : ℕ
hash_length = 7

-- "a definition that lists this paper's number for each of its cases"
abbrev pub number : Refusal → ℕ
number Offset = offset
number FifoLength = fifo_length
number Run = run
number AnswerLength = answer_length
number Question = question
number Shape = shape
number HashLength = hash_length

-- the number of what a call is refused for, if it is
abbrev pub number_of : Option Refusal → ℕ
number_of None = accepted
number_of (Some r) = number r

abbrev pub accepts : Option Refusal → Bool
accepts None = true
accepts (Some r) = false
