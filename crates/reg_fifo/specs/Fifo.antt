-- What the two lent FIFOs hold after a call, and what a FIFO read gives (document 01, 'Commands'). Assumes nothing.
use Rattle.std.specs.Prelude.{ℕ, ◌+◌, ◌-◌, cond, List, ◌++◌, length, get_or, set, replicate, ltb}
use Rattle.record.specs.declared.Phase.{Phase}
use Rattle.record.specs.declared.Phase.TheVariants.{Idle, Ready, Reception, Execution, Completion}
use Rattle.reg_fifo.specs.declared.FifoAction.{FifoAction}
use Rattle.reg_fifo.specs.declared.FifoAction.TheVariants.{Keep, Clear, Store, Complete}

-- "'Emptied' means every byte of that FIFO is 0."
abbrev pub clear_fifo : List ℕ → List ℕ
clear_fifo b = replicate (length b) 0

-- "puts the answer at the front of the ReadFIFO with 00h behind it"
abbrev pub put_answer : List ℕ → List ℕ → List ℕ
put_answer answer b = answer ++ replicate (length b - length answer) 0

-- v is the byte written. "Entering Completion empties the WriteFIFO, puts the answer at the front of the ReadFIFO .."
abbrev pub update_write_fifo : FifoAction → ℕ → List ℕ → List ℕ
update_write_fifo Keep v w = w
update_write_fifo Clear v w = clear_fifo w
update_write_fifo (Store n) v w = set w n v
update_write_fifo Complete v w = clear_fifo w

abbrev pub update_read_fifo : FifoAction → List ℕ → List ℕ → List ℕ
update_read_fifo Keep answer r = r
update_read_fifo Clear answer r = clear_fifo r
update_read_fifo (Store n) answer r = r
update_read_fifo Complete answer r = put_answer answer r

-- "A FIFO read gives the next unread byte in Completion, else FFh."
abbrev pub fifo_byte : Phase → List ℕ → ℕ
fifo_byte Idle r = 0xff
fifo_byte Ready r = 0xff
fifo_byte (Reception n) r = 0xff
fifo_byte (Execution n) r = 0xff
fifo_byte (Completion n k) r = cond (ltb k n) (get_or r k 0) 0xff

-- and it is read then
abbrev pub after_read : Phase → Phase
after_read Idle = Idle
after_read Ready = Ready
after_read (Reception n) = Reception n
after_read (Execution n) = Execution n
after_read (Completion n k) = cond (ltb k n) (Completion n (k + 1)) (Completion n k)
