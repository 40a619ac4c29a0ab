-- The declared size of a command, and when more of it is expected (document 01, 'Commands'). Assumes nothing.
use Rattle.std.specs.Prelude.{ℕ, ◌+◌, ◌*◌, ◌^◌, Bool, false, ◌&&◌, ◌||◌, List, length, get_or, ltb}
use Rattle.record.specs.declared.Phase.{Phase}
use Rattle.record.specs.declared.Phase.TheVariants.{Idle, Ready, Reception, Execution, Completion}
use Rattle.reg_sts_read.specs.declared.size.Sizes.{Sizes}

-- "fewer than 6 bytes came": the bytes of a command up to the end of its size
abbrev pub size_field : ℕ
size_field = 6

-- "the declared size (bytes 2..5, high byte first)"
unfoldable pub declared_size : List ℕ → ℕ
declared_size w = get_or w 2 0 * 2 ^ 24 + get_or w 3 0 * 2 ^ 16 + get_or w 4 0 * 2 ^ 8 + get_or w 5 0

-- with C, the FIFO's length
abbrev pub sizes_of : List ℕ → Sizes
sizes_of w = record { declared = declared_size w; fifo = length w }

-- "while fewer than 6 bytes came, or fewer than both the declared size .. and C"
abbrev pub expects_after : ℕ → ℕ → ℕ → Bool
expects_after n size c = ltb n size_field || ltb n size && ltb n c

-- "More is expected in Reception ..": TIS's Expect
abbrev pub expects : Phase → ℕ → ℕ → Bool
expects Idle size c = false
expects Ready size c = false
expects (Reception n) size c = expects_after n size c
expects (Execution n) size c = false
expects (Completion n k) size c = false
