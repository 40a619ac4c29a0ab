-- The numbers that document 01 bounds things by, each named once. Proofs above use laws about the names. Assumes nothing.
use Rattle.std.specs.Prelude.{ℕ}

-- "a WriteFIFO and a ReadFIFO of equal length C, 1,024 to 8,192": document 02, W6, "C may be up to 8,192"
abbrev pub fifo_least : ℕ
fifo_least = 1024

abbrev pub fifo_greatest : ℕ
fifo_greatest = 8192

-- "If the declared size is at least 10 ..", "engine answer shorter than 10": a command's or an answer's header
abbrev pub header : ℕ
header = 10

-- burstCount: "in Ready 512; .. the lesser of 512 and .."; document 02, W6, "the burst cap becomes 512"
abbrev pub burst_cap : ℕ
burst_cap = 512

-- "hash byte number 1,048,577 or later" is refused
abbrev pub hash_limit : ℕ
hash_limit = 1048576
