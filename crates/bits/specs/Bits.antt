-- A bit of a byte. Assumes nothing.
use Rattle.std.specs.Prelude.{ℕ, ◌/◌, ◌%◌, ◌^◌, Bool, cond, eqb}

-- bit k of v, 0 or 1
abbrev pub bit : ℕ → ℕ → ℕ
bit k v = v / 2 ^ k % 2

-- is bit k of v set
abbrev pub is_set : ℕ → ℕ → Bool
is_set k v = eqb (bit k v) 1

-- a flag as bit k of a byte whose other bits are 0
abbrev pub flag_at : ℕ → Bool → ℕ
flag_at k b = cond b (2 ^ k) 0
