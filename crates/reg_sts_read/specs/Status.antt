-- What STS reads (document 01, 'Commands'; TIS 11.3.11). Assumes nothing.
use Rattle.std.specs.Prelude.{ℕ, ◌+◌, ◌-◌, ◌/◌, ◌%◌, ◌^◌, min, Bool, true, cond, eqb, ltb}
use Rattle.bits.specs.Bits.{flag_at}
use Rattle.reg_layout.specs.StsBits as sts
use Rattle.record.specs.Limits.{burst_cap}
use Rattle.record.specs.declared.Phase.{Phase}
use Rattle.record.specs.declared.Phase.TheVariants.{Idle, Ready, Reception, Execution, Completion}

-- "STS byte 0: 80h, plus 40h in Ready, 10h in Completion with bytes unread, 08h while more is expected."
abbrev pub phase_bits : Phase → ℕ
phase_bits Idle = 0
phase_bits Ready = flag_at sts.command_ready true
phase_bits (Reception n) = 0
phase_bits (Execution n) = 0
phase_bits (Completion n k) = flag_at sts.data_avail (ltb k n)

unfoldable pub sts_low : Phase → Bool → ℕ
sts_low p expect = flag_at sts.sts_valid true + phase_bits p + flag_at sts.expect expect

-- "in Ready 512; in Reception while more is expected, the lesser of 512 and C minus the bytes received; in Completion the lesser of 512
-- and the bytes unread; otherwise 0"
abbrev pub burst_count : Phase → Bool → ℕ → ℕ
burst_count Idle expect c = 0
burst_count Ready expect c = burst_cap
burst_count (Reception n) expect c = cond expect (min burst_cap (c - n)) 0
burst_count (Execution n) expect c = 0
burst_count (Completion n k) expect c = min burst_cap (n - k)

-- "Bytes 1 and 2 are burstCount", low byte first
unfoldable pub sts_byte : Phase → Bool → ℕ → ℕ → ℕ
sts_byte p expect c i =
    cond (eqb i 0) (sts_low p expect) (cond (eqb i 1) (burst_count p expect c % 2 ^ 8) (burst_count p expect c / 2 ^ 8))
