-- The interrupt registers and the line (document 01, 'Interrupts'; TIS 12), and the capability byte. Assumes nothing.
use Rattle.std.specs.Prelude.{ℕ, ◌+◌, Bool, true, cond, ◌&&◌, eqb}
use Rattle.bits.specs.Bits.{is_set, flag_at}
use Rattle.reg_layout.specs.InterruptBits as interrupt
use Rattle.record.specs.Causes.{without, either, share}
use Rattle.record.specs.declared.Causes.{Causes}
use Rattle.record.specs.declared.Interrupts.{Interrupts}

-- "Bits 7 commandReady, 2 localityChange, 0 dataAvail"
abbrev pub cause_bits : Causes → ℕ
cause_bits k =
    flag_at interrupt.command_ready k.command_ready + flag_at interrupt.locality_change k.locality_change + flag_at interrupt.data_avail k.data_avail

-- those bits of a byte that is written
abbrev pub causes_of : ℕ → Causes
causes_of v =
    record {
      command_ready = is_set interrupt.command_ready v;
      locality_change = is_set interrupt.locality_change v;
      data_avail = is_set interrupt.data_avail v;
    }

-- "Enable byte 0 reads with 08h added (low level)"; "enable bit 31 is global", bit 7 of byte 3
unfoldable pub enable_byte : Interrupts → ℕ → ℕ
enable_byte s i =
    cond (eqb i 0) (cause_bits s.enable + flag_at interrupt.low_level true)
    (cond (eqb i interrupt.global_byte) (flag_at interrupt.global_int_enable s.global) 0)

-- bytes 1 to 3 of INT_STATUS have no bit of the three
unfoldable pub status_byte : Interrupts → ℕ → ℕ
status_byte s i = cond (eqb i 0) (cause_bits s.status) 0

-- "Capability reads 95h, 0, 0, 0."
unfoldable pub capability_byte : ℕ → ℕ
capability_byte i = cond (eqb i 0) 0x95 0

-- "enable stores those bits"
unfoldable pub write_enable : Interrupts → ℕ → ℕ → Interrupts
write_enable s i v =
    cond (eqb i 0) (record { global = s.global; enable = causes_of v; status = s.status })
    (cond (eqb i interrupt.global_byte) (record { global = is_set interrupt.global_int_enable v; enable = s.enable; status = s.status })
    s)

abbrev pub with_status : Interrupts → Causes → Interrupts
with_status s k = record { global = s.global; enable = s.enable; status = k }

-- "status clears where 1 is written"
unfoldable pub write_status : Interrupts → ℕ → ℕ → Interrupts
write_status s i v = cond (eqb i 0) (with_status s (without s.status (causes_of v))) s

-- a cause's status is set, the others stay
abbrev pub mark : Interrupts → Causes → Interrupts
mark s k = with_status s (either s.status k)

-- "The line is asserted exactly when the global bit is set and status and enable share one of the three"
unfoldable pub line_asserted : Interrupts → Bool
line_asserted s = s.global && share s.enable s.status
