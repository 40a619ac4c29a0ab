-- The bits of INT_ENABLE and INT_STATUS (document 01, 'Interrupts'; TIS Tables 20, 22), by their numbers. Assumes nothing.
use Rattle.std.specs.Prelude.{ℕ}

-- "Bits 7 commandReady, 2 localityChange, 0 dataAvail"
abbrev pub command_ready : ℕ
command_ready = 7

abbrev pub locality_change : ℕ
locality_change = 2

abbrev pub data_avail : ℕ
data_avail = 0

-- "Enable byte 0 reads with 08h added (low level)."
abbrev pub low_level : ℕ
low_level = 3

-- "enable bit 31 is global": bit 7 of byte 3
abbrev pub global_byte : ℕ
global_byte = 3

abbrev pub global_int_enable : ℕ
global_int_enable = 7
