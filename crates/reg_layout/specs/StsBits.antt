-- The bits of STS byte 0 (document 01, 'Commands'; TIS Table 16), by their numbers. Assumes nothing.
use Rattle.std.specs.Prelude.{ℕ}

-- "80h"
abbrev pub sts_valid : ℕ
sts_valid = 7

-- "40h in Ready"; written, "40h: Idle goes to Ready"
abbrev pub command_ready : ℕ
command_ready = 6

-- written, "20h"
abbrev pub tpm_go : ℕ
tpm_go = 5

-- "10h in Completion with bytes unread"
abbrev pub data_avail : ℕ
data_avail = 4

-- "08h while more is expected"
abbrev pub expect : ℕ
expect = 3

-- written, "02h: in Completion, reading starts over"
abbrev pub response_retry : ℕ
response_retry = 1
