-- The bits of ACCESS (document 01, 'Who holds the device'; TIS Table 15), by their numbers. Assumes nothing.
use Rattle.std.specs.Prelude.{ℕ}

-- "bit 7 always 1"
abbrev pub tpm_reg_valid_sts : ℕ
tpm_reg_valid_sts = 7

-- "5 this locality active"; written, "Bit 5: x active, handover; x waiting, it withdraws"
abbrev pub active_locality : ℕ
active_locality = 5

-- "4 it was seized"; written, "Bit 4 clears x's seized mark"
abbrev pub been_seized : ℕ
been_seized = 4

-- "Bit 3, seize"
abbrev pub seize : ℕ
seize = 3

-- "2 pendingRequest"
abbrev pub pending_request : ℕ
pending_request = 2

-- "1 this locality waits"; written, "Bit 1, request"
abbrev pub request_use : ℕ
request_use = 1

-- "0 the inverse of established"
abbrev pub tpm_establishment : ℕ
tpm_establishment = 0
