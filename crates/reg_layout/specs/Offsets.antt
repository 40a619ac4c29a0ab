-- Where the registers lie (document 01, 'The pages'; TIS sections 8 and 10). Assumes nothing.
use Rattle.std.specs.Prelude.{ℕ, ◌+◌, ◌/◌, ◌%◌, Bool, ◌&&◌, leb}

-- the offsets from a to e
abbrev pub within : ℕ → ℕ → ℕ → Bool
within a e o = leb a o && leb o e

-- the four offsets from a on
abbrev pub in_four : ℕ → ℕ → Bool
in_four a o = within a (a + 3) o

-- "Offset / 1000h is the locality"; what is left is the place within its page
abbrev pub page : ℕ
page = 0x1000

abbrev pub page_of : ℕ → ℕ
page_of o = o / page

abbrev pub place_of : ℕ → ℕ
place_of o = o % page

-- "bus offset above 4FFFh" is refused
abbrev pub last_offset : ℕ
last_offset = 0x4fff

-- "Within a page: 0000 ACCESS; 0008..000B INT_ENABLE; 000C INT_VECTOR; 0010..0013 INT_STATUS; 0014..0017 INTF_CAPABILITY;
-- 0018..001A STS; 0024..0027 FIFO; 0F00..0F04 identity bytes."
abbrev pub access : ℕ
access = 0x000

abbrev pub int_enable : ℕ
int_enable = 0x008

abbrev pub int_vector : ℕ
int_vector = 0x00c

abbrev pub int_status : ℕ
int_status = 0x010

abbrev pub intf_capability : ℕ
intf_capability = 0x014

abbrev pub sts : ℕ
sts = 0x018

abbrev pub data_fifo : ℕ
data_fifo = 0x024

abbrev pub identity : ℕ
identity = 0xf00

-- "Only in page 4: 4020..4023 hash end, 4028..402B hash start; 4024..4027 takes hash data while a sequence is open."
abbrev pub hash_locality : ℕ
hash_locality = 4

abbrev pub hash_end : ℕ
hash_end = 0x4020

abbrev pub hash_data : ℕ
hash_data = 0x4024

abbrev pub hash_start : ℕ
hash_start = 0x4028
