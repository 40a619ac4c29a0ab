-- The bench sheet (document 01, 'Bench sheet (C = 1,024, not established)'): P1 to P12, each a list of calls from a fresh power-on,
-- with what each of them has to give, and further entries of our own. The numerals of P1 to P12 are the papers'. Assumes nothing.
use Rattle.std.specs.Prelude.{ℕ, zero, suc, ◌+◌, ◌/◌, ◌%◌, ◌≡◌, Bool, true, false, List, [], ◌∷◌, ◌++◌, drop, replicate}
use Rattle.record.specs.declared.Device.{Device}
use Rattle.claims.specs.Calls as call
use Rattle.claims.specs.Calls.{Call, State, state, Value, byte, bytes, flag, nothing, Answer, called, left}

-- ---- what a line of the sheet says

-- `gets` would do for most lines; the first four have forms of their own because they are computed in fewer steps
pub data Line : Type 0 where
  -- offset, byte: the write is accepted
  write : ℕ → ℕ → Line
  -- offset, byte: so too, and it changes nothing
  ignored : ℕ → ℕ → Line
  -- offset, byte: the read is accepted and gives the byte
  reads : ℕ → ℕ → Line
  -- number, run number, bytes: an engine's answer gets the refusal number
  answer : ℕ → ℕ → List ℕ → Line
  -- any call gets the refusal number and the value
  gets : Call → ℕ → Value → Line
  -- so too, and leaves all as it was
  leaves : Call → ℕ → Value → Line
  -- the record's run number
  run : ℕ → Line

-- "accepted"
abbrev pub accepted : ℕ
accepted = 0

-- a read at the offset and a write of 00h are refused with the number, and change nothing: "a refused read gives FFh"
abbrev pub refused : ℕ → ℕ → List Line
refused o n = leaves (call.read o) n (byte 0xff) ∷ leaves (call.write o 0x00) n nothing ∷ []

-- a reset is accepted
abbrev pub reset : Line
reset = gets call.reset accepted nothing

-- the window shows these bytes
abbrev pub shows : List ℕ → Line
shows b = gets call.window accepted (bytes b)

-- the interrupt line is asserted, or not
abbrev pub line : Bool → Line
line b = gets call.interrupt_line accepted (flag b)

-- the PCR has this byte twenty times
abbrev pub holds : ℕ → ℕ → Line
holds i v = gets (call.pcr_value i) accepted (bytes (replicate 20 v))

-- may the locality reset the PCR, and may it extend it
abbrev pub may : ℕ → ℕ → Bool → Bool → List Line
may i x r e = gets (call.may_reset i x) accepted (flag r) ∷ gets (call.may_extend i x) accepted (flag e) ∷ []

-- ---- how the lines are played: each call is handed what the last one left

-- "fresh": a power-on with FIFOs of 1,024 bytes, "not established", the identity bytes 0; d is whatever was there
abbrev pub fresh : Device → State
fresh d = left (call.power_on false (replicate 5 0)) (state d (replicate 1024 0) (replicate 1024 0))

-- what is looked at: a run number, a call's answer, or all that it leaves
pub data Seen : Type 0 where
  number : ℕ → Seen
  answered : Answer → Seen
  all : State → Seen

-- what is seen, and what the sheet wants to be seen
pub record Check : Type 0 where
  pub got : Seen
  pub wanted : Seen

abbrev pub numbered : ℕ → ℕ → Check
numbered g w = record { got = number g; wanted = number w }

abbrev pub answers : Answer → ℕ → Value → Check
answers g n v = record { got = answered g; wanted = answered (record { refusal = n; value = v }) }

-- t was left where s was handed
abbrev pub unchanged : State → State → Check
unchanged t s = record { got = all t; wanted = all s }

unfoldable pub checks : State → List Line → List Check
checks s [] = []
checks s (write o v ∷ l) = answers (called (call.write o v) s).answer accepted nothing ∷ checks (left (call.write o v) s) l
checks s (ignored o v ∷ l) =
    answers (called (call.write o v) s).answer accepted nothing ∷ unchanged (left (call.write o v) s) s ∷ checks (left (call.write o v) s) l
checks s (reads o v ∷ l) = answers (called (call.read o) s).answer accepted (byte v) ∷ checks (left (call.read o) s) l
checks s (answer n k a ∷ l) = answers (called (call.respond k a) s).answer n nothing ∷ checks (left (call.respond k a) s) l
checks s (gets c n v ∷ l) = answers (called c s).answer n v ∷ checks (left c s) l
checks s (leaves c n v ∷ l) = answers (called c s).answer n v ∷ unchanged (left c s) s ∷ checks (left c s) l
checks s (run n ∷ l) = numbered s.device.control.run n ∷ checks s l

abbrev pub gots : List Check → List Seen
gots [] = []
gots (c ∷ l) = c.got ∷ gots l

abbrev pub wants : List Check → List Seen
wants [] = []
wants (c ∷ l) = c.wanted ∷ wants l

-- what is seen is what is wanted, line by line
abbrev pub Holds : State → List Line → Type 0
Holds s l = gots (checks s l) ≡ wants (checks s l)

-- ---- the sheet

-- "P1 fresh: 0000 reads 81h."
abbrev pub p1 : List Line
p1 = reads 0x0000 0x81 ∷ []

-- "P2 write 02 at 0000: reads A1h."
abbrev pub p2 : List Line
p2 = write 0x0000 0x02 ∷ reads 0x0000 0xa1 ∷ []

-- "P3 then 02 at 2000: .. 0000 reads A5h."; document 02, W2: "In P3, 2000 now reads 83h"
abbrev pub p3 : List Line
p3 = p2 ++ (write 0x2000 0x02 ∷ reads 0x2000 0x83 ∷ reads 0x0000 0xa5 ∷ [])

-- "P4 then 02 at 3000 and 20 at 0000: 3000 reads A5h."
abbrev pub p4 : List Line
p4 = p3 ++ (write 0x3000 0x02 ∷ write 0x0000 0x20 ∷ reads 0x3000 0xa5 ∷ [])

-- "P5 08 at 2000: nothing."
abbrev pub p5 : List Line
p5 = p4 ++ (ignored 0x2000 0x08 ∷ [])

-- "P6 08 at 4000: 3000 reads 95h."
abbrev pub p6 : List Line
p6 = p5 ++ (write 0x4000 0x08 ∷ reads 0x3000 0x95 ∷ [])

-- "P7 fresh, 02 at 0000, 40 at 0018: STS C0h, .."; document 02, W6: "P7 gives 00 at 0019 and 02 at 001A"
abbrev pub p7 : List Line
p7 = write 0x0000 0x02 ∷ write 0x0018 0x40 ∷ reads 0x0018 0xc0 ∷ reads 0x0019 0x00 ∷ reads 0x001a 0x02 ∷ []

-- a command's first six bytes, of which the last two are the low ones of the size
abbrev pub head : ℕ → ℕ → List ℕ
head high low = 0x00 ∷ 0xc1 ∷ 0x00 ∷ 0x00 ∷ high ∷ low ∷ []

-- bytes that the paper leaves free: byte number i is i mod 251, n of them from number i on
abbrev pub filler : ℕ → ℕ → List ℕ
filler i zero = []
filler i (suc n) = i % 251 ∷ filler (i + 1) n

-- a FIFO write for each byte, and a FIFO read
abbrev pub send : List ℕ → List Line
send [] = []
send (v ∷ b) = write 0x0024 v ∷ send b

abbrev pub receive : List ℕ → List Line
receive [] = []
receive (v ∷ b) = reads 0x0024 v ∷ receive b

-- "00 C4 00 00 00 0A 00 00 00 19"
abbrev pub bad_size : List ℕ
bad_size = 0x00 ∷ 0xc4 ∷ 0x00 ∷ 0x00 ∷ 0x00 ∷ 0x0a ∷ 0x00 ∷ 0x00 ∷ 0x00 ∷ 0x19 ∷ []

-- the rest of a command: n free bytes, after which more is expected, and the last one, after which it is not
abbrev pub complete : ℕ → List Line
complete n = send (filler 6 n) ++ (reads 0x0018 0x88 ∷ []) ++ send (filler (6 + n) 1) ++ (reads 0x0018 0x80 ∷ [])

-- go, and the command b runs as run n: no answer is there yet, and the WriteFIFO has the command
abbrev pub runs : ℕ → List ℕ → List Line
runs n b = write 0x0018 0x20 ∷ run n ∷ reads 0x0018 0x80 ∷ reads 0x0024 0xff ∷ shows b ∷ []

-- burstCount, low byte first
abbrev pub burst : ℕ → List Line
burst n = reads 0x0019 (n % 256) ∷ reads 0x001a (n / 256) ∷ []

-- "P8 after 00 C1 00 00 00 0A: 88h, go ignored; after ten bytes 80h, an eleventh ignored; go: run 1."
abbrev pub p8 : List Line
p8 =
    p7
    ++ (send (head 0x00 0x0a) ++ (reads 0x0018 0x88 ∷ ignored 0x0018 0x20 ∷ []) ++ complete 3
    ++ (ignored 0x0024 0xff ∷ []) ++ runs 1 (head 0x00 0x0a ++ filler 6 4))

-- "P9 size 9: nine bytes, go, STS 90h; ten bytes read, then FFh and 80h; retry, 90h."
abbrev pub p9 : List Line
p9 =
    p7
    ++ (send (head 0x00 0x09) ++ complete 2 ++ (write 0x0018 0x20 ∷ reads 0x0018 0x90 ∷ []) ++ receive bad_size
    ++ (reads 0x0024 0xff ∷ reads 0x0018 0x80 ∷ write 0x0018 0x02 ∷ reads 0x0018 0x90 ∷ []))

-- "P10 size 1,024 runs; .."
abbrev pub p10 : List Line
p10 = p7 ++ (send (head 0x04 0x00) ++ complete 1017 ++ runs 1 (head 0x04 0x00 ++ filler 6 1018))

-- ".. 1,025 is answered 19h after 1,024 bytes."
abbrev pub p10' : List Line
p10' = p7 ++ (send (head 0x04 0x01) ++ complete 1017 ++ (shows (head 0x04 0x01 ++ filler 6 1018) ∷ write 0x0018 0x20 ∷ run 0 ∷ reads 0x0018 0x90 ∷ []) ++ receive bad_size)

-- "P11 size 1,024, burst at 960 received: 64; at 961: 63; at 1,023: 1."; document 02, W6: "P11 keeps its values, since C binds there"
abbrev pub p11 : List Line
p11 =
    p7
    ++ (send (head 0x04 0x00) ++ send (filler 6 954) ++ burst 64 ++ send (filler 960 1) ++ burst 63 ++ send (filler 961 62) ++ burst 1
    ++ (shows (head 0x04 0x00 ++ filler 6 1017) ∷ []))

-- "P12 4FFFh reads FFh; 5000h is refused, 1."
abbrev pub p12 : List Line
p12 = reads 0x4fff 0xff ∷ refused 0x5000 1

-- ---- further entries, our own: what P1 to P12 do not look at

-- a seizure by the active locality, and one by a lower, change nothing
abbrev pub seizures : List Line
seizures = write 0x2000 0x02 ∷ ignored 0x2000 0x08 ∷ ignored 0x1000 0x08 ∷ reads 0x2000 0xa1 ∷ []

-- a seizure marks who is seized and sets no localityChange; a handover sets it if somebody waits, and else leaves it as it is; the mark is cleared by
-- its locality alone
abbrev pub marks : List Line
marks =
    write 0x0000 0x02 ∷ write 0x2000 0x08 ∷ reads 0x0000 0x91 ∷ reads 0x2000 0xa1 ∷ reads 0x2010 0x00
    ∷ write 0x1000 0x02 ∷ write 0x2000 0x20 ∷ reads 0x1000 0xa1 ∷ reads 0x1010 0x04 ∷ write 0x1000 0x20 ∷ reads 0x1010 0x04
    ∷ write 0x1000 0x02 ∷ write 0x1010 0x04 ∷ reads 0x1010 0x00 ∷ write 0x1000 0x20 ∷ reads 0x1000 0x81 ∷ reads 0x1010 0x00 ∷ write 0x1000 0x10 ∷ reads 0x0000 0x91 ∷ write 0x0000 0x10 ∷ reads 0x0000 0x81 ∷ []

-- a start that counts sets established, and a reset keeps it
abbrev pub established : List Line
established = reads 0x0000 0x81 ∷ write 0x4028 0x00 ∷ reads 0x0000 0x80 ∷ reads 0x4000 0xa0 ∷ write 0x4020 0x00 ∷ reads 0x4000 0x80 ∷ reset ∷ reads 0x0000 0x80 ∷ []

-- only the active locality writes INT_ENABLE and INT_STATUS; every locality reads them; the line follows
abbrev pub interrupts : List Line
interrupts =
    write 0x1000 0x02 ∷ ignored 0x2008 0xff ∷ write 0x200b 0x80 ∷ reads 0x2008 0x08 ∷ reads 0x200b 0x00 ∷ write 0x1008 0x85 ∷ write 0x100b 0x80
    ∷ reads 0x1008 0x8d ∷ reads 0x2008 0x8d ∷ reads 0x400b 0x80
    ∷ line false ∷ write 0x1018 0x40 ∷ reads 0x0010 0x80 ∷ line true ∷ write 0x0010 0x80 ∷ reads 0x1010 0x80 ∷ write 0x1010 0x80 ∷ reads 0x3010 0x00 ∷ line false ∷ []

-- in Completion a locality that is not active reads FFh at STS and FIFO, and its writes there change nothing
abbrev pub onlookers : List Line
onlookers =
    p7
    ++ (send (head 0x00 0x09) ++ complete 2
    ++ (write 0x0018 0x20 ∷ reads 0x1018 0xff ∷ reads 0x1024 0xff ∷ reads 0x0024 0x00 ∷ reads 0x0024 0xc4
    ∷ ignored 0x1018 0x02 ∷ ignored 0x2024 0x55 ∷ ignored 0x4018 0x40 ∷ reads 0x3024 0xff ∷ reads 0x0018 0x90 ∷ [])
    ++ receive (drop 2 bad_size) ++ (reads 0x0018 0x80 ∷ []))

-- an answer of 9 bytes and one of C + 1 are refused, and so is one with another number; one of 10 bytes is accepted and read, and not twice
abbrev pub engine_answers : List Line
engine_answers =
    p8
    ++ (answer 4 1 (filler 0 9) ∷ answer 4 1 (filler 0 1025) ∷ answer 3 0 (filler 0 10) ∷ answer 3 2 (filler 0 10) ∷ reads 0x0018 0x80
    ∷ answer 0 1 (filler 240 10) ∷ answer 3 1 (filler 0 10) ∷ reads 0x0018 0x90 ∷ shows (filler 240 10) ∷ [])
    ++ receive (filler 240 10) ++ burst 0 ++ (reads 0x0024 0xff ∷ shows [] ∷ [])

-- all other four wait at once, and are served from the highest down
abbrev pub all_wait : List Line
all_wait =
    write 0x2000 0x02 ∷ write 0x0000 0x02 ∷ write 0x1000 0x02 ∷ write 0x3000 0x02 ∷ write 0x4000 0x02 ∷ reads 0x2000 0xa5 ∷ reads 0x1000 0x87
    ∷ write 0x2000 0x20 ∷ reads 0x4000 0xa5 ∷ write 0x4000 0x20 ∷ reads 0x3000 0xa5 ∷ write 0x3000 0x20 ∷ reads 0x1000 0xa5 ∷ reads 0x0000 0x83
    ∷ write 0x1000 0x20 ∷ reads 0x0000 0xa1 ∷ write 0x0000 0x20 ∷ reads 0x0000 0x81 ∷ []

-- ACCESS of pages 0 to 4 reads these bytes
abbrev pub access : ℕ → ℕ → ℕ → ℕ → ℕ → List Line
access a b c d e = reads 0x0000 a ∷ reads 0x1000 b ∷ reads 0x2000 c ∷ reads 0x3000 d ∷ reads 0x4000 e ∷ []

-- document 02, W2: "Bit 2 in page x is to be 1 exactly while a locality other than x waits." In each page while nobody waits, while it waits alone
-- and with another, while it is active and another waits, and while it looks on
abbrev pub pending : List Line
pending =
    access 0x81 0x81 0x81 0x81 0x81
    ++ (write 0x0000 0x02 ∷ []) ++ access 0xa1 0x81 0x81 0x81 0x81
    ++ (write 0x1000 0x02 ∷ []) ++ access 0xa5 0x83 0x85 0x85 0x85
    ++ (write 0x2000 0x02 ∷ []) ++ access 0xa5 0x87 0x87 0x85 0x85
    ++ (write 0x1000 0x20 ∷ []) ++ access 0xa5 0x85 0x83 0x85 0x85
    ++ (write 0x2000 0x20 ∷ write 0x3000 0x02 ∷ []) ++ access 0xa5 0x85 0x85 0x83 0x85
    ++ (write 0x4000 0x02 ∷ []) ++ access 0xa5 0x85 0x85 0x87 0x87
    ++ (write 0x3000 0x20 ∷ []) ++ access 0xa5 0x85 0x85 0x85 0x83
    ++ (write 0x0000 0x20 ∷ []) ++ access 0x81 0x81 0x81 0x81 0xa1
    ++ (write 0x1000 0x02 ∷ []) ++ access 0x85 0x83 0x85 0x85 0xa5
    ++ (write 0x0000 0x02 ∷ []) ++ access 0x87 0x87 0x85 0x85 0xa5
    ++ (write 0x4000 0x20 ∷ []) ++ access 0x83 0xa5 0x85 0x85 0x85
    ++ (write 0x2000 0x08 ∷ []) ++ access 0x83 0x95 0xa5 0x85 0x85
    ++ (write 0x3000 0x08 ∷ []) ++ access 0x83 0x95 0x95 0xa5 0x85

-- bytes F0h to FFh are stored as they come
abbrev pub high_bytes : List Line
high_bytes = p7 ++ (send (0xff ∷ 0xfe ∷ 0xf0 ∷ []) ++ (shows (0xff ∷ 0xfe ∷ 0xf0 ∷ []) ∷ []))

-- "INT_VECTOR reads 0, writes ignored. Capability reads 95h, 0, 0, 0. .. Any other offset reads FFh and ignores writes; so do the hash start and
-- end offsets on a read."; "STS and FIFO read FFh .. for any locality that isn't active"; the identity bytes are 0 here
abbrev pub registers : List Line
registers =
    reads 0x000c 0x00 ∷ ignored 0x000c 0x0f ∷ reads 0x000d 0xff ∷ reads 0x0014 0x95 ∷ ignored 0x0014 0x00 ∷ reads 0x0015 0x00 ∷ reads 0x0016 0x00 ∷ reads 0x0017 0x00
    ∷ reads 0x0001 0xff ∷ ignored 0x0001 0x02 ∷ reads 0x0007 0xff ∷ reads 0x0018 0xff ∷ reads 0x001b 0xff ∷ reads 0x0024 0xff ∷ reads 0x0028 0xff ∷ reads 0x4020 0xff ∷ reads 0x4028 0xff
    ∷ reads 0x0f00 0x00 ∷ ignored 0x0f00 0x01 ∷ reads 0x0f04 0x00 ∷ reads 0x0f05 0xff ∷ reads 0x1014 0x95 ∷ reads 0x4f04 0x00 ∷ []

-- "in Completion the lesser of 512 and the bytes unread; otherwise 0": in Idle, with a whole command received, and while it runs
abbrev pub bursts : List Line
bursts =
    (write 0x0000 0x02 ∷ reads 0x0018 0x80 ∷ []) ++ burst 0
    ++ (write 0x0018 0x40 ∷ []) ++ send (head 0x00 0x0a) ++ complete 3 ++ burst 0 ++ (write 0x0018 0x20 ∷ []) ++ burst 0
    ++ (answer 0 1 (filler 0 514) ∷ reads 0x0018 0x90 ∷ []) ++ burst 512 ++ receive (filler 0 2) ++ burst 512 ++ receive (filler 2 1) ++ burst 511

-- "PCRs 0 to 16 and 23 all 00h, 17 to 22 all FFh"; a start sets "PCRs 17 to 22 all 00h"; rows of the permission table; "5 question with PCR above 23
-- or locality above 4"
abbrev pub questions : List Line
questions =
    (holds 0 0x00 ∷ holds 16 0x00 ∷ holds 17 0xff ∷ holds 22 0xff ∷ holds 23 0x00 ∷ gets (call.pcr_value 24) 5 (bytes (replicate 20 0x00)) ∷ [])
    ++ may 15 4 false true ++ may 16 0 true true ++ may 17 4 true true ++ may 17 1 false false ++ may 19 4 true false ++ may 19 3 false true ++ may 20 4 true false ++ may 20 1 false true
    ++ may 22 2 true true ++ may 22 4 false false ++ may 23 4 true true
    ++ (gets (call.may_reset 24 0) 5 (flag false) ∷ gets (call.may_extend 23 5) 5 (flag false) ∷ write 0x4028 0x00 ∷ holds 16 0x00 ∷ holds 17 0x00 ∷ holds 22 0x00 ∷ holds 23 0x00 ∷ [])

abbrev pub sheet : List (List Line)
sheet =
    p1 ∷ p2 ∷ p3 ∷ p4 ∷ p5 ∷ p6 ∷ p7 ∷ p8 ∷ p9 ∷ p10 ∷ p10' ∷ p11 ∷ p12
    ∷ seizures ∷ marks ∷ established ∷ interrupts ∷ onlookers ∷ engine_answers ∷ all_wait ∷ pending ∷ high_bytes ∷ registers ∷ bursts ∷ questions ∷ []

-- the claim: every entry holds, from a fresh power-on
abbrev pub Each : State → List (List Line) → Type 0
Each s [] = Unit
Each s (e ∷ l) = Holds s e × Each s l

abbrev pub SheetHolds : Type 0
SheetHolds = (d : Device) → Each (fresh d) sheet
