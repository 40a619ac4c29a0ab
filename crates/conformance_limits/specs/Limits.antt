-- The limits of document 01 with document 02's W6 ("C may be up to 8,192, and the burst cap becomes 512"), as a monitor and a driver meet them. The
-- calls' definitions have names for them; the numerals here are the papers'. Assumes nothing.
use Rattle.std.specs.Prelude.{ℕ, ◌≡◌, Bool, false, cond, ◌&&◌, List, [], ◌∷◌, eqb, leb, length, replicate, Some}
use Rattle.arbiter.specs.State.{locality, with_active, fresh_arbiter}
use Rattle.record.specs.Record.{no_causes, closed_launch, with_parts}
use Rattle.record.specs.declared.Device.{Device}
use Rattle.record.specs.declared.Phase.{Phase}
use Rattle.record.specs.declared.Phase.TheVariants.{Ready, Reception, Execution, Completion}
use Rattle.claims.specs.Calls as call
use Rattle.claims.specs.Calls.{State, state, byte, Answer, called, refusal_of}

-- ---- the FIFOs' lengths

-- "2 a FIFO length outside 1,024..8,192, or the two differ"
abbrev pub lengths_refusal : ℕ → ℕ → ℕ
lengths_refusal w r = cond (leb 1024 w && leb w 8192 && eqb w r) 0 2

-- "Power-on knows only 2", whatever was there before
abbrev pub Lengths : Type 0
Lengths = (d : Device) (w r : List ℕ) (established : Bool) (identity : List ℕ)
    → refusal_of (call.power_on established identity) (state d w r) ≡ lengths_refusal (length w) (length r)

-- ---- the counts, where no FIFO is lent

-- locality 0 is active and in that phase, nobody waits, the sequence is closed; identity and PCRs are those of d
abbrev pub in_phase : Device → Phase → Device
in_phase d p =
    with_parts d
    (record {
      arbiter = with_active fresh_arbiter (Some (locality 0));
      interrupts = record { global = false; enable = no_causes; status = no_causes };
      established = false;
      run = 0;
    })
    p closed_launch d.pcrs

-- the refusal number that the question for PCR 0 gets, which is lent no FIFO
abbrev pub asked : Device → Phase → ℕ
asked d p = refusal_of (call.pcr_value 0) (state (in_phase d p) [] [])

-- "Where no FIFO is lent, the shape rule takes the greatest allowed C, 8,192, for C": "Reception count outside 1..C; Execution count outside 10..C;
-- answer length outside 10..C or bytes read above it"
pub record Counts (d : Device) : Type 0 where
  pub received : (n : ℕ) → asked d (Reception n) ≡ cond (leb 1 n && leb n 8192) 0 6
  pub executed : (n : ℕ) → asked d (Execution n) ≡ cond (leb 10 n && leb n 8192) 0 6
  pub answered : (n k : ℕ) → asked d (Completion n k) ≡ cond (leb 10 n && leb n 8192 && leb k n) 0 6

-- ---- burstCount, as a driver reads it

-- in that phase, with FIFOs of 8,192 bytes; the WriteFIFO has the head of a command whose size ends in these two bytes
abbrev pub declaring : ℕ → ℕ → Device → Phase → State
declaring high low d p = state (in_phase d p) (0x00 ∷ 0xc1 ∷ 0x00 ∷ 0x00 ∷ high ∷ low ∷ replicate 8186 0x00) (replicate 8192 0x00)

-- how many bytes are received or read, and what 0019 and 001A give then
pub record Burst : Type 0 where
  pub done : ℕ
  pub low : ℕ
  pub high : ℕ

abbrev pub burst : ℕ → ℕ → ℕ → Burst
burst n l h = record { done = n; low = l; high = h }

-- an accepted read that gives the byte
abbrev pub gives : ℕ → Answer
gives v = record { refusal = 0; value = byte v }

-- what the two reads are answered in the state that each count leads to, and what they should be
abbrev pub answers_in : (ℕ → State) → List Burst → List Answer
answers_in s [] = []
answers_in s (b ∷ l) = (called (call.read 0x0019) (s b.done)).answer ∷ (called (call.read 0x001a) (s b.done)).answer ∷ answers_in s l

abbrev pub wanted : List Burst → List Answer
wanted [] = []
wanted (b ∷ l) = gives b.low ∷ gives b.high ∷ wanted l

abbrev pub Bursts : (ℕ → State) → List Burst → Type 0
Bursts s l = answers_in s l ≡ wanted l

-- "in Ready 512"
abbrev pub ready : List Burst
ready = burst 0 0x00 0x02 ∷ []

-- "in Reception while more is expected, the lesser of 512 and C minus the bytes received": of a command of 8,192
abbrev pub sending : List Burst
sending =
    burst 1 0x00 0x02 ∷ burst 6 0x00 0x02 ∷ burst 7679 0x00 0x02 ∷ burst 7680 0x00 0x02 ∷ burst 7681 0xff 0x01 ∷ burst 7935 0x01 0x01 ∷ burst 7936 0x00 0x01
    ∷ burst 7937 0xff 0x00 ∷ burst 8191 0x01 0x00 ∷ burst 8192 0x00 0x00 ∷ []

-- of a command of 6,000: C counts and not the declared size, and "otherwise 0" once no more is expected
abbrev pub sending_less : List Burst
sending_less = burst 5487 0x00 0x02 ∷ burst 5489 0x00 0x02 ∷ burst 5999 0x00 0x02 ∷ burst 6000 0x00 0x00 ∷ []

-- of a command of 8,000: the room in C is below the cap, and the declared size nearer still
abbrev pub sending_near : List Burst
sending_near = burst 7800 0x88 0x01 ∷ burst 7999 0xc1 0x00 ∷ burst 8000 0x00 0x00 ∷ []

-- "in Completion the lesser of 512 and the bytes unread": of an answer of 8,192
abbrev pub reading : List Burst
reading =
    burst 0 0x00 0x02 ∷ burst 7679 0x00 0x02 ∷ burst 7680 0x00 0x02 ∷ burst 7681 0xff 0x01 ∷ burst 7935 0x01 0x01 ∷ burst 7936 0x00 0x01 ∷ burst 7937 0xff 0x00
    ∷ burst 8191 0x01 0x00 ∷ burst 8192 0x00 0x00 ∷ []

-- ---- the claim

pub record LimitsClaim : Type 0 where
  pub lengths : Lengths
  pub counts : (d : Device) → Counts d
  pub when_ready : (d : Device) → Bursts (λ n. declaring 0x00 0x00 d Ready) ready
  pub while_sending : (d : Device) → Bursts (λ n. declaring 0x20 0x00 d (Reception n)) sending
  pub while_sending_less : (d : Device) → Bursts (λ n. declaring 0x17 0x70 d (Reception n)) sending_less
  pub while_sending_near : (d : Device) → Bursts (λ n. declaring 0x1f 0x40 d (Reception n)) sending_near
  pub while_reading : (d : Device) → Bursts (λ n. declaring 0x00 0x00 d (Completion 8192 n)) reading
