-- A capture (document 02, W1): its head, its records, how many of them are played within a limit, and the word for what is left. Assumes
-- nothing.
use Rattle.std.specs.Prelude.{ℕ, ◌+◌, ◌*◌, min, Option, Some, None, Bool, true, false, cond, ◌&&◌, not, List, [], ◌∷◌, length, get_or, take, drop, eqb, leb, ltb}
use Rattle.capture.specs.declared.Cycle.{Cycle}
use Rattle.capture.specs.declared.Word.{Word}
use Rattle.capture.specs.declared.Word.TheVariants.{Budget, BadKind, BadTail, BadHead}

-- ---- the head

-- "the mark LOC, a 16-bit version 1 high byte first"
abbrev pub head : List ℕ
head = 0x4c ∷ 0x4f ∷ 0x43 ∷ 0 ∷ 1 ∷ []

-- as far as both go, the bytes are those of h
abbrev pub agrees : List ℕ → List ℕ → Bool
agrees [] bytes = true
agrees (x ∷ h) [] = true
agrees (x ∷ h) (b ∷ bytes) = eqb b x && agrees h bytes

-- not "A short head, wrong mark or version"
unfoldable pub head_good : List ℕ → Bool
head_good capture = leb (length head) (length capture) && agrees head capture

-- what stands behind the head; behind a bad one no record is looked for
unfoldable pub body_of : List ℕ → List ℕ
body_of capture = cond (head_good capture) (drop (length head) capture) []

-- ---- the records

-- "records of four bytes: kind, offset high, offset low, byte"
abbrev pub record_bytes : ℕ
record_bytes = 4

unfoldable pub cycle_at : List ℕ → ℕ → Cycle
cycle_at body i =
    record {
      kind = get_or body (record_bytes * i) 0;
      offset = 256 * get_or body (record_bytes * i + 1) 0 + get_or body (record_bytes * i + 2) 0;
      byte = get_or body (record_bytes * i + 3) 0;
    }

-- the whole records of the bytes
unfoldable pub records : List ℕ → List Cycle
records [] = []
records (k ∷ []) = []
records (k ∷ h ∷ []) = []
records (k ∷ h ∷ l ∷ []) = []
records (k ∷ h ∷ l ∷ v ∷ rest) = record { kind = k; offset = 256 * h + l; byte = v } ∷ records rest

-- "'bad kind' for a kind above 3"
abbrev pub last_kind : ℕ
last_kind = 3

-- a record's bytes, of which the first is its kind
abbrev pub known : List ℕ → Bool
known [] = false
known (k ∷ rest) = leb k last_kind

unfoldable pub before_bad_kind : List Cycle → List Cycle
before_bad_kind [] = []
before_bad_kind (c ∷ cs) = cond (leb c.kind last_kind) (c ∷ before_bad_kind cs) []

-- "the whole records before the first bad kind"
abbrev pub sound : List ℕ → List Cycle
sound body = before_bad_kind (records body)

-- ---- what is played within a limit, and what is left

-- "A bad kind stops it and isn't played."
unfoldable pub played : ℕ → List ℕ → List Cycle
played limit capture = take limit (sound (body_of capture))

-- "its count is the lesser of that limit and the whole records before the first bad kind"
abbrev pub count_of : ℕ → List ℕ → ℕ
count_of limit body = min limit (length (sound body))

unfoldable pub count : ℕ → List ℕ → ℕ
count limit capture = count_of limit (body_of capture)

-- n records were played and so many bytes are left: "prints 'budget' if bytes remain, 'bad kind' for a kind above 3, 'bad tail' for one to
-- three bytes over, whatever they hold"; "With bytes left after 10,000 records, 'budget' stands in place of the other two words."
unfoldable pub word_for : ℕ → ℕ → ℕ → Option Word
word_for limit n left =
    cond (eqb left 0) None
    (cond (eqb n limit) (Some Budget)
    (cond (ltb left record_bytes) (Some BadTail) (Some BadKind)))

-- the bytes that n records leave
abbrev pub left_of : ℕ → List ℕ → ℕ
left_of n body = length (drop (record_bytes * n) body)

abbrev pub word_of : ℕ → List ℕ → Option Word
word_of limit body = word_for limit (count_of limit body) (left_of (count_of limit body) body)

-- "A short head, wrong mark or version prints 'bad head' alone."
unfoldable pub word : ℕ → List ℕ → Option Word
word limit capture = cond (head_good capture) (word_of limit (body_of capture)) (Some BadHead)

-- ---- of the bytes that have come so far

abbrev pub ends : Option Word → Bool
ends None = false
ends (Some Budget) = true
ends (Some BadKind) = true
ends (Some BadTail) = false
ends (Some BadHead) = true

-- do they decide what is played and which word there is, whatever comes behind them
unfoldable pub settled : ℕ → List ℕ → Bool
settled limit capture = cond (ltb (length capture) (length head)) (not (agrees head capture)) (ends (word limit capture))
