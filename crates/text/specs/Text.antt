-- Numbers as text, and text put into lent bytes. Assumes nothing.
use Rattle.std.specs.Prelude.{ℕ, zero, suc, ◌+◌, ◌/◌, ◌%◌, min, ◌≡◌, cond, List, [], ◌∷◌, ◌++◌, length, ltb}
use Rattle.std.proofs.lemmas.List.Edits.{sets}

-- n in decimal with no 0 in front, in at most so many digits
abbrev pub decimal_in : ℕ → ℕ → List ℕ
decimal_in zero n = []
decimal_in (suc k) n = cond (ltb n 10) ((48 + n) ∷ []) (decimal_in k (n / 10) ++ ((48 + n % 10) ∷ []))

-- a number of 64 bits has at most 20
unfoldable pub decimal : ℕ → List ℕ
decimal n = decimal_in 20 n

-- a hexadecimal digit, upper case
abbrev pub hex_digit : ℕ → ℕ
hex_digit d = cond (ltb d 10) (48 + d) (55 + d)

-- a byte's two
unfoldable pub hex_byte : ℕ → List ℕ
hex_byte v = hex_digit (v / 16) ∷ hex_digit (v % 16) ∷ []

-- text that was put into the bytes lent from a place on, as far as there is room: what they hold then, and the place behind it
pub record Puts (lent : List ℕ) (at : ℕ) (text held : List ℕ) (next : ℕ) : Type 0 where
  pub holds : held ≡ sets lent at text
  pub place : next ≡ min (at + length text) (length lent)
