-- What W1 says of every capture and every limit, claimed of the definitions with the paper's numerals: how many records are played, which
-- bytes they are, which word there is, and when reading on changes nothing. Assumes nothing.
use Rattle.std.specs.Prelude.{ℕ, ◌+◌, ◌*◌, ◌≤◌, ◌<◌, ◌≡◌, true, false, List, [], ◌∷◌, ◌++◌, ◌⊎◌, ◌↔◌, Option, Some, None, length, get_or}
use Rattle.capture.specs.declared.Cycle.{Cycle}
use Rattle.capture.specs.declared.Word.{Word}
use Rattle.capture.specs.declared.Word.TheVariants.{Budget, BadKind, BadTail, BadHead}
use Rattle.capture.specs.Capture.{played, count, word, settled}

-- a capture with a good head: 4C 4F 43 00 01, then the body
abbrev pub headed : List ℕ → List ℕ
headed body = 0x4c ∷ 0x4f ∷ 0x43 ∷ 0x00 ∷ 0x01 ∷ body

-- the kind of record i: the first of its four bytes
abbrev pub kind_of : List ℕ → ℕ → ℕ
kind_of body i = get_or body (4 * i) 0

-- "the lesser of that limit and the whole records before the first bad kind": n is within the limit, n records are whole and of kinds 0 to 3, and
-- there n ends for one of three reasons
pub record Counted (limit : ℕ) (body : List ℕ) (n : ℕ) : Type 0 where
  pub within : n ≤ limit
  pub whole : 4 * n ≤ length body
  pub known : (i : ℕ) → i < n → kind_of body i ≤ 3
  pub stops : (n ≡ limit) ⊎ ((length body < 4 * n + 4) ⊎ (3 < kind_of body n))

-- record i of those played: "kind, offset high, offset low, byte"
pub record Fields (body : List ℕ) (i : ℕ) (c : Cycle) : Type 0 where
  pub kind : c.kind ≡ get_or body (4 * i) 0
  pub offset : c.offset ≡ 256 * get_or body (4 * i + 1) 0 + get_or body (4 * i + 2) 0
  pub byte : c.byte ≡ get_or body (4 * i + 3) 0

-- the records played are the first n
pub record Plays (body : List ℕ) (n : ℕ) (cs : List Cycle) : Type 0 where
  pub number : length cs ≡ n
  pub fields : (i : ℕ) (d : Cycle) → i < n → Fields body i (get_or cs i d)

-- after n records: no word exactly if nothing is left; "budget" exactly if the limit is reached and bytes are left; "bad tail" exactly if it is not
-- and one to three are, whatever they hold; "bad kind" exactly if it is not and the next whole record has a kind above 3
pub record Words (limit : ℕ) (body : List ℕ) (n : ℕ) (w : Option Word) : Type 0 where
  pub nothing : (w ≡ None) ↔ (length body ≡ 4 * n)
  pub budget : (w ≡ Some Budget) ↔ ((n ≡ limit) × (4 * n < length body))
  pub bad_tail : (w ≡ Some BadTail) ↔ ((n < limit) × (4 * n < length body) × (length body < 4 * n + 4))
  pub bad_kind : (w ≡ Some BadKind) ↔ ((n < limit) × (4 * n + 4 ≤ length body) × (3 < kind_of body n))

-- "A short head, wrong mark or version prints 'bad head' alone."
pub record Headless (limit : ℕ) (capture : List ℕ) : Type 0 where
  pub none : played limit capture ≡ []
  pub number : count limit capture ≡ 0
  pub bad_head : word limit capture ≡ Some BadHead

pub record CaptureClaim : Type 0 where
  pub counted : (limit : ℕ) (body : List ℕ) → Counted limit body (count limit (headed body))
  pub plays : (limit : ℕ) (body : List ℕ) → Plays body (count limit (headed body)) (played limit (headed body))
  pub words : (limit : ℕ) (body : List ℕ) → Words limit body (count limit (headed body)) (word limit (headed body))
  pub headless : (limit : ℕ) (capture : List ℕ) → ((body : List ℕ) → capture ≡ headed body → ⊥) → Headless limit capture
  -- bytes that settle a case are played alike whatever comes behind them, and get the same word; others get another word behind some bytes
  pub settles : (limit : ℕ) (capture more : List ℕ) → settled limit capture ≡ true
      → (played limit (capture ++ more) ≡ played limit capture) × (word limit (capture ++ more) ≡ word limit capture)
  pub unsettled : (limit : ℕ) (capture : List ℕ) → settled limit capture ≡ false
      → (more : List ℕ) × (word limit (capture ++ more) ≡ word limit capture → ⊥)
