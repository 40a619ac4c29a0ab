-- What the exported functions take: a message of fewer bytes than a limit, and twenty bytes for the digest.
use Rattle.std.specs.Prelude.{Bool, false, cond, List, ℕ, length, ltb, eqb}
use Rattle.sha1_block.specs.Sha1.{sha1}

unfoldable pub accepts : ℕ → List ℕ → List ℕ → Bool
accepts limit m out = cond (eqb (length out) 20) (ltb (length m) limit) false

-- the digest of an accepted message; else what was there
unfoldable pub digest_in : ℕ → List ℕ → List ℕ → List ℕ
digest_in limit m out = cond (accepts limit m out) (sha1 m) out
