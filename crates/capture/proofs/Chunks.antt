-- The chunks of bytes of a size, in order. Assumes nothing.
use mathlib.Core.Path.{◌≡◌, ap, subst, ◌∙◌}
use mathlib.Core.List.{List, ◌∷◌, ◌++◌}
use Prim.Native.Nat.{ℕ, ◌<◌}
use lib.ListN.{length}
use denote.Ref.{Bor}
use Rattle.std.specs.Prelude.{Some, None}
use Rattle.std.specs.declared.slice.ChunksExact.{ChunksExact}
use Rattle.std.specs.Slice.Iter.{chunks_exact_rest, chunks_exact_size, chunks_exact_steps}
use Rattle.std.proofs.lemmas.Iterator.{YieldsList}
use Rattle.std.proofs.lemmas.Iterator.Splits.{YieldsList-from_shown_while}

-- parts that are cut off the front
pub record Cuts (size : ℕ) (parts : List ℕ → List (List ℕ)) : Type 0 where
  pub short : (l : List ℕ) → length l < size → length (parts l) ≡ 0
  pub front : (x l : List ℕ) → length x ≡ size → parts (x ++ l) ≡ x ∷ parts l

pub yields_parts : (size : ℕ) (parts : List ℕ → List (List ℕ)) → Cuts size parts → (bytes : List ℕ) (s : ChunksExact ℕ) → chunks_exact_rest s ≡ bytes → chunks_exact_size s ≡ size
    → YieldsList chunks_exact_steps (λ (y : Bor (List ℕ)). y.now) s (parts bytes)
yields_parts size parts cuts bytes s rest is =
    subst (λ (l : List ℕ). YieldsList chunks_exact_steps (λ (y : Bor (List ℕ)). y.now) s (parts l)) rest
    (YieldsList-from_shown_while chunks_exact_steps (λ (y : Bor (List ℕ)). y.now) (λ (t : ChunksExact ℕ). parts (chunks_exact_rest t)) (λ (t : ChunksExact ℕ). chunks_exact_size t ≡ size) none some s is)
  where
    none : (s t : ChunksExact ℕ) → chunks_exact_size s ≡ size → chunks_exact_steps s None t → length (parts (chunks_exact_rest s)) ≡ 0
    none s t e q = cuts.short (chunks_exact_rest s) (rw e at q.1.0)

    some : (s : ChunksExact ℕ) (x : Bor (List ℕ)) (t : ChunksExact ℕ) → chunks_exact_size s ≡ size → chunks_exact_steps s (Some x) t
        → (chunks_exact_size t ≡ size) × (parts (chunks_exact_rest s) ≡ x.now ∷ parts (chunks_exact_rest t))
    some s x t e q = (q.0 ∙ e, ap parts q.1.0 ∙ cuts.front x.now (chunks_exact_rest t) (q.1.1 ∙ e))
