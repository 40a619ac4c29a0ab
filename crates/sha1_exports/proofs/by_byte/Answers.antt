-- Each turn joins one byte more. Assumes nothing.
use Rattle.std.proofs.Common.{◌≡◌, ℕ, ◌+◌, ◌≤◌, ◌<◌, List, length, get_or, take, sym, ap, ◌∙◌, add-one, arith, take_all}
use Rattle.std.proofs.Math.Seq.{take-suc}
use Rattle.sha1_message.specs.declared.Stream.{Stream}
use Rattle.sha1_block.specs.Sha1.{sha1}
use Rattle.sha1_message.specs.Stream.{begin, join, join_all, finish}
use Rattle.sha1_message.proofs.StreamLaws.{all_none, all_snoc, join_parts, digest}
use Rattle.sha1_exports.proofs.by_byte.Goals as goal

one_more : (m : List ℕ) (s : Stream) (g t : List ℕ) → s ≡ join_all begin (take s.count m) → s.count < length m → g ≡ (join s (get_or m s.count 0)).h → t ≡ (join s (get_or m s.count 0)).tail
    → record { h = g; tail = t; count = s.count + 1 } ≡ join_all begin (take (s.count + 1) m)
one_more m s g t e l p q =
    let b : ℕ = get_or m s.count 0 in
    join_parts s b g t p q ∙ ap (λ (z : Stream). join z b) e ∙ rw (add-one, take-suc m s.count 0 l) (sym (all_snoc (take s.count m) b begin))

all_joined : (m r : List ℕ) (s : Stream) → s ≡ join_all begin (take s.count m) → length m ≤ s.count → r ≡ finish s → r ≡ sha1 m
all_joined m r s e l p = p ∙ ap finish (e ∙ ap (λ (x : List ℕ). join_all begin x) (take_all s.count m l)) ∙ digest m

pub loop-i-init : goal.loop-i-init
loop-i-init c = (rw c.begin-s.ensures (sym (all_none begin)), omega arith)

pub loop-i-preserved : goal.loop-i-preserved
loop-i-preserved c =
    let l = c.loop-i in
    (one_more _ (record { h = l.h; tail = l.tail; count = l.i }) _ _ l.invariant.0 (omega arith) c.join_lent-g.ensures.value c.join_lent-g.ensures.tail_after, omega arith)

pub returns : goal.returns
returns c =
    let l = c.loop-i in
    all_joined _ _ (record { h = l.h; tail = l.tail; count = l.i }) l.invariant.0 (omega arith) c.finish.ensures
