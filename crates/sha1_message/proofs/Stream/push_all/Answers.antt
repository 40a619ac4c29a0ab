-- Each turn joins one byte more. Assumes nothing.
use Rattle.std.proofs.Common.{◌≡◌, ℕ, ◌+◌, ◌<◌, List, length, get_or, take, sym, ap, ◌∙◌, add-one, arith, take_all}
use Rattle.std.proofs.Math.Seq.{take-suc}
use Rattle.sha1_message.specs.declared.Stream.{Stream}
use Rattle.sha1_message.specs.Stream.{join, join_all}
use Rattle.sha1_message.proofs.StreamLaws.{all_none, all_snoc, join_parts}
use Rattle.sha1_message.proofs.Stream.push_all.Goals as goal

one_more : (m : List ℕ) (i : ℕ) (s₀ s t : Stream) → s ≡ join_all s₀ (take i m) → i < length m → t ≡ join s (get_or m i 0) → t ≡ join_all s₀ (take (i + 1) m)
one_more m i s₀ s t e l p = rw (add-one, take-suc m i 0 l, all_snoc (take i m) (get_or m i 0) s₀, ← e) p

pub loop-b-init : goal.loop-b-init
loop-b-init c = (sym (all_none _), omega arith)

pub loop-b-preserved : goal.loop-b-preserved
loop-b-preserved c =
    let l = c.loop-b in
    let s : Stream = record { h = l.h; tail = l.tail; count = l.count } in (
      one_more _ l.b-index _ s _ l.invariant.0 c.loop-b-test.true (join_parts s _ _ _ c.join_lent-next.ensures.value c.join_lent-next.ensures.tail_after),
      omega arith,
    )

pub returns : goal.returns
returns c =
    let l = c.loop-b in
    l.invariant.0 ∙ ap (join_all c.args.self.now) (take_all l.b-index c.args.m.now (omega arith))
