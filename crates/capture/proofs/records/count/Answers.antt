-- A bad kind comes, or no more records. Assumes nothing.
use Rattle.std.proofs.Common.{◌≡◌, ◌≤◌, ◌<◌, ◌+◌, ◌/◌, min, ℕ, List, arith, length, length-take, ap, ◌∙◌}
use Rattle.std.specs.Simd.{first_chunks}
use Rattle.capture.specs.Claims.{kind_of}
use Rattle.capture.proofs.RecordLaws.{bad_kind_comes, no_more_records, kind_in, known_more}
use Rattle.capture.proofs.records.count.Goals as goal

pub loop-n-init : goal.loop-n-init
loop-n-init c = λ i l. absurd (omega arith)

pub returns-then-kind-gt-LAST_KIND : goal.returns-then-kind-gt-LAST_KIND
returns-then-kind-gt-LAST_KIND c =
    let most : c.min-most.result ≡ min c.args.limit (length c.args.body.now / 4) = c.min-most.ensures ∙ ap (min c.args.limit) c.as_chunks.ensures.front_len in
    let more : c.loop-n.n < c.min-most.result = omega (arith, c.loop-n-test.true, length-take c.min-most.result c.as_chunks.result.0.now) in
    bad_kind_comes _ _ c.loop-n.n _ most c.loop-n.invariant more
    (rw (kind_in c.args.body.now c.min-most.result c.loop-n.n _ c.as_chunks.ensures.front (omega arith) more) at c.if-kind-gt-LAST_KIND.true)

pub loop-n-preserved : goal.loop-n-preserved
loop-n-preserved c =
    let most : c.min-most.result ≡ min c.args.limit (length c.args.body.now / 4) = c.min-most.ensures ∙ ap (min c.args.limit) c.as_chunks.ensures.front_len in
    let more : c.loop-n.n < c.min-most.result = omega (arith, c.loop-n-test.true, length-take c.min-most.result c.as_chunks.result.0.now) in
    known_more _ c.loop-n.n c.loop-n.invariant
    (rw (kind_in c.args.body.now c.min-most.result c.loop-n.n _ c.as_chunks.ensures.front (omega arith) more) at c.if-kind-gt-LAST_KIND.false)

pub returns : goal.returns
returns c =
    let most : c.min-most.result ≡ min c.args.limit (length c.args.body.now / 4) = c.min-most.ensures ∙ ap (min c.args.limit) c.as_chunks.ensures.front_len in
    let all : c.min-most.result ≡ c.loop-n.n =
    omega (arith, c.loop-n-test.false, c.loop-n.auto.n-end, length-take c.min-most.result c.as_chunks.result.0.now, c.as_chunks.ensures.front_len) in
    all ∙ no_more_records _ _ c.loop-n.n _ most c.loop-n.invariant (omega arith) (omega arith)
