use Rattle.std.proofs.Common.{◌≡◌, length, refl, subst, arith}
use Rattle.std.specs.List.{slice_get}
use Rattle.std.proofs.lemmas.Option.{slice_get_read}
use Rattle.pyd_runs.specs.Records.{node_at}
use Rattle.pyd_here.proofs.Nodes.{place_found, place_past}
use Rattle.pyd_here.proofs.acting.place_of.Goals as goal

pub returns-then-node-number : goal.returns-then-node-number
returns-then-node-number c =
    let nodes = c.args.nodes.now in
    place_found nodes c.args.number c.loop-at.at c.index-nodes-at.result
    (slice_get_read nodes (length nodes) c.loop-at.at c.index-nodes-at.result refl
    c.loop-at-test.true c.index-nodes-at.is)
    c.if-node-number.true c.loop-at.invariant

pub returns : goal.returns
returns c =
    let nodes = c.args.nodes.now in
    let past = c.loop-at-test.false in
    let end = c.loop-at.auto.at-end in
    let same : c.loop-at.at ≡ length nodes = omega (arith, past, end) in
    subst (λ i. slice_get nodes i ≡ node_at nodes c.args.number) same
    (place_past nodes c.args.number c.loop-at.at past c.loop-at.invariant)
