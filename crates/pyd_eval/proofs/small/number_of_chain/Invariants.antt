use Rattle.std.proofs.Common.{drop}
use Rattle.pyd_eval.specs.Small.{Remains}
use Rattle.pyd_eval.proofs.small.number_of_chain.Given as goal

abbrev pub invariant-loop-link : goal.invariant-loop-link
invariant-loop-link l =
    Remains l.on l.first l.links (drop l.link-index l.links) l.line l.slots l.left.value
