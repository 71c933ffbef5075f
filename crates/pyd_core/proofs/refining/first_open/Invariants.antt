-- The first place among the nodes that are left is that of all.
use Rattle.std.proofs.Common.{◌≡◌, Some, drop}
use Rattle.pyd_runs.specs.Deciding.{is_refinable}
use Rattle.pyd_desk.specs.Reading.{given_of}
use Rattle.pyd_core.specs.Refining.{first_place_from}
use Rattle.pyd_core.proofs.refining.first_open.Given as goal

abbrev pub invariant-loop-place : goal.invariant-loop-place
invariant-loop-place l =
    first_place_from (λ n. is_refinable (given_of l.desk) (Some n)) l.place (drop l.place l.nodes)
    ≡ first_place_from (λ n. is_refinable (given_of l.desk) (Some n)) 0 l.nodes
