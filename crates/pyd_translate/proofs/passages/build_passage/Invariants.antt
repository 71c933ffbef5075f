use Rattle.std.proofs.Common.{◌≡◌, length}
use Rattle.pyd_scope.specs.Numbering.{contents}
use Rattle.pyd_translate.specs.Statements.{Exit, Onward}
use Rattle.pyd_translate.specs.Rests.{passage_unfolds}
use Rattle.pyd_translate.specs.Drafts.{onto}
use Rattle.pyd_translate.specs.Flows.{StandsIn, file_in, passage_of, point_of, leaving, sequel_of}
use Rattle.pyd_translate.proofs.passages.build_passage.Given as goal

abbrev pub invariant-loop-stmt : goal.invariant-loop-stmt
invariant-loop-stmt l =
    StandsIn l.at (contents l.here.stmts) (point_of l.here.point)
    × ((leave : Exit → Onward) (next : Onward)
    → onto l.draft.nodes (passage_unfolds (file_in l.at) l.at.routine l.at.depth (passage_of l.here) l.rest
    (leaving (sequel_of l.rest leave next)) l.env.items l.draft.next)
    ≡ onto l.initial.draft.nodes (passage_unfolds (file_in l.at) l.at.routine l.at.depth (passage_of l.fn.first) l.rest
    (leaving (sequel_of l.rest leave next)) l.initial.env.items l.initial.draft.next))

abbrev pub decreases-loop-stmt : goal.decreases-loop-stmt
decreases-loop-stmt l = length l.here.stmts
