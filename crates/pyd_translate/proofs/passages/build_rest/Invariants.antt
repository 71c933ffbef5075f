use Rattle.std.proofs.Common.{◌≡◌, length}
use Rattle.pyd_translate.specs.Rests.{rest_unfolds}
use Rattle.pyd_translate.specs.Drafts.{onto}
use Rattle.pyd_translate.specs.Flows.{file_in, exit_of}
use Rattle.pyd_translate.proofs.passages.build_rest.Given as goal

abbrev pub invariant-loop-frame : goal.invariant-loop-frame
invariant-loop-frame l =
    onto l.draft.nodes (rest_unfolds (file_in l.at) l.at.routine l.at.depth l.left (exit_of l.exit) l.env.items l.draft.next)
    ≡ onto l.initial.draft.nodes (rest_unfolds (file_in l.at) l.at.routine l.at.depth l.rest (exit_of l.initial.exit) l.initial.env.items l.initial.draft.next)

abbrev pub decreases-loop-frame : goal.decreases-loop-frame
decreases-loop-frame l = length l.left
