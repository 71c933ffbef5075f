use Rattle.std.proofs.Common.{◌≡◌, subst, Some}
use Rattle.std.specs.Prelude.{IfOk}
use Rattle.pyd_scope.specs.Passages.{Passage}
use Rattle.pyd_translate.specs.Drafts.{onto}
use Rattle.pyd_translate.specs.Flows.{file_in, passage_of}
use Rattle.pyd_translate.specs.Rests.{block_unfolds}
use Rattle.pyd_translate.specs.Statements.{done}
use Rattle.pyd_translate.proofs.StartPlaces.{start_stands}
use Rattle.pyd_translate.proofs.starts.build_start.Goals as goal

pub build_block-requires : goal.build_block-requires
build_block-requires c =
    start_stands (file_in c.args.at.now) c.args.at.now.routine c.args.start.now (passage_of c.in_ok-here.here) c.in_ok-here.ensures

pub returns : goal.returns
returns c =
    subst (λ (p : Passage). IfOk c.build_block.result (λ v.
    onto c.args.draft.now.nodes (block_unfolds (file_in c.args.at.now) c.args.at.now.routine c.args.at.now.depth p
    c.args.rest.now c.args.env.now.items c.args.draft.now.next)
    ≡ (c.build_block.new.draft.nodes, Some (done c.build_block.new.env.items v), c.build_block.new.draft.next)))
    c.in_ok-here.ensures c.build_block.ensures
