use Rattle.std.proofs.Common.{◌∙◌, ap, List}
use Rattle.pyd_tree.specs.declared.file.Item.{Item}
use Rattle.pyd_derivation.proofs.Whole.{file_read, may_read}
use Rattle.pyd_derivation.proofs.file.tree.Goals as goal

pub read-requires-clause-shifts : goal.read-requires-clause-shifts
read-requires-clause-shifts c = (may_read c.args.steps.now c.args.tokens.now c.requires).1

pub read-requires-clause-known : goal.read-requires-clause-known
read-requires-clause-known c = (may_read c.args.steps.now c.args.tokens.now c.requires).0

pub returns : goal.returns
returns c = file_read c.args.bytes.now c.args.steps.now c.args.tokens.now c.in_ok-pieces.pieces (record { items = c.in_ok-into_list.field-0 }) c.requires c.in_ok-pieces.ensures (ap (λ (z : List Item). record { items = z }) (c.in_ok-into_list.ensures ∙ c.pop_items-items.ensures.piece))
