use Rattle.std.proofs.Common.{List, ap, ◌∙◌}
use Rattle.std.specs.Prelude.{is_some}
use Rattle.pyd_tree.specs.declared.file.Item.{Item}
use Rattle.pyd_names.specs.Binding.{function_in}
use Rattle.pyd_scope.specs.Indexing.{places_from}
use Rattle.pyd_scope.proofs.index.function_places.Goals as goal

pub returns : goal.returns
returns c =
    c.in_ok-places.ensures
    ∙ ap (λ (items : List Item). places_from (λ i. is_some (function_in i)) 0 items) c.as_slice.ensures
