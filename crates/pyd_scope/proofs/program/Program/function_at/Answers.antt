use Rattle.std.proofs.Common.{ap, ◌∙◌, List, Some, None}
use Rattle.std.specs.Prelude.{slice_get, option_and_then}
use Rattle.pyd_tree.specs.declared.file.Item.{Item}
use Rattle.pyd_names.specs.Binding.{function_in}
use Rattle.pyd_scope.specs.Indexing.{Indexed}
use Rattle.pyd_scope.proofs.PlacesFound.{function_by}
use Rattle.pyd_scope.proofs.program.Program.function_at.Goals as goal

pub returns-in-Some : goal.returns-in-Some
returns-in-Some c =
    c.function-in-Some.ensures
    ∙ ap (λ (items : List Item). option_and_then function_in (slice_get items c.in-Some.place)) c.as_slice.ensures
    ∙ function_by c.args.self.now.file c.args.self.now.index.functions c.args.number (Some c.in-Some.place)
    (ap (λ (x : Indexed). x.functions) c.args.self.now.its_index) c.in-Some.ensures

pub returns-in-None : goal.returns-in-None
returns-in-None c =
    function_by c.args.self.now.file c.args.self.now.index.functions c.args.number None
    (ap (λ (x : Indexed). x.functions) c.args.self.now.its_index) c.in-None.ensures
