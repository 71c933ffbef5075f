use Rattle.std.proofs.Common.{◌∙◌, ap, sym, List, ℕ}
use Rattle.std.specs.List.{position_from}
use Rattle.pyd_names.specs.Binding.{same_name}
use Rattle.pyd_scope.proofs.Few.{few_numbers}
use Rattle.pyd_scope.proofs.Resolved.{function_names_are}
use Rattle.pyd_scope.proofs.program.Program.function.Goals as goal

pub number-requires : goal.number-requires
number-requires c =
    few_numbers c.args.self.now.file c.args.self.now.routines c.in_ok-functions.functions.now c.in_ok-functions.field-0-0.now
    c.args.self.now.well_formed c.args.self.now.its_routines (sym c.as_slice.ensures ∙ c.in_ok-functions.ensures.cases.0)

pub returns : goal.returns
returns c =
    c.number.ensures
    ∙ ap (λ (ns : List (List ℕ)). position_from (same_name c.args.name.now) 1 ns)
    (function_names_are c.args.self.now.file c.args.self.now.routines c.in_ok-functions.functions.now c.in_ok-functions.field-0-0.now
    c.args.self.now.its_routines (sym c.as_slice.ensures ∙ c.in_ok-functions.ensures.cases.0))
