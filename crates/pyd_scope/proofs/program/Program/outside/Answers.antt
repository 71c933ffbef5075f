use Rattle.std.proofs.Common.{◌∙◌, ap, sym, refl, true, false, List, ℕ}
use Rattle.std.specs.List.{flat_map}
use Rattle.std.specs.Map.{lookup}
use Rattle.pyd_value.specs.declared.value.Value.{Value}
use Rattle.pyd_tree.specs.declared.file.Item.{Item}
use Rattle.pyd_names.specs.Binding.{same_name, is_among, imports_in}
use Rattle.pyd_scope.proofs.Resolved.{last_kind, is_local, is_no_local}
use Rattle.pyd_scope.proofs.program.Program.outside.Goals as goal

pub returns-in-Some-slot : goal.returns-in-Some-slot
returns-in-Some-slot c =
    last_kind c.args.self.now.file c.args.name.now _ true
    (sym (c.in_default.ensures ∙ ap (λ (cs : List (List ℕ × Value)). lookup (same_name c.args.name.now) cs) (c.as_slice.ensures ∙ c.args.self.now.its_constants)))
    (sym c.in_default-function.ensures)
    (ap (λ (is : List Item). is_among (flat_map imports_in is) c.args.name.now) (sym c.as_slice-2.ensures) ∙ sym c.is_imported.ensures ∙ c.if-is_imported.false)
    (sym c.in_default-builtin_named.ensures)
    (is_local c.args.self.now.file c.args.self.now.routines 0 c.in-Some-slot.field-0 c.args.name.now c.args.self.now.its_routines c.in-Some-slot.ensures)
    refl

pub returns-in-None : goal.returns-in-None
returns-in-None c =
    last_kind c.args.self.now.file c.args.name.now _ false
    (sym (c.in_default.ensures ∙ ap (λ (cs : List (List ℕ × Value)). lookup (same_name c.args.name.now) cs) (c.as_slice.ensures ∙ c.args.self.now.its_constants)))
    (sym c.in_default-function.ensures)
    (ap (λ (is : List Item). is_among (flat_map imports_in is) c.args.name.now) (sym c.as_slice-2.ensures) ∙ sym c.is_imported.ensures ∙ c.if-is_imported.false)
    (sym c.in_default-builtin_named.ensures)
    (is_no_local c.args.self.now.file c.args.self.now.routines 0 c.args.name.now c.args.self.now.its_routines c.in-None.ensures)
    refl
