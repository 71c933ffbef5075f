use Rattle.std.proofs.Common.{◌∙◌, subst, arith}
use Rattle.pyd_scope.specs.declared.table.Known.TheVariants as known
use Rattle.pyd_scope.specs.Tables.{IsKnown}
use Rattle.pyd_scope.proofs.Known.{slot_fits, function_fits, slot_is, constant_within, constant_is}
use Rattle.pyd_scope.proofs.program.Program.resolve.Goals as goal

pub overflow_cast-result : goal.overflow_cast-result
overflow_cast-result c =
    let is : IsKnown c.args.self.now.file c.args.routine c.args.name.now (known.Slot c.in-Some-Slot.place) =
    subst (IsKnown c.args.self.now.file c.args.routine c.args.name.now) c.in-Some-Slot.field-0-is c.in-Some-Slot.ensures in
    omega (arith, slot_fits c.args.self.now.file c.args.routine c.args.name.now c.in-Some-Slot.place c.args.self.now.well_formed is)

pub returns-in-Some-Slot : goal.returns-in-Some-Slot
returns-in-Some-Slot c =
    let is : IsKnown c.args.self.now.file c.args.routine c.args.name.now (known.Slot c.in-Some-Slot.place) =
    subst (IsKnown c.args.self.now.file c.args.routine c.args.name.now) c.in-Some-Slot.field-0-is c.in-Some-Slot.ensures in
    let told = slot_is c.args.self.now.file c.args.self.now.routines c.args.routine c.args.name.now c.in-Some-Slot.place c.args.self.now.its_routines is in
    record { resolution = told.0; slot = told.1 }

pub bounds-as_slice-place : goal.bounds-as_slice-place
bounds-as_slice-place c =
    let is : IsKnown c.args.self.now.file c.args.routine c.args.name.now (known.Constant c.in-Some-Constant.place) =
    subst (IsKnown c.args.self.now.file c.args.routine c.args.name.now) c.in-Some-Constant.field-0-is c.in-Some-Constant.ensures in
    constant_within c.args.self.now.file c.as_slice.result.now c.args.routine c.args.name.now c.in-Some-Constant.place (c.as_slice.ensures ∙ c.args.self.now.its_constants) is

pub offset_bounds-as_slice-place : goal.offset_bounds-as_slice-place
offset_bounds-as_slice-place c =
    let is : IsKnown c.args.self.now.file c.args.routine c.args.name.now (known.Constant c.in-Some-Constant.place) =
    subst (IsKnown c.args.self.now.file c.args.routine c.args.name.now) c.in-Some-Constant.field-0-is c.in-Some-Constant.ensures in
    let h = constant_within c.args.self.now.file c.as_slice.result.now c.args.routine c.args.name.now c.in-Some-Constant.place (c.as_slice.ensures ∙ c.args.self.now.its_constants) is in
    omega (arith, h, c.as_slice.type_inv.1)

pub returns-in-Some-Constant : goal.returns-in-Some-Constant
returns-in-Some-Constant c =
    let is : IsKnown c.args.self.now.file c.args.routine c.args.name.now (known.Constant c.in-Some-Constant.place) =
    subst (IsKnown c.args.self.now.file c.args.routine c.args.name.now) c.in-Some-Constant.field-0-is c.in-Some-Constant.ensures in
    record {
      resolution = constant_is c.args.self.now.file c.as_slice.result.now c.args.routine c.args.name.now c.in-Some-Constant.place c.index-as_slice-place.result
          (c.as_slice.ensures ∙ c.args.self.now.its_constants) is;
      slot = λ i same. cc;
    }

pub overflow_cast-result-in-Some-Routine : goal.overflow_cast-result-in-Some-Routine
overflow_cast-result-in-Some-Routine c =
    let is : IsKnown c.args.self.now.file c.args.routine c.args.name.now (known.Routine c.in-Some-Routine.place) =
    subst (IsKnown c.args.self.now.file c.args.routine c.args.name.now) c.in-Some-Routine.field-0-is c.in-Some-Routine.ensures in
    omega (arith, function_fits c.args.self.now.file c.args.routine c.args.name.now c.in-Some-Routine.place c.args.self.now.well_formed is)

pub overflow_add-result : goal.overflow_add-result
overflow_add-result c =
    let is : IsKnown c.args.self.now.file c.args.routine c.args.name.now (known.Routine c.in-Some-Routine.place) =
    subst (IsKnown c.args.self.now.file c.args.routine c.args.name.now) c.in-Some-Routine.field-0-is c.in-Some-Routine.ensures in
    omega (arith, function_fits c.args.self.now.file c.args.routine c.args.name.now c.in-Some-Routine.place c.args.self.now.well_formed is)
