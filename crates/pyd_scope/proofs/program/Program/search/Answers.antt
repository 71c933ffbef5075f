use Rattle.std.proofs.Common.{◌≡◌, ◌∙◌, ap, sym, true, false, ℕ, Some}
use Rattle.pyd_scope.specs.declared.uses.Use.TheVariants.{Slot}
use Rattle.pyd_scope.specs.Resolving.{resolution_of}
use Rattle.pyd_scope.proofs.Resolved.{is_local, is_no_local, resolved_in, outside_is_no_local}
use Rattle.pyd_scope.proofs.program.Program.search.Goals as goal

-- two uses as slots that are one have one place
slot_is : (i j : ℕ) → Slot i ≡ Slot j → Some i ≡ Some j
slot_is i j is = cc

pub returns-in-Some : goal.returns-in-Some
returns-in-Some c =
    record {
      resolution = resolved_in c.args.self.now.file c.args.routine c.args.name.now true
          (is_local c.args.self.now.file c.args.self.now.routines c.args.routine c.in-Some.slot c.args.name.now c.args.self.now.its_routines c.in-Some.ensures);
      slot = λ i is. sym c.in-Some.ensures ∙ slot_is c.in-Some.slot i is;
    }

pub returns-in-None : goal.returns-in-None
returns-in-None c =
    record {
      resolution = c.outside.ensures ∙ resolved_in c.args.self.now.file c.args.routine c.args.name.now false
          (is_no_local c.args.self.now.file c.args.self.now.routines c.args.routine c.args.name.now c.args.self.now.its_routines c.in-None.ensures);
      slot = λ i is. absurd (outside_is_no_local c.args.self.now.file c.args.name.now (sym c.outside.ensures ∙ ap resolution_of is));
    }
