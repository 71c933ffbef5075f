use Rattle.std.proofs.Common.{reverse, refl}
use Rattle.pyd_lex.specs.declared.mode.Mode.TheVariants.{Indentation, Inside}
use Rattle.pyd_lex.specs.Lines.{fault_in}
use Rattle.pyd_lex.specs.Steps.{bad}
use Rattle.pyd_lex.proofs.Steps.{halt_begun, halt_indentation, halt_inside, halts_as, map_fault}
use Rattle.pyd_lex.proofs.scanner.Scanner.refuse.Goals as goal

pub returns-in-Ok : goal.returns-in-Ok
returns-in-Ok c to =
    halts_as c.args.self.now.mode (Indentation c.in-Indentation.width c.in-Indentation.tab) (reverse c.args.self.now.widths.items) (bad c.args.flaw c.args.place to) c.fault.result (fault_in c.args.flaw c.args.place.line) c.in-Indentation.is c.fault.ensures
    (halt_begun c.args.self.now.tokens.items c.in-Indentation.width c.in-Indentation.tab (reverse c.args.self.now.widths.items) c.args.place to c.args.flaw to c.begin.new.self.tokens.items (reverse c.begin.new.self.widths.items) c.in-Ok.ensures.ok)

pub returns-in-Err : goal.returns-in-Err
returns-in-Err c =
    map_fault c.in-Err.stop _ _
    (λ f r to. halts_as c.args.self.now.mode (Indentation c.in-Indentation.width c.in-Indentation.tab) (reverse c.args.self.now.widths.items) (bad c.args.flaw c.args.place to) f f c.in-Indentation.is refl
    (halt_indentation c.args.self.now.tokens.items c.in-Indentation.width c.in-Indentation.tab (reverse c.args.self.now.widths.items) c.args.place to c.args.flaw to f r))
    c.in-Err.ensures.fault

pub returns-in-Inside : goal.returns-in-Inside
returns-in-Inside c to =
    halts_as c.args.self.now.mode (Inside c.in-Inside.depth c.in-Inside.has_tokens) (reverse c.args.self.now.widths.items) (bad c.args.flaw c.args.place to) c.fault-in-Inside.result (fault_in c.args.flaw c.args.place.line) c.in-Inside.is c.fault-in-Inside.ensures
    (halt_inside c.args.self.now.tokens.items c.in-Inside.depth c.in-Inside.has_tokens (reverse c.args.self.now.widths.items) c.args.place to c.args.flaw to)
