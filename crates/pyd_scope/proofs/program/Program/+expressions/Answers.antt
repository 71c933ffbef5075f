use Rattle.std.proofs.Common.{◌<◌, sym, ◌∙◌, arith}
use Rattle.pyd_scope.specs.declared.cells.Origin.TheVariants.{Header, Part, Low, High}
use Rattle.pyd_scope.proofs.Looking.{no_expression, found_origin, found_earlier}
use Rattle.pyd_scope.proofs.program.Program.+expressions.Goals as goal

pub expression-part-requires : goal.expression-part-requires
expression-part-requires t c =
    let less : c.in-Part.of < c.args.number =
    found_earlier c.args.self.now.file c.args.routine c.args.number c.in-Some.cell
    (Part c.in-Part.of c.in-Part.at) (sym c.in-Some.ensures) c.in-Part.is in
    omega (arith, less)

pub expression-low-requires : goal.expression-low-requires
expression-low-requires t c =
    let less : c.in-Low.of < c.args.number =
    found_earlier c.args.self.now.file c.args.routine c.args.number c.in-Some.cell
    (Low c.in-Low.of c.in-Low.suffix) (sym c.in-Some.ensures) c.in-Low.is in
    omega (arith, less)

pub expression-high-requires : goal.expression-high-requires
expression-high-requires t c =
    let less : c.in-High.of < c.args.number =
    found_earlier c.args.self.now.file c.args.routine c.args.number c.in-Some.cell
    (High c.in-High.of c.in-High.suffix) (sym c.in-Some.ensures) c.in-High.is in
    omega (arith, less)

pub expression-returns-in-None : goal.expression-returns-in-None
expression-returns-in-None t c =
    sym (no_expression c.args.self.now.file c.args.routine c.args.number (sym c.in-None.ensures))

pub expression-returns-in-Header : goal.expression-returns-in-Header
expression-returns-in-Header t c =
    c.header.ensures
    ∙ found_origin c.args.self.now.file c.args.routine c.args.number c.in-Some.cell
    (Header c.in-Header.stmt c.in-Header.at) (sym c.in-Some.ensures) c.in-Header.is

pub expression-returns-in-Part : goal.expression-returns-in-Part
expression-returns-in-Part t c =
    c.part.ensures
    ∙ found_origin c.args.self.now.file c.args.routine c.args.number c.in-Some.cell
    (Part c.in-Part.of c.in-Part.at) (sym c.in-Some.ensures) c.in-Part.is

pub expression-returns-in-Low : goal.expression-returns-in-Low
expression-returns-in-Low t c =
    c.low.ensures
    ∙ found_origin c.args.self.now.file c.args.routine c.args.number c.in-Some.cell
    (Low c.in-Low.of c.in-Low.suffix) (sym c.in-Some.ensures) c.in-Low.is

pub expression-returns-in-High : goal.expression-returns-in-High
expression-returns-in-High t c =
    c.high.ensures
    ∙ found_origin c.args.self.now.file c.args.routine c.args.number c.in-Some.cell
    (High c.in-High.of c.in-High.suffix) (sym c.in-Some.ensures) c.in-High.is
