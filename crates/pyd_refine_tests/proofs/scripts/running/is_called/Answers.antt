use Rattle.std.proofs.Common.{◌∙◌, ◌-◌, sym, ap, option_map, slice_get}
use Rattle.std.proofs.lemmas.Bool.{eqb-true}
use Rattle.pyd_eval.proofs.Program.{function-below}
use Rattle.pyd_refine_tests.proofs.scripts.running.is_called.Goals as goal

pub returns-in-Some : goal.returns-in-Some
returns-in-Some c = λ called. record {
  func = c.in-Some.func.now;
  found =
      sym (function-below c.args.program.now.file c.args.number c.in_ok-functions.functions.items
      c.nth.result c.if-number-eq0.false c.in_ok-functions.ensures
      (c.nth.ensures ∙ ap (λ l. slice_get l (c.args.number - 1)) c.as_slice.ensures.value))
      ∙ ap (option_map (λ f. f.now)) c.in-Some.is;
  even = sym c.len.ensures ∙ eqb-true _ _ called;
}
