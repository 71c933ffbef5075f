use Rattle.std.proofs.Common.{◌∙◌, ◌++◌, ap}
use Rattle.pyd_trace.specs.Text.{line_text}
use Rattle.pyd_trace.proofs.Lines.{cuts_line, no_line}
use Rattle.pyd_trace.proofs.read.cut_line.Goals as goal

pub returns-in-Some-strip_prefix-clause-found : goal.returns-in-Some-strip_prefix-clause-found
returns-in-Some-strip_prefix-clause-found c =
    cuts_line _ c.args.bytes.now c.as_slice.result.now c.in-Some-strip_prefix.more.now c.in-Some.event c.in-Some.ensures.fits
    (c.as_slice.ensures.value ∙ c.in_ok-push_line.ensures ∙ ap (λ bs. bs ++ line_text c.in-Some.event) c.clear.ensures.items) c.in-Some-strip_prefix.ensures.cases.0
    c.in-Some-strip_prefix.ensures.cases.1

pub returns-in-None-clause-none : goal.returns-in-None-clause-none
returns-in-None-clause-none c none =
    no_line c.args.bytes.now c.as_slice.result.now c.in-Some.event
    (c.as_slice.ensures.value ∙ c.in_ok-push_line.ensures ∙ ap (λ bs. bs ++ line_text c.in-Some.event) c.clear.ensures.items) c.in-None.ensures.cases
    c.in-Some.ensures.value
