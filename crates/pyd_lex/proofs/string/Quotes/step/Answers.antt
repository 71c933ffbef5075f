use Rattle.std.proofs.Common.{◌∙◌, sym}
use Rattle.pyd_lex.specs.Quoted.{spelling}
use Rattle.pyd_lex.proofs.Strings.{step_close, step_nul, step_break, step_plain}
use Rattle.pyd_lex.proofs.string.Quotes.step.Goals as goal

pub returns-in-Close : goal.returns-in-Close
returns-in-Close c = step_close (spelling c.args.self) c.args.text.now c.requires (sym c.part.ensures ∙ c.in-Close.is)

pub returns-in-Nul : goal.returns-in-Nul
returns-in-Nul c = step_nul (spelling c.args.self) c.args.text.now c.requires (sym c.part.ensures ∙ c.in-Nul.is)

pub returns-in-BareBreak : goal.returns-in-BareBreak
returns-in-BareBreak c = step_break (spelling c.args.self) c.args.text.now c.requires (sym c.part.ensures ∙ c.in-BareBreak.is)

pub returns-in-Plain : goal.returns-in-Plain
returns-in-Plain c = step_plain (spelling c.args.self) c.args.text.now c.requires (sym c.part.ensures ∙ c.in-Plain.is)
