use Rattle.std.proofs.Common.{◌∙◌, ap, subst, inr, Ok, Err, arith}
use Rattle.std.specs.Str.{chars}
use Rattle.pyd_lex.specs.Lines.{size}
use Rattle.pyd_lex.specs.Reads.{CutReads, start, without_bom}
use Rattle.pyd_lex.proofs.Steps.{if_ok, if_err, map_fault, chars_size}
use Rattle.pyd_lex.proofs.scan.tokens.Goals as goal

pub after_bom-requires : goal.after_bom-requires
after_bom-requires c =
    let e = ap size (c.as_slice.ensures.value ∙ c.in-Ok-characters.ensures ∙ ap chars c.in-Ok.ensures.cases.0) in
    let s = chars_size c.args.bytes.now c.in-Ok.ensures.cases.1 in
    let r = c.requires in
    omega arith

pub returns-in-Ok-characters-clause-ok : goal.returns-in-Ok-characters-clause-ok
returns-in-Ok-characters-clause-ok c =
    let e = c.as_slice.ensures.value ∙ c.in-Ok-characters.ensures ∙ ap chars c.in-Ok.ensures.cases.0 in
    if_ok c.after_bom.result _ _ (λ tokens h. inr (c.in-Ok.ensures.cases.1, subst (λ t. CutReads (start t) (without_bom t) (Ok tokens.items)) e h)) c.after_bom.ensures.ok

pub returns-in-Ok-characters-clause-fault : goal.returns-in-Ok-characters-clause-fault
returns-in-Ok-characters-clause-fault c =
    let e = c.as_slice.ensures.value ∙ c.in-Ok-characters.ensures ∙ ap chars c.in-Ok.ensures.cases.0 in
    if_err c.after_bom.result _ _ (λ stop g. map_fault stop _ _ (λ f h. inr (c.in-Ok.ensures.cases.1, subst (λ t. CutReads (start t) (without_bom t) (Err f)) e h)) g) c.after_bom.ensures.fault
