use Rattle.std.proofs.Common.{◌∙◌, sym, subst}
use Rattle.std.specs.Str.{IsUtf8, chars}
use Rattle.pyd_lex.specs.TokenBytes.{IsName}
use Rattle.pyd_lex.proofs.TokenBytes.{name_spells, spelled_name}
use Rattle.pyd_lex.proofs.text.name_of.Goals as goal

pub returns-in-Ok-clause-name : goal.returns-in-Ok-clause-name
returns-in-Ok-clause-name c =
    let e = c.in-Ok.ensures.cases.0 ∙ c.bytes_of.ensures in
    subst (λ b. IsName (chars b)) (sym e) (spelled_name c.args.token.now.kind _ c.requires.kind c.requires.spelled)

pub returns-in-Err : goal.returns-in-Err
returns-in-Err c =
    let s = name_spells c.args.token.now.kind _ c.requires.kind c.requires.spelled in
    absurd (c.in-Err.ensures.cases.0 (subst IsUtf8 (sym c.bytes_of.ensures) s.utf8))
