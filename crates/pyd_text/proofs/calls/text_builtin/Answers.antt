-- The empty text is made where there is no argument.
use Rattle.std.proofs.Common.{◌≡◌, ℕ, ◌<◌, List, [], ◌∷◌, length, ap, sym, subst, ◌∙◌, arith, IfOk}
use Rattle.std.specs.Str.{chars}
use Rattle.std.proofs.lemmas.Str.{chars-nil}
use Rattle.pyd_value.specs.declared.value.Value.{Value}
use Rattle.pyd_value.specs.declared.operator.Builtin.{Builtin}
use Rattle.pyd_value.specs.declared.operator.Builtin.TheVariants.{Str}
use Rattle.pyd_ops.specs.Answer.{outcome_of}
use Rattle.pyd_ops.specs.Joining.{text_value}
use Rattle.pyd_text.specs.Calls.{text_builtin}
use Rattle.pyd_text.proofs.calls.text_builtin.Goals as goal

empty_text : (which : Builtin) (args : List Value) (line : ℕ) → which ≡ Str → length args < 1 → text_value [] ≡ text_builtin which args line
empty_text which [] line e h = ap (λ w. text_builtin w [] line) (sym e)
empty_text which (a ∷ args) line e h = absurd (omega arith)

pub returns-in-Str-empty : goal.returns-in-Str-empty
returns-in-Str-empty c =
    subst (λ v. IfOk c.text_value.result (λ o. o ≡ outcome_of v))
    (ap (λ bs. text_value (chars bs)) c.new.ensures.bytes ∙ ap text_value chars-nil
    ∙ empty_text c.args.which c.args.args.now c.args.line c.in-Str-empty.is-0 c.in-Str-empty.len_below)
    c.text_value.ensures
