-- The count of characters is the length in bytes exactly where all of them are ASCII.
use Rattle.std.proofs.Common.{◌∙◌, ap, sym, length, nat_eq}
use Rattle.pyd_value.proofs.Ascii.{same_length, own_bytes}
use Rattle.pyd_value.proofs.text.Text.is_ascii.Goals as goal

pub returns-clause-value : goal.returns-clause-value
returns-clause-value c =
    ap (λ n. nat_eq n (length c.as_str.result.now)) (c.self.invariant ∙ ap length c.self.view_is)
    ∙ ap (λ bytes. nat_eq (length c.args.self.now) (length bytes)) c.as_str.ensures.bytes
    ∙ same_length c.args.self.now

pub returns-clause-bytes : goal.returns-clause-bytes
returns-clause-bytes c = λ t. own_bytes c.args.self.now (sym (returns-clause-value c) ∙ t)
