use Rattle.std.proofs.Common.{◌∙◌}
use Rattle.pyd_names.proofs.Plain.{builtin_bytes}
use Rattle.pyd_names.proofs.builtins.builtin_named.Goals as goal

pub returns : goal.returns
returns c =
    c.builtin_of.ensures ∙ builtin_bytes c.args.name.now c.as_str.result.now c.as_str.ensures.characters c.as_str.ensures.bytes
