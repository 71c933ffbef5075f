-- The least of all characters.
use Rattle.std.proofs.Common.{◌∙◌, ap, sym, min}
use Rattle.std.specs.List.{reduce}
use Rattle.std.proofs.lemmas.Iterator.{YieldsList-from_chars}
use Rattle.std.proofs.lemmas.Iterator.Adapters.{option_map_id}
use Rattle.std.proofs.lemmas.Iterator.Consumers.{min_from_yields_List}
use Rattle.pyd_ops.proofs.extremes.least.Goals as goal

pub returns : goal.returns
returns c =
    let all = YieldsList-from_chars c.as_str.result.now c.as_str.utf8 c.chars.ensures.rest in
    sym (option_map_id c.min.result)
    ∙ min_from_yields_List c.chars.result c.min.result c.min.ensures.ran all
    ∙ ap (reduce min) c.as_str.ensures.characters
