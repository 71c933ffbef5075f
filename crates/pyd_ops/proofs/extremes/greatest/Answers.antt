-- The greatest of all characters.
use Rattle.std.proofs.Common.{◌∙◌, ap, sym, max}
use Rattle.std.specs.List.{reduce}
use Rattle.std.proofs.lemmas.Iterator.{YieldsList-from_chars}
use Rattle.std.proofs.lemmas.Iterator.Adapters.{option_map_id}
use Rattle.std.proofs.lemmas.Iterator.Consumers.{max_from_yields_List}
use Rattle.pyd_ops.proofs.extremes.greatest.Goals as goal

pub returns : goal.returns
returns c =
    let all = YieldsList-from_chars c.as_str.result.now c.as_str.utf8 c.chars.ensures.rest in
    sym (option_map_id c.max.result)
    ∙ max_from_yields_List c.chars.result c.max.result c.max.ensures.ran all
    ∙ ap (reduce max) c.as_str.ensures.characters
