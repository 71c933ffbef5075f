-- The characters come one after another, and the one at the place is told.
use Rattle.std.proofs.Common.{◌∙◌, ap, sym, slice_get}
use Rattle.std.proofs.lemmas.Iterator.{YieldsList-from_chars}
use Rattle.std.proofs.lemmas.Iterator.Adapters.{option_map_id}
use Rattle.std.proofs.lemmas.Iterator.Consumers.{nth_from_yields_List}
use Rattle.pyd_value.proofs.text.Text.get.Goals as goal

pub returns : goal.returns
returns c =
    let all = YieldsList-from_chars c.as_str-2.result.now c.as_str-2.utf8 c.chars.ensures.rest in
    sym (option_map_id c.nth.result)
    ∙ nth_from_yields_List c.nth.result c.nth.new.self c.args.at c.nth.ensures.ran all
    ∙ ap (λ s. slice_get s c.args.at) c.as_str-2.ensures.characters
