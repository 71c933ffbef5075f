use Rattle.std.proofs.Common.{◌≡◌, ℕ, List, [], IfOk, Result, Ok, Err, ◌∙◌}
use Rattle.std.specs.Str.{chars}
use Rattle.std.proofs.lemmas.Str.{chars-nil}
use Rattle.pyd_value.specs.declared.memory.NoMemory.{NoMemory}
use Rattle.pyd_derivation.proofs.spelling.empty.Goals as goal

from : (r : Result (List ℕ) NoMemory) → IfOk r (λ text. text ≡ chars []) → IfOk r (λ text. text ≡ [])
from (Ok t) h = h ∙ chars-nil
from (Err e) h = tt

pub returns : goal.returns
returns c = from c.of.result c.of.ensures
