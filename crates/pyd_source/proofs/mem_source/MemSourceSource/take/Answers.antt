-- What was left is the bytes that were copied, and then what is left.
use Rattle.std.proofs.Common.{◌∙◌, ap, sym}
use Rattle.pyd_source.proofs.Moves.{copied_front}
use Rattle.pyd_source.proofs.mem_source.MemSourceSource.take.Goals as goal

pub returns-clause-ok : goal.returns-clause-ok
returns-clause-ok c =
    ap (λ supply. supply.left) (sym c.self.view_is) ∙ copied_front _ _ _ _ _ c.deref.ensures.value c.copy_front-count.ensures.copied
