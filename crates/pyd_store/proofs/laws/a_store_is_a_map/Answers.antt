use Rattle.pyd_store.proofs.Answering.{map_laws}
use Rattle.pyd_store.proofs.laws.a_store_is_a_map.Goals as goal

pub returns : goal.returns
returns c = map_laws
