use Rattle.pyd_lex.proofs.Faults.{first_fault_law}
use Rattle.pyd_lex.proofs.laws.first_fault.Goals as goal

pub returns : goal.returns
returns c = first_fault_law
