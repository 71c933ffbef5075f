-- Answers that want of memory may cut off.
use Rattle.pyd_lex.specs.declared.fault.Flaw.{Flaw}
use Rattle.pyd_lex.specs.declared.fault.LexFault.{LexFault}
use Rattle.pyd_lex.specs.declared.fault.LexStop.{LexStop}
use Rattle.pyd_lex.specs.declared.fault.LexStop.TheVariants.{Fault, NoMemory}
use Rattle.pyd_lex.specs.declared.fault.Stop.{Stop}
use Rattle.pyd_lex.specs.declared.fault.Stop.TheVariants as stop

-- where the answer is a fault, and not want of memory
abbrev pub IfFault : LexStop → (LexFault → Type 0) → Type 0
IfFault (Fault f) P = P f
IfFault NoMemory P = Unit {0}

-- where the flaw is one, and not want of memory
abbrev pub IfFlaw : Stop → (Flaw → Type 0) → Type 0
IfFlaw (stop.Flaw f) P = P f
IfFlaw stop.NoMemory P = Unit {0}

-- it is a flaw, and this holds of it
abbrev pub IsFlaw : Stop → (Flaw → Type 0) → Type 0
IsFlaw (stop.Flaw f) P = P f
IsFlaw stop.NoMemory P = ⊥
