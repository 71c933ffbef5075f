use Rattle.pyd_syntax.proofs.Entries.{table_entry}
use Rattle.pyd_syntax.proofs.machine.entry.Goals as goal

pub returns : goal.returns
returns c = record { value = table_entry c.args.rule c.args.terminal c.requires.rule c.requires.terminal }
