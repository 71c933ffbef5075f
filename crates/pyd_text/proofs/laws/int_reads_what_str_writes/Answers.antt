use Rattle.pyd_text.proofs.Reading.{int_reads_str}
use Rattle.pyd_text.proofs.laws.int_reads_what_str_writes.Goals as goal

pub returns : goal.returns
returns c = int_reads_str
