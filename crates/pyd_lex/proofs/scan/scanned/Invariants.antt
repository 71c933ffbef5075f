use Rattle.std.proofs.Common.{◌≡◌, ◌+◌, ◌≤◌, length, reverse}
use Rattle.pyd_lex.specs.Lines.{Answer, size}
use Rattle.pyd_lex.specs.Machine.{count}
use Rattle.pyd_lex.specs.Steps.{ReadsFrom}
use Rattle.pyd_lex.specs.Reads.{CutReads}
use Rattle.pyd_lex.proofs.scan.scanned.Given as goal

abbrev pub invariant-loop-rest : goal.invariant-loop-rest
invariant-loop-rest l = record {
  at : l.place.at + size l.rest ≡ l.fn.start.at + size l.fn.text;
  line : l.place.line ≤ l.place.at + 1;
  within : count l.scanner.mode ≤ l.place.at;
  reads : (answer : Answer) → ReadsFrom l.place l.rest l.scanner.tokens.items l.scanner.mode (reverse l.scanner.widths.items) answer → CutReads l.fn.start l.fn.text answer;
}

abbrev pub decreases-loop-rest : goal.decreases-loop-rest
decreases-loop-rest l = length l.rest
