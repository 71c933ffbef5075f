-- Under which file and limits a runner's answers are right.
use Rattle.pyd_tree.specs.declared.file.File.{File}
use Rattle.pyd_meaning.specs.declared.limits.Limits.{Limits}
use Rattle.pyd_board.specs.Serving.{Basis}

-- a file under the limits of a run, as boards speak of it
abbrev pub basis_under : File → Limits → Basis
basis_under file limits = record { file = file; turns = limits.turns; depth = limits.depth }
