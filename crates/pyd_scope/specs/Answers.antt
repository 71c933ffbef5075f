-- When `check` stops.
use Rattle.std.specs.Prelude.{◌≡◌, Err}
use Rattle.pyd_tree.specs.declared.file.File.{File}
use Rattle.pyd_scope.specs.declared.refusal.CheckStop.{CheckStop}
use Rattle.pyd_scope.specs.declared.refusal.CheckStop.TheVariants.{Refused, NoMemory}
use Rattle.pyd_scope.specs.Checks.{answer}

-- a refusal is the file's answer; want of memory says nothing of the file
abbrev pub IsStop : File → CheckStop → Type 0
IsStop file (Refused r) = answer file ≡ Err r
IsStop file NoMemory = Unit {0}
