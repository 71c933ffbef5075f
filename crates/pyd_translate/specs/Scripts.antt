-- The nodes of a script before any of them is refined.
use Rattle.std.specs.Prelude.{[]}
use Rattle.pyd_tree.specs.declared.file.File.{File}
use Rattle.pyd_names.specs.Binding.{module_variables}
use Rattle.pyd_translate.specs.declared.at.At.{At}
use Rattle.pyd_translate.specs.declared.at.Start.TheVariants.{Body}
use Rattle.pyd_translate.specs.declared.piece.Piece.{Piece}
use Rattle.pyd_translate.specs.Slots.{unbound_slots}
use Rattle.pyd_translate.specs.Starts.{block_piece}

-- the module's statements, with nothing behind them
abbrev pub script_start : At
script_start = record { routine = 0; depth = 0; start = Body; rest = [] }

-- their nodes, numbered from 0, where no variable is bound
abbrev pub script_piece : File → Piece
script_piece file = block_piece file script_start (unbound_slots (module_variables file)) 0
