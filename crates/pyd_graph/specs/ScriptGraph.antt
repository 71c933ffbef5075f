-- The text of a script's graph before any node is refined.
use Rattle.std.specs.Prelude.{ℕ, List}
use Rattle.pyd_tree.specs.declared.file.File.{File}
use Rattle.pyd_scope.specs.Parts.{routines}
use Rattle.pyd_translate.specs.Scripts.{script_piece}
use Rattle.pyd_graph.specs.GraphText.{nodes_text}

-- the lines of the nodes that the module's own statements are
abbrev pub graph_text : File → List ℕ
graph_text file = nodes_text (routines file) (script_piece file).nodes
