use Rattle.std.proofs.Common.{◌≡◌, ◌++◌, take, string_bytes}
use Rattle.pyd_graph.specs.GraphText.{fields_text}
use Rattle.pyd_graph.proofs.arguments.push_fields.Given as goal

abbrev pub invariant-loop-arg : goal.invariant-loop-arg
invariant-loop-arg l =
    string_bytes l.text ≡ string_bytes l.initial.text ++ fields_text (take l.arg-index l.args)
