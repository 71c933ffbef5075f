-- How many parameters the functions of a file have.
use Rattle.std.specs.Prelude.{ℕ, length, Option, option_map}
use Rattle.pyd_tree.specs.declared.file.File.{File}
use Rattle.pyd_tree.specs.declared.file.Func.{Func}
use Rattle.pyd_names.specs.Binding.{function}

-- those of the function of a number, none where there is no such function
abbrev pub parameter_count : File → ℕ → Option ℕ
parameter_count file func = option_map (λ (f : Func). length f.params) (function file func)
