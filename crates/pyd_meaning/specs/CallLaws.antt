-- What reading a name, a call and a script do.
use Rattle.std.specs.Prelude.{◌≡◌, ◌≢◌, ℕ, ◌<◌, ◌≤◌, List, map, length, Some, None}
use Rattle.pyd_value.specs.declared.value.Value.{Value}
use Rattle.pyd_value.specs.declared.fault.Kind.TheVariants.{NameError, UnboundLocalError, TypeError}
use Rattle.pyd_value.specs.declared.fault.Limit.TheVariants.{Depth}
use Rattle.pyd_tree.specs.declared.file.File.{File}
use Rattle.pyd_tree.specs.declared.file.Func.{Func}
use Rattle.pyd_names.specs.Binding.{module_statements, function}
use Rattle.pyd_names.specs.Resolution as resolution
use Rattle.pyd_meaning.specs.declared.limits.Limits.{Limits}
use Rattle.pyd_meaning.specs.Evaluation.{gives}
use Rattle.pyd_meaning.specs.Names.{Names, no_names}
use Rattle.pyd_meaning.specs.Setting.{Place, place_of, Setting, raises, exceeds}
use Rattle.pyd_meaning.specs.Reference.{read}
use Rattle.pyd_meaning.specs.Completion.{in_turn}
use Rattle.pyd_meaning.specs.Statement.{action_of}
use Rattle.pyd_meaning.specs.Module.{parameters, body_value, call_at, setting_at, mean}

-- a local gives its value, and an exception where it isn't bound; a constant always gives its value
pub record ReadLaw : Type 0 where
  pub local : (setting : Setting) (name : List ℕ) (v : Value) (at : Place) (names : Names)
      → setting.resolve name ≡ resolution.Local → names name ≡ Some v
      → read setting name at names ≡ gives v
  pub unbound_in_function : (setting : Setting) (name : List ℕ) (at : Place) (names : Names)
      → setting.resolve name ≡ resolution.Local → names name ≡ None → setting.routine ≢ 0
      → read setting name at names ≡ raises UnboundLocalError at
  pub unbound_in_module : (setting : Setting) (name : List ℕ) (at : Place) (names : Names)
      → setting.resolve name ≡ resolution.Local → names name ≡ None → setting.routine ≡ 0
      → read setting name at names ≡ raises NameError at
  pub constant : (setting : Setting) (name : List ℕ) (v : Value) (at : Place) (names : Names)
      → setting.resolve name ≡ resolution.Constant v → read setting name at names ≡ gives v
  pub unbound : (setting : Setting) (name : List ℕ) (at : Place) (names : Names)
      → setting.resolve name ≡ resolution.Unbound → read setting name at names ≡ raises NameError at

-- a function's call checks the count of its arguments, then its depth, and then its body runs one deeper
pub record FunctionLaw : Type 0 where
  pub count : (file : File) (limits : Limits) (depth k line : ℕ) (f : Func) (args : List Value)
      → function file k ≡ Some f → length f.params ≢ length args
      → call_at file limits depth k args line ≡ raises TypeError (place_of line)
  pub deep : (file : File) (limits : Limits) (depth k line : ℕ) (f : Func) (args : List Value)
      → function file k ≡ Some f → length f.params ≡ length args → limits.depth < depth
      → call_at file limits depth k args line ≡ exceeds Depth (place_of line)
  pub body : (file : File) (limits : Limits) (depth k line : ℕ) (f : Func) (args : List Value) (names : Names)
      → function file k ≡ Some f → parameters f args ≡ Some names → depth ≤ limits.depth
      → call_at file limits depth k args line ≡ body_value (setting_at file limits k depth) f names

-- a script is its module's statements in turn, at depth 0, from no names
abbrev pub ModuleLaw : Type 0
ModuleLaw = (file : File) (limits : Limits)
    → mean file limits
    ≡ in_turn (map (action_of (setting_at file limits 0 0)) (module_statements file)) no_names
