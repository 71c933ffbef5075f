-- The modes, the words that choose them, and what each makes of an input.
use Rattle.std.specs.Prelude.{◌≡◌, ℕ, List, [], ◌∷◌, map, codes, String, string_bytes}
use Rattle.std.specs.declared.alloc.Global.{Global}
use Rattle.pyd_top.specs.declared.mode.Mode.{Mode}
use Rattle.pyd_top.specs.declared.mode.Mode.TheVariants as mode
use Rattle.pyd_top.specs.declared.conclusion.Conclusion.{Conclusion}
use Rattle.pyd_top.specs.Checking.{Checks}
use Rattle.pyd_top.specs.Graphing.{Graphs}
use Rattle.pyd_top.specs.Running.{Runs}

-- the word of a mode
abbrev pub word_of : Mode → List ℕ
word_of mode.Run = codes "run"
word_of mode.Check = codes "check"
word_of mode.Graph = codes "graph"

-- the words are the word of this mode alone
abbrev pub Choose : List (String Global) → Mode → Type 0
Choose words m = map string_bytes words ≡ word_of m ∷ []

-- the words are those of no mode
abbrev pub AreFaulty : List (String Global) → Type 0
AreFaulty words = (m : Mode) → ¬ Choose words m

-- a mode makes this output of the input, and concludes so: a case for each mode
abbrev pub Makes : Mode → List ℕ → List ℕ → Conclusion → Type 0
Makes mode.Run = Runs
Makes mode.Check = Checks
Makes mode.Graph = Graphs

-- the mode that the words choose does
pub record Made (words : List (String Global)) (input output : List ℕ) (c : Conclusion) : Type 0 where
  pub mode : Mode
  pub chosen : Choose words mode
  pub makes : Makes mode input output c
