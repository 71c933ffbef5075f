-- The statements at a start, and a rest alone, with what goes on behind them.
use Rattle.std.proofs.Common.{◌≡◌, ℕ, ◌*◌, List, [], length, refl, subst}
use Rattle.pyd_tree.specs.declared.file.File.{File}
use Rattle.pyd_names.specs.Binding.{locals}
use Rattle.pyd_meaning.specs.declared.limits.Limits.{Limits}
use Rattle.pyd_meaning.specs.Evaluation.{gives, ◌>>=◌}
use Rattle.pyd_meaning.specs.Names.{Names}
use Rattle.pyd_meaning.specs.Completion.{normally, in_turn}
use Rattle.pyd_meaning.specs.Module.{setting_at}
use Rattle.pyd_ir.specs.declared.arg.Arg.{Arg}
use Rattle.pyd_ir.specs.declared.work.Frame.{Frame}
use Rattle.pyd_ir.specs.Arguments.{rest_arguments}
use Rattle.pyd_ir.specs.Inputs.{Given}
use Rattle.pyd_translate.specs.declared.at.Start.{Start}
use Rattle.pyd_translate.specs.declared.at.Start.TheVariants as start
use Rattle.pyd_translate.specs.Starts.{passage}
use Rattle.pyd_translate.specs.Walk.{acts, then_rest}
use Rattle.pyd_translate.specs.Matching.{AreBelow, AreSlots, IsFinish, Matches}
use Rattle.pyd_translate.proofs.Lookup.{start_placed}
use Rattle.pyd_translate.proofs.LawsMatch.{block_law}
use Rattle.pyd_refine.specs.Composites.{started}

-- no statement
pub acts-none : (file : File) (limits : Limits) (routine depth : ℕ) (names : Names)
    → acts (setting_at file limits routine depth) [] names ≡ gives (normally names)
unfolding in_turn
acts-none file limits routine depth names = refl

module _ (file : File) (limits : Limits) (routine depth : ℕ) where
  -- the statements at a start, and then the rest
  pub started-does : (s : Start) (rest : List Frame) (ids : ℕ) (given : Given) (env : List Arg) (names : Names)
      → AreBelow ids (rest_arguments rest) → AreSlots (locals file routine) ids given env names
      → Matches file limits (2 * length rest) ids given
      (started file routine depth s rest env ids)
      (acts (setting_at file limits routine depth) (passage file routine s).stmts names
      >>= then_rest file limits routine depth given rest)
      (IsFinish (locals file routine))
  started-does s rest ids given env names below slots =
      block_law file limits routine depth (passage file routine s) rest ids given env names
      (start_placed file routine s) below slots

  -- the rest alone
  pub rest-does : (rest : List Frame) (ids : ℕ) (given : Given) (env : List Arg) (names : Names)
      → AreBelow ids (rest_arguments rest) → AreSlots (locals file routine) ids given env names
      → Matches file limits (2 * length rest) ids given
      (started file routine depth start.Rest rest env ids)
      (gives (normally names) >>= then_rest file limits routine depth given rest)
      (IsFinish (locals file routine))
  rest-does rest ids given env names below slots =
      subst (λ e. Matches file limits (2 * length rest) ids given (started file routine depth start.Rest rest env ids)
      (e >>= then_rest file limits routine depth given rest) (IsFinish (locals file routine)))
      (acts-none file limits routine depth names)
      (started-does start.Rest rest ids given env names below slots)
