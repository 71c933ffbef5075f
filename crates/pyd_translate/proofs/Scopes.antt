-- Where the nodes of an expression are made, and what stands there when they begin.
use Rattle.std.proofs.Common.{ℕ, List}
use Rattle.pyd_tree.specs.declared.expression.Expr.{Expr}
use Rattle.pyd_tree.specs.declared.file.File.{File}
use Rattle.pyd_names.specs.Binding.{locals}
use Rattle.pyd_meaning.specs.declared.limits.Limits.{Limits}
use Rattle.pyd_meaning.specs.Evaluation.{Evaluation}
use Rattle.pyd_meaning.specs.Names.{Names}
use Rattle.pyd_meaning.specs.Setting.{Place, place_of, Setting}
use Rattle.pyd_meaning.specs.Expression.{meaning_of}
use Rattle.pyd_meaning.specs.Module.{setting_at}
use Rattle.pyd_ir.specs.declared.arg.Arg.{Arg}
use Rattle.pyd_ir.specs.Inputs.{Given}
use Rattle.pyd_scope.specs.Numbering.{expressions, expression_table}
use Rattle.pyd_translate.specs.Making.{Making, Context}
use Rattle.pyd_translate.specs.Statements.{context}
use Rattle.pyd_translate.specs.Expressions.{unfolded}
use Rattle.pyd_translate.specs.Matching.{Relation, IsReached, HasValue, AreSlots, Matches}
use Rattle.pyd_translate.specs.Laws.{Stands}
use Rattle.pyd_translate.proofs.Keeping.{slots-kept}
use Rattle.pyd_translate.proofs.Sequencing.{Spares}

-- the file and the limits, and the routine, the depth and the line in which nodes are made
pub record Scope : Type 0 where
  pub file : File
  pub limits : Limits
  pub routine : ℕ
  pub depth : ℕ
  pub line : ℕ

module _ (w : Scope) where
  -- what names and calls mean there
  abbrev pub setting : Setting
  setting = setting_at w.file w.limits w.routine w.depth

  -- the place of what is evaluated
  abbrev pub place : Place
  place = place_of w.line

  -- the expressions by their numbers
  abbrev pub table : List Expr
  table = expression_table w.file w.routine

  -- the names of the slots
  abbrev pub slots : List (List ℕ)
  slots = locals w.file w.routine

  -- where nodes are made
  abbrev pub made_in : List Arg → Context
  made_in env = context w.routine w.depth w.line env

  -- the next number, what was given so far, and the slots with their names
  pub record State : Type 0 where
    pub ids : ℕ
    pub given : Given
    pub env : List Arg
    pub names : Names
    pub are : AreSlots slots ids given env names

  -- the state behind nodes, by the same slots
  abbrev pub behind : {A B : Type 0} (here : State) (R : Relation A B) (next : ℕ) (mid : Given) (a : A) (b : B)
      → IsReached here.ids here.given next R mid a b → State
  behind here R next mid a b reached = record {
    ids = next;
    given = mid;
    env = here.env;
    names = here.names;
    are = slots-kept slots here.ids next here.given mid here.env here.names reached.grown reached.kept here.are;
  }

  -- nodes made in a state do what an evaluation does
  abbrev pub Does : {A B : Type 0} → ℕ → State → Making A → Evaluation B → Relation A B → Type 0
  Does more here u m R = Matches w.file w.limits more here.ids here.given (u here.ids) m R

  -- an expression's nodes do what it means and leave steps over, in each state in which it stands at its number
  abbrev pub IsRight : Expr → Type 0
  IsRight e = (k : ℕ) (here : State) → Stands table k (expressions e)
      → Spares w.file w.limits here.ids here.given
      ((unfolded w.file e).build k (made_in here.env) here.ids)
      (meaning_of setting e place here.names) HasValue
