-- An augmented assignment, from the value that it binds.
use Rattle.std.proofs.Common.{◌≡◌, ℕ, List, Option, sym, ◌∙◌, Ok, Err}
use Rattle.pyd_value.specs.declared.value.Value.{Value}
use Rattle.pyd_value.specs.declared.fault.Fault.{Fault}
use Rattle.pyd_value.specs.declared.operator.BinOp.{BinOp}
use Rattle.pyd_tree.specs.declared.expression.Expr.{Expr}
use Rattle.pyd_tree.specs.declared.statement.What.TheVariants as what
use Rattle.pyd_ops.specs.Operators.{binary}
use Rattle.pyd_meaning.specs.Evaluation.{gives, settled, ◌>>=◌}
use Rattle.pyd_meaning.specs.Completion.{normally}
use Rattle.pyd_meaning.specs.Names.{bind}
use Rattle.pyd_meaning.specs.Reference.{read}
use Rattle.pyd_meaning.specs.Setting.{place_of}
use Rattle.pyd_meaning.specs.Outcome.{outcome}
use Rattle.pyd_meaning.proofs.Sequencing.{then-then, outcome-ok, outcome-err, outcome-settled}
use Rattle.pyd_meaning.proofs.Statements.{augmented}
use Rattle.pyd_eval.specs.declared.activation.Activation.{Activation}
use Rattle.pyd_eval.specs.Frames.{setting, names_of, evaluation}
use Rattle.pyd_eval.specs.Steps.{does_what, augmented_value}

module _ (on : Activation) (name : List ℕ) (op : BinOp) (e : Expr) (line : ℕ) (slots : List (Option Value)) where
  -- an augmented assignment is that value, and then the name is bound
  in_two : does_what on (what.Aug name op e) line slots
      ≡ (augmented_value on name op e line slots >>= (λ c. gives (normally (bind (names_of on slots) name c))))
  in_two =
      augmented (setting on) name op e line (names_of on slots)
      ∙ (λ i. read (setting on) name (place_of line) (names_of on slots) >>= (λ a. sym (then-then (evaluation on e line slots) (λ b. settled (binary op a b line)) (λ c. gives (normally (bind (names_of on slots) name c)))) i))
      ∙ sym (then-then (read (setting on) name (place_of line) (names_of on slots)) (λ a. evaluation on e line slots >>= (λ b. settled (binary op a b line))) (λ c. gives (normally (bind (names_of on slots) name c))))

  module _ (old mid : List (List ℕ)) where
    -- the name is bound to the value
    pub augmented_ok : (v : Value) → outcome old (augmented_value on name op e line slots) ≡ (mid, Ok v)
        → outcome old (does_what on (what.Aug name op e) line slots) ≡ (mid, Ok (normally (bind (names_of on slots) name v)))
    augmented_ok v h = rw (in_two, outcome-ok old mid _ _ v h) (outcome-settled mid _)

    -- a fault binds nothing
    pub augmented_err : (f : Fault) → outcome old (augmented_value on name op e line slots) ≡ (mid, Err f)
        → outcome old (does_what on (what.Aug name op e) line slots) ≡ (mid, Err f)
    augmented_err f h = rw in_two (outcome-err old mid _ _ f h)
