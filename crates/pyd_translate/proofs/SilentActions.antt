-- Statements one after another, arms and turns of loops print nothing where none of their parts prints.
use Rattle.std.proofs.Common.{ℕ, zero, suc, ◌-◌, List, [], ◌∷◌, Option, Some, None, Bool}
use Rattle.pyd_value.specs.declared.value.Value.{Value}
use Rattle.pyd_value.specs.Truth.{is_true}
use Rattle.pyd_tree.specs.declared.statement.Targets.{Targets}
use Rattle.pyd_meaning.specs.Evaluation.{gives, step}
use Rattle.pyd_meaning.specs.Names.{Names, bind_all}
use Rattle.pyd_meaning.specs.Setting.{Place}
use Rattle.pyd_meaning.specs.Expression.{Meaning}
use Rattle.pyd_meaning.specs.Assignment.{values_for, bound_or_error, assign_values, assign}
use Rattle.pyd_meaning.specs.Completion.{Completion, Normal, Break, Continue, Return, Action, normally, left_by, in_turn, after_turn}
use Rattle.pyd_meaning.specs.Loops.{wanted, turned, while_from, Items, with_item, for_from, for_items, for_loop, items_over}
use Rattle.pyd_meaning.specs.Statement.{ArmAction, arms}
use Rattle.pyd_translate.proofs.Induction.{Each}
use Rattle.pyd_translate.proofs.Silence.{IsSilent, silent-settled, silent-step, silent-then}
use Rattle.pyd_translate.proofs.SilentExpressions.{silent_branch}

-- statements that print nothing, whatever names are bound
abbrev pub IsSilentAction : Action → Type 0
IsSilentAction act = (names : Names) → IsSilent (act names)

silent_left_by : (c : Completion) (names : Names) (next : Action) → IsSilentAction next
    → IsSilent (left_by c names next)
silent_left_by Normal names next s = s names
silent_left_by Break names next s = silent-settled _
silent_left_by Continue names next s = silent-settled _
silent_left_by (Return v) names next s = silent-settled _

-- statements in turn
pub silent_in_turn : (acts : List Action) → Each IsSilentAction acts → IsSilentAction (in_turn acts)
unfolding in_turn
silent_in_turn [] p names = silent-settled _
silent_in_turn (act ∷ acts) p names =
    silent-then (act names) _ (p.0 names)
    (λ r. silent_left_by r.completion r.names (in_turn acts) (silent_in_turn acts p.1))

-- an arm whose test and suite print nothing
abbrev pub IsSilentArm : ArmAction → Type 0
IsSilentArm a = ((names : Names) → IsSilent (a.test names)) × IsSilentAction a.body

-- arms and the suite of `else`
pub silent_arms : (choices : List ArmAction) (last : Action) → Each IsSilentArm choices
    → IsSilentAction last → IsSilentAction (arms choices last)
unfolding arms
silent_arms [] last p q names = q names
silent_arms (a ∷ more) last p q names =
    silent-then (a.test names) _ (p.0.0 names)
    (λ v. silent_branch (is_true v) a.body (arms more last) names (p.0.1 names)
    (silent_arms more last p.1 q names))

silent_after_turn : (c : Completion) (names : Names) (next : Action) → IsSilentAction next
    → IsSilent (after_turn c names next)
silent_after_turn Normal names next s = s names
silent_after_turn Continue names next s = s names
silent_after_turn Break names next s = silent-settled _
silent_after_turn (Return v) names next s = silent-settled _

silent_turned : (body next : Action) → IsSilentAction body → IsSilentAction next
    → IsSilentAction (turned body next)
silent_turned body next b s names =
    silent-then (body names) _ (b names) (λ r. silent_after_turn r.completion r.names next s)

silent_wanted : (b : Bool) (turn : Action) → IsSilentAction turn → IsSilentAction (wanted b turn)
silent_wanted b turn s names =
    silent_branch b (λ now. step (turn now)) (λ now. gives (normally now)) names
    (silent-step (turn names) (s names)) (silent-settled _)

-- the turns of a `while` that are left
pub silent_while : (turns : ℕ) (at : Place) (test : Meaning) (body : Action) (v : Value)
    → ((names : Names) → IsSilent (test at names)) → IsSilentAction body
    → IsSilentAction (while_from turns at test body v)
unfolding while_from
silent_while zero at test body v t b = silent_wanted (is_true v) _ (λ names. silent-settled _)
silent_while (suc turns) at test body v t b =
    silent_wanted (is_true v) _ (silent_turned body _ b
    (λ now. silent-then (test at now) _ (t now) (λ u. silent_while turns at test body u t b now)))

silent_bound : (o : Option Names) (at : Place) → IsSilent (bound_or_error o at)
silent_bound (Some bound) at = silent-settled _
silent_bound None at = silent-settled _

silent_values : (o : Option (List Value)) (xs : List (List ℕ)) (at : Place) (names : Names)
    → IsSilent (assign_values o xs at names)
silent_values (Some vs) xs at names = silent_bound (bind_all names xs vs) at
silent_values None xs at names = silent-settled _

-- an assignment
pub silent_assign : (targets : Targets) (v : Value) (at : Place) (names : Names)
    → IsSilent (assign targets v at names)
silent_assign targets v at names = silent_values (values_for targets.tuple v) targets.names at names

silent_item : (o : Option Value) (turn : Value → Action) → ((v : Value) → IsSilentAction (turn v))
    → IsSilentAction (with_item o turn)
silent_item (Some v) turn s names = silent-step (turn v names) (s v names)
silent_item None turn s names = silent-settled _

silent_for_from : (turns : ℕ) (at : Place) (targets : Targets) (body : Action) (item : Items) (t : ℕ)
    → IsSilentAction body → IsSilentAction (for_from turns at targets body item t)
unfolding for_from
silent_for_from zero at targets body item t b =
    silent_item (item t) _ (λ v names. silent-settled _)
silent_for_from (suc turns) at targets body item t b =
    silent_item (item t) _ (λ v names.
    silent-then (assign targets v at names) _ (silent_assign targets v at names)
    (silent_turned body _ b (silent_for_from turns at targets body item (suc t) b)))

silent_for_items : (turns : ℕ) (at : Place) (targets : Targets) (body : Action) (o : Option Items)
    (t : ℕ) → IsSilentAction body → IsSilentAction (for_items turns at targets body o t)
silent_for_items turns at targets body (Some item) t b names =
    silent_for_from turns at targets body item t b names
silent_for_items turns at targets body None t b names = silent-settled _

-- the turns of a `for` that are left
pub silent_for : (turns : ℕ) (at : Place) (targets : Targets) (body : Action) (ranged : Bool)
    (over : Value) (t : ℕ) → IsSilentAction body
    → IsSilentAction (for_loop turns at targets body ranged over t)
silent_for turns at targets body ranged over t b =
    silent_for_items (turns - t) at targets body (items_over ranged over) t b
