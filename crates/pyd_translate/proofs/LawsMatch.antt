-- The laws of walking: statements and what goes on behind them, and a whole script.
use Rattle.std.proofs.Common.{◌≡◌, ℕ, ◌*◌, List, [], refl, subst, ◌∙◌, arith, Option, Some, None, Result, Ok, Err}
use Rattle.pyd_value.specs.declared.fault.Fault.{Fault}
use Rattle.pyd_tree.specs.declared.file.File.{File}
use Rattle.pyd_names.specs.Binding.{module_variables}
use Rattle.pyd_scope.specs.Numbering.{body, start}
use Rattle.pyd_meaning.specs.declared.limits.Limits.{Limits}
use Rattle.pyd_meaning.specs.Evaluation.{Evaluation, settled, gives, go_on, ◌>>=◌}
use Rattle.pyd_meaning.specs.Names.{Names, no_names}
use Rattle.pyd_meaning.specs.Completion.{Completion, Normal, Break, Continue, Return, Reached, value_after}
use Rattle.pyd_meaning.specs.Module.{mean}
use Rattle.pyd_ir.specs.Inputs.{Given}
use Rattle.pyd_translate.specs.Making.{Piece}
use Rattle.pyd_translate.specs.Slots.{unbound_slots}
use Rattle.pyd_translate.specs.Rests.{rest_unfolds, block_unfolds}
use Rattle.pyd_translate.specs.Walk.{Finish, finish, rested, walk}
use Rattle.pyd_translate.specs.Matching.{Relation, AreAlike, IsReached, AreSlots, IsFinish, Matches}
use Rattle.pyd_translate.specs.Laws.{BlockLaw, ScriptLaw, nothing_given}
use Rattle.pyd_translate.proofs.Lookup.{body_placed}
use Rattle.pyd_translate.proofs.Sequencing.{alike-weaker, matches-more, matches-weaker}
use Rattle.pyd_translate.proofs.Emitting.{then-lines, then-steps}
use Rattle.pyd_translate.proofs.Slots.{slots_unbound}
use Rattle.pyd_translate.proofs.BlocksMatch.{statements-do, rests-do}

-- results that are alike where one hands on what was given are alike before it
alike_before : {A B C : Type 0} (r : Result Given Fault) (got : Option A) (lines : List (List ℕ)) (n : ℕ)
    (s : Result B Fault) (f : B → C) (R : Given → A → C → Type 0)
    → AreAlike r got (go_on lines n s (λ x. gives (f x))).result R
    → AreAlike r got s (λ given a b. R given a (f b))
unfolding settled
alike_before (Ok given) (Some a) lines n (Ok b) f R alike = alike
alike_before (Ok given) None lines n (Ok b) f R alike = alike
alike_before (Ok given) got lines n (Err e) f R alike = alike
alike_before (Err d) got lines n (Ok b) f R alike = alike
alike_before (Err d) got lines n (Err e) f R alike = alike

-- what nodes do that do an evaluation which hands on what was given
matches-before : {A B C : Type 0} (file : File) (limits : Limits) (more ids : ℕ) (given : Given)
    (R : Relation A C) (p : Piece A) (m : Evaluation B) (f : B → C)
    → Matches file limits more ids given p (m >>= (λ b. gives (f b))) R
    → Matches file limits more ids given p m (λ next g a b. R next g a (f b))
unfolding ◌>>=◌
matches-before file limits more ids given R p m f first = record {
  lines = first.lines ∙ then-lines m f;
  ends =
      alike-weaker (walk file limits p.nodes given).result p.got m.result _ _
      (λ after a b q. record { grown = q.grown; kept = q.kept; related = q.related })
      (alike_before (walk file limits p.nodes given).result p.got m.lines m.steps m.result f
      (IsReached ids given p.next R) first.ends);
  steps = let s = then-steps m f in let q = first.steps in omega arith;
}

-- how statements end behind which nothing goes on
abbrev ending : Reached → Finish
ending r = record { names = r.names; value = value_after r.completion }

-- nothing goes on
ends_so : (file : File) (limits : Limits) (routine depth : ℕ) (given : Given) (c : Completion) (names : Names)
    → rested file limits routine depth given [] c names ≡ finish c names
unfolding rested
ends_so file limits routine depth given Normal names = refl
ends_so file limits routine depth given Break names = refl
ends_so file limits routine depth given Continue names = refl
ends_so file limits routine depth given (Return v) names = refl

-- statements and what goes on behind them
pub block_law : BlockLaw
block_law file limits routine depth here rest ids given env names placed below are =
    statements-do file limits routine depth here.stmts here.point rest
    (rest_unfolds file routine depth rest) placed (rests-do file limits routine depth rest)
    ids given env names below are

-- a whole script
pub script_law : ScriptLaw
unfolding mean
script_law file limits =
    let piece = block_unfolds file 0 0 (record { stmts = body file 0; point = start }) []
    (unbound_slots (module_variables file)) 0 in
    matches-weaker file limits 0 0 nothing_given
    (λ next given done r. IsFinish (module_variables file) next given done (ending r))
    (λ next given done r. AreSlots (module_variables file) next given done.env r.names) piece (mean file limits)
    (λ next after done r reached. reached.related.env)
    (matches-before file limits 0 0 nothing_given (IsFinish (module_variables file)) piece (mean file limits) ending
    (subst (λ m. Matches file limits 0 0 nothing_given piece m (IsFinish (module_variables file)))
    (λ i. mean file limits >>= (λ r. ends_so file limits 0 0 nothing_given r.completion r.names i))
    (matches-more file limits (2 * 0) 0 0 nothing_given (IsFinish (module_variables file)) piece _ (omega arith)
    (block_law file limits 0 0 (record { stmts = body file 0; point = start }) [] 0 nothing_given
    (unbound_slots (module_variables file)) no_names (body_placed file 0) tt
    (slots_unbound (module_variables file) 0 nothing_given)))))
