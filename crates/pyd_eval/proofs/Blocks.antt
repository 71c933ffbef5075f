-- Suites and statements, from what their parts do.
use Rattle.std.proofs.Common.{◌≡◌, ℕ, suc, ◌+◌, ◌<◌, ◌≤◌, length, map, drop, get_or, add-one, drop-cons, List, [], ◌∷◌, ◌++◌, refl, sym, ap, ◌∙◌, Result, Ok, Err}
use Rattle.std.proofs.lemmas.List.{drop_all}
use Rattle.pyd_value.specs.declared.value.Value.{Value}
use Rattle.pyd_value.specs.declared.fault.Fault.{Fault}
use Rattle.pyd_tree.specs.declared.statement.Stmt.{Stmt}
use Rattle.pyd_meaning.specs.Evaluation.{Evaluation, gives, settled, ◌>>=◌}
use Rattle.pyd_meaning.specs.Names.{Names}
use Rattle.pyd_meaning.specs.Completion.{Completion, Normal, Reached, Action, left, normally, left_by, in_turn}
use Rattle.pyd_meaning.specs.Outcome.{outcome}
use Rattle.pyd_meaning.proofs.Sequencing.{outcome-settled, outcome-ok, outcome-err}

module _ (does : Stmt → Action) (ss : List Stmt) (i : ℕ) (names : Names) (old : List (List ℕ)) where
  -- all are done
  pub block_done : length ss ≤ i → outcome old (in_turn (map does (drop i ss)) names) ≡ (old, Ok (normally names))
  unfolding in_turn
  block_done le = rw (drop_all i ss le) (outcome-settled old _)

  -- one is done
  pub block_more : (s : Stmt) (mid : List (List ℕ)) (names' : Names) (how : Completion) → i < length ss → s ≡ get_or ss i s
      → outcome old (does s names) ≡ (mid, Ok (left how names'))
      → outcome old (in_turn (map does (drop i ss)) names) ≡ outcome mid (left_by how names' (in_turn (map does (drop (i + 1) ss))))
  unfolding in_turn
  block_more s mid names' how lt is h =
      rw (drop-cons ss i s lt, ← is) (outcome-ok old mid _ _ (left how names') h)
      ∙ ap (λ n. outcome mid (left_by how names' (in_turn (map does (drop n ss))))) (sym (add-one i))

  -- one ends in a fault
  pub block_fault : (s : Stmt) (mid : List (List ℕ)) (f : Fault) → i < length ss → s ≡ get_or ss i s
      → outcome old (does s names) ≡ (mid, Err f)
      → outcome old (in_turn (map does (drop i ss)) names) ≡ (mid, Err f)
  unfolding in_turn
  block_fault s mid f lt is h = rw (drop-cons ss i s lt, ← is) (outcome-err old mid _ _ f h)

  -- one leaves the suite
  pub block_ends : (s : Stmt) (mid : List (List ℕ)) (names' : Names) (how : Completion)
      → ((next : Action) → left_by how names' next ≡ gives (left how names')) → i < length ss → s ≡ get_or ss i s
      → outcome old (does s names) ≡ (mid, Ok (left how names'))
      → outcome old (in_turn (map does (drop i ss)) names) ≡ (mid, Ok (left how names'))
  block_ends s mid names' how ends lt is h =
      block_more s mid names' how lt is h ∙ ap (outcome mid) (ends (in_turn (map does (drop (i + 1) ss)))) ∙ outcome-settled mid _
