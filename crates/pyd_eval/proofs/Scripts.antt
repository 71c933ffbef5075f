-- A whole script, and a call from outside.
use Rattle.std.proofs.Common.{◌≡◌, ℕ, zero, suc, ◌+◌, ◌<◌, ◌≤◌, List, [], ◌∷◌, ◌++◌, map, ◌-◌, length, replicate, drop, get_or, add-one, drop-cons, flat_map, Bool, true, false, ◌&&◌, Option, Some, None, Result, Ok, Err, refl, sym, ap, ◌∙◌, subst, arith}
use Rattle.std.specs.Borrow.{Bor}
use Rattle.std.specs.List.{list_all}
use Rattle.std.proofs.lemmas.List.{drop_all, length-map, length-replicate}
use Rattle.std.proofs.lemmas.List.Folds.{list_all-append}
use Rattle.pyd_value.specs.declared.value.Value.{Value}
use Rattle.pyd_value.specs.declared.fault.Fault.{Fault}
use Rattle.pyd_tree.specs.declared.file.File.{File}
use Rattle.pyd_tree.specs.declared.statement.Stmt.{Stmt}
use Rattle.pyd_names.specs.declared.binding.Binding.{Binding}
use Rattle.pyd_names.specs.Binding.{statement_bindings, module_statements, names_of as bound_names, module_variables, is_among, distinct}
use Rattle.pyd_ops.specs.Answer.{outcome_of}
use Rattle.pyd_meaning.specs.declared.limits.Limits.{Limits}
use Rattle.pyd_meaning.specs.declared.ran.Ran.{Ran}
use Rattle.pyd_meaning.specs.Evaluation.{Evaluation, gives, ◌>>=◌}
use Rattle.pyd_meaning.specs.Names.{Names, no_names}
use Rattle.pyd_meaning.specs.Completion as meaning
use Rattle.pyd_meaning.specs.Completion.{Action, Reached, left, normally, left_by, in_turn}
use Rattle.pyd_meaning.specs.Statement.{action_of}
use Rattle.pyd_meaning.specs.Module.{mean, end_of, call_at, setting_at}
use Rattle.pyd_meaning.specs.Outcome.{outcome, IsRunOf}
use Rattle.pyd_meaning.proofs.Calls.{bind_all-even}
use Rattle.pyd_meaning.proofs.Sequencing.{outcome-settled, outcome-ok, outcome-err}
use Rattle.pyd_eval.specs.declared.completion.Completion.{Completion}
use Rattle.pyd_eval.specs.declared.activation.Activation.{Activation}
use Rattle.pyd_eval.specs.Frames.{slot_names, bound_by, names_of, Holds}
use Rattle.pyd_eval.specs.Left.{reached}
use Rattle.pyd_eval.proofs.Entering.{bound-empty}
use Rattle.pyd_eval.proofs.Program.{slots_of_module, all_among}
use Rattle.pyd_eval.specs.Passed.{values_in}
use Rattle.pyd_eval.specs.Whole.{all_bound, IsCalled, IsDepth, IsRunOfCall}
use Rattle.pyd_eval.proofs.Calling.{same-from-lines}

-- no action is left
pub turns-over : (names : Names) (old : List (List ℕ)) → outcome old (in_turn [] names) ≡ (old, Ok (normally names))
unfolding in_turn
turns-over names old = outcome-settled old (Ok (normally names))

module _ (action : Action) (more : List Action) (names : Names) (old mid : List (List ℕ)) where
  -- an action is left so, and then what follows it
  pub turn-left : (how : meaning.Completion) (after : Names) → outcome old (action names) ≡ (mid, Ok (left how after))
      → outcome old (in_turn (action ∷ more) names) ≡ outcome mid (left_by how after (in_turn more))
  unfolding in_turn
  turn-left how after is = outcome-ok old mid (action names) (λ r. left_by r.completion r.names (in_turn more)) (left how after) is

  -- so does a fault
  pub turn-faults : (f : Fault) → outcome old (action names) ≡ (mid, Err f) → outcome old (in_turn (action ∷ more) names) ≡ (mid, Err f)
  unfolding in_turn
  turn-faults f is = outcome-err old mid (action names) (λ r. left_by r.completion r.names (in_turn more)) f is

-- the statement in turn, before those that follow it
pub next-statement : (act : Stmt → Action) (stmts : List (Bor Stmt)) (i : ℕ) (s : Bor Stmt) → i < length stmts → s ≡ get_or stmts i s
    → map act (map (λ s. s.now) (drop i stmts)) ≡ act s.now ∷ map act (map (λ s. s.now) (drop (i + 1) stmts))
next-statement act stmts i s within is = rw (add-one, drop-cons stmts i s within, ← is) refl

-- no statement is left
pub no-statement : (act : Stmt → Action) (stmts : List (Bor Stmt)) (i : ℕ) → length stmts ≤ i → map act (map (λ s. s.now) (drop i stmts)) ≡ []
no-statement act stmts i past = rw (drop_all i stmts past) refl

module _ (act : Stmt → Action) (stmts : List (Bor Stmt)) (i : ℕ) (s : Bor Stmt) (within : i < length stmts) (is : s ≡ get_or stmts i s) (names : Names) (old mid : List (List ℕ)) where
  -- a statement is left so, and then what follows it
  pub statement-left : (how : meaning.Completion) (after : Names) → outcome old (act s.now names) ≡ (mid, Ok (left how after))
      → outcome old (in_turn (map act (map (λ s. s.now) (drop i stmts))) names)
      ≡ outcome mid (left_by how after (in_turn (map act (map (λ s. s.now) (drop (i + 1) stmts)))))
  statement-left how after does =
      ap (λ l. outcome old (in_turn l names)) (next-statement act stmts i s within is)
      ∙ turn-left (act s.now) (map act (map (λ s. s.now) (drop (i + 1) stmts))) names old mid how after does

  -- a statement that isn't left normally ends them all
  pub statement-ends : (how : meaning.Completion) (after : Names) → ((next : Action) → left_by how after next ≡ gives (left how after))
      → outcome old (act s.now names) ≡ (mid, Ok (left how after))
      → outcome old (in_turn (map act (map (λ s. s.now) (drop i stmts))) names) ≡ (mid, Ok (left how after))
  statement-ends how after ends does =
      statement-left how after does
      ∙ ap (outcome mid) (ends (in_turn (map act (map (λ s. s.now) (drop (i + 1) stmts))))) ∙ outcome-settled mid (Ok (left how after))

  -- so does a fault
  pub statement-faults : (f : Fault) → outcome old (act s.now names) ≡ (mid, Err f)
      → outcome old (in_turn (map act (map (λ s. s.now) (drop i stmts))) names) ≡ (mid, Err f)
  statement-faults f does =
      ap (λ l. outcome old (in_turn l names)) (next-statement act stmts i s within is)
      ∙ turn-faults (act s.now) (map act (map (λ s. s.now) (drop (i + 1) stmts))) names old mid f does

-- all statements were left normally
pub statements-over : (act : Stmt → Action) (stmts : List (Bor Stmt)) (i : ℕ) (names : Names) (old : List (List ℕ)) → length stmts ≤ i
    → outcome old (in_turn (map act (map (λ s. s.now) (drop i stmts))) names) ≡ (old, Ok (normally names))
statements-over act stmts i names old past = ap (λ l. outcome old (in_turn l names)) (no-statement act stmts i past) ∙ turns-over names old

both : (a b : Bool) → (a && b) ≡ true → (a ≡ true) × (b ≡ true)
both true b h = (refl, h)
both false b h = cc

map-append : {X Y : Type 0} (f : X → Y) (xs ys : List X) → map f (xs ++ ys) ≡ map f xs ++ map f ys
map-append f [] ys = refl
map-append f (x ∷ xs) ys = ap (λ zs. f x ∷ zs) (map-append f xs ys)

-- what holds of the names that statements bind holds of those of the first and of the others
bound-in-parts : (test : List ℕ → Bool) (t : Bor Stmt) (stmts : List (Bor Stmt)) → list_all test (all_bound (map (λ s. s.now) (t ∷ stmts))) ≡ true
    → (list_all test (bound_names (statement_bindings t.now)) ≡ true) × (list_all test (all_bound (map (λ s. s.now) stmts)) ≡ true)
bound-in-parts test t stmts all =
    let rest = flat_map statement_bindings (map (λ (s : Bor Stmt). s.now) stmts) in
    both (list_all test (bound_names (statement_bindings t.now))) (list_all test (bound_names rest))
    (sym (list_all-append test (bound_names (statement_bindings t.now)) (bound_names rest))
    ∙ ap (list_all test) (sym (map-append (λ (b : Binding). b.name) (statement_bindings t.now) rest)) ∙ all)

-- and of those that one of them binds
pub bound-in-one : (test : List ℕ → Bool) (stmts : List (Bor Stmt)) (i : ℕ) (s : Bor Stmt) → i < length stmts → s ≡ get_or stmts i s
    → list_all test (all_bound (map (λ s. s.now) stmts)) ≡ true → list_all test (bound_names (statement_bindings s.now)) ≡ true
bound-in-one test [] i s within is all = absurd (omega arith)
bound-in-one test (t ∷ stmts) zero s within is all =
    subst (λ (r : Bor Stmt). list_all test (bound_names (statement_bindings r.now)) ≡ true) (sym is) (bound-in-parts test t stmts all).0
bound-in-one test (t ∷ stmts) (suc i) s within is all = bound-in-one test stmts i s (omega arith) is (bound-in-parts test t stmts all).1

-- a script that was run
pub script-ran : (file : File) (limits : Limits) (stmts : List Stmt) (names : Names) (before lines : List (List ℕ)) (result : Result Reached Fault)
    → stmts ≡ module_statements file → names ≡ no_names → before ≡ []
    → outcome before (in_turn (map (action_of (setting_at file limits 0 0)) stmts) names) ≡ (lines, result)
    → (lines ≡ (mean file limits).lines) × (result ≡ (mean file limits).result)
unfolding outcome mean
script-ran file limits stmts names before lines result are none new ran =
    let whole : outcome [] (in_turn (map (action_of (setting_at file limits 0 0)) (module_statements file)) no_names) ≡ (lines, result) =
    (λ i. outcome (sym new i) (in_turn (map (action_of (setting_at file limits 0 0)) (sym are i)) (sym none i))) ∙ ran in
    (sym (ap (λ p. p.0) whole), sym (ap (λ p. p.1) whole))

-- how a script ends doesn't depend on the names after it
pub same-end : (names : Names) (how : Result Completion Fault) → end_of (reached names how) ≡ end_of how
same-end names (Ok how) = refl
same-end names (Err f) = refl

values-some : (vs : List Value) → values_in (map Some vs) ≡ vs
values-some [] = refl
values-some (v ∷ vs) = ap (λ ws. v ∷ ws) (values-some vs)

-- the values of slots of which none is empty
values-of : (xs : List (Option Value)) (vs : List Value) → xs ≡ map Some vs → values_in xs ≡ vs
values-of xs vs is = ap values_in is ∙ values-some vs

-- no slot is empty that a value was put into
pub full-slots : (xs : List (Option Value)) (vs : List Value) → xs ≡ map Some vs → xs ≡ map Some (values_in xs)
full-slots xs vs is = is ∙ ap (map Some) (sym (values-of xs vs is))

ran : (ran : Ran) (e e' : Evaluation Value) (before : List (List ℕ)) (got : Result Value Fault) → e' ≡ e → before ≡ []
    → outcome before e ≡ (ran.lines, got) → ran.outcome ≡ outcome_of got → IsRunOf ran e'
unfolding outcome
ran run e e' before got same new does handed =
    let is : outcome [] e ≡ (run.lines, got) = ap (λ b. outcome b e) (sym new) ∙ does in
    let at : IsRunOf run e =
    record {
      lines = sym (ap (λ p. p.0) is);
      outcome = handed ∙ ap outcome_of (sym (ap (λ p. p.1) is));
    } in
    subst (λ x. IsRunOf run x) (sym same) at

-- a call from outside that was run
pub call-ran : (file : File) (limits : Limits) (depth k : ℕ) (args : List Value) (run : Ran) (xs : List (Option Value)) (before : List (List ℕ)) (got : Result Value Fault)
    → IsCalled file k (length args) → IsDepth limits depth → xs ≡ map Some args → before ≡ []
    → outcome before (call_at file limits (suc (depth - 1)) k (values_in xs) 0) ≡ (run.lines, got) → run.outcome ≡ outcome_of got
    → IsRunOfCall file limits depth k args run
call-ran file limits depth k args run xs before got is within passed new does handed =
    let even : length (map (λ (p : ℕ × List ℕ). p.1) is.func.params) ≡ length args = length-map is.func.params (λ (p : ℕ × List ℕ). p.1) ∙ is.even in
    let some = bind_all-even no_names (map (λ (p : ℕ × List ℕ). p.1) is.func.params) args even in
    let d : depth ≡ suc (depth - 1) = omega (arith, within.0) in
    let from : (line : ℕ) → call_at file limits depth k args line ≡ call_at file limits (suc (depth - 1)) k (values_in xs) 0 =
    λ line. same-from-lines file limits depth k line 0 is.func args some.0 is.found some.1 within.1
    ∙ (λ i. call_at file limits (d i) k (sym (values-of xs args passed) i) 0) in
    λ line. ran run (call_at file limits (suc (depth - 1)) k (values_in xs) 0) (call_at file limits depth k args line) before got (from line) new does handed

filled-up : (slots made : List (Option Value)) (n : ℕ) → made ≡ [] → slots ≡ made ++ replicate n None → slots ≡ replicate n None
filled-up slots made n new filled = filled ∙ ap (λ xs. xs ++ replicate n None) new

-- no name is bound before a script
pub script-unbound : (names : List (List ℕ)) (slots made : List (Option Value)) (n : ℕ) → made ≡ [] → slots ≡ made ++ replicate n None
    → bound_by names slots ≡ no_names
script-unbound names slots made n new filled = ap (bound_by names) (filled-up slots made n new filled) ∙ bound-empty names n

-- what the module binds has slots
pub script-holds : (on : Activation) (stmts : List Stmt) (slots made : List (Option Value)) (count : ℕ) → on.routine ≡ 0
    → stmts ≡ module_statements on.program.now.file → count ≡ length (slot_names on) → made ≡ []
    → slots ≡ made ++ replicate (count - length made) None → Holds on slots (all_bound stmts)
script-holds on stmts slots made count main are counted new filled =
    let names : slot_names on ≡ module_variables on.program.now.file =
    rw main (slots_of_module on.program.now.file on.program.now.routines on.program.now.its_routines) in
    let n : length slots ≡ count - length made =
    ap length (filled-up slots made (count - length made) new filled) ∙ length-replicate (count - length made) None in
    let none : length made ≡ 0 = ap length new in
    record {
      enough = omega arith;
      named =
          ap (λ ns. list_all (is_among ns) (all_bound stmts)) names
          ∙ ap (λ ss. list_all (is_among (distinct (all_bound (module_statements on.program.now.file)))) (all_bound ss)) are
          ∙ all_among [] (all_bound (module_statements on.program.now.file));
    }
