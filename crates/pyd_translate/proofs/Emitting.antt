-- What single nodes do: leaves whose arguments have values, and composites.
use Rattle.std.proofs.Common.{◌≡◌, ℕ, suc, ◌+◌, ◌*◌, ◌≤◌, ◌<◌, List, append-nil, refl, sym, ap, subst, ◌∙◌, arith, Some, Result, Ok, Err, nat_eq, true, false, if◌then◌else◌}
use Rattle.std.proofs.lemmas.Bool.Decides.{nat_tests}
use Rattle.pyd_value.specs.declared.value.Value.{Value}
use Rattle.pyd_value.specs.declared.fault.Fault.{Fault}
use Rattle.pyd_tree.specs.declared.file.File.{File}
use Rattle.pyd_meaning.specs.declared.limits.Limits.{Limits}
use Rattle.pyd_meaning.specs.Evaluation.{Evaluation, settled, gives, go_on, ◌>>=◌}
use Rattle.pyd_meaning.proofs.Sequencing.{then-gives}
use Rattle.pyd_ir.specs.declared.arg.Arg.TheVariants.{From}
use Rattle.pyd_ir.specs.declared.work.Work.{Work}
use Rattle.pyd_ir.specs.Inputs.{Given, leaf_meaning}
use Rattle.pyd_ir.specs.Ports.{Ports, ports_of}
use Rattle.pyd_translate.specs.Making.{pure, Context, node_of, emit, emit_value, port}
use Rattle.pyd_translate.specs.Walk.{give, if_there, count_leaf, count_composite, leaf_ports, work_ports, walk}
use Rattle.pyd_translate.specs.Matching.{HasValue, IsKept, AreAlike, IsReached, Matches}
use Rattle.pyd_translate.proofs.Sequencing.{then-ok, then-err, matches-then, matches-pure, matches-more}

-- what stands at ports where an evaluation gave this
abbrev pub ported : {B : Type 0} → (B → Ports) → Result B Fault → Result Ports Fault
ported ports (Ok b) = Ok (ports b)
ported ports (Err e) = Err e

-- a node puts what an evaluation gives at its ports, and counts at most 4 steps for each of its steps and some more
pub record Puts {B : Type 0} (more : ℕ) (w : Evaluation Ports) (m : Evaluation B) (ports : B → Ports) : Type 0 where
  pub lines : w.lines ≡ m.lines
  pub result : w.result ≡ ported ports m.result
  pub steps : w.steps ≤ 4 * m.steps + more

-- one node was made, and what it puts at its ports is given
pub record IsEmitted {B : Type 0} (ids : ℕ) (before : Given) (ports : B → Ports) (next : ℕ) (after : Given) (id : ℕ) (b : B) : Type 0 where
  pub named : id ≡ ids
  pub last : next ≡ suc ids
  pub now : after ≡ give ids (ports b) before

-- what is given behind an evaluation prints nothing
go_on-lines : {A B : Type 0} (lines : List (List ℕ)) (n : ℕ) (r : Result A Fault) (f : A → B)
    → (go_on lines n r (λ x. gives (f x))).lines ≡ lines
unfolding settled
go_on-lines lines n (Ok x) f = append-nil lines
go_on-lines lines n (Err e) f = refl

-- it takes no step
go_on-steps : {A B : Type 0} (lines : List (List ℕ)) (n : ℕ) (r : Result A Fault) (f : A → B)
    → (go_on lines n r (λ x. gives (f x))).steps ≡ n
unfolding settled
go_on-steps lines n (Ok x) f = omega arith
go_on-steps lines n (Err e) f = refl

-- it is what stands at ports
go_on-ported : {B : Type 0} (lines : List (List ℕ)) (n : ℕ) (r : Result B Fault) (ports : B → Ports)
    → (go_on lines n r (λ x. gives (ports x))).result ≡ ported ports r
unfolding settled
go_on-ported lines n (Ok x) ports = refl
go_on-ported lines n (Err e) ports = refl

-- what follows without a line and a step changes neither
pub then-lines : {A B : Type 0} (e : Evaluation A) (f : A → B) → (e >>= (λ x. gives (f x))).lines ≡ e.lines
unfolding ◌>>=◌
then-lines e f = go_on-lines e.lines e.steps e.result f

-- the same of steps
pub then-steps : {A B : Type 0} (e : Evaluation A) (f : A → B) → (e >>= (λ x. gives (f x))).steps ≡ e.steps
unfolding ◌>>=◌
then-steps e f = go_on-steps e.lines e.steps e.result f

-- what then stands at ports
pub then-ported : {B : Type 0} (e : Evaluation B) (ports : B → Ports) → (e >>= (λ x. gives (ports x))).result ≡ ported ports e.result
unfolding ◌>>=◌
then-ported e ports = go_on-ported e.lines e.steps e.result ports

-- a leaf puts what it gives, and counts one step
pub puts-leaf : {B : Type 0} (m : Evaluation B) (ports : B → Ports)
    → Puts 1 (count_leaf m >>= (λ b. gives (ports b))) m ports
puts-leaf m ports = record {
  lines = then-lines (count_leaf m) ports;
  result = then-ported (count_leaf m) ports;
  steps = let p = then-steps (count_leaf m) ports in omega arith;
}

-- a composite puts what its meaning gives, and counts two steps and two for each frame
pub puts-composite : {B : Type 0} (frames : ℕ) (m : Evaluation B) (ports : B → Ports)
    → Puts (2 + 2 * frames) (count_composite frames (m >>= (λ b. gives (ports b)))) m ports
puts-composite frames m ports = record {
  lines = then-lines m ports;
  result = then-ported m ports;
  steps = let p = then-steps m ports in omega arith;
}

-- a lesser number is another
not_itself : (n a : ℕ) → n < a → nat_eq n a ≡ false
not_itself n a lt = grind (arith, nat_tests)

-- a number is its own
pub itself : (n : ℕ) → nat_eq n n ≡ true
itself n = grind (arith, nat_tests)

-- what was given to numbers below stays
pub kept-give : (ids : ℕ) (ports : Ports) (given : Given) → IsKept ids given (give ids ports given)
kept-give ids ports given = λ node port lt. ap (λ b. (if b then ports else given node) port) (not_itself node ids lt)

-- what stands at the ports of the node that was made
pub value-emitted : {B : Type 0} (ids : ℕ) (before after : Given) (ports : B → Ports) (next id : ℕ) (b : B) (p : ℕ)
    → IsEmitted ids before ports next after id b → after id p ≡ ports b p
value-emitted ids before after ports next id b p made =
    (λ i. made.now i (made.named i) p) ∙ ap (λ t. (if t then ports b else before ids) p) (itself ids)

module _ (file : File) (limits : Limits) where
  -- a node's walk ends as the evaluation whose value it puts at its ports
  alike : {B : Type 0} (ids : ℕ) (given : Given) (ports : B → Ports) (w : Evaluation Ports) (r : Result B Fault)
      → w.result ≡ ported ports r
      → AreAlike (w >>= (λ q. gives (give ids q given))).result (Some ids) r (IsReached ids given (suc ids) (IsEmitted ids given ports))
  unfolding settled
  alike ids given ports w (Ok b) is =
      subst (λ e. AreAlike e.result (Some ids) (Ok b) (IsReached ids given (suc ids) (IsEmitted ids given ports)))
      (sym (then-ok w (ports b) (λ q. gives (give ids q given)) is))
      (record {
        grown = omega arith;
        kept = kept-give ids (ports b) given;
        related = record { named = refl; last = refl; now = refl };
      })
  alike {B = B} ids given ports w (Err e) is =
      subst (λ d. AreAlike {A = ℕ} {B = B} d.result (Some ids) (Err e) (IsReached ids given (suc ids) (IsEmitted ids given ports)))
      (sym (then-err w e (λ q. gives (give ids q given)) is)) refl

  -- a node that puts what an evaluation gives at its ports does what the evaluation does
  pub matches-emit : {B : Type 0} (more ids : ℕ) (given : Given) (at : Context) (work : Work) (ports : B → Ports) (m : Evaluation B)
      → Puts more (work_ports file limits work (node_of at ids work) given) m ports
      → Matches file limits more ids given (emit at work ids) m (IsEmitted ids given ports)
  unfolding emit walk
  matches-emit more ids given at work ports m puts =
      let w = work_ports file limits work (node_of at ids work) given in record {
        lines = then-lines w (λ q. give ids q given) ∙ puts.lines;
        ends = alike ids given ports w m.result puts.result;
        steps = let p = then-steps w (λ q. give ids q given) in let q = puts.steps in omega arith;
      }

  -- a leaf whose meaning is there does what it means
  pub matches-leaf : (ids : ℕ) (given : Given) (at : Context) (work : Work) (m : Evaluation Value)
      → work_ports file limits work (node_of at ids work) given ≡ leaf_ports file limits (node_of at ids work) given
      → leaf_meaning file limits given (node_of at ids work) ≡ Some m
      → Matches file limits 1 ids given (emit at work ids) m (IsEmitted ids given (ports_of work))
  matches-leaf ids given at work m leaf meaning =
      matches-emit 1 ids given at work (ports_of work) m
      (subst (λ w. Puts 1 w m (ports_of work))
      (sym (leaf ∙ ap (λ o. count_leaf (if_there o at.line (λ e. e)) >>= (λ v. gives (ports_of work v))) meaning))
      (puts-leaf m (ports_of work)))

  -- the value at the first port of a node
  pub matches-emit_value : (more ids : ℕ) (given : Given) (at : Context) (work : Work) (ports : Value → Ports) (m : Evaluation Value)
      → ((v : Value) → ports v 0 ≡ Some v)
      → Matches file limits more ids given (emit at work ids) m (IsEmitted ids given ports)
      → Matches file limits more ids given (emit_value at work ids) m HasValue
  matches-emit_value more ids given at work ports m first made =
      matches-more file limits (more + 0) more ids given HasValue _ _ (omega arith)
      (subst (λ e. Matches file limits (more + 0) ids given (emit_value at work ids) e HasValue) (then-gives m)
      (matches-then file limits more 0 ids given (IsEmitted ids given ports) HasValue (emit at work) (λ id. pure (From (port id 0))) m (λ v. gives v)
      made
      (λ next mid id v reached.
      let made = reached.related in
      matches-pure file limits 0 next mid HasValue (From (port id 0)) v
      (value-emitted ids given mid ports next id v 0 made ∙ first v, let p = made.named in let q = made.last in omega arith))))
