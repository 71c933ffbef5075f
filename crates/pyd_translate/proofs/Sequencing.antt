-- How walks follow one another, and how nodes do what one evaluation and then another does.
use Rattle.std.proofs.Common.{◌≡◌, ℕ, ◌+◌, ◌*◌, ◌≤◌, List, [], ◌∷◌, ◌++◌, refl, sym, ap, subst, ◌∙◌, arith, Option, Some, None, Result, Ok, Err}
use Rattle.pyd_value.specs.declared.fault.Fault.{Fault}
use Rattle.pyd_tree.specs.declared.file.File.{File}
use Rattle.pyd_meaning.specs.declared.limits.Limits.{Limits}
use Rattle.pyd_meaning.specs.Evaluation.{Evaluation, settled, gives, faults, step, after, go_on, ◌>>=◌}
use Rattle.pyd_meaning.proofs.Sequencing.{gives-then, then-then, step-then}
use Rattle.pyd_ir.specs.declared.node.Node.{Node}
use Rattle.pyd_ir.specs.declared.arg.Arg.{Arg}
use Rattle.pyd_ir.specs.declared.arg.Arg.TheVariants.{Unbound}
use Rattle.pyd_ir.specs.Inputs.{Given}
use Rattle.pyd_translate.specs.Making.{Piece, Making, pure, carry, ◌>>>◌, Context, stop}
use Rattle.pyd_translate.specs.Statements.{Done, done, or_stopped, then_done}
use Rattle.pyd_translate.specs.Walk.{give, work_ports, walk}
use Rattle.pyd_translate.specs.Matching.{IsKept, Relation, AreAlike, IsReached, Matches}

-- an evaluation that gives a value, and then the next
pub then-ok : {A B : Type 0} (e : Evaluation A) (x : A) (next : A → Evaluation B)
    → e.result ≡ Ok x → e >>= next ≡ after e.lines e.steps (next x)
unfolding ◌>>=◌
then-ok e x next is = ap (λ r. go_on e.lines e.steps r next) is

-- an evaluation that ends at a fault
pub then-err : {A B : Type 0} (e : Evaluation A) (f : Fault) (next : A → Evaluation B)
    → e.result ≡ Err f
    → e >>= next ≡ (let w : Evaluation B = record { lines = e.lines; result = Err f; steps = e.steps } in w)
unfolding ◌>>=◌
then-err e f next is = ap (λ r. go_on e.lines e.steps r next) is

-- what was kept twice was kept
pub kept-then : (low high : ℕ) (before mid last : Given)
    → low ≤ high → IsKept low before mid → IsKept high mid last → IsKept low before last
kept-then low high before mid last le first second =
    λ node port lt. second node port (omega arith) ∙ first node port lt

-- two results that are alike by one relation are alike by any that follows from it
pub alike-weaker : {A B : Type 0} (r : Result Given Fault) (got : Option A) (s : Result B Fault)
    (R S : Given → A → B → Type 0)
    → ((given : Given) (a : A) (b : B) → R given a b → S given a b)
    → AreAlike r got s R → AreAlike r got s S
alike-weaker (Ok given) (Some a) (Ok b) R S f alike = f given a b alike
alike-weaker (Ok given) None (Ok b) R S f alike = alike
alike-weaker (Ok given) got (Err e) R S f alike = alike
alike-weaker (Err d) got (Ok b) R S f alike = alike
alike-weaker (Err d) got (Err e) R S f alike = alike

-- one piece was reached, and then the next
pub reached-then : {A B C D : Type 0} (ids : ℕ) (before : Given) (R : Relation A B) (S : Relation C D)
    (next last : ℕ) (mid after : Given) (a : A) (b : B) (c : C) (d : D)
    → IsReached ids before next R mid a b → IsReached next mid last S after c d
    → IsReached ids before last S after c d
reached-then ids before R S next last mid after a b c d first second = record {
  grown = let p = first.grown in let q = second.grown in omega arith;
  kept = kept-then ids next before mid after first.grown first.kept second.kept;
  related = second.related;
}

module _ (file : File) (limits : Limits) where
  -- a walk of two lists is a walk of one and then of the other
  pub walk-append : (xs ys : List Node) (given : Given)
      → walk file limits (xs ++ ys) given ≡ walk file limits xs given >>= walk file limits ys
  unfolding walk
  walk-append [] ys given = sym (gives-then given (walk file limits ys))
  walk-append (x ∷ xs) ys given =
      (λ i. work_ports file limits x.work x given >>= (λ ports. walk-append xs ys (give x.id ports given) i))
      ∙ sym (then-then (work_ports file limits x.work x given) (λ ports. walk file limits xs (give x.id ports given)) (walk file limits ys))

  -- a walk of nodes that gives something, and then of more
  walk-on : (nodes more : List Node) (given : Given) (w : Evaluation Given)
      → walk file limits nodes given ≡ w → walk file limits (nodes ++ more) given ≡ w >>= walk file limits more
  walk-on nodes more given w is = walk-append nodes more given ∙ ap (λ e. e >>= walk file limits more) is

  -- what one piece does before another, by what its walk and its evaluation gave
  module _ {A B C D : Type 0} (more extra ids : ℕ) (given : Given) (R : Relation A B)
      (S : Relation C D) (f : A → Making C) (k : B → Evaluation D) (nodes : List Node) (next : ℕ) where
    -- what follows does what follows the evaluation
    abbrev pub Next : Type 0
    Next = (mid : Given) (a : A) (b : B) → IsReached ids given next R mid a b
        → Matches file limits extra next mid (f a next) (k b) S

    -- both give something, and what follows does what follows
    both-given : (a : A) (b : B) (mid : Given) (wl : List (List ℕ)) (ws : ℕ) (ml : List (List ℕ)) (ms : ℕ)
        → walk file limits nodes given ≡ (let w : Evaluation Given = record { lines = wl; result = Ok mid; steps = ws } in w)
        → wl ≡ ml → IsReached ids given next R mid a b → ws ≤ 4 * ms + more
        → Matches file limits extra next mid (f a next) (k b) S
        → Matches file limits (more + extra) ids given
        (record { nodes = nodes ++ (f a next).nodes; got = (f a next).got; next = (f a next).next })
        (after ml ms (k b)) S
    unfolding ◌>>=◌
    both-given a b mid wl ws ml ms walked lines reached steps on =
        let whole = walk-on nodes (f a next).nodes given _ walked in record {
          lines =
              ap (λ e. e.lines) whole ∙ ap (λ l. l ++ (walk file limits (f a next).nodes mid).lines) lines
              ∙ ap (λ l. ml ++ l) on.lines;
          ends =
              subst (λ e. AreAlike e.result (f a next).got (k b).result (IsReached ids given (f a next).next S)) (sym whole)
              (alike-weaker (walk file limits (f a next).nodes mid).result (f a next).got (k b).result _ _
              (λ last c d second. reached-then ids given R S next (f a next).next mid last a b c d reached second) on.ends);
          steps =
              subst (λ e. e.steps ≤ 4 * (ms + (k b).steps) + (more + extra)) (sym whole)
              (let p = on.steps in omega arith);
        }

    -- a fault before the second piece ends both, whatever nodes follow
    fault-kept : (got : Option C) (last : ℕ) (behind : List Node) (wl : List (List ℕ)) (d : Fault) (ws : ℕ) (ml : List (List ℕ)) (e : Fault) (ms : ℕ)
        → walk file limits nodes given ≡ (let w : Evaluation Given = record { lines = wl; result = Err d; steps = ws } in w)
        → wl ≡ ml → d ≡ e → ws ≤ 4 * ms + more
        → Matches file limits (more + extra) ids given
        (record { nodes = nodes ++ behind; got = got; next = last })
        (let m : Evaluation D = record { lines = ml; result = Err e; steps = ms } in m) S
    unfolding ◌>>=◌
    fault-kept got last behind wl d ws ml e ms walked lines same steps =
        let whole = walk-on nodes behind given _ walked in record {
          lines = ap (λ w. w.lines) whole ∙ lines;
          ends = subst (λ w. AreAlike w.result got (Err e) (IsReached ids given last S)) (sym whole) same;
          steps = subst (λ w. w.steps ≤ 4 * ms + (more + extra)) (sym whole) (omega arith);
        }

    -- a fault with no node behind it
    fault-last : (got : Option C) (last : ℕ) (wl : List (List ℕ)) (d : Fault) (ws : ℕ) (ml : List (List ℕ)) (e : Fault) (ms : ℕ)
        → walk file limits nodes given ≡ (let w : Evaluation Given = record { lines = wl; result = Err d; steps = ws } in w)
        → wl ≡ ml → d ≡ e → ws ≤ 4 * ms + more
        → Matches file limits (more + extra) ids given
        (record { nodes = nodes; got = got; next = last })
        (let m : Evaluation D = record { lines = ml; result = Err e; steps = ms } in m) S
    fault-last got last wl d ws ml e ms walked lines same steps = record {
      lines = ap (λ w. w.lines) walked ∙ lines;
      ends = subst (λ w. AreAlike w.result got (Err e) (IsReached ids given last S)) (sym walked) same;
      steps = subst (λ w. w.steps ≤ 4 * ms + (more + extra)) (sym walked) (omega arith);
    }

    -- by what came of the first piece and of the first evaluation
    go : (got : Option A) (wl : List (List ℕ)) (wr : Result Given Fault) (ws : ℕ) (ml : List (List ℕ)) (mr : Result B Fault) (ms : ℕ)
        → walk file limits nodes given ≡ record { lines = wl; result = wr; steps = ws }
        → wl ≡ ml → AreAlike wr got mr (IsReached ids given next R) → ws ≤ 4 * ms + more → Next
        → Matches file limits (more + extra) ids given (carry nodes got next f) (go_on ml ms mr k) S
    go (Some a) wl (Ok mid) ws ml (Ok b) ms walked lines ends steps on =
        both-given a b mid wl ws ml ms walked lines ends steps (on mid a b ends)
    go None wl (Ok mid) ws ml (Ok b) ms walked lines ends steps on = absurd ends
    go got wl (Ok mid) ws ml (Err e) ms walked lines ends steps on = absurd ends
    go got wl (Err d) ws ml (Ok b) ms walked lines ends steps on = absurd ends
    go (Some a) wl (Err d) ws ml (Err e) ms walked lines ends steps on =
        fault-kept (f a next).got (f a next).next (f a next).nodes wl d ws ml e ms walked lines ends steps
    go None wl (Err d) ws ml (Err e) ms walked lines ends steps on =
        fault-last None next wl d ws ml e ms walked lines ends steps

    -- the first piece does what the first evaluation does
    carried : (m : Evaluation B) (got : Option A)
        → Matches file limits more ids given (record { nodes = nodes; got = got; next = next }) m R → Next
        → Matches file limits (more + extra) ids given (carry nodes got next f) (m >>= k) S
    unfolding ◌>>=◌
    carried m got first on =
        go got (walk file limits nodes given).lines (walk file limits nodes given).result (walk file limits nodes given).steps
        m.lines m.result m.steps refl first.lines first.ends first.steps on

  -- the same where the slots stay as they were behind a Stop
  module _ {A B D : Type 0} (more extra ids : ℕ) (given : Given) (R : Relation A B)
      (S : Relation Done D) (env : List Arg) (f : A → Making Done) (k : B → Evaluation D) (nodes : List Node) (next : ℕ) where
    -- by what came of the header and of its evaluation
    go_done : (got : Option A) (wl : List (List ℕ)) (wr : Result Given Fault) (ws : ℕ) (ml : List (List ℕ)) (mr : Result B Fault) (ms : ℕ)
        → walk file limits nodes given ≡ record { lines = wl; result = wr; steps = ws }
        → wl ≡ ml → AreAlike wr got mr (IsReached ids given next R) → ws ≤ 4 * ms + more
        → Next more extra ids given R S f k nodes next
        → Matches file limits (more + extra) ids given (or_stopped env nodes got next f) (go_on ml ms mr k) S
    go_done (Some a) wl (Ok mid) ws ml (Ok b) ms walked lines ends steps on =
        both-given more extra ids given R S f k nodes next a b mid wl ws ml ms walked lines ends steps (on mid a b ends)
    go_done None wl (Ok mid) ws ml (Ok b) ms walked lines ends steps on = absurd ends
    go_done got wl (Ok mid) ws ml (Err e) ms walked lines ends steps on = absurd ends
    go_done got wl (Err d) ws ml (Ok b) ms walked lines ends steps on = absurd ends
    go_done (Some a) wl (Err d) ws ml (Err e) ms walked lines ends steps on =
        fault-kept more extra ids given R S f k nodes next (f a next).got (f a next).next (f a next).nodes wl d ws ml e ms walked lines ends steps
    go_done None wl (Err d) ws ml (Err e) ms walked lines ends steps on =
        fault-last more extra ids given R S f k nodes next (Some (done env Unbound)) next wl d ws ml e ms walked lines ends steps

  -- one piece and then the next do what one evaluation and then the next does
  pub matches-then : {A B C D : Type 0} (more extra ids : ℕ) (given : Given) (R : Relation A B)
      (S : Relation C D) (u : Making A) (f : A → Making C) (m : Evaluation B) (k : B → Evaluation D)
      → Matches file limits more ids given (u ids) m R
      → ((next : ℕ) (mid : Given) (a : A) (b : B) → IsReached ids given next R mid a b
      → Matches file limits extra next mid (f a next) (k b) S)
      → Matches file limits (more + extra) ids given ((u >>> f) ids) (m >>= k) S
  unfolding ◌>>>◌
  matches-then more extra ids given R S u f m k first on =
      carried more extra ids given R S f k (u ids).nodes (u ids).next m (u ids).got first
      (λ mid a b. on (u ids).next mid a b)

  -- the same of a header and what follows it in a statement
  pub matches-then_done : {A B D : Type 0} (more extra ids : ℕ) (given : Given) (R : Relation A B)
      (S : Relation Done D) (env : List Arg) (u : Making A) (f : A → Making Done) (m : Evaluation B) (k : B → Evaluation D)
      → Matches file limits more ids given (u ids) m R
      → ((next : ℕ) (mid : Given) (a : A) (b : B) → IsReached ids given next R mid a b
      → Matches file limits extra next mid (f a next) (k b) S)
      → Matches file limits (more + extra) ids given (then_done env u f ids) (m >>= k) S
  unfolding then_done ◌>>=◌
  matches-then_done more extra ids given R S env u f m k first on =
      let nodes = (u ids).nodes in
      go_done more extra ids given R S env f k nodes (u ids).next (u ids).got
      (walk file limits nodes given).lines (walk file limits nodes given).result (walk file limits nodes given).steps
      m.lines m.result m.steps refl first.lines first.ends first.steps (λ mid a b. on (u ids).next mid a b)

  -- no node does what gives a value
  pub matches-pure : {A B : Type 0} (more ids : ℕ) (given : Given) (R : Relation A B) (a : A) (b : B)
      → R ids given a b → Matches file limits more ids given (pure a ids) (gives b) R
  unfolding pure walk settled
  matches-pure more ids given R a b r = record {
    lines = refl;
    ends = record { grown = omega arith; kept = λ node port lt. refl; related = r };
    steps = omega arith;
  }

  -- a Stop does what ends at its fault
  pub matches-stop : {A B : Type 0} (ids : ℕ) (given : Given) (R : Relation A B) (at : Context) (fault : Fault)
      → Matches file limits 1 ids given (stop {A = A} at fault ids) (faults {A = B} fault) R
  unfolding stop walk settled ◌>>=◌
  matches-stop ids given R at fault = record { lines = refl; ends = refl; steps = omega arith }

  -- what counts at most some steps more counts at most any greater number more
  pub matches-more : {A B : Type 0} (more extra ids : ℕ) (given : Given) (R : Relation A B) (p : Piece A) (m : Evaluation B)
      → more ≤ extra → Matches file limits more ids given p m R → Matches file limits extra ids given p m R
  matches-more more extra ids given R p m le first = record {
    lines = first.lines;
    ends = first.ends;
    steps = let p = first.steps in omega arith;
  }

  -- a step of an evaluation stands for 4 of a walk
  pub matches-step : {A B : Type 0} (more ids : ℕ) (given : Given) (R : Relation A B) (p : Piece A) (m : Evaluation B)
      → Matches file limits (4 + more) ids given p m R → Matches file limits more ids given p (step m) R
  unfolding step
  matches-step more ids given R p m first = record {
    lines = first.lines;
    ends = first.ends;
    steps = let p = first.steps in omega arith;
  }

  -- what is related by one relation is related by any that follows from it
  pub matches-weaker : {A B : Type 0} (more ids : ℕ) (given : Given) (R S : Relation A B) (p : Piece A) (m : Evaluation B)
      → ((next : ℕ) (after : Given) (a : A) (b : B) → IsReached ids given next R after a b → S next after a b)
      → Matches file limits more ids given p m R → Matches file limits more ids given p m S
  matches-weaker more ids given R S p m f first = record {
    lines = first.lines;
    ends =
        alike-weaker (walk file limits p.nodes given).result p.got m.result _ _
        (λ after a b reached. record { grown = reached.grown; kept = reached.kept; related = f p.next after a b reached })
        first.ends;
    steps = first.steps;
  }

  -- a piece does what an evaluation does that begins with a step, and leaves two of the four that this stands for
  pub record Spares {A B : Type 0} (ids : ℕ) (given : Given) (p : Piece A) (m : Evaluation B) (R : Relation A B) : Type 0 where
    pub inner : Evaluation B
    pub begins : m ≡ step inner
    pub matches : Matches file limits 2 ids given p inner R

  -- what leaves steps over counts no step more
  pub spares-matches : {A B : Type 0} (ids : ℕ) (given : Given) (R : Relation A B) (p : Piece A) (m : Evaluation B)
      → Spares ids given p m R → Matches file limits 0 ids given p m R
  spares-matches ids given R p m first =
      subst (λ e. Matches file limits 0 ids given p e R) (sym first.begins)
      (matches-step 0 ids given R p first.inner (matches-more 2 (4 + 0) ids given R p first.inner (omega arith) first.matches))

  -- what follows may count the steps that were left over
  pub spares-then : {A B C D : Type 0} (more ids : ℕ) (given : Given) (R : Relation A B)
      (S : Relation C D) (u : Making A) (f : A → Making C) (m : Evaluation B) (k : B → Evaluation D)
      → Spares ids given (u ids) m R
      → ((next : ℕ) (mid : Given) (a : A) (b : B) → IsReached ids given next R mid a b
      → Matches file limits (2 + more) next mid (f a next) (k b) S)
      → Matches file limits more ids given ((u >>> f) ids) (m >>= k) S
  spares-then more ids given R S u f m k first on =
      subst (λ e. Matches file limits more ids given ((u >>> f) ids) e S)
      (sym (ap (λ e. e >>= k) first.begins ∙ step-then first.inner k))
      (matches-step more ids given S _ _
      (matches-more (2 + (2 + more)) (4 + more) ids given S _ _ (omega arith)
      (matches-then 2 (2 + more) ids given R S u f first.inner k first.matches on)))
