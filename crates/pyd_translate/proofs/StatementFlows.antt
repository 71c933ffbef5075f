-- What statements make, by what their parts made.
use Rattle.std.proofs.Common.{◌≡◌, ℕ, List, [], ◌∷◌, ◌++◌, append_assoc, length, refl, sym, ap, subst, ◌∙◌, true, false, Option, Some, None, Ok, Err}
use Rattle.std.specs.Prelude.{Bool, Result, IfOk, OnOk}
use Rattle.pyd_value.specs.declared.memory.NoMemory.{NoMemory}
use Rattle.pyd_value.specs.declared.value.Value.{Bool as Truth}
use Rattle.pyd_tree.specs.declared.statement.What.{What, out-What}
use Rattle.pyd_tree.specs.declared.statement.What.TheOpen.{What-F}
use Rattle.pyd_tree.specs.declared.statement.Arm.{Arm, out-Arm}
use Rattle.pyd_tree.specs.declared.statement.Block.{Block}
use Rattle.pyd_tree.specs.declared.statement.Stmt.{Stmt}
use Rattle.pyd_ir.specs.declared.node.Node.{Node}
use Rattle.pyd_ir.specs.declared.arg.Arg.{Arg}
use Rattle.pyd_ir.specs.declared.arg.Arg.TheVariants.{Known, From, Unbound}
use Rattle.pyd_ir.specs.declared.work.Frame.{Frame}
use Rattle.pyd_ir.specs.declared.work.Frame.TheVariants.{After}
use Rattle.pyd_translate.specs.declared.draft.Draft.{Draft}
use Rattle.pyd_translate.specs.declared.spot.Spot.{Spot}
use Rattle.pyd_translate.specs.declared.composite.Composite.{Composite}
use Rattle.pyd_translate.specs.declared.composite.Composite.TheVariants.{Cond}
use Rattle.pyd_translate.specs.declared.flow.Flow.{Flow}
use Rattle.pyd_translate.specs.Making.{Making, pure, emit, port, ◌>>>◌}
use Rattle.pyd_translate.specs.Slots.{slot_ports}
use Rattle.pyd_translate.specs.Statements.{Done, Exit, Onward, Sequel, done, or_stopped, then_done, ported, with_rest, what_unfolds}
use Rattle.pyd_translate.specs.Drafts.{onto}
use Rattle.pyd_translate.specs.Flows.{Binds, going, leaving, onward, sequel_of, file_in, point_of, context_at, slots_at, work_of, last_at, composite_at, headed_at, if_at, spot_in, statement_at}
use Rattle.pyd_translate.proofs.Onto.{onto_pure, onto_then}

-- what follows something that came
some_goes_on : {A : Type 0} (before mid nodes : List Node) (got : Option A) (n next : ℕ) (a : A)
    (env : List Arg) (f : A → Making Done)
    → before ++ nodes ≡ mid → got ≡ Some a → n ≡ next
    → onto before (or_stopped env nodes got n f) ≡ onto mid (f a next)
unfolding onto
some_goes_on before mid nodes got n next a env f p q r =
    ap (λ o. onto before (or_stopped env nodes o n f)) q
    ∙ ap (λ (l : List Node). (l, (f a n).got, (f a n).next)) (sym (append_assoc before nodes (f a n).nodes))
    ∙ (λ i. (p i ++ (f a (r i)).nodes, (f a (r i)).got, (f a (r i)).next))

-- behind a Stop the slots are as they were
none_ends : {A : Type 0} (before mid nodes : List Node) (got : Option A) (n next : ℕ)
    (env : List Arg) (f : A → Making Done)
    → before ++ nodes ≡ mid → got ≡ None → n ≡ next
    → onto before (or_stopped env nodes got n f) ≡ (mid, Some (done env Unbound), next)
unfolding onto
none_ends before mid nodes got n next env f p q r =
    ap (λ o. onto before (or_stopped env nodes o n f)) q
    ∙ (λ i. (p i, Some (done env Unbound), r i))

module _ {A : Type 0} (before mid : List Node) (env : List Arg) (u : Making A) (f : A → Making Done)
    (ids next : ℕ) where
  -- what a statement does with what came
  pub then_some : (a : A) → onto before (u ids) ≡ (mid, Some a, next)
      → onto before (then_done env u f ids) ≡ onto mid (f a next)
  unfolding onto then_done
  then_some a e =
      some_goes_on before mid (u ids).nodes (u ids).got (u ids).next next a env f
      (ap (λ t. t.0) e) (ap (λ t. t.1) e) (ap (λ t. t.2) e)

  -- behind a Stop it ends without a value
  pub then_none : onto before (u ids) ≡ (mid, None, next)
      → onto before (then_done env u f ids) ≡ onto mid (pure (done env Unbound) next)
  unfolding onto then_done
  then_none e =
      none_ends before mid (u ids).nodes (u ids).got (u ids).next next env f
      (ap (λ t. t.0) e) (ap (λ t. t.1) e) (ap (λ t. t.2) e)
      ∙ sym (onto_pure mid (done env Unbound) next)

module _ (leave : Exit → Onward) (next : Onward) (rest : List Frame) where
  -- slots that were bound, or a Stop
  pub bound_flows : (before after : Draft) (u : Making (List Arg)) (goes : Bool) (flow : Flow)
      (old new : List Arg)
      → flow ≡ going goes → Binds before u after goes old new
      → onto before.nodes (then_done old u next before.next)
      ≡ onto after.nodes (onward (leaving (sequel_of rest leave next)) flow new after.next)
  bound_flows before after u true flow old new is b =
      then_some before.nodes after.nodes old u next before.next after.next new b.made
      ∙ ap (λ x. onto after.nodes (onward (leaving (sequel_of rest leave next)) x new after.next)) (sym is)
  bound_flows before after u false flow old new is b =
      then_none before.nodes after.nodes old u next before.next after.next b.made
      ∙ ap (λ e. onto after.nodes (pure (done e Unbound) after.next)) (sym (b.same refl))
      ∙ ap (λ x. onto after.nodes (onward (leaving (sequel_of rest leave next)) x new after.next)) (sym is)

-- a statement by its first level
pub level_flows : (at : Spot) (env : List Arg) (sequel : Sequel) (w : What) (y : What-F What Arm Block Stmt)
    (before : List Node) (ids : ℕ)
    → out-What w ≡ y
    → onto before (statement_at at w env sequel ids)
    ≡ onto before (what_unfolds (file_in at.setting) y at.early (point_of at.point) (context_at at env) sequel ids)
level_flows at env sequel w y before ids is =
    ap (λ x. onto before (what_unfolds (file_in at.setting) x at.early (point_of at.point) (context_at at env) sequel ids)) is

-- a statement by its first level, with each sequel
pub level : (at : Spot) (w : What) (y : What-F What Arm Block Stmt) (env : List Arg) → out-What w ≡ y → (s : Sequel)
    → what_unfolds (file_in at.setting) y at.early (point_of at.point) (context_at at env) s ≡ statement_at at w env s
level at w y env is s =
    ap (λ x. what_unfolds (file_in at.setting) x at.early (point_of at.point) (context_at at env) s) (sym is)

module _ (r : Result Flow NoMemory) (before nodes : List Node) (ids last : ℕ) (rest : List Frame) (new : List Arg) where
  -- the same flow of the same making in another form
  pub flows_so : (u v : Sequel → Making Done) → ((s : Sequel) → u s ≡ v s)
      → IfOk r (λ flow. (leave : Exit → Onward) (next : Onward)
      → onto before (u (sequel_of rest leave next) ids) ≡ onto nodes (onward (leaving (sequel_of rest leave next)) flow new last))
      → IfOk r (λ flow. (leave : Exit → Onward) (next : Onward)
      → onto before (v (sequel_of rest leave next) ids) ≡ onto nodes (onward (leaving (sequel_of rest leave next)) flow new last))
  flows_so u v e h =
      subst (λ (w : Sequel → Making Done). IfOk r (λ flow. (leave : Exit → Onward) (next : Onward)
      → onto before (w (sequel_of rest leave next) ids) ≡ onto nodes (onward (leaving (sequel_of rest leave next)) flow new last)))
      (λ i s. e s i) h

-- what follows a header that came
pub flows_then : (r : Result Flow NoMemory) (before mid nodes : List Node) (ids n last : ℕ) (rest : List Frame)
    (env new : List Arg) (u : Making Arg) (a : Arg) (f : Sequel → Arg → Making Done)
    → onto before (u ids) ≡ (mid, Some a, n)
    → IfOk r (λ flow. (leave : Exit → Onward) (next : Onward)
    → onto mid (f (sequel_of rest leave next) a n) ≡ onto nodes (onward (leaving (sequel_of rest leave next)) flow new last))
    → IfOk r (λ flow. (leave : Exit → Onward) (next : Onward)
    → onto before (then_done env u (f (sequel_of rest leave next)) ids) ≡ onto nodes (onward (leaving (sequel_of rest leave next)) flow new last))
flows_then (Ok flow) before mid nodes ids n last rest env new u a f e h =
    λ leave next. then_some before mid env u (f (sequel_of rest leave next)) ids n a e ∙ h leave next
flows_then (Err x) before mid nodes ids n last rest env new u a f e h = tt

-- what is last behind a header that came
pub made_behind : (r : Result Arg NoMemory) (before mid nodes : List Node) (ids n last : ℕ) (env new : List Arg)
    (u : Making Arg) (a : Arg) (f : Arg → Making Done)
    → onto before (u ids) ≡ (mid, Some a, n)
    → IfOk r (λ v. onto mid (f a n) ≡ (nodes, Some (done new v), last))
    → IfOk r (λ v. onto before (then_done env u f ids) ≡ (nodes, Some (done new v), last))
made_behind (Ok v) before mid nodes ids n last env new u a f e h = then_some before mid env u f ids n a e ∙ h
made_behind (Err x) before mid nodes ids n last env new u a f e h = tt

module _ (at : Spot) (c : Composite) (control : Arg) (env new : List Arg) (before nodes : List Node) (ids last : ℕ) where
  -- a composite that was made, with its ports as slots and value
  pub last_returned : (r : Result Arg NoMemory) (rest : List Frame) (id : ℕ)
      → onto before (emit (context_at at env) (work_of c at.point.statement control env rest) ids) ≡ (nodes, Some id, last)
      → OnOk r (new ≡ slot_ports id 0 (slots_at at))
      → IfOk r (λ v. v ≡ From (port id (length (slots_at at))))
      → IfOk r (λ v. onto before (last_at at c control env rest ids) ≡ (nodes, Some (done new v), last))
  last_returned (Ok v) rest id e ports value =
      onto_then before nodes (emit (context_at at env) (work_of c at.point.statement control env rest))
      (ported (slots_at at)) ids last id e
      ∙ onto_pure nodes (done (slot_ports id 0 (slots_at at)) (From (port id (length (slots_at at))))) last
      ∙ (λ i. (nodes, Some (done (sym ports i) (sym value i)), last))
  last_returned (Err x) rest id e ports value = tt

  module _ (leave : Exit → Onward) (next : Onward) where
    -- one that may leave its block early takes the rest with it
    pub early_made : (rest : List Frame) (v : Arg)
        → at.early ≡ true → rest ≡ After at.point.statement ∷ at.rest.now
        → onto before (last_at at c control env rest ids) ≡ (nodes, Some (done new v), last)
        → onto before (composite_at at c control env (sequel_of at.rest.now leave next) ids)
        ≡ onto nodes (pure (done new v) last)
    early_made rest v early is h =
        ap (λ b. onto before (with_rest (slots_at at) b at.point.statement
        (work_of c at.point.statement control env) (context_at at env) (sequel_of at.rest.now leave next) ids)) early
        ∙ ap (λ (fs : List Frame). onto before (last_at at c control env fs ids)) (sym is)
        ∙ h ∙ sym (onto_pure nodes (done new v) last)

    -- any other goes on with its slot ports
    pub late_made : (rest : List Frame) (id : ℕ)
        → at.early ≡ false → rest ≡ []
        → onto before (emit (context_at at env) (work_of c at.point.statement control env rest) ids) ≡ (nodes, Some id, last)
        → new ≡ slot_ports id 0 (slots_at at)
        → onto before (composite_at at c control env (sequel_of at.rest.now leave next) ids) ≡ onto nodes (next new last)
    late_made rest id early is e ports =
        ap (λ b. onto before (with_rest (slots_at at) b at.point.statement
        (work_of c at.point.statement control env) (context_at at env) (sequel_of at.rest.now leave next) ids)) early
        ∙ ap (λ (fs : List Frame). onto before ((emit (context_at at env) (work_of c at.point.statement control env fs)
        >>> (λ k. next (slot_ports k 0 (slots_at at)))) ids)) (sym is)
        ∙ onto_then before nodes (emit (context_at at env) (work_of c at.point.statement control env rest))
        (λ k. next (slot_ports k 0 (slots_at at))) ids last id e
        ∙ ap (λ (xs : List Arg). onto nodes (next xs last)) (sym ports)

module _ (at : Spot) (arms : List Arm) where
  -- an `if` by its first arm, in that arm's line
  pub if_first : (others : List Arm) (a : Arm) (env : List Arg) → arms ≡ a ∷ others → (s : Sequel)
      → headed_at (spot_in at (out-Arm a).line) (Cond 0) (out-Arm a).test env s ≡ if_at at arms env s
  if_first others a env is s = ap (λ (xs : List Arm). if_at at xs env s) (sym is)

  -- one without an arm is its `else`
  pub if_none : (env : List Arg) → arms ≡ [] → (s : Sequel)
      → composite_at at (Cond 0) (Known (Truth false)) env s ≡ if_at at arms env s
  if_none env is s = ap (λ (xs : List Arm). if_at at xs env s) (sym is)
