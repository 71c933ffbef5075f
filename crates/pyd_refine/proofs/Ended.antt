-- How drafts end where the nodes of a composite were made.
use Rattle.std.proofs.Common.{◌≡◌, ℕ, List, [], ◌++◌, append_assoc, refl, sym, ap, subst, ◌∙◌, Option, Some, None}
use Rattle.std.specs.Prelude.{Result, Ok, Err, IfOk}
use Rattle.pyd_value.specs.declared.memory.NoMemory.{NoMemory}
use Rattle.pyd_value.specs.declared.fault.Fault.{Fault}
use Rattle.pyd_ir.specs.declared.arg.Arg.{Arg}
use Rattle.pyd_ir.specs.declared.arg.Arg.TheVariants.{Unbound}
use Rattle.pyd_ir.specs.declared.node.Node.{Node}
use Rattle.pyd_ir.specs.declared.work.Work.TheVariants.{Stop}
use Rattle.pyd_translate.specs.declared.draft.Draft.{Draft}
use Rattle.pyd_translate.specs.Drafts.{onto, Makes}
use Rattle.pyd_translate.specs.Making.{Making, Context, pure, emit, stop, ◌>>>◌}
use Rattle.pyd_translate.specs.Starts.{done_or_stopped, value_or_unbound}
use Rattle.pyd_translate.specs.Statements.{Done, done, or_stopped, then_done, context}
use Rattle.pyd_translate.proofs.Onto.{onto_stop, onto_last, onto_none}
use Rattle.pyd_refine.specs.Composites.{only_value}
use Rattle.pyd_refine.specs.Drafts.{ended, Ends}

module _ (before after : Draft) (env : List Arg) where
  -- what came of a making, or a Stop, is how it ended
  pub ends_so : (u : Making Done) (got : Option Done) → Makes before u after got
      → onto before.nodes (ended env (u before.next))
      ≡ (after.nodes, Some (done_or_stopped env got), after.next)
  unfolding onto
  ends_so u got e = λ i. ((e i).0, Some (done_or_stopped env (e i).1), (e i).2)

  -- a making that came to its end
  pub ends_with : (u : Making Done) (slots : List Arg) (v : Arg)
      → Makes before u after (Some (done slots v)) → Ends before u env after slots v
  ends_with u slots v e = ends_so u (Some (done slots v)) e

  -- behind a Stop the slots are as they were
  pub ends_stopped : (u : Making Done) → Makes before u after None → Ends before u env after env Unbound
  ends_stopped u e = ends_so u None e

  -- another form of a making
  pub ends_as : (u w : Making Done) (slots : List Arg) (v : Arg) → u ≡ w
      → Ends before u env after slots v → Ends before w env after slots v
  ends_as u w slots v e h = subst (λ (x : Making Done). Ends before x env after slots v) e h

  module _ (r : Result Arg NoMemory) (slots : List Arg) where
    -- what a call made, in another form
    pub made_as : (u w : Making Done) → u ≡ w
        → IfOk r (λ v. Makes before u after (Some (done slots v)))
        → IfOk r (λ v. Ends before w env after slots v)
    made_as u w e h = if_made r h
      where
        if_made : (s : Result Arg NoMemory) → IfOk s (λ v. Makes before u after (Some (done slots v)))
            → IfOk s (λ v. Ends before w env after slots v)
        if_made (Ok v) k = ends_as u w slots v e (ends_with u slots v k)
        if_made (Err x) k = tt

    -- how a call ended, in another form
    pub ended_as : (u w : Making Done) → u ≡ w
        → IfOk r (λ v. Ends before u env after slots v)
        → IfOk r (λ v. Ends before w env after slots v)
    ended_as u w e h = subst (λ (x : Making Done). IfOk r (λ v. Ends before x env after slots v)) e h

-- a header behind which nothing goes on
pub header_stops : {A : Type 0} (before mid : List Node) (env : List Arg) (u : Making A) (f : A → Making Done)
    (ids next : ℕ) → onto before (u ids) ≡ (mid, None, next)
    → onto before (then_done env u f ids) ≡ (mid, Some (done env Unbound), next)
unfolding onto then_done
header_stops {A = A} before mid env u f ids next e =
    stops (u ids).nodes (u ids).got (u ids).next (ap (λ t. t.0) e) (ap (λ t. t.1) e) (ap (λ t. t.2) e)
  where
    stops : (nodes : List Node) (got : Option A) (n : ℕ) → before ++ nodes ≡ mid → got ≡ None → n ≡ next
        → onto before (or_stopped env nodes got n f) ≡ (mid, Some (done env Unbound), next)
    stops nodes None n p q r = λ i. (p i, Some (done env Unbound), r i)
    stops nodes (Some a) n p q r = absurd (cc q)

-- what goes on behind a header
pub header_goes : {A : Type 0} (before mid : List Node) (env : List Arg) (u : Making A) (f : A → Making Done)
    (ids next : ℕ) (a : A) → onto before (u ids) ≡ (mid, Some a, next)
    → onto before (then_done env u f ids) ≡ onto mid (f a next)
unfolding onto then_done
header_goes {A = A} before mid env u f ids next a e =
    goes (u ids).nodes (u ids).got (u ids).next (ap (λ t. t.0) e) (ap (λ t. t.1) e) (ap (λ t. t.2) e)
  where
    same_got : (nodes : List Node) (b : A) (n : ℕ) → before ++ nodes ≡ mid → b ≡ a → n ≡ next
        → onto before (or_stopped env nodes (Some b) n f) ≡ onto mid (f a next)
    same_got nodes b n p q r =
        ap (λ (l : List Node). (l, (f b n).got, (f b n).next)) (sym (append_assoc before nodes (f b n).nodes))
        ∙ (λ i. (p i ++ (f (q i) (r i)).nodes, (f (q i) (r i)).got, (f (q i) (r i)).next))

    goes : (nodes : List Node) (got : Option A) (n : ℕ) → before ++ nodes ≡ mid → got ≡ Some a → n ≡ next
        → onto before (or_stopped env nodes got n f) ≡ onto mid (f a next)
    goes nodes (Some b) n p q r = same_got nodes b n p (cc q) r
    goes nodes None n p q r = absurd (cc q)

-- a Stop of a node that was made
pub stop_ends : (before after : Draft) (at : Context) (x : Fault) (id : ℕ) (env : List Arg)
    → Makes before (emit at (Stop x)) after (Some id)
    → Ends before (stop at x) env after env Unbound
stop_ends before after at x id env e =
    ends_stopped before after env (stop at x)
    (onto_stop before.nodes after.nodes at x before.next id after.next e)

-- the arguments of the slots are none of a Stop's
stopped_elsewhere : (routine depth line : ℕ) (x : Fault) (env : List Arg) (ids : ℕ)
    → stop {A = Done} (context routine depth line []) x ids ≡ stop {A = Done} (context routine depth line env) x ids
unfolding stop
stopped_elsewhere routine depth line x env ids = refl

-- a Stop in a line, whatever stands in the slots
pub stop_made : (before after : Draft) (at : Context) (routine depth line : ℕ) (x : Fault) (id : ℕ)
    → at ≡ context routine depth line [] → Makes before (emit at (Stop x)) after (Some id)
    → (env slots : List Arg) → Ends before (stop (context routine depth line env) x) slots after slots Unbound
stop_made before after at routine depth line x id same e env slots =
    ends_as before after slots (stop (context routine depth line []) x) (stop (context routine depth line env) x)
    slots Unbound (λ i ids. stopped_elsewhere routine depth line x env ids i)
    (stop_ends before after (context routine depth line []) x id slots
    (subst (λ (c : Context). Makes before (emit c (Stop x)) after (Some id)) same e))

-- how a Stop ended, as that of a making that is this Stop
pub stop_as : (r : Result Arg NoMemory) (before after : Draft) (routine depth line : ℕ) (x : Fault) (u : Making Done)
    (env slots : List Arg) → stop (context routine depth line env) x ≡ u
    → IfOk r (λ v. (env slots : List Arg) → Ends before (stop (context routine depth line env) x) slots after slots v)
    → IfOk r (λ v. Ends before u slots after slots v)
stop_as (Ok v) before after routine depth line x u env slots e h =
    ends_as before after slots (stop (context routine depth line env) x) u slots v e (h env slots)
stop_as (Err w) before after routine depth line x u env slots e h = tt

-- what follows a header that came
pub header_ends : {A : Type 0} (r : Result Arg NoMemory) (before mid after : Draft) (env slots : List Arg)
    (u : Making A) (f : A → Making Done) (a : A) → Makes before u mid (Some a)
    → IfOk r (λ v. Makes mid (f a) after (Some (done slots v)))
    → IfOk r (λ v. Ends before (then_done env u f) env after slots v)
header_ends (Ok v) before mid after env slots u f a e h =
    ends_with before after env (then_done env u f) slots v
    (header_goes before.nodes mid.nodes env u f before.next mid.next a e ∙ h)
header_ends (Err w) before mid after env slots u f a e h = tt

-- behind a header that is stopped nothing follows
pub header_left : {A : Type 0} (before after : Draft) (env : List Arg) (u : Making A) (f : A → Making Done)
    → Makes before u after None → Ends before (then_done env u f) env after env Unbound
header_left before after env u f e =
    ends_with before after env (then_done env u f) env Unbound
    (header_stops before.nodes after.nodes env u f before.next after.next e)

-- the value alone of what came
pub value_ends : (before after : Draft) (u : Making Arg) (got : Option Arg) → Makes before u after got
    → Ends before (u >>> (λ a. pure (only_value a))) [] after [] (value_or_unbound got)
value_ends before after u (Some a) e =
    ends_with before after [] (u >>> (λ x. pure (only_value x))) [] a
    (onto_last before.nodes after.nodes u only_value before.next after.next a e)
value_ends before after u None e =
    ends_stopped before after [] (u >>> (λ x. pure (only_value x)))
    (onto_none before.nodes after.nodes u (λ x. pure (only_value x)) before.next after.next e)
