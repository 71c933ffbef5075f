-- What comes next in head order may be done, and something does.
use Rattle.std.proofs.Common.{◌≡◌, ◌<◌, nat_eq, ℕ, suc, Bool, true, false, not, ◌&&◌, ◌||◌, cond, List, [], ◌∷◌, ◌++◌, Option, None, Some, is_some, ◌⊎◌, inl, inr, refl, ap, sym, ◌∙◌, subst, arith}
use Rattle.std.specs.Prelude.{IsTrue, option_map, unwrap_or}
use Rattle.std.specs.List.{Contains, find, flat_map}
use Rattle.std.proofs.lemmas.List.Elements.{All-contains, Contains-append_left, Contains-append_right}
use Rattle.std.proofs.lemmas.List.Folds.{list_any-append}
use Rattle.pyd_meaning.specs.declared.ran.Ran.{Ran}
use Rattle.pyd_board.specs.declared.event.Act.TheVariants.{Place, Claim, Finish, Drop, Refine, Settle, Lose, Trim}
use Rattle.pyd_ir.specs.declared.arg.Arg.{Arg}
use Rattle.pyd_ir.specs.declared.job.Task.{Task}
use Rattle.pyd_ir.specs.declared.job.Task.TheVariants as task
use Rattle.pyd_ir.specs.declared.node.Node.{Node}
use Rattle.pyd_ir.specs.declared.work.Work.{Work}
use Rattle.pyd_ir.specs.declared.work.Work.TheVariants.{Op, Read, Call, Stop, Print, Run, Cond, While, For, Pick, Enter}
use Rattle.pyd_ir.specs.Arguments.{is_pure, is_composite, arguments, control}
use Rattle.pyd_ir.specs.Inputs.{Given, value_of, has_value, have_values, has_inputs, task_of, leaf_meaning}
use Rattle.pyd_lineage.specs.Lineage.{named_by, named_nodes, is_among}
use Rattle.pyd_lineage.specs.Marking.{past_names}
use Rattle.pyd_refine.proofs.Ordering.{one-true}
use Rattle.pyd_translate.specs.Matching.{AreGiven}
use Rattle.pyd_translate.specs.SlotPorts.{ArePortsOf, HavePorts, no_numbers}
use Rattle.pyd_translate.specs.Supplied.{AreSupplied, HasNeeds}
use Rattle.pyd_runs.specs.Plans.{Plan, first_seat, limits_of}
use Rattle.pyd_runs.specs.Desks.{Placed, Held}
use Rattle.pyd_runs.specs.Records.{records, recorded, heads}
use Rattle.pyd_runs.specs.Reach.{AreOf, Names, Reached, by_chain, by_past, Needed, in_chain, by_needed}
use Rattle.pyd_runs.specs.Effects.{State}
use Rattle.pyd_runs.specs.Enabled.{CanRefine, CanSettle, Holds, IsQuiet, IsRecorded, IsControlled, WaitsNot, WithinWindow}
use Rattle.pyd_runs.specs.Sound.{IsSound, HasGiven, AreOrdered}
use Rattle.pyd_runs.specs.Laws.{IsRunnable}
use Rattle.pyd_runs.specs.HeadOrder.{waited_for, has_record, named_for, is_awaited, node_due, NoneSettles, IsDue, NextLaw, NextOrderLaw, GoesInOrder, HeadOrderLaw}
use Rattle.pyd_runs.proofs.Putting.{same_test}
use Rattle.pyd_runs.proofs.Readiness.{and_parts, and_both}
use Rattle.pyd_runs.proofs.Without.{here, behind, first_or_behind, fresh_apart, or_true}
use Rattle.pyd_runs.proofs.Seeing.{or_second}
use Rattle.pyd_runs.proofs.Standing.{graph_node, same_node}
use Rattle.pyd_runs.proofs.Within.{look_leaf, under_some, values_there}
use Rattle.pyd_runs.proofs.Claiming.{ReadyNode, is_ready_by}
use Rattle.pyd_runs.proofs.Passed.{pure_leaf}
use Rattle.pyd_runs.proofs.Lineage.{of_among, among_of}
use Rattle.pyd_runs.proofs.Progress.{may_read}
use Rattle.pyd_runs.proofs.Going.{Unrecorded, seat_there, first_of, arg_or, args_or, inputs_or, pure_task, lacking, valued_over, jobless}

-- truth values
not_true : (b : Bool) → not b ≡ true → b ≡ false
not_true true e = absurd (cc (e))
not_true false e = refl

none_if : (o : Option Ran) → is_some o ≡ false → o ≡ None
none_if None e = refl
none_if (Some ran) e = absurd (cc (e))

-- names that are put before others, or not
put_or : (b : Bool) (xs ys : List ℕ) (k : ℕ) → is_among (cond b (xs ++ ys) ys) k ≡ true
    → ((b ≡ true) × (is_among xs k ≡ true)) ⊎ (is_among ys k ≡ true)
put_or true xs ys k e =
    elim (one-true (is_among xs k) (is_among ys k) (sym (list_any-append (nat_eq k) xs ys) ∙ e)) [
      | inl first ↦ inl (refl, first)
      | inr second ↦ inr second
    ]
put_or false xs ys k e = inr e

put_more : (b : Bool) (xs ys : List ℕ) (k : ℕ) → is_among ys k ≡ true
    → is_among (cond b (xs ++ ys) ys) k ≡ true
put_more true xs ys k e =
    list_any-append (nat_eq k) xs ys ∙ or_second (is_among xs k) (is_among ys k) e
put_more false xs ys k e = e

put_first : (xs ys : List ℕ) (k : ℕ) → is_among xs k ≡ true → is_among (xs ++ ys) k ≡ true
put_first xs ys k e = list_any-append (nat_eq k) xs ys ∙ ap (λ b. b || is_among ys k) e

-- what is found passes the test
found_in : (test : Node → Bool) (b : Bool) (y x : Node) (xs : List Node) (o : Option Node)
    → test y ≡ b → (o ≡ Some x → Contains xs x × (test x ≡ true))
    → cond b (Some y) o ≡ Some x → Contains (y ∷ xs) x × (test x ≡ true)
found_in test true y x xs o is rest e =
    let same : y ≡ x = cc (e) in
    (subst (Contains (y ∷ xs)) same (here y xs), subst (λ (z : Node). test z ≡ true) same is)
found_in test false y x xs o is rest e = let r = rest e in (behind y xs x r.0, r.1)

found : (test : Node → Bool) (xs : List Node) (x : Node) → find test xs ≡ Some x
    → Contains xs x × (test x ≡ true)
found test [] x e = absurd (cc (e))
found test (y ∷ xs) x e =
    found_in test (test y) y x xs (find test xs) refl (found test xs x) e

-- where nothing is found, nothing passes
none_passes : (test : Node → Bool) (b : Bool) (y z : Node) (xs : List Node) (o : Option Node)
    → test y ≡ b → (o ≡ None → Contains xs z → ⊥) → cond b (Some y) o ≡ None
    → test z ≡ true → Contains (y ∷ xs) z → ⊥
none_passes test true y z xs o is rest e passes at = absurd (cc (e))
none_passes test false y z xs o is rest e passes at = elim (first_or_behind y xs z at) [
  | inl same ↦
      absurd (let w : test z ≡ false = subst (λ (x : Node). test x ≡ false) same is in cc (passes, w))
  | inr later ↦ rest e later
]

unfound : (test : Node → Bool) (xs : List Node) (z : Node) → find test xs ≡ None
    → test z ≡ true → Contains xs z → ⊥
unfound test [] z e passes at = absurd (omega (arith, at.1))
unfound test (y ∷ xs) z e passes at =
    none_passes test (test y) y z xs (find test xs) refl
    (λ rest there. unfound test xs z rest passes there) e passes at

-- what is found first names none of the list that passes
first_in : (test : Node → Bool) (b : Bool) (y x z : Node) (xs : List Node) (o : Option Node)
    → test y ≡ b → ((k : ℕ) → Names y k → (n : Node) → Contains (y ∷ xs) n → n.id ≡ k → ⊥)
    → (o ≡ Some x → Contains xs z → ⊥) → cond b (Some y) o ≡ Some x → test z ≡ true
    → Names x z.id → Contains (y ∷ xs) z → ⊥
first_in test true y x z xs o is apart rest e passes names at =
    let same : y ≡ x = cc (e) in
    apart z.id (subst (λ (n : Node). Names n z.id) (sym same) names) z at refl
first_in test false y x z xs o is apart rest e passes names at =
    elim (first_or_behind y xs z at) [
      | inl same ↦
          absurd (let w : test z ≡ false = subst (λ (n : Node). test n ≡ false) same is in cc (passes, w))
      | inr later ↦ rest e later
    ]

first_names : (test : Node → Bool) (xs : List Node) (x z : Node) → AreOrdered xs
    → find test xs ≡ Some x → test z ≡ true → Names x z.id → Contains xs z → ⊥
first_names test [] x z order e passes names at = absurd (omega (arith, at.1))
first_names test (y ∷ xs) x z order e passes names at =
    first_in test (test y) y x z xs (find test xs) refl
    (λ k named n there is. fresh_apart k (y ∷ xs) n (order.1 k named) there is)
    (λ rest there. first_names test xs x z order.2 rest passes names there) e passes names at

-- what a head waits for it names
waited_named : (w : Work) (k : ℕ) → AreOf k (waited_for w) → AreOf k (arguments w)
waited_named (Op op args) k of = of
waited_named (Read arg kind) k of = of
waited_named (Call func args) k of = of
waited_named (Stop fault) k of = absurd of
waited_named (Print args) k of = of
waited_named (Run func args) k of = of
waited_named (Cond test stmt arm rest env) k (inl of) = inl of
waited_named (Cond test stmt arm rest env) k (inr of) = absurd of
waited_named (While test stmt turns rest env) k (inl of) = inl of
waited_named (While test stmt turns rest env) k (inr of) = absurd of
waited_named (For over stmt turns rest env) k (inl of) = inl of
waited_named (For over stmt turns rest env) k (inr of) = absurd of
waited_named (Pick test first second env) k (inl of) = inl of
waited_named (Pick test first second env) k (inr of) = absurd of
waited_named (Enter func args) k of = absurd of

module _ (p : Plan) (s : State) (sound : IsSound p s) where
  -- the chain reaches it, and it is needed
  record Wanted (k : ℕ) : Type 0 where
    reached : Reached s.graph k
    needed : Needed s.graph s.desk.stores k

  -- a node that may be served: it is ready and needed, and has no record
  record IsServed (k : ℕ) : Type 0 where
    ready : ReadyNode s.graph s.desk.stores k
    needed : Needed s.graph s.desk.stores k
    none : records s.graph s.desk.stores k ≡ None

  -- what names are marked from on stays marked
  kept_marked : (xs : List Node) (last : List ℕ) (k : ℕ) → is_among last k ≡ true
      → is_among (past_names (has_record s) xs last) k ≡ true
  kept_marked [] last k e = e
  kept_marked (x ∷ xs) last k e =
      let later = past_names (has_record s) xs last in
      put_more (is_among later x.id && not (has_record s x.id)) (named_nodes x.work) later k
      (kept_marked xs last k e)

  -- what is marked is wanted
  marked_wanted : (xs : List Node) (last : List ℕ)
      → ((x : Node) → Contains xs x → Contains s.graph.past x)
      → ((k : ℕ) → is_among last k ≡ true → Wanted k) → (k : ℕ)
      → is_among (past_names (has_record s) xs last) k ≡ true → Wanted k
  marked_wanted [] last within all k e = all k e
  marked_wanted (x ∷ xs) last within all k e =
      let later = past_names (has_record s) xs last in
      let rest : (j : ℕ) → is_among later j ≡ true → Wanted j
      = marked_wanted xs last (λ y at. within y (behind x xs y at)) all in
      elim (put_or (is_among later x.id && not (has_record s x.id)) (named_nodes x.work) later k e) [
        | inr old ↦ rest k old
        | inl new ↦
            let both = and_parts (is_among later x.id) (not (has_record s x.id)) new.0 in
            let wanted = rest x.id both.0 in
            let there = within x (here x xs) in
            let names = among_of (arguments x.work) k new.1 in record {
              reached = by_past x k there wanted.reached names;
              needed = by_needed x k
                  (Contains-append_left s.graph.past s.graph.chain x there) wanted.needed
                  (none_if (records s.graph s.desk.stores x.id)
                  (not_true (has_record s x.id) both.1)) names;
            }
      ]

  -- what a marked node without a record names is marked
  names_marked : (xs : List Node) (last : List ℕ) → AreOrdered xs → (x : Node) (k : ℕ)
      → Contains xs x → is_among (past_names (has_record s) xs last) x.id ≡ true
      → has_record s x.id ≡ false → Names x k
      → is_among (past_names (has_record s) xs last) k ≡ true
  names_marked [] last order x k at mark none names = absurd (omega (arith, at.1))
  names_marked (y ∷ xs) last order x k at mark none names =
      let later = past_names (has_record s) xs last in
      let turn = is_among later y.id && not (has_record s y.id) in
      let own : is_among later x.id ≡ true
      = elim (put_or turn (named_nodes y.work) later x.id mark) [
        | inr old ↦ old
        | inl new ↦ absurd (fresh_apart x.id (y ∷ xs) x
            (order.1 x.id (among_of (arguments y.work) x.id new.1)) at refl)
      ] in
      elim (first_or_behind y xs x at) [
        | inr there ↦
            put_more turn (named_nodes y.work) later k
            (names_marked xs last order.2 x k there own none names)
        | inl same ↦
            let its : turn ≡ true = and_both (is_among later y.id) (not (has_record s y.id))
            (subst (λ (z : Node). is_among later z.id ≡ true) (sym same) own)
            (ap not (subst (λ (z : Node). has_record s z.id ≡ false) (sym same) none)) in
            ap (λ b. is_among (cond b (named_nodes y.work ++ later) later) k) its
            ∙ put_first (named_nodes y.work) later k
            (of_among (arguments y.work) k (subst (λ (z : Node). Names z k) (sym same) names))
      ]

  -- a past node that lacks a record and is marked is awaited
  lacks_awaited : (head z : Node) → is_among (named_for s head) z.id ≡ true
      → records s.graph s.desk.stores z.id ≡ None → is_awaited s head z ≡ true
  lacks_awaited head z mark none =
      and_both (is_among (named_for s head) z.id) (not (has_record s z.id)) mark
      (ap not (ap is_some none))

  -- the first past node that is awaited may be served
  past_served : (head x : Node)
      → ((k : ℕ) → is_among (flat_map named_by (waited_for head.work)) k ≡ true → Wanted k)
      → find (is_awaited s head) s.graph.past ≡ Some x → IsServed x.id
  past_served head x all first =
      let g = s.graph in
      let at = found (is_awaited s head) g.past x first in
      let both = and_parts (is_among (named_for s head) x.id) (not (has_record s x.id)) at.1 in
      let free = not_true (has_record s x.id) both.1 in
      let none = none_if (records g s.desk.stores x.id) free in
      let wanted = marked_wanted g.past (flat_map named_by (waited_for head.work)) (λ y t. t) all x.id
      both.0 in
      let among = Contains-append_left g.past g.chain x at.0 in
      let h = All-contains (HasGiven p g) g.past x sound.graph.past at.0 in
      let l = look_leaf p g.given x h.looked h.look in
      let u = under_some (has_inputs g.given x.work)
      (leaf_meaning p.file (limits_of p) g.given x) h.looked l.1 in
      elim (inputs_or (recorded g s.desk.stores) g.given x.work (pure_leaf x.work l.0) u.0) [
        | inl inputs ↦
            let t = pure_task p.file (limits_of p) (recorded g s.desk.stores) g.given x.line
            x.depth x.work h.looked h.value l.0 u.1 h.gave inputs in record {
              ready = record {
                node = x;
                found = graph_node p g x sound.graph among;
                inputs = inputs;
                turn = ap (λ b. b || heads x.id g.chain) l.0;
                task = t.0;
                is_task = t.1;
              };
              needed = wanted.needed;
              none = none;
            }
        | inr m ↦
            let reached = by_past x m.node at.0 wanted.reached m.named in
            let needed = by_needed x m.node among wanted.needed none m.named in
            let over = valued_over p s sound m.node m.port m.value
            (sound.graph.present m.node reached) m.gave in
            let z = lacking p s sound m.node m.port m.value reached needed over m.none m.gave in
            let lacks = z.2 in
            let names = subst (Names x) (sym z.1) m.named in
            let mark = names_marked g.past (flat_map named_by (waited_for head.work))
            sound.graph.ordered x z.0.id at.0 both.0 free names in
            absurd (first_names (is_awaited s head) g.past x z.0 sound.graph.ordered first
            (lacks_awaited head z.0 mark lacks.none) names lacks.stands)
      ]

  module _ (runnable : IsRunnable p) (quiet : IsQuiet s) (n : Node) (rest : List Node)
      (chain : s.graph.chain ≡ n ∷ rest) (settles : NoneSettles s)
      (refines : CanRefine p s n.id → ⊥) where
    -- what the head does or names lacks
    abbrev HeadWaits : Type 0
    HeadWaits =
        IsServed n.id
        ⊎ (Unrecorded (recorded s.graph s.desk.stores) s.graph.given (waited_for n.work)
        × (records s.graph s.desk.stores n.id ≡ None))

    there : Contains s.graph.chain n
    there = subst (λ (ns : List Node). Contains ns n) (sym chain) (here n rest)

    waits : WaitsNot s n.id n.work → ⊥
    waits done = settles n.id (record {
      head = n;
      rest = rest;
      chain = chain;
      number = refl;
      waits_not = done;
    })

    uncontrolled : is_composite n.work ≡ true
        → IsControlled (recorded s.graph s.desk.stores) (control n.work) → ⊥
    uncontrolled composite controlled = refines (record {
      node = n;
      stands = there;
      number = refl;
      composite = composite;
      control = controlled;
      window = subst (WithinWindow p.setup.window n.id) (sym chain) (runnable.window, inl refl);
    })

    -- a head with a job
    job_waits : is_composite n.work ≡ false → IsTrue (has_inputs s.graph.given n.work)
        → ((r : Given) → IsTrue (has_inputs r n.work) → (t : Task) × (task_of r n.work ≡ Some t))
        → ((o : Option Ran) → records s.graph s.desk.stores n.id ≡ o → IsRecorded o
        → WaitsNot s n.id n.work)
        → waited_for n.work ≡ arguments n.work → (o : Option Ran)
        → records s.graph s.desk.stores n.id ≡ o → HeadWaits
    job_waits leaf inputs job done all (Some ran) is = absurd (waits (done (Some ran) is tt))
    job_waits leaf inputs job done all None is =
        elim (inputs_or (recorded s.graph s.desk.stores) s.graph.given n.work leaf inputs) [
          | inr m ↦ inr (
            subst (Unrecorded (recorded s.graph s.desk.stores) s.graph.given) (sym all) m,
            is,
          )
          | inl had ↦
              let t = job (recorded s.graph s.desk.stores) had in inl (record {
                ready = record {
                  node = n;
                  found = graph_node p s.graph n sound.graph
                      (Contains-append_right s.graph.past s.graph.chain n there);
                  inputs = had;
                  turn =
                      ap (λ b. is_pure n.work || b)
                      (ap (heads n.id) chain ∙ same_test n.id n.id refl)
                      ∙ or_true (is_pure n.work);
                  task = t.0;
                  is_task = t.1;
                };
                needed = in_chain n there;
                none = is;
              })
        ]

    worked : (w : Work) → n.work ≡ w → is_composite w ≡ false
        → IsTrue (has_inputs s.graph.given w)
        → ((r : Given) → IsTrue (has_inputs r w) → (t : Task) × (task_of r w ≡ Some t))
        → ((o : Option Ran) → records s.graph s.desk.stores n.id ≡ o → IsRecorded o → WaitsNot s n.id w)
        → waited_for w ≡ arguments w → HeadWaits
    worked w is leaf inputs job done all =
        job_waits (ap is_composite is ∙ leaf) (ap (has_inputs s.graph.given) is ∙ inputs)
        (λ r had. (let t = job r (sym (ap (has_inputs r) is) ∙ had) in (t.0, ap (task_of r) is ∙ t.1)))
        (λ o e x. subst (WaitsNot s n.id) (sym is) (done o e x))
        (ap waited_for is ∙ all ∙ sym (ap arguments is))
        (records s.graph s.desk.stores n.id) refl

    -- a head without one has no record
    unrecorded : (w : Work) → n.work ≡ w → ((given : Given) → task_of given w ≡ None)
        → records s.graph s.desk.stores n.id ≡ None
    unrecorded w is none =
        jobless p s sound runnable.workers quiet n there (λ given. ap (task_of given) is ∙ none given)

    -- a composite with a control
    chosen : (w : Work) (a : Arg) → n.work ≡ w → is_composite w ≡ true → control w ≡ Some a
        → waited_for w ≡ a ∷ [] → ((given : Given) → task_of given w ≡ None)
        → IsTrue (is_some (value_of s.graph.given a)) → HeadWaits
    chosen w a is composite named all none has =
        elim (arg_or (recorded s.graph s.desk.stores) s.graph.given a [] has) [
          | inl had ↦ absurd (uncontrolled (ap is_composite is ∙ composite)
              (subst (IsControlled (recorded s.graph s.desk.stores))
              (sym (ap control is ∙ named)) had))
          | inr m ↦ inr (
            subst (Unrecorded (recorded s.graph s.desk.stores) s.graph.given)
                (sym (ap waited_for is ∙ all)) m,
            unrecorded w is none,
          )
        ]

    -- the head, by its work
    head_waits : (w : Work) → n.work ≡ w
        → AreGiven s.graph.next s.graph.given (arguments w)
        → ArePortsOf no_numbers (arguments w)
        → HasNeeds p.file n.routine s.graph.given w → HeadWaits
    head_waits (Op op args) is given slots needs =
        worked (Op op args) is refl needs
        (λ r e. (let vs = values_there r args e in
        (task.Op op vs.0, ap (option_map (task.Op op)) vs.1)))
        (λ o e x. subst IsRecorded (sym e) x) refl
    head_waits (Read arg kind) is given slots needs =
        worked (Read arg kind) is refl (may_read s.graph.next s.graph.given arg given slots)
        (λ r e. (task.Read (value_of r arg) kind, refl))
        (λ o e x. subst IsRecorded (sym e) x) refl
    head_waits (Call func args) is given slots needs =
        worked (Call func args) is refl needs
        (λ r e. (let vs = values_there r args e in
        (task.Call func vs.0, ap (option_map (task.Call func)) vs.1)))
        (λ o e x. subst IsRecorded (sym e) x) refl
    head_waits (Stop fault) is given slots needs =
        absurd (waits (subst (WaitsNot s n.id) (sym is) tt))
    head_waits (Print args) is given slots needs =
        elim (args_or (recorded s.graph s.desk.stores) s.graph.given args needs) [
          | inl had ↦ absurd (waits (subst (WaitsNot s n.id) (sym is) had))
          | inr m ↦ inr (
            subst (Unrecorded (recorded s.graph s.desk.stores) s.graph.given)
                (sym (ap waited_for is)) m,
            unrecorded (Print args) is (λ x. refl),
          )
        ]
    head_waits (Run func args) is given slots needs =
        worked (Run func args) is refl needs
        (λ r e. (let vs = values_there r args e in
        (task.Run func vs.0, ap (option_map (task.Run func)) vs.1)))
        (λ o e x. subst IsRecorded (sym e) x) refl
    head_waits (Cond test stmt arm more env) is given slots needs =
        chosen (Cond test stmt arm more env) test is refl refl refl (λ x. refl) needs.0
    head_waits (While test stmt turns more env) is given slots needs =
        chosen (While test stmt turns more env) test is refl refl refl (λ x. refl) needs.0
    head_waits (For over stmt turns more env) is given slots needs =
        chosen (For over stmt turns more env) over is refl refl refl (λ x. refl) needs.0
    head_waits (Pick test first second env) is given slots needs =
        chosen (Pick test first second env) test is refl refl refl (λ x. refl) needs.0
    head_waits (Enter func args) is given slots needs =
        absurd (uncontrolled (ap is_composite is)
        (subst (IsControlled (recorded s.graph s.desk.stores)) (sym (ap control is)) tt))

    the_head : HeadWaits
    unfolding AreSupplied
    the_head =
        let supplied = subst
        (λ (ns : List Node). AreSupplied p.file (limits_of p) s.graph.next ns s.graph.given)
        chain (sound.graph.supplied quiet.goes_on) in
        head_waits n.work refl supplied.0 (subst (HavePorts no_numbers) chain sound.graph.slots).0
        supplied.1

    head_none : records s.graph s.desk.stores n.id ≡ None
    head_none = elim the_head [ inl served ↦ served.none | inr m ↦ m.1 ]

    -- what it waits for is wanted
    head_wants : (k : ℕ) → is_among (flat_map named_by (waited_for n.work)) k ≡ true → Wanted k
    head_wants k e =
        let names = waited_named n.work k (among_of (waited_for n.work) k e) in record {
          reached = by_chain n k there names;
          needed = by_needed n k (Contains-append_right s.graph.past s.graph.chain n there)
              (in_chain n there) head_none names;
        }

    -- where no past node is awaited, the head may be served
    head_served : find (is_awaited s n) s.graph.past ≡ None → IsServed n.id
    head_served none = elim the_head [
      | inl served ↦ served
      | inr m ↦
          let lack = m.0 in
          let named = waited_named n.work lack.node lack.named in
          let reached = by_chain n lack.node there named in
          let needed = by_needed n lack.node
          (Contains-append_right s.graph.past s.graph.chain n there) (in_chain n there) m.1 named in
          let over = valued_over p s sound lack.node lack.port lack.value
          (sound.graph.present lack.node reached) lack.gave in
          let z = lacking p s sound lack.node lack.port lack.value reached needed over lack.none
          lack.gave in
          let lacks = z.2 in
          let of : AreOf z.0.id (waited_for n.work)
          = subst (λ k. AreOf k (waited_for n.work)) (sym z.1) lack.named in
          let mark = kept_marked s.graph.past (flat_map named_by (waited_for n.work)) z.0.id
          (of_among (waited_for n.work) z.0.id of) in
          absurd (unfound (is_awaited s n) s.graph.past z.0 none
          (lacks_awaited n z.0 mark lacks.none) lacks.stands)
    ]

    -- the node that is due may be served
    due_served : IsServed (node_due s n).id
    due_served = by_found (find (is_awaited s n) s.graph.past) refl
      where
        by_found : (o : Option Node) → find (is_awaited s n) s.graph.past ≡ o
            → IsServed (unwrap_or (find (is_awaited s n) s.graph.past) n).id
        by_found (Some x) is =
            subst (λ (o : Option Node). IsServed (unwrap_or o n).id) (sym is)
            (past_served n x head_wants is)
        by_found None is =
            subst (λ (o : Option Node). IsServed (unwrap_or o n).id) (sym is) (head_served is)

-- what comes next may be done
pub next_may : NextLaw
next_may p s seat (Settle k) runnable sound quiet next = (quiet, next)
next_may p s seat (Refine k) runnable sound quiet next = (quiet, next.2)
next_may p s seat (Place k a m) runnable sound quiet next =
    let due = next.0 in
    let served = subst (IsServed p s sound) due.number
    (due_served p s sound runnable quiet due.head due.rest due.chain due.none_settles
    due.not_refined) in (
      quiet,
      record {
        is_ready = is_ready_by s.graph s.desk.stores k served.ready;
        is_needed = served.needed;
        no_record = served.none;
        no_ticket = next.1;
        no_claim = next.2;
        next_attempt = next.3;
        lives = next.4;
      },
    )
next_may p s seat (Claim k a m) runnable sound quiet next = (quiet, next.1)
next_may p s seat (Finish k a m) runnable sound quiet next = (quiet, next.1)
next_may p s seat (Drop k a m) runnable sound quiet next = absurd next
next_may p s seat (Lose m) runnable sound quiet next = absurd next
next_may p s seat (Trim k) runnable sound quiet next = absurd next

-- and is in head order
pub next_in_order : NextOrderLaw
next_in_order p s seat (Settle k) next = tt
next_in_order p s seat (Refine k) next = next.1
next_in_order p s seat (Place k a m) next = tt
next_in_order p s seat (Claim k a m) next = tt
next_in_order p s seat (Finish k a m) next = tt
next_in_order p s seat (Drop k a m) next = absurd next
next_in_order p s seat (Lose m) next = absurd next
next_in_order p s seat (Trim k) next = absurd next

-- a test is met or not
met_or : (b : Bool) → IsTrue b ⊎ (IsTrue b → ⊥)
met_or true = inl refl
met_or false = inr (λ e. absurd (cc (e)))

recorded_or : (o : Option Ran) → IsRecorded o ⊎ (IsRecorded o → ⊥)
recorded_or None = inr (λ e. e)
recorded_or (Some ran) = inl tt

controlled_or : (given : Given) (o : Option Arg)
    → IsControlled given o ⊎ (IsControlled given o → ⊥)
controlled_or given None = inl tt
controlled_or given (Some a) = met_or (has_value given a)

waits_or : (s : State) (k : ℕ) (w : Work) → WaitsNot s k w ⊎ (WaitsNot s k w → ⊥)
waits_or s k (Op op args) = recorded_or (records s.graph s.desk.stores k)
waits_or s k (Read arg kind) = recorded_or (records s.graph s.desk.stores k)
waits_or s k (Call func args) = recorded_or (records s.graph s.desk.stores k)
waits_or s k (Stop fault) = inl tt
waits_or s k (Print args) = met_or (have_values (recorded s.graph s.desk.stores) args)
waits_or s k (Run func args) = recorded_or (records s.graph s.desk.stores k)
waits_or s k (Cond test stmt arm rest env) = inr (λ e. e)
waits_or s k (While test stmt turns rest env) = inr (λ e. e)
waits_or s k (For over stmt turns rest env) = inr (λ e. e)
waits_or s k (Pick test first second env) = inr (λ e. e)
waits_or s k (Enter func args) = inr (λ e. e)

-- the head may be settled, or nothing may
settle_or : (s : State) (n : Node) (rest : List Node) → s.graph.chain ≡ n ∷ rest
    → CanSettle s n.id ⊎ NoneSettles s
settle_or s n rest chain = elim (waits_or s n.id n.work) [
  | inl done ↦ inl (record {
    head = n;
    rest = rest;
    chain = chain;
    number = refl;
    waits_not = done;
  })
  | inr waits ↦ inr (λ k can.
      let both : n ∷ rest ≡ can.head ∷ can.rest = sym chain ∙ can.chain in
      let same : n ≡ can.head = cc (both) in
      waits (subst (λ (x : Node). WaitsNot s x.id x.work) (sym same)
      (subst (λ i. WaitsNot s i can.head.work) (sym can.number) can.waits_not)))
]

-- the head may be refined, or not
refine_or : (p : Plan) (s : State) (n : Node) (rest : List Node) → IsSound p s
    → 0 < p.setup.window → s.graph.chain ≡ n ∷ rest
    → CanRefine p s n.id ⊎ (CanRefine p s n.id → ⊥)
refine_or p s n rest sound window chain =
    elim (met_or (is_composite n.work)) [
      | inr leaf ↦ inr (λ can.
          leaf (subst (λ (x : Node). IsTrue (is_composite x.work)) (is_head can) can.composite))
      | inl composite ↦ elim (controlled_or (recorded s.graph s.desk.stores) (control n.work)) [
        | inl controlled ↦ inl (record {
          node = n;
          stands = there;
          number = refl;
          composite = composite;
          control = controlled;
          window = subst (WithinWindow p.setup.window n.id) (sym chain) (window, inl refl);
        })
        | inr free ↦ inr (λ can.
            free (subst (λ (x : Node). IsControlled (recorded s.graph s.desk.stores) (control x.work))
            (is_head can) can.control))
      ]
    ]
  where
    there : Contains s.graph.chain n
    there = subst (λ (ns : List Node). Contains ns n) (sym chain) (here n rest)

    is_head : (can : CanRefine p s n.id) → can.node ≡ n
    is_head can =
        same_node p s.graph can.node n sound.graph
        (Contains-append_right s.graph.past s.graph.chain can.node can.stands)
        (Contains-append_right s.graph.past s.graph.chain n there) can.number

-- the node that is due is served next
due_goes : (p : Plan) (s : State) (k : ℕ) → IsRunnable p → IsSound p s → IsDue p s k
    → (t : Option Placed) → s.desk.ticket k ≡ t → (c : Option Held) → s.desk.claim k ≡ c
    → GoesInOrder p s
due_goes p s k runnable sound due (Some t) live c claim =
    let machine = sound.survivor.machine in record {
      seat = first_seat p machine;
      act = Claim k t.attempt machine;
      is_seat = seat_there p machine (first_seat p machine) sound.survivor.lives.is_machine
          (first_of p machine runnable.workers);
      next = (
        due,
        record {
          ticket = t;
          is_live = live;
          of_attempt = refl;
          lives = sound.survivor.lives;
          by_seat = first_of p machine runnable.workers;
        },
      );
    }
due_goes p s k runnable sound due None free (Some c) claim = record {
  seat = c.seat;
  act = Finish k c.attempt c.machine;
  is_seat = seat_there p c.machine c.seat (sound.desk.claim_lives k c claim).is_machine
      (sound.desk.claim_seat k c claim);
  next = (
    due,
    record {
      holds = subst (λ (o : Option Held). Holds o c.seat c.attempt c.machine) (sym claim)
          (record { of_attempt = refl; on_machine = refl; by_seat = refl });
      lives = sound.desk.claim_lives k c claim;
    },
  );
}
due_goes p s k runnable sound due None free None claim = record {
  seat = 0;
  act = Place k (suc (s.desk.places k)) sound.survivor.machine;
  is_seat = omega arith;
  next = (due, free, claim, refl, sound.survivor.lives);
}

-- by the chain
chain_goes : (p : Plan) (s : State) (ns : List Node) → IsRunnable p → IsSound p s → IsQuiet s
    → s.graph.chain ≡ ns → GoesInOrder p s
chain_goes p s [] runnable sound quiet chain =
    absurd (sound.graph.unfinished quiet.goes_on chain)
chain_goes p s (n ∷ rest) runnable sound quiet chain = elim (settle_or s n rest chain) [
  | inl can ↦ record { seat = 0; act = Settle n.id; is_seat = omega arith; next = can }
  | inr none ↦ elim (refine_or p s n rest sound runnable.window chain) [
    | inl can ↦ record {
      seat = 0;
      act = Refine n.id;
      is_seat = omega arith;
      next = (none, ap (heads n.id) chain ∙ same_test n.id n.id refl, can);
    }
    | inr leaf ↦
        due_goes p s (node_due s n).id runnable sound
        (record {
          head = n;
          rest = rest;
          chain = chain;
          none_settles = none;
          not_refined = leaf;
          number = refl;
        })
        (s.desk.ticket (node_due s n).id) refl (s.desk.claim (node_due s n).id) refl
  ]
]

-- the law
pub head_goes_on : HeadOrderLaw
head_goes_on p s runnable sound quiet = chain_goes p s s.graph.chain runnable sound quiet refl
