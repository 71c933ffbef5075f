-- The state before any event is sound.
use Rattle.std.proofs.Common.{◌≡◌, ◌≢◌, ◌<◌, ◌≤◌, ◌+◌, ◌==◌, nat_eq, ℕ, zero, suc, Bool, true, false, not, ◌&&◌, ◌||◌, if◌then◌else◌, List, [], ◌∷◌, length, Option, None, Some, ◌⊎◌, inl, inr, refl, ap, sym, ◌∙◌, arith}
use Rattle.std.specs.Prelude.{IsTrue, Result, Ok, Err}
use Rattle.std.specs.List.{AllByRecursion}
use Rattle.std.proofs.lemmas.List.Elements.{All-nil, All-from_recursion}
use Rattle.pyd_value.specs.declared.fault.Fault.{Fault}
use Rattle.pyd_board.specs.declared.setup.Loss.{Loss}
use Rattle.pyd_meaning.specs.Module.{end_of}
use Rattle.pyd_meaning.specs.Names.{no_names}
use Rattle.pyd_names.specs.Binding.{module_variables}
use Rattle.pyd_scope.specs.Numbering.{body, start}
use Rattle.pyd_ir.specs.declared.arg.Arg.{Arg}
use Rattle.pyd_ir.specs.declared.arg.Arg.TheVariants.{Known, From, Slot, Unbound}
use Rattle.pyd_ir.specs.declared.node.Node.{Node}
use Rattle.pyd_ir.specs.Arguments.{arguments}
use Rattle.pyd_ir.specs.Inputs.{Given}
use Rattle.pyd_translate.specs.Laws.{nothing_given}
use Rattle.pyd_translate.specs.Matching.{IsBelow, AreBelow, AreNumbered, AreAlike}
use Rattle.pyd_translate.specs.Naming.{Numbers, IsAmong, AreAmong}
use Rattle.pyd_translate.specs.Slots.{unbound_slots}
use Rattle.pyd_translate.specs.Walk.{walk}
use Rattle.pyd_translate.proofs.LawsMatch.{script_law}
use Rattle.pyd_translate.proofs.RestOrder.{block_order}
use Rattle.pyd_translate.proofs.SuppliedRests.{block_supply}
use Rattle.pyd_translate.proofs.Slots.{slots_unbound}
use Rattle.pyd_translate.proofs.SlotPorts.{script_ports}
use Rattle.pyd_refine.specs.Ordering.{IsOrdered, and_one}
use Rattle.pyd_runs.specs.Plans.{Plan, limits_of, meaning}
use Rattle.pyd_runs.specs.Graphs.{module_piece, first_graph}
use Rattle.pyd_runs.specs.Desks.{first_desk}
use Rattle.pyd_runs.specs.Reach.{Reached, by_chain, by_past}
use Rattle.pyd_runs.specs.Effects.{first_state}
use Rattle.pyd_runs.specs.Sound.{IsSound, IsGraphSound, IsDeskSound, Completes, HasGiven, IsFresh, stands, is_over}
use Rattle.pyd_runs.specs.Laws.{IsRunnable}
use Rattle.pyd_runs.proofs.Putting.{same_test, other_test, test_same, test_other}
use Rattle.pyd_runs.proofs.Without.{or_true}
use Rattle.pyd_runs.proofs.Passing.{whole_at, unended}
use Rattle.pyd_runs.proofs.Redirected.{order_names}
use Rattle.pyd_runs.proofs.Growing.{below_or}

-- results that are alike end alike
alike_ends : {A B : Type 0} (r : Result Given Fault) (got : Option A) (e : Result B Fault)
    (R : Given → A → B → Type 0) → AreAlike r got e R → end_of r ≡ end_of e
alike_ends (Ok given) (Some a) (Ok b) R alike = refl
alike_ends (Ok given) None (Ok b) R alike = absurd alike
alike_ends (Ok given) got (Err f) R alike = absurd alike
alike_ends (Err f) got (Ok b) R alike = absurd alike
alike_ends {A} {B} (Err f) got (Err e) R alike =
    ap (λ (z : Fault). end_of {A = B} (Err z)) alike

-- arguments below a number are among those
arg_among : (known : Numbers) (ids : ℕ) → ((m : ℕ) → m < ids → known m ≡ true) → (a : Arg)
    → IsBelow ids a → IsAmong known a
arg_among known ids low (Known v) below = tt
arg_among known ids low (From r) below = low r.node below
arg_among known ids low (Slot r) below = low r.node below
arg_among known ids low Unbound below = tt

args_among : (known : Numbers) (ids : ℕ) → ((m : ℕ) → m < ids → known m ≡ true)
    → (args : List Arg) → AreBelow ids args → AreAmong known args
args_among known ids low [] below = tt
args_among known ids low (a ∷ args) below =
    (arg_among known ids low a below.0, args_among known ids low args below.1)

-- nodes that are numbered one after another are in order
numbered_order : (known : Numbers) (ids next : ℕ) (ns : List Node)
    → ((m : ℕ) → m < ids → known m ≡ true) → ((m : ℕ) → ids ≤ m → known m ≡ false)
    → AreNumbered ids ns → next ≡ ids + length ns → IsOrdered known next ns
numbered_order known ids next [] low high numbered long = tt
numbered_order known ids next (n ∷ ns) low high numbered long =
    let is = numbered.0 in (
      omega (arith, is, long),
      ap known is ∙ high ids (omega arith),
      args_among known ids low (arguments n.work) numbered.1,
      numbered_order (and_one known n.id) (suc ids) next ns
          (λ m less. elim (below_or m ids) [
            | inl under ↦ ap (λ b. nat_eq m n.id || b) (low m under) ∙ or_true (nat_eq m n.id)
            | inr over ↦ ap (λ b. b || known m)
                (same_test m n.id (omega (arith, is, less, over)))
          ])
          (λ m more. ap (λ b. b || known m)
          (other_test m n.id (λ z. absurd (omega (arith, is, z, more))))
          ∙ high m (omega (arith, more)))
          numbered.2 (omega (arith, long)),
    )

-- nothing is over
none_over : (b : Bool) → (not b && (false || false)) ≡ false
none_over true = refl
none_over false = refl

-- the graph before any event
graph_start : (p : Plan) → IsGraphSound p (first_graph p)
graph_start p =
    let g = first_graph p in
    let piece = module_piece p in
    let matches = script_law p.file (limits_of p) in
    let order = block_order p.file 0 0 (record { stmts = body p.file 0; point = start }) [] 0
    (unbound_slots (module_variables p.file)) tt (unbound_below (module_variables p.file)) in
    let listed = numbered_order (is_over g) 0 piece.next piece.nodes
    (λ m less. absurd (omega (arith, less))) (λ m more. none_over (stands m piece.nodes))
    order.nodes order.next in
    let completes : Completes p [] (walk p.file (limits_of p) piece.nodes nothing_given)
    = record {
      lines = matches.lines;
      as_script = alike_ends (walk p.file (limits_of p) piece.nodes nothing_given).result
          piece.got (meaning p).result _ matches.ends;
    } in
    record {
      goes_on = λ none. completes;
      ended = λ end is. whole_at p [] nothing_given piece.nodes end is completes;
      unfinished = unended piece.nodes;
      supplied = λ none. block_supply p.file (limits_of p) 0 0
          (record { stmts = body p.file 0; point = start }) [] 0 nothing_given
          (unbound_slots (module_variables p.file)) no_names tt
          (slots_unbound (module_variables p.file) 0 nothing_given);
      listed = listed;
      below = λ m is. absurd (let z = none_over (stands m piece.nodes) in cc (z, is));
      slots = script_ports p.file;
      ordered = tt;
      apart = All-nil (λ (n : Node). IsFresh n.id piece.nodes);
      past = All-nil (HasGiven p g);
      present = λ k reached. reached_present k reached;
      driven = λ k ran is fresh. absurd (cc (is));
      effects = λ n at pure. refl;
      blank = λ k port is. refl;
    }
  where
    unbound_below : (slots : List (List ℕ)) → AreBelow 0 (unbound_slots slots)
    unbound_below [] = tt
    unbound_below (slot ∷ slots) = (tt, unbound_below slots)

    reached_present : (k : ℕ) → Reached (first_graph p) k
        → IsTrue (is_over (first_graph p) k || stands k (module_piece p).nodes)
    reached_present k (by_past x i at reached names) = absurd (omega (arith, at.1))
    reached_present k (by_chain x i at names) =
        elim (order_names (is_over (first_graph p)) (module_piece p).next (module_piece p).nodes x
        k listed_here at names) [
          | inl over ↦ absurd
              (let z = none_over (stands k (module_piece p).nodes) in cc (z, over))
          | inr there ↦
              ap (λ b. is_over (first_graph p) k || b) there ∙ or_true (is_over (first_graph p) k)
        ]
      where
        listed_here : IsOrdered (is_over (first_graph p)) (module_piece p).next (module_piece p).nodes
        listed_here =
            let order = block_order p.file 0 0 (record { stmts = body p.file 0; point = start }) [] 0
            (unbound_slots (module_variables p.file)) tt
            (unbound_below (module_variables p.file)) in
            numbered_order (is_over (first_graph p)) 0 (module_piece p).next (module_piece p).nodes
            (λ m less. absurd (omega (arith, less)))
            (λ m more. none_over (stands m (module_piece p).nodes)) order.nodes order.next

-- no entry names a machine
abbrev IsSpared : ℕ → List Loss → Type 0
IsSpared m losses = AllByRecursion (λ (l : Loss). l.machine ≢ m) losses

-- the entries that name other machines
others : ℕ → List Loss → List Loss
others k [] = []
others k (l ∷ losses) = if l.machine == k then others k losses else l ∷ others k losses

others_few : (k : ℕ) (losses : List Loss) → length (others k losses) ≤ length losses
unfolding others
others_few k [] = omega arith
others_few k (l ∷ losses) = by_test (l.machine == k) (others_few k losses)
  where
    by_test : (b : Bool) → length (others k losses) ≤ length losses
        → length (if b then others k losses else l ∷ others k losses) ≤ suc (length losses)
    by_test true few = omega (arith, few)
    by_test false few = omega (arith, few)

-- a machine is spared, or fewer entries name others
spared_or_fewer : (k : ℕ) (losses : List Loss)
    → IsSpared k losses ⊎ (length (others k losses) < length losses)
unfolding others
spared_or_fewer k [] = inl tt
spared_or_fewer k (l ∷ losses) =
    by_test (l.machine == k) refl (others_few k losses) (spared_or_fewer k losses)
  where
    by_test : (b : Bool) → (l.machine == k) ≡ b → length (others k losses) ≤ length losses
        → IsSpared k losses ⊎ (length (others k losses) < length losses)
        → IsSpared k (l ∷ losses)
        ⊎ (length (if b then others k losses else l ∷ others k losses) < suc (length losses))
    by_test true t few more = inr (omega (arith, few))
    by_test false t few (inl spared) = inl (test_other l.machine k t, spared)
    by_test false t few (inr fewer) = inr (omega (arith, fewer))

-- one that others spare, and that isn't the machine, all spare
spared_back : (k m : ℕ) (losses : List Loss) → m ≢ k → IsSpared m (others k losses)
    → IsSpared m losses
unfolding others
spared_back k m [] other spared = tt
spared_back k m (l ∷ losses) other spared =
    by_test (l.machine == k) refl (λ h. spared_back k m losses other h) spared
  where
    by_test : (b : Bool) → (l.machine == k) ≡ b
        → (IsSpared m (others k losses) → IsSpared m losses)
        → IsSpared m (if b then others k losses else l ∷ others k losses)
        → IsSpared m (l ∷ losses)
    by_test true t back h = ((λ z. other (sym z ∙ test_same l.machine k t)), back h)
    by_test false t back h = (h.0, back h.1)

-- fewer entries than machines spare one
one_spared : (n : ℕ) (losses : List Loss) → length losses < n
    → (m : ℕ) × (m < n) × IsSpared m losses
one_spared zero losses few = absurd (omega (arith, few))
one_spared (suc k) losses few = elim (spared_or_fewer k losses) [
  | inl spared ↦ (k, omega arith, spared)
  | inr fewer ↦
      let r = one_spared k (others k losses) (omega (arith, few, fewer)) in
      let low = r.1 in
      (r.0, omega (arith, low), spared_back k r.0 losses (λ z. absurd (omega (arith, z, low))) r.2)
]

-- the desk before any event
desk_start : (p : Plan) → IsDeskSound p (first_graph p) first_desk (λ machine. false)
desk_start p = record {
  stored = λ k kept is. absurd (cc (is));
  store_lives = λ k kept is. absurd (cc (is));
  run_done = λ k ran n is at number. absurd (cc (is));
  ticket_ready = λ k t is. absurd (cc (is));
  ticket_alone = λ k t is. absurd (cc (is));
  ticket_names = λ k t is. absurd (cc (is));
  claimed = λ k c is. absurd (cc (is));
  claim_heads = λ k c is run. absurd (cc (is));
  claim_alone = λ k c is. absurd (cc (is));
  claim_lives = λ k c is. absurd (cc (is));
  claim_seat = λ k c is. absurd (cc (is));
  undone_attempt = λ k attempt c is. absurd (cc (is));
  undone_lost = λ k attempt c is. absurd (cc (is));
}

-- the start
pub starts : (p : Plan) → IsRunnable p → IsSound p (first_state p)
starts p runnable =
    let one = one_spared p.setup.machines p.setup.losses runnable.some_spared in
    record {
      graph = graph_start p;
      desk = desk_start p;
      attempts = record {
        ticket = λ k t is. absurd (cc (is));
        claim = λ k c is. absurd (cc (is));
        undone = λ k attempt c is. absurd (cc (is));
        before_ticket = λ k attempt c t is also. absurd (cc (is));
        before_claim = λ k attempt c t is also. absurd (cc (is));
      };
      scripted = record { done = []; script = refl; machines = λ machine. refl };
      survivor = record {
        machine = one.0;
        lives = record { is_machine = one.1; not_lost = refl };
        spared = All-from_recursion (λ (l : Loss). l.machine ≢ one.0) p.setup.losses one.2;
      };
    }
