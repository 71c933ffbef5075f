-- The nodes that bind targets bind the slots to what the names are bound to.
use Rattle.std.proofs.Common.{◌≡◌, ◌≢◌, ℕ, suc, ◌+◌, ◌<◌, List, [], ◌∷◌, length, nat_eq, cond, refl, sym, ap, subst, ◌∙◌, arith, Option, Some, None, option_map, Result, Ok, Err, Bool, true, false}
use Rattle.std.specs.List.{slice_get}
use Rattle.std.proofs.lemmas.Bool.Decides.{nat_tests}
use Rattle.pyd_value.specs.declared.value.Value.{Value, Tuple}
use Rattle.pyd_value.specs.declared.fault.Fault.{Fault}
use Rattle.pyd_value.specs.declared.fault.Fault.TheVariants.{Raised}
use Rattle.pyd_value.specs.declared.fault.Kind.TheVariants.{TypeError, ValueError}
use Rattle.pyd_value.proofs.Constructs.{shape_of-tuple}
use Rattle.pyd_tree.specs.declared.file.File.{File}
use Rattle.pyd_names.specs.Binding.{is_among}
use Rattle.pyd_ops.specs.Answer.{raise}
use Rattle.pyd_ops.specs.Sequence.{items, items_in, item_in}
use Rattle.pyd_meaning.specs.declared.limits.Limits.{Limits}
use Rattle.pyd_meaning.specs.Evaluation.{Evaluation, settled, ◌>>=◌}
use Rattle.pyd_meaning.specs.Names.{Names, bind, bind_all}
use Rattle.pyd_meaning.specs.Setting.{place_of}
use Rattle.pyd_meaning.specs.Assignment.{bound_or_error, assign_values, assign}
use Rattle.pyd_meaning.proofs.Sequencing.{gives-then, faults-then}
use Rattle.pyd_meaning.proofs.Calls.{bind_all-uneven, bind_all-even}
use Rattle.pyd_ir.specs.declared.arg.Arg.{Arg}
use Rattle.pyd_ir.specs.declared.arg.Arg.TheVariants.{From}
use Rattle.pyd_ir.specs.declared.code.OpCode.TheVariants as code
use Rattle.pyd_ir.specs.declared.work.Work.{Work}
use Rattle.pyd_ir.specs.declared.work.Work.TheVariants.{Op}
use Rattle.pyd_ir.specs.Inputs.{Given, both}
use Rattle.pyd_ir.specs.Operation.{unpack, operation}
use Rattle.pyd_ir.specs.Ports.{ports_of}
use Rattle.pyd_translate.specs.Making.{Piece, Context, pure, emit, port, ◌>>>◌}
use Rattle.pyd_translate.specs.Slots.{set_slot}
use Rattle.pyd_translate.specs.Statements.{set_members, bind_targets, context}
use Rattle.pyd_translate.specs.Walk.{walk}
use Rattle.pyd_translate.specs.Matching.{HasValue, AreSlots, Relation, AreAlike, IsReached, Matches}
use Rattle.pyd_translate.proofs.Induction.{Each}
use Rattle.pyd_translate.proofs.Sequencing.{alike-weaker, matches-then, matches-pure, matches-stop}
use Rattle.pyd_translate.proofs.Emitting.{IsEmitted, matches-leaf, value-emitted}
use Rattle.pyd_translate.proofs.Keeping.{slots-kept}
use Rattle.pyd_translate.proofs.Slots.{slots_bind}
use Rattle.pyd_translate.proofs.Yields.{Yields, yields-gives, yields-faults}

alike_yields : {A B : Type 0} (r : Result Given Fault) (got : Option A) (s : Result B Fault)
    (R : Given → A → B → Type 0) (P : B → Type 0) → ((x : B) → s ≡ Ok x → P x)
    → AreAlike r got s R → AreAlike r got s (λ g a b. R g a b × P b)
alike_yields (Ok g) (Some a) (Ok b) R P f e = (e, f b refl)
alike_yields (Ok g) None (Ok b) R P f e = e
alike_yields (Ok g) got (Err x) R P f e = e
alike_yields (Err x) got (Ok b) R P f e = e
alike_yields (Err x) got (Err y) R P f e = e

-- what holds of each value that an evaluation gives holds of what nodes that do the same are related to
pub matches-yields : {A B : Type 0} (file : File) (limits : Limits) (more ids : ℕ) (given : Given)
    (R : Relation A B) (P : B → Type 0) (p : Piece A) (m : Evaluation B) → Yields m P
    → Matches file limits more ids given p m R
    → Matches file limits more ids given p m (λ next g a b. R next g a b × P b)
matches-yields file limits more ids given R P p m y first = record {
  lines = first.lines;
  ends =
      alike-weaker (walk file limits p.nodes given).result p.got m.result _ _
      (λ after a b q. record { grown = q.0.grown; kept = q.0.kept; related = (q.0.related, q.1) })
      (alike_yields (walk file limits p.nodes given).result p.got m.result (IsReached ids given p.next R) P y first.ends);
  steps = first.steps;
}

-- the slots are these names
abbrev pub SlotsAre : List (List ℕ) → ℕ → Given → List Arg → Names → Type 0
SlotsAre slots next given env names = AreSlots slots next given env names

-- unpacking

-- a tuple has its members as items
pub items_tuple : (vs : List Value) → items (Tuple vs) ≡ Some vs
items_tuple vs = ap items_in (shape_of-tuple vs)

-- the tuple of so many members
abbrev pub IsTupleOf : ℕ → Value → Type 0
IsTupleOf n t = (vs : List Value) × ((t ≡ Tuple vs) × (length vs ≡ n))

same_number : (m n : ℕ) → nat_eq m n ≡ true → m ≡ n
same_number m n e = grind (arith, nat_tests)

other_number : (m n : ℕ) → nat_eq m n ≡ false → n ≢ m
other_number m n e p = grind (arith, nat_tests)

yields_if : (vs : List Value) (n line : ℕ) (b : Bool) → nat_eq (length vs) n ≡ b
    → Yields (settled (cond b (Ok (Tuple vs)) (raise ValueError line))) (IsTupleOf n)
yields_if vs n line true e =
    yields-gives (Tuple vs) (IsTupleOf n) (vs, (refl, same_number (length vs) n e))
yields_if vs n line false e = yields-faults (Raised ValueError line) (IsTupleOf n)

pub yields_unpack : (n : ℕ) (o : Option (List Value)) (line : ℕ)
    → Yields (settled (unpack n o line)) (IsTupleOf n)
yields_unpack n (Some vs) line = yields_if vs n line (nat_eq (length vs) n) refl
yields_unpack n None line = yields-faults (Raised TypeError line) (IsTupleOf n)

-- what is bound of the items of a value
abbrev bound_items : List (List ℕ) → ℕ → Names → Value → Evaluation Names
bound_items names line ns t = assign_values (items t) names (place_of line) ns

unpack_if : (names : List (List ℕ)) (line : ℕ) (ns : Names) (vs : List Value) (b : Bool)
    → nat_eq (length vs) (length names) ≡ b
    → settled (cond b (Ok (Tuple vs)) (raise ValueError line)) >>= bound_items names line ns
    ≡ bound_or_error (bind_all ns names vs) (place_of line)
unpack_if names line ns vs true e =
    gives-then (Tuple vs) (bound_items names line ns)
    ∙ ap (λ o. assign_values o names (place_of line) ns) (items_tuple vs)
unpack_if names line ns vs false e =
    faults-then (Raised ValueError line) (bound_items names line ns)
    ∙ sym (ap (λ o. bound_or_error o (place_of line))
    (bind_all-uneven ns names vs (other_number (length vs) (length names) e)))

-- binding the items is unpacking, and then binding the members
unpack_is : (names : List (List ℕ)) (line : ℕ) (ns : Names) (o : Option (List Value))
    → settled (unpack (length names) o line) >>= bound_items names line ns
    ≡ assign_values o names (place_of line) ns
unpack_is names line ns (Some vs) = unpack_if names line ns vs (nat_eq (length vs) (length names)) refl
unpack_is names line ns None = faults-then (Raised TypeError line) (bound_items names line ns)

module _ (slots : List (List ℕ)) (next id : ℕ) (given : Given) (low : id < next) where
  -- the members stand at the ports from one on
  abbrev StandFrom : ℕ → List Value → Type 0
  StandFrom p vs = (q : ℕ) → given id (p + q) ≡ slice_get vs q

  -- each target takes its member
  members_bind : (p : ℕ) (names : List (List ℕ)) (vs : List Value) (env : List Arg) (ns bound : Names)
      → Each (λ x. is_among slots x ≡ true) names → bind_all ns names vs ≡ Some bound
      → StandFrom p vs → AreSlots slots next given env ns
      → AreSlots slots next given (set_members slots env id p names) bound
  members_bind p [] [] env ns bound in_slots e stand are = subst (AreSlots slots next given env) (same e) are
    where
      names_or : Option Names → Names
      names_or (Some n) = n
      names_or None = ns

      same : ◌≡◌ {A = Option Names} (Some ns) (Some bound) → ns ≡ bound
      same q = ap names_or q
  members_bind p [] (v ∷ vs) env ns bound in_slots e stand are = absurd (cc e)
  members_bind p (x ∷ names) [] env ns bound in_slots e stand are = absurd (cc e)
  members_bind p (x ∷ names) (v ∷ vs) env ns bound in_slots e stand are =
      let here : p + 0 ≡ p = omega arith in
      members_bind (suc p) names vs (set_slot slots env x (From (port id p))) (bind ns x v) bound in_slots.1 e
      (λ q. let more : suc p + q ≡ p + suc q = omega arith in ap (given id) more ∙ stand (suc q))
      (slots_bind slots next given env ns x (From (port id p)) v in_slots.0 are
      (ap (given id) (sym here) ∙ stand 0, low))

module _ (file : File) (limits : Limits) (slots : List (List ℕ)) (ids : ℕ) (given : Given) (routine depth line : ℕ)
    (env : List Arg) (names : Names) (are : AreSlots slots ids given env names) (a : Arg) (v : Value)
    (has : HasValue ids given a v) where
  -- where the nodes are made
  abbrev at : Context
  at = context routine depth line env

  unpacks : (xs : List (List ℕ)) → Each (λ x. is_among slots x ≡ true) xs
      → Matches file limits (1 + 0) ids given
      ((emit at (Op (code.Unpack (length xs)) (a ∷ [])) >>> (λ id. pure (set_members slots env id 0 xs))) ids)
      (settled (unpack (length xs) (items v) line) >>= bound_items xs line names) (SlotsAre slots)
  unpacks xs in_slots =
      let work : Work = Op (code.Unpack (length xs)) (a ∷ []) in
      let m = settled (unpack (length xs) (items v) line) in
      matches-then file limits 1 0 ids given
      (λ next g id t. IsEmitted ids given (ports_of work) next g id t × IsTupleOf (length xs) t)
      (SlotsAre slots) (emit at work) (λ id. pure (set_members slots env id 0 xs)) m (bound_items xs line names)
      (matches-yields file limits 1 ids given (IsEmitted ids given (ports_of work)) (IsTupleOf (length xs))
      (emit at work ids) m (yields_unpack (length xs) (items v) line)
      (matches-leaf file limits ids given at work m refl
      (λ i. option_map (λ ws. settled (operation_of xs ws)) (both (has.0 i) (Some [])))))
      (λ next mid id t reached.
      let made = reached.related.0 in
      let tuple = reached.related.1 in
      let even : length xs ≡ length tuple.0 = sym tuple.1.1 in
      let all = bind_all-even names xs tuple.0 even in
      let below : id < next = let p = made.named in let q = made.last in omega arith in
      subst (λ e. Matches file limits 0 next mid (pure (set_members slots env id 0 xs) next) e (SlotsAre slots))
      (sym (ap (λ o. assign_values o xs (place_of line) names) (ap items tuple.1.0 ∙ items_tuple tuple.0)
      ∙ ap (λ o. bound_or_error o (place_of line)) all.1))
      (matches-pure file limits 0 next mid (SlotsAre slots) (set_members slots env id 0 xs) all.0
      (members_bind slots next id mid below 0 xs tuple.0 env names all.0 in_slots all.1
      (λ q. let here : 0 + q ≡ q = omega arith in
      ap (mid id) here ∙ value-emitted ids given mid (ports_of work) next id t q made
      ∙ ap (λ o. item_in o q) (ap items tuple.1.0 ∙ items_tuple tuple.0))
      (slots-kept slots ids next given mid env names reached.grown reached.kept are))))
    where
      operation_of : List (List ℕ) → List Value → Result Value Fault
      operation_of ys ws = operation (code.Unpack (length ys)) ws line

  -- targets bound to an argument do what binding them to its value means
  pub binds : (tuple : Bool) (xs : List (List ℕ)) → Each (λ x. is_among slots x ≡ true) xs
      → Matches file limits 1 ids given (bind_targets slots tuple xs at a ids)
      (assign (record { tuple = tuple; names = xs }) v (place_of line) names) (SlotsAre slots)
  binds false [] in_slots = matches-stop file limits ids given (SlotsAre slots) at (Raised ValueError line)
  binds false (x ∷ []) in_slots =
      matches-pure file limits 1 ids given (SlotsAre slots) (set_slot slots env x a) (bind names x v)
      (slots_bind slots ids given env names x a v in_slots.0 are has)
  binds false (x ∷ y ∷ xs) in_slots =
      matches-stop file limits ids given (SlotsAre slots) at (Raised ValueError line)
  binds true xs in_slots =
      subst (λ e. Matches file limits 1 ids given (bind_targets slots true xs at a ids) e (SlotsAre slots))
      (unpack_is xs line names (items v)) (unpacks xs in_slots)
