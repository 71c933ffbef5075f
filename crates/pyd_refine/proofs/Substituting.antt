-- Later nodes do the same with other arguments in the place of a node's ports.
use Rattle.std.proofs.Common.{◌≡◌, ℕ, suc, ◌+◌, ◌<◌, List, [], ◌∷◌, ◌++◌, map, refl, sym, ap, subst, ◌∙◌, inl, inr, ◌⊎◌, Some, Result, Ok, Err, nat_eq, Bool, true, false, if◌then◌else◌}
use Rattle.std.specs.Prelude.{option_map}
use Rattle.std.specs.List.{slice_get}
use Rattle.std.proofs.lemmas.List.{length-map}
use Rattle.pyd_value.specs.declared.fault.Fault.{Fault}
use Rattle.pyd_value.specs.declared.fault.Kind.TheVariants.{NameError}
use Rattle.pyd_value.specs.declared.operator.Builtin.TheVariants as named
use Rattle.pyd_value.specs.Truth.{is_true}
use Rattle.pyd_tree.specs.declared.file.File.{File}
use Rattle.pyd_names.specs.Binding.{same_name, locals}
use Rattle.pyd_meaning.specs.declared.limits.Limits.{Limits}
use Rattle.pyd_meaning.specs.Evaluation.{Evaluation, settled, gives, go_on, ◌>>=◌}
use Rattle.pyd_meaning.specs.Names.{Names}
use Rattle.pyd_meaning.specs.Setting.{place_of, value_or}
use Rattle.pyd_meaning.specs.Expression.{branch}
use Rattle.pyd_meaning.specs.Calls.{builtin_called}
use Rattle.pyd_meaning.specs.Completion.{Completion, Normal, Break, Continue, Return, Reached}
use Rattle.pyd_meaning.specs.Module.{call_at}
use Rattle.pyd_ir.specs.declared.arg.Arg.{Arg}
use Rattle.pyd_ir.specs.declared.arg.Ref.{Ref}
use Rattle.pyd_ir.specs.declared.arg.Arg.TheVariants.{Known, From, Slot, Unbound}
use Rattle.pyd_ir.specs.declared.node.Node.{Node}
use Rattle.pyd_ir.specs.declared.work.Frame.{Frame}
use Rattle.pyd_ir.specs.declared.work.Frame.TheVariants.{After, Again}
use Rattle.pyd_ir.specs.declared.work.Side.{Side}
use Rattle.pyd_ir.specs.declared.work.Side.TheVariants as side
use Rattle.pyd_ir.specs.declared.work.Work.{Work}
use Rattle.pyd_ir.specs.declared.work.Work.TheVariants.{Op, Read, Call, Stop, Print, Run, Cond, While, For, Pick, Enter}
use Rattle.pyd_ir.specs.Arguments.{arguments, rest_arguments, side_arguments}
use Rattle.pyd_ir.specs.Inputs.{Given, both, value_of, values_of, work_meaning}
use Rattle.pyd_ir.specs.Ports.{Ports, only_port, ports_of}
use Rattle.pyd_ir.specs.Operation.{operation}
use Rattle.pyd_translate.specs.Compounds.{compound_at, line_at}
use Rattle.pyd_translate.specs.Slots.{arg_of}
use Rattle.pyd_scope.specs.Numbering.{expression_table}
use Rattle.pyd_translate.specs.Walk.{names_of, give, slot_values, if_there, count_leaf, count_composite, again, behind_at, rested, side_meaning, numbered_left, slot_names, ported_meaning, from_arm, from_turn, here, work_ports, walk}
use Rattle.pyd_refine.specs.Redirecting.{image, redirect, redirect_all, redirect_frame, redirect_rest, redirect_side, redirect_work, redirect_node}
use Rattle.pyd_translate.specs.Naming.{Numbers, IsAmong, AreAmong}
use Rattle.pyd_refine.specs.Ordering.{and_one, IsOrdered}
use Rattle.pyd_refine.specs.Readiness.{EndAlike}
use Rattle.pyd_refine.proofs.Ordering.{second-true, one-true, not-true, test-equal, known-apart, all-more, among-left, among-right}
use Rattle.pyd_refine.proofs.Redirecting.{image-among, one-more-back}

-- two evaluations print, end and count alike
pub record GoAlike {A B : Type 0} (e : Evaluation A) (m : Evaluation B) : Type 0 where
  pub lines : e.lines ≡ m.lines
  pub ends : EndAlike e.result m.result
  pub steps : e.steps ≡ m.steps

go-alike : {A B C : Type 0} (lines : List (List ℕ)) (steps : ℕ) (r : Result A Fault)
    (f : A → Evaluation B) (g : A → Evaluation C) → ((x : A) → GoAlike (f x) (g x))
    → GoAlike (go_on lines steps r f) (go_on lines steps r g)
go-alike lines steps (Ok x) f g on = record {
  lines = ap (λ l. lines ++ l) (on x).lines;
  ends = (on x).ends;
  steps = ap (λ n. steps + n) (on x).steps;
}
go-alike lines steps (Err e) f g on = record { lines = refl; ends = refl; steps = refl }

-- what goes on alike
then-alike : {A B C : Type 0} (e : Evaluation A) (f : A → Evaluation B) (g : A → Evaluation C)
    → ((x : A) → GoAlike (f x) (g x)) → GoAlike (e >>= f) (e >>= g)
unfolding ◌>>=◌
then-alike e f g on = go-alike e.lines e.steps e.result f g on

-- the ports of another node
give-other : (n m port : ℕ) (new : Ports) (given : Given) → nat_eq m n ≡ false → give n new given m port ≡ given m port
give-other n m port new given e = ap (λ t. (if t then new else given m) port) e

-- the ports of the node itself
give-same : (n m port : ℕ) (new : Ports) (given : Given) → nat_eq m n ≡ true → give n new given m port ≡ new port
give-same n m port new given e = ap (λ t. (if t then new else given m) port) e

-- an argument that names another node has what it had
pub give-apart : (known : Numbers) (n : ℕ) (new : Ports) (given : Given) (a : Arg)
    → known n ≡ false → IsAmong known a → value_of (give n new given) a ≡ value_of given a
give-apart known n new given (Known v) q p = refl
give-apart known n new given (From r) q p = give-other n r.node r.port new given (known-apart known r.node n p q)
give-apart known n new given (Slot r) q p = give-other n r.node r.port new given (known-apart known r.node n p q)
give-apart known n new given Unbound q p = refl

module _ (id : ℕ) (ports : List Arg) where
  -- what is known has the same value where the ports of node id are given as where others stand in their place
  abbrev pub StandsFor : Numbers → Given → Given → Type 0
  StandsFor known given instead =
      (a : Arg) → IsAmong known a → value_of instead (redirect id ports a) ≡ value_of given a

  module _ (known : Numbers) (given instead : Given) (same : StandsFor known given instead) where
    -- values of arguments
    values-same : (args : List Arg) → AreAmong known args
        → values_of instead (redirect_all id ports args) ≡ values_of given args
    values-same [] p = refl
    values-same (a ∷ args) p = λ i. both (same a p.0 i) (values-same args p.1 i)

    if-among : (t : Bool) (a b : Arg) → IsAmong known a → IsAmong known b → IsAmong known (if t then a else b)
    if-among true a b p q = p
    if-among false a b p q = q

    slot-among : (slots : List (List ℕ)) (env : List Arg) (x : List ℕ) → AreAmong known env → IsAmong known (arg_of slots env x)
    slot-among [] env x p = tt
    slot-among (s ∷ ss) [] x p = tt
    slot-among (s ∷ ss) (a ∷ env) x p =
        if-among (same_name x s) a (arg_of ss env x) p.0 (slot-among ss env x p.1)

    if-redirect : (t : Bool) (a b c : Arg) → c ≡ redirect id ports b
        → (if t then redirect id ports a else c) ≡ redirect id ports (if t then a else b)
    if-redirect true a b c e = refl
    if-redirect false a b c e = e

    slot-redirects : (slots : List (List ℕ)) (env : List Arg) (x : List ℕ)
        → arg_of slots (redirect_all id ports env) x ≡ redirect id ports (arg_of slots env x)
    slot-redirects [] env x = refl
    slot-redirects (s ∷ ss) [] x = refl
    slot-redirects (s ∷ ss) (a ∷ env) x =
        if-redirect (same_name x s) a (arg_of ss env x) (arg_of ss (redirect_all id ports env) x) (slot-redirects ss env x)

    -- the names in slots
    names-same : (slots : List (List ℕ)) (env : List Arg) → AreAmong known env
        → names_of slots (redirect_all id ports env) instead ≡ names_of slots env given
    names-same slots env p =
        λ i x. (ap (value_of instead) (slot-redirects slots env x) ∙ same (arg_of slots env x) (slot-among slots env x p)) i

    module _ (file : File) (limits : Limits) where
      -- a leaf
      leaf-same : (line depth : ℕ) (w : Work) → AreAmong known (arguments w)
          → (count_leaf (if_there (work_meaning file limits instead line depth (redirect_work id ports w)) line (λ e. e))
          >>= (λ v. gives (ports_of (redirect_work id ports w) v)))
          ≡ (count_leaf (if_there (work_meaning file limits given line depth w) line (λ e. e))
          >>= (λ v. gives (ports_of w v)))
      leaf-same line depth (Op op args) p =
          λ i. count_leaf (if_there (option_map (λ vs. settled (operation op vs line)) (values-same args p i)) line (λ e. e))
          >>= (λ v. gives (ports_of (Op op args) v))
      leaf-same line depth (Read arg kind) p =
          λ i. count_leaf (if_there (Some (value_or (same arg p.0 i) kind (place_of line))) line (λ e. e))
          >>= (λ v. gives (only_port v))
      leaf-same line depth (Call func args) p =
          λ i. count_leaf (if_there (option_map (λ vs. call_at file limits (suc depth) func vs line) (values-same args p i)) line (λ e. e))
          >>= (λ v. gives (only_port v))
      leaf-same line depth (Stop fault) p = refl
      leaf-same line depth (Print args) p =
          λ i. count_leaf (if_there (option_map (λ vs. builtin_called named.Print vs line) (values-same args p i)) line (λ e. e))
          >>= (λ v. gives (only_port v))
      leaf-same line depth (Run func args) p =
          λ i. count_leaf (if_there (option_map (λ vs. call_at file limits (suc depth) func vs line) (values-same args p i)) line (λ e. e))
          >>= (λ v. gives (only_port v))
      leaf-same line depth (Cond test k arm rest env) p = refl
      leaf-same line depth (While test k turns rest env) p = refl
      leaf-same line depth (For over k turns rest env) p = refl
      leaf-same line depth (Pick test first second env) p = refl
      leaf-same line depth (Enter func args) p = refl

      module _ (routine depth : ℕ) where
        -- a side
        side-same : (s : Side) → AreAmong known (side_arguments s)
            → side_meaning file limits routine depth instead (redirect_side id ports s)
            ≡ side_meaning file limits routine depth given s
        side-same (side.Arg a) p = λ i at names. value_or (same a p.0 i) NameError at
        side-same (side.Expr k) p = refl
        side-same (side.Tail k m left) p =
            λ i at names. numbered_left (here file limits routine depth)
            (slice_get (expression_table file routine) k) m (same left p.0 i) at names

        -- a rest
        rest-same : (rest : List Frame) → AreAmong known (rest_arguments rest) → (c : Completion) (names : Names)
            → rested file limits routine depth instead (redirect_rest id ports rest) c names
            ≡ rested file limits routine depth given rest c names
        unfolding rested
        rest-same [] p Normal names = refl
        rest-same [] p Break names = refl
        rest-same [] p Continue names = refl
        rest-same [] p (Return v) names = refl
        rest-same (After k ∷ rest) p Normal names =
            λ i. behind_at file limits routine depth k names >>= (λ r. rest-same rest p r.completion r.names i)
        rest-same (After k ∷ rest) p Break names = rest-same rest p Break names
        rest-same (After k ∷ rest) p Continue names = rest-same rest p Continue names
        rest-same (After k ∷ rest) p (Return v) names = refl
        rest-same (Again k turns over ∷ rest) p Normal names =
            λ i. again (here file limits routine depth) (compound_at file routine k) (line_at file routine k) turns (same over p.0 i) names
            >>= (λ r. rest-same rest p.1 r.completion r.names i)
        rest-same (Again k turns over ∷ rest) p Break names = rest-same rest p.1 Normal names
        rest-same (Again k turns over ∷ rest) p Continue names =
            λ i. again (here file limits routine depth) (compound_at file routine k) (line_at file routine k) turns (same over p.0 i) names
            >>= (λ r. rest-same rest p.1 r.completion r.names i)
        rest-same (Again k turns over ∷ rest) p (Return v) names = refl

        -- a statement that was gone on with from the same names
        ported-same : (m : Names → Evaluation Reached) (rest : List Frame) (env : List Arg)
            → AreAmong known (rest_arguments rest ++ env)
            → ported_meaning file limits routine depth
            (m (slot_names file limits routine depth (redirect_all id ports env) instead)) instead (redirect_rest id ports rest)
            ≡ ported_meaning file limits routine depth (m (slot_names file limits routine depth env given)) given rest
        ported-same m rest env p =
            λ i. count_composite (length-map rest (redirect_frame id ports) i)
            (m (names-same (locals file routine) env (among-right known (rest_arguments rest) env p) i)
            >>= (λ r. rest-same rest (among-left known (rest_arguments rest) env p) r.completion r.names i)
            >>= (λ fin. gives (slot_values (locals file routine) fin.names fin.value)))

      -- a node's work
      pub work-same : (w : Work) (n : Node) → AreAmong known (arguments n.work) → AreAmong known (arguments w)
          → work_ports file limits (redirect_work id ports w) (redirect_node id ports n) instead
          ≡ work_ports file limits w n given
      work-same (Op op args) n p q = leaf-same n.line n.depth n.work p
      work-same (Read arg kind) n p q = leaf-same n.line n.depth n.work p
      work-same (Call func args) n p q = leaf-same n.line n.depth n.work p
      work-same (Stop fault) n p q = leaf-same n.line n.depth n.work p
      work-same (Print args) n p q = leaf-same n.line n.depth n.work p
      work-same (Run func args) n p q = leaf-same n.line n.depth n.work p
      work-same (Cond test k arm rest env) n p q =
          λ i. if_there (same test q.0 i) n.line
          (λ v. ported-same n.routine n.depth (from_arm (here file limits n.routine n.depth) (compound_at file n.routine k) arm v) rest env q.1 i)
      work-same (While test k turns rest env) n p q =
          λ i. if_there (same test q.0 i) n.line
          (λ v. ported-same n.routine n.depth (from_turn (here file limits n.routine n.depth) (compound_at file n.routine k) (line_at file n.routine k) turns v) rest env q.1 i)
      work-same (For over k turns rest env) n p q =
          λ i. if_there (same over q.0 i) n.line
          (λ v. ported-same n.routine n.depth (from_turn (here file limits n.routine n.depth) (compound_at file n.routine k) (line_at file n.routine k) turns v) rest env q.1 i)
      work-same (Pick test first second env) n p q =
          let firsts = among-left known (side_arguments first) (side_arguments second ++ env) q.1 in
          let others = among-right known (side_arguments first) (side_arguments second ++ env) q.1 in
          let seconds = among-left known (side_arguments second) env others in
          let slots = among-right known (side_arguments second) env others in
          λ i. if_there (same test q.0 i) n.line (λ v.
          count_composite 0 (branch (is_true v)
          (side-same n.routine n.depth first firsts i (place_of n.line))
          (side-same n.routine n.depth second seconds i (place_of n.line))
          (names-same (locals file n.routine) env slots i) >>= (λ u. gives (only_port u))))
      work-same (Enter func args) n p q =
          λ i. if_there (values-same args q i) n.line (λ vs.
          count_composite 0 ((here file limits n.routine n.depth).calls func vs n.line
          >>= (λ u. gives (only_port u))))

  -- a node that is given on both sides, and that nothing in the place of the ports names
  pub give-stands : (known more : Numbers) (n : ℕ) (new : Ports) (given instead : Given)
      → nat_eq n id ≡ false → more n ≡ false → AreAmong more ports → StandsFor known given instead
      → StandsFor (and_one known n) (give n new given) (give n new instead)
  give-stands known more n new given instead apart fresh images same a p = go a p
    where
      unnamed : (r : Ref) (c : Arg) (t u : Bool) → nat_eq r.node id ≡ t → nat_eq r.node n ≡ u
          → ((g : Given) → value_of g c ≡ g r.node r.port)
          → (nat_eq r.node n ≡ true) ⊎ (known r.node ≡ true)
          → ((known r.node ≡ true) → value_of instead (if t then image ports r.port else c) ≡ given r.node r.port)
          → value_of (give n new instead) (if t then image ports r.port else c) ≡ give n new given r.node r.port
      unnamed r c true true e f v p s =
          absurd (cc (sym e ∙ ap (λ m. nat_eq m id) (test-equal r.node n f) ∙ apart))
      unnamed r c false true e f v p s =
          v (give n new instead) ∙ give-same n r.node r.port new instead f ∙ sym (give-same n r.node r.port new given f)
      unnamed r c true false e f v p s =
          give-apart more n new instead (image ports r.port) fresh (image-among more ports r.port images)
          ∙ s (old p) ∙ sym (give-other n r.node r.port new given f)
        where
          old : (nat_eq r.node n ≡ true) ⊎ (known r.node ≡ true) → known r.node ≡ true
          old (inl g) = absurd (cc (sym g ∙ f))
          old (inr g) = g
      unnamed r c false false e f v p s =
          v (give n new instead) ∙ give-other n r.node r.port new instead f
          ∙ sym (v instead) ∙ s (old p) ∙ sym (give-other n r.node r.port new given f)
        where
          old : (nat_eq r.node n ≡ true) ⊎ (known r.node ≡ true) → known r.node ≡ true
          old (inl g) = absurd (cc (sym g ∙ f))
          old (inr g) = g

      go : (a : Arg) → IsAmong (and_one known n) a
          → value_of (give n new instead) (redirect id ports a) ≡ value_of (give n new given) a
      go (Known v) p = refl
      go (From r) p =
          unnamed r (From r) (nat_eq r.node id) (nat_eq r.node n) refl refl (λ g. refl)
          (one-true (nat_eq r.node n) (known r.node) p) (λ q. same (From r) q)
      go (Slot r) p =
          unnamed r (Slot r) (nat_eq r.node id) (nat_eq r.node n) refl refl (λ g. refl)
          (one-true (nat_eq r.node n) (known r.node) p) (λ q. same (Slot r) q)
      go Unbound p = refl

  -- later nodes do the same
  pub later-same : (file : File) (limits : Limits) (known more : Numbers) (low : ℕ) (ns : List Node)
      (given instead : Given)
      → known id ≡ true → ((m : ℕ) → m < low → known m ≡ false → more m ≡ false)
      → AreAmong more ports → IsOrdered known low ns → StandsFor known given instead
      → GoAlike (walk file limits (map (redirect_node id ports) ns) instead) (walk file limits ns given)
  unfolding walk settled
  later-same file limits known more low [] given instead own back images o same =
      record { lines = refl; ends = tt; steps = refl }
  later-same file limits known more low (n ∷ ns) given instead own back images o same =
      let fresh = back n.id o.0 o.1 in
      subst (λ e. GoAlike
      (e >>= (λ new. walk file limits (map (redirect_node id ports) ns) (give n.id new instead)))
      (work_ports file limits n.work n given >>= (λ new. walk file limits ns (give n.id new given))))
      (sym (work-same known given instead same file limits n.work n o.2 o.2))
      (then-alike (work_ports file limits n.work n given) _ _ (λ new.
      later-same file limits (and_one known n.id) (and_one more n.id) low ns
      (give n.id new given) (give n.id new instead)
      (second-true (nat_eq id n.id) (known id) own)
      (one-more-back id ports known more low n.id back)
      (all-more more (and_one more n.id) (λ m p. second-true (nat_eq m n.id) (more m) p) ports images)
      o.3
      (give-stands known more n.id new given instead (other n.id id o.1 own) fresh images same)))
    where
      other : (m i : ℕ) → known m ≡ false → known i ≡ true → nat_eq m i ≡ false
      other m i p q = not-true (nat_eq m i) (λ e. cc (sym q ∙ ap known (sym (test-equal m i e)) ∙ p))
