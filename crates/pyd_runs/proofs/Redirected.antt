-- Nodes behind a composite whose piece takes its place.
use Rattle.std.proofs.Common.{◌≡◌, ◌<◌, ◌≤◌, ◌==◌, nat_eq, ℕ, zero, suc, Bool, true, false, ◌||◌, if◌then◌else◌, List, [], ◌∷◌, ◌++◌, map, None, is_some, ◌⊎◌, inl, inr, refl, ap, sym, ◌∙◌, subst, arith}
use Rattle.std.specs.Prelude.{IsTrue}
use Rattle.std.specs.List.{Contains}
use Rattle.pyd_value.specs.declared.value.Value.{Value}
use Rattle.pyd_ir.specs.declared.arg.Arg.{Arg}
use Rattle.pyd_ir.specs.declared.arg.Arg.TheVariants.{Known, From, Slot, Unbound}
use Rattle.pyd_ir.specs.declared.node.Node.{Node}
use Rattle.pyd_ir.specs.declared.work.Work.{Work}
use Rattle.pyd_ir.specs.declared.work.Work.TheVariants.{Op, Read, Call, Stop, Print, Run, Cond, While, For, Pick, Enter}
use Rattle.pyd_ir.specs.Arguments.{is_pure, is_composite, arguments}
use Rattle.pyd_ir.specs.Inputs.{Given, has_value, may_be_read, have_values, has_inputs}
use Rattle.pyd_ir.specs.Ports.{ports_of}
use Rattle.pyd_translate.specs.Naming.{Numbers, IsAmong, AreAmong}
use Rattle.pyd_refine.specs.Redirecting.{image, redirect, redirect_all, redirect_node, redirect_work}
use Rattle.pyd_refine.specs.Ordering.{IsOrdered, and_one, and_nodes}
use Rattle.pyd_refine.specs.Laws.{AreFrom}
use Rattle.pyd_refine.proofs.Ordering.{all-more, one-true}
use Rattle.pyd_refine.proofs.Redirecting.{work-redirects}
use Rattle.pyd_runs.specs.Reach.{IsOf, AreOf, Names}
use Rattle.pyd_runs.specs.Sound.{IsFresh, stands}
use Rattle.pyd_runs.proofs.Putting.{same_test, test_same, none_apart}
use Rattle.pyd_runs.proofs.Readiness.{and_parts}
use Rattle.pyd_runs.proofs.Within.{some_there}
use Rattle.pyd_runs.proofs.Seeing.{or_second}
use Rattle.pyd_runs.proofs.Without.{first_or_behind, here, behind, stands_true}

module _ (id : ℕ) (images : List Arg) where
  -- a redirected node has the ports that it had
  pub redirected_ports : (w : Work) (v : Value)
      → ports_of (redirect_work id images w) v ≡ ports_of w v
  redirected_ports (Op op args) v = refl
  redirected_ports (Read arg kind) v = refl
  redirected_ports (Call func args) v = refl
  redirected_ports (Stop fault) v = refl
  redirected_ports (Print args) v = refl
  redirected_ports (Run func args) v = refl
  redirected_ports (Cond test stmt arm rest env) v = refl
  redirected_ports (While test stmt turns rest env) v = refl
  redirected_ports (For over stmt turns rest env) v = refl
  redirected_ports (Pick test first second env) v = refl
  redirected_ports (Enter func args) v = refl

  -- and is pure where it was
  pub redirected_pure : (w : Work) → is_pure (redirect_work id images w) ≡ is_pure w
  redirected_pure (Op op args) = refl
  redirected_pure (Read arg kind) = refl
  redirected_pure (Call func args) = refl
  redirected_pure (Stop fault) = refl
  redirected_pure (Print args) = refl
  redirected_pure (Run func args) = refl
  redirected_pure (Cond test stmt arm rest env) = refl
  redirected_pure (While test stmt turns rest env) = refl
  redirected_pure (For over stmt turns rest env) = refl
  redirected_pure (Pick test first second env) = refl
  redirected_pure (Enter func args) = refl

  -- what names another node is left as it is
  module _ (given : Given) (blank : (port : ℕ) → given id port ≡ None) where
    not_named : (k port : ℕ) → IsTrue (is_some (given k port)) → nat_eq k id ≡ false
    not_named k port e = by_test (nat_eq k id) refl
      where
        by_test : (b : Bool) → nat_eq k id ≡ b → nat_eq k id ≡ false
        by_test false t = t
        by_test true t =
            let v = some_there (given k port) e in
            absurd (none_apart (given id port) v.0 (blank port)
            (ap (λ i. given i port) (sym (test_same k id t)) ∙ v.1))

    arg_left : (a : Arg) → IsTrue (has_value given a) → redirect id images a ≡ a
    arg_left (Known v) e = refl
    arg_left (From r) e =
        ap (λ b. if b then image images r.port else From r) (not_named r.node r.port e)
    arg_left (Slot r) e =
        ap (λ b. if b then image images r.port else Slot r) (not_named r.node r.port e)
    arg_left Unbound e = refl

    read_left : (a : Arg) → IsTrue (may_be_read given a) → redirect id images a ≡ a
    read_left (Known v) e = refl
    read_left (From r) e =
        ap (λ b. if b then image images r.port else From r) (not_named r.node r.port e)
    read_left (Slot r) e =
        ap (λ b. if b then image images r.port else Slot r) (not_named r.node r.port e)
    read_left Unbound e = refl

    args_left : (args : List Arg) → IsTrue (have_values given args)
        → redirect_all id images args ≡ args
    args_left [] e = refl
    args_left (a ∷ args) e =
        let parts = and_parts (has_value given a) (have_values given args) e in
        ap (λ x. x ∷ redirect_all id images args) (arg_left a parts.0)
        ∙ ap (λ xs. a ∷ xs) (args_left args parts.1)

    -- so is a leaf whose inputs are there
    pub work_left : (w : Work) → is_composite w ≡ false → IsTrue (has_inputs given w)
        → redirect_work id images w ≡ w
    work_left (Op op args) c e = ap (Op op) (args_left args e)
    work_left (Read arg kind) c e = ap (λ a. Read a kind) (read_left arg e)
    work_left (Call func args) c e = ap (Call func) (args_left args e)
    work_left (Stop fault) c e = refl
    work_left (Print args) c e = ap Print (args_left args e)
    work_left (Run func args) c e = ap (Run func) (args_left args e)
    work_left (Cond test stmt arm rest env) c e = absurd (cc (c))
    work_left (While test stmt turns rest env) c e = absurd (cc (c))
    work_left (For over stmt turns rest env) c e = absurd (cc (c))
    work_left (Pick test first second env) c e = absurd (cc (c))
    work_left (Enter func args) c e = absurd (cc (c))

    pub node_left : (n : Node) → is_composite n.work ≡ false → IsTrue (has_inputs given n.work)
        → redirect_node id images n ≡ n
    node_left n c e =
        ap (λ (w : Work). record { id = n.id; line = n.line; depth = n.depth; routine = n.routine; work = w })
        (work_left n.work c e)

  -- what stands in the place of a port is one of the images
  image_named : (ports : List Arg) (port j : ℕ) → IsOf j (image ports port) → AreOf j ports
  image_named [] port j of = of
  image_named (a ∷ ports) zero j of = inl of
  image_named (a ∷ ports) (suc port) j of = inr (image_named ports port j of)

  of_either : (b : Bool) (a : Arg) (port j : ℕ) → IsOf j (if b then image images port else a)
      → IsOf j a ⊎ AreOf j images
  of_either true a port j of = inr (image_named images port j of)
  of_either false a port j of = inl of

  -- a redirected argument names what it named, or what an image names
  arg_names : (a : Arg) (j : ℕ) → IsOf j (redirect id images a) → IsOf j a ⊎ AreOf j images
  arg_names (Known v) j of = absurd of
  arg_names (From r) j of = of_either (nat_eq r.node id) (From r) r.port j of
  arg_names (Slot r) j of = of_either (nat_eq r.node id) (Slot r) r.port j of
  arg_names Unbound j of = absurd of

  args_names : (args : List Arg) (j : ℕ) → AreOf j (redirect_all id images args)
      → AreOf j args ⊎ AreOf j images
  args_names [] j of = absurd of
  args_names (a ∷ args) j (inl of) = elim (arg_names a j of) [
    | inl own ↦ inl (inl own)
    | inr new ↦ inr new
  ]
  args_names (a ∷ args) j (inr of) = elim (args_names args j of) [
    | inl own ↦ inl (inr own)
    | inr new ↦ inr new
  ]

  pub redirected_names : (n : Node) (j : ℕ) → Names (redirect_node id images n) j
      → Names n j ⊎ AreOf j images
  redirected_names n j names =
      args_names (arguments n.work) j
      (subst (AreOf j) (work-redirects id images n.work) names)

  -- the numbers are those of before
  pub map_fresh : (ns : List Node) (k : ℕ) → IsFresh k ns
      → IsFresh k (map (redirect_node id images) ns)
  map_fresh [] k fresh = tt
  map_fresh (n ∷ ns) k fresh = (fresh.0, map_fresh ns k fresh.1)

  pub fresh_map : (ns : List Node) (k : ℕ) → IsFresh k (map (redirect_node id images) ns)
      → IsFresh k ns
  fresh_map [] k fresh = tt
  fresh_map (n ∷ ns) k fresh = (fresh.0, fresh_map ns k fresh.1)

  pub map_stands : (ns : List Node) (k : ℕ)
      → stands k (map (redirect_node id images) ns) ≡ stands k ns
  map_stands [] k = refl
  map_stands (n ∷ ns) k = ap (λ b. (n.id == k) || b) (map_stands ns k)

  -- each is one of before, redirected
  pub map_from : (ns : List Node) (x : Node) → Contains (map (redirect_node id images) ns) x
      → (n : Node) × Contains ns n × (redirect_node id images n ≡ x)
  map_from [] x at = absurd (omega (arith, at.1))
  map_from (n ∷ ns) x at =
      elim (first_or_behind (redirect_node id images n) (map (redirect_node id images) ns) x at) [
        | inl is ↦ (n, here n ns, is)
        | inr later ↦
            let r = map_from ns x later in (r.0, behind n ns r.0 r.1, r.2)
      ]

  pub map_to : (ns : List Node) (n : Node) → Contains ns n
      → Contains (map (redirect_node id images) ns) (redirect_node id images n)
  map_to [] n at = absurd (omega (arith, at.1))
  map_to (x ∷ ns) n at = elim (first_or_behind x ns n at) [
    | inl is ↦ subst (λ (y : Node).
        Contains (redirect_node id images x ∷ map (redirect_node id images) ns) (redirect_node id images y)) is
        (here (redirect_node id images x) (map (redirect_node id images) ns))
    | inr later ↦ behind (redirect_node id images x) (map (redirect_node id images) ns)
        (redirect_node id images n) (map_to ns n later)
  ]

-- new nodes have no lower number
pub from_fresh : (low : ℕ) (ns : List Node) (k : ℕ) → AreFrom low ns → k < low → IsFresh k ns
from_fresh low [] k from less = tt
from_fresh low (n ∷ ns) k from less =
    ((λ z. let le = from.0 in absurd (omega (arith, z, le, less))), from_fresh low ns k from.1 less)

pub from_high : (low : ℕ) (ns : List Node) (x : Node) → AreFrom low ns → Contains ns x
    → low ≤ x.id
from_high low [] x from at = absurd (omega (arith, at.1))
from_high low (n ∷ ns) x from at = elim (first_or_behind n ns x at) [
  | inl is ↦ subst (λ (y : Node). low ≤ y.id) is from.0
  | inr later ↦ from_high low ns x from.1 later
]

-- which numbers arguments name
abbrev pub arg_named : Arg → Numbers
arg_named (Known v) m = false
arg_named (From r) m = nat_eq r.node m
arg_named (Slot r) m = nat_eq r.node m
arg_named Unbound m = false

abbrev pub named : List Arg → Numbers
named [] m = false
named (a ∷ args) m = arg_named a m || named args m

arg_among : (a : Arg) → IsAmong (arg_named a) a
arg_among (Known v) = tt
arg_among (From r) = same_test r.node r.node refl
arg_among (Slot r) = same_test r.node r.node refl
arg_among Unbound = tt

among_either : (f h : Numbers) (a : Arg) → IsAmong f a → IsAmong (λ m. f m || h m) a
among_either f h (Known v) is = tt
among_either f h (From r) is = ap (λ b. b || h r.node) is
among_either f h (Slot r) is = ap (λ b. b || h r.node) is
among_either f h Unbound is = tt

-- they are among them
pub among_named : (args : List Arg) → AreAmong (named args) args
among_named [] = tt
among_named (a ∷ args) = (
  among_either (arg_named a) (named args) a (arg_among a),
  all-more (named args) (named (a ∷ args)) (λ m. or_second (arg_named a m) (named args m))
      args (among_named args),
)

arg_of : (a : Arg) (m : ℕ) → arg_named a m ≡ true → IsOf m a
arg_of (Known v) m e = absurd (cc (e))
arg_of (From r) m e = test_same r.node m e
arg_of (Slot r) m e = test_same r.node m e
arg_of Unbound m e = absurd (cc (e))

-- and no others
pub named_of : (args : List Arg) (m : ℕ) → named args m ≡ true → AreOf m args
named_of [] m e = absurd (cc (e))
named_of (a ∷ args) m e = elim (one-true (arg_named a m) (named args m) e) [
  | inl first ↦ inl (arg_of a m first)
  | inr more ↦ inr (named_of args m more)
]

-- an argument among some names one of them
one_of : (known : Numbers) (a : Arg) (j : ℕ) → IsAmong known a → IsOf j a → known j ≡ true
one_of known (Known v) j among of = absurd of
one_of known (From r) j among of = ap known (sym of) ∙ among
one_of known (Slot r) j among of = ap known (sym of) ∙ among
one_of known Unbound j among of = absurd of

pub some_of : (known : Numbers) (args : List Arg) (j : ℕ) → AreAmong known args → AreOf j args
    → known j ≡ true
some_of known [] j among of = absurd of
some_of known (a ∷ args) j among (inl of) = one_of known a j among.0 of
some_of known (a ∷ args) j among (inr of) = some_of known args j among.1 of

-- what is known with nodes is known, or stands among them
pub known_or_stands : (known : Numbers) (ns : List Node) (j : ℕ) → and_nodes known ns j ≡ true
    → (known j ≡ true) ⊎ (stands j ns ≡ true)
known_or_stands known [] j e = inl e
known_or_stands known (n ∷ ns) j e = elim (known_or_stands (and_one known n.id) ns j e) [
  | inr later ↦ inr (or_second (n.id == j) (stands j ns) later)
  | inl one ↦ elim (one-true (nat_eq j n.id) (known j) one) [
    | inl is ↦ inr (stands_true j (n ∷ ns) n (here n ns) (sym (test_same j n.id is)))
    | inr old ↦ inl old
  ]
]

-- what a node of a list in order names is known, or stands in the list
pub order_names : (known : Numbers) (next : ℕ) (ns : List Node) (x : Node) (j : ℕ)
    → IsOrdered known next ns → Contains ns x → Names x j
    → (known j ≡ true) ⊎ (stands j ns ≡ true)
order_names known next [] x j o at names = absurd (omega (arith, at.1))
order_names known next (n ∷ ns) x j o at names = elim (first_or_behind n ns x at) [
  | inl is ↦ inl (some_of known (arguments n.work) j o.2
      (subst (λ (y : Node). Names y j) (sym is) names))
  | inr later ↦ elim (order_names (and_one known n.id) next ns x j o.3 later names) [
    | inr there ↦ inr (or_second (n.id == j) (stands j ns) there)
    | inl one ↦ elim (one-true (nat_eq j n.id) (known j) one) [
      | inl is ↦ inr (stands_true j (n ∷ ns) n (here n ns) (sym (test_same j n.id is)))
      | inr old ↦ inl old
    ]
  ]
]

-- a list is split where a node stands
pub split_at : (ns : List Node) (x : Node) → Contains ns x
    → (before after : List Node) × (ns ≡ before ++ x ∷ after)
split_at [] x at = absurd (omega (arith, at.1))
split_at (n ∷ ns) x at = elim (first_or_behind n ns x at) [
  | inl is ↦ ([], ns, ap (λ (y : Node). y ∷ ns) is)
  | inr later ↦
      let r = split_at ns x later in (n ∷ r.0, r.1, ap (λ ys. n ∷ ys) r.2)
]
