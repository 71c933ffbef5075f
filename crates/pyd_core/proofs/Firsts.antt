-- The first composite that may be refined, by the places of nodes in a list.
use Rattle.std.proofs.Common.{◌≡◌, ◌<◌, ◌+◌, nat_lt, ℕ, zero, suc, pred, List, [], ◌∷◌, take, Bool, true, false, ◌&&◌, ◌||◌, cond, Option, Some, None, MatchOption, inl, inr, refl, ap, sym, subst, ◌∙◌, arith}
use Rattle.std.specs.List.{Contains, slice_get}
use Rattle.std.proofs.lemmas.Bool.Decides.{nat_tests}
use Rattle.pyd_ir.specs.declared.node.Node.{Node}
use Rattle.pyd_ir.specs.Inputs.{Given}
use Rattle.pyd_runs.specs.Deciding.{RefineTestLaw, is_refinable, is_within, may_refine}
use Rattle.pyd_runs.specs.Effects.{State}
use Rattle.pyd_runs.specs.Enabled.{CanRefine}
use Rattle.pyd_runs.specs.Laws.{RunLaw}
use Rattle.pyd_runs.specs.Plans.{Plan}
use Rattle.pyd_runs.specs.Records.{node_at, recorded}
use Rattle.pyd_runs.specs.Sound.{IsSound, is_over}
use Rattle.pyd_runs.proofs.InOrder.{true_or_false}
use Rattle.pyd_runs.proofs.Putting.{other_test, same_test}
use Rattle.pyd_runs.proofs.Standing.{AreApart, list_apart, node_found}
use Rattle.pyd_runs.proofs.Without.{fresh_apart}
use Rattle.pyd_desk.specs.Lines.{chain_of}
use Rattle.pyd_desk.specs.Reading.{given_of}
use Rattle.pyd_core.specs.declared.keeper.Core.{Core}
use Rattle.pyd_core.specs.Cores.{IsCore, plan_of, state_of}
use Rattle.pyd_core.specs.Refining.{IsFirstRefinable, NoneRefinable, first_place_from}

-- what stands at a place of a list stands in it
place_in : (ns : List Node) (b : ℕ) (n : Node) → slice_get ns b ≡ Some n → Contains ns n
place_in [] b n e = absurd (cc (e))
place_in (x ∷ ns) zero n e = let same : x ≡ n = cc (e) in (0, omega arith, same)
place_in (x ∷ ns) (suc b) n e =
    let r = place_in ns b n e in (suc r.0, (let w = r.1 in omega (arith, w)), r.2)

-- and the other way round
in_place : (ns : List Node) (n : Node) → Contains ns n
    → (b : ℕ) × (slice_get ns b ≡ Some n)
in_place [] n at = absurd (let w = at.1 in omega (arith, w))
in_place (x ∷ ns) n (zero, within, is) = (0, ap (λ (y : Node). Some y) is)
in_place (x ∷ ns) n (suc k, within, is) =
    let r = in_place ns n (k, omega (arith, within), is) in (suc r.0, r.1)

-- the places of the first nodes of a list
taken_place : (w : ℕ) (ns : List Node) (b : ℕ) (n : Node) → slice_get (take w ns) b ≡ Some n
    → (b < w) × (slice_get ns b ≡ Some n)
taken_place zero ns b n e = absurd (cc (e))
taken_place (suc w) [] b n e = absurd (cc (e))
taken_place (suc w) (x ∷ ns) zero n e = (omega arith, e)
taken_place (suc w) (x ∷ ns) (suc b) n e =
    let r = taken_place w ns b n e in ((let l = r.0 in omega (arith, l)), r.1)

place_taken : (w : ℕ) (ns : List Node) (b : ℕ) (n : Node) → b < w → slice_get ns b ≡ Some n
    → slice_get (take w ns) b ≡ Some n
place_taken zero ns b n l e = absurd (omega (arith, l))
place_taken (suc w) [] b n l e = absurd (cc (e))
place_taken (suc w) (x ∷ ns) zero n l e = e
place_taken (suc w) (x ∷ ns) (suc b) n l e = place_taken w ns b n (omega (arith, l)) e

and_true : (b : Bool) → (b && true) ≡ b
and_true true = refl
and_true false = refl

-- the number of a node stands within a window as its place does
within_at : (ns : List Node) (b : ℕ) (n : Node) (w : ℕ) → AreApart ns → slice_get ns b ≡ Some n
    → is_within w n.id ns ≡ nat_lt b w
within_at [] b n w apart e = absurd (cc (e))
within_at (x ∷ ns) zero n w apart e =
    let same : x ≡ n = cc (e) in
    ap (λ t. nat_lt 0 w && (t || is_within (pred w) n.id ns))
    (same_test x.id n.id (ap (λ (y : Node). y.id) same))
    ∙ and_true (nat_lt 0 w)
within_at (x ∷ ns) (suc b) n w apart e =
    ap (λ t. nat_lt 0 w && (t || is_within (pred w) n.id ns))
    (other_test x.id n.id (λ z. fresh_apart x.id ns n apart.0 (place_in ns b n e) (sym z)))
    ∙ ap (λ t. nat_lt 0 w && t) (within_at ns b n (pred w) apart.1 e)
    ∙ one_less w b
  where
    one_less : (w b : ℕ) → (nat_lt 0 w && nat_lt b (pred w)) ≡ nat_lt (suc b) w
    one_less zero b = grind (arith, nat_tests)
    one_less (suc w) b = grind (arith, nat_tests)

-- where a choice gives nothing, it isn't the first that is chosen
none_chosen : (b : Bool) (k : ℕ) (o : Option ℕ) → cond b (Some k) o ≡ None
    → (b ≡ false) × (o ≡ None)
none_chosen true k o e = absurd (cc (e))
none_chosen false k o e = (refl, e)

-- no node passes where there is no first place
pub place_none : (test : Node → Bool) (k : ℕ) (ns : List Node)
    → first_place_from test k ns ≡ None → (b : ℕ) (n : Node) → slice_get ns b ≡ Some n
    → test n ≡ false
place_none test k [] none b n e = absurd (cc (e))
place_none test k (x ∷ ns) none zero n e =
    let same : x ≡ n = cc (e) in
    subst (λ (y : Node). test y ≡ false) same
    (none_chosen (test x) k (first_place_from test (suc k) ns) none).0
place_none test k (x ∷ ns) none (suc b) n e =
    place_none test (suc k) ns
    (none_chosen (test x) k (first_place_from test (suc k) ns) none).1 b n e

-- the node at a place passes, and none before it
pub record IsFirst (test : Node → Bool) (ns : List Node) (at : ℕ) : Type 0 where
  pub node : Node
  pub there : slice_get ns at ≡ Some node
  pub passes : test node ≡ true
  pub none_before : (b : ℕ) (n : Node) → b < at → slice_get ns b ≡ Some n → test n ≡ false

pub place_some : (test : Node → Bool) (k at : ℕ) (ns : List Node)
    → first_place_from test k ns ≡ Some at → (b : ℕ) × (at ≡ k + b) × IsFirst test ns b
place_some test k at [] e = absurd (cc (e))
place_some test k at (x ∷ ns) e = elim (true_or_false (test x)) [
  | inl is ↦
      let z : Some k ≡ Some at
      = sym (ap (λ t. cond t (Some k) (first_place_from test (suc k) ns)) is) ∙ e in
      let same : k ≡ at = cc (z) in (
        0,
        omega (arith, same),
        record {
          node = x;
          there = refl;
          passes = is;
          none_before = λ b n low. absurd (omega (arith, low));
        },
      )
  | inr not ↦
      let r = place_some test (suc k) at ns
      (sym (ap (λ t. cond t (Some k) (first_place_from test (suc k) ns)) not) ∙ e) in
      let count = r.1 in (
        suc r.0,
        omega (arith, count),
        record {
          node = r.2.node;
          there = r.2.there;
          passes = r.2.passes;
          none_before = before not r.0 r.2.none_before;
        },
      )
]
  where
    before : test x ≡ false → (at : ℕ)
        → ((b : ℕ) (n : Node) → b < at → slice_get ns b ≡ Some n → test n ≡ false)
        → (b : ℕ) (n : Node) → b < suc at → slice_get (x ∷ ns) b ≡ Some n → test n ≡ false
    before not at rest zero n low e =
        let same : x ≡ n = cc (e) in subst (λ (y : Node). test y ≡ false) same not
    before not at rest (suc b) n low e = rest b n (omega (arith, low)) e

module _ (runs : RunLaw) (law : RefineTestLaw) (c : Core) (core : IsCore c)
    (same : recorded (state_of c).graph (state_of c).desk.stores ≡ given_of c.desk) where
  abbrev p : Plan
  p = plan_of c

  abbrev s : State
  s = state_of c

  abbrev chain : List Node
  chain = chain_of c.line

  abbrev test : Node → Bool
  test n = is_refinable (given_of c.desk) (Some n)

  sound : IsSound p s
  sound = runs p c.log.journal.items core.runnable core.legal

  chain_apart : AreApart chain
  chain_apart =
      subst AreApart core.tied.state.graph.chain
      (list_apart (is_over s.graph) s.graph.next s.graph.chain sound.graph.listed)

  -- a node at a place may be refined where it passes the test and its place lies within the window
  tested : (b : ℕ) (n : Node) → slice_get chain b ≡ Some n
      → may_refine p s n.id ≡ (test n && nat_lt b p.setup.window)
  tested b n e =
      ap (λ (ns : List Node). is_refinable (recorded s.graph s.desk.stores) (node_at ns n.id)
      && is_within p.setup.window n.id ns) core.tied.state.graph.chain
      ∙ ap (λ (given : Given). is_refinable given (node_at chain n.id)
      && is_within p.setup.window n.id chain) same
      ∙ ap (λ o. is_refinable (given_of c.desk) o && is_within p.setup.window n.id chain)
      (node_found chain n chain_apart (place_in chain b n e))
      ∙ ap (λ t. test n && t) (within_at chain b n p.setup.window chain_apart e)

  -- so what may be refined passes, and its place lies within the window
  may_parts : (b : ℕ) (n : Node) → slice_get chain b ≡ Some n → CanRefine p s n.id
      → (test n ≡ true) × (b < p.setup.window)
  may_parts b n e can =
      parts (test n) (sym (tested b n e) ∙ (law p s n.id sound).1 can)
    where
      parts : (t : Bool) → (t && nat_lt b p.setup.window) ≡ true
          → (t ≡ true) × (b < p.setup.window)
      parts true is = (refl, grind (arith, nat_tests, is))
      parts false is = absurd (cc (is))

  may_both : (b : ℕ) (n : Node) → slice_get chain b ≡ Some n → test n ≡ true
      → b < p.setup.window → CanRefine p s n.id
  may_both b n e is low =
      (law p s n.id sound).0
      (tested b n e ∙ ap (λ t. t && nat_lt b p.setup.window) is
      ∙ (grind (arith, nat_tests, low)))

  none_may : first_place_from test 0 (take p.setup.window chain) ≡ None → NoneRefinable c
  none_may none k can =
      let at = in_place chain can.node
      (subst (λ (ns : List Node). Contains ns can.node) core.tied.state.graph.chain can.stands) in
      let parts = may_parts at.0 can.node at.1 (subst (CanRefine p s) (sym can.number) can) in
      let not = place_none test 0 (take p.setup.window chain) none at.0 can.node
      (place_taken p.setup.window chain at.0 can.node parts.1 at.1) in
      let z : true ≡ false = sym parts.0 ∙ not in
      absurd (cc (z))

  first_may : (at : ℕ) → first_place_from test 0 (take p.setup.window chain) ≡ Some at
      → IsFirstRefinable c at
  first_may at some =
      let r = place_some test 0 at (take p.setup.window chain) some in
      let here : r.0 ≡ at = (let count = r.1 in omega (arith, count)) in
      subst (IsFirstRefinable c) here (first_here r.0 r.2)
    where
      first_here : (b : ℕ) → IsFirst test (take p.setup.window chain) b → IsFirstRefinable c b
      first_here b is =
          let there = taken_place p.setup.window chain b is.node is.there in record {
            is = record {
              node = is.node;
              there = there.1;
              may = may_both b is.node there.1 is.passes there.0;
            };
            none_before = λ j n low e can.
                let not = is.none_before j n low
                (place_taken p.setup.window chain j n (may_parts j n e can).1 e) in
                let z : true ≡ false = sym (may_parts j n e can).0 ∙ not in
                absurd (cc (z));
          }

  -- the place of the first that passes is that of the first that may be refined
  pub first_is : (r : Option ℕ) → r ≡ first_place_from test 0 (take p.setup.window chain)
      → MatchOption r (NoneRefinable c) (IsFirstRefinable c)
  first_is None e = none_may (sym e)
  first_is (Some at) e = first_may at (sym e)
