-- The graph whose head was settled with a value: a pure node goes to the past, an effect goes.
use Rattle.std.proofs.Common.{◌≡◌, ◌≢◌, ℕ, suc, Bool, true, false, not, ◌&&◌, ◌||◌, List, [], ◌∷◌, ◌++◌, Option, Some, is_some, ◌⊎◌, inl, inr, refl, ap, sym, ◌∙◌, subst}
use Rattle.std.specs.List.{All, Contains}
use Rattle.std.proofs.lemmas.List.Elements.{All-contains, All-weaker, All-push, All-contains_itself, Contains-append_left, Contains-append_right, Contains-append_cases, Contains-push_cases}
use Rattle.pyd_value.specs.declared.value.Value.{Value}
use Rattle.pyd_value.specs.declared.fault.Outcome.TheVariants as outcome
use Rattle.pyd_meaning.specs.declared.ran.Ran.{Ran}
use Rattle.pyd_meaning.specs.Evaluation.{Evaluation}
use Rattle.pyd_ir.specs.declared.arg.Arg.{Arg}
use Rattle.pyd_ir.specs.declared.arg.Arg.TheVariants.{Known, From, Slot, Unbound}
use Rattle.pyd_ir.specs.declared.node.Node.{Node}
use Rattle.pyd_ir.specs.declared.work.Work.{Work}
use Rattle.pyd_ir.specs.declared.work.Work.TheVariants.{Op, Read, Call, Stop, Print, Run, Cond, While, For, Pick, Enter}
use Rattle.pyd_ir.specs.Arguments.{is_pure, is_composite, arguments}
use Rattle.pyd_ir.specs.Inputs.{has_inputs, leaf_meaning}
use Rattle.pyd_ir.specs.Ports.{Ports, ports_of}
use Rattle.pyd_translate.specs.Naming.{Numbers, AreAmong}
use Rattle.pyd_runs.specs.Plans.{Plan, limits_of}
use Rattle.pyd_runs.specs.Graphs.{Graph, nodes}
use Rattle.pyd_runs.specs.Desks.{put_at}
use Rattle.pyd_runs.specs.Reach.{Reached, by_chain, by_past, Names, AreOf}
use Rattle.pyd_runs.specs.Sound.{IsGraphSound, IsFresh, IsDriven, HasGiven, AreOrdered, stands, is_over}
use Rattle.pyd_runs.proofs.Putting.{at_cases, put_same, put_else, put_cases, same_test, other_test, none_apart}
use Rattle.pyd_runs.proofs.Without.{here, behind, fresh_apart, fresh_append, stands_true, fresh_stands, or_true}
use Rattle.pyd_runs.proofs.Within.{look_leaf, under_some}
use Rattle.pyd_runs.proofs.Knowing.{past_fresh}
use Rattle.pyd_runs.proofs.Leaves.{effect_ports}
use Rattle.pyd_runs.proofs.Claiming.{leaf_named}
use Rattle.pyd_runs.proofs.Passing.{IsHead, passing, head_there, head_among, rest_there, head_fresh, chain_fresh, head_blank, past_given, head_given, IsOverNow, passed_sound, chain_order, stands_append}

-- a pure node is a leaf
pub pure_leaf : (w : Work) → is_pure w ≡ true → is_composite w ≡ false
pure_leaf (Op op args) e = refl
pure_leaf (Read arg kind) e = refl
pure_leaf (Call func args) e = refl
pure_leaf (Stop fault) e = refl
pure_leaf (Print args) e = absurd (cc (e))
pure_leaf (Run func args) e = absurd (cc (e))
pure_leaf (Cond test stmt arm rest env) e = absurd (cc (e))
pure_leaf (While test stmt turns rest env) e = absurd (cc (e))
pure_leaf (For over stmt turns rest env) e = absurd (cc (e))
pure_leaf (Pick test first second env) e = absurd (cc (e))
pure_leaf (Enter func args) e = absurd (cc (e))

-- tests
over_here : (a b c : Bool) → a ≡ false → (b || c) ≡ true → (not a && (b || c)) ≡ true
over_here true b c f t = absurd (cc (f))
over_here false b c f t = t

or_false : (b : Bool) → (b || false) ≡ b
or_false true = refl
or_false false = refl

-- arguments that name only what is known don't name what isn't
named_not : (known : Numbers) (args : List Arg) → AreAmong known args → (k : ℕ)
    → AreOf k args → known k ≡ false → ⊥
named_not known [] among k of none = of
named_not known (Known v ∷ args) among k (inl of) none = of
named_not known (Known v ∷ args) among k (inr of) none =
    named_not known args among.1 k of none
named_not known (From at ∷ args) among k (inl of) none =
    let z : known k ≡ true = ap known (sym of) ∙ among.0 in absurd (cc (z, none))
named_not known (From at ∷ args) among k (inr of) none =
    named_not known args among.1 k of none
named_not known (Slot at ∷ args) among k (inl of) none =
    let z : known k ≡ true = ap known (sym of) ∙ among.0 in absurd (cc (z, none))
named_not known (Slot at ∷ args) among k (inr of) none =
    named_not known args among.1 k of none
named_not known (Unbound ∷ args) among k (inl of) none = of
named_not known (Unbound ∷ args) among k (inr of) none =
    named_not known args among.1 k of none

-- the last of a list in order
ordered_push : (ns : List Node) (n : Node) → AreOrdered ns
    → ((x : Node) → Contains ns x → x.id ≢ n.id)
    → ((x : Node) → Contains ns x → Names x n.id → ⊥)
    → ((k : ℕ) → Names n k → n.id ≢ k) → AreOrdered (ns ++ n ∷ [])
ordered_push [] n o apart unnamed own = (tt, (λ k names. (own k names, tt)), tt)
ordered_push (x ∷ ns) n o apart unnamed own = (
  fresh_append x.id ns (n ∷ []) o.0 ((λ z. apart x (here x ns) (sym z)), tt),
  (λ k names. (
    (o.1 k names).0,
    fresh_append k ns (n ∷ []) (o.1 k names).1
        ((λ z. unnamed x (here x ns) (subst (Names x) (sym z) names)), tt),
  )),
  ordered_push ns n o.2 (λ y at. apart y (behind x ns y at))
      (λ y at. unnamed y (behind x ns y at)) own,
)

module _ (p : Plan) (g : Graph) (n : Node) (rest : List Node) (e : Evaluation Value) (v : Value)
    (sound : IsGraphSound p g) (head : IsHead p g n rest e v) where
  -- the head doesn't stand in the past
  past_apart_head : (x : Node) → Contains g.past x → x.id ≢ n.id
  past_apart_head x at z =
      fresh_apart x.id g.chain n (past_fresh p g x sound at)
      (head_there p g n rest e v sound head) (sym z)

  -- and no past node names it
  past_unnamed : (x : Node) → Contains g.past x → Names x n.id → ⊥
  past_unnamed x at names =
      let h = All-contains (HasGiven p g) g.past x sound.past at in
      let l = look_leaf p g.given x h.looked h.look in
      let inputs = (under_some (has_inputs g.given x.work)
      (leaf_meaning p.file (limits_of p) g.given x) h.looked l.1).0 in
      let w = leaf_named g.given x.work n.id (pure_leaf x.work l.0) inputs names in
      none_apart (g.given n.id w.0) w.1 (head_blank p g n rest e v sound head w.0) w.2

  -- a number that isn't the head's stands in the chain where it stands behind it
  stands_else : (k : ℕ) → k ≢ n.id → stands k g.chain ≡ stands k rest
  stands_else k other =
      ap (stands k) head.chain
      ∙ ap (λ b. b || stands k rest) (other_test n.id k (λ z. other (sym z)))

  head_stands_not : stands n.id rest ≡ false
  head_stands_not = fresh_stands n.id rest (head_fresh p g n rest e v sound head)

  -- a node that the chain reaches from now on it reached before
  module _ (past : List Node) (driver : ℕ → Option Ran)
      (from : (x : Node) → Contains past x → Contains g.past x ⊎ (x ≡ n)) where
    still_reached : (k : ℕ) → Reached (passing g n rest e v past driver) k → Reached g k
    still_reached k (by_chain x i at names) =
        by_chain x k (rest_there p g n rest e v sound head x at) names
    still_reached k (by_past x i at reached names) = elim (from x at) [
      | inl old ↦ by_past x k old (still_reached x.id reached) names
      | inr is ↦ by_chain x k (subst (Contains g.chain) (sym is)
          (head_there p g n rest e v sound head)) names
    ]

  -- a pure node goes to the past
  module _ (pure : is_pure n.work ≡ true) where
    pub pure_over : IsOverNow p g n rest e v sound head (g.past ++ n ∷ []) g.driver
    pure_over k = elim (at_cases k n.id) [
      | inl same ↦
          over_here (stands k rest) (stands k (g.past ++ n ∷ [])) (is_some (g.driver k))
          (ap (λ i. stands i rest) same ∙ head_stands_not)
          (ap (λ b. b || is_some (g.driver k))
          (stands_true k (g.past ++ n ∷ []) n
          (Contains-append_right g.past (n ∷ []) n (here n [])) (sym same)))
          ∙ sym (ap (λ b. b || is_over g k) (same_test k n.id same))
      | inr other ↦
          ap (λ b. not b && (stands k (g.past ++ n ∷ []) || is_some (g.driver k)))
          (sym (stands_else k other))
          ∙ ap (λ b. not (stands k g.chain) && (b || is_some (g.driver k)))
          (stands_append k g.past (n ∷ [])
          ∙ ap (λ b. stands k g.past || (b || false))
          (other_test n.id k (λ z. other (sym z)))
          ∙ or_false (stands k g.past))
          ∙ sym (ap (λ b. b || is_over g k) (other_test k n.id other))
    ]

    pure_from : (x : Node) → Contains (g.past ++ n ∷ []) x → Contains g.past x ⊎ (x ≡ n)
    pure_from x at = elim (Contains-push_cases g.past n x at) [
      | inl old ↦ inl old
      | inr is ↦ inr (sym is)
    ]

    -- its nodes are those of before
    pub pure_among : (x : Node) → Contains ((g.past ++ n ∷ []) ++ rest) x
        → Contains (nodes g) x
    pure_among x at = elim (Contains-append_cases (g.past ++ n ∷ []) rest x at) [
      | inl past ↦ elim (pure_from x past) [
        | inl old ↦ Contains-append_left g.past g.chain x old
        | inr is ↦ subst (Contains (nodes g)) (sym is) (head_among p g n rest e v sound head)
      ]
      | inr later ↦ Contains-append_right g.past g.chain x
          (rest_there p g n rest e v sound head x later)
    ]

    -- the graph is sound
    pub pure_sound : IsGraphSound p (passing g n rest e v (g.past ++ n ∷ []) g.driver)
    pure_sound =
        let none = sound.effects n (head_among p g n rest e v sound head) pure in
        passed_sound p g n rest e v sound head (g.past ++ n ∷ []) g.driver pure_over
        (ordered_push g.past n sound.ordered past_apart_head past_unnamed own)
        (All-push (λ (x : Node). IsFresh x.id rest) g.past n past_behind
        (head_fresh p g n rest e v sound head))
        (All-push (HasGiven p (passing g n rest e v (g.past ++ n ∷ []) g.driver)) g.past n
        (All-weaker (Contains g.past) (HasGiven p (passing g n rest e v (g.past ++ n ∷ []) g.driver))
        (λ x at. past_given p g n rest e v sound head (g.past ++ n ∷ []) g.driver x at)
        g.past (All-contains_itself g.past))
        (head_given p g n rest e v sound head (g.past ++ n ∷ []) g.driver pure))
        (still_reached (g.past ++ n ∷ []) g.driver pure_from)
        (λ k ran is fresh.
        (let other : k ≢ n.id = (λ z. none_apart (g.driver n.id) ran none
        (ap g.driver (sym z) ∙ is)) in
        let h = sound.driven k ran is (chain_fresh p g n rest e v sound head k other fresh) in
        let gave = put_else g.given n.id (ports_of n.work v) k other in
        record {
          value = h.value;
          outcome = h.outcome;
          port = ap (λ (ports : Ports). ports 0) gave ∙ h.port;
          no_other = λ port. ap (λ (ports : Ports). ports (suc port)) gave ∙ h.no_other port;
        }))
        (λ x at. sound.effects x (pure_among x at))
      where
        own : (k : ℕ) → Names n k → n.id ≢ k
        own k names z =
            named_not (is_over g) (arguments n.work)
            (chain_order p g n rest e v sound head).2 n.id
            (subst (λ i. AreOf i (arguments n.work)) (sym z) names)
            (chain_order p g n rest e v sound head).1

        past_behind : All (λ (x : Node). IsFresh x.id rest) g.past
        past_behind =
            All-weaker (λ (x : Node). IsFresh x.id g.chain) (λ (x : Node). IsFresh x.id rest)
            (λ x f. (subst (IsFresh x.id) head.chain f).1) g.past sound.apart

  -- what the driver keeps of an effect
  abbrev pub kept_value : Ran
  kept_value = record { outcome = outcome.Ok v; lines = [] }

  abbrev pub driver_now : ℕ → Option Ran
  driver_now = put_at g.driver n.id (Some kept_value)

  -- an effect goes, and the driver has its value
  module _ (impure : is_pure n.work ≡ false) where
    pub effect_over : IsOverNow p g n rest e v sound head g.past driver_now
    effect_over k = elim (at_cases k n.id) [
      | inl same ↦
          over_here (stands k rest) (stands k g.past) (is_some (driver_now k))
          (ap (λ i. stands i rest) same ∙ head_stands_not)
          (ap (λ o. stands k g.past || is_some o)
          (put_same g.driver n.id (Some kept_value) k same) ∙ or_true (stands k g.past))
          ∙ sym (ap (λ b. b || is_over g k) (same_test k n.id same))
      | inr other ↦
          ap (λ b. not b && (stands k g.past || is_some (driver_now k)))
          (sym (stands_else k other))
          ∙ ap (λ o. not (stands k g.chain) && (stands k g.past || is_some o))
          (put_else g.driver n.id (Some kept_value) k other)
          ∙ sym (ap (λ b. b || is_over g k) (other_test k n.id other))
    ]

    -- its nodes are those of before but for the head
    pub effect_among : (x : Node) → Contains (g.past ++ rest) x
        → Contains (nodes g) x × (x.id ≢ n.id)
    effect_among x at = elim (Contains-append_cases g.past rest x at) [
      | inl old ↦ (Contains-append_left g.past g.chain x old, past_apart_head x old)
      | inr later ↦ (
        Contains-append_right g.past g.chain x (rest_there p g n rest e v sound head x later),
        (λ z. fresh_apart n.id rest x (head_fresh p g n rest e v sound head) later z),
      )
    ]

    pub effect_sound : IsGraphSound p (passing g n rest e v g.past driver_now)
    effect_sound =
        passed_sound p g n rest e v sound head g.past driver_now effect_over sound.ordered
        (All-weaker (λ (x : Node). IsFresh x.id g.chain) (λ (x : Node). IsFresh x.id rest)
        (λ x f. (subst (IsFresh x.id) head.chain f).1) g.past sound.apart)
        (All-weaker (Contains g.past) (HasGiven p (passing g n rest e v g.past driver_now))
        (λ x at. past_given p g n rest e v sound head g.past driver_now x at)
        g.past (All-contains_itself g.past))
        (still_reached g.past driver_now (λ x at. inl at))
        driven
        (λ x at pure.
        (let was = effect_among x at in
        put_else g.driver n.id (Some kept_value) x.id was.1 ∙ sound.effects x was.0 pure))
      where
        driven : (k : ℕ) (ran : Ran) → driver_now k ≡ Some ran → IsFresh k rest
            → IsDriven (passing g n rest e v g.past driver_now) k ran
        driven k ran is fresh =
            elim (put_cases g.driver n.id (Some kept_value) k (Some ran) is) [
              | inl now ↦
                  let z = now.1 in
                  let same : kept_value ≡ ran = cc (z) in
                  let gave = put_same g.given n.id (ports_of n.work v) k now.0
                  ∙ effect_ports p.file (limits_of p) g.given n.line n.depth n.work e v
                  head.meant impure in
                  record {
                    value = v;
                    outcome = ap (λ (r : Ran). r.outcome) (sym same);
                    port = ap (λ (ports : Ports). ports 0) gave;
                    no_other = λ port. ap (λ (ports : Ports). ports (suc port)) gave;
                  }
              | inr old ↦
                  let h = sound.driven k ran old.1
                  (chain_fresh p g n rest e v sound head k old.0 fresh) in
                  let gave = put_else g.given n.id (ports_of n.work v) k old.0 in
                  record {
                    value = h.value;
                    outcome = h.outcome;
                    port = ap (λ (ports : Ports). ports 0) gave ∙ h.port;
                    no_other = λ port.
                        ap (λ (ports : Ports). ports (suc port)) gave ∙ h.no_other port;
                  }
            ]
