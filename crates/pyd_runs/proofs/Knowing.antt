-- What is recorded of nodes is what is seen of them.
use Rattle.std.proofs.Common.{◌≡◌, ◌==◌, ℕ, suc, zero, Bool, true, false, not, ◌&&◌, ◌||◌, cond, List, [], ◌∷◌, Option, None, Some, is_some, ◌⊎◌, inl, inr, refl, ap, sym, ◌∙◌, subst}
use Rattle.std.specs.Prelude.{Result, Ok, Err, option_map}
use Rattle.std.specs.List.{Contains}
use Rattle.std.proofs.lemmas.List.Elements.{All-contains, Contains-append_cases, Contains-append_left}
use Rattle.pyd_value.specs.declared.value.Value.{Value}
use Rattle.pyd_value.specs.declared.fault.Fault.{Fault}
use Rattle.pyd_value.specs.declared.fault.Outcome.{Outcome}
use Rattle.pyd_ops.specs.Answer.{outcome_of}
use Rattle.pyd_meaning.specs.declared.ran.Ran.{Ran}
use Rattle.pyd_meaning.specs.Evaluation.{Evaluation}
use Rattle.pyd_ir.specs.declared.node.Node.{Node}
use Rattle.pyd_ir.specs.Ports.{Ports, only_port}
use Rattle.pyd_translate.specs.Naming.{Numbers}
use Rattle.pyd_runs.specs.Plans.{Plan}
use Rattle.pyd_runs.specs.Graphs.{Graph, nodes}
use Rattle.pyd_runs.specs.Desks.{Kept, Desk}
use Rattle.pyd_runs.specs.Records.{ports_by, ports_kept, or_else, stored, records, recorded, node_at}
use Rattle.pyd_runs.specs.Sound.{IsGraphSound, IsDeskSound, IsSeen, IsGone, IsFresh, HasGiven, ports_given, ports_seen, leaf_seen, sight, stands, is_over}
use Rattle.pyd_runs.proofs.Putting.{if_cases, test_other, none_apart}
use Rattle.pyd_runs.proofs.Readiness.{IsWithin}
use Rattle.pyd_runs.proofs.Seeing.{seen_else, sight_fixed}
use Rattle.pyd_runs.proofs.Without.{fresh_apart, fresh_parts, fresh_stands}
use Rattle.pyd_runs.proofs.Standing.{found_there, same_node}
use Rattle.pyd_runs.proofs.Within.{leaf_within, look_leaf, only}

-- what stands at ports by an outcome is what its result gives
ports_agree : (n : Node) (r : Result Value Fault)
    → ports_by (Some n) (outcome_of r) ≡ ports_given n r
ports_agree n (Ok v) = refl
ports_agree n (Err f) = refl

-- what is seen of a node of the chain is what it does by what is seen
pub chain_sight : (p : Plan) (g : Graph) (n : Node) (e : Evaluation Value) → IsGraphSound p g
    → Contains g.chain n → leaf_seen p (sight p g) n ≡ Some e
    → (port : ℕ) → sight p g n.id port ≡ ports_given n e.result port
chain_sight p g n e sound at s port =
    (sight_fixed p g sound).chain n at port ∙ ap (λ o. ports_seen n o port) s

-- what is seen of a node that isn't in the chain is what it gave
pub sight_else : (p : Plan) (g : Graph) (k : ℕ) → IsFresh k g.chain
    → sight p g k ≡ g.given k
sight_else p g k fresh = seen_else p g.given g.chain k fresh

-- what was given is seen
pub given_within : (p : Plan) (g : Graph) → IsGraphSound p g → IsWithin g.given (sight p g)
given_within p g sound = (sight_fixed p g sound).given

-- a past node doesn't stand in the chain
pub past_fresh : (p : Plan) (g : Graph) (n : Node) → IsGraphSound p g → Contains g.past n
    → IsFresh n.id g.chain
past_fresh p g n sound at =
    All-contains (λ (x : Node). IsFresh x.id g.chain) g.past n sound.apart at

-- what is seen of a past node is what it does by what is seen
pub past_sight : (p : Plan) (g : Graph) (n : Node) (e : Evaluation Value) → IsGraphSound p g
    → Contains g.past n → leaf_seen p (sight p g) n ≡ Some e
    → (port : ℕ) → sight p g n.id port ≡ ports_given n e.result port
past_sight p g n e sound at s port =
    let h = All-contains (HasGiven p g) g.past n sound.past at in
    let l = look_leaf p g.given n h.looked h.look in
    let now = leaf_within p g.given (sight p g) (given_within p g sound) n h.looked l.1 in
    let same : h.looked ≡ e = cc (now, s) in
    ap (λ (f : ℕ → Option Value). f port) (sight_else p g n.id (past_fresh p g n sound at))
    ∙ h.ports port
    ∙ ap (λ r. ports_given n r port)
    (sym h.gave ∙ ap (λ (x : Evaluation Value). x.result) same)

-- what stands at the ports by what was done of a node is what is seen there
pub seen_ports : (p : Plan) (g : Graph) (k : ℕ) (ran : Ran) (n : Node) → IsGraphSound p g
    → IsSeen p g k ran → Contains (nodes g) n → n.id ≡ k
    → (port : ℕ) → ports_by (Some n) ran.outcome port ≡ sight p g k port
seen_ports p g k ran n sound h at number port =
    let same : h.node ≡ n = same_node p g h.node n sound h.stands at (h.number ∙ sym number) in
    let s : leaf_seen p (sight p g) n ≡ Some h.does
    = ap (leaf_seen p (sight p g)) (sym same) ∙ h.meaning in
    let all : sight p g n.id port ≡ ports_given n h.does.result port
    = elim (Contains-append_cases g.past g.chain n at) [
      | inl past ↦ past_sight p g n h.does sound past s port
      | inr chain ↦ chain_sight p g n h.does sound chain s port
    ] in
    ap (λ (r : Ran). ports_by (Some n) r.outcome port) h.as_done
    ∙ ap (λ (ports : Ports). ports port) (ports_agree n h.does.result)
    ∙ sym all ∙ ap (λ i. sight p g i port) number

-- a record of the driver isn't that of a past node
pub not_past : (p : Plan) (g : Graph) (n : Node) (ran : Ran) → IsGraphSound p g
    → Contains g.past n → g.driver n.id ≡ Some ran → ⊥
not_past p g n ran sound at e =
    let h = All-contains (HasGiven p g) g.past n sound.past at in
    let l = look_leaf p g.given n h.looked h.look in
    none_apart (g.driver n.id) ran
    (sound.effects n (Contains-append_left g.past g.chain n at) l.0) e

-- what is kept is the driver's, or a machine's
pub record_from : (a : Option Ran) (b : Option Kept) (ran : Ran)
    → or_else a (option_map (λ (kept : Kept). kept.ran) b) ≡ Some ran
    → (a ≡ Some ran) ⊎ ((kept : Kept) × (b ≡ Some kept) × (kept.ran ≡ ran))
record_from (Some r) b ran e = inl e
record_from None None ran e = absurd (cc (e))
record_from None (Some kept) ran e = inr (kept, refl, (let z : kept.ran ≡ ran = cc (e) in z))

-- a node that stands isn't gone
pub not_gone : (g : Graph) (n : Node) → Contains (nodes g) n → IsGone g n.id → ⊥
not_gone g n at gone = fresh_apart n.id (nodes g) n gone.1 at refl

-- the record of a node that stands is what it does by what is seen
pub record_seen : (p : Plan) (g : Graph) (d : Desk) (lost : ℕ → Bool) (n : Node) (ran : Ran)
    → IsGraphSound p g → IsDeskSound p g d lost → Contains (nodes g) n
    → records g d.stores n.id ≡ Some ran → IsSeen p g n.id ran
record_seen p g d lost n ran sound h at e =
    elim (record_from (g.driver n.id) (d.stores n.id) ran e) [
      | inl driver ↦ elim (Contains-append_cases g.past g.chain n at) [
        | inl past ↦ absurd (not_past p g n ran sound past driver)
        | inr chain ↦ h.run_done n.id ran n driver chain refl
      ]
      | inr store ↦ elim (h.stored n.id store.0 store.1) [
        | inl s ↦ subst (IsSeen p g n.id) store.2 s
        | inr gone ↦ absurd (not_gone g n at gone)
      ]
    ]

-- what may be named: what is settled, and what stands in the chain
abbrev pub present : Graph → Numbers
present g k = is_over g k || stands k g.chain

-- a number that no node of a graph has, and that may be named, is that of an effect that is settled
over_driven : (standing past driven : Bool) → standing ≡ false → past ≡ false
    → ((not standing && (past || driven)) || standing) ≡ true → driven ≡ true
over_driven true past driven s t e = absurd (cc (s))
over_driven false true driven s t e = absurd (cc (t))
over_driven false false true s t e = refl
over_driven false false false s t e = absurd (cc (e))

-- the same of what is there
some_of : {A : Type 0} (o : Option A) → is_some o ≡ true → (a : A) × (o ≡ Some a)
some_of None e = absurd (cc (e))
some_of (Some a) e = (a, refl)

-- what stands at the ports of an effect that is settled
only_given : (given : Ports) (v : Value) → given 0 ≡ Some v
    → ((port : ℕ) → given (suc port) ≡ None) → (port : ℕ) → only_port v port ≡ given port
only_given given v first others zero = sym first
only_given given v first others (suc port) = sym (others port)

-- the first of two that is there
first_there : {A : Type 0} (a b : Option A) (x y : A) → a ≡ Some x → or_else a b ≡ Some y
    → x ≡ y
first_there None b x y e f = absurd (cc (e))
first_there (Some z) b x y e f = let w : z ≡ x = cc (e) in let u : z ≡ y = cc (f) in sym w ∙ u

-- whether a number stands in the first list
stands_neither : (k : ℕ) (g : Graph) → IsFresh k (nodes g)
    → (stands k g.past ≡ false) × (stands k g.chain ≡ false)
stands_neither k g fresh =
    let parts = fresh_parts k g.past g.chain fresh in
    (fresh_stands k g.past parts.0, fresh_stands k g.chain parts.1)

-- the record of an effect that is gone
gone_recorded : (p : Plan) (g : Graph) (d : Desk) (k port : ℕ) (ran : Ran) (v : Value)
    → IsGraphSound p g → IsFresh k (nodes g) → present g k ≡ true
    → records g d.stores k ≡ Some ran → ports_by None ran.outcome port ≡ Some v
    → sight p g k port ≡ Some v
gone_recorded p g d k port ran v sound fresh is kept e =
    let neither = stands_neither k g fresh in
    let there = some_of (g.driver k) (over_driven (stands k g.chain) (stands k g.past)
    (is_some (g.driver k)) neither.1 neither.0 is) in
    let chain = (fresh_parts k g.past g.chain fresh).1 in
    let h = sound.driven k there.0 there.1 chain in
    let same : there.0 ≡ ran
    = first_there (g.driver k) (stored d.stores k) there.0 ran there.1 kept in
    ap (λ (f : Ports). f port) (sight_else p g k chain)
    ∙ sym (only_given (g.given k) h.value h.port h.no_other port)
    ∙ ap (λ (o : Outcome). ports_by None o port)
    (sym h.outcome ∙ ap (λ (r : Ran). r.outcome) same)
    ∙ e

-- a number by which no node is found is that of none
pub unfound_fresh : (ns : List Node) (k : ℕ) → node_at ns k ≡ None → IsFresh k ns
unfound_fresh [] k e = tt
unfound_fresh (x ∷ ns) k e = elim (if_cases (x.id == k) (Some x) (node_at ns k) None e) [
  | inl a ↦ absurd (let z = a.1 in cc (z))
  | inr b ↦ (test_other x.id k b.0, unfound_fresh ns k b.1)
]

-- what is recorded at a port of a node that may be named is seen there
pub recorded_seen : (p : Plan) (g : Graph) (d : Desk) (lost : ℕ → Bool) → IsGraphSound p g
    → IsDeskSound p g d lost → (k port : ℕ) (v : Value) → present g k ≡ true
    → recorded g d.stores k port ≡ Some v → sight p g k port ≡ Some v
recorded_seen p g d lost sound h k port v is e =
    by_record (records g d.stores k) refl (node_at (nodes g) k) refl e
  where
    by_record : (r : Option Ran) → records g d.stores k ≡ r → (o : Option Node)
        → node_at (nodes g) k ≡ o → ports_kept o r port ≡ Some v → sight p g k port ≡ Some v
    by_record None kept o found x = absurd (cc (x))
    by_record (Some ran) kept (Some n) found x =
        let at = found_there (nodes g) k n found in
        let s = subst (λ i. IsSeen p g i ran) at.1 (record_seen p g d lost n ran sound h at.0
        (ap (records g d.stores) at.1 ∙ kept)) in
        sym (seen_ports p g k ran n sound s at.0 at.1 port) ∙ x
    by_record (Some ran) kept None found x =
        gone_recorded p g d k port ran v sound (unfound_fresh (nodes g) k found) is kept x

-- what is recorded of nodes that may be named is seen
pub recorded_within : (p : Plan) (g : Graph) (d : Desk) (lost : ℕ → Bool) → IsGraphSound p g
    → IsDeskSound p g d lost → IsWithin (only (present g) (recorded g d.stores)) (sight p g)
recorded_within p g d lost sound h k port v e = by_test (present g k) refl e
  where
    by_test : (b : Bool) → present g k ≡ b
        → cond b (recorded g d.stores k port) None ≡ Some v → sight p g k port ≡ Some v
    by_test true is x = recorded_seen p g d lost sound h k port v is x
    by_test false is x = absurd (cc (x))

-- what is recorded of an effect that is gone is what it gave
pub gone_given : (p : Plan) (g : Graph) (d : Desk) (k port : ℕ) (ran : Ran) → IsGraphSound p g
    → IsFresh k (nodes g) → present g k ≡ true → records g d.stores k ≡ Some ran
    → ports_by None ran.outcome port ≡ g.given k port
gone_given p g d k port ran sound fresh is kept =
    let neither = stands_neither k g fresh in
    let there = some_of (g.driver k) (over_driven (stands k g.chain) (stands k g.past)
    (is_some (g.driver k)) neither.1 neither.0 is) in
    let h = sound.driven k there.0 there.1 (fresh_parts k g.past g.chain fresh).1 in
    let same : there.0 ≡ ran
    = first_there (g.driver k) (stored d.stores k) there.0 ran there.1 kept in
    ap (λ (o : Outcome). ports_by None o port)
    (sym (ap (λ (r : Ran). r.outcome) same) ∙ h.outcome)
    ∙ only_given (g.given k) h.value h.port h.no_other port
