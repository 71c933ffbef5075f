-- The line and the desk once the head is passed.
use Rattle.std.proofs.Common.{◌≡◌, ◌≢◌, ℕ, ◌==◌, ◌<◌, List, [], ◌∷◌, ◌++◌, length, get_or, set, drop, take, Bool, true, false, cond, Option, Some, None, inl, inr, refl, ap, sym, subst, ◌∙◌, length-set}
use Rattle.std.specs.List.{All, Contains}
use Rattle.std.proofs.lemmas.List.{take-append-drop}
use Rattle.std.proofs.lemmas.List.Elements.{All-head, Contains-append_right}
use Rattle.pyd_value.specs.declared.value.Value.{Value}
use Rattle.pyd_value.specs.declared.fault.Outcome.TheVariants as outcome
use Rattle.pyd_meaning.specs.declared.ran.Ran.{Ran}
use Rattle.pyd_ir.specs.declared.node.Node.{Node}
use Rattle.pyd_ir.specs.declared.work.Work.{Work}
use Rattle.pyd_ir.specs.declared.work.Work.TheVariants.{Op, Read, Call, Stop, Print, Run, Cond, While, For, Pick, Enter}
use Rattle.pyd_ir.specs.Arguments.{is_composite, is_pure}
use Rattle.pyd_runs.specs.Desks.{put_at}
use Rattle.pyd_runs.specs.Graphs.{Graph, nodes}
use Rattle.pyd_runs.specs.Plans.{Plan}
use Rattle.pyd_runs.specs.Records.{node_at}
use Rattle.pyd_runs.specs.Effects.{State, passed}
use Rattle.pyd_runs.specs.Sound.{IsGraphSound, IsFresh, IsSound}
use Rattle.pyd_runs.proofs.Putting.{at_cases, other_test}
use Rattle.pyd_runs.proofs.Without.{fresh_apart, here}
use Rattle.pyd_runs.proofs.Standing.{AreApart, fresh_none, graph_node, nodes_apart}
use Rattle.pyd_desk.specs.declared.desk.Desk.{Desk}
use Rattle.pyd_desk.specs.declared.desk.PortKind.TheVariants.{One}
use Rattle.pyd_desk.specs.declared.line.Line.{Line}
use Rattle.pyd_desk.specs.Desks.{desk_of, is_lost, mark_at, silent}
use Rattle.pyd_desk.specs.Lines.{IsGraphOf, chain_of, kind_of, past_of}
use Rattle.pyd_desk.specs.Passing.{kept_of}
use Rattle.pyd_desk.specs.States.{IsStateOf}
use Rattle.pyd_desk.specs.Works.{port_kind}
use Rattle.pyd_desk.proofs.Numbers.{put_or}
use Rattle.pyd_desk.proofs.Standing.{nodes_of}

-- an effect has one port
effect_kind : (w : Work) → is_pure w ≡ false → is_composite w ≡ false → port_kind w ≡ One
effect_kind (Op op args) pure leaf = absurd (cc (pure))
effect_kind (Read arg kind) pure leaf = absurd (cc (pure))
effect_kind (Call func args) pure leaf = absurd (cc (pure))
effect_kind (Stop fault) pure leaf = absurd (cc (pure))
effect_kind (Print args) pure leaf = refl
effect_kind (Run func args) pure leaf = refl
effect_kind (Cond test stmt arm rest env) pure leaf = absurd (cc (leaf))
effect_kind (While test stmt turns rest env) pure leaf = absurd (cc (leaf))
effect_kind (For over stmt turns rest env) pure leaf = absurd (cc (leaf))
effect_kind (Pick test first second env) pure leaf = absurd (cc (leaf))
effect_kind (Enter func args) pure leaf = absurd (cc (leaf))

-- what is kept is an effect's value
kept_effect : (b : Bool) (v : Value) (ran : Ran) → Some ran ≡ kept_of b v
    → (b ≡ false) × (ran ≡ silent (outcome.Ok v))
kept_effect true v ran is = absurd (cc (is))
kept_effect false v ran is = (refl, cc (is))

-- and nothing of a pure node
kept_pure : (b : Bool) (v : Value) → None ≡ kept_of b v → b ≡ true
kept_pure true v is = refl
kept_pure false v is = absurd (cc (is))

-- the head of a list with a first node is that one
head_is : (xs rest more : List Node) (h n : Node) → xs ≡ h ∷ more → xs ≡ n ∷ rest → h ≡ n
head_is xs rest more h n e is = let z : h ∷ more ≡ n ∷ rest = sym e ∙ is in cc (z)

-- other nodes are found as before
found_else : (past rest : List Node) (n : Node) (k : ℕ) → k ≢ n.id
    → node_at (past ++ n ∷ rest) k ≡ node_at (past ++ rest) k
found_else [] rest n k other =
    ap (λ b. cond b (Some n) (node_at rest k)) (other_test n.id k (λ e. other (sym e)))
found_else (x ∷ past) rest n k other =
    ap (λ o. cond (x.id == k) (Some x) o) (found_else past rest n k other)

-- and none by the number of the one that is gone
gone_fresh : (past rest : List Node) (n : Node) → AreApart (past ++ n ∷ rest)
    → IsFresh n.id (past ++ rest)
gone_fresh [] rest n apart = apart.0
gone_fresh (x ∷ past) rest n apart = (
  λ e. fresh_apart x.id (past ++ n ∷ rest) n apart.0
      (Contains-append_right past (n ∷ rest) n (here n rest)) (sym e),
  gone_fresh past rest n apart.1,
)

module _ (line new : Line) (d : Desk) (g : Graph) (n : Node) (rest : List Node)
    (is : IsGraphOf line d g) (chain : g.chain ≡ n ∷ rest)
    (next : chain_of new ≡ drop 1 (chain_of line)) where
  chain_left : rest ≡ chain_of new
  chain_left = ap (drop 1) (sym chain ∙ is.chain) ∙ sym next

  -- the nodes without the head
  left_items : past_of new ≡ past_of line → g.past ++ rest ≡ new.nodes.items
  left_items past =
      ap (λ xs. xs ++ rest) (is.past ∙ sym past) ∙ ap (λ xs. past_of new ++ xs) chain_left
      ∙ take-append-drop new.settled new.nodes.items

  ports_left : (p : Plan) (k : ℕ) → IsGraphSound p g → port_kind n.work ≡ One
      → (mark_at d.marks.items k).ports ≡ kind_of (node_at (g.past ++ rest) k)
  ports_left p k sound one =
      let all : nodes g ≡ g.past ++ n ∷ rest = ap (λ xs. g.past ++ xs) chain in
      is.ports k ∙ ap (λ xs. kind_of (node_at xs k)) (sym (nodes_of line d g is) ∙ all)
      ∙ elim (at_cases k n.id) [
        | inl same ↦
            let there : Contains (nodes g) n = subst (λ (xs : List Node). Contains xs n) (sym all)
            (Contains-append_right g.past (n ∷ rest) n (here n rest)) in
            ap kind_of (ap (node_at (g.past ++ n ∷ rest)) same
            ∙ ap (λ xs. node_at xs n.id) (sym all) ∙ graph_node p g n sound there)
            ∙ one
            ∙ sym (ap kind_of (ap (node_at (g.past ++ rest)) same
            ∙ fresh_none (g.past ++ rest) n.id
            (gone_fresh g.past rest n (subst AreApart all (nodes_apart p g sound)))))
        | inr other ↦ ap kind_of (found_else g.past rest n k other)
      ]

  -- a pure node is passed
  passed_pure : (lines : List (List ℕ)) (v : Value)
      → past_of new ≡ past_of line ++ take 1 (chain_of line) → new.nodes ≡ line.nodes
      → IsGraphOf new d (passed true g n rest lines v)
  passed_pure lines v past all = record {
    past = ap (λ xs. xs ++ n ∷ []) is.past
        ∙ ap (λ xs. past_of line ++ take 1 xs) (sym chain ∙ is.chain) ∙ sym past;
    chain = chain_left;
    driver = is.driver;
    ports = λ k. is.ports k ∙ ap (λ v. kind_of (node_at v.items k)) (sym all);
  }

  -- an effect is passed
  passed_effect : (p : Plan) (now : Desk) (lines : List (List ℕ)) (v : Value)
      → IsGraphSound p g → is_pure n.work ≡ false → is_composite n.work ≡ false
      → past_of new ≡ past_of line → now.marks ≡ d.marks → n.id < length d.driver.items
      → now.driver.items ≡ set d.driver.items n.id (Some (silent (outcome.Ok v)))
      → IsGraphOf new now (passed false g n rest lines v)
  passed_effect p now lines v sound pure leaf past marks within driver =
      let ran : Option Ran = Some (silent (outcome.Ok v)) in
      record {
        past = is.past ∙ sym past;
        chain = chain_left;
        driver = ap (λ f. put_at f n.id ran) is.driver
            ∙ sym (put_or d.driver.items n.id ran None within)
            ∙ ap (λ xs k. get_or xs k None) (sym driver);
        ports = λ k. ap (λ v. (mark_at v.items k).ports) marks
            ∙ ports_left p k sound (effect_kind n.work pure leaf)
            ∙ ap (λ xs. kind_of (node_at xs k)) (left_items past);
      }

-- a state whose head is passed
abbrev pub passed_state : Bool → State → Node → List Node → List (List ℕ) → Value → State
passed_state b s n rest lines v = record s { graph = passed b s.graph n rest lines v }

-- line and desk are those of the state once a pure node is passed
pub pure_is : (line new : Line) (d : Desk) (s : State) (n : Node) (rest : List Node)
    (lines : List (List ℕ)) (v : Value) → IsStateOf line d s → s.graph.chain ≡ n ∷ rest
    → None ≡ kept_of (is_pure n.work) v → chain_of new ≡ drop 1 (chain_of line)
    → past_of new ≡ past_of line ++ take 1 (chain_of line) → new.nodes ≡ line.nodes
    → IsStateOf new d (passed_state (is_pure n.work) s n rest lines v)
pure_is line new d s n rest lines v is chain kept next past all =
    subst (λ b. IsStateOf new d (passed_state b s n rest lines v))
    (sym (kept_pure (is_pure n.work) v kept))
    (record {
      graph = passed_pure line new d s.graph n rest is.graph chain next lines v past all;
      desk = is.desk;
      lost = is.lost;
      marks = is.marks;
      driver = is.driver;
    })

-- a desk with one more record of the driver
pub record HasRun (k : ℕ) (ran : Ran) (old new : Desk) : Type 0 where
  pub desk : desk_of new ≡ desk_of old
  pub alive : new.alive ≡ old.alive
  pub marks : new.marks ≡ old.marks
  pub driver : new.driver.items ≡ set old.driver.items k (Some ran)

-- and once an effect is passed
pub effect_is : (p : Plan) (line new : Line) (d now : Desk) (s : State) (h n : Node)
    (rest : List Node) (lines : List (List ℕ)) (v : Value) (ran : Ran) → IsSound p s
    → IsStateOf line d s → s.graph.chain ≡ n ∷ rest → is_composite n.work ≡ false
    → Some ran ≡ kept_of (is_pure n.work) v → chain_of line ≡ h ∷ drop 1 (chain_of line)
    → All (λ (x : Node). x.id < length d.driver.items) (chain_of line)
    → chain_of new ≡ drop 1 (chain_of line) → past_of new ≡ past_of line
    → HasRun h.id ran d now
    → IsStateOf new now (passed_state (is_pure n.work) s n rest lines v)
effect_is p line new d now s h n rest lines v ran sound is chain leaf kept head low next past has =
    let effect = kept_effect (is_pure n.work) v ran kept in
    let same : h ≡ n
    = head_is (chain_of line) rest (drop 1 (chain_of line)) h n head (sym is.graph.chain ∙ chain) in
    let within : h.id < length d.driver.items
    = All-head (λ (x : Node). x.id < length d.driver.items) h (drop 1 (chain_of line))
    (subst (All (λ (x : Node). x.id < length d.driver.items)) head low) in
    subst (λ b. IsStateOf new now (passed_state b s n rest lines v)) (sym effect.0)
    (record {
      graph = passed_effect line new d s.graph n rest is.graph chain next p now lines v sound.graph
          effect.0 leaf past has.marks
          (subst (λ (x : Node). x.id < length d.driver.items) same within)
          (has.driver ∙ (λ i. set d.driver.items (same i).id (Some (effect.1 i))));
      desk = is.desk ∙ sym has.desk;
      lost = is.lost ∙ ap (λ x. is_lost x.items) (sym has.alive);
      marks = ap (λ x. length x.items) has.marks ∙ is.marks;
      driver = ap length has.driver ∙ length-set d.driver.items h.id (Some ran) ∙ is.driver;
    })
