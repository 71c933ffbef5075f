-- What stands at ports by the marks is what is recorded.
use Rattle.std.proofs.Common.{◌≡◌, ℕ, ◌++◌, Option, Some, None, option_map, refl, ap, sym, ◌∙◌}
use Rattle.std.proofs.lemmas.List.{take-append-drop}
use Rattle.pyd_meaning.specs.declared.ran.Ran.{Ran}
use Rattle.pyd_runs.specs.Graphs.{Graph, nodes}
use Rattle.pyd_runs.specs.Records.{or_else, job_by, node_at, ready, records, recorded, stored}
use Rattle.pyd_desk.specs.declared.desk.Desk.{Desk}
use Rattle.pyd_desk.specs.declared.line.Line.{Line}
use Rattle.pyd_desk.specs.Desks.{driver_of, kept_in, mark_at, outcome_in, stores_of}
use Rattle.pyd_desk.specs.Lines.{IsGraphOf, chain_of, past_of, kind_of}
use Rattle.pyd_desk.specs.Reading.{given_of, kind_at, outcome_at, ports_at, stored_in}
use Rattle.pyd_desk.proofs.Ported.{kept_by}

-- the nodes of the graph are those of the line
pub nodes_of : (line : Line) (d : Desk) (g : Graph) → IsGraphOf line d g
    → nodes g ≡ line.nodes.items
nodes_of line d g is =
    ap (λ xs. xs ++ g.chain) is.past ∙ ap (λ xs. past_of line ++ xs) is.chain
    ∙ take-append-drop line.settled line.nodes.items

mapped_else : {A B : Type 0} (f : A → B) (o other : Option A)
    → option_map f (or_else o other) ≡ or_else (option_map f o) (option_map f other)
mapped_else f None other = refl
mapped_else f (Some a) other = refl

mapped_twice : {A B C : Type 0} (f : B → C) (h : A → B) (o : Option A)
    → option_map f (option_map h o) ≡ option_map (λ a. f (h a)) o
mapped_twice f h None = refl
mapped_twice f h (Some a) = refl

mapped_same : {A : Type 0} (o : Option A) → option_map (λ a. a) o ≡ o
mapped_same None = refl
mapped_same (Some a) = refl

stored_by : (d : Desk) (k : ℕ) (machine : Option ℕ)
    → option_map (λ (r : Ran). r.outcome)
    (option_map (λ kept. kept.ran) (kept_in d.stores.items k machine))
    ≡ stored_in d.stores.items k machine
stored_by d k None = refl
stored_by d k (Some machine) =
    mapped_twice _ _ (option_map _ (outcome_in d.stores.items machine k))
    ∙ mapped_twice _ _ (outcome_in d.stores.items machine k)
    ∙ mapped_same (outcome_in d.stores.items machine k)

-- the outcome of a record
pub outcome_is : (d : Desk) (g : Graph) (k : ℕ) → g.driver ≡ driver_of d
    → option_map (λ (r : Ran). r.outcome) (records g (stores_of d) k) ≡ outcome_at d k
outcome_is d g k driver =
    mapped_else _ (g.driver k) (stored (stores_of d) k)
    ∙ ap (λ (f : ℕ → Option Ran). or_else (option_map (λ r. r.outcome) (f k))
    (option_map (λ r. r.outcome) (stored (stores_of d) k))) driver
    ∙ ap (or_else (option_map (λ r. r.outcome) (driver_of d k)))
    (stored_by d k (mark_at d.marks.items k).machine)

recorded_at : (line : Line) (d : Desk) (g : Graph) (k : ℕ) → IsGraphOf line d g
    → recorded g (stores_of d) k ≡ given_of d k
recorded_at line d g k is =
    kept_by (node_at (nodes g) k) (records g (stores_of d) k)
    ∙ ap (λ xs. ports_at (kind_of (node_at xs k))
    (option_map (λ (r : Ran). r.outcome) (records g (stores_of d) k))) (nodes_of line d g is)
    ∙ ap (λ kind. ports_at kind
    (option_map (λ (r : Ran). r.outcome) (records g (stores_of d) k))) (sym (is.ports k))
    ∙ ap (ports_at (kind_at d k)) (outcome_is d g k is.driver)

-- what is recorded is what the marks and records tell
pub recorded_is : (line : Line) (d : Desk) (g : Graph) → IsGraphOf line d g
    → recorded g (stores_of d) ≡ given_of d
recorded_is line d g is = λ i k. recorded_at line d g k is i

-- the job of a node, by the line and the desk
pub ready_is : (line : Line) (d : Desk) (g : Graph) (k attempt : ℕ) → IsGraphOf line d g
    → ready g (stores_of d) k attempt
    ≡ job_by (chain_of line) (given_of d) attempt (node_at line.nodes.items k)
unfolding ready
ready_is line d g k attempt is =
    ap (λ chain. job_by chain (recorded g (stores_of d)) attempt (node_at (nodes g) k)) is.chain
    ∙ ap (λ given. job_by (chain_of line) given attempt (node_at (nodes g) k)) (recorded_is line d g is)
    ∙ ap (λ xs. job_by (chain_of line) (given_of d) attempt (node_at xs k)) (nodes_of line d g is)
