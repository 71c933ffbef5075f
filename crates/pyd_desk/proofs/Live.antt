-- Tickets that die are those of nodes that aren't ready, where numbers differ.
use Rattle.std.proofs.Common.{◌≡◌, ◌==◌, ℕ, List, [], ◌∷◌, Bool, true, false, not, ◌&&◌, ◌||◌, cond, if◌then◌else◌, Option, Some, None, is_some, option_map, inl, inr, refl, ap, sym, ◌∙◌, subst}
use Rattle.pyd_ir.specs.declared.node.Node.{Node}
use Rattle.pyd_ir.specs.declared.job.Job.{Job}
use Rattle.pyd_ir.specs.Inputs.{Given}
use Rattle.pyd_runs.specs.Graphs.{Graph, nodes}
use Rattle.pyd_runs.specs.Losses.{live_tickets}
use Rattle.pyd_runs.specs.Records.{job_by, job_with, node_at, task_by}
use Rattle.pyd_runs.specs.Sound.{IsFresh}
use Rattle.pyd_runs.proofs.Putting.{if_cases, test_same, other_test}
use Rattle.pyd_runs.proofs.Standing.{AreApart}
use Rattle.pyd_desk.specs.declared.desk.Desk.{Desk}
use Rattle.pyd_desk.specs.declared.desk.Placed.{Placed}
use Rattle.pyd_desk.specs.declared.line.Line.{Line}
use Rattle.pyd_desk.specs.Desks.{desk_of, mark_at, placed_of, stores_of}
use Rattle.pyd_desk.specs.Lines.{IsGraphOf, chain_of}
use Rattle.pyd_desk.specs.Reading.{given_of}
use Rattle.pyd_desk.specs.Tickets.{IsRidOf, has_waiting, is_ready_in}
use Rattle.pyd_desk.proofs.Standing.{nodes_of, ready_is}
use Rattle.pyd_desk.proofs.Written.{desk_by}

mapped_there : {A B : Type 0} (f : A → B) (o : Option A) → is_some (option_map f o) ≡ is_some o
mapped_there f None = refl
mapped_there f (Some a) = refl

or_false : (b : Bool) → (b || false) ≡ b
or_false true = refl
or_false false = refl

-- no node of a number that a list doesn't have waits
waiting_fresh : (chain : List Node) (given : Given) (ns : List Node) (k : ℕ) → IsFresh k ns
    → has_waiting chain given ns k ≡ false
waiting_fresh chain given [] k fresh = refl
waiting_fresh chain given (x ∷ ns) k fresh =
    ap (λ b. (b && not (is_ready_in chain given x)) || has_waiting chain given ns k)
    (other_test x.id k fresh.0)
    ∙ waiting_fresh chain given ns k fresh.1

-- where numbers differ, the node of a number tells
waiting_found : (chain : List Node) (given : Given) (ns : List Node) (k : ℕ) (n : Node)
    → AreApart ns → node_at ns k ≡ Some n
    → has_waiting chain given ns k ≡ not (is_ready_in chain given n)
waiting_found chain given [] k n apart e = absurd (cc (e))
waiting_found chain given (x ∷ ns) k n apart e =
    elim (if_cases (x.id == k) (Some x) (node_at ns k) (Some n) e) [
      | inl a ↦
          let z = a.1 in
          let same : x ≡ n = cc (z) in
          ap (λ b. (b && not (is_ready_in chain given x)) || has_waiting chain given ns k) a.0
          ∙ ap (λ b. not (is_ready_in chain given x) || b)
          (waiting_fresh chain given ns k
          (subst (λ i. IsFresh i ns) (test_same x.id k a.0) apart.0))
          ∙ or_false (not (is_ready_in chain given x))
          ∙ ap (λ (y : Node). not (is_ready_in chain given y)) same
      | inr b ↦
          ap (λ t. (t && not (is_ready_in chain given x)) || has_waiting chain given ns k) b.0
          ∙ waiting_found chain given ns k n apart.1 b.1
    ]

-- a ticket dies where its node isn't ready
left_ticket : {A B : Type 0} (f : A → B) (t : Option A) (ready : Bool)
    → option_map f (if not ready then None else t) ≡ cond ready (option_map f t) None
left_ticket f t true = refl
left_ticket f t false = refl

no_ticket : {A B : Type 0} (f : A → B) (waits ready : Bool)
    → option_map f (if waits then None else None) ≡ cond ready (option_map f None) None
no_ticket f true true = refl
no_ticket f true false = refl
no_ticket f false true = refl
no_ticket f false false = refl

module _ (line : Line) (d : Desk) (g : Graph) (is : IsGraphOf line d g) (apart : AreApart (nodes g))
    (strays : (k : ℕ) → node_at (nodes g) k ≡ None → (mark_at d.marks.items k).ticket ≡ None) where
  abbrev waits : ℕ → Bool
  waits = has_waiting (chain_of line) (given_of d) line.nodes.items

  -- a ticket by whether its node is found
  ticket_by : (k : ℕ) (o : Option Node) → node_at line.nodes.items k ≡ o
      → option_map placed_of (if waits k then None else (mark_at d.marks.items k).ticket)
      ≡ cond (is_some (job_by (chain_of line) (given_of d) 0 o))
      (option_map placed_of (mark_at d.marks.items k).ticket) None
  ticket_by k None e =
      let none = strays k (ap (λ (ns : List Node). node_at ns k) (nodes_of line d g is) ∙ e) in
      ap (λ (t : Option Placed). option_map placed_of (if waits k then None else t)) none
      ∙ no_ticket placed_of (waits k) false
  ticket_by k (Some n) e =
      ap (λ b. option_map placed_of (if b then None else (mark_at d.marks.items k).ticket))
      (waiting_found (chain_of line) (given_of d) line.nodes.items k n
      (subst AreApart (nodes_of line d g is) apart) e)
      ∙ left_ticket placed_of (mark_at d.marks.items k).ticket (is_ready_in (chain_of line) (given_of d) n)
      ∙ ap (λ b. cond b (option_map placed_of (mark_at d.marks.items k).ticket) None)
      (sym (mapped_there (job_with n 0) (task_by (chain_of line) (given_of d) n)))

  ticket_now : (k : ℕ)
      → option_map placed_of (if waits k then None else (mark_at d.marks.items k).ticket)
      ≡ live_tickets g (stores_of d) (desk_of d).ticket k
  ticket_now k =
      ticket_by k (node_at line.nodes.items k) refl
      ∙ ap (λ (o : Option Job). cond (is_some o) (option_map placed_of (mark_at d.marks.items k).ticket) None)
      (sym (ready_is line d g k 0 is))

  -- the desk behind it has the live tickets alone
  pub live_is : (e : Desk) → IsRidOf (chain_of line) line.nodes.items d e
      → desk_of e ≡ record (desk_of d) {
        ticket = live_tickets g (stores_of d) (desk_of d).ticket;
      }
  live_is e rid =
      (λ i. desk_by (rid.stores i).items (rid.alive i).items (rid.undone i).items
      (λ k. rid.marks k i))
      ∙ (λ i. record (desk_of d) { ticket = λ k. ticket_now k i })
