-- Nodes that are no longer ready behind the losses that are due never are again while nodes are placed.
use Rattle.std.proofs.Common.{◌≡◌, ℕ, suc, List, [], ◌∷◌, ◌++◌, append_assoc, append-nil, length, length-append, drop, Bool, true, false, cond, nat_le, Option, Some, None, ◌⊎◌, inl, inr, refl, ap, sym, subst, ◌∙◌, arith}
use Rattle.std.specs.List.{All}
use Rattle.std.proofs.lemmas.List.Elements.{All-head, All-tail}
use Rattle.pyd_board.specs.declared.event.Act.{Act}
use Rattle.pyd_board.specs.declared.event.Act.TheVariants.{Place, Claim, Finish, Drop, Refine, Settle, Lose, Trim}
use Rattle.pyd_board.specs.declared.event.Event.{Event}
use Rattle.pyd_board.specs.declared.setup.Loss.{Loss}
use Rattle.pyd_boards.specs.Calls.{AreNext, IsIn, kind_of, loses, places}
use Rattle.pyd_runs.specs.Effects.{State, acted, happens}
use Rattle.pyd_runs.specs.Enabled.{CanAct, Enabled, due}
use Rattle.pyd_runs.specs.Following.{StepLaw}
use Rattle.pyd_runs.specs.Losses.{due_at, stores_without}
use Rattle.pyd_runs.specs.NextLosses.{due_after}
use Rattle.pyd_runs.specs.Plans.{Plan}
use Rattle.pyd_runs.specs.Records.{is_ready}
use Rattle.pyd_runs.specs.Replay.{replay}
use Rattle.pyd_core.specs.Facts.{facts_of, may_come}
use Rattle.pyd_steps.proofs.Spared.{is_ready_then, never_ready, stores_behind}

-- an event places a node or loses a machine
abbrev pub IsInRow : Plan → Event → Type 0
IsInRow p e = IsIn (facts_of p) places 0 e ⊎ IsIn (facts_of p) loses 0 e

-- where none is due no machine is
none_due_first : (b : Bool) (m : ℕ) (ms : List ℕ) → cond b (Some m) None ≡ None
    → cond b (m ∷ ms) [] ≡ []
none_due_first true m ms none = absurd (cc (none))
none_due_first false m ms none = refl

pub none_after : (n : ℕ) (losses : List Loss) → due_at n losses ≡ None → due_after n losses ≡ []
none_after n [] none = refl
none_after n (l ∷ losses) none =
    none_due_first (nat_le l.event n) l.machine (due_after (suc n) losses) none

-- the first of them is the one that is due
due_first : (b : Bool) (m machine : ℕ) (ms : List ℕ) → cond b (Some m) None ≡ Some machine
    → cond b (m ∷ ms) [] ≡ machine ∷ ms
due_first true m machine ms is = let same : m ≡ machine = cc (is) in ap (λ x. x ∷ ms) same
due_first false m machine ms is = absurd (cc (is))

first_after : (n machine : ℕ) (losses : List Loss) → due_at n losses ≡ Some machine
    → due_after n losses ≡ machine ∷ due_after (suc n) (drop 1 losses)
first_after n machine [] is = absurd (cc (is))
first_after n machine (l ∷ losses) is =
    due_first (nat_le l.event n) l.machine machine (due_after (suc n) losses) is

one_longer : (js : List Event) (e : Event) → length (js ++ e ∷ []) ≡ suc (length js)
one_longer js e = length-append js (e ∷ []) ∙ omega (arith)

module _ (p : Plan) (s : State) (k : ℕ) (seat nth : ℕ) where
  -- a loss that is due leaves which nodes are ready behind the losses that are due
  lose_leaves : (machine : ℕ) → due s ≡ Some machine
      → is_ready_then (happens p s (record { by = seat; nth = nth; act = Lose machine })) k
      ≡ is_ready_then s k
  unfolding happens acted
  lose_leaves machine is =
      ap (λ n. is_ready s.graph (stores_behind (due_after n (drop 1 s.losses))
      (stores_without machine s.desk.stores)) k)
      (one_longer s.journal (record { by = seat; nth = nth; act = Lose machine }))
      ∙ ap (λ ms. is_ready s.graph (stores_behind ms s.desk.stores) k)
      (sym (first_after (length s.journal) machine s.losses is))

  -- a Place makes none ready
  place_leaves : (n attempt machine : ℕ) → due s ≡ None → is_ready_then s k ≡ false
      → is_ready_then
      (happens p s (record { by = seat; nth = nth; act = Place n attempt machine })) k ≡ false
  unfolding happens acted
  place_leaves n attempt machine none is =
      never_ready s.graph s.desk.stores
      (due_after
      (length (s.journal ++ record { by = seat; nth = nth; act = Place n attempt machine } ∷ []))
      s.losses) k
      (ap (λ ms. is_ready s.graph (stores_behind ms s.desk.stores) k)
      (sym (none_after (length s.journal) s.losses none)) ∙ is)

  -- so does each event of a row
  act_leaves : (act : Act) → (kind_of act ≡ places) ⊎ (kind_of act ≡ loses)
      → CanAct p s seat act → is_ready_then s k ≡ false
      → is_ready_then (happens p s (record { by = seat; nth = nth; act = act })) k ≡ false
  act_leaves (Place n attempt machine) kind can is =
      place_leaves n attempt machine can.0.none_due is
  act_leaves (Lose machine) kind can is = lose_leaves machine can.is_due ∙ is
  act_leaves (Claim n attempt machine) (inl kind) can is = absurd (cc (kind))
  act_leaves (Claim n attempt machine) (inr kind) can is = absurd (cc (kind))
  act_leaves (Finish n attempt machine) (inl kind) can is = absurd (cc (kind))
  act_leaves (Finish n attempt machine) (inr kind) can is = absurd (cc (kind))
  act_leaves (Drop n attempt machine) (inl kind) can is = absurd (cc (kind))
  act_leaves (Drop n attempt machine) (inr kind) can is = absurd (cc (kind))
  act_leaves (Refine n) (inl kind) can is = absurd (cc (kind))
  act_leaves (Refine n) (inr kind) can is = absurd (cc (kind))
  act_leaves (Settle n) (inl kind) can is = absurd (cc (kind))
  act_leaves (Settle n) (inr kind) can is = absurd (cc (kind))
  act_leaves (Trim n) (inl kind) can is = absurd (cc (kind))
  act_leaves (Trim n) (inr kind) can is = absurd (cc (kind))

-- the kind of an event of a row
kind_in : (p : Plan) (e : Event) → IsInRow p e → (kind_of e.act ≡ places) ⊎ (kind_of e.act ≡ loses)
kind_in p e (inl is) = inl is.of_kind
kind_in p e (inr is) = inr is.of_kind

event_leaves : (p : Plan) (s : State) (k : ℕ) (e : Event) → IsInRow p e → Enabled p s e
    → is_ready_then s k ≡ false → is_ready_then (happens p s e) k ≡ false
event_leaves p s k e in_row may is =
    act_leaves p s k e.by e.nth e.act (kind_in p e in_row) may.act is

-- so do events of a row, each of which may come in its turn
pub row_leaves : StepLaw → (p : Plan) (k : ℕ) (es more : List Event) → All (IsInRow p) more
    → AreNext (may_come p) es more → is_ready_then (replay p es) k ≡ false
    → is_ready_then (replay p (es ++ more)) k ≡ false
unfolding AreNext
row_leaves steps p k es [] in_row next is =
    subst (λ js. is_ready_then (replay p js) k ≡ false) (sym (append-nil es)) is
row_leaves steps p k es (e ∷ more) in_row next is =
    subst (λ js. is_ready_then (replay p js) k ≡ false) (append_assoc es (e ∷ []) more)
    (row_leaves steps p k (es ++ e ∷ []) more (All-tail (IsInRow p) e more in_row) next.1
    (ap (λ s. is_ready_then s k) (steps p es e).state
    ∙ event_leaves p (replay p es) k e (All-head (IsInRow p) e more in_row) next.0.1 is))

-- none is due where no loss may come
no_due : (p : Plan) (s : State) (o : Option ℕ) → ((machine : ℕ) → o ≡ Some machine → ⊥) → o ≡ None
no_due p s None none = refl
no_due p s (Some machine) none = absurd (none machine refl)
