-- Losses leave needed and free what was so.
use Rattle.std.proofs.Common.{◌≡◌, ℕ, List, [], ◌∷◌, ◌++◌, nat_eq, Bool, true, false, cond, not, ◌&&◌, Option, Some, None, is_some, option_map, inl, inr, refl, sym, ◌∙◌, All}
use Rattle.std.proofs.lemmas.List.Elements.{All-head, All-tail}
use Rattle.std.proofs.lemmas.List.Folds.{list_any-append}
use Rattle.pyd_board.specs.declared.event.Act.{Act}
use Rattle.pyd_board.specs.declared.event.Act.TheVariants.{Place, Claim, Finish, Drop, Refine, Settle, Lose, Trim}
use Rattle.pyd_board.specs.declared.event.Event.{Event}
use Rattle.pyd_ir.specs.declared.node.Node.{Node}
use Rattle.pyd_lineage.specs.Lineage.{is_among, named_nodes}
use Rattle.pyd_lineage.specs.Marking.{chain_names, past_names, reached_names}
use Rattle.pyd_lineage.proofs.Reaching.{both_of, first_of, second_of, split_or, two_of}
use Rattle.pyd_meaning.specs.declared.ran.Ran.{Ran}
use Rattle.pyd_runs.specs.Deciding.{is_free, is_needed}
use Rattle.pyd_runs.specs.Desks.{Held, Kept, Placed}
use Rattle.pyd_runs.specs.Effects.{State, acted, happens, lost_with}
use Rattle.pyd_runs.specs.Enabled.{IsLoss}
use Rattle.pyd_runs.specs.HeadOrder.{has_record}
use Rattle.pyd_runs.specs.Losses.{held_elsewhere, kept_elsewhere}
use Rattle.pyd_runs.specs.Plans.{Plan}
use Rattle.pyd_runs.specs.Records.{is_ready, or_else}
use Rattle.pyd_runs.specs.Replay.{after}
use Rattle.pyd_runs.specs.Sound.{stands}
use Rattle.pyd_runs.proofs.Readiness.{and_both, and_parts}
use Rattle.pyd_core.specs.Placing.{is_wanted}

-- a number among two lists
among_more : (xs ys zs : List ℕ) (n : ℕ)
    → (is_among xs n ≡ true → is_among (ys ++ zs) n ≡ true)
    → (rest : List ℕ) → (is_among rest n ≡ true → is_among zs n ≡ true)
    → is_among (xs ++ rest) n ≡ true → is_among (ys ++ zs) n ≡ true
among_more xs ys zs n first rest more is =
    elim (split_or (is_among xs n) (is_among rest n)
    (sym (list_any-append (nat_eq n) xs rest) ∙ is)) [
      | inl here ↦ first here
      | inr there ↦
          list_any-append (nat_eq n) ys zs ∙ second_of (is_among ys n) (is_among zs n) (more there)
    ]

among_left : (xs ys : List ℕ) (n : ℕ) → is_among xs n ≡ true → is_among (xs ++ ys) n ≡ true
among_left xs ys n is =
    list_any-append (nat_eq n) xs ys ∙ first_of (is_among xs n) (is_among ys n) is

among_right : (xs ys : List ℕ) (n : ℕ) → is_among ys n ≡ true → is_among (xs ++ ys) n ≡ true
among_right xs ys n is =
    list_any-append (nat_eq n) xs ys ∙ second_of (is_among xs n) (is_among ys n) is

-- what fewer are known of names as much
fewer_first : (a b : Bool) (xs ys : List ℕ) (n : ℕ) → (b ≡ true → a ≡ true)
    → is_among (cond a [] xs) n ≡ true → is_among (cond b [] xs ++ ys) n ≡ true
fewer_first true b xs ys n fewer is = absurd (cc (is))
fewer_first false true xs ys n fewer is = absurd (let z = fewer refl in cc (z))
fewer_first false false xs ys n fewer is = among_left xs ys n is

-- the marks of a past node
fewer_marks : (a b : Bool) (xs old new : List ℕ) (n : ℕ) → (a ≡ true → b ≡ true)
    → (is_among old n ≡ true → is_among new n ≡ true)
    → is_among (cond a (xs ++ old) old) n ≡ true → is_among (cond b (xs ++ new) new) n ≡ true
fewer_marks true true xs old new n turns more is =
    among_more xs xs new n (among_left xs new n) old more is
fewer_marks true false xs old new n turns more is = absurd (let z = turns refl in cc (z))
fewer_marks false true xs old new n turns more is = among_right xs new n (more is)
fewer_marks false false xs old new n turns more is = more is

-- a node that isn't known isn't known where fewer are
unknown_still : (a b : Bool) → (b ≡ true → a ≡ true) → a ≡ false → b ≡ false
unknown_still a true fewer not = absurd (let z = fewer refl in cc (z, not))
unknown_still a false fewer not = refl

module _ (a b : ℕ → Bool) (fewer : (n : ℕ) → b n ≡ true → a n ≡ true) where
  chain_fewer : (xs : List Node) (n : ℕ) → is_among (chain_names a xs) n ≡ true
      → is_among (chain_names b xs) n ≡ true
  chain_fewer [] n is = is
  chain_fewer (x ∷ xs) n is =
      among_more (cond (a x.id) [] (named_nodes x.work)) (cond (b x.id) [] (named_nodes x.work))
      (chain_names b xs) n
      (fewer_first (a x.id) (b x.id) (named_nodes x.work) (chain_names b xs) n (fewer x.id))
      (chain_names a xs) (chain_fewer xs n) is

  past_fewer : (xs : List Node) (old new : List ℕ)
      → ((n : ℕ) → is_among old n ≡ true → is_among new n ≡ true) → (n : ℕ)
      → is_among (past_names a xs old) n ≡ true → is_among (past_names b xs new) n ≡ true
  past_fewer [] old new more n is = more n is
  past_fewer (x ∷ xs) old new more n is =
      let was = past_names a xs old in
      let now = past_names b xs new in
      fewer_marks (is_among was x.id && not (a x.id)) (is_among now x.id && not (b x.id))
      (named_nodes x.work) was now n
      (λ met.
      (let both = both_of (is_among was x.id) (a x.id) met in
      two_of (is_among now x.id) (b x.id) (past_fewer xs old new more x.id both.0)
      (unknown_still (a x.id) (b x.id) (fewer x.id) both.1)))
      (past_fewer xs old new more n) is

  reached_fewer : (past chain : List Node) (n : ℕ)
      → is_among (reached_names past chain a) n ≡ true
      → is_among (reached_names past chain b) n ≡ true
  reached_fewer past chain n is =
      past_fewer past (chain_names a chain) (chain_names b chain) (chain_fewer chain) n is

-- a record that is left was there
left_record : (machine : ℕ) (driver : Option Ran) (kept : Option Kept)
    → is_some (or_else driver (option_map (λ k. k.ran) (kept_elsewhere machine kept))) ≡ true
    → is_some (or_else driver (option_map (λ k. k.ran) kept)) ≡ true
left_record machine (Some ran) kept is = refl
left_record machine None None is = is
left_record machine None (Some k) is = refl

-- nothing is left of nothing
no_ticket : (b : Bool) (t : Option Placed) → not (is_some t) ≡ true
    → not (is_some (cond b t None)) ≡ true
no_ticket true t none = none
no_ticket false t none = refl

no_claim : (machine : ℕ) (c : Option Held) → not (is_some c) ≡ true
    → not (is_some (held_elsewhere machine c)) ≡ true
no_claim machine None none = refl
no_claim machine (Some c) none = absurd (cc (none))

not_fewer : (a b : Bool) → (b ≡ true → a ≡ true) → not a ≡ true → not b ≡ true
not_fewer true b fewer is = absurd (cc (is))
not_fewer false true fewer is = absurd (let z = fewer refl in cc (z))
not_fewer false false fewer is = refl

module _ (s : State) (machine k : ℕ) where
  abbrev t : State
  t = lost_with s machine

  records_fewer : (n : ℕ) → has_record t n ≡ true → has_record s n ≡ true
  records_fewer n = left_record machine (s.graph.driver n) (s.desk.stores n)

  needed_still : is_needed s k ≡ true → is_needed t k ≡ true
  needed_still is =
      elim (split_or (stands k s.graph.chain)
      (is_among (reached_names s.graph.past s.graph.chain (has_record s)) k) is) [
        | inl there ↦ first_of (stands k s.graph.chain)
            (is_among (reached_names s.graph.past s.graph.chain (has_record t)) k) there
        | inr reached ↦ second_of (stands k s.graph.chain)
            (is_among (reached_names s.graph.past s.graph.chain (has_record t)) k)
            (reached_fewer (has_record s) (has_record t) records_fewer s.graph.past s.graph.chain k
            reached)
      ]

  free_still : is_free s k ≡ true → is_free t k ≡ true
  free_still is =
      let a = and_parts (not (has_record s k))
      (not (is_some (s.desk.ticket k)) && not (is_some (s.desk.claim k))) is in
      let b = and_parts (not (is_some (s.desk.ticket k))) (not (is_some (s.desk.claim k))) a.1 in
      and_both (not (has_record t k))
      (not (is_some (t.desk.ticket k)) && not (is_some (t.desk.claim k)))
      (not_fewer (has_record s k) (has_record t k) (records_fewer k) a.0)
      (and_both (not (is_some (t.desk.ticket k))) (not (is_some (t.desk.claim k)))
      (no_ticket (is_ready s.graph t.desk.stores k) (s.desk.ticket k) b.0)
      (no_claim machine (s.desk.claim k) b.1))

  pub wanted_still : is_wanted s k ≡ true → is_wanted t k ≡ true
  wanted_still is =
      let a = and_parts (is_needed s k) (is_free s k) is in
      and_both (is_needed t k) (is_free t k) (needed_still a.0) (free_still a.1)

-- a loss leaves wanted what is wanted
loss_wanted : (p : Plan) (s : State) (seat k : ℕ) (act : Act) → IsLoss act → is_wanted s k ≡ true
    → is_wanted (acted p s seat act) k ≡ true
unfolding acted
loss_wanted p s seat k (Lose machine) loss is = wanted_still s machine k is
loss_wanted p s seat k (Place n attempt machine) loss is = absurd loss
loss_wanted p s seat k (Claim n attempt machine) loss is = absurd loss
loss_wanted p s seat k (Finish n attempt machine) loss is = absurd loss
loss_wanted p s seat k (Drop n attempt machine) loss is = absurd loss
loss_wanted p s seat k (Refine n) loss is = absurd loss
loss_wanted p s seat k (Settle n) loss is = absurd loss
loss_wanted p s seat k (Trim n) loss is = absurd loss

event_wanted : (p : Plan) (s : State) (k : ℕ) (e : Event) → IsLoss e.act → is_wanted s k ≡ true
    → is_wanted (happens p s e) k ≡ true
unfolding happens
event_wanted p s k e loss is = loss_wanted p s e.by k e.act loss is

-- so do losses
pub losses_wanted : (p : Plan) (s : State) (k : ℕ) (es : List Event) → All (λ e. IsLoss e.act) es
    → is_wanted s k ≡ true → is_wanted (after p s es) k ≡ true
unfolding after
losses_wanted p s k [] losses is = is
losses_wanted p s k (e ∷ es) losses is =
    losses_wanted p (happens p s e) k es (All-tail (λ (x : Event). IsLoss x.act) e es losses)
    (event_wanted p s k e (All-head (λ (x : Event). IsLoss x.act) e es losses) is)
