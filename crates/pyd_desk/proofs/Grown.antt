-- Line and desk behind a Refine.
use Rattle.std.proofs.Common.{◌≡◌, ◌≢◌, ◌<◌, ◌≤◌, ℕ, List, [], ◌∷◌, ◌++◌, map, length, Bool, true, false, not, ◌&&◌, ◌||◌, cond, Option, Some, None, is_some, inl, inr, refl, ap, sym, subst, ◌∙◌, arith}
use Rattle.std.specs.List.{All, Contains}
use Rattle.std.proofs.lemmas.List.{get_or_past}
use Rattle.std.proofs.lemmas.List.Elements.{All-contains_itself, All-weaker, Contains-append_left, Contains-append_right}
use Rattle.pyd_ir.specs.declared.node.Node.{Node}
use Rattle.pyd_translate.specs.declared.piece.Piece.{Piece}
use Rattle.pyd_refine.specs.Laws.{IsNew, PieceOrder}
use Rattle.pyd_refine.specs.Ordering.{IsOrdered, and_nodes}
use Rattle.pyd_refine.specs.Readiness.{control_value}
use Rattle.pyd_refine.specs.Redirecting.{piece_images, redirect_node}
use Rattle.pyd_refine.proofs.Ordering.{nodes-below, ordered-left, ordered-right}
use Rattle.pyd_runs.specs.Plans.{Plan, limits_of}
use Rattle.pyd_runs.specs.Graphs.{Graph, nodes}
use Rattle.pyd_runs.specs.Desks as runs
use Rattle.pyd_runs.specs.Desks.{put_at}
use Rattle.pyd_runs.specs.Records.{node_at, recorded}
use Rattle.pyd_runs.specs.Growth.{piece_for}
use Rattle.pyd_runs.specs.Sound.{IsFresh, IsGraphSound, is_over, stands}
use Rattle.pyd_runs.proofs.Putting.{at_cases, put_same, put_else, other_test}
use Rattle.pyd_runs.proofs.Without.{fresh_apart, fresh_stands, here, stands_true}
use Rattle.pyd_runs.proofs.Standing.{AreApart, fresh_none, list_apart, list_below}
use Rattle.pyd_runs.proofs.Knowing.{past_fresh}
use Rattle.pyd_runs.proofs.Redirected.{from_fresh}
use Rattle.pyd_runs.proofs.Growing.{below_or}
use Rattle.pyd_desk.specs.declared.desk.Desk.{Desk}
use Rattle.pyd_desk.specs.declared.desk.Mark.{Mark}
use Rattle.pyd_desk.specs.declared.desk.PortKind.{PortKind}
use Rattle.pyd_desk.specs.declared.desk.PortKind.TheVariants.{One}
use Rattle.pyd_desk.specs.Desks.{blank, desk_of, mark_at}
use Rattle.pyd_desk.specs.Lines.{TellsPorts, kind_of}
use Rattle.pyd_desk.specs.Growing.{gone, marks_with, told}
use Rattle.pyd_desk.proofs.Written.{desk_by}
use Rattle.pyd_desk.proofs.Placing.{fresh_after, fresh_before, fresh_by, kind_in, kind_later, kind_none, kind_or, kind_past}

-- marks that tell of ports are else as they were
told_kind : (o : Option Node) (m : Mark) → (told o m).ports ≡ kind_or o m.ports
told_kind None m = refl
told_kind (Some n) m = refl

told_else : (o : Option Node) (m : Mark) → gone (told o m) ≡ gone m
told_else None m = refl
told_else (Some n) m = refl

put_gone_at : (marks : List Mark) (id k : ℕ)
    → gone (put_at (mark_at marks) id (gone (mark_at marks id)) k) ≡ gone (mark_at marks k)
put_gone_at marks id k = elim (at_cases k id) [
  | inl same ↦
      ap gone (put_same (mark_at marks) id (gone (mark_at marks id)) k same)
      ∙ ap (λ i. gone (mark_at marks i)) (sym same)
  | inr other ↦ ap gone (put_else (mark_at marks) id (gone (mark_at marks id)) k other)
]

-- a desk doesn't read them
pub same_marks : (d : Desk) (id : ℕ) (ns : List Node) (marks : List Mark)
    → ((k : ℕ) → mark_at marks k ≡ marks_with id ns d.marks.items k)
    → desk_by d.stores.items d.alive.items d.undone.items (mark_at marks) ≡ desk_of d
same_marks d id ns marks are =
    let same : (λ k. gone (mark_at marks k)) ≡ (λ k. gone (mark_at d.marks.items k))
    = (λ i k. (ap gone (are k)
    ∙ told_else (node_at ns k) (put_at (mark_at d.marks.items) id (gone (mark_at d.marks.items id)) k)
    ∙ put_gone_at d.marks.items id k) i) in
    ap (desk_by d.stores.items d.alive.items d.undone.items) same

over_true : (a b : Bool) → a ≡ false → b ≡ true → (not a && b) ≡ true
over_true true b f t = absurd (cc (f))
over_true false b f t = t

-- numbers of past nodes lie below the next
pub past_below : (p : Plan) (g : Graph) → IsGraphSound p g → (x : Node) → Contains g.past x
    → x.id < g.next
past_below p g sound x at =
    sound.below x.id
    (over_true (stands x.id g.chain) (stands x.id g.past || is_some (g.driver x.id))
    (fresh_stands x.id g.chain (past_fresh p g x sound at))
    (ap (λ b. b || is_some (g.driver x.id)) (stands_true x.id g.past x at refl)))

module _ (p : Plan) (g : Graph) (n : Node) (before after : List Node) (sound : IsGraphSound p g)
    (split : g.chain ≡ before ++ n ∷ after) where
  order : IsOrdered (is_over g) g.next (before ++ n ∷ after)
  order = subst (IsOrdered (is_over g) g.next) split sound.listed

  there : Contains g.chain n
  there = subst (λ (ns : List Node). Contains ns n) (sym split)
      (Contains-append_right before (n ∷ after) n (here n after))

  pub is_below : n.id < g.next
  is_below = list_below (is_over g) g.next g.chain n sound.listed there

  -- the piece of a node is new
  pub piece_new : PieceOrder → (stores : runs.Stores)
      → IsNew (and_nodes (is_over g) before) g.next (piece_for p (recorded g stores) g.next n)
  piece_new law stores =
      law p.file (limits_of p) n (control_value (recorded g stores) n.work) g.next
      (and_nodes (is_over g) before)
      (nodes-below (is_over g) g.next before
      (ordered-left (is_over g) g.next before (n ∷ after) order) sound.below)
      (ordered-right (is_over g) g.next before (n ∷ after) order).2

  -- its numbers lie below the next
  pub piece_below : (piece : Piece) → IsNew (and_nodes (is_over g) before) g.next piece
      → All (λ (x : Node). x.id < piece.next) piece.nodes
  piece_below piece new =
      All-weaker (Contains piece.nodes) (λ (x : Node). x.id < piece.next)
      (λ x at. list_below (and_nodes (is_over g) before) piece.next piece.nodes x new.nodes at)
      piece.nodes (All-contains_itself piece.nodes)

  chain_below : (x : Node) → Contains g.chain x → x.id < g.next
  chain_below x at = list_below (is_over g) g.next g.chain x sound.listed at

  in_chain : (ns : List Node) → ((x : Node) → Contains ns x → Contains (before ++ n ∷ after) x)
      → (x : Node) → Contains ns x → Contains g.chain x
  in_chain ns within x at = subst (λ (ys : List Node). Contains ys x) (sym split) (within x at)

  before_there : (x : Node) → Contains before x → Contains (before ++ n ∷ after) x
  before_there x at = Contains-append_left before (n ∷ after) x at

  -- a new number is none of the nodes that were there
  high_fresh : (ns : List Node) (k : ℕ) → ((x : Node) → Contains ns x → x.id < g.next) → g.next ≤ k
      → IsFresh k ns
  high_fresh ns k low high =
      fresh_by ns k (λ x at z. let less = low x at in absurd (omega (arith, less, z, high)))

  past_high : (k : ℕ) → g.next ≤ k → IsFresh k g.past
  past_high k high = high_fresh g.past k (past_below p g sound) high

  before_high : (k : ℕ) → g.next ≤ k → IsFresh k before
  before_high k high =
      high_fresh before k (λ x at. chain_below x (in_chain before before_there x at)) high

  after_high : (k : ℕ) → g.next ≤ k → IsFresh k after
  after_high k high =
      high_fresh after k (λ x at. list_below (and_nodes (is_over g) before) g.next (n ∷ after) x
      (ordered-right (is_over g) g.next before (n ∷ after) order) (behind_there x at)) high
    where
      behind_there : (x : Node) → Contains after x → Contains (n ∷ after) x
      behind_there x at = Contains-append_right (n ∷ []) after x at

  past_apart : IsFresh n.id g.past
  past_apart =
      fresh_by g.past n.id (λ x at z.
      fresh_apart x.id g.chain n (past_fresh p g x sound at) there (sym z))

  chain_apart : AreApart (before ++ n ∷ after)
  chain_apart = list_apart (is_over g) g.next (before ++ n ∷ after) order

  module _ (piece : Piece) (new : IsNew (and_nodes (is_over g) before) g.next piece) where
    abbrev later : List Node
    later = map (redirect_node n.id (piece_images piece)) after

    -- what stands at the ports of all nodes once the piece is there
    abbrev kinds : ℕ → PortKind
    kinds k = kind_of (node_at (g.past ++ (before ++ (piece.nodes ++ later))) k)

    -- at a new number only the piece says what stands there
    kinds_high : (k : ℕ) → g.next ≤ k → kinds k ≡ kind_or (node_at piece.nodes k) One
    kinds_high k high =
        kind_past g.past (before ++ (piece.nodes ++ later)) k (past_high k high)
        ∙ kind_past before (piece.nodes ++ later) k (before_high k high)
        ∙ kind_in piece.nodes later k
        ∙ ap (kind_or (node_at piece.nodes k))
        (kind_later n.id (piece_images piece) after k ∙ kind_none after k (after_high k high))

    -- at any other the piece says nothing
    kinds_low : (k : ℕ) → k < g.next
        → kinds k ≡ kind_or (node_at g.past k) (kind_or (node_at before k) (kind_of (node_at after k)))
    kinds_low k low =
        kind_in g.past (before ++ (piece.nodes ++ later)) k
        ∙ ap (kind_or (node_at g.past k))
        (kind_in before (piece.nodes ++ later) k
        ∙ ap (kind_or (node_at before k))
        (kind_past piece.nodes later k (from_fresh g.next piece.nodes k new.numbers low)
        ∙ kind_later n.id (piece_images piece) after k))

    -- at the node's own number stands nothing of it any more
    kinds_gone : kinds n.id ≡ One
    kinds_gone =
        kinds_low n.id is_below
        ∙ ap (λ o. kind_or o (kind_or (node_at before n.id) (kind_of (node_at after n.id))))
        (fresh_none g.past n.id past_apart)
        ∙ ap (λ o. kind_or o (kind_of (node_at after n.id)))
        (fresh_none before n.id (fresh_before before n after chain_apart))
        ∙ kind_none after n.id (fresh_after before n after chain_apart)

    -- elsewhere it is as it was
    kinds_else : (k : ℕ) → k < g.next → k ≢ n.id → kinds k ≡ kind_of (node_at (nodes g) k)
    kinds_else k low other =
        kinds_low k low
        ∙ sym (ap (λ (ns : List Node). kind_of (node_at (g.past ++ ns) k)) split
        ∙ kind_in g.past (before ++ n ∷ after) k
        ∙ ap (kind_or (node_at g.past k))
        (kind_in before (n ∷ after) k
        ∙ ap (λ b. kind_or (node_at before k) (kind_of (cond b (Some n) (node_at after k))))
        (other_test n.id k (λ z. other (sym z)))))

    -- marks that told of the ports tell of them again
    pub tells_on : (old new_marks : List Mark) → length old ≡ g.next → TellsPorts (nodes g) old
        → ((k : ℕ) → mark_at new_marks k ≡ marks_with n.id piece.nodes old k)
        → (k : ℕ) → (mark_at new_marks k).ports ≡ kinds k
    tells_on old new_marks count tells are k =
        ap (λ (m : Mark). m.ports) (are k)
        ∙ told_kind (node_at piece.nodes k) (put_at (mark_at old) n.id (gone (mark_at old n.id)) k)
        ∙ elim (below_or k g.next) [
          | inr high ↦
              ap (λ (m : Mark). kind_or (node_at piece.nodes k) m.ports)
              (put_else (mark_at old) n.id (gone (mark_at old n.id)) k
              (λ z. let low = is_below in absurd (omega (arith, low, z, high)))
              ∙ get_or_past old k blank (omega (arith, count, high)))
              ∙ sym (kinds_high k high)
          | inl low ↦
              ap (λ o. kind_or o (put_at (mark_at old) n.id (gone (mark_at old n.id)) k).ports)
              (fresh_none piece.nodes k (from_fresh g.next piece.nodes k new.numbers low))
              ∙ elim (at_cases k n.id) [
                | inl same ↦
                    ap (λ (m : Mark). m.ports)
                    (put_same (mark_at old) n.id (gone (mark_at old n.id)) k same)
                    ∙ sym (ap kinds same ∙ kinds_gone)
                | inr other ↦
                    ap (λ (m : Mark). m.ports)
                    (put_else (mark_at old) n.id (gone (mark_at old n.id)) k other)
                    ∙ tells k ∙ sym (kinds_else k low other)
              ]
        ]
