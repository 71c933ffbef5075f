-- Line and desk behind a Refine are those of its state.
use Rattle.std.proofs.Common.{◌≡◌, ◌+◌, ℕ, List, ◌∷◌, ◌++◌, drop, take, Some, refl, ap, sym, subst, ◌∙◌, arith}
use Rattle.std.specs.List.{slice_get}
use Rattle.std.proofs.lemmas.List.{take-append-drop}
use Rattle.pyd_board.specs.declared.event.Act.TheVariants.{Refine}
use Rattle.pyd_ir.specs.declared.node.Node.{Node}
use Rattle.pyd_translate.specs.declared.piece.Piece.{Piece}
use Rattle.pyd_refine.specs.Laws.{IsNew, PieceOrder}
use Rattle.pyd_refine.specs.Ordering.{and_nodes}
use Rattle.pyd_refine.specs.Redirecting.{replaced_by}
use Rattle.pyd_runs.specs.Plans.{Plan}
use Rattle.pyd_runs.specs.Graphs.{Graph}
use Rattle.pyd_runs.specs.Records.{recorded}
use Rattle.pyd_runs.specs.Growth.{piece_for}
use Rattle.pyd_runs.specs.Effects.{State, acted}
use Rattle.pyd_runs.specs.Sound.{IsSound, is_over}
use Rattle.pyd_runs.proofs.Growing.{growing}
use Rattle.pyd_runs.proofs.Refined.{grown_is}
use Rattle.pyd_desk.specs.declared.desk.Desk.{Desk}
use Rattle.pyd_desk.specs.declared.line.Line.{Line}
use Rattle.pyd_desk.specs.Desks.{desk_of, is_lost, mark_at}
use Rattle.pyd_desk.specs.Lines.{TellsPorts, chain_of, past_of}
use Rattle.pyd_desk.specs.Growing.{HasNew, IsRefined, marks_with}
use Rattle.pyd_desk.specs.States.{IsSameLine, IsStateOf}
use Rattle.pyd_desk.proofs.Standing.{nodes_of}
use Rattle.pyd_desk.proofs.Written.{desk_by}
use Rattle.pyd_desk.proofs.Placing.{split_place}
use Rattle.pyd_desk.proofs.Grown.{is_below, piece_below, piece_new, same_marks, tells_on}

module _ (law : PieceOrder) (old new : Line) (d e : Desk) (at : ℕ) (piece : Piece)
    (p : Plan) (s : State) (n : Node)
    (past : past_of new ≡ past_of old)
    (chain : chain_of new
    ≡ take at (chain_of old) ++ replaced_by n.id piece (drop (at + 1) (chain_of old)))
    (has : HasNew n.id piece.next piece.nodes d e)
    (sound : IsSound p s) (is : IsStateOf old d s)
    (there : slice_get (chain_of old) at ≡ Some n)
    (that : piece ≡ piece_for p (recorded s.graph s.desk.stores) s.graph.next n) where
  abbrev g : Graph
  g = s.graph

  abbrev before : List Node
  before = take at (chain_of old)

  abbrev after : List Node
  after = drop (at + 1) (chain_of old)

  split : g.chain ≡ before ++ n ∷ after
  split = is.graph.chain ∙ split_place (chain_of old) at n there

  new_piece : IsNew (and_nodes (is_over g) before) g.next piece
  new_piece =
      subst (IsNew (and_nodes (is_over g) before) g.next) (sym that)
      (piece_new p g n before after sound.graph split law s.desk.stores)

  -- the marks by number
  marks_are : (k : ℕ) → mark_at e.marks.items k ≡ marks_with n.id piece.nodes d.marks.items k
  marks_are =
      let low = is_below p g n before after sound.graph split in
      let more = new_piece.grown in
      let count = is.marks in
      has.marks (omega (arith, low, count)) (omega (arith, more, count))
      (piece_below p g n before after sound.graph split piece new_piece)

  desk_same : desk_of d ≡ desk_of e
  desk_same =
      sym (same_marks d n.id piece.nodes e.marks.items marks_are)
      ∙ (λ i. desk_by (sym has.stores i) (sym has.alive i).items (sym has.undone i)
      (mark_at e.marks.items))

  nodes_now : new.nodes.items ≡ g.past ++ (before ++ replaced_by n.id piece after)
  nodes_now =
      sym (take-append-drop new.settled new.nodes.items)
      ∙ ap (λ xs. xs ++ chain_of new) (past ∙ sym is.graph.past)
      ∙ ap (λ xs. g.past ++ xs) chain

  ports_now : TellsPorts new.nodes.items e.marks.items
  ports_now =
      subst (λ (ns : List Node). TellsPorts ns e.marks.items) (sym nodes_now)
      (tells_on p g n before after sound.graph split piece new_piece d.marks.items e.marks.items
      is.marks
      (subst (λ (ns : List Node). TellsPorts ns d.marks.items) (sym (nodes_of old d g is.graph))
      is.graph.ports)
      marks_are)

  state_now : IsStateOf new e (record s { graph = growing g n before after piece })
  state_now =
      let more = new_piece.grown in
      let marks = is.marks in
      let driver = is.driver in
      record {
        graph = record {
          past = is.graph.past ∙ sym past;
          chain = sym chain;
          driver = is.graph.driver ∙ (λ i k. sym (has.driver k) i);
          ports = ports_now;
        };
        desk = is.desk ∙ desk_same;
        lost = is.lost ∙ sym (ap (λ x. is_lost x.items) has.alive);
        marks = has.mark_count (omega (arith, more, marks));
        driver = has.driver_count (omega (arith, more, driver));
      }

  pub refined_state : (seat : ℕ) → IsStateOf new e (acted p s seat (Refine n.id))
  unfolding acted
  refined_state seat =
      subst (λ (x : Graph). IsStateOf new e (record s { graph = x }))
      (ap (growing g n before after) that
      ∙ sym (grown_is p g s.desk.stores n.id before n after sound.graph split refl))
      state_now

-- with the node's number by its place
pub refined_is : PieceOrder → (old new : Line) (d e : Desk) (at id : ℕ) (piece : Piece)
    → ((n : Node) → slice_get (chain_of old) at ≡ Some n → id ≡ n.id)
    → past_of new ≡ past_of old
    → chain_of new ≡ take at (chain_of old) ++ replaced_by id piece (drop (at + 1) (chain_of old))
    → HasNew id piece.next piece.nodes d e → IsRefined old d at piece new e
refined_is law old new d e at id piece number past chain has p s seat n sound is there that =
    let same = number n there in
    refined_state law old new d e at piece p s n past
    (subst (λ i. chain_of new ≡ take at (chain_of old) ++ replaced_by i piece (drop (at + 1) (chain_of old))) same chain)
    (subst (λ i. HasNew i piece.next piece.nodes d e) same has)
    sound is there that seat

-- room changes no node
pub past_still : (old new : Line) → IsSameLine old new → past_of new ≡ past_of old
past_still old new same = λ i. take (same.settled i) (same.nodes i)

pub chain_still : (old new : Line) → IsSameLine old new → chain_of new ≡ chain_of old
chain_still old new same = λ i. drop (same.settled i) (same.nodes i)
