-- Refining keeps a list in which nodes have what they need.
use Rattle.std.proofs.Common.{ℕ, List, ◌∷◌, map, ap, Option, Some, None, Result, Ok, Err}
use Rattle.std.specs.Prelude.{◌||◌}
use Rattle.pyd_value.specs.declared.fault.Fault.{Fault}
use Rattle.pyd_tree.specs.declared.file.File.{File}
use Rattle.pyd_meaning.specs.declared.limits.Limits.{Limits}
use Rattle.pyd_ir.specs.declared.arg.Arg.{Arg}
use Rattle.pyd_ir.specs.declared.node.Node.{Node}
use Rattle.pyd_ir.specs.Arguments.{arguments}
use Rattle.pyd_ir.specs.Inputs.{Given}
use Rattle.pyd_ir.specs.Ports.{Ports}
use Rattle.pyd_translate.specs.Making as making
use Rattle.pyd_translate.specs.Naming.{Numbers, AreAmong}
use Rattle.pyd_translate.specs.Statements.{Done}
use Rattle.pyd_translate.specs.Starts.{done_or_stopped, statements_piece}
use Rattle.pyd_translate.specs.Walk.{give, work_ports, walk}
use Rattle.pyd_translate.specs.Matching.{AreGiven, AreAlike, IsReached}
use Rattle.pyd_translate.specs.Supplied.{HasNeeds, WhereGiven, AreSupplied}
use Rattle.pyd_translate.proofs.Supplying.{AreStocked}
use Rattle.pyd_refine.specs.Composites.{slots_of, refined, refined_piece}
use Rattle.pyd_refine.specs.Redirecting.{images, piece_images, redirect_node, replaced_by}
use Rattle.pyd_refine.specs.Ordering.{and_one, and_nodes, IsOrdered, LieBelow}
use Rattle.pyd_refine.specs.Laws.{AreFrom, IsNew}
use Rattle.pyd_refine.specs.Supply.{SupplyLaw}
use Rattle.pyd_refine.proofs.Ordering.{is-itself, nodes-below, ordered-left, ordered-right}
use Rattle.pyd_refine.proofs.Whole.{piece-stands, back}
use Rattle.pyd_refine.proofs.Ports.{AreImages}
use Rattle.pyd_refine.proofs.Pieces.{Replaces}
use Rattle.pyd_refine.proofs.Taking.{piece-takes}
use Rattle.pyd_refine.proofs.Newness.{piece-new}
use Rattle.pyd_refine.proofs.Needs.{where-yields, supplied-higher, supplied-left, supplied-right, supplied-both}
use Rattle.pyd_refine.proofs.Stocking.{stocked-supplied, work-stocked}
use Rattle.pyd_refine.proofs.Later.{later-supplied}

module _ (file : File) (limits : Limits) (known : Numbers) (ids : ℕ) (below : LieBelow known ids)
    (node : Node) (after : List Node) (order : IsOrdered known ids (node ∷ after)) (given : Given)
    (env : List Arg) where
  -- later nodes, by what came of the piece
  behind-supplied : (nodes : List Node) (got : Option Done) (next : ℕ) (wr : Result Given Fault) (mr : Result Ports Fault)
      → AreFrom ids nodes
      → AreAmong (and_nodes known nodes) (images (done_or_stopped env got).env (done_or_stopped env got).value)
      → AreAlike wr got mr (IsReached ids given next AreImages)
      → WhereGiven mr (λ ports. AreSupplied file limits ids after (give node.id ports given))
      → WhereGiven wr (λ reached. AreSupplied file limits next
      (map (redirect_node node.id (images (done_or_stopped env got).env (done_or_stopped env got).value)) after) reached)
  behind-supplied nodes (Some d) next (Ok reached) (Ok ports) from among ends s =
      later-supplied node.id (images d.env d.value) file limits (and_one known node.id) (and_nodes known nodes) ids next after
      (give node.id ports given) reached ends.grown (ap (λ t. t || known node.id) (is-itself node.id))
      (back file limits known ids below node after order given env nodes from) among order.3
      (piece-stands file limits known ids below node after order given env reached d ports ends.kept ends.related.0)
      ends.related.1 s
  behind-supplied nodes None next (Ok reached) (Ok ports) from among ends s = absurd ends
  behind-supplied nodes got next (Ok reached) (Err e) from among ends s = absurd ends
  behind-supplied nodes got next (Err e) mr from among ends s = tt

  -- the piece and the later nodes
  place-supplied : (p : making.Piece Done) → IsNew known ids (statements_piece env p)
      → Replaces file limits ids given p (work_ports file limits node.work node given)
      → (AreGiven ids given (arguments node.work) → HasNeeds file node.routine given node.work
      → AreStocked file limits p.nodes given)
      → AreSupplied file limits ids (node ∷ after) given
      → AreSupplied file limits p.next (replaced_by node.id (statements_piece env p) after) given
  unfolding AreSupplied
  place-supplied p new is stocked s =
      supplied-both file limits p.next p.nodes (map (redirect_node node.id (piece_images (statements_piece env p))) after) given
      (stocked-supplied file limits known p.next p.nodes given new.nodes (stocked s.0 s.1))
      (where-yields (walk file limits p.nodes given) _
      (behind-supplied p.nodes p.got p.next (walk file limits p.nodes given).result
      (work_ports file limits node.work node given).result new.numbers new.ports is.ends s.2))

-- the piece of a composite that is ready leaves the list supplied
pub supplies : SupplyLaw
supplies file limits known ids given before node after chosen below order supplied ready =
    let here = and_nodes known before in
    let left = ordered-left known ids before (node ∷ after) order in
    let right = ordered-right known ids before (node ∷ after) order in
    let low = nodes-below known ids before left below in
    let p = refined file limits node chosen ids in
    let new = piece-new file limits node chosen ids here low right.2 in
    supplied-both file limits p.next before (replaced_by node.id (refined_piece file limits node chosen ids) after) given
    (supplied-higher file limits ids p.next before given new.grown
    (supplied-left file limits ids before (node ∷ after) given supplied))
    (λ reached walked.
    place-supplied file limits here ids low node after right reached (slots_of node.work) p new
    (piece-takes file limits node chosen ids reached (ready reached walked))
    (λ are needs. work-stocked file limits ids reached node.work node chosen are needs)
    (supplied-right file limits ids before (node ∷ after) given supplied reached walked))
