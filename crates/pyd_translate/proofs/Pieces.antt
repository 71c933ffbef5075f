-- What was made onto no node is a piece.
use Rattle.std.proofs.Common.{◌≡◌, ℕ, List, [], sym, ap, ◌∙◌, Option, Some, Ok, Err}
use Rattle.std.specs.Prelude.{Result, IfOk}
use Rattle.pyd_value.specs.declared.memory.NoMemory.{NoMemory}
use Rattle.pyd_ir.specs.declared.arg.Arg.{Arg}
use Rattle.pyd_ir.specs.declared.node.Node.{Node}
use Rattle.pyd_translate.specs.Making as making
use Rattle.pyd_translate.specs.Statements.{done, context}
use Rattle.pyd_tree.specs.declared.file.File.{File}
use Rattle.pyd_ir.specs.declared.work.Side.{Side}
use Rattle.pyd_ir.specs.declared.work.Frame.{Frame}
use Rattle.pyd_translate.specs.declared.piece.Piece.{Piece}
use Rattle.pyd_translate.specs.Rests.{block_unfolds}
use Rattle.pyd_translate.specs.declared.at.At.{At}
use Rattle.pyd_translate.specs.Sides.{side_unfolds}
use Rattle.pyd_translate.specs.Starts.{passage, piece_of, done_or_stopped, value_or_unbound, value_piece, side_piece, block_piece}
use Rattle.pyd_translate.specs.Drafts.{onto}

-- a value that was made, or that a Stop left out
pub value_made : (env : List Arg) (p : making.Piece Arg) (nodes : List Node) (got : Option Arg) (next : ℕ)
    → onto [] p ≡ (nodes, got, next) → piece_of nodes (done env (value_or_unbound got)) next ≡ value_piece env p
unfolding onto
value_made env p nodes got next e =
    λ i. piece_of (sym (ap (λ t. t.0) e) i) (done env (value_or_unbound (sym (ap (λ t. t.1) e) i))) (sym (ap (λ t. t.2) e) i)

-- a side that was made with a copy of the slots
pub side_done : (file : File) (a : At) (s : Side) (env slots : List Arg) (line ids next : ℕ) (start nodes : List Node) (got : Option Arg) (v : Arg)
    → slots ≡ env → start ≡ [] → v ≡ value_or_unbound got
    → onto start (side_unfolds file s (context a.routine a.depth line env) ids) ≡ (nodes, got, next)
    → piece_of nodes (done slots v) next ≡ side_piece file a s env line ids
side_done file a s env slots line ids next start nodes got v same none is h =
    (λ i. piece_of nodes (done (same i) (is i)) next)
    ∙ value_made env (side_unfolds file s (context a.routine a.depth line env) ids) nodes got next
    (ap (λ ns. onto ns (side_unfolds file s (context a.routine a.depth line env) ids)) (sym none) ∙ h)

-- statements that were made with a copy of the slots
pub block_done : (r : Result Piece NoMemory) (file : File) (a : At) (env slots end : List Arg) (ids next : ℕ)
    (start nodes : List Node) (rest : List Frame) (v : Arg)
    → slots ≡ env → start ≡ [] → rest ≡ a.rest
    → onto start (block_unfolds file a.routine a.depth (passage file a.routine a.start) rest slots ids)
    ≡ (nodes, Some (done end v), next)
    → IfOk r (λ p. p ≡ piece_of nodes (done end v) next)
    → IfOk r (λ p. p ≡ block_piece file a env ids)
unfolding onto
block_done (Ok p) file a env slots end ids next start nodes rest v same none is h made =
    let e : onto [] (block_unfolds file a.routine a.depth (passage file a.routine a.start) a.rest env ids)
    ≡ (nodes, Some (done end v), next) =
    (λ i. onto (sym none i) (block_unfolds file a.routine a.depth (passage file a.routine a.start) (sym is i) (sym same i) ids)) ∙ h in
    made ∙ (λ i. piece_of (sym (ap (λ t. t.0) e) i) (done_or_stopped env (sym (ap (λ t. t.1) e) i)) (sym (ap (λ t. t.2) e) i))
block_done (Err x) file a env slots end ids next start nodes rest v same none is h made = tt
