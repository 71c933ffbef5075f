-- A file of tokens that nothing in nests too deep doesn't nest too deep.
use Rattle.std.proofs.Common.{◌≡◌, ℕ, ◌-◌, ◌≤◌, inl, inr, List, [], ◌∷◌, Bool, true, false, cond, ltb, Option, Some, None, refl, sym, ap, subst, ◌∙◌}
use Rattle.std.proofs.lemmas.Bool.{lt-ltb, cases_lt}
use Rattle.pyd_syntax.specs.Grammar.{start as from_file}
use Rattle.pyd_tree.specs.declared.file.File.{File}
use Rattle.pyd_derivation.specs.declared.piece.Piece.{Piece}
use Rattle.pyd_derivation.specs.Pieces.{part}
use Rattle.pyd_derivation.specs.Productions.{grammar}
use Rattle.pyd_derivation.specs.Derivation.{values, steps_of}
use Rattle.pyd_measure.specs.Limit.{deepest}
use Rattle.pyd_measure.specs.Marks.{Mark, marks, deep_line}
use Rattle.pyd_measure.specs.Depth.{file_nesting}
use Rattle.pyd_measure.specs.Laws.{OneLine, ShallowFiles}
use Rattle.pyd_measure.specs.States.{state}
use Rattle.pyd_measure.proofs.Single.{derived, deep_by, line_by}
use Rattle.pyd_measure.proofs.Depths.{depth}
use Rattle.pyd_measure.proofs.Bounds.{AllBelow, below, items_below}

tested : (n : ℕ) (b : Bool) → ltb deepest n ≡ b → b ≡ false → n ≤ deepest
tested n b e f = elim (cases_lt deepest n) as (λ _. n ≤ deepest) [ inl l ↦ absurd (let t = lt-ltb deepest n l in cc) | inr l ↦ l ]

-- no mark is deep
none_deep : (b : Bool) (line : ℕ) (o : Option ℕ) → cond b (Some line) o ≡ None → (b ≡ false) × (o ≡ None)
none_deep true line o e = cc
none_deep false line o e = (refl, e)

all_shallow : (ms : List Mark) → deep_line ms ≡ None → AllBelow deepest ms
all_shallow [] e = tt
all_shallow (m ∷ ms) e = let r = none_deep (ltb deepest m.nesting) m.line (deep_line ms) e in (tested m.nesting _ refl r.0, all_shallow ms r.1)

pub shallow_from : OneLine → ShallowFiles
shallow_from one bytes ts f h r =
    let same : deep_line (marks bytes 0 r.1.0) ≡ None =
    line_by bytes ts r.1.0 r.1.1 r.1.2
    ∙ one.deep ts (state (steps_of r.1.0) ts).found.deep None (deep_by (steps_of r.1.0) ts (state (steps_of r.1.0) ts).found.deep (derived ts r.1.0 r.1.1 r.1.2) refl) h in
    let d : depth (part (values grammar bytes r.1.0) 0) ≤ deepest - 0 = below bytes from_file r.1.0 r.1.1 0 deepest (all_shallow (marks bytes 0 r.1.0) same) 0 in
    let e : depth r.0 ≤ deepest = subst (λ (p : Piece). depth p ≤ deepest) (ap (λ (z : List Piece). part z 0) r.1.3) d in
    subst (λ (z : File). file_nesting z ≤ deepest) (sym r.2) (items_below r.0 deepest e)
