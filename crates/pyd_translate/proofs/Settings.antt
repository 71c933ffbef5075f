-- What a setting says of its routine.
use Rattle.std.proofs.Common.{◌≡◌, ℕ, ◌+◌, List, [], ◌∷◌, Option, Some, None, refl, sym, ap, ◌∙◌, arith}
use Rattle.std.specs.List.{slice_get}
use Rattle.pyd_tree.specs.declared.expression.Expr.{Expr}
use Rattle.pyd_tree.specs.declared.statement.Stmt.{Stmt}
use Rattle.pyd_tree.specs.declared.file.File.{File}
use Rattle.pyd_names.specs.Binding.{locals}
use Rattle.pyd_scope.specs.declared.routine.Routine.{Routine}
use Rattle.pyd_scope.specs.Numbering.{Entry, Point, point, table, past_expression}
use Rattle.pyd_scope.specs.Numbering as numbering
use Rattle.pyd_scope.specs.Parts.{routines}
use Rattle.pyd_scope.specs.Passages.{Passage, entry_passage, passage_at}
use Rattle.pyd_scope.specs.Resolving.{slots_in}
use Rattle.pyd_scope.proofs.Resolved.{slots}
use Rattle.pyd_translate.specs.Compounds.{behind, past_first, passage_behind}
use Rattle.pyd_translate.specs.Expressions.{unfolded}
use Rattle.pyd_translate.proofs.Numbered.{expression_count}

module _ (file : File) (rs : List Routine) (k : ℕ) (are : rs ≡ routines file) where
  -- the slots of a routine that is there
  pub slots_there : (r : Routine) → Some r ≡ slice_get rs k → r.slots ≡ locals file k
  slots_there r is = ap slots_in is ∙ slots file rs k are

  -- those of one that isn't
  pub slots_missing : None ≡ slice_get rs k → [] ≡ locals file k
  slots_missing is = ap slots_in is ∙ slots file rs k are

same_place : (ss : List Stmt) (p : Point) → numbering.past_first ss p ≡ past_first ss p
same_place [] p = refl
same_place (s ∷ ss) p = refl

-- statements at a place
abbrev pub passage : List Stmt → Point → Passage
passage ss p = record { stmts = ss; point = p }

module _ (file : File) (routine k : ℕ) where
  -- what follows a statement that is there
  pub behind_found : (e : Entry) (ss : List Stmt) (p : Point)
      → Some e ≡ slice_get (table file routine) k → ss ≡ behind e.stmts
      → p ≡ numbering.past_first e.stmts (point k e.expression)
      → passage ss p ≡ passage_behind (passage_at file routine k)
  behind_found e ss p is others place =
      (λ i. passage (others i) ((place ∙ same_place e.stmts (point k e.expression)) i))
      ∙ ap (λ (o : Option Entry). passage_behind (entry_passage o k)) is

  -- what follows one that isn't
  pub behind_missing : (here : Passage) → None ≡ slice_get (table file routine) k
      → here ≡ entry_passage None k → here ≡ passage_behind (passage_at file routine k)
  behind_missing here is none = none ∙ ap (λ (o : Option Entry). passage_behind (entry_passage o k)) is

-- the place behind an expression, by how many expressions there are in it
pub expression_past : (e : Expr) (s k n : ℕ)
    → ((file : File) → n ≡ k + (unfolded file e).count)
    → point s n ≡ past_expression e (point s k)
expression_past e s k n is =
    let none : File = record { items = [] } in
    let statement : s ≡ s + 0 = omega arith in
    λ i. point (statement i) ((is none ∙ ap (λ m. k + m) (sym (expression_count none e))) i)
