-- The nodes of a side of a choice do what it means.
use Rattle.std.proofs.Common.{◌≡◌, ℕ, suc, ◌+◌, List, [], ◌∷◌, map, drop, take, refl, sym, ap, subst, ◌∙◌, arith, Option, Some, None}
use Rattle.std.specs.List.{slice_get, drop-map}
use Rattle.std.proofs.lemmas.List.{drop-drop}
use Rattle.pyd_value.specs.declared.value.Value.{Value}
use Rattle.pyd_value.specs.declared.value.Value.TheVariants as value
use Rattle.pyd_value.specs.declared.fault.Fault.TheVariants.{Raised}
use Rattle.pyd_value.specs.declared.fault.Kind.TheVariants.{NameError}
use Rattle.pyd_value.specs.declared.operator.CmpOp.{CmpOp}
use Rattle.pyd_tree.specs.declared.expression.Expr.{Expr, out-Expr}
use Rattle.pyd_tree.specs.declared.expression.Expr.TheOpen.{Expr-F}
use Rattle.pyd_tree.specs.declared.expression.Suffix.{Suffix}
use Rattle.pyd_meaning.specs.Setting.{raises, value_or}
use Rattle.pyd_meaning.specs.Expression.{Meaning, meaning_of, conjunction as conjunction_meant, disjunction as disjunction_meant, compared as compared_meant}
use Rattle.pyd_ir.specs.declared.arg.Arg.{Arg}
use Rattle.pyd_ir.specs.declared.arg.Arg.TheVariants.{Known}
use Rattle.pyd_ir.specs.declared.work.Side.{Side}
use Rattle.pyd_ir.specs.declared.work.Side.TheVariants as side
use Rattle.pyd_ir.specs.Arguments.{side_arguments}
use Rattle.pyd_ir.specs.Inputs.{Given, value_of}
use Rattle.pyd_translate.specs.Making.{stop_by}
use Rattle.pyd_translate.specs.Expressions.{unfolded, counts, operand_counts, members_from, conjunction, disjunction, compared}
use Rattle.pyd_translate.specs.Sides.{unfolded_links, members_left, links_left, left_at, unfold_numbered, left_numbered, side_unfolds}
use Rattle.pyd_translate.specs.Walk.{if_there, left_of, numbered_meaning, numbered_left}
use Rattle.pyd_translate.specs.Matching.{HasValue, HaveValues}
use Rattle.pyd_translate.specs.Laws.{Stands, SideLaw}
use Rattle.pyd_translate.proofs.Induction.{Each}
use Rattle.pyd_translate.proofs.Within.{member_expressions, operand_expressions, part_expressions}
use Rattle.pyd_translate.proofs.Numbered.{placed_parts, placed_behind, placed_members, placed_operands}
use Rattle.pyd_translate.proofs.Tables.{found_stands}
use Rattle.pyd_translate.proofs.Sequencing.{matches-pure, matches-stop, matches-more, spares-matches}
use Rattle.pyd_translate.proofs.ChoicesMatch.{of_side, conjunction-does, disjunction-does, compared-does}
use Rattle.pyd_translate.proofs.ExpressionsMatch.{left_side, expression-does}
use Rattle.pyd_translate.proofs.Scopes.{Scope, State, Does, IsRight, setting, place, table, made_in}

-- one item less is left
drop-more : {A B : Type 0} (f : A → B) (m : ℕ) (xs : List A) → drop (suc m) (map f xs) ≡ drop 1 (map f (drop m xs))
drop-more f m xs =
    let more : m + 1 ≡ suc m = omega arith in
    ap (λ n. drop n (map f xs)) (sym more) ∙ sym (drop-drop 1 m (map f xs)) ∙ ap (drop 1) (drop-map f m xs)

-- P of each where it holds of all
each_of : {A : Type 0} (P : A → Type 0) → ((x : A) → P x) → (xs : List A) → Each P xs
each_of P f [] = tt
each_of P f (x ∷ xs) = (f x, each_of P f xs)

module _ (w : Scope) where
  -- what isn't there raises NameError
  stops : (here : State w) → Does w 1 here (stop_by (made_in w here.env) NameError) (raises NameError (place w)) HasValue
  stops here = matches-stop w.file w.limits here.ids here.given HasValue (made_in w here.env) (Raised NameError w.line)

  -- an expression that a number may name
  numbered-does : (o : Option Expr) (k : ℕ) (here : State w) → slice_get (table w) k ≡ o
      → Does w 1 here (unfold_numbered w.file o k (made_in w here.env))
      (numbered_meaning (setting w) o (place w) here.names) HasValue
  numbered-does None k here found = stops here
  numbered-does (Some e) k here found =
      matches-more w.file w.limits 0 1 here.ids here.given HasValue _ _ (omega arith)
      (spares-matches w.file w.limits here.ids here.given HasValue _ _
      (expression-does w e k here (found_stands w.file w.routine k e found)))

  -- links as they are meant
  abbrev links_meant : List (CmpOp × Expr) → List (CmpOp × Meaning)
  links_meant links = map (λ l. (l.0, meaning_of (setting w) l.1)) links

  -- what is left of an `and`
  and-left : (es : List Expr) (k m : ℕ) (here : State w)
      → Stands (table w) (suc k + counts (take m (map (unfolded w.file) es))) (member_expressions (drop m es))
      → ((given : Given) → of_side w given (members_from k (suc m)) here.names
      ≡ conjunction_meant (drop (suc m) (map (meaning_of (setting w)) es)) (place w) here.names)
      → Does w 1 here (members_left w.file conjunction k m (map (unfolded w.file) es) (suc k) (made_in w here.env))
      (conjunction_meant (drop m (map (meaning_of (setting w)) es)) (place w) here.names) HasValue
  and-left es k m here stands left =
      subst (λ us. Does w 1 here (conjunction k m us (suc k + counts (take m (map (unfolded w.file) es))) (made_in w here.env))
      (conjunction_meant (drop m (map (meaning_of (setting w)) es)) (place w) here.names) HasValue) (sym (drop-map (unfolded w.file) m es))
      (subst (λ ms. Does w 1 here (conjunction k m (map (unfolded w.file) (drop m es)) (suc k + counts (take m (map (unfolded w.file) es))) (made_in w here.env))
      (conjunction_meant ms (place w) here.names) HasValue) (sym (drop-map (meaning_of (setting w)) m es))
      (matches-more w.file w.limits 0 1 here.ids here.given HasValue _ _ (omega arith)
      (conjunction-does w k m (drop m es) (each_of (IsRight w) (expression-does w) (drop m es)) _ here stands
      (λ given. left given ∙ ap (λ ms. conjunction_meant ms (place w) here.names) (drop-more (meaning_of (setting w)) m es)))))

  -- what is left of an `or`
  or-left : (es : List Expr) (k m : ℕ) (here : State w)
      → Stands (table w) (suc k + counts (take m (map (unfolded w.file) es))) (member_expressions (drop m es))
      → ((given : Given) → of_side w given (members_from k (suc m)) here.names
      ≡ disjunction_meant (drop (suc m) (map (meaning_of (setting w)) es)) (place w) here.names)
      → Does w 1 here (members_left w.file disjunction k m (map (unfolded w.file) es) (suc k) (made_in w here.env))
      (disjunction_meant (drop m (map (meaning_of (setting w)) es)) (place w) here.names) HasValue
  or-left es k m here stands left =
      subst (λ us. Does w 1 here (disjunction k m us (suc k + counts (take m (map (unfolded w.file) es))) (made_in w here.env))
      (disjunction_meant (drop m (map (meaning_of (setting w)) es)) (place w) here.names) HasValue) (sym (drop-map (unfolded w.file) m es))
      (subst (λ ms. Does w 1 here (disjunction k m (map (unfolded w.file) (drop m es)) (suc k + counts (take m (map (unfolded w.file) es))) (made_in w here.env))
      (disjunction_meant ms (place w) here.names) HasValue) (sym (drop-map (meaning_of (setting w)) m es))
      (matches-more w.file w.limits 0 1 here.ids here.given HasValue _ _ (omega arith)
      (disjunction-does w k m (drop m es) (each_of (IsRight w) (expression-does w) (drop m es)) _ here stands
      (λ given. left given ∙ ap (λ ms. disjunction_meant ms (place w) here.names) (drop-more (meaning_of (setting w)) m es)))))

  -- what is left of a comparison
  links-left : (links : List (CmpOp × Expr)) (whole m k : ℕ) (here : State w) (a : Arg) (v : Value) → HasValue here.ids here.given a v
      → Stands (table w) (k + operand_counts (take m (unfolded_links w.file links))) (operand_expressions (drop m links))
      → ((given : Given) (b : Arg) (u : Value) → value_of given b ≡ Some u
      → of_side w given (side.Tail whole (suc m) b) here.names ≡ compared_meant u (drop (suc m) (links_meant links)) (place w) here.names)
      → Does w 1 here (links_left w.file whole m (unfolded_links w.file links) k (made_in w here.env) a)
      (compared_meant v (drop m (links_meant links)) (place w) here.names) HasValue
  links-left links whole m k here a v has stands left =
      subst (λ us. Does w 1 here (compared whole m us (k + operand_counts (take m (unfolded_links w.file links))) (made_in w here.env) a)
      (compared_meant v (drop m (links_meant links)) (place w) here.names) HasValue)
      (sym (drop-map (λ (l : CmpOp × Expr). (l.0, unfolded w.file l.1)) m links))
      (subst (λ ms. Does w 1 here (compared whole m (unfolded_links w.file (drop m links)) (k + operand_counts (take m (unfolded_links w.file links))) (made_in w here.env) a)
      (compared_meant v ms (place w) here.names) HasValue)
      (sym (drop-map (λ (l : CmpOp × Expr). (l.0, meaning_of (setting w) l.1)) m links))
      (compared-does w whole m (drop m links) (each_of (λ l. IsRight w l.1) (λ l. expression-does w l.1) (drop m links)) _ here a v stands has
      (λ given b u there. left given b u there
      ∙ ap (λ ms. compared_meant u ms (place w) here.names) (drop-more (λ (l : CmpOp × Expr). (l.0, meaning_of (setting w) l.1)) m links))))

  -- what is left of an expression, by its first level
  left-does : (e : Expr) (y : Expr-F Expr Suffix) → out-Expr e ≡ y → (k m : ℕ) (here : State w) (a : Arg) (v : Value)
      → slice_get (table w) k ≡ Some e → Stands (table w) (suc k) (part_expressions y) → HasValue here.ids here.given a v
      → Does w 1 here (left_at w.file y k m a (made_in w here.env))
      (left_of (setting w) y m (value_of here.given a) (place w) here.names) HasValue
  left-does e (Expr-F.And es) opened k m here a v found stands has =
      and-left es k m here (placed_members w.file (table w) m (suc k) es stands)
      (λ given. left_side w given k (suc m) (Known value.None) e (Expr-F.And es) here.names found opened)
  left-does e (Expr-F.Or es) opened k m here a v found stands has =
      or-left es k m here (placed_members w.file (table w) m (suc k) es stands)
      (λ given. left_side w given k (suc m) (Known value.None) e (Expr-F.Or es) here.names found opened)
  left-does e (Expr-F.Compare first links) opened k m here a v found stands has =
      subst (λ o. Does w 1 here (left_at w.file (Expr-F.Compare first links) k m a (made_in w here.env))
      (left_of (setting w) (Expr-F.Compare first links) m o (place w) here.names) HasValue) (sym has.0)
      (links-left links k m (suc k + (unfolded w.file first).count) here a v has
      (placed_operands w.file (table w) m (suc k + (unfolded w.file first).count) links
      (placed_behind w.file (table w) (suc k) first (operand_expressions links) stands))
      (λ given b u there. left_side w given k (suc m) b e (Expr-F.Compare first links) here.names found opened
      ∙ ap (λ o. if_there o w.line (λ x. compared_meant x (drop (suc m) (links_meant links)) (place w) here.names)) there))
  left-does e (Expr-F.Lit u) opened k m here a v found stands has = stops here
  left-does e (Expr-F.Name name) opened k m here a v found stands has = stops here
  left-does e (Expr-F.Tuple members) opened k m here a v found stands has = stops here
  left-does e (Expr-F.Unary op operand) opened k m here a v found stands has = stops here
  left-does e (Expr-F.Chain first links) opened k m here a v found stands has = stops here
  left-does e (Expr-F.Power base exponent) opened k m here a v found stands has = stops here
  left-does e (Expr-F.If test first second) opened k m here a v found stands has = stops here
  left-does e (Expr-F.Call name args) opened k m here a v found stands has = stops here
  left-does e (Expr-F.Suffixed base suffixes) opened k m here a v found stands has = stops here

  -- what is left of an expression that a number may name
  tail-does : (o : Option Expr) (k m : ℕ) (here : State w) (a : Arg) (v : Value)
      → slice_get (table w) k ≡ o → HasValue here.ids here.given a v
      → Does w 1 here (left_numbered w.file o k m a (made_in w here.env))
      (numbered_left (setting w) o m (value_of here.given a) (place w) here.names) HasValue
  tail-does None k m here a v found has = stops here
  tail-does (Some e) k m here a v found has =
      left-does e (out-Expr e) refl k m here a v found
      (placed_parts (table w) k e (found_stands w.file w.routine k e found)) has

  -- each kind of side
  side-does : (s : Side) (here : State w) → HaveValues here.ids here.given (side_arguments s)
      → Does w 1 here (side_unfolds w.file s (made_in w here.env)) (of_side w here.given s here.names) HasValue
  unfolding side_unfolds
  side-does (side.Arg a) here have =
      subst (λ o. Does w 1 here (side_unfolds w.file (side.Arg a) (made_in w here.env)) (value_or o NameError (place w)) HasValue) (sym have.0.1.0)
      (matches-pure w.file w.limits 1 here.ids here.given HasValue a have.0.0 have.0.1)
  side-does (side.Expr k) here have = numbered-does (slice_get (table w) k) k here refl
  side-does (side.Tail k m a) here have = tail-does (slice_get (table w) k) k m here a have.0.0 refl have.0.1

-- the nodes of a side do what it means
pub sides_match : SideLaw
sides_match file limits routine depth line s ids given env names have are =
    let w : Scope = record { file = file; limits = limits; routine = routine; depth = depth; line = line } in
    let here : State w = record { ids = ids; given = given; env = env; names = names; are = are } in
    side-does w s here have
