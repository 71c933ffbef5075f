-- The places behind statements and arms that stand in a routine, one after another.
use Rattle.std.proofs.Common.{◌≡◌, ℕ, zero, suc, ◌+◌, ◌<◌, ◌≤◌, List, [], ◌∷◌, drop, length, get_or, Some, None, refl, sym, ap, subst, ◌∙◌, arith}
use Rattle.std.specs.List.{slice_get}
use Rattle.std.proofs.lemmas.List.{drop_more, drop_all}
use Rattle.pyd_tree.specs.declared.expression.Expr.{Expr}
use Rattle.pyd_tree.specs.declared.statement.Arm.{Arm, out-Arm}
use Rattle.pyd_tree.specs.declared.statement.Block.{out-Block}
use Rattle.pyd_tree.specs.declared.statement.Stmt.{Stmt}
use Rattle.pyd_scope.specs.Numbering.{Entry, expression, inner, followed, arm_contents, contents, arms_contents, Point, point, past, past_expression, past_statement, past_first, inside}
use Rattle.pyd_translate.proofs.Contents.{block_contents, arm_out}
use Rattle.pyd_translate.proofs.Standing.{stands_at}
use Rattle.pyd_translate.proofs.Placing.{StandsAt, past_nothing, past_both, sized_arm, first_at, second_at, behind_at, suite_at}

-- what is left of a list begins with the item at its place
pub left_from : {A : Type 0} (xs : List A) (i : ℕ) (x : A) → i < length xs → x ≡ get_or xs i x
    → drop i xs ≡ x ∷ drop (i + 1) xs
left_from xs i x some is =
    drop_more xs i x some ∙ ap (λ y. y ∷ drop (i + 1) xs) (sym is)

-- with some item, where there is one at the place
left_some : {A : Type 0} (xs : List A) (i : ℕ) → i < length xs
    → (x : A) × (drop i xs ≡ x ∷ drop (suc i) xs)
left_some [] i some = absurd (omega (arith, some))
left_some (x ∷ xs) zero some = (x, refl)
left_some (x ∷ xs) (suc i) some =
    let less : i < length xs = omega (arith, some) in
    left_some xs i less

-- the statements of an arm's suite
abbrev pub suite_stmts : Arm → List Stmt
suite_stmts a = (out-Block (out-Arm a).body).stmts

-- the place behind an arm is that behind its suite
past_arm : (a : Arm) (p : Point)
    → past (arm_contents a) p ≡ past (contents (suite_stmts a)) (past_expression (out-Arm a).test p)
past_arm a p =
    ap (λ c. past c p) (arm_out a)
    ∙ past_both (expression (out-Arm a).test) (block_contents (out-Arm a).body) p

-- behind the first of statements and then the others is behind all
past_rest : (s : Stmt) (ss : List Stmt) (p : Point)
    → past (contents ss) (past_statement s p) ≡ past (contents (s ∷ ss)) p
past_rest s ss p =
    let both = followed (inner s) (contents ss) in
    let number : suc p.statement + both.statements ≡ p.statement + suc both.statements = omega arith in
    sym (past_both (inner s) (contents ss) (inside p))
    ∙ ap (λ n. point n (past both p).expression) number

-- behind all statements
pub statements_done : (stmts : List Stmt) (i : ℕ) (p q : Point) → length stmts ≤ i
    → past (contents (drop i stmts)) p ≡ q → p ≡ q
statements_done stmts i p q all is =
    sym (past_nothing p) ∙ ap (λ ss. past (contents ss) p) (sym (drop_all i stmts all)) ∙ is

-- behind all arms
pub arms_done : (arms : List Arm) (i : ℕ) (p q : Point) → length arms ≤ i
    → past (arms_contents (drop i arms)) p ≡ q → p ≡ q
arms_done arms i p q all is =
    sym (past_nothing p) ∙ ap (λ xs. past (arms_contents xs) p) (sym (drop_all i arms all)) ∙ is

module _ (table : List Entry) (all : List Expr) where
  module _ (arms : List Arm) (i : ℕ) (a : Arm) (some : i < length arms) (is : a ≡ get_or arms i a)
      (p : Point) where
    -- the arm, and those behind it
    split_stand : StandsAt table all (arms_contents (drop i arms)) p
        → StandsAt table all (arms_contents (a ∷ drop (i + 1) arms)) p
    split_stand = subst (λ xs. StandsAt table all (arms_contents xs) p) (left_from arms i a some is)

    -- the suite of an arm stands behind its test
    pub suite_stands : (ss : List Stmt) (q : Point) → ss ≡ suite_stmts a
        → q ≡ past_expression (out-Arm a).test p
        → StandsAt table all (arms_contents (drop i arms)) p
        → StandsAt table all (contents ss) q
    suite_stands ss q stmts place st =
        subst (λ x. StandsAt table all (contents x) q) (sym stmts)
        (subst (λ x. StandsAt table all (contents (suite_stmts a)) x) (sym place)
        (suite_at table all a p
        (first_at table all (arm_contents a) (arms_contents (drop (i + 1) arms)) p (split_stand st))))

    module _ (ss : List Stmt) (q r : Point) (stmts : ss ≡ suite_stmts a)
        (place : q ≡ past_expression (out-Arm a).test p) (behind : r ≡ past (contents ss) q) where
      -- the place behind the arm
      behind_arm : r ≡ past (arm_contents a) p
      behind_arm = behind ∙ (λ j. past (contents (stmts j)) (place j)) ∙ sym (past_arm a p)

      -- the other arms stand there
      pub arms_stand : StandsAt table all (arms_contents (drop i arms)) p
          → StandsAt table all (arms_contents (drop (i + 1) arms)) r
      arms_stand st =
          subst (λ x. StandsAt table all (arms_contents (drop (i + 1) arms)) x) (sym behind_arm)
          (second_at table all (arm_contents a) (arms_contents (drop (i + 1) arms)) p (sized_arm a)
          (split_stand st))

      -- the place behind them is the same
      pub arms_past : past (arms_contents (drop (i + 1) arms)) r ≡ past (arms_contents (drop i arms)) p
      arms_past =
          ap (past (arms_contents (drop (i + 1) arms))) behind_arm
          ∙ sym (past_both (arm_contents a) (arms_contents (drop (i + 1) arms)) p)
          ∙ ap (λ xs. past (arms_contents xs) p) (sym (left_from arms i a some is))

  module _ (s : Stmt) (ss : List Stmt) (p : Point)
      (st : StandsAt table all (contents (s ∷ ss)) p) where
    -- the entry of the first of statements
    abbrev entry : Entry
    entry = record { stmts = s ∷ ss; expression = p.expression }

    first_entry : slice_get table p.statement ≡ Some entry
    first_entry =
        stands_at table p.statement entry ((followed (inner s) (contents ss)).table p.expression) st.0

    -- the place behind it is that of what was found at its number
    past_found : (e : Entry) (q : Point) → Some e ≡ slice_get table p.statement
        → q ≡ past_first e.stmts (point p.statement e.expression) → q ≡ past_statement s p
    past_found e q found place =
        let some : Some e ≡ Some entry = found ∙ first_entry in
        let same : e ≡ entry = cc some in
        place ∙ ap (λ (x : Entry). past_first x.stmts (point p.statement x.expression)) same

    never_missing : None ≡ slice_get table p.statement → ⊥
    never_missing missing =
        let none : None ≡ Some entry = missing ∙ first_entry in
        cc none

  module _ (stmts : List Stmt) (i : ℕ) (some : i < length stmts) (p : Point)
      (st : StandsAt table all (contents (drop i stmts)) p) where
    -- the first of those that are left
    first : (s : Stmt) × (drop i stmts ≡ s ∷ drop (suc i) stmts)
    first = left_some stmts i some

    stand : StandsAt table all (contents (first.0 ∷ drop (suc i) stmts)) p
    stand = subst (λ x. StandsAt table all (contents x) p) first.1 st

    next : drop (suc i) stmts ≡ drop (i + 1) stmts
    next = let n : suc i ≡ i + 1 = omega arith in ap (λ m. drop m stmts) n

    -- it is found by its number
    pub statement_found : None ≡ slice_get table p.statement → ⊥
    statement_found = never_missing first.0 (drop (suc i) stmts) p stand

    module _ (e : Entry) (q : Point) (found : Some e ≡ slice_get table p.statement)
        (place : q ≡ past_first e.stmts (point p.statement e.expression)) where
      behind_first : q ≡ past_statement first.0 p
      behind_first = past_found first.0 (drop (suc i) stmts) p stand e q found place

      -- the others stand behind it
      pub statements_stand : StandsAt table all (contents (drop (i + 1) stmts)) q
      statements_stand =
          subst (λ x. StandsAt table all (contents x) q) next
          (subst (λ x. StandsAt table all (contents (drop (suc i) stmts)) x) (sym behind_first)
          (behind_at table all (first.0 ∷ drop (suc i) stmts) p stand))

      -- the place behind them is the same
      pub statements_past : past (contents (drop (i + 1) stmts)) q ≡ past (contents (drop i stmts)) p
      statements_past =
          ap (λ x. past (contents x) q) (sym next)
          ∙ ap (past (contents (drop (suc i) stmts))) behind_first
          ∙ past_rest first.0 (drop (suc i) stmts) p
          ∙ ap (λ x. past (contents x) p) (sym first.1)
