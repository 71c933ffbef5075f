-- What is left of an expression behind the part that was evaluated.
use Rattle.std.proofs.Common.{◌≡◌, ℕ, suc, ◌+◌, ◌<◌, ◌≤◌, List, [], ◌∷◌, map, drop, length, get_or, Bool, true, false, refl, sym, ap, ◌∙◌, Result, Ok, Err, add-one, drop-cons}
use Rattle.std.proofs.lemmas.List.{drop_all}
use Rattle.pyd_value.specs.declared.value.Value.{Value, Bool as Truth}
use Rattle.pyd_value.specs.declared.fault.Fault.{Fault}
use Rattle.pyd_value.specs.declared.operator.BinOp.{BinOp}
use Rattle.pyd_value.specs.declared.operator.CmpOp.{CmpOp}
use Rattle.pyd_value.specs.Truth.{is_true}
use Rattle.pyd_ops.specs.Operators.{binary}
use Rattle.pyd_ops.specs.Comparing.{compare}
use Rattle.pyd_meaning.specs.Evaluation.{Evaluation, settled, gives, ◌>>=◌}
use Rattle.pyd_meaning.specs.Outcome.{outcome}
use Rattle.pyd_meaning.specs.Names.{Names}
use Rattle.pyd_meaning.specs.Setting.{Place}
use Rattle.pyd_meaning.specs.Expression.{Meaning, branch, chained, compared, conjunction, disjunction}
use Rattle.pyd_meaning.proofs.Sequencing.{gives-then, then-gives, then-then, outcome-ok, outcome-err, outcome-settled}
use Rattle.pyd_eval.specs.declared.junction.Junction.{Junction}
use Rattle.pyd_eval.specs.declared.junction.Junction.TheVariants.{And, Or}
use Rattle.pyd_eval.specs.Junctions.{joined, value_of_none, is_ended_by}
use Rattle.pyd_eval.proofs.Expressions.{not-true, not-false}

-- an operator and its right operand, and the operators behind them
chained-next : (a : Value) (link : BinOp × Meaning) (links : List (BinOp × Meaning)) (at : Place) (names : Names)
    → chained a (link ∷ links) at names
    ≡ (link.1 at names >>= (λ b. settled (binary link.0 a b at.line))) >>= (λ c. chained c links at names)
unfolding chained
chained-next a link links at names =
    sym (then-then (link.1 at names) (λ b. settled (binary link.0 a b at.line)) (λ c. chained c links at names))

-- the operators behind a value, of which some are left
module _ {E : Type 0} (m : E → Meaning) (links : List (BinOp × E)) (i : ℕ) (a : Value) (at : Place) (names : Names) (before : List (List ℕ)) where
  pub chained-done : length links ≤ i
      → outcome before (chained a (map (λ l. (l.0, m l.1)) (drop i links)) at names) ≡ (before, Ok a)
  unfolding chained
  chained-done over = rw (drop_all i links over) (outcome-settled before (Ok a))

  -- the next of them
  module _ (link : BinOp × E) (mid : List (List ℕ)) (some : i < length links) (is : link ≡ get_or links i link) where
    pub chained-more : (c : Value) → outcome before (m link.1 at names >>= (λ b. settled (binary link.0 a b at.line))) ≡ (mid, Ok c)
        → outcome before (chained a (map (λ l. (l.0, m l.1)) (drop i links)) at names)
        ≡ outcome mid (chained c (map (λ l. (l.0, m l.1)) (drop (i + 1) links)) at names)
    chained-more c value =
        rw (add-one, drop-cons links i link some, ← is)
        (ap (outcome before) (chained-next a (link.0, m link.1) _ at names) ∙ outcome-ok before mid _ _ c value)

    pub chained-fault : (f : Fault) → outcome before (m link.1 at names >>= (λ b. settled (binary link.0 a b at.line))) ≡ (mid, Err f)
        → outcome before (chained a (map (λ l. (l.0, m l.1)) (drop i links)) at names) ≡ (mid, Err f)
    chained-fault f value =
        rw (drop-cons links i link some, ← is)
        (ap (outcome before) (chained-next a (link.0, m link.1) _ at names) ∙ outcome-err before mid _ _ f value)

-- a value and an answer on it, and what follows both
both-then : {A B C : Type 0} (e : Evaluation A) (answer : A → Result B Fault) (next : A × B → Evaluation C)
    → (e >>= (λ x. settled (answer x) >>= (λ y. gives (x, y)))) >>= next
    ≡ e >>= (λ x. settled (answer x) >>= (λ y. next (x, y)))
both-then {A = A} {B = B} {C = C} e answer next = then-then e _ next ∙ (λ i. e >>= (λ x. one x i))
  where
    one : (x : A) → (settled (answer x) >>= (λ y. gives (x, y))) >>= next ≡ settled (answer x) >>= (λ y. next (x, y))
    one x = then-then (settled (answer x)) _ next ∙ (λ i. settled (answer x) >>= (λ y. gives-then (x, y) next i))

-- the right operand of a link, and the value of its comparison
abbrev both : Value → CmpOp × Meaning → Place → Names → Evaluation (Value × Value)
both a link at names = link.1 at names >>= (λ b. settled (compare link.0 a b at.line) >>= (λ c. gives (b, c)))

-- one link, and those behind it
module _ (a : Value) (link : CmpOp × Meaning) (at : Place) (names : Names) where
  last_is : compared a (link ∷ []) at names ≡ both a link at names >>= (λ p. gives p.1)
  unfolding compared
  last_is =
      sym (both-then (link.1 at names) (λ b. compare link.0 a b at.line) (λ p. gives p.1)
      ∙ (λ i. link.1 at names >>= (λ b. then-gives (settled (compare link.0 a b at.line)) i)))

  more_is : (next : CmpOp × Meaning) (links : List (CmpOp × Meaning))
      → compared a (link ∷ next ∷ links) at names
      ≡ both a link at names >>= (λ p. branch (is_true p.1) (compared p.0 (next ∷ links) at) (λ now. gives p.1) names)
  unfolding compared
  more_is next links =
      sym (both-then (link.1 at names) (λ b. compare link.0 a b at.line)
      (λ p. branch (is_true p.1) (compared p.0 (next ∷ links) at) (λ now. gives p.1) names))

-- what a link gives, and those behind it
module _ (a : Value) (link : CmpOp × Meaning) (at : Place) (names : Names) (before mid : List (List ℕ)) where
  true-then : (next : CmpOp × Meaning) (links : List (CmpOp × Meaning)) (b c : Value)
      → outcome before (both a link at names) ≡ (mid, Ok (b, c)) → is_true c ≡ true
      → outcome before (compared a (link ∷ next ∷ links) at names) ≡ outcome mid (compared b (next ∷ links) at names)
  true-then next links b c is holds =
      ap (outcome before) (more_is a link at names next links) ∙ outcome-ok before mid _ _ (b, c) is
      ∙ ap (λ t. outcome mid (branch t (compared b (next ∷ links) at) (λ now. gives c) names)) holds

  last-then : (b c : Value) → outcome before (both a link at names) ≡ (mid, Ok (b, c))
      → outcome before (compared a (link ∷ []) at names) ≡ (mid, Ok c)
  last-then b c is =
      ap (outcome before) (last_is a link at names) ∙ outcome-ok before mid _ _ (b, c) is ∙ outcome-settled mid (Ok c)

  false-then : (links : List (CmpOp × Meaning)) (b c : Value)
      → outcome before (both a link at names) ≡ (mid, Ok (b, c)) → is_true c ≡ false
      → outcome before (compared a (link ∷ links) at names) ≡ (mid, Ok c)
  false-then [] b c is fails = last-then b c is
  false-then (next ∷ links) b c is fails =
      ap (outcome before) (more_is a link at names next links) ∙ outcome-ok before mid _ _ (b, c) is
      ∙ ap (λ t. outcome mid (branch t (compared b (next ∷ links) at) (λ now. gives c) names)) fails
      ∙ outcome-settled mid (Ok c)

  fault-then : (links : List (CmpOp × Meaning)) (f : Fault) → outcome before (both a link at names) ≡ (mid, Err f)
      → outcome before (compared a (link ∷ links) at names) ≡ (mid, Err f)
  fault-then [] f is = ap (outcome before) (last_is a link at names) ∙ outcome-err before mid _ _ f is
  fault-then (next ∷ links) f is = ap (outcome before) (more_is a link at names next links) ∙ outcome-err before mid _ _ f is

-- the links behind a value, of which some are left
module _ {E : Type 0} (m : E → Meaning) (links : List (CmpOp × E)) (i : ℕ) (a : Value) (at : Place) (names : Names) (before : List (List ℕ)) where
  pub compared-none : length links ≤ i
      → outcome before (compared a (map (λ l. (l.0, m l.1)) (drop i links)) at names) ≡ (before, Ok (Truth true))
  unfolding compared
  compared-none over = rw (drop_all i links over) (outcome-settled before (Ok (Truth true)))

  -- the next of them
  module _ (link : CmpOp × E) (mid : List (List ℕ)) (some : i < length links) (is : link ≡ get_or links i link) where
    pub compared-more : (b c : Value) → outcome before (both a (link.0, m link.1) at names) ≡ (mid, Ok (b, c))
        → is_true c ≡ true → suc i < length links
        → outcome before (compared a (map (λ l. (l.0, m l.1)) (drop i links)) at names)
        ≡ outcome mid (compared b (map (λ l. (l.0, m l.1)) (drop (i + 1) links)) at names)
    compared-more b c got holds more =
        rw (add-one, drop-cons links i link some, ← is, drop-cons links (suc i) link more)
        (true-then a (link.0, m link.1) at names before mid _ _ b c got holds)

    pub compared-last : (b c : Value) → outcome before (both a (link.0, m link.1) at names) ≡ (mid, Ok (b, c))
        → length links ≤ suc i
        → outcome before (compared a (map (λ l. (l.0, m l.1)) (drop i links)) at names) ≡ (mid, Ok c)
    compared-last b c got over =
        rw (drop-cons links i link some, ← is, drop_all (suc i) links over)
        (last-then a (link.0, m link.1) at names before mid b c got)

    pub compared-false : (b c : Value) → outcome before (both a (link.0, m link.1) at names) ≡ (mid, Ok (b, c))
        → is_true c ≡ false
        → outcome before (compared a (map (λ l. (l.0, m l.1)) (drop i links)) at names) ≡ (mid, Ok c)
    compared-false b c got fails =
        rw (drop-cons links i link some, ← is) (false-then a (link.0, m link.1) at names before mid _ b c got fails)

    pub compared-fault : (f : Fault) → outcome before (both a (link.0, m link.1) at names) ≡ (mid, Err f)
        → outcome before (compared a (map (λ l. (l.0, m l.1)) (drop i links)) at names) ≡ (mid, Err f)
    compared-fault f got =
        rw (drop-cons links i link some, ← is) (fault-then a (link.0, m link.1) at names before mid _ f got)

-- one member, and those behind it
module _ (e : Meaning) (at : Place) (names : Names) (before mid : List (List ℕ)) where
  only-then : (j : Junction) (v : Value) → outcome before (e at names) ≡ (mid, Ok v)
      → outcome before (joined j (e ∷ []) at names) ≡ (mid, Ok v)
  unfolding conjunction disjunction
  only-then And v is = is
  only-then Or v is = is

  ended-then : (j : Junction) (es : List Meaning) (v : Value) → outcome before (e at names) ≡ (mid, Ok v)
      → is_ended_by j v ≡ true → outcome before (joined j (e ∷ es) at names) ≡ (mid, Ok v)
  unfolding conjunction disjunction
  ended-then And [] v is ends = is
  ended-then And (f ∷ es) v is ends =
      outcome-ok before mid _ _ v is
      ∙ ap (λ t. outcome mid (branch t (conjunction (f ∷ es) at) (λ now. gives v) names)) (not-true (is_true v) ends)
      ∙ outcome-settled mid (Ok v)
  ended-then Or [] v is ends = is
  ended-then Or (f ∷ es) v is ends =
      outcome-ok before mid _ _ v is
      ∙ ap (λ t. outcome mid (branch t (λ now. gives v) (disjunction (f ∷ es) at) names)) ends
      ∙ outcome-settled mid (Ok v)

  passed-then : (j : Junction) (f : Meaning) (es : List Meaning) (v : Value) → outcome before (e at names) ≡ (mid, Ok v)
      → is_ended_by j v ≡ false
      → outcome before (joined j (e ∷ f ∷ es) at names) ≡ outcome mid (joined j (f ∷ es) at names)
  unfolding conjunction disjunction
  passed-then And f es v is goes_on =
      outcome-ok before mid _ _ v is
      ∙ ap (λ t. outcome mid (branch t (conjunction (f ∷ es) at) (λ now. gives v) names)) (not-false (is_true v) goes_on)
  passed-then Or f es v is goes_on =
      outcome-ok before mid _ _ v is
      ∙ ap (λ t. outcome mid (branch t (λ now. gives v) (disjunction (f ∷ es) at) names)) goes_on

  member_fault : (j : Junction) (es : List Meaning) (f : Fault) → outcome before (e at names) ≡ (mid, Err f)
      → outcome before (joined j (e ∷ es) at names) ≡ (mid, Err f)
  unfolding conjunction disjunction
  member_fault And [] f is = is
  member_fault And (g ∷ es) f is = outcome-err before mid _ _ f is
  member_fault Or [] f is = is
  member_fault Or (g ∷ es) f is = outcome-err before mid _ _ f is

-- of no members
none-joined : (j : Junction) (at : Place) (names : Names) (before : List (List ℕ))
    → outcome before (joined j [] at names) ≡ (before, Ok (value_of_none j))
unfolding conjunction disjunction
none-joined And at names before = outcome-settled before _
none-joined Or at names before = outcome-settled before _

-- the members of an `and` or `or`, of which some are left
module _ {E : Type 0} (m : E → Meaning) (j : Junction) (es : List E) (i : ℕ) (at : Place) (names : Names) (before : List (List ℕ)) where
  pub joined-none : length es ≤ i
      → outcome before (joined j (map m (drop i es)) at names) ≡ (before, Ok (value_of_none j))
  joined-none over = rw (drop_all i es over) (none-joined j at names before)

  -- the next of them
  module _ (e : E) (mid : List (List ℕ)) (some : i < length es) (is : e ≡ get_or es i e) where
    pub joined-more : (v : Value) → outcome before (m e at names) ≡ (mid, Ok v) → is_ended_by j v ≡ false → suc i < length es
        → outcome before (joined j (map m (drop i es)) at names)
        ≡ outcome mid (joined j (map m (drop (i + 1) es)) at names)
    joined-more v member goes_on more =
        rw (add-one, drop-cons es i e some, ← is, drop-cons es (suc i) e more)
        (passed-then (m e) at names before mid j _ _ v member goes_on)

    pub joined-last : (v : Value) → outcome before (m e at names) ≡ (mid, Ok v) → length es ≤ suc i
        → outcome before (joined j (map m (drop i es)) at names) ≡ (mid, Ok v)
    joined-last v member over =
        rw (drop-cons es i e some, ← is, drop_all (suc i) es over) (only-then (m e) at names before mid j v member)

    pub joined-ended : (v : Value) → outcome before (m e at names) ≡ (mid, Ok v) → is_ended_by j v ≡ true
        → outcome before (joined j (map m (drop i es)) at names) ≡ (mid, Ok v)
    joined-ended v member ends =
        rw (drop-cons es i e some, ← is) (ended-then (m e) at names before mid j _ v member ends)

    pub joined-fault : (f : Fault) → outcome before (m e at names) ≡ (mid, Err f)
        → outcome before (joined j (map m (drop i es)) at names) ≡ (mid, Err f)
    joined-fault f member = rw (drop-cons es i e some, ← is) (member_fault (m e) at names before mid j _ f member)
