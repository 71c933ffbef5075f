-- How evaluations follow one another.
use Rattle.std.proofs.Common.{◌≡◌, ℕ, suc, ◌+◌, List, [], ◌∷◌, ◌++◌, append_assoc, append-nil, refl, sym, ap, ◌∙◌, arith, Result, Ok, Err}
use Rattle.pyd_value.specs.declared.fault.Fault.{Fault}
use Rattle.pyd_value.specs.declared.value.Value.{Value}
use Rattle.pyd_meaning.specs.Evaluation.{Evaluation, gives, faults, settled, step, prints, after, go_on, ◌>>=◌}
use Rattle.pyd_meaning.specs.Names.{Names}
use Rattle.pyd_meaning.specs.Setting.{Place}
use Rattle.pyd_meaning.specs.Expression.{Meaning, each}
use Rattle.pyd_meaning.specs.Outcome.{outcome, each_after}

-- equal lines and steps make equal evaluations
same : {A : Type 0} (lines lines' : List (List ℕ)) (r : Result A Fault) (n n' : ℕ) → lines ≡ lines' → n ≡ n'
    → (let e : Evaluation A = record { lines = lines; result = r; steps = n } in e) ≡ record { lines = lines'; result = r; steps = n' }
same lines lines' r n n' l s = rw (l, s) refl

-- a value is handed on
pub gives-then : {A B : Type 0} (x : A) (f : A → Evaluation B) → gives x >>= f ≡ f x
unfolding settled ◌>>=◌
gives-then x f = same (f x).lines (f x).lines (f x).result (0 + (f x).steps) (f x).steps refl (omega arith)

-- a fault stays
pub faults-then : {A B : Type 0} (e : Fault) (f : A → Evaluation B) → faults e >>= f ≡ faults e
unfolding settled ◌>>=◌
faults-then e f = refl

step_go_on : {A B : Type 0} (lines : List (List ℕ)) (n : ℕ) (r : Result A Fault) (f : A → Evaluation B) → go_on lines (suc n) r f ≡ step (go_on lines n r f)
unfolding step
step_go_on lines n (Ok x) f = same (lines ++ (f x).lines) (lines ++ (f x).lines) (f x).result (suc n + (f x).steps) (suc (n + (f x).steps)) refl (omega arith)
step_go_on lines n (Err e) f = refl

-- a step counts at the front
pub step-then : {A B : Type 0} (m : Evaluation A) (f : A → Evaluation B) → step m >>= f ≡ step (m >>= f)
unfolding step ◌>>=◌
step-then m f = step_go_on m.lines m.steps m.result f

go_on-gives : {A : Type 0} (lines : List (List ℕ)) (n : ℕ) (r : Result A Fault)
    → go_on lines n r (λ x. gives x) ≡ record { lines = lines; result = r; steps = n }
unfolding settled
go_on-gives lines n (Ok x) = same (lines ++ []) lines (Ok x) (n + 0) n (append-nil lines) (omega arith)
go_on-gives lines n (Err f) = refl

-- what is given at last is given
pub then-gives : {A : Type 0} (m : Evaluation A) → m >>= (λ x. gives x) ≡ m
unfolding ◌>>=◌
then-gives m = go_on-gives m.lines m.steps m.result

after_go_on : {B C : Type 0} (lines : List (List ℕ)) (n : ℕ) (lines' : List (List ℕ)) (n' : ℕ) (r : Result B Fault) (g : B → Evaluation C)
    → go_on (lines ++ lines') (n + n') r g ≡ after lines n (go_on lines' n' r g)
after_go_on lines n lines' n' (Ok y) g =
    same ((lines ++ lines') ++ (g y).lines) (lines ++ (lines' ++ (g y).lines)) (g y).result ((n + n') + (g y).steps) (n + (n' + (g y).steps)) (append_assoc lines lines' (g y).lines) (omega arith)
after_go_on lines n lines' n' (Err f) g = refl

go_on-go_on : {A B C : Type 0} (lines : List (List ℕ)) (n : ℕ) (r : Result A Fault) (f : A → Evaluation B) (g : B → Evaluation C)
    → go_on (go_on lines n r f).lines (go_on lines n r f).steps (go_on lines n r f).result g ≡ go_on lines n r (λ x. f x >>= g)
unfolding ◌>>=◌
go_on-go_on lines n (Ok x) f g = after_go_on lines n (f x).lines (f x).steps (f x).result g
go_on-go_on lines n (Err e) f g = refl

-- it doesn't matter how three are grouped
pub then-then : {A B C : Type 0} (m : Evaluation A) (f : A → Evaluation B) (g : B → Evaluation C) → (m >>= f) >>= g ≡ m >>= (λ x. f x >>= g)
unfolding ◌>>=◌
then-then m f g = go_on-go_on m.lines m.steps m.result f g

-- a step prints nothing
pub outcome-step : {A : Type 0} (before : List (List ℕ)) (e : Evaluation A) → outcome before (step e) ≡ outcome before e
unfolding outcome step
outcome-step before e = refl

-- a result alone prints nothing
pub outcome-settled : {A : Type 0} (before : List (List ℕ)) (r : Result A Fault) → outcome before (settled r) ≡ (before, r)
unfolding outcome settled
outcome-settled before r = ap (λ l. (l, r)) (append-nil before)

-- a line is printed behind those before
pub outcome-prints : {A : Type 0} (before : List (List ℕ)) (line : List ℕ) (x : A) → outcome before (prints line x) ≡ (before ++ line ∷ [], Ok x)
unfolding outcome prints
outcome-prints before line x = refl

-- after a value
pub outcome-ok : {A B : Type 0} (before mid : List (List ℕ)) (e : Evaluation A) (next : A → Evaluation B) (x : A)
    → outcome before e ≡ (mid, Ok x) → outcome before (e >>= next) ≡ outcome mid (next x)
unfolding ◌>>=◌ outcome
outcome-ok before mid e next x is =
    let result : e.result ≡ Ok x = ap (λ p. p.1) is in
    let lines : before ++ e.lines ≡ mid = ap (λ p. p.0) is in
    ap (λ r. outcome before (go_on e.lines e.steps r next)) result
    ∙ (λ i. (sym (append_assoc before e.lines (next x).lines) i, (next x).result))
    ∙ ap (λ l. (l ++ (next x).lines, (next x).result)) lines

-- after a fault
pub outcome-err : {A B : Type 0} (before mid : List (List ℕ)) (e : Evaluation A) (next : A → Evaluation B) (f : Fault)
    → outcome before e ≡ (mid, Err f) → outcome before (e >>= next) ≡ (mid, Err f)
unfolding ◌>>=◌ outcome
outcome-err before mid e next f is =
    let result : e.result ≡ Err f = ap (λ p. p.1) is in
    let lines : before ++ e.lines ≡ mid = ap (λ p. p.0) is in
    ap (λ r. outcome before (go_on e.lines e.steps r next)) result ∙ ap (λ l. (l, Err f)) lines

-- none is left
pub each_after-none : (done : List Value) (at : Place) (names : Names) → each_after done [] at names ≡ gives done
unfolding each_after each
each_after-none done at names = gives-then [] (λ vs. gives (done ++ vs)) ∙ ap (λ vs. gives vs) (append-nil done)

-- one more
pub each_after-more : (done : List Value) (e : Meaning) (es : List Meaning) (at : Place) (names : Names)
    → each_after done (e ∷ es) at names ≡ e at names >>= (λ v. each_after (done ++ v ∷ []) es at names)
unfolding each_after each
each_after-more done e es at names =
    then-then (e at names) (λ v. each es at names >>= (λ vs. gives (v ∷ vs))) (λ vs. gives (done ++ vs))
    ∙ (λ i. e at names >>= (λ v. one v i))
  where
    one : (v : Value) → (each es at names >>= (λ vs. gives (v ∷ vs))) >>= (λ vs. gives (done ++ vs)) ≡ each es at names >>= (λ vs. gives ((done ++ v ∷ []) ++ vs))
    one v =
        then-then (each es at names) (λ vs. gives (v ∷ vs)) (λ vs. gives (done ++ vs))
        ∙ (λ i. each es at names >>= (λ vs. (gives-then (v ∷ vs) (λ ws. gives (done ++ ws)) ∙ ap (λ ws. gives ws) (sym (append_assoc done (v ∷ []) vs))) i))

-- all from none on
pub each_after-start : (es : List Meaning) (at : Place) (names : Names) → each_after [] es at names ≡ each es at names
unfolding each_after
each_after-start es at names = then-gives (each es at names)
