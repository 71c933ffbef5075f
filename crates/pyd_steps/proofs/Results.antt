-- Facts of results, options and tests that follow from others.
use Rattle.std.proofs.Common.{◌≡◌, Bool, true, false, Option, Some, None, MatchOption, MatchBool, Result, Ok, Err, IfOk, subst}

-- one fact of what a success gives follows from another
pub if_ok : {T E : Type 0} (r : Result T E) (P Q : T → Type 0) → ((x : T) → P x → Q x)
    → IfOk r P → IfOk r Q
if_ok (Ok x) P Q f is = f x is
if_ok (Err e) P Q f is = tt

-- what a test tells
pub when_true : (test : Bool) (A B : Type 0) → test ≡ true → MatchBool test A B → A
when_true test A B is which = subst (λ (b : Bool). MatchBool b A B) is which

pub when_false : (test : Bool) (A B : Type 0) → test ≡ false → MatchBool test A B → B
when_false test A B is which = subst (λ (b : Bool). MatchBool b A B) is which

-- what an option tells
pub when_some : {T : Type 0} (o : Option T) (A : Type 0) (P : T → Type 0) (x : T) → o ≡ Some x
    → MatchOption o A P → P x
when_some o A P x is which = subst (λ p. MatchOption p A P) is which

pub when_none : {T : Type 0} (o : Option T) (A : Type 0) (P : T → Type 0) → o ≡ None
    → MatchOption o A P → A
when_none o A P is which = subst (λ p. MatchOption p A P) is which
