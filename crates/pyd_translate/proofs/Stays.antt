-- Statements bind slots alone, and they are left early only where a `return`, `break` or `continue` stands in them.
use Rattle.std.proofs.Common.{◌≡◌, ℕ, zero, suc, ◌-◌, List, [], ◌∷◌, ◌++◌, refl, ap, subst, Option, Some, None, Bool, true, false, ◌||◌}
use Rattle.pyd_value.specs.declared.value.Value.{Value}
use Rattle.pyd_value.specs.Truth.{is_true}
use Rattle.pyd_tree.specs.declared.statement.Stmt.{Stmt}
use Rattle.pyd_tree.specs.declared.statement.Targets.{Targets}
use Rattle.pyd_names.specs.declared.binding.Binding.{Binding}
use Rattle.pyd_names.specs.Binding.{is_among, statement_bindings}
use Rattle.pyd_names.specs.WellFormed.{some_are}
use Rattle.pyd_meaning.specs.Evaluation.{gives, step}
use Rattle.pyd_meaning.specs.Names.{Names, bind, bind_all}
use Rattle.pyd_meaning.specs.Setting.{Place}
use Rattle.pyd_meaning.specs.Expression.{Meaning, branch}
use Rattle.pyd_meaning.specs.Assignment.{values_for, bound_or_error, assign_values, assign}
use Rattle.pyd_meaning.specs.Completion.{Completion, Normal, Break, Continue, Return, Reached, Action, left, normally, left_by, after_turn}
use Rattle.pyd_meaning.specs.Loops.{wanted, turned, while_from, Items, with_item, for_from, for_items, for_loop, items_over}
use Rattle.pyd_translate.proofs.Induction.{Each}
use Rattle.pyd_translate.proofs.Yields.{Yields, yields-gives, yields-faults, yields-step, yields-then, yields-after}
use Rattle.pyd_translate.proofs.Slots.{IsWithin, within_bind}

-- P of the first of lists end to end
pub each_front : {A : Type 0} (P : A → Type 0) (xs ys : List A) → Each P (xs ++ ys) → Each P xs
each_front P [] ys p = tt
each_front P (x ∷ xs) ys p = (p.0, each_front P xs ys p.1)

-- P of the last of them
pub each_back : {A : Type 0} (P : A → Type 0) (xs ys : List A) → Each P (xs ++ ys) → Each P ys
each_back P [] ys p = p
each_back P (x ∷ xs) ys p = each_back P xs ys p.1

-- lines by which statements may be left: those of their `return`s, and of the `break`s and `continue`s of a loop round them
abbrev pub IsLeft : List ℕ → List ℕ → Completion → Type 0
IsLeft returned broken Normal = Unit {0}
IsLeft returned broken Break = some_are broken ≡ true
IsLeft returned broken Continue = some_are broken ≡ true
IsLeft returned broken (Return v) = some_are returned ≡ true

-- where some lines are others are too
abbrev pub Follows : List ℕ → List ℕ → Type 0
Follows xs ys = some_are xs ≡ true → some_are ys ≡ true

pub some_front : (xs ys : List ℕ) → Follows xs (xs ++ ys)
some_front [] ys e = absurd (cc e)
some_front (x ∷ xs) ys e = refl

pub some_back : (xs ys : List ℕ) → Follows ys (xs ++ ys)
some_back [] ys e = e
some_back (x ∷ xs) ys e = refl

pub none_some : (ys : List ℕ) → Follows [] ys
none_some ys e = absurd (cc e)

left_more : (rs bs rs' bs' : List ℕ) (c : Completion) → Follows rs rs' → Follows bs bs'
    → IsLeft rs bs c → IsLeft rs' bs' c
left_more rs bs rs' bs' Normal f g l = tt
left_more rs bs rs' bs' Break f g l = g l
left_more rs bs rs' bs' Continue f g l = g l
left_more rs bs rs' bs' (Return v) f g l = f l

or_first : (a b : Bool) → (a || b) ≡ false → a ≡ false
or_first false b e = refl
or_first true b e = e

or_second : (a b : Bool) → (a || b) ≡ false → b ≡ false
or_second false b e = e
or_second true b e = absurd (cc e)

-- without any of these lines statements are left normally
pub left_normally : (rs bs : List ℕ) (c : Completion) → (some_are rs || some_are bs) ≡ false
    → IsLeft rs bs c → c ≡ Normal
left_normally rs bs Normal e l = refl
left_normally rs bs Break e l = let q = or_second (some_are rs) (some_are bs) e in absurd (cc (l, q))
left_normally rs bs Continue e l = let q = or_second (some_are rs) (some_are bs) e in absurd (cc (l, q))
left_normally rs bs (Return v) e l = let q = or_first (some_are rs) (some_are bs) e in absurd (cc (l, q))

module _ (slots : List (List ℕ)) where
  -- a name that is bound is a slot
  abbrev pub BindsSlot : Binding → Type 0
  BindsSlot b = is_among slots b.name ≡ true

  -- a statement binds slots alone
  abbrev pub BindsSlots : Stmt → Type 0
  BindsSlots s = Each BindsSlot (statement_bindings s)

  -- what statements reach that bind slots alone and may be left by these lines
  abbrev pub IsStayed : List ℕ → List ℕ → Reached → Type 0
  IsStayed rs bs r = IsWithin slots r.names × IsLeft rs bs r.completion

  -- they do so from each names that are bound in slots alone
  abbrev pub Staying : List ℕ → List ℕ → Action → Type 0
  Staying rs bs act = (names : Names) → IsWithin slots names → Yields (act names) (IsStayed rs bs)

  -- what stays so stays so by more lines
  pub stays_more : (rs bs rs' bs' : List ℕ) (act : Action) → Follows rs rs' → Follows bs bs'
      → Staying rs bs act → Staying rs' bs' act
  stays_more rs bs rs' bs' act f g s names w r e =
      let q = s names w r e in (q.0, left_more rs bs rs' bs' r.completion f g q.1)

  -- statements that do nothing
  pub stays_normally : (rs bs : List ℕ) → Staying rs bs (λ names. gives (normally names))
  stays_normally rs bs names w = yields-gives (normally names) (IsStayed rs bs) (w, tt)

  pub stays_left_by : (rs bs rs' bs' : List ℕ) (c : Completion) (names : Names) (next : Action)
      → IsWithin slots names → IsLeft rs bs c → Staying rs' bs' next
      → Yields (left_by c names next) (IsStayed (rs ++ rs') (bs ++ bs'))
  stays_left_by rs bs rs' bs' Normal names next w l s =
      stays_more rs' bs' (rs ++ rs') (bs ++ bs') next (some_back rs rs') (some_back bs bs') s names w
  stays_left_by rs bs rs' bs' Break names next w l s =
      yields-gives (left Break names) (IsStayed (rs ++ rs') (bs ++ bs')) (w, some_front bs bs' l)
  stays_left_by rs bs rs' bs' Continue names next w l s =
      yields-gives (left Continue names) (IsStayed (rs ++ rs') (bs ++ bs')) (w, some_front bs bs' l)
  stays_left_by rs bs rs' bs' (Return v) names next w l s =
      yields-gives (left (Return v) names) (IsStayed (rs ++ rs') (bs ++ bs')) (w, some_front rs rs' l)

  pub stays_branch : (rs bs : List ℕ) (b : Bool) (first second : Action) → Staying rs bs first
      → Staying rs bs second → Staying rs bs (branch b first second)
  stays_branch rs bs true first second p q = p
  stays_branch rs bs false first second p q = q

  -- turns

  stays_after_turn : (rs bs : List ℕ) (c : Completion) (names : Names) (next : Action)
      → IsWithin slots names → IsLeft rs bs c → Staying rs [] next
      → Yields (after_turn c names next) (IsStayed rs [])
  stays_after_turn rs bs Normal names next w l s = s names w
  stays_after_turn rs bs Continue names next w l s = s names w
  stays_after_turn rs bs Break names next w l s = stays_normally rs [] names w
  stays_after_turn rs bs (Return v) names next w l s =
      yields-gives (left (Return v) names) (IsStayed rs []) (w, l)

  stays_turned : (rs bs : List ℕ) (body next : Action) → Staying rs bs body → Staying rs [] next
      → Staying rs [] (turned body next)
  stays_turned rs bs body next b s names w =
      yields-then (body names) _ (IsStayed rs bs) (IsStayed rs []) (b names w)
      (λ r q. stays_after_turn rs bs r.completion r.names next q.0 q.1 s)

  stays_wanted : (rs bs : List ℕ) (b : Bool) (turn : Action) → Staying rs bs turn
      → Staying rs bs (wanted b turn)
  stays_wanted rs bs b turn s =
      stays_branch rs bs b (λ now. step (turn now)) (λ now. gives (normally now))
      (λ names w. yields-step (turn names) (IsStayed rs bs) (s names w)) (stays_normally rs bs)

  -- the turns of a `while` that are left
  pub stays_while : (rs bs : List ℕ) (turns : ℕ) (at : Place) (test : Meaning) (body : Action) (v : Value)
      → Staying rs bs body → Staying rs [] (while_from turns at test body v)
  unfolding while_from
  stays_while rs bs zero at test body v s =
      stays_wanted rs [] (is_true v) _ (λ names w. yields-faults _ (IsStayed rs []))
  stays_while rs bs (suc turns) at test body v s =
      stays_wanted rs [] (is_true v) _ (stays_turned rs bs body _ s
      (λ now w. yields-after (test at now) _ (IsStayed rs [])
      (λ u. stays_while rs bs turns at test body u s now w)))

  -- targets

  within_all : (xs : List (List ℕ)) (vs : List Value) (names bound : Names)
      → Each (λ x. is_among slots x ≡ true) xs → IsWithin slots names
      → bind_all names xs vs ≡ Some bound → IsWithin slots bound
  within_all [] [] names bound p w e = subst (IsWithin slots) (some_names e) w
    where
      names_or : Option Names → Names
      names_or (Some n) = n
      names_or None = names

      some_names : ◌≡◌ {A = Option Names} (Some names) (Some bound) → names ≡ bound
      some_names q = ap names_or q
  within_all [] (v ∷ vs) names bound p w e = absurd (cc e)
  within_all (x ∷ xs) [] names bound p w e = absurd (cc e)
  within_all (x ∷ xs) (v ∷ vs) names bound p w e =
      within_all xs vs (bind names x v) bound p.1 (within_bind slots names x v p.0 w) e

  within_or_error : (o : Option Names) (at : Place) → ((bound : Names) → o ≡ Some bound → IsWithin slots bound)
      → Yields (bound_or_error o at) (IsWithin slots)
  within_or_error (Some bound) at f = yields-gives bound (IsWithin slots) (f bound refl)
  within_or_error None at f = yields-faults _ (IsWithin slots)

  within_values : (o : Option (List Value)) (xs : List (List ℕ)) (at : Place) (names : Names)
      → Each (λ x. is_among slots x ≡ true) xs → IsWithin slots names
      → Yields (assign_values o xs at names) (IsWithin slots)
  within_values (Some vs) xs at names p w =
      within_or_error (bind_all names xs vs) at (λ bound e. within_all xs vs names bound p w e)
  within_values None xs at names p w = yields-faults _ (IsWithin slots)

  -- an assignment binds its targets alone
  pub within_assign : (targets : Targets) (v : Value) (at : Place) (names : Names)
      → Each (λ x. is_among slots x ≡ true) targets.names → IsWithin slots names
      → Yields (assign targets v at names) (IsWithin slots)
  within_assign targets v at names p w =
      within_values (values_for targets.tuple v) targets.names at names p w

  stays_item : (rs bs : List ℕ) (o : Option Value) (turn : Value → Action)
      → ((v : Value) → Staying rs bs (turn v)) → Staying rs bs (with_item o turn)
  stays_item rs bs (Some v) turn s names w = yields-step (turn v names) (IsStayed rs bs) (s v names w)
  stays_item rs bs None turn s names w = stays_normally rs bs names w

  stays_for_from : (rs bs : List ℕ) (turns : ℕ) (at : Place) (targets : Targets) (body : Action)
      (item : Items) (t : ℕ) → Each (λ x. is_among slots x ≡ true) targets.names
      → Staying rs bs body → Staying rs [] (for_from turns at targets body item t)
  unfolding for_from
  stays_for_from rs bs zero at targets body item t p s =
      stays_item rs [] (item t) _ (λ v names w. yields-faults _ (IsStayed rs []))
  stays_for_from rs bs (suc turns) at targets body item t p s =
      stays_item rs [] (item t) _ (λ v names w.
      yields-then (assign targets v at names) _ (IsWithin slots) (IsStayed rs [])
      (within_assign targets v at names p w)
      (λ bound b. stays_turned rs bs body _ s
      (stays_for_from rs bs turns at targets body item (suc t) p s) bound b))

  stays_for_items : (rs bs : List ℕ) (turns : ℕ) (at : Place) (targets : Targets) (body : Action)
      (o : Option Items) (t : ℕ) → Each (λ x. is_among slots x ≡ true) targets.names
      → Staying rs bs body → Staying rs [] (for_items turns at targets body o t)
  stays_for_items rs bs turns at targets body (Some item) t p s names w =
      stays_for_from rs bs turns at targets body item t p s names w
  stays_for_items rs bs turns at targets body None t p s names w = yields-faults _ (IsStayed rs [])

  -- the turns of a `for` that are left
  pub stays_for : (rs bs : List ℕ) (turns : ℕ) (at : Place) (targets : Targets) (body : Action)
      (ranged : Bool) (over : Value) (t : ℕ) → Each (λ x. is_among slots x ≡ true) targets.names
      → Staying rs bs body → Staying rs [] (for_loop turns at targets body ranged over t)
  stays_for rs bs turns at targets body ranged over t p s =
      stays_for_items rs bs (turns - t) at targets body (items_over ranged over) t p s
