-- What reading a name and a call do.
use Rattle.std.proofs.Common.{◌≡◌, ◌≢◌, ℕ, zero, suc, ◌-◌, List, [], ◌∷◌, map, length, Some, None, refl, sym, ap, ◌∙◌, arith}
use Rattle.pyd_value.specs.declared.value.Value.{Value}
use Rattle.pyd_value.specs.declared.fault.Kind.TheVariants.{UnboundLocalError, TypeError}
use Rattle.pyd_value.specs.declared.fault.Limit.TheVariants.{Depth}
use Rattle.pyd_tree.specs.declared.file.File.{File}
use Rattle.pyd_tree.specs.declared.file.Func.{Func}
use Rattle.pyd_names.specs.Binding.{function}
use Rattle.pyd_meaning.specs.declared.limits.Limits.{Limits}
use Rattle.pyd_meaning.specs.Evaluation.{Evaluation}
use Rattle.pyd_meaning.specs.Names.{Names, no_names, bind, bind_all}
use Rattle.pyd_meaning.specs.Setting.{Place, place_of, raises, exceeds, unbound_local, value_or}
use Rattle.pyd_meaning.specs.Reference.{read_as}
use Rattle.pyd_meaning.specs.Module.{parameters, with_parameters, with_function, body_value, call_within, setting_of, mean}
use Rattle.pyd_meaning.specs.CallLaws.{ReadLaw, FunctionLaw, ModuleLaw}

-- names and values of which there are not as many bind nothing
pub bind_all-uneven : (names : Names) (xs : List (List ℕ)) (vs : List Value) → length xs ≢ length vs → bind_all names xs vs ≡ None
bind_all-uneven names [] [] uneven = absurd (uneven refl)
bind_all-uneven names [] (v ∷ vs) uneven = refl
bind_all-uneven names (x ∷ xs) [] uneven = refl
bind_all-uneven names (x ∷ xs) (v ∷ vs) uneven = bind_all-uneven (bind names x v) xs vs (λ e. uneven (omega arith))

-- names and values of which there are as many are bound
pub bind_all-even : (names : Names) (xs : List (List ℕ)) (vs : List Value) → length xs ≡ length vs
    → (bound : Names) × (bind_all names xs vs ≡ Some bound)
bind_all-even names [] [] even = (names, refl)
bind_all-even names [] (v ∷ vs) even = absurd (omega arith)
bind_all-even names (x ∷ xs) [] even = absurd (omega arith)
bind_all-even names (x ∷ xs) (v ∷ vs) even = bind_all-even (bind names x v) xs vs (omega arith)

-- as many names as parameters
length-names : (ps : List (ℕ × List ℕ)) → length (map (λ p. p.1) ps) ≡ length ps
length-names [] = refl
length-names (p ∷ ps) = omega (arith, length-names ps)

-- an unbound local of a function
unbound_in : (routine : ℕ) (at : Place) → routine ≢ 0 → value_or None (unbound_local routine) at ≡ raises UnboundLocalError at
unbound_in zero at other = absurd (other refl)
unbound_in (suc k) at other = refl

-- reading a name
pub reads : ReadLaw
reads = record {
  local = λ setting name v at names local bound. ap (λ r. read_as r setting.routine (names name) at) local ∙ ap (λ o. value_or o (unbound_local setting.routine) at) bound;
  unbound_in_function = λ setting name at names local none other. ap (λ r. read_as r setting.routine (names name) at) local ∙ ap (λ o. value_or o (unbound_local setting.routine) at) none ∙ unbound_in setting.routine at other;
  unbound_in_module = λ setting name at names local none inside. ap (λ r. read_as r setting.routine (names name) at) local ∙ ap (λ o. value_or o (unbound_local setting.routine) at) none ∙ ap (λ k. value_or None (unbound_local k) at) inside;
  constant = λ setting name v at names constant. ap (λ r. read_as r setting.routine (names name) at) constant;
  unbound = λ setting name at names unbound. ap (λ r. read_as r setting.routine (names name) at) unbound;
}

-- a call with a wrong count of arguments, at whatever depth
counts : (file : File) (limits : Limits) (depths k line : ℕ) (f : Func) (args : List Value)
    → function file k ≡ Some f → parameters f args ≡ None
    → call_within file limits depths k args line ≡ raises TypeError (place_of line)
unfolding call_within
counts file limits zero k line f args found none =
    ap (λ o. with_function o args line (λ f names. exceeds Depth (place_of line))) found ∙ ap (λ o. with_parameters o line (λ names. exceeds Depth (place_of line))) none
counts file limits (suc depths) k line f args found none =
    let next : Func → Names → Evaluation Value = body_value (setting_of file limits k (call_within file limits depths)) in
    ap (λ o. with_function o args line next) found ∙ ap (λ o. with_parameters o line (next f)) none

-- a call that has no depth left
deep : (file : File) (limits : Limits) (depths k line : ℕ) (f : Func) (args : List Value) (names : Names)
    → depths ≡ 0 → function file k ≡ Some f → parameters f args ≡ Some names
    → call_within file limits depths k args line ≡ exceeds Depth (place_of line)
unfolding call_within
deep file limits zero k line f args names none found some =
    ap (λ o. with_function o args line (λ f names. exceeds Depth (place_of line))) found ∙ ap (λ o. with_parameters o line (λ names. exceeds Depth (place_of line))) some
deep file limits (suc depths) k line f args names none found some = absurd (omega arith)

-- a call that has
runs : (file : File) (limits : Limits) (depths k line : ℕ) (f : Func) (args : List Value) (names : Names)
    → function file k ≡ Some f → parameters f args ≡ Some names
    → call_within file limits (suc depths) k args line ≡ body_value (setting_of file limits k (call_within file limits depths)) f names
unfolding call_within
runs file limits depths k line f args names found some =
    let next : Func → Names → Evaluation Value = body_value (setting_of file limits k (call_within file limits depths)) in
    ap (λ o. with_function o args line next) found ∙ ap (λ o. with_parameters o line (next f)) some

-- a call of a function
pub functions : FunctionLaw
functions = record {
  count = λ file limits depth k line f args found uneven.
      counts file limits (suc limits.depth - depth) k line f args found
      (bind_all-uneven no_names (map (λ p. p.1) f.params) args (λ e. uneven (sym (length-names f.params) ∙ e)));
  deep = λ file limits depth k line f args found even above.
      let some = bind_all-even no_names (map (λ p. p.1) f.params) args (length-names f.params ∙ even) in
      deep file limits (suc limits.depth - depth) k line f args some.0 (omega arith) found some.1;
  body = λ file limits depth k line f args names found some within.
      let more : suc limits.depth - depth ≡ suc (limits.depth - depth) = omega arith in
      let fewer : limits.depth - depth ≡ suc limits.depth - suc depth = omega arith in
      ap (λ n. call_within file limits n k args line) more
      ∙ runs file limits (limits.depth - depth) k line f args names found some
      ∙ ap (λ n. body_value (setting_of file limits k (call_within file limits n)) f names) fewer;
}

-- a script
pub script : ModuleLaw
unfolding mean
script file limits = refl
