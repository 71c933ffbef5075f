-- What `repr` and `str` say of each kind of value.
use Rattle.std.proofs.Common.{◌≡◌, ℤ, ℕ, Bool, true, false, List, [], ◌∷◌, ◌++◌, map, codes, length, get_or, ◌<◌, ◌≤◌, arith, if◌then◌else◌, sym, ap, ◌∙◌, rules}
use Rattle.std.specs.Fmt.{signed_decimal}
use Rattle.std.specs.List.{join_by}
use Rattle.pyd_value.specs.declared.value.Value.{Value, Int, Bool as Truth, Text, Tuple, None, the_lemmas}
use Rattle.pyd_value.proofs.Constructs.{shape_of-int, shape_of-false, shape_of-true, shape_of-text, shape_of-tuple, shape_of-none}
use Rattle.pyd_text.specs.Quoting.{quoted}
use Rattle.pyd_text.specs.Texts.{repr, str, str_in, parenthesized}
use Rattle.pyd_text.specs.Laws.{ReprByKind, StrByKind}
use Rattle.pyd_text.proofs.Joining.{join_by-map}

pub repr-int : (n : ℤ) → repr (Int n) ≡ signed_decimal n
repr-int n = search (rules, the_lemmas)

pub repr-truth : (b : Bool) → repr (Truth b) ≡ (if b then codes "True" else codes "False")
repr-truth true = search (rules, the_lemmas)
repr-truth false = search (rules, the_lemmas)

pub repr-text : (s : List ℕ) → repr (Text s) ≡ quoted s
repr-text s = search (rules, the_lemmas)

pub repr-tuple : (members : List Value) → repr (Tuple members) ≡ parenthesized (map repr members)
repr-tuple members = search (rules, the_lemmas)

pub repr-none : repr None ≡ codes "None"
repr-none = search (rules, the_lemmas)

pub repr_by_kind : ReprByKind
repr_by_kind = record {
  int = repr-int;
  truth = repr-truth;
  text = repr-text;
  empty = repr-tuple [];
  one = λ x. repr-tuple (x ∷ []);
  more = λ x y xs. repr-tuple (x ∷ y ∷ xs)
      ∙ ap (λ s. codes "(" ++ (s ++ codes ")")) (join_by-map repr (codes ", ") (x ∷ y ∷ xs));
  nothing = repr-none;
}

pub str-text : (s : List ℕ) → str (Text s) ≡ s
str-text s = ap (λ x. str_in x (repr (Text s))) (shape_of-text s)

str-truth : (b : Bool) → str (Truth b) ≡ repr (Truth b)
str-truth true = ap (λ x. str_in x (repr (Truth true))) shape_of-true
str-truth false = ap (λ x. str_in x (repr (Truth false))) shape_of-false

pub str_by_kind : StrByKind
str_by_kind = record {
  text = str-text;
  int = λ n. ap (λ x. str_in x (repr (Int n))) (shape_of-int n);
  truth = str-truth;
  tuple = λ xs. ap (λ x. str_in x (repr (Tuple xs))) (shape_of-tuple xs);
  nothing = ap (λ x. str_in x (repr None)) shape_of-none;
}

-- a tuple of one member, and one of more
pub one_member : (xs : List Value) (x : Value) → 1 ≤ length xs → length xs < 2 → x ≡ get_or xs 0 x
    → codes "(" ++ (repr x ++ codes ",)") ≡ parenthesized (map repr xs)
one_member [] x l h e = absurd (omega arith)
one_member (y ∷ []) x l h e = ap (λ z. codes "(" ++ (repr z ++ codes ",)")) e
one_member (y ∷ z ∷ xs) x l h e = absurd (omega arith)

pub more_members : (xs : List Value) → 2 ≤ length xs
    → codes "(" ++ (join_by repr (codes ", ") xs ++ codes ")") ≡ parenthesized (map repr xs)
more_members [] l = absurd (omega arith)
more_members (x ∷ []) l = absurd (omega arith)
more_members (x ∷ y ∷ xs) l = ap (λ s. codes "(" ++ (s ++ codes ")")) (sym (join_by-map repr (codes ", ") (x ∷ y ∷ xs)))
