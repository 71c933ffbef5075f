-- A text that means a token spells one of its kind.
use Rattle.std.proofs.Common.{◌≡◌, ℕ, Bool, true, false, ◌==◌, [], ◌∷◌, Option, Some, None, Result, Ok, Err, refl, subst, if◌then◌else◌}
use Rattle.pyd_lex.specs.declared.fault.Flaw.{Flaw}
use Rattle.pyd_lex.specs.declared.fault.Flaw.TheVariants.{BadNumber}
use Rattle.pyd_lex.specs.declared.mark.Mark.{Mark}
use Rattle.pyd_lex.specs.declared.run.Class.{Class}
use Rattle.pyd_lex.specs.declared.run.Class.TheVariants.{Return, Hash, Quote, Digit, Letter, Other}
use Rattle.pyd_lex.specs.declared.token.Shape.TheVariants.{Space, Tab, Break, Token as Spelled}
use Rattle.pyd_lex.specs.declared.token.TokenKind.{TokenKind}
use Rattle.pyd_lex.specs.declared.token.TokenKind.TheVariants as kind
use Rattle.pyd_lex.specs.declared.word.Word.{Word}
use Rattle.pyd_lex.specs.Words.{Text, keyword, mark_of}
use Rattle.pyd_lex.specs.Strings.{string_flaw}
use Rattle.pyd_lex.specs.Numbers.{number, is_digits, radix, digits, amount, bounded, has_leading_zero, sized}
use Rattle.pyd_lex.specs.Spelling.{class_of}
use Rattle.pyd_lex.specs.Meaning.{meaning, judged, as_token, ended, name, in_nfkc, known, spacing_or, marked}
use Rattle.pyd_lex.specs.TokenBytes.{HasText, TokenTexts}

abbrev pub IsContent : TokenKind → Type 0
IsContent kind.Name = Unit {0}
IsContent (kind.Int n) = Unit {0}
IsContent kind.Str = Unit {0}
IsContent (kind.Word w) = Unit {0}
IsContent (kind.Mark m) = Unit {0}
IsContent kind.Newline = ⊥
IsContent kind.Indent = ⊥
IsContent kind.Dedent = ⊥
IsContent kind.End = ⊥

abbrev as_kind : TokenKind → Result TokenKind Flaw
as_kind k = Ok k

text_as : (z : Text) (k l : TokenKind) → HasText k z → as_kind k ≡ Ok l → HasText l z
text_as z k l t e = let h : k ≡ l = cc in subst (λ x. HasText x z) h t

shape_is : (k : TokenKind) (r : Result TokenKind Flaw) → as_token r ≡ Ok (Spelled k) → r ≡ Ok k
shape_is k (Ok l) e = let h : Ok (Spelled l) ≡ Ok (Spelled k) = e in cc
shape_is k (Err f) e = absurd (let h : Err f ≡ Ok (Spelled k) = e in cc)

string_text : (c : ℕ) (z : Text) (o : Option Flaw) (k : TokenKind) → class_of c ≡ Quote → string_flaw c z ≡ o → ended o ≡ Ok k → HasText k (c ∷ z)
string_text c z None k q f e = text_as (c ∷ z) kind.Str k (q, f) e
string_text c z (Some x) k q f e = absurd (let h : Err x ≡ Ok k = e in cc)

int_text : (z : Text) (n : _) (k : TokenKind) → number z ≡ Ok k → as_kind (kind.Int n) ≡ Ok k → HasText k z
int_text z n k i e = let h : kind.Int n ≡ k = cc in subst (λ x. number z ≡ Ok x → HasText x z) h (λ y. y) i

sized_text : (z : Text) (o : Option ℕ) (k : TokenKind) → number z ≡ Ok k → sized o ≡ Ok k → HasText k z
sized_text z None k i e = cc
sized_text z (Some n) k i e = int_text z _ k i e

led_text : (z : Text) (b : Bool) (o : Option ℕ) (k : TokenKind) → number z ≡ Ok k → (if b then Err BadNumber else sized o) ≡ Ok k → HasText k z
led_text z true o k i e = cc
led_text z false o k i e = sized_text z o k i e

digits_text : (z : Text) (b c : Bool) (o : Option ℕ) (k : TokenKind) → number z ≡ Ok k → (if b then (if c then Err BadNumber else sized o) else Err BadNumber) ≡ Ok k → HasText k z
digits_text z true c o k i e = led_text z c o k i e
digits_text z false c o k i e = cc

number_text : (z : Text) (k : TokenKind) → number z ≡ Ok k → HasText k z
unfolding number
number_text z k e =
    let o = bounded (amount (radix z) 0 (digits z)) in digits_text z (is_digits (radix z) (digits z)) (has_leading_zero (radix z) z o) o k e e

known_text : (c : ℕ) (z : Text) (o : Option Word) (k : TokenKind) → class_of c ≡ Letter → in_nfkc (c ∷ z) ≡ true → keyword (c ∷ z) ≡ o → as_kind (known o) ≡ Ok k → HasText k (c ∷ z)
known_text c z None k l n w e = text_as (c ∷ z) kind.Name k (record { first = l; normal = n; free = w }) e
known_text c z (Some x) k l n w e = text_as (c ∷ z) (kind.Word x) k w e

nfkc_text : (c : ℕ) (z : Text) (b : Bool) (k : TokenKind) (f : Flaw) → class_of c ≡ Letter → in_nfkc (c ∷ z) ≡ b → (if b then Ok (known (keyword (c ∷ z))) else Err f) ≡ Ok k → HasText k (c ∷ z)
nfkc_text c z true k f l n e = known_text c z (keyword (c ∷ z)) k l n refl e
nfkc_text c z false k f l n e = absurd (let h : Err f ≡ Ok k = e in cc)

name_text : (c : ℕ) (z : Text) (k : TokenKind) → class_of c ≡ Letter → name (c ∷ z) ≡ Ok k → HasText k (c ∷ z)
unfolding name
name_text c z k l e = nfkc_text c z (in_nfkc (c ∷ z)) k _ l refl e

marked_text : (z : Text) (m : Option Mark) (k : TokenKind) → mark_of z ≡ m → marked m ≡ Ok (Spelled k) → HasText k z
marked_text z None k f e = cc
marked_text z (Some m) k f e = let h : kind.Mark m ≡ k = cc in subst (λ x. HasText x z) h f

spacing_text : (z : Text) (b d f : Bool) (k : TokenKind) → spacing_or (if b then Some Space else (if d then Some Tab else (if f then Some Break else None))) (mark_of z) ≡ Ok (Spelled k) → HasText k z
spacing_text z true d f k e = cc
spacing_text z false true f k e = cc
spacing_text z false false true k e = cc
spacing_text z false false false k e = marked_text z (mark_of z) k refl e

judged_text : (t : Class) (c : ℕ) (z : Text) (k : TokenKind) → class_of c ≡ t → judged t c z ≡ Ok (Spelled k) → HasText k (c ∷ z)
unfolding judged
judged_text Return c z k t e = cc
judged_text Hash c z k t e = cc
judged_text Quote c z k t e = string_text c z (string_flaw c z) k t refl (shape_is k (ended (string_flaw c z)) e)
judged_text Digit c z k t e = number_text (c ∷ z) k (shape_is k (number (c ∷ z)) e)
judged_text Letter c z k t e = name_text c z k t (shape_is k (name (c ∷ z)) e)
judged_text Other c z k t e = spacing_text (c ∷ z) (c == 32) (c == 9) (c == 10) k e

pub token_texts : TokenTexts
unfolding meaning
token_texts [] k e = cc
token_texts (c ∷ z) k e = judged_text (class_of c) c z k refl e

content : (k : TokenKind) (z : Text) → HasText k z → IsContent k
content kind.Name z t = tt
content (kind.Int n) z t = tt
content kind.Str z t = tt
content (kind.Word w) z t = tt
content (kind.Mark m) z t = tt
content kind.Newline z t = t
content kind.Indent z t = t
content kind.Dedent z t = t
content kind.End z t = t

pub means_content : (z : Text) (k : TokenKind) → meaning z ≡ Ok (Spelled k) → IsContent k
means_content z k e = content k z (token_texts z k e)

pub not_end : (k : TokenKind) → IsContent k → k ≡ kind.End → ⊥
not_end k c e = subst IsContent e c
