-- How many parts the tokens of a source may make.
use Rattle.std.proofs.Common.{◌≡◌, ℕ, ◌+◌, ◌*◌, ◌≤◌, Bool, true, false, cond, leb, List, [], ◌∷◌, ◌++◌, length, take, sym, ap, ◌∙◌, arith, All, length-drop, length-take}
use Rattle.std.proofs.lemmas.Str.{chars-nil}
use Rattle.std.proofs.lemmas.List.Elements.{All-head, All-tail}
use Rattle.pyd_lex.specs.declared.token.Shape.{Shape}
use Rattle.pyd_lex.specs.declared.token.Token.{Token}
use Rattle.pyd_lex.specs.declared.token.TokenKind.{TokenKind}
use Rattle.pyd_lex.specs.declared.token.TokenKind.TheVariants as kind
use Rattle.pyd_lex.specs.Spelling.{is_piece}
use Rattle.pyd_lex.specs.Texts.{spelling_of}
use Rattle.pyd_lex.specs.TokenBytes.{IsWithin, AreInOrder, Spells, HasBytes, IsSpelled, AreTokensOf}
use Rattle.pyd_syntax.specs.Terminals.{terminal}
use Rattle.pyd_grammar.proofs.Shapes.{worth}

-- how many parts tokens may make
abbrev pub weight : List Token → ℕ
weight [] = 0
weight (t ∷ ts) = worth (terminal t.kind) + weight ts

pub weight_append : (ts us : List Token) → weight (ts ++ us) ≡ weight ts + weight us
weight_append [] us = omega arith
weight_append (t ∷ ts) us = let h = weight_append ts us in omega arith

most : (b : Bool) → cond b 0 32 ≤ 32
most true = omega arith
most false = omega arith

worth_most : (k : ℕ) → worth k ≤ 32
worth_most k = most (leb k 4)

no_piece : is_piece [] ≡ true → ⊥
unfolding is_piece
no_piece h = cc

spelled_some : (bytes : List ℕ) (s : Shape) → Spells bytes s → 1 ≤ length bytes
spelled_some [] s h = absurd (no_piece (ap is_piece (sym chars-nil) ∙ h.piece))
spelled_some (b ∷ bytes) s h = omega arith

worth_bytes : (k : TokenKind) (bytes : List ℕ) → HasBytes k bytes → worth (terminal k) ≤ 32 * length bytes
worth_bytes kind.Name bytes h = let a = spelled_some bytes _ h in omega arith
worth_bytes (kind.Int n) bytes h = let a = spelled_some bytes _ h in omega arith
worth_bytes kind.Str bytes h = let a = spelled_some bytes _ h in omega arith
worth_bytes (kind.Word w) bytes h = let a = spelled_some bytes _ h in let b = worth_most (terminal (kind.Word w)) in omega arith
worth_bytes (kind.Mark m) bytes h = let a = spelled_some bytes _ h in let b = worth_most (terminal (kind.Mark m)) in omega arith
worth_bytes kind.Newline bytes h = omega arith
worth_bytes kind.Indent bytes h = omega arith
worth_bytes kind.Dedent bytes h = omega arith
worth_bytes kind.End bytes h = omega arith

worth_span : (bytes : List ℕ) (t : Token) → IsWithin bytes t → IsSpelled bytes t → worth (terminal t.kind) + 32 * t.from ≤ 32 * t.to
worth_span bytes t w s =
    let a = worth_bytes t.kind (spelling_of bytes t.from t.to) s in
    let b = length-drop t.from (take t.to bytes) in
    let c = length-take t.to bytes in
    let d = w.forward in
    let e = w.inside in
    omega arith

weight_from : (bytes : List ℕ) (at : ℕ) (ts : List Token) → at ≤ length bytes → All (IsWithin bytes) ts → AreInOrder at ts → All (IsSpelled bytes) ts → weight ts + 32 * at ≤ 32 * length bytes
weight_from bytes at [] l w o s = omega arith
weight_from bytes at (t ∷ ts) l w o s =
    let here = All-head (IsWithin bytes) t ts w in
    let a = worth_span bytes t here (All-head (IsSpelled bytes) t ts s) in
    let b = weight_from bytes t.to ts here.inside (All-tail (IsWithin bytes) t ts w) o.1 (All-tail (IsSpelled bytes) t ts s) in
    let c = o.0 in
    omega arith

-- the tokens of bytes make no more than 32 parts for each byte
pub weight_tokens : (bytes : List ℕ) (ts : List Token) → AreTokensOf bytes ts → weight ts ≤ 32 * length bytes
weight_tokens bytes ts h = let a = weight_from bytes 0 ts (omega arith) h.within h.ordered h.spelled in omega arith
