-- The number of suites round a token, by the terminals behind it.
use Rattle.std.proofs.Common.{◌≡◌, ℕ, ◌-◌, ◌<◌, suc, zero, List, [], ◌∷◌, ◌++◌, length, take, drop, get_or, Bool, true, false, cond, eqb, refl, sym, subst, ◌∙◌, arith}
use Rattle.pyd_lex.specs.declared.token.TokenKind.{TokenKind}
use Rattle.pyd_lex.specs.declared.token.TokenKind.TheVariants as kind
use Rattle.pyd_lex.specs.declared.word.Word.{Word}
use Rattle.pyd_lex.specs.declared.word.Word.TheVariants as word
use Rattle.pyd_lex.specs.declared.mark.Mark.{Mark}
use Rattle.pyd_lex.specs.declared.mark.Mark.TheVariants as mark
use Rattle.pyd_syntax.specs.declared.terminal.TheConstants.{INDENT, DEDENT}
use Rattle.pyd_syntax.specs.declared.symbol.Symbol.{Symbol}
use Rattle.pyd_syntax.specs.declared.symbol.Symbol.TheVariants.{Terminal, Rule}
use Rattle.pyd_syntax.specs.Rules.{suite}
use Rattle.pyd_syntax.specs.Terminals.{terminal, word_terminal, mark_terminal}
use Rattle.pyd_derivation.specs.Forms.{Form, none, symbols}
use Rattle.pyd_derivation.specs.Productions.{grammar}
use Rattle.pyd_measure.specs.Marks.{inside}
use Rattle.pyd_measure.specs.States.{suites_before}

-- the number of suites round a terminal, from that behind it
abbrev pub moved : ℕ → ℕ → ℕ
moved k n = cond (eqb k DEDENT) (suc n) (cond (eqb k INDENT) (n - 1) n)

word_moved : (w : Word) (n : ℕ) → n ≡ moved (word_terminal w) n
word_moved word.False n = refl
word_moved w n = refl

mark_moved : (m : Mark) (n : ℕ) → n ≡ moved (mark_terminal m) n
mark_moved mark.Add n = refl
mark_moved m n = refl

pub moved_by : (k : TokenKind) (n : ℕ) → suites_before k n ≡ moved (terminal k) n
moved_by kind.Name n = refl
moved_by (kind.Int i) n = refl
moved_by kind.Str n = refl
moved_by (kind.Word w) n = word_moved w n
moved_by (kind.Mark m) n = mark_moved m n
moved_by kind.Newline n = refl
moved_by kind.Indent n = refl
moved_by kind.Dedent n = refl
moved_by kind.End n = refl

-- the number of suites before these symbols, from that behind them
abbrev pub before : List Symbol → ℕ → ℕ
before [] b = b
before (Terminal k ∷ ss) b = moved k (before ss b)
before (Rule n ∷ ss) b = before ss b

-- where b suites are open behind these symbols, k are open behind each of their rules
abbrev pub Level : List Symbol → ℕ → ℕ → Type 0
Level [] b k = Unit {0}
Level (Terminal t ∷ ss) b k = Level ss b k
Level (Rule n ∷ ss) b k = (before ss b ≡ k) × Level ss b k

-- the number of suites round the parts of a form in so many suites
abbrev inside_form : Form → ℕ → ℕ
inside_form f b = cond (eqb f.production.of suite) (suc b) b

abbrev Bracketed : Form → Type 0
Bracketed f = (b : ℕ) → (before f.production.to b ≡ b) × Level f.production.to b (inside_form f b)

abbrev AllBracketed : List Form → Type 0
AllBracketed [] = Unit {0}
AllBracketed (f ∷ fs) = Bracketed f × AllBracketed fs

bracketed_in : (g : List Form) (p : ℕ) → AllBracketed g → p < length g → Bracketed (get_or g p none)
bracketed_in [] p a l = absurd (omega arith)
bracketed_in (f ∷ g) zero a l = a.0
bracketed_in (f ∷ g) (suc p) a l = bracketed_in g p a.1 (omega arith)

-- no INDENT and no DEDENT
abbrev flat : List Symbol → Bool
flat [] = true
flat (Terminal k ∷ ss) = cond (eqb k DEDENT) false (cond (eqb k INDENT) false (flat ss))
flat (Rule n ∷ ss) = flat ss

calm : (p q r : Bool) (x : ℕ) → cond p false (cond q false r) ≡ true → (cond p (suc x) (cond q (x - 1) x) ≡ x) × (r ≡ true)
calm false false r x h = (refl, h)
calm true q r x h = cc
calm false true r x h = cc

flat_before : (ss : List Symbol) (b : ℕ) → flat ss ≡ true → before ss b ≡ b
flat_before [] b h = refl
flat_before (Rule n ∷ ss) b h = flat_before ss b h
flat_before (Terminal k ∷ ss) b h = let c = calm (eqb k DEDENT) (eqb k INDENT) (flat ss) (before ss b) h in c.0 ∙ flat_before ss b c.1

flat_level : (ss : List Symbol) (b : ℕ) → flat ss ≡ true → Level ss b b
flat_level [] b h = tt
flat_level (Rule n ∷ ss) b h = (flat_before ss b h, flat_level ss b h)
flat_level (Terminal k ∷ ss) b h = flat_level ss b (calm (eqb k DEDENT) (eqb k INDENT) (flat ss) 0 h).1

-- no suite
abbrev is_flat : Form → Bool
is_flat f = cond (eqb f.production.of suite) false (flat f.production.to)

split : (p r : Bool) → cond p false r ≡ true → (p ≡ false) × (r ≡ true)
split false r h = (refl, h)
split true r h = cc

from_flat : (f : Form) → is_flat f ≡ true → Bracketed f
from_flat f h b =
    let c = split (eqb f.production.of suite) (flat f.production.to) h in
    (flat_before f.production.to b c.1, subst (λ (z : Bool). Level f.production.to b (cond z (suc b) b)) (sym c.0) (flat_level f.production.to b c.1))

abbrev all_flat : List Form → Bool
all_flat [] = true
all_flat (f ∷ fs) = cond (is_flat f) (all_flat fs) false

both : (p r : Bool) → cond p r false ≡ true → (p ≡ true) × (r ≡ true)
both true r h = (refl, h)
both false r h = cc

from_all : (fs : List Form) → all_flat fs ≡ true → AllBracketed fs
from_all [] h = tt
from_all (f ∷ fs) h = let c = both (is_flat f) (all_flat fs) h in (from_flat f c.0, from_all fs c.1)

one_less : (b : ℕ) → suc b - 1 ≡ b
one_less b = omega arith

-- the suite is the one production with INDENT and DEDENT
all_but : (before_it : List Form) (f : Form) (behind : List Form) → all_flat before_it ≡ true → Bracketed f → all_flat behind ≡ true → AllBracketed (before_it ++ f ∷ behind)
all_but [] f behind h s k = (s, from_all behind k)
all_but (e ∷ es) f behind h s k = let c = both (is_flat e) (all_flat es) h in (from_flat e c.0, all_but es f behind c.1 s k)

all_bracketed : AllBracketed grammar
unfolding grammar
all_bracketed = all_but (take 15 grammar) (get_or grammar 15 none) (drop 16 grammar) refl (λ b. (one_less b, (refl, (refl, tt)))) refl

pub before_at : (p b : ℕ) → p < length grammar → before (symbols grammar p) b ≡ b
before_at p b l = (bracketed_in grammar p all_bracketed l b).0

pub level_at : (p b : ℕ) → p < length grammar → Level (symbols grammar p) b (inside p b)
level_at p b l = (bracketed_in grammar p all_bracketed l b).1
