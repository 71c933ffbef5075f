-- Tokens have one answer, and those of a source have one.
use Rattle.std.proofs.Common.{◌≡◌, ℕ, ◌≤◌, ⊎_elim, List, [], ◌∷◌, ◌++◌, length, drop, Option, Some, None, Result, Ok, Err, IfOk, refl, sym, ap, ◌∙◌, arith}
use Rattle.std.proofs.lemmas.List.{map-append}
use Rattle.pyd_lex.specs.declared.token.Token.{Token}
use Rattle.pyd_lex.specs.Reads.{Reads}
use Rattle.pyd_lex.specs.TokenBytes.{TokenBytes}
use Rattle.pyd_syntax.specs.declared.symbol.Symbol.TheVariants.{Rule}
use Rattle.pyd_syntax.specs.declared.terminal.TheConstants.{END}
use Rattle.pyd_syntax.specs.Rules.{file}
use Rattle.pyd_syntax.specs.Terminals.{terminal, terminals}
use Rattle.pyd_syntax.specs.Script.{IsScript, EndsAtEnd}
use Rattle.pyd_syntax.specs.Laws.{OneFirstHopeless, AnAnswer as ScriptAnswer}
use Rattle.pyd_tree.specs.declared.file.File.{File}
use Rattle.pyd_derivation.specs.Forms.{apply, does}
use Rattle.pyd_derivation.specs.Productions.{grammar}
use Rattle.pyd_derivation.specs.Derivation.{Trees, End, Token_then, Production_then, Derive, leaves, line_of, values}
use Rattle.pyd_derivation.specs.Files.{IsFile, file_of}
use Rattle.pyd_derivation.specs.Laws.{OneFile, FilesAreScripts}
use Rattle.pyd_measure.specs.Lines.{IsDeepLine, IsTargetLine}
use Rattle.pyd_measure.specs.Laws.{OneLine, ALine}
use Rattle.pyd_names.specs.WellFormed.{IsWellFormed}
use Rattle.pyd_grammar.specs.declared.fault.ParseFault.TheVariants.{Syntax, Deep, Target}
use Rattle.pyd_grammar.specs.Limits.{longest_source}
use Rattle.pyd_grammar.specs.Parses.{Parses, IsHopelessLine}
use Rattle.pyd_grammar.specs.Laws.{Answer, OneAnswer, AnAnswer, FaultsByCause, FilesAreWellFormed}
use Rattle.pyd_grammar.proofs.Texts.{texts_fit}
use Rattle.pyd_grammar.proofs.Weights.{weight_tokens}
use Rattle.pyd_grammar.proofs.FormedFiles.{files_formed}

-- a derivation is read as a file
derived_file : (bytes : List ℕ) (ts : List Token) (ds : Trees) → Derive grammar (Rule file ∷ []) ds → leaves ds ≡ ts → (f : File) × IsFile bytes ts f
derived_file bytes ts (Production_then p cs End) d l =
    let v = apply (does grammar p) bytes (line_of (leaves cs)) (values grammar bytes cs) in (file_of v, (v, (Production_then p cs End, d, l, refl), refl))
derived_file bytes ts (Production_then p cs (Token_then t ds)) d l = absurd d.3
derived_file bytes ts (Production_then p cs (Production_then q es ds)) d l = absurd d.3
derived_file bytes ts End d l = absurd d
derived_file bytes ts (Token_then t ds) d l = absurd d

-- tokens with a line have a derivation
deep_script : FilesAreScripts → (ts : List Token) (line : Option ℕ) → IsDeepLine ts line → IsScript ts
deep_script scripts ts line h = let r = derived_file [] ts h.0 h.1 h.2 in scripts.script [] ts r.0 r.1

-- a hopeless token is in a line of no script
no_script : OneFirstHopeless → (ts : List Token) (line : ℕ) → IsHopelessLine ts line → IsScript ts → ⊥
no_script hopeless ts line h s = hopeless.script ts h.0 h.1 s

pub faults_by_cause : OneFirstHopeless → ScriptAnswer → FilesAreScripts → FaultsByCause
faults_by_cause hopeless script_answer scripts =
    record {
      syntax = λ bytes ts e n. ⊎_elim (λ s. absurd (n s)) (λ h. (line_of (drop h.0 ts), (h.0, h.1, refl))) (script_answer ts e);
      none = λ bytes ts line h s. no_script hopeless ts line h s;
      deep = λ bytes ts line h. deep_script scripts ts (Some line) h;
      target = λ bytes ts line h. deep_script scripts ts None h.0;
      file = λ bytes ts f h. scripts.script bytes ts f h.0;
    }

module _ (hopeless : OneFirstHopeless) (one_file : OneFile) (scripts : FilesAreScripts) (one_line : OneLine) where
  one_hopeless : (ts : List Token) (k l : ℕ) → IsHopelessLine ts k → IsHopelessLine ts l → k ≡ l
  one_hopeless ts k l g h = g.2 ∙ ap (λ (i : ℕ). line_of (drop i ts)) (hopeless.place ts g.0 h.0 g.1 h.1) ∙ sym h.2

  two_deep : (ts : List Token) (line : ℕ) → IsDeepLine ts None → IsDeepLine ts (Some line) → ⊥
  two_deep ts line g h = let e = one_line.deep ts None (Some line) g h in cc

  two_target : (ts : List Token) (line : ℕ) → IsTargetLine ts None → IsTargetLine ts (Some line) → ⊥
  two_target ts line g h = let e = one_line.target ts None (Some line) g h in cc

  same_some : (k l : ℕ) → let x : Option ℕ = Some k in let y : Option ℕ = Some l in x ≡ y → k ≡ l
  same_some k l e = cc

  pub one_answer : OneAnswer
  one_answer bytes ts (Ok f) (Ok g) a b = ap Ok (one_file bytes ts f g a.0 b.0)
  one_answer bytes ts (Ok f) (Err (Syntax l)) a b = absurd (no_script hopeless ts l b (scripts.script bytes ts f a.0))
  one_answer bytes ts (Ok f) (Err (Deep l)) a b = absurd (two_deep ts l a.1 b)
  one_answer bytes ts (Ok f) (Err (Target l)) a b = absurd (two_target ts l a.2 b.1)
  one_answer bytes ts (Err (Syntax k)) (Ok g) a b = absurd (no_script hopeless ts k a (scripts.script bytes ts g b.0))
  one_answer bytes ts (Err (Syntax k)) (Err (Syntax l)) a b = ap (λ (z : ℕ). Err (Syntax z)) (one_hopeless ts k l a b)
  one_answer bytes ts (Err (Syntax k)) (Err (Deep l)) a b = absurd (no_script hopeless ts k a (deep_script scripts ts (Some l) b))
  one_answer bytes ts (Err (Syntax k)) (Err (Target l)) a b = absurd (no_script hopeless ts k a (deep_script scripts ts None b.0))
  one_answer bytes ts (Err (Deep k)) (Ok g) a b = absurd (two_deep ts k b.1 a)
  one_answer bytes ts (Err (Deep k)) (Err (Syntax l)) a b = absurd (no_script hopeless ts l b (deep_script scripts ts (Some k) a))
  one_answer bytes ts (Err (Deep k)) (Err (Deep l)) a b = ap (λ (z : ℕ). Err (Deep z)) (same_some k l (one_line.deep ts (Some k) (Some l) a b))
  one_answer bytes ts (Err (Deep k)) (Err (Target l)) a b = absurd (two_deep ts k b.0 a)
  one_answer bytes ts (Err (Target k)) (Ok g) a b = absurd (two_target ts k b.2 a.1)
  one_answer bytes ts (Err (Target k)) (Err (Syntax l)) a b = absurd (no_script hopeless ts l b (deep_script scripts ts None a.0))
  one_answer bytes ts (Err (Target k)) (Err (Deep l)) a b = absurd (two_deep ts l a.0 b)
  one_answer bytes ts (Err (Target k)) (Err (Target l)) a b = ap (λ (z : ℕ). Err (Target z)) (same_some k l (one_line.target ts (Some k) (Some l) a.1 b.1))

-- the tokens of bytes end with the end of the source
pub ends : TokenBytes → (bytes : List ℕ) (ts : List Token) → Reads bytes (Ok ts) → EndsAtEnd ts
ends law bytes ts r =
    let e = (law bytes ts r).ended in
    let last : terminal e.last.kind ≡ END = ap terminal e.is_end in
    (terminals e.before, ap terminals e.whole ∙ map-append (λ (t : Token). terminal t.kind) e.before (e.last ∷ []) ∙ ap (λ (z : ℕ). terminals e.before ++ z ∷ []) last)

module _ (script_answer : ScriptAnswer) (scripts : FilesAreScripts) (a_line : ALine) where
  by_target : (bytes : List ℕ) (ts : List Token) (line : Option ℕ) → IsScript ts → IsDeepLine ts None → IsTargetLine ts line → (a : Answer) × Parses bytes ts a
  by_target bytes ts None s d t = let r = scripts.file bytes ts s in (Ok r.0, (r.1, d, t))
  by_target bytes ts (Some line) s d t = (Err (Target line), (d, t))

  by_deep : (bytes : List ℕ) (ts : List Token) (line : Option ℕ) → IsScript ts → IsDeepLine ts line → (a : Answer) × Parses bytes ts a
  by_deep bytes ts None s d = let r = a_line.target ts s in by_target bytes ts r.0 s d r.1
  by_deep bytes ts (Some line) s d = (Err (Deep line), d)

  some_answer : (bytes : List ℕ) (ts : List Token) → EndsAtEnd ts → (a : Answer) × Parses bytes ts a
  some_answer bytes ts e =
      ⊎_elim (λ s. let r = a_line.deep ts s in by_deep bytes ts r.0 s r.1) (λ h. (Err (Syntax (line_of (drop h.0 ts))), (h.0, h.1, refl))) (script_answer ts e)

  pub an_answer : TokenBytes → AnAnswer
  an_answer law = record { ended = some_answer; tokens = ends law }

-- a file of a source within the limit is well formed
pub well_formed : TokenBytes → FilesAreWellFormed
well_formed law bytes ts f r l i = let w = weight_tokens bytes ts (law bytes ts r) in files_formed bytes (texts_fit bytes l) ts f (omega arith) i

-- so is the file of an answer
pub answer_formed : TokenBytes → (E : Type 0) (bytes : List ℕ) (ts : List Token) (r : Result File E) → Reads bytes (Ok ts) → IfOk r (λ f. Parses bytes ts (Ok f)) →
    IfOk r (λ f. length bytes ≤ longest_source → IsWellFormed f)
answer_formed law E bytes ts (Ok f) reads h = λ l. well_formed law bytes ts f reads l h.0
answer_formed law E bytes ts (Err e) reads h = tt
