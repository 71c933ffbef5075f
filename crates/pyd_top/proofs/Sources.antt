-- A source has one program or one refusal.
use Rattle.std.proofs.Common.{◌≡◌, ◌⊎◌, ℕ, ◌<◌, ◌≤◌, List, [], length, refl, ap, sym, ◌∙◌, subst, arith, inl, inr, Option, Some, None, Result, Ok, Err}
use Rattle.std.proofs.lemmas.Bool.{cases_lt}
use Rattle.pyd_lex.specs.declared.token.Token.{Token}
use Rattle.pyd_lex.specs.declared.fault.LexFault.{LexFault}
use Rattle.pyd_lex.specs.Reads.{Reads}
use Rattle.pyd_lex.specs.Laws.{OneAnswer as OneLexing, AnAnswer as ALexing}
use Rattle.pyd_tree.specs.declared.file.File.{File}
use Rattle.pyd_grammar.specs.declared.fault.ParseFault.{ParseFault}
use Rattle.pyd_grammar.specs.Limits.{longest_source}
use Rattle.pyd_grammar.specs.Parses.{Parses}
use Rattle.pyd_grammar.specs.Laws.{Answer, OneAnswer as OneParsing, AnAnswer as AParsing, FilesAreWellFormed}
use Rattle.pyd_scope.specs.declared.program.Program.{Program}
use Rattle.pyd_scope.specs.declared.refusal.Refusal.{Refusal}
use Rattle.pyd_scope.specs.Checks.{Parts, answer, refusal, parts, unless_refused}
use Rattle.pyd_scope.specs.Parts.{routines}
use Rattle.pyd_scope.specs.Tables.{AreTables}
use Rattle.pyd_scope.specs.Indexing.{index_of}
use Rattle.pyd_names.specs.Binding.{constants}
use Rattle.pyd_top.specs.declared.source_stop.SourceStop.{SourceStop}
use Rattle.pyd_top.specs.declared.source_stop.SourceStop.TheVariants as stop
use Rattle.pyd_top.specs.Accepts.{Fits, IsReadAs, Accepted, Misparses, IsRefused}
use Rattle.pyd_top.specs.Laws.{Same, OneAnswer}

-- the laws of the lower crates
pub record Laws : Type 0 where
  pub lexing : OneLexing
  pub lexed : ALexing
  pub parsing : OneParsing
  pub parsed : AParsing
  pub formed : FilesAreWellFormed

Lexed : Type 0
Lexed = Result (List Token) LexFault

same_tokens : Laws → (bytes : List ℕ) (ts us : List Token) → Reads bytes (Ok ts) → Reads bytes (Ok us) → ts ≡ us
same_tokens laws bytes ts us p q =
    let both = laws.lexing bytes (Ok ts) (Ok us) p q in cc

-- no source has tokens and a fault of tokens
no_fault : Laws → (bytes : List ℕ) (ts : List Token) (f : LexFault) → Reads bytes (Ok ts) → ¬ Reads bytes (Err f)
no_fault laws bytes ts f p q =
    let both = laws.lexing bytes (Ok ts) (Err f) p q in cc

same_parse : Laws → (bytes : List ℕ) (ts us : List Token) (a b : Answer) → Reads bytes (Ok ts) → Reads bytes (Ok us) → Parses bytes ts a → Parses bytes us b → a ≡ b
same_parse laws bytes ts us a b p q x y =
    laws.parsing bytes us a b (subst (λ vs. Parses bytes vs a) (same_tokens laws bytes ts us p q) x) y

same_file : Laws → (bytes : List ℕ) (f g : File) → IsReadAs bytes f → IsReadAs bytes g → f ≡ g
same_file laws bytes f g p q =
    let both = same_parse laws bytes p.tokens q.tokens (Ok f) (Ok g) p.reads q.reads p.parses q.parses in cc

-- no source is read as a file and has a fault of the grammar
no_misparse : Laws → (bytes : List ℕ) (f : File) (g : ParseFault) → IsReadAs bytes f → ¬ Misparses bytes g
no_misparse laws bytes f g p q =
    let both = same_parse laws bytes p.tokens q.tokens (Ok f) (Err g) p.reads q.reads p.parses q.parses in cc

-- what `check` answers for two readings is the same
same_answer : Laws → (bytes : List ℕ) (f g : File) (a b : Result Parts Refusal) → IsReadAs bytes f → IsReadAs bytes g → answer f ≡ a → answer g ≡ b → a ≡ b
same_answer laws bytes f g a b p q x y = sym x ∙ ap answer (same_file laws bytes f g p q) ∙ y

pub one_program : Laws → (bytes : List ℕ) (p q : Program) → Accepted bytes p → Accepted bytes q → Same p q
one_program laws bytes p q a b =
    let both = same_answer laws bytes p.file q.file (Ok (record { routines = p.routines; constants = p.constants })) (Ok (record { routines = q.routines; constants = q.constants })) a.file b.file a.checks b.checks in
    let same : (let x : Parts = record { routines = p.routines; constants = p.constants } in x) ≡ record { routines = q.routines; constants = q.constants } = cc in
    record { file = same_file laws bytes p.file q.file a.file b.file; routines = ap (λ x. x.routines) same; constants = ap (λ x. x.constants) same }

pub one_refusal : Laws → (bytes : List ℕ) (s t : SourceStop) → IsRefused bytes s → IsRefused bytes t → s ≡ t
one_refusal laws bytes stop.TooLong stop.TooLong p q = refl
one_refusal laws bytes stop.TooLong (stop.Lex g) p q = absurd (omega (arith, q.0))
one_refusal laws bytes stop.TooLong (stop.Parse g) p q = absurd (omega (arith, q.0))
one_refusal laws bytes stop.TooLong (stop.Scope g) p q = absurd (omega (arith, q.0))
one_refusal laws bytes stop.TooLong stop.NoMemory p q = absurd q
one_refusal laws bytes (stop.Lex f) stop.TooLong p q = absurd (omega (arith, p.0))
one_refusal laws bytes (stop.Lex f) (stop.Lex g) p q =
    let both = laws.lexing bytes (Err f) (Err g) p.1 q.1 in ap stop.Lex cc
one_refusal laws bytes (stop.Lex f) (stop.Parse g) p q = absurd (no_fault laws bytes q.1.tokens f q.1.reads p.1)
one_refusal laws bytes (stop.Lex f) (stop.Scope g) p q = absurd (no_fault laws bytes q.1.read.tokens f q.1.read.reads p.1)
one_refusal laws bytes (stop.Lex f) stop.NoMemory p q = absurd q
one_refusal laws bytes (stop.Parse f) stop.TooLong p q = absurd (omega (arith, p.0))
one_refusal laws bytes (stop.Parse f) (stop.Lex g) p q = absurd (no_fault laws bytes p.1.tokens g p.1.reads q.1)
one_refusal laws bytes (stop.Parse f) (stop.Parse g) p q =
    let both = same_parse laws bytes p.1.tokens q.1.tokens (Err f) (Err g) p.1.reads q.1.reads p.1.parses q.1.parses in ap stop.Parse cc
one_refusal laws bytes (stop.Parse f) (stop.Scope g) p q = absurd (no_misparse laws bytes q.1.file f q.1.read p.1)
one_refusal laws bytes (stop.Parse f) stop.NoMemory p q = absurd q
one_refusal laws bytes (stop.Scope f) stop.TooLong p q = absurd (omega (arith, p.0))
one_refusal laws bytes (stop.Scope f) (stop.Lex g) p q = absurd (no_fault laws bytes p.1.read.tokens g p.1.read.reads q.1)
one_refusal laws bytes (stop.Scope f) (stop.Parse g) p q = absurd (no_misparse laws bytes p.1.file g p.1.read q.1)
one_refusal laws bytes (stop.Scope f) (stop.Scope g) p q =
    let both = same_answer laws bytes p.1.file q.1.file (Err f) (Err g) p.1.read q.1.read p.1.checks q.1.checks in ap stop.Scope cc
one_refusal laws bytes (stop.Scope f) stop.NoMemory p q = absurd q
one_refusal laws bytes stop.NoMemory t p q = absurd p

pub not_both : Laws → (bytes : List ℕ) (p : Program) (s : SourceStop) → Fits bytes → Accepted bytes p → ¬ IsRefused bytes s
not_both laws bytes p stop.TooLong fits a r = omega arith
not_both laws bytes p (stop.Lex f) fits a r = no_fault laws bytes a.file.tokens f a.file.reads r.1
not_both laws bytes p (stop.Parse f) fits a r = no_misparse laws bytes p.file f a.file r.1
not_both laws bytes p (stop.Scope g) fits a r =
    let both = same_answer laws bytes p.file r.1.file (Ok (record { routines = p.routines; constants = p.constants })) (Err g) a.file r.1.read a.checks r.1.checks in cc
not_both laws bytes p stop.NoMemory fits a r = r

-- a program or a refusal
Answered : List ℕ → Type 0
Answered bytes = ((p : Program) × Fits bytes × Accepted bytes p) ⊎ ((s : SourceStop) × IsRefused bytes s)

-- no tables are those of any file
no_tables : (f : File) → AreTables f []
no_tables f = λ k entries at. cc

checked : Laws → (bytes : List ℕ) (f : File) → Fits bytes → IsReadAs bytes f → (o : Option Refusal) → refusal f ≡ o → Answered bytes
unfolding Answered
checked laws bytes f fits read None is =
    inl (
      record {
        file = f;
        routines = routines f;
        constants = constants f;
        tables = [];
        index = index_of f;
        well_formed = laws.formed bytes read.tokens f read.reads fits read.parses.0;
        accepted = is;
        its_routines = refl;
        its_constants = refl;
        its_tables = no_tables f;
        its_index = refl;
      },
      fits,
      record { file = read; checks = ap (unless_refused (parts f)) is },
    )
checked laws bytes f fits read (Some r) is =
    inr (stop.Scope r, (fits, record { file = f; read = read; checks = ap (unless_refused (parts f)) is }))

parsed : Laws → (bytes : List ℕ) (ts : List Token) → Fits bytes → Reads bytes (Ok ts) → (a : Answer) → Parses bytes ts a → Answered bytes
unfolding Answered
parsed laws bytes ts fits reads (Ok f) parses =
    checked laws bytes f fits (record { tokens = ts; reads = reads; parses = parses }) (refusal f) refl
parsed laws bytes ts fits reads (Err g) parses = inr (stop.Parse g, (fits, record { tokens = ts; reads = reads; parses = parses }))

lexed : Laws → (bytes : List ℕ) → Fits bytes → (a : Result (List Token) LexFault) → Reads bytes a → Answered bytes
unfolding Answered
lexed laws bytes fits (Ok ts) reads =
    let answered = laws.parsed.ended bytes ts (laws.parsed.tokens bytes ts reads) in parsed laws bytes ts fits reads answered.0 answered.1
lexed laws bytes fits (Err f) reads = inr (stop.Lex f, (fits, reads))

pub answered : Laws → (bytes : List ℕ) → ((p : Program) × Fits bytes × Accepted bytes p) ⊎ ((s : SourceStop) × IsRefused bytes s)
unfolding Answered
answered laws bytes = sized (cases_lt longest_source (length bytes))
  where
    sized : (longest_source < length bytes) ⊎ (length bytes ≤ longest_source) → Answered bytes
    sized (inr fits) = lexed laws bytes fits (laws.lexed bytes).0 (laws.lexed bytes).1
    sized (inl long) = inr (stop.TooLong, long)

pub one_source : Laws → OneAnswer
one_source laws =
    record { some = answered laws; program = one_program laws; refusal = one_refusal laws; either = not_both laws }
