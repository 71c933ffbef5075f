-- The scanner's steps say what the lines say.
use Rattle.std.proofs.Common.{◌≡◌, ℕ, ◌+◌, Bool, true, false, ◌||◌, ◌==◌, nat_lt, if◌then◌else◌, List, [], ◌∷◌, ◌++◌, Ok, Err, refl, sym, ap, ◌∙◌, arith, append_assoc, add-zero, zero-add}
use Rattle.std.proofs.lemmas.Bool.{eqb-true}
use Rattle.std.proofs.Math.Bool.{or-true}
use Rattle.pyd_lex.specs.declared.fault.LexFault.TheVariants as fault
use Rattle.pyd_lex.specs.declared.place.Place.{Place}
use Rattle.pyd_lex.specs.declared.mode.Mode.TheVariants.{Indentation, Inside}
use Rattle.pyd_lex.specs.declared.token.Shape.TheVariants.{Space, Tab, Comment, Break, Token as Spelled}
use Rattle.pyd_lex.specs.declared.token.Token.{Token}
use Rattle.pyd_lex.specs.declared.token.TokenKind.TheVariants as kind
use Rattle.pyd_lex.specs.Words.{Text}
use Rattle.pyd_lex.specs.Meaning.{Judged}
use Rattle.pyd_lex.specs.Lines.{Piece, Lines, Answer, ahead, token_if, token_at, tokens_of_pieces, lines, tokens_of_lines, tokens_of_line, content, width, has_tab, all_lines, read, place_of, placed, end_of, lowered, indented, top, empty_at, bracket, joined}
use Rattle.pyd_lex.specs.Machine.{run}

pub ahead_nil : (a : Answer) → ahead [] a ≡ a
ahead_nil (Ok us) = refl
ahead_nil (Err f) = refl

pub ahead_ahead : (ts us : List Token) (a : Answer) → ahead ts (ahead us a) ≡ ahead (ts ++ us) a
ahead_ahead ts us (Ok vs) = ap (λ x. Ok x) (sym (append_assoc ts us vs))
ahead_ahead ts us (Err f) = refl

module _ (end : Place) where
  abbrev after_indentation : ℕ → Bool → List ℕ → Lines → Answer
  after_indentation w tab ws ls = tokens_of_line end (content ls.first) (w + width ls.first) (tab || has_tab ls.first) ws (tokens_of_lines end ls.others)

  record Same (ps : List Piece) : Type 0 where
    inside : (depth : ℕ) (has_tokens : Bool) (ws : List ℕ) → run end ps (Inside depth has_tokens) ws ≡ tokens_of_pieces end has_tokens depth (lines depth ps).first (tokens_of_lines end (lines depth ps).others ws)
    indentation : (w : ℕ) (tab : Bool) (ws : List ℕ) → run end ps (Indentation w tab) ws ≡ after_indentation w tab ws (lines 0 ps)

  -- at the start of a line
  next_line : (ps : List Piece) (ws : List ℕ) → Same ps → run end ps (Indentation 0 false) ws ≡ tokens_of_lines end (all_lines (lines 0 ps)) ws
  unfolding tokens_of_lines
  next_line ps ws s =
      s.indentation 0 false ws ∙ ap (λ n. tokens_of_line end (content (lines 0 ps).first) n (has_tab (lines 0 ps).first) ws (tokens_of_lines end (lines 0 ps).others)) (zero-add (width (lines 0 ps).first))

  same_none : Same []
  unfolding run tokens_of_pieces lines tokens_of_lines tokens_of_line
  same_none = record { inside = λ depth has_tokens ws. refl; indentation = λ w tab ws. refl }

  -- a line end inside a line, by whether it is outside brackets
  abbrev after_break : Bool → Piece → List Piece → ℕ → Bool → List ℕ → Answer
  after_break true x ps depth has_tokens ws = ahead (token_if has_tokens (token_at kind.Newline x)) (tokens_of_lines end (all_lines (lines depth ps)) ws)
  after_break false x ps depth has_tokens ws = tokens_of_pieces end has_tokens depth (lines depth ps).first (tokens_of_lines end (lines depth ps).others ws)

  pieces_end : (x : Piece) (qs : List Piece) (depth : ℕ) (has_tokens : Bool) (later : Answer) → x.means ≡ Ok Break → (depth == 0) ≡ true → tokens_of_pieces end has_tokens depth (x ∷ qs) later ≡ ahead (token_if has_tokens (token_at kind.Newline x)) later
  unfolding tokens_of_pieces
  pieces_end x qs depth has_tokens later m e = rw (m, e, tokens_of_pieces) refl

  pieces_joined : (x : Piece) (qs : List Piece) (depth : ℕ) (has_tokens : Bool) (later : Answer) → x.means ≡ Ok Break → (depth == 0) ≡ false → tokens_of_pieces end has_tokens depth (x ∷ qs) later ≡ tokens_of_pieces end has_tokens depth qs later
  unfolding tokens_of_pieces
  pieces_joined x qs depth has_tokens later m e = rw (m, e, tokens_of_pieces) refl

  break_pieces : (b : Bool) (p : Place) (to : ℕ) (ps : List Piece) (depth : ℕ) (has_tokens : Bool) (ws : List ℕ) → (depth == 0) ≡ b → tokens_of_pieces end has_tokens depth (lines depth (record { means = Ok Break; from = p.at; to = to; line = p.line } ∷ ps)).first (tokens_of_lines end (lines depth (record { means = Ok Break; from = p.at; to = to; line = p.line } ∷ ps)).others ws) ≡ after_break b (record { means = Ok Break; from = p.at; to = to; line = p.line }) ps depth has_tokens ws
  unfolding lines
  break_pieces true p to ps depth has_tokens ws e =
      let x : Piece = record { means = Ok Break; from = p.at; to = to; line = p.line } in
      ap (λ c. tokens_of_pieces end has_tokens depth (joined c x (lines depth ps)).first (tokens_of_lines end (joined c x (lines depth ps)).others ws)) e ∙ pieces_end x [] depth has_tokens (tokens_of_lines end (all_lines (lines depth ps)) ws) refl e
  break_pieces false p to ps depth has_tokens ws e =
      let x : Piece = record { means = Ok Break; from = p.at; to = to; line = p.line } in
      ap (λ c. tokens_of_pieces end has_tokens depth (joined c x (lines depth ps)).first (tokens_of_lines end (joined c x (lines depth ps)).others ws)) e ∙ pieces_joined x (lines depth ps).first depth has_tokens (tokens_of_lines end (lines depth ps).others ws) refl e

  break_run : (b : Bool) (p : Place) (to : ℕ) (ps : List Piece) → Same ps → (depth : ℕ) (has_tokens : Bool) (ws : List ℕ) → (depth == 0) ≡ b → run end (record { means = Ok Break; from = p.at; to = to; line = p.line } ∷ ps) (Inside depth has_tokens) ws ≡ after_break b (record { means = Ok Break; from = p.at; to = to; line = p.line }) ps depth has_tokens ws
  unfolding run
  break_run true p to ps s depth has_tokens ws e =
      let z = eqb-true depth 0 e in
      rw (e, run) (ap (ahead (token_if has_tokens (token_at kind.Newline (record { means = Ok Break; from = p.at; to = to; line = p.line })))) (next_line ps ws s ∙ ap (λ d. tokens_of_lines end (all_lines (lines d ps)) ws) (sym z)))
  break_run false p to ps s depth has_tokens ws e = rw (e, run) (s.inside depth has_tokens ws)

  inside_step : (j : Judged) (p : Place) (to : ℕ) (ps : List Piece) → Same ps → (depth : ℕ) (has_tokens : Bool) (ws : List ℕ) → run end (record { means = j; from = p.at; to = to; line = p.line } ∷ ps) (Inside depth has_tokens) ws ≡ tokens_of_pieces end has_tokens depth (lines depth (record { means = j; from = p.at; to = to; line = p.line } ∷ ps)).first (tokens_of_lines end (lines depth (record { means = j; from = p.at; to = to; line = p.line } ∷ ps)).others ws)
  unfolding run tokens_of_pieces lines
  inside_step (Err f) p to ps s depth has_tokens ws = refl
  inside_step (Ok Space) p to ps s depth has_tokens ws = s.inside depth has_tokens ws
  inside_step (Ok Tab) p to ps s depth has_tokens ws = s.inside depth has_tokens ws
  inside_step (Ok Comment) p to ps s depth has_tokens ws = s.inside depth has_tokens ws
  inside_step (Ok Break) p to ps s depth has_tokens ws = break_run (depth == 0) p to ps s depth has_tokens ws refl ∙ sym (break_pieces (depth == 0) p to ps depth has_tokens ws refl)
  inside_step (Ok (Spelled k)) p to ps s depth has_tokens ws = ap (ahead (token_if has_tokens (token_at k (record { means = Ok (Spelled k); from = p.at; to = to; line = p.line })))) (s.inside (bracket depth k) has_tokens ws)

  indentation_step : (j : Judged) (p : Place) (to : ℕ) (ps : List Piece) → Same ps → (w : ℕ) (tab : Bool) (ws : List ℕ) → run end (record { means = j; from = p.at; to = to; line = p.line } ∷ ps) (Indentation w tab) ws ≡ after_indentation w tab ws (lines 0 (record { means = j; from = p.at; to = to; line = p.line } ∷ ps))
  unfolding run tokens_of_pieces lines tokens_of_line
  indentation_step (Err f) p to ps s w true ws = refl
  indentation_step (Err f) p to ps s w false ws = ap (λ n. indented n p ws (λ vs. Err _)) (sym (add-zero w))
  indentation_step (Ok Space) p to ps s w tab ws =
      s.indentation (w + 1) tab ws ∙ ap (λ n. tokens_of_line end (content (lines 0 ps).first) n (tab || has_tab (lines 0 ps).first) ws (tokens_of_lines end (lines 0 ps).others)) (omega arith)
  indentation_step (Ok Tab) p to ps s w tab ws =
      s.indentation (w + 1) true ws ∙ ap (λ n. tokens_of_line end (content (lines 0 ps).first) n true ws (tokens_of_lines end (lines 0 ps).others)) (omega arith) ∙ ap (λ t. tokens_of_line end (content (lines 0 ps).first) (w + (1 + width (lines 0 ps).first)) t ws (tokens_of_lines end (lines 0 ps).others)) (sym (or-true tab))
  indentation_step (Ok Comment) p to ps s w tab ws = s.inside 0 false ws
  indentation_step (Ok Break) p to ps s w tab ws = next_line ps ws s ∙ sym (ahead_nil (tokens_of_lines end (all_lines (lines 0 ps)) ws))
  indentation_step (Ok (Spelled k)) p to ps s w true ws = refl
  indentation_step (Ok (Spelled k)) p to ps s w false ws =
      ap (λ n. indented n p ws (λ vs. ahead (token_at k (record { means = Ok (Spelled k); from = p.at; to = to; line = p.line }) ∷ []) (run end ps (Inside (bracket 0 k) true) vs))) (sym (add-zero w)) ∙ (λ i. indented (w + 0) p ws (λ vs. ahead (token_at k (record { means = Ok (Spelled k); from = p.at; to = to; line = p.line }) ∷ []) (s.inside (bracket 0 k) true vs i)))

  same : (ps : List Piece) → Same ps
  same [] = same_none
  same (p ∷ ps) =
      let s = same ps in
      record { inside = inside_step p.means (place_of p) p.to ps s; indentation = indentation_step p.means (place_of p) p.to ps s }

-- a scan from the start of a text says what its pieces say
pub run_reads : (p : Place) (pieces : List Text) → run (end_of p pieces) (placed p pieces) (Indentation 0 false) [] ≡ read p pieces
unfolding read
run_reads p pieces = next_line (end_of p pieces) (placed p pieces) [] (same (end_of p pieces) (placed p pieces))

-- ---- widths, by the tests

pub lowered_none : (w : ℕ) (p : Place) (next : List ℕ → Answer) (b : Bool) → (w == 0) ≡ b → lowered w p [] next ≡ (if b then next [] else Err (fault.BadDedent p.line))
unfolding lowered
lowered_none w p next b e = rw e refl

pub lowered_some : (w v : ℕ) (p : Place) (vs : List ℕ) (next : List ℕ → Answer) (b c : Bool) → nat_lt w v ≡ b → (w == v) ≡ c → lowered w p (v ∷ vs) next ≡ (if b then ahead (empty_at kind.Dedent p ∷ []) (lowered w p vs next) else (if c then next (v ∷ vs) else Err (fault.BadDedent p.line)))
unfolding lowered
lowered_some w v p vs next b c e f = rw (e, f) refl

pub indented_is : (w : ℕ) (p : Place) (ws : List ℕ) (next : List ℕ → Answer) (b : Bool) → nat_lt (top ws) w ≡ b → indented w p ws next ≡ (if b then ahead (empty_at kind.Indent p ∷ []) (next (w ∷ ws)) else lowered w p ws next)
unfolding indented
indented_is w p ws next b e = rw e refl
