-- The fault that is answered is the first in the text.
use Rattle.std.proofs.Common.{◌≡◌, ℕ, ◌<◌, ◌≤◌, Bool, true, false, ◌||◌, ◌==◌, nat_lt, List, [], ◌∷◌, ◌++◌, filter, flat_map, Option, Some, None, Ok, Err, refl, sym, ap, subst, ◌∙◌, arith, inl, inr, if◌then◌else◌}
use Rattle.std.specs.List.{list_all, list_any}
use Rattle.std.proofs.lemmas.Bool.{cases_Bool, cases_order, eqb-true}
use Rattle.std.proofs.lemmas.Bool.Decides.{nat_tests}
use Rattle.std.proofs.lemmas.List.Concat.{flat_map-cons}
use Rattle.pyd_lex.specs.declared.fault.LexFault.{LexFault}
use Rattle.pyd_lex.specs.declared.fault.LexFault.TheVariants as fault
use Rattle.pyd_lex.specs.declared.place.Place.{Place}
use Rattle.pyd_lex.specs.declared.token.Shape.TheVariants.{Space, Tab, Comment, Break, Token as Spelled}
use Rattle.pyd_lex.specs.declared.token.Token.{Token}
use Rattle.pyd_lex.specs.declared.token.TokenKind.TheVariants as kind
use Rattle.pyd_lex.specs.Words.{Text}
use Rattle.pyd_lex.specs.Meaning.{Judged}
use Rattle.pyd_lex.specs.Lines.{Piece, Line, Lines, Answer, ahead, lowered, indented, top, empty_at, token_at, token_if, bracket, closing, closes_line, depth_after, joined, lines, all_lines, tokens_of_pieces, tokens_of_line, tokens_of_lines, content, width, has_tab, is_comment_or_end, place_of, placed, end_of, read}
use Rattle.pyd_lex.specs.Faults.{may_stand, opened, indentation_fault, opened_by, flaw_fault, or_else, first_fault}
use Rattle.pyd_lex.specs.Laws.{FirstFault, LinesWhole, AllGood, AreGood, IsGoodPiece}
use Rattle.pyd_lex.proofs.Lines.{ahead_ahead, lowered_none, lowered_some, indented_is}

-- ---- the answer that a first fault wants

abbrev Verdict : Option LexFault → Answer → Type 0
Verdict (Some f) a = a ≡ Err f
Verdict None a = (ts : List Token) × (a ≡ Ok ts)

behind : (o : Option LexFault) (ts : List Token) (a : Answer) → Verdict o a → Verdict o (ahead ts a)
behind (Some f) ts a v = ap (ahead ts) v
behind None ts a v = (ts ++ v.0, ap (ahead ts) v.1)

-- ---- the stack of widths, and the open widths, which are its and 0

abbrev Stacked : List ℕ → Type 0
Stacked [] = Unit {0}
Stacked (w ∷ ws) = (top ws < w) × Stacked ws

abbrev open_of : List ℕ → List ℕ
open_of ws = ws ++ 0 ∷ []

record Below (w : ℕ) (ws : List ℕ) : Type 0 where
  kept : filter (λ v. nat_lt v w) (open_of ws) ≡ open_of ws
  wider : list_all (λ v. nat_lt v w) (open_of ws) ≡ true
  other : list_any (λ v. w == v) (open_of ws) ≡ false

below : (w : ℕ) (ws : List ℕ) → Stacked ws → top ws < w → Below w ws
below w [] s l =
    let t : nat_lt 0 w ≡ true = grind (arith, nat_tests) in
    let f : (w == 0) ≡ false = grind (arith, nat_tests) in
    record { kept = rw t refl; wider = rw t refl; other = rw f refl }
below w (v ∷ vs) s l =
    let t : nat_lt v w ≡ true = grind (arith, nat_tests) in
    let f : (w == v) ≡ false = grind (arith, nat_tests) in
    let r = below w vs s.1 (let m = s.0 in omega arith) in
    record {
      kept = let k = r.kept in rw t (ap (λ x. v ∷ x) k);
      wider = rw t r.wider;
      other = rw f r.other;
    }

-- the wider lines are closed, and what comes next goes on under the open widths that stay
record Lowers (w : ℕ) (ws : List ℕ) (next : List ℕ → Answer) (a : Answer) : Type 0 where
  stays : List ℕ
  before : List Token
  stacked : Stacked stays
  same : open_of stays ≡ opened w (open_of ws)
  is : a ≡ ahead before (next stays)

abbrev Lowered : ℕ → Place → List ℕ → (List ℕ → Answer) → Bool → Answer → Type 0
Lowered w p ws next true a = Lowers w ws next a
Lowered w p ws next false a = a ≡ Err (fault.BadDedent p.line)

ahead_none : (a : Answer) → a ≡ ahead [] a
ahead_none (Ok us) = refl
ahead_none (Err f) = refl

lowered_as : (w : ℕ) (p : Place) (ws : List ℕ) (next : List ℕ → Answer) (b c : Bool) (a : Answer) → b ≡ c → Lowered w p ws next b a → Lowered w p ws next c a
lowered_as w p ws next b c a e l = subst (λ t. Lowered w p ws next t a) e l

low_none : (w : ℕ) (p : Place) (next : List ℕ → Answer) (b : Bool) → (w == 0) ≡ b → Lowered w p [] next (b || false) (lowered w p [] next)
low_none w p next true e =
    let z = eqb-true w 0 e in record {
      stays = [];
      before = [];
      stacked = tt;
      same = subst (λ n. 0 ∷ [] ≡ opened n (0 ∷ [])) (sym z) refl;
      is = lowered_none w p next true e ∙ ahead_none (next []);
    }
low_none w p next false e = lowered_none w p next false e

wide : (w v : ℕ) (p : Place) (vs : List ℕ) (next : List ℕ → Answer) → v < w → lowered w p (v ∷ vs) next ≡ Err (fault.BadDedent p.line)
wide w v p vs next l =
    let a : nat_lt w v ≡ false = grind (arith, nat_tests) in
    let b : (w == v) ≡ false = grind (arith, nat_tests) in
    lowered_some w v p vs next false false a b

level : (w : ℕ) (p : Place) (vs : List ℕ) (next : List ℕ → Answer) → Stacked (w ∷ vs) → Lowers w (w ∷ vs) next (lowered w p (w ∷ vs) next)
level w p vs next s =
    let a : nat_lt w w ≡ false = grind (arith, nat_tests) in
    let b : (w == w) ≡ true = grind (arith, nat_tests) in
    let r = below w vs s.1 s.0 in
    record {
      stays = w ∷ vs;
      before = [];
      stacked = s;
      same = let k = r.kept in rw a (ap (λ x. w ∷ x) (sym k));
      is = lowered_some w w p vs next false true a b ∙ ahead_none (next (w ∷ vs));
    }

narrower : (w v : ℕ) (p : Place) (vs : List ℕ) (next : List ℕ → Answer) (b : Bool) → w < v → Lowered w p vs next b (lowered w p vs next) → Lowered w p (v ∷ vs) next b (lowered w p (v ∷ vs) next)
narrower w v p vs next true l r =
    let a : nat_lt w v ≡ true = grind (arith, nat_tests) in
    let b : nat_lt v w ≡ false = grind (arith, nat_tests) in
    let is = r.is in
    record {
      stays = r.stays;
      before = empty_at kind.Dedent p ∷ r.before;
      stacked = r.stacked;
      same = let k = r.same in rw b k;
      is = lowered_some w v p vs next true (w == v) a refl ∙ ap (ahead (empty_at kind.Dedent p ∷ [])) is ∙ ahead_ahead (empty_at kind.Dedent p ∷ []) r.before (next r.stays);
    }
narrower w v p vs next false l r =
    let a : nat_lt w v ≡ true = grind (arith, nat_tests) in
    lowered_some w v p vs next true (w == v) a refl ∙ ap (ahead (empty_at kind.Dedent p ∷ [])) r

low : (w : ℕ) (p : Place) (ws : List ℕ) (next : List ℕ → Answer) → Stacked ws → Lowered w p ws next (list_any (λ v. w == v) (open_of ws)) (lowered w p ws next)
low w p [] next s = low_none w p next (w == 0) refl
low w p (v ∷ vs) next s =
    elim (cases_order w v) [
      | inl e ↦
          let t : (w == v) ≡ true = grind (arith, nat_tests) in
          lowered_as w p (v ∷ vs) next true ((w == v) || list_any (λ u. w == u) (open_of vs)) (lowered w p (v ∷ vs) next) (ap (λ x. x || list_any (λ u. w == u) (open_of vs)) (sym t))
          (subst (λ n. Lowers w (n ∷ vs) next (lowered w p (n ∷ vs) next)) e (level w p vs next (subst (λ n. Stacked (n ∷ vs)) (sym e) s)))
      | inr o ↦ elim o [
        | inl l ↦
            let t : (w == v) ≡ false = grind (arith, nat_tests) in
            lowered_as w p (v ∷ vs) next (list_any (λ u. w == u) (open_of vs)) ((w == v) || list_any (λ u. w == u) (open_of vs)) (lowered w p (v ∷ vs) next) (ap (λ x. x || list_any (λ u. w == u) (open_of vs)) (sym t))
            (narrower w v p vs next (list_any (λ u. w == u) (open_of vs)) l (low w p vs next s.1))
        | inr l ↦
            let r = below w (v ∷ vs) s l in
            lowered_as w p (v ∷ vs) next false (list_any (λ u. w == u) (open_of (v ∷ vs))) (lowered w p (v ∷ vs) next) (sym r.other) (wide w v p vs next l)
      ]
    ]

not_wider : (w : ℕ) (ws : List ℕ) → w ≤ top ws → list_all (λ v. nat_lt v w) (open_of ws) ≡ false
not_wider w [] l = let t : nat_lt 0 w ≡ false = grind (arith, nat_tests) in rw t refl
not_wider w (v ∷ vs) l = let t : nat_lt v w ≡ false = grind (arith, nat_tests) in rw t refl

or_false : (x y : Bool) → y ≡ false → x ≡ (x || y)
or_false true y e = refl
or_false false y e = sym e

begins : (w : ℕ) (p : Place) (ws : List ℕ) (next : List ℕ → Answer) → Stacked ws → Lowered w p ws next (may_stand w (open_of ws)) (indented w p ws next)
begins w p ws next s =
    elim (cases_Bool (nat_lt (top ws) w)) [
      | inl t ↦
          let l : top ws < w = grind (arith, nat_tests) in
          let r = below w ws s l in
          lowered_as w p ws next true (may_stand w (open_of ws)) (indented w p ws next) (let a = r.wider in let b = r.other in rw (a, b) refl)
          (record {
            stays = w ∷ ws;
            before = empty_at kind.Indent p ∷ [];
            stacked = (l, s);
            same = ap (λ x. w ∷ x) (sym r.kept);
            is = indented_is w p ws next true t;
          })
      | inr f ↦
          let l : w ≤ top ws = grind (arith, nat_tests) in
          lowered_as w p ws next (list_any (λ v. w == v) (open_of ws)) (may_stand w (open_of ws)) (indented w p ws next) (or_false (list_any (λ v. w == v) (open_of ws)) (list_all (λ v. nat_lt v w) (open_of ws)) (not_wider w ws l))
          (subst (Lowered w p ws next (list_any (λ v. w == v) (open_of ws))) (sym (indented_is w p ws next false f)) (low w p ws next s))
    ]

-- ---- lines that end with their first line end outside brackets

abbrev Proper : ℕ → Line → Type 0
Proper depth [] = Unit {0}
Proper depth (p ∷ ps) = (closes_line depth p.means ≡ true → ps ≡ []) × Proper (depth_after depth p.means) ps

abbrev AreProper : List Line → Type 0
AreProper [] = Unit {0}
AreProper (l ∷ ls) = Proper 0 l × AreProper ls

abbrev made : Judged → Place → ℕ → Piece
made j p to = record { means = j; from = p.at; to = to; line = p.line }

closes_at_none : (depth : ℕ) (j : Judged) → closes_line depth j ≡ true → depth_after depth j ≡ 0
closes_at_none depth (Err f) e = cc
closes_at_none depth (Ok Space) e = cc
closes_at_none depth (Ok Tab) e = cc
closes_at_none depth (Ok Comment) e = cc
closes_at_none depth (Ok Break) e = eqb-true depth 0 e
closes_at_none depth (Ok (Spelled k)) e = cc

proper_joined : (b : Bool) (depth : ℕ) (p : Piece) (ls : Lines) → closes_line depth p.means ≡ b → Proper (depth_after depth p.means) ls.first → AreProper ls.others → Proper depth (joined b p ls).first × AreProper (joined b p ls).others
proper_joined true depth p ls e a b =
    let z = closes_at_none depth p.means e in
    ((λ c. refl, tt), (subst (λ d. Proper d ls.first) z a, b))
proper_joined false depth p ls e a b = ((λ c. absurd cc, a), b)

proper : (depth : ℕ) (ps : List Piece) → Proper depth (lines depth ps).first × AreProper (lines depth ps).others
unfolding lines
proper depth [] = (tt, tt)
proper depth (p ∷ ps) =
    let r = proper (depth_after depth p.means) ps in
    proper_joined (closes_line depth p.means) depth p (lines (depth_after depth p.means) ps) refl r.0 r.1

-- ---- the pieces of a line

module _ (end : Place) where
  -- where no piece has a flaw, what comes later goes on
  abbrev PiecesAnswer : Option LexFault → Answer → Answer → Type 0
  PiecesAnswer (Some f) later a = a ≡ Err f
  PiecesAnswer None later a = (ts : List Token) × (a ≡ ahead ts later)

  pieces_behind : (o : Option LexFault) (ts : List Token) (later a : Answer) → PiecesAnswer o later a → PiecesAnswer o later (ahead ts a)
  pieces_behind (Some f) ts later a s = ap (ahead ts) s
  pieces_behind None ts later a s = (ts ++ s.0, ap (ahead ts) s.1 ∙ ahead_ahead ts s.0 later)

  abbrev Pieces : Line → Type 0
  Pieces ps = (has_tokens : Bool) (depth : ℕ) (later : Answer) → Proper depth ps → PiecesAnswer (flaw_fault ps) later (tokens_of_pieces end has_tokens depth ps later)

  break_pieces : (p : Place) (to : ℕ) (ps : Line) → Pieces ps → (has_tokens : Bool) (depth : ℕ) (later : Answer) (b : Bool) → (depth == 0) ≡ b → Proper depth (made (Ok Break) p to ∷ ps) → PiecesAnswer (flaw_fault ps) later (tokens_of_pieces end has_tokens depth (made (Ok Break) p to ∷ ps) later)
  unfolding tokens_of_pieces
  break_pieces p to ps r has_tokens depth later true e h =
      let k = h.0 e in
      subst (λ x. PiecesAnswer (flaw_fault x) later (tokens_of_pieces end has_tokens depth (made (Ok Break) p to ∷ x) later)) (sym k) (rw (e, tokens_of_pieces) (token_if has_tokens (token_at kind.Newline (made (Ok Break) p to)), refl))
  break_pieces p to ps r has_tokens depth later false e h = rw (e, tokens_of_pieces) (r has_tokens depth later h.1)

  piece_tokens : (j : Judged) (p : Place) (to : ℕ) (ps : Line) → Pieces ps → Pieces (made j p to ∷ ps)
  unfolding tokens_of_pieces
  piece_tokens (Err x) p to ps r has_tokens depth later h = refl
  piece_tokens (Ok Space) p to ps r has_tokens depth later h = r has_tokens depth later h.1
  piece_tokens (Ok Tab) p to ps r has_tokens depth later h = r has_tokens depth later h.1
  piece_tokens (Ok Comment) p to ps r has_tokens depth later h = r has_tokens depth later h.1
  piece_tokens (Ok Break) p to ps r has_tokens depth later h = break_pieces p to ps r has_tokens depth later (depth == 0) refl h
  piece_tokens (Ok (Spelled k)) p to ps r has_tokens depth later h =
      pieces_behind (flaw_fault ps) (token_if has_tokens (token_at k (made (Ok (Spelled k)) p to))) later (tokens_of_pieces end has_tokens (bracket depth k) ps later) (r has_tokens (bracket depth k) later h.1)

  pieces : (ps : Line) → Pieces ps
  unfolding tokens_of_pieces
  pieces [] has_tokens depth later h = (token_if _ (empty_at kind.Newline end), refl)
  pieces (p ∷ ps) has_tokens depth later h = piece_tokens p.means (place_of p) p.to ps (pieces ps) has_tokens depth later h

  -- ---- white space at the start of a line has no flaw and ends none

  record Content (l : Line) : Type 0 where
    flaw : flaw_fault (content l) ≡ flaw_fault l
    proper : Proper 0 l → Proper 0 (content l)

  white : (j : Judged) (p : Place) (to : ℕ) (ps : Line) → Content ps → Content (made j p to ∷ ps)
  white (Err x) p to ps c = record { flaw = refl; proper = λ h. h }
  white (Ok Space) p to ps c = record { flaw = c.flaw; proper = λ h. c.proper h.1 }
  white (Ok Tab) p to ps c = record { flaw = c.flaw; proper = λ h. c.proper h.1 }
  white (Ok Comment) p to ps c = record { flaw = refl; proper = λ h. h }
  white (Ok Break) p to ps c = record { flaw = refl; proper = λ h. h }
  white (Ok (Spelled k)) p to ps c = record { flaw = refl; proper = λ h. h }

  content_of : (l : Line) → Content l
  content_of [] = record { flaw = refl; proper = λ h. h }
  content_of (p ∷ ps) = white p.means (place_of p) p.to ps (content_of ps)

  -- ---- a line, and those after it

  abbrev Faults : List Line → Type 0
  Faults ls = (ws : List ℕ) → Stacked ws → Verdict (first_fault (open_of ws) ls) (tokens_of_lines end ls ws)

  -- what follows a line's pieces
  then_later : (o later_o : Option LexFault) (later a : Answer) → PiecesAnswer o later a → Verdict later_o later → Verdict (or_else o later_o) a
  then_later (Some f) q later a s v = s
  then_later None q later a s v = subst (Verdict q) (sym s.1) (behind q s.0 later v)

  -- a line that isn't blank, by whether a tab and whether its width may stand
  stands : (b : Bool) (p : Place) (ps : Line) (piece : Piece) (w : ℕ) (ws : List ℕ) (ls : List Line) → Faults ls → Pieces (piece ∷ ps) → Proper 0 (piece ∷ ps) → Lowered w p ws (λ vs. tokens_of_pieces end true 0 (piece ∷ ps) (tokens_of_lines end ls vs)) b (indented w p ws (λ vs. tokens_of_pieces end true 0 (piece ∷ ps) (tokens_of_lines end ls vs))) → Verdict (or_else (if b then None else Some (fault.BadDedent p.line)) (or_else (flaw_fault (piece ∷ ps)) (first_fault (opened w (open_of ws)) ls))) (indented w p ws (λ vs. tokens_of_pieces end true 0 (piece ∷ ps) (tokens_of_lines end ls vs)))
  stands true p ps piece w ws ls g s h l =
      let vs = l.stays in
      let later = tokens_of_lines end ls vs in
      let v = subst (λ x. Verdict (first_fault x ls) later) l.same (g vs l.stacked) in
      let o = or_else (flaw_fault (piece ∷ ps)) (first_fault (opened w (open_of ws)) ls) in
      subst (Verdict o) (sym l.is) (behind o l.before (tokens_of_pieces end true 0 (piece ∷ ps) later) (then_later (flaw_fault (piece ∷ ps)) (first_fault (opened w (open_of ws)) ls) later (tokens_of_pieces end true 0 (piece ∷ ps) later) (s true 0 later h) v))
  stands false p ps piece w ws ls g s h l = l

  -- a line's first fault, or that of the lines after it, by the line's content
  abbrev blank_content : Line → Bool
  blank_content c = elim c [ [] ↦ true | p ∷ ps ↦ is_comment_or_end p.means ]

  abbrev number_of : Line → ℕ
  number_of c = elim c [ [] ↦ 0 | p ∷ ps ↦ p.line ]

  abbrev step : Line → ℕ → Bool → List ℕ → Option LexFault → List Line → Option LexFault
  step c w tab open_widths o ls =
      or_else (if blank_content c then None else (if tab then Some (fault.Tab (number_of c)) else (if may_stand w open_widths then None else Some (fault.BadDedent (number_of c)))))
      (or_else o (first_fault (if blank_content c then open_widths else opened w open_widths) ls))

  by_content : (silent tab : Bool) (p : Piece) (ps : Line) (w : ℕ) (ws : List ℕ) (ls : List Line) → is_comment_or_end p.means ≡ silent → Faults ls → Stacked ws → Proper 0 (p ∷ ps) → Verdict (step (p ∷ ps) w tab (open_of ws) (flaw_fault (p ∷ ps)) ls) (tokens_of_line end (p ∷ ps) w tab ws (tokens_of_lines end ls))
  unfolding tokens_of_line
  by_content true tab p ps w ws ls e g s h =
      rw (e, tokens_of_line) (then_later (flaw_fault (p ∷ ps)) (first_fault (open_of ws) ls) (tokens_of_lines end ls ws) (tokens_of_pieces end false 0 (p ∷ ps) (tokens_of_lines end ls ws)) (pieces (p ∷ ps) false 0 (tokens_of_lines end ls ws) h) (g ws s))
  by_content false true p ps w ws ls e g s h = rw (e, tokens_of_line) refl
  by_content false false p ps w ws ls e g s h =
      rw (e, tokens_of_line) (stands (may_stand w (open_of ws)) (place_of p) ps p w ws ls g (pieces (p ∷ ps)) h (begins w (place_of p) ws (λ vs. tokens_of_pieces end true 0 (p ∷ ps) (tokens_of_lines end ls vs)) s))

  whole_line : (c : Line) (w : ℕ) (tab : Bool) (ws : List ℕ) (ls : List Line) → Faults ls → Stacked ws → Proper 0 c → Verdict (step c w tab (open_of ws) (flaw_fault c) ls) (tokens_of_line end c w tab ws (tokens_of_lines end ls))
  unfolding tokens_of_line
  whole_line [] w tab ws ls g s h = g ws s
  whole_line (p ∷ ps) w tab ws ls g s h = by_content (is_comment_or_end p.means) tab p ps w ws ls refl g s h

  faults : (ls : List Line) → AreProper ls → Faults ls
  unfolding tokens_of_lines
  faults [] h ws s = (closing end ws, refl)
  faults (l ∷ ls) h ws s =
      let c = content_of l in
      subst (λ o. Verdict (step (content l) (width l) (has_tab l) (open_of ws) o ls) (tokens_of_line end (content l) (width l) (has_tab l) ws (tokens_of_lines end ls))) c.flaw
      (whole_line (content l) (width l) (has_tab l) ws ls (faults ls h.1) s (c.proper h.0))

first_of : Place → List Text → Option LexFault
first_of p zs = first_fault (0 ∷ []) (all_lines (lines 0 (placed p zs)))

read_faults : (p : Place) (zs : List Text) → Verdict (first_of p zs) (read p zs)
unfolding read first_of
read_faults p zs = faults (end_of p zs) (all_lines (lines 0 (placed p zs))) (proper 0 (placed p zs)) [] tt

verdict_err : (o : Option LexFault) (a : Answer) (f : LexFault) → Verdict o a → a ≡ Err f → o ≡ Some f
verdict_err (Some g) a f v e = let k : Err g ≡ Err f = sym v ∙ e in cc
verdict_err None a f v e = absurd (let k : Ok v.0 ≡ Err f = sym v.1 ∙ e in cc)

verdict_some : (o : Option LexFault) (a : Answer) (f : LexFault) → Verdict o a → o ≡ Some f → a ≡ Err f
verdict_some (Some g) a f v e = let k : g ≡ f = cc in v ∙ ap (λ x. Err x) k
verdict_some None a f v e = absurd cc

-- ---- the lines are all pieces

whole_joined : (b : Bool) (p : Piece) (ls : Lines) → flat_map (λ l. l) (all_lines (joined b p ls)) ≡ p ∷ flat_map (λ l. l) (all_lines ls)
whole_joined true p ls = refl
whole_joined false p ls = refl

whole : (depth : ℕ) (ps : List Piece) → flat_map (λ l. l) (all_lines (lines depth ps)) ≡ ps
unfolding lines
whole depth [] = refl
whole depth (p ∷ ps) =
    whole_joined (closes_line depth p.means) p (lines (depth_after depth p.means) ps) ∙ ap (λ x. p ∷ x) (whole (depth_after depth p.means) ps)

pub lines_whole : LinesWhole
lines_whole p zs = whole 0 (placed p zs)

pub first_fault_law : FirstFault
unfolding first_of
first_fault_law p zs f = (verdict_err (first_of p zs) (read p zs) f (read_faults p zs), verdict_some (first_of p zs) (read p zs) f (read_faults p zs))

-- ---- where there are tokens, all pieces are well

none_first : (o q : Option LexFault) → or_else o q ≡ None → o ≡ None
none_first (Some f) q e = e
none_first None q e = refl

none_then : (o q : Option LexFault) → or_else o q ≡ None → q ≡ None
none_then (Some f) q e = absurd cc
none_then None q e = e

good_piece : (j : Judged) (p : Place) (to : ℕ) (ps : Line) → flaw_fault (made j p to ∷ ps) ≡ None → IsGoodPiece (made j p to) × (flaw_fault ps ≡ None)
good_piece (Err x) p to ps e = absurd cc
good_piece (Ok s) p to ps e = ((s, refl), e)

good_line : (l : Line) (rest : List Piece) → flaw_fault l ≡ None → AreGood rest → AreGood (l ++ rest)
good_line [] rest e w = w
good_line (p ∷ ps) rest e w =
    let h = good_piece p.means (place_of p) p.to ps e in (h.0, good_line ps rest h.1 w)

good_lines : (open_widths : List ℕ) (ls : List Line) → first_fault open_widths ls ≡ None → AreGood (flat_map (λ l. l) ls)
good_lines open_widths [] e = tt
good_lines open_widths (l ∷ ls) e =
    let later = first_fault (opened_by l open_widths) ls in
    let h = none_then (indentation_fault open_widths l) (or_else (flaw_fault l) later) e in
    subst AreGood (sym (flat_map-cons (λ l. l) l ls)) (good_line l (flat_map (λ l. l) ls) (none_first (flaw_fault l) later h) (good_lines (opened_by l open_widths) ls (none_then (flaw_fault l) later h)))

verdict_ok : (o : Option LexFault) (a : Answer) (ts : List Token) → Verdict o a → a ≡ Ok ts → o ≡ None
verdict_ok (Some f) a ts v e = absurd (let k : Err f ≡ Ok ts = sym v ∙ e in cc)
verdict_ok None a ts v e = refl

pub all_good : AllGood
unfolding first_of
all_good p zs ts e =
    subst AreGood (lines_whole p zs) (good_lines (0 ∷ []) (all_lines (lines 0 (placed p zs))) (verdict_ok (first_of p zs) (read p zs) ts (read_faults p zs) e))
