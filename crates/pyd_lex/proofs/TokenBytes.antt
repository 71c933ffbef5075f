-- The tokens of bytes stand in them in order, and their bytes spell them.
use Rattle.std.proofs.Common.{◌≡◌, ℕ, zero, suc, ◌+◌, ◌≤◌, Bool, true, false, ◌==◌, nat_lt, List, [], ◌∷◌, ◌++◌, length, take, drop, Ok, Err, refl, sym, ap, subst, ◌∙◌, arith, inl, inr, All, count_by, cond}
use Rattle.std.specs.Str.{IsUtf8, chars}
use Rattle.std.proofs.lemmas.List.Sums.{sum_by-cons}
use Rattle.std.proofs.lemmas.List.Elements.{All-cons}
use Rattle.pyd_lex.specs.declared.fault.LexFault.TheVariants as fault
use Rattle.pyd_lex.specs.declared.mode.Mode.{Mode}
use Rattle.pyd_lex.specs.declared.mode.Mode.TheVariants.{Indentation, Inside}
use Rattle.pyd_lex.specs.declared.place.Place.{Place}
use Rattle.pyd_lex.specs.declared.token.Shape.{Shape}
use Rattle.pyd_lex.specs.declared.token.Shape.TheVariants.{Space, Tab, Comment, Break, Token as Spelled}
use Rattle.pyd_lex.specs.declared.token.Token.{Token}
use Rattle.pyd_lex.specs.declared.token.TokenKind.{TokenKind}
use Rattle.pyd_lex.specs.declared.token.TokenKind.TheVariants as kind
use Rattle.pyd_lex.specs.Words.{Text}
use Rattle.pyd_lex.specs.Spelling.{is_piece, IsCut}
use Rattle.pyd_lex.specs.Meaning.{Judged, meaning}
use Rattle.pyd_lex.specs.Lines.{Piece, Answer, ahead, lowered, indented, top, empty_at, token_at, token_if, bracket, closing, place_of, placed, end_of, size, after}
use Rattle.pyd_lex.specs.Machine.{run, started}
use Rattle.pyd_lex.specs.Reads.{start, without_bom, has_bom}
use Rattle.pyd_lex.specs.Texts.{spelling_of}
use Rattle.pyd_lex.specs.Laws.{AreSpelled}
use Rattle.pyd_lex.specs.TokenBytes.{IsWithin, AreInOrder, Spells, HasBytes, IsSpelled, IsEnd, AreEnded, is_indent, is_dedent, AreBalanced, TokenBytes, IsName}
use Rattle.pyd_lex.proofs.Lines.{run_reads, lowered_none, lowered_some, indented_is}
use Rattle.pyd_lex.proofs.Steps.{size_split, bom_size, chars_size}
use Rattle.pyd_lex.proofs.Spans.{spelled}
use Rattle.pyd_lex.proofs.TokenTexts.{IsContent, means_content, not_end, token_texts}

-- ---- answers

pub ahead_is : (ts us : List Token) (a : Answer) → ahead ts a ≡ Ok us → (vs : List Token) × (a ≡ Ok vs) × (us ≡ ts ++ vs)
ahead_is ts us (Ok vs) e = (vs, refl, let k : Ok (ts ++ vs) ≡ Ok us = e in cc)
ahead_is ts us (Err f) e = absurd (let k : Err f ≡ Ok us = e in cc)

abbrev answered : List Token → Answer
answered ts = Ok ts

ok_is : (ts us : List Token) → answered ts ≡ Ok us → ts ≡ us
ok_is ts us e = cc

-- ---- tokens from a byte on, in blocks that are open

none_between : (n : ℕ) (xs : List ℕ) → drop n (take n xs) ≡ []
none_between zero xs = refl
none_between (suc n) [] = refl
none_between (suc n) (x ∷ xs) = none_between n xs

order_from : (a b : ℕ) (ts : List Token) → a ≤ b → AreInOrder b ts → AreInOrder a ts
order_from a b [] l o = tt
order_from a b (t ∷ ts) l o = (let m = o.0 in omega arith, o.1)

abbrev ind : List Token → ℕ
ind ts = count_by is_indent ts

abbrev ded : List Token → ℕ
ded ts = count_by is_dedent ts

-- so many blocks are open before these tokens
record Closes (d : ℕ) (ts : List Token) : Type 0 where
  never : (n : ℕ) → ded (take n ts) ≤ d + ind (take n ts)
  whole : ded ts ≡ d + ind ts

abbrev Turns : Token → ℕ → ℕ → Type 0
Turns t d e = e + cond (is_dedent t) 1 0 ≡ d + cond (is_indent t) 1 0

closes_cons : (d e : ℕ) (t : Token) (ts : List Token) → Turns t d e → Closes e ts → Closes d (t ∷ ts)
closes_cons d e t ts u c = record {
  never = λ n. elim n as (λ m. ded (take m (t ∷ ts)) ≤ d + ind (take m (t ∷ ts))) [
    | zero ↦ omega arith
    | suc m ↦
        let a = sum_by-cons (λ y. cond (is_dedent y) 1 0) t (take m ts) in
        let b = sum_by-cons (λ y. cond (is_indent y) 1 0) t (take m ts) in
        let h = c.never m in
        omega arith
  ];
  whole =
      let a = sum_by-cons (λ y. cond (is_dedent y) 1 0) t ts in
      let b = sum_by-cons (λ y. cond (is_indent y) 1 0) t ts in
      let h = c.whole in
      omega arith;
}

balance : (ts : List Token) → Closes 0 ts → AreBalanced ts
balance ts c = record {
  never = λ n. let h = c.never n in omega arith;
  whole = let h = c.whole in omega arith;
}

module _ (bytes : List ℕ) where
  record Follows (at d : ℕ) (ts : List Token) : Type 0 where
    within : All (IsWithin bytes) ts
    ordered : AreInOrder at ts
    spelled : All (IsSpelled bytes) ts
    ended : AreEnded bytes ts
    closes : Closes d ts

  -- a token between two bytes that turns the count of open blocks
  record Stands (at d e : ℕ) (t : Token) : Type 0 where
    begins : at ≤ t.from
    within : IsWithin bytes t
    spelled : IsSpelled bytes t
    more : IsEnd t → ⊥
    turns : Turns t d e

  ended_cons : (t : Token) (ts : List Token) → (IsEnd t → ⊥) → AreEnded bytes ts → AreEnded bytes (t ∷ ts)
  ended_cons t ts n e = record {
    before = t ∷ e.before;
    last = e.last;
    whole = ap (λ x. t ∷ x) e.whole;
    is_end = e.is_end;
    at_end = e.at_end;
    only = All-cons (λ x. IsEnd x → ⊥) t e.before n e.only;
  }

  cons : (at d e : ℕ) (t : Token) (ts : List Token) → Stands at d e t → Follows t.to e ts → Follows at d (t ∷ ts)
  cons at d e t ts s f = record {
    within = All-cons (IsWithin bytes) t ts s.within f.within;
    ordered = (s.begins, f.ordered);
    spelled = All-cons (IsSpelled bytes) t ts s.spelled f.spelled;
    ended = ended_cons t ts s.more f.ended;
    closes = closes_cons d e t ts s.turns f.closes;
  }

  from_before : (at to d : ℕ) (ts : List Token) → at ≤ to → Follows to d ts → Follows at d ts
  from_before at to d ts l f = record {
    within = f.within;
    ordered = order_from at to ts l f.ordered;
    spelled = f.spelled;
    ended = f.ended;
    closes = f.closes;
  }

  abbrev Next : Type 0
  Next = List ℕ → Answer

  -- a line that begins at this byte goes on so
  abbrev Goes : ℕ → Next → Type 0
  Goes at next = (vs : List ℕ) (us : List Token) → next vs ≡ Ok us → Follows at (length vs) us

  -- an answer's tokens behind one
  behind : (at d e : ℕ) (t : Token) (a : Answer) (ts : List Token) → Stands at d e t → ((us : List Token) → a ≡ Ok us → Follows t.to e us) → ahead (t ∷ []) a ≡ Ok ts → Follows at d ts
  behind at d e t a ts s g h =
      let k = ahead_is (t ∷ []) ts a h in subst (Follows at d) (sym k.2) (cons at d e t k.0 s (g k.0 k.1))

  module _ (p : Place) (inside : p.at ≤ length bytes) where
    empty_within : (k : TokenKind) → IsWithin bytes (empty_at k p)
    empty_within k = record { forward = omega arith; inside = inside }

    dedent : (d : ℕ) → Stands p.at (suc d) d (empty_at kind.Dedent p)
    dedent d = record {
      begins = omega arith;
      within = empty_within kind.Dedent;
      spelled = none_between p.at bytes;
      more = λ e. cc;
      turns = omega arith;
    }

    indent : (d : ℕ) → Stands p.at d (suc d) (empty_at kind.Indent p)
    indent d = record {
      begins = omega arith;
      within = empty_within kind.Indent;
      spelled = none_between p.at bytes;
      more = λ e. cc;
      turns = omega arith;
    }

    low_none : (w : ℕ) (next : Next) (b : Bool) (ts : List Token) → Goes p.at next → (w == 0) ≡ b → lowered w p [] next ≡ Ok ts → Follows p.at 0 ts
    low_none w next true ts g e h = g [] ts (sym (lowered_none w p next true e) ∙ h)
    low_none w next false ts g e h = absurd (let k = sym (lowered_none w p next false e) ∙ h in cc)

    low_some : (w v : ℕ) (vs : List ℕ) (next : Next) (b c : Bool) (ts : List Token) → Goes p.at next → ((us : List Token) → lowered w p vs next ≡ Ok us → Follows p.at (length vs) us) → nat_lt w v ≡ b → (w == v) ≡ c → lowered w p (v ∷ vs) next ≡ Ok ts → Follows p.at (length (v ∷ vs)) ts
    low_some w v vs next true c ts g r e f h =
        behind p.at (suc (length vs)) (length vs) (empty_at kind.Dedent p) (lowered w p vs next) ts (dedent (length vs)) r (sym (lowered_some w v p vs next true c e f) ∙ h)
    low_some w v vs next false true ts g r e f h = g (v ∷ vs) ts (sym (lowered_some w v p vs next false true e f) ∙ h)
    low_some w v vs next false false ts g r e f h = absurd (let k = sym (lowered_some w v p vs next false false e f) ∙ h in cc)

    low : (w : ℕ) (ws : List ℕ) (next : Next) → Goes p.at next → (ts : List Token) → lowered w p ws next ≡ Ok ts → Follows p.at (length ws) ts
    low w [] next g ts h = low_none w next (w == 0) ts g refl h
    low w (v ∷ vs) next g ts h = low_some w v vs next (nat_lt w v) (w == v) ts g (low w vs next g) refl refl h

    level : (w : ℕ) (ws : List ℕ) (next : Next) (b : Bool) → Goes p.at next → (ts : List Token) → nat_lt (top ws) w ≡ b → indented w p ws next ≡ Ok ts → Follows p.at (length ws) ts
    level w ws next true g ts e h =
        behind p.at (length ws) (suc (length ws)) (empty_at kind.Indent p) (next (w ∷ ws)) ts (indent (length ws)) (g (w ∷ ws)) (sym (indented_is w p ws next true e) ∙ h)
    level w ws next false g ts e h = low w ws next g ts (sym (indented_is w p ws next false e) ∙ h)

    begun : (tab : Bool) (w : ℕ) (ws : List ℕ) (next : Next) → Goes p.at next → (ts : List Token) → started tab w p ws next ≡ Ok ts → Follows p.at (length ws) ts
    begun true w ws next g ts h = absurd (let k : Err (fault.Tab p.line) ≡ Ok ts = h in cc)
    begun false w ws next g ts h = level w ws next (nat_lt (top ws) w) g ts refl h

  -- ---- pieces that follow one another up to the end of the bytes

  record Fits (p : Piece) : Type 0 where
    forward : p.from ≤ p.to
    inside : p.to ≤ length bytes
    utf8 : IsUtf8 (spelling_of bytes p.from p.to)
    piece : is_piece (chars (spelling_of bytes p.from p.to)) ≡ true
    means : meaning (chars (spelling_of bytes p.from p.to)) ≡ p.means

  abbrev Chained : ℕ → List Piece → Type 0
  Chained at [] = at ≡ length bytes
  Chained at (p ∷ ps) = (at ≡ p.from) × Fits p × Chained p.to ps

  abbrev made : Judged → Place → ℕ → Piece
  made j p to = record { means = j; from = p.at; to = to; line = p.line }

  fits_spells : (s : Shape) (p : Place) (to : ℕ) → Fits (made (Ok s) p to) → Spells (spelling_of bytes p.at to) s
  fits_spells s p to f = record { utf8 = f.utf8; piece = f.piece; means = f.means }

  has_bytes : (k : TokenKind) (b : List ℕ) → IsContent k → Spells b (Spelled k) → HasBytes k b
  has_bytes kind.Name b c s = s
  has_bytes (kind.Int n) b c s = s
  has_bytes kind.Str b c s = s
  has_bytes (kind.Word w) b c s = s
  has_bytes (kind.Mark m) b c s = s
  has_bytes kind.Newline b c s = absurd c
  has_bytes kind.Indent b c s = absurd c
  has_bytes kind.Dedent b c s = absurd c
  has_bytes kind.End b c s = absurd c

  turns_none : (k : TokenKind) (from to line d : ℕ) → IsContent k → Turns (record { kind = k; from = from; to = to; line = line }) d d
  turns_none kind.Name from to line d c = refl
  turns_none (kind.Int n) from to line d c = refl
  turns_none kind.Str from to line d c = refl
  turns_none (kind.Word w) from to line d c = refl
  turns_none (kind.Mark m) from to line d c = refl
  turns_none kind.Newline from to line d c = absurd c
  turns_none kind.Indent from to line d c = absurd c
  turns_none kind.Dedent from to line d c = absurd c
  turns_none kind.End from to line d c = absurd c

  token_stands : (k : TokenKind) (p : Place) (to d : ℕ) → Fits (made (Ok (Spelled k)) p to) → Stands p.at d d (token_at k (made (Ok (Spelled k)) p to))
  token_stands k p to d f =
      let c = means_content (chars (spelling_of bytes p.at to)) k f.means in
      record {
        begins = omega arith;
        within = record { forward = f.forward; inside = f.inside };
        spelled = has_bytes k (spelling_of bytes p.at to) c (fits_spells (Spelled k) p to f);
        more = not_end k c;
        turns = turns_none k p.at to p.line d c;
      }

  newline_stands : (p : Place) (to d : ℕ) → Fits (made (Ok Break) p to) → Stands p.at d d (token_at kind.Newline (made (Ok Break) p to))
  newline_stands p to d f = record {
    begins = omega arith;
    within = record { forward = f.forward; inside = f.inside };
    spelled = inl (fits_spells Break p to f);
    more = λ e. cc;
    turns = refl;
  }

  -- what is shown where the line has tokens
  pushes : (has_tokens : Bool) (d : ℕ) (t : Token) (a : Answer) (ts : List Token) → Stands t.from d d t → ((us : List Token) → a ≡ Ok us → Follows t.to d us) → ahead (token_if has_tokens t) a ≡ Ok ts → Follows t.from d ts
  pushes true d t a ts s g h = behind t.from d d t a ts s g h
  pushes false d t a ts s g h =
      let k = ahead_is [] ts a h in
      let w = s.within in
      subst (Follows t.from d) (sym k.2) (from_before t.from t.to d k.0 w.forward (g k.0 k.1))

  module _ (end : Place) (ends : end.at ≡ length bytes) where
    end_inside : end.at ≤ length bytes
    end_inside = omega arith

    last_follows : Follows end.at 0 (empty_at kind.End end ∷ [])
    last_follows = record {
      within = All-cons (IsWithin bytes) (empty_at kind.End end) [] (empty_within end end_inside kind.End) (λ k d l. absurd (omega arith));
      ordered = (omega arith, tt);
      spelled = All-cons (IsSpelled bytes) (empty_at kind.End end) [] (none_between end.at bytes) (λ k d l. absurd (omega arith));
      ended = record {
        before = [];
        last = empty_at kind.End end;
        whole = refl;
        is_end = refl;
        at_end = ends;
        only = λ k d l. absurd (omega arith);
      };
      closes = closes_cons 0 0 (empty_at kind.End end) [] refl (record { never = λ n. elim n as (λ m. ded (take m []) ≤ 0 + ind (take m [])) [ zero ↦ omega arith | suc m ↦ omega arith ]; whole = refl });
    }

    closing_follows : (ws : List ℕ) → Follows end.at (length ws) (closing end ws)
    closing_follows [] = last_follows
    closing_follows (w ∷ ws) = cons end.at (suc (length ws)) (length ws) (empty_at kind.Dedent end) (closing end ws) (dedent end end_inside (length ws)) (closing_follows ws)

    last_newline : (d : ℕ) → Stands end.at d d (empty_at kind.Newline end)
    last_newline d = record {
      begins = omega arith;
      within = empty_within end end_inside kind.Newline;
      spelled = inr (none_between end.at bytes);
      more = λ e. cc;
      turns = refl;
    }

    closes_all : (ws : List ℕ) (us : List Token) → answered (closing end ws) ≡ Ok us → Follows end.at (length ws) us
    closes_all ws us e = subst (Follows end.at (length ws)) (ok_is (closing end ws) us e) (closing_follows ws)

    abbrev Good : List Piece → Type 0
    Good ps = (at : ℕ) (m : Mode) (ws : List ℕ) (ts : List Token) → Chained at ps → run end ps m ws ≡ Ok ts → Follows at (length ws) ts

    good_none : Good []
    unfolding run
    good_none at (Indentation w tab) ws ts c h =
        let k = ahead_is [] ts (Ok (closing end ws)) h in
        from_before at end.at (length ws) ts (omega arith) (subst (Follows end.at (length ws)) (sym k.2) (closes_all ws k.0 k.1))
    good_none at (Inside depth has_tokens) ws ts c h =
        from_before at end.at (length ws) ts (omega arith) (pushes _ (length ws) (empty_at kind.Newline end) (Ok (closing end ws)) ts (last_newline (length ws)) (closes_all ws) h)

    break_good : (p : Place) (to : ℕ) (ps : List Piece) → Good ps → Fits (made (Ok Break) p to) → Chained to ps → (depth : ℕ) (has_tokens : Bool) (ws : List ℕ) (ts : List Token) (b : Bool) → (depth == 0) ≡ b → run end (made (Ok Break) p to ∷ ps) (Inside depth has_tokens) ws ≡ Ok ts → Follows p.at (length ws) ts
    unfolding run
    break_good p to ps r f c depth has_tokens ws ts true e h =
        pushes has_tokens (length ws) (token_at kind.Newline (made (Ok Break) p to)) (run end ps (Indentation 0 false) ws) ts (newline_stands p to (length ws) f) (λ us. r to (Indentation 0 false) ws us c) (let k = rw (e, run) at h in k)
    break_good p to ps r f c depth has_tokens ws ts false e h =
        from_before p.at to (length ws) ts f.forward (r to (Inside depth has_tokens) ws ts c (let k = rw (e, run) at h in k))

    step_good : (j : Judged) (p : Place) (to : ℕ) (ps : List Piece) → Good ps → Fits (made j p to) → Chained to ps → (m : Mode) (ws : List ℕ) (ts : List Token) → run end (made j p to ∷ ps) m ws ≡ Ok ts → Follows p.at (length ws) ts
    unfolding run
    step_good (Err x) p to ps r f c (Indentation w tab) ws ts h =
        begun p (let l = f.forward in let i = f.inside in omega arith) tab w ws (λ vs. Err _) (λ vs us e. absurd cc) ts h
    step_good (Err x) p to ps r f c (Inside depth has_tokens) ws ts h = absurd cc
    step_good (Ok Space) p to ps r f c (Indentation w tab) ws ts h = from_before p.at to (length ws) ts f.forward (r to (Indentation (w + 1) tab) ws ts c h)
    step_good (Ok Tab) p to ps r f c (Indentation w tab) ws ts h = from_before p.at to (length ws) ts f.forward (r to (Indentation (w + 1) true) ws ts c h)
    step_good (Ok Comment) p to ps r f c (Indentation w tab) ws ts h = from_before p.at to (length ws) ts f.forward (r to (Inside 0 false) ws ts c h)
    step_good (Ok Break) p to ps r f c (Indentation w tab) ws ts h = from_before p.at to (length ws) ts f.forward (r to (Indentation 0 false) ws ts c h)
    step_good (Ok (Spelled k)) p to ps r f c (Indentation w tab) ws ts h =
        begun p (let l = f.forward in let i = f.inside in omega arith) tab w ws (λ vs. ahead (token_at k (made (Ok (Spelled k)) p to) ∷ []) (run end ps (Inside (bracket 0 k) true) vs))
        (λ vs us e. behind p.at (length vs) (length vs) (token_at k (made (Ok (Spelled k)) p to)) (run end ps (Inside (bracket 0 k) true) vs) us (token_stands k p to (length vs) f) (λ xs. r to (Inside (bracket 0 k) true) vs xs c) e) ts h
    step_good (Ok Space) p to ps r f c (Inside depth has_tokens) ws ts h = from_before p.at to (length ws) ts f.forward (r to (Inside depth has_tokens) ws ts c h)
    step_good (Ok Tab) p to ps r f c (Inside depth has_tokens) ws ts h = from_before p.at to (length ws) ts f.forward (r to (Inside depth has_tokens) ws ts c h)
    step_good (Ok Comment) p to ps r f c (Inside depth has_tokens) ws ts h = from_before p.at to (length ws) ts f.forward (r to (Inside depth has_tokens) ws ts c h)
    step_good (Ok Break) p to ps r f c (Inside depth has_tokens) ws ts h = break_good p to ps r f c depth has_tokens ws ts (depth == 0) refl h
    step_good (Ok (Spelled k)) p to ps r f c (Inside depth has_tokens) ws ts h =
        pushes has_tokens (length ws) (token_at k (made (Ok (Spelled k)) p to)) (run end ps (Inside (bracket depth k) has_tokens) ws) ts (token_stands k p to (length ws) f) (λ us. r to (Inside (bracket depth k) has_tokens) ws us c) h

    good : (ps : List Piece) → Good ps
    good [] at m ws ts c h = good_none at m ws ts c h
    good (p ∷ ps) at m ws ts c h =
        subst (λ n. Follows n (length ws) ts) (sym c.0) (step_good p.means (place_of p) p.to ps (good ps) c.1 c.2 m ws ts h)

  -- ---- the pieces of a cut

  piece_inside : (at : ℕ) (text z : Text) → at + size text ≡ length bytes → z ≡ take (length z) text → (at + size z) + size (drop (length z) text) ≡ length bytes
  piece_inside at text z e t = let s = size_split (length z) text in let k = ap size t in omega arith

  chained : (p : Place) (text : Text) (pieces : List Text) → p.at + size text ≡ length bytes → IsCut text pieces → AreSpelled bytes p pieces → Chained p.at (placed p pieces)
  chained p text [] e c s = let k = ap size c in omega arith
  chained p text (z ∷ zs) e c s =
      let l = piece_inside p.at text z e c.0 in
      let longest = c.1 in (
        refl,
        record {
          forward = omega arith;
          inside = omega arith;
          utf8 = s.0;
          piece = ap is_piece (s.1 ∙ c.0) ∙ longest.here;
          means = ap meaning s.1;
        },
        chained (after p z) (drop (length z) text) zs l c.2 s.2,
      )

  all_read : (p : Place) (text : Text) (pieces : List Text) → p.at + size text ≡ length bytes → IsCut text pieces → (end_of p pieces).at ≡ length bytes
  all_read p text [] e c = let k = ap size c in omega arith
  all_read p text (z ∷ zs) e c = all_read (after p z) (drop (length z) text) zs (piece_inside p.at text z e c.0) c.2

  begins_all : (text : Text) (b : Bool) → has_bom text ≡ b → size text ≡ length bytes → (start text).at + size (without_bom text) ≡ length bytes
  begins_all text true m e = let s = bom_size text m in rw m (omega arith)
  begins_all text false m e = rw m (omega arith)

pub token_bytes : TokenBytes
token_bytes bytes ts (inl x) = absurd (let e = x.1 in cc)
token_bytes bytes ts (inr x) =
    let text = chars bytes in
    let reads = x.1 in
    let pieces = reads.0 in
    let p = start text in
    let all = begins_all bytes text (has_bom text) refl (chars_size bytes x.0) in
    let f = good bytes (end_of p pieces) (all_read bytes p (without_bom text) pieces all reads.1) (placed p pieces) p.at (Indentation 0 false) [] ts (chained bytes p (without_bom text) pieces all reads.1 (spelled bytes pieces x.0 reads.1)) (run_reads p pieces ∙ reads.2) in
    record {
      within = f.within;
      ordered = order_from 0 p.at ts (omega arith) f.ordered;
      spelled = f.spelled;
      ended = f.ended;
      balanced = balance ts f.closes;
    }

-- ---- names

pub name_spells : (k : TokenKind) (b : List ℕ) → k ≡ kind.Name → HasBytes k b → Spells b (Spelled kind.Name)
name_spells k b e h = subst (λ x. HasBytes x b) e h

pub spelled_name : (k : TokenKind) (b : List ℕ) → k ≡ kind.Name → HasBytes k b → IsName (chars b)
spelled_name k b e h = let s = name_spells k b e h in token_texts (chars b) kind.Name s.means
