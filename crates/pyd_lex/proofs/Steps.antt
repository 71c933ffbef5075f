-- What a step of the scanner keeps.
use Rattle.std.proofs.Common.{◌≡◌, ℕ, ◌+◌, ◌-◌, ◌<◌, ◌≤◌, Bool, true, false, ◌==◌, nat_lt, List, [], ◌∷◌, ◌++◌, length, take, drop, reverse, get_or, Option, Some, None, Result, Ok, Err, OnOk, IfOk, IfErr, IsSome, refl, sym, ap, subst, ◌∙◌, arith, inl, inr, length-take-le, encode_utf8_all, take-append-drop, length-append}
use Rattle.std.specs.Option.{option_to_list}
use Rattle.std.proofs.lemmas.List.{reverse-append, get_or-reverse}
use Rattle.std.proofs.lemmas.Str.{encodes-append, encodes-chars, length-le-encodes}
use Rattle.std.specs.Str.{IsUtf8, chars}
use Rattle.pyd_lex.specs.declared.fault.Stop.{Stop}
use Rattle.pyd_lex.specs.declared.fault.Stop.TheVariants.{Flaw, NoMemory}
use Rattle.std.proofs.lemmas.Bool.{cases_Bool, eqb-true}
use Rattle.pyd_lex.proofs.Words.{and_left}
use Rattle.std.proofs.lemmas.Bool.Decides.{nat_tests}
use Rattle.pyd_lex.specs.declared.fault.Flaw.{Flaw as Wrong}
use Rattle.pyd_lex.specs.declared.fault.LexFault.{LexFault}
use Rattle.pyd_lex.specs.declared.fault.LexFault.TheVariants as fault
use Rattle.pyd_lex.specs.declared.fault.LexStop.{LexStop}
use Rattle.pyd_lex.specs.declared.fault.LexStop.TheVariants as stop
use Rattle.pyd_lex.specs.declared.place.Place.{Place}
use Rattle.pyd_lex.specs.declared.mode.Mode.{Mode}
use Rattle.pyd_lex.specs.declared.mode.Mode.TheVariants.{Indentation, Inside}
use Rattle.pyd_lex.specs.declared.token.Shape.{Shape}
use Rattle.pyd_lex.specs.declared.token.Shape.TheVariants.{Space, Tab, Comment, Break, Token as Spelled}
use Rattle.pyd_lex.specs.declared.token.Token.{Token}
use Rattle.pyd_lex.specs.declared.token.TokenKind.{TokenKind}
use Rattle.pyd_lex.specs.declared.token.TokenKind.TheVariants as kind
use Rattle.pyd_lex.specs.Words.{Text}
use Rattle.pyd_lex.specs.Spelling.{IsCut, IsLongest}
use Rattle.pyd_lex.specs.Meaning.{meaning}
use Rattle.pyd_lex.specs.Lines.{Piece, Answer, ahead, token_if, token_at, empty_at, fault_in, bracket, lowered, indented, top, closing, size, ends, is_end, after, placed, end_of}
use Rattle.pyd_lex.specs.Machine.{run, started, unfinished, indentation_after}
use Rattle.pyd_lex.specs.Steps.{Begins, Refuses, Takes, Halts, good, bad, ReadsFrom}
use Rattle.pyd_lex.specs.Front.{IsGood, IsFlawed}
use Rattle.pyd_lex.specs.Stops.{IfFlaw, IsFlaw, IfFault}
use Rattle.pyd_lex.specs.Reads.{CutReads, has_bom}
use Rattle.pyd_lex.proofs.Lines.{ahead_nil, ahead_ahead, run_reads}
use Rattle.pyd_lex.proofs.Spelling.{cut_exists}

-- ---- answers

pub ahead_err : (ts : List Token) (a : Answer) (f : LexFault) → ahead ts a ≡ Err f → a ≡ Err f
ahead_err ts (Ok us) f e = cc
ahead_err ts (Err g) f e = e

pub fault_is : (s : LexStop) (P : LexFault → Type 0) → s ≡ stop.NoMemory → IfFault s P
fault_is (stop.Fault f) P e = absurd (let k : stop.Fault f ≡ stop.NoMemory = e in cc)
fault_is stop.NoMemory P e = tt

pub map_fault : (s : LexStop) (P Q : LexFault → Type 0) → ((f : LexFault) → P f → Q f) → IfFault s P → IfFault s Q
map_fault (stop.Fault f) P Q h p = h f p
map_fault stop.NoMemory P Q h p = tt

-- ---- widths

top_first : (ws : List ℕ) → top ws ≡ get_or ws 0 0
top_first [] = refl
top_first (w ∷ ws) = refl

pub top_last : (xs : List ℕ) → 0 < length xs → top (reverse xs) ≡ get_or xs (length xs - 1) 0
top_last xs l =
    let e : length xs - 1 - 0 ≡ length xs - 1 = omega arith in
    top_first (reverse xs) ∙ get_or-reverse xs 0 0 l ∙ ap (λ k. get_or xs k 0) e

pub reverse_push : (xs : List ℕ) (x : ℕ) → reverse (xs ++ x ∷ []) ≡ x ∷ reverse xs
reverse_push xs x = reverse-append xs (x ∷ [])

pub reverse_pop : (xs ys : List ℕ) (o : Option ℕ) → IsSome o → xs ≡ ys ++ option_to_list o → reverse xs ≡ top (reverse xs) ∷ reverse ys
reverse_pop xs ys None h e = cc
reverse_pop xs ys (Some x) h e =
    let r : reverse xs ≡ x ∷ reverse ys = ap reverse e ∙ reverse_push ys x in
    r ∙ ap (λ t. t ∷ reverse ys) (sym (ap top r))

pub lowered_pop : (w : ℕ) (p : Place) (ws vs : List ℕ) (next : List ℕ → Answer) → ws ≡ top ws ∷ vs → w < top ws → lowered w p ws next ≡ ahead (empty_at kind.Dedent p ∷ []) (lowered w p vs next)
unfolding lowered
lowered_pop w p ws vs next e l =
    let t : nat_lt w (top ws) ≡ true = grind (arith, nat_tests) in
    ap (λ x. lowered w p x next) e ∙ rw t refl

pub lowered_end : (w : ℕ) (p : Place) (ws : List ℕ) (next : List ℕ → Answer) → w ≡ top ws → lowered w p ws next ≡ next ws
unfolding lowered
lowered_end w p [] next e = let t : (w == 0) ≡ true = grind (arith, nat_tests) in rw t refl
lowered_end w p (v ∷ vs) next e =
    let t : nat_lt w v ≡ false = grind (arith, nat_tests) in
    let u : (w == v) ≡ true = grind (arith, nat_tests) in
    rw (t, u) refl

pub lowered_bad : (w : ℕ) (p : Place) (ws : List ℕ) (next : List ℕ → Answer) → (w ≡ top ws → ⊥) → top ws ≤ w → lowered w p ws next ≡ Err (fault.BadDedent p.line)
unfolding lowered
lowered_bad w p [] next e l = let t : (w == 0) ≡ false = grind (arith, nat_tests) in rw t refl
lowered_bad w p (v ∷ vs) next e l =
    let t : nat_lt w v ≡ false = grind (arith, nat_tests) in
    let u : (w == v) ≡ false = grind (arith, nat_tests) in
    rw (t, u) refl

pub begins_indent : (w : ℕ) (p : Place) (ts us : List Token) (ws vs : List ℕ) → top ws < w → us ≡ ts ++ empty_at kind.Indent p ∷ [] → vs ≡ w ∷ ws → Begins ts (λ next. started false w p ws next) us vs
unfolding indented
begins_indent w p ts us ws vs l e f next =
    let t : nat_lt (top ws) w ≡ true = grind (arith, nat_tests) in
    rw t (ahead_ahead ts (empty_at kind.Indent p ∷ []) (next (w ∷ ws)) ∙ (λ i. ahead (sym e i) (next (sym f i))))

indented_low : (w : ℕ) (p : Place) (ws : List ℕ) (next : List ℕ → Answer) → w ≤ top ws → indented w p ws next ≡ lowered w p ws next
unfolding indented
indented_low w p ws next l = let t : nat_lt (top ws) w ≡ false = grind (arith, nat_tests) in rw t refl

pub begins_lower : (w : ℕ) (p : Place) (ts us : List Token) (ws vs : List ℕ) → w ≤ top ws → Begins ts (λ next. lowered w p ws next) us vs → Begins ts (λ next. started false w p ws next) us vs
begins_lower w p ts us ws vs l b next = ap (ahead ts) (indented_low w p ws next l) ∙ b next

pub refuses_lower : (w : ℕ) (p : Place) (ws : List ℕ) (f : LexFault) → w ≤ top ws → Refuses (λ next. lowered w p ws next) f → Refuses (λ next. started false w p ws next) f
refuses_lower w p ws f l b next = indented_low w p ws next l ∙ b next

pub refuses_tab : (w : ℕ) (p : Place) (ws : List ℕ) → Refuses (λ next. started true w p ws next) (fault.Tab p.line)
refuses_tab w p ws next = refl

-- ---- the same where a test says whether a tab is there

pub no_tab_indent : (tab : Bool) (w : ℕ) (p : Place) (ts us : List Token) (ws vs : List ℕ) → tab ≡ false → top (reverse ws) < w → us ≡ ts ++ empty_at kind.Indent p ∷ [] → vs ≡ ws ++ w ∷ [] → Begins ts (λ next. started tab w p (reverse ws) next) us (reverse vs)
no_tab_indent tab w p ts us ws vs t l e f =
    subst (λ b. Begins ts (λ next. started b w p (reverse ws) next) us (reverse vs)) (sym t) (begins_indent w p ts us (reverse ws) (reverse vs) l e (ap reverse f ∙ reverse_push ws w))

pub no_tab_lower : (tab : Bool) (w : ℕ) (p : Place) (ts us : List Token) (ws vs : List ℕ) → tab ≡ false → w ≤ top ws → Begins ts (λ next. lowered w p ws next) us vs → Begins ts (λ next. started tab w p ws next) us vs
no_tab_lower tab w p ts us ws vs t l b =
    subst (λ r. Begins ts (λ next. started r w p ws next) us vs) (sym t) (begins_lower w p ts us ws vs l b)

pub no_tab_refuse : (tab : Bool) (w : ℕ) (p : Place) (ws : List ℕ) (f : LexFault) → tab ≡ false → w ≤ top ws → Refuses (λ next. lowered w p ws next) f → Refuses (λ next. started tab w p ws next) f
no_tab_refuse tab w p ws f t l b =
    subst (λ r. Refuses (λ next. started r w p ws next) f) (sym t) (refuses_lower w p ws f l b)

pub tab_refuses : (tab : Bool) (w : ℕ) (p : Place) (ws : List ℕ) → tab ≡ true → Refuses (λ next. started tab w p ws next) (fault.Tab p.line)
tab_refuses tab w p ws t = subst (λ r. Refuses (λ next. started r w p ws next) (fault.Tab p.line)) (sym t) (refuses_tab w p ws)

-- ---- a dedent

pub lower_step : (w : ℕ) (p : Place) (ts us : List Token) (ws vs : List ℕ) → ws ≡ top ws ∷ vs → w < top ws → us ≡ ts ++ empty_at kind.Dedent p ∷ [] → (next : List ℕ → Answer) → ahead ts (lowered w p ws next) ≡ ahead us (lowered w p vs next)
lower_step w p ts us ws vs e l f next =
    ap (ahead ts) (lowered_pop w p ws vs next e l) ∙ ahead_ahead ts (empty_at kind.Dedent p ∷ []) (lowered w p vs next) ∙ ap (λ x. ahead x (lowered w p vs next)) (sym f)

pub top_none : (xs : List ℕ) → length xs ≡ 0 → 0 ≡ top (reverse xs)
top_none [] e = refl
top_none (x ∷ xs) e = absurd (omega arith)

pub top_slice : (xs ys : List ℕ) → ys ≡ xs → (length ys ≡ 0 → ⊥) → get_or ys (length ys - 1) 0 ≡ top (reverse xs)
top_slice xs ys e h =
    let l : 0 < length ys = omega arith in
    sym (top_last ys l) ∙ ap (λ z. top (reverse z)) e

-- ---- a piece in the margin of a line

module _ (ts : List Token) (w : ℕ) (tab : Bool) (ws : List ℕ) (p : Place) (q : ℕ) where
  pub take_indentation : (s : Shape) (us : List Token) (vs : List ℕ) (m : Mode) → ((k : TokenKind) → s ≡ Spelled k → ⊥) → us ≡ ts → vs ≡ ws → m ≡ indentation_after w tab s → Takes ts (Indentation w tab) ws (good s p q) us m vs
  unfolding run
  take_indentation Space us vs m h e f g end ps = λ i. ahead (sym e i) (run end ps (sym g i) (sym f i))
  take_indentation Tab us vs m h e f g end ps = λ i. ahead (sym e i) (run end ps (sym g i) (sym f i))
  take_indentation Comment us vs m h e f g end ps = λ i. ahead (sym e i) (run end ps (sym g i) (sym f i))
  take_indentation Break us vs m h e f g end ps = λ i. ahead (sym e i) (run end ps (sym g i) (sym f i))
  take_indentation (Spelled k) us vs m h e f g end ps = absurd (h k refl)

  pub take_token : (us vs' : List Token) (vs : List ℕ) (k : TokenKind) → Begins ts (λ next. started tab w p ws next) us vs → vs' ≡ us ++ token_if true (token_at k (good (Spelled k) p q)) → Takes ts (Indentation w tab) ws (good (Spelled k) p q) vs' (Inside (bracket 0 k) true) vs
  unfolding run
  take_token us vs' vs k b e end ps =
      b (λ vs. ahead (token_at k (good (Spelled k) p q) ∷ []) (run end ps (Inside (bracket 0 k) true) vs)) ∙ ahead_ahead us (token_at k (good (Spelled k) p q) ∷ []) (run end ps (Inside (bracket 0 k) true) vs) ∙ ap (λ x. ahead x (run end ps (Inside (bracket 0 k) true) vs)) (sym e)

  pub take_first : (us xs : List Token) (vs ys : List ℕ) (k : TokenKind) (m : Mode) → Begins ts (λ next. started tab w p ws next) us vs → xs ≡ us ++ token_if true (token_at k (good (Spelled k) p q)) → ys ≡ vs → m ≡ Inside (bracket 0 k) true → Takes ts (Indentation w tab) ws (good (Spelled k) p q) xs m ys
  take_first us xs vs ys k m b e f g end ps =
      take_token us xs vs k b e end ps ∙ (λ i. ahead xs (run end ps (sym g i) (sym f i)))

  pub halt_token : (k : TokenKind) (f : LexFault) → Refuses (λ next. started tab w p ws next) f → Halts (Indentation w tab) ws (good (Spelled k) p q) f
  unfolding run
  halt_token k f r end ps = r (λ vs. ahead (token_at k (good (Spelled k) p q) ∷ []) (run end ps (Inside (bracket 0 k) true) vs))

  pub halt_indentation : (x : Wrong) (to : ℕ) (f : LexFault) → Refuses (λ next. started tab w p ws next) f → Halts (Indentation w tab) ws (bad x p to) f
  unfolding run
  halt_indentation x to f r end ps = r (λ vs. Err (fault_in x p.line))

  pub halt_begun : (x : Wrong) (to : ℕ) (us : List Token) (vs : List ℕ) → Begins ts (λ next. started tab w p ws next) us vs → Halts (Indentation w tab) ws (bad x p to) (fault_in x p.line)
  unfolding run
  halt_begun x to us vs b end ps = ahead_err ts (started tab w p ws (λ vs. Err (fault_in x p.line))) (fault_in x p.line) (b (λ vs. Err (fault_in x p.line)))

-- ---- a piece inside a line

module _ (ts : List Token) (depth : ℕ) (has_tokens : Bool) (ws : List ℕ) (p : Place) (q : ℕ) where
  pub take_inside : (us : List Token) (k : TokenKind) → us ≡ ts ++ token_if has_tokens (token_at k (good (Spelled k) p q)) → Takes ts (Inside depth has_tokens) ws (good (Spelled k) p q) us (Inside (bracket depth k) has_tokens) ws
  unfolding run
  take_inside us k e end ps =
      ahead_ahead ts (token_if has_tokens (token_at k (good (Spelled k) p q))) (run end ps (Inside (bracket depth k) has_tokens) ws) ∙ ap (λ x. ahead x (run end ps (Inside (bracket depth k) has_tokens) ws)) (sym e)

  pub take_end : (us : List Token) → depth ≡ 0 → us ≡ ts ++ token_if has_tokens (token_at kind.Newline (good Break p q)) → Takes ts (Inside depth has_tokens) ws (good Break p q) us (Indentation 0 false) ws
  unfolding run
  take_end us d e end ps =
      let t : (depth == 0) ≡ true = grind (arith, nat_tests) in
      rw (t, run) (ahead_ahead ts (token_if has_tokens (token_at kind.Newline (good Break p q))) (run end ps (Indentation 0 false) ws) ∙ ap (λ x. ahead x (run end ps (Indentation 0 false) ws)) (sym e))

  pub take_joined : (depth ≡ 0 → ⊥) → Takes ts (Inside depth has_tokens) ws (good Break p q) ts (Inside depth has_tokens) ws
  unfolding run
  take_joined d end ps =
      let t : (depth == 0) ≡ false = grind (arith, nat_tests) in
      rw (t, run) refl

  pub take_spacing : (s : Shape) (m : Mode) → ((k : TokenKind) → s ≡ Spelled k → ⊥) → (s ≡ Break → ⊥) → m ≡ Inside depth has_tokens → Takes ts (Inside depth has_tokens) ws (good s p q) ts m ws
  unfolding run
  take_spacing Space m h k e end ps = ap (λ n. ahead ts (run end ps n ws)) (sym e)
  take_spacing Tab m h k e end ps = ap (λ n. ahead ts (run end ps n ws)) (sym e)
  take_spacing Comment m h k e end ps = ap (λ n. ahead ts (run end ps n ws)) (sym e)
  take_spacing Break m h k e end ps = absurd (k refl)
  take_spacing (Spelled t) m h k e end ps = absurd (h t refl)

  pub halt_inside : (x : Wrong) (to : ℕ) → Halts (Inside depth has_tokens) ws (bad x p to) (fault_in x p.line)
  unfolding run
  halt_inside x to end ps = refl

  pub take_inside_as : (us : List Token) (k : TokenKind) (vs : List ℕ) (m : Mode) → us ≡ ts ++ token_if has_tokens (token_at k (good (Spelled k) p q)) → vs ≡ ws → m ≡ Inside (bracket depth k) has_tokens → Takes ts (Inside depth has_tokens) ws (good (Spelled k) p q) us m vs
  take_inside_as us k vs m e f g end ps = take_inside us k e end ps ∙ (λ i. ahead us (run end ps (sym g i) (sym f i)))

  pub take_end_as : (us : List Token) (vs : List ℕ) (m : Mode) → depth ≡ 0 → us ≡ ts ++ token_if has_tokens (token_at kind.Newline (good Break p q)) → vs ≡ ws → m ≡ Indentation 0 false → Takes ts (Inside depth has_tokens) ws (good Break p q) us m vs
  take_end_as us vs m d e f g end ps = take_end us d e end ps ∙ (λ i. ahead us (run end ps (sym g i) (sym f i)))

  pub take_joined_as : (m : Mode) → m ≡ Inside depth has_tokens → (depth ≡ 0 → ⊥) → Takes ts (Inside depth has_tokens) ws (good Break p q) ts m ws
  take_joined_as m e d end ps = take_joined d end ps ∙ ap (λ n. ahead ts (run end ps n ws)) (sym e)

-- ---- the end

pub closing_pop : (end : Place) (ts us : List Token) (ws vs : List ℕ) → ws ≡ top ws ∷ vs → us ≡ ts ++ empty_at kind.Dedent end ∷ [] → ahead ts (Ok (closing end ws)) ≡ ahead us (Ok (closing end vs))
closing_pop end ts us ws vs e f =
    ap (λ x. ahead ts (Ok (closing end x))) e ∙ ahead_ahead ts (empty_at kind.Dedent end ∷ []) (Ok (closing end vs)) ∙ ap (λ x. ahead x (Ok (closing end vs))) (sym f)

-- ---- sizes

pub size_split : (n : ℕ) (z : Text) → size (take n z) + size (drop n z) ≡ size z
size_split n z =
    sym (length-append (encode_utf8_all (take n z)) (encode_utf8_all (drop n z))) ∙ ap length (sym (encodes-append (take n z) (drop n z))) ∙ ap size (take-append-drop n z)

pub length_size : (z : Text) → length z ≤ size z
length_size z = length-le-encodes z

pub ends_length : (z : Text) → ends z ≤ length z
ends_length [] = omega arith
ends_length (c ∷ z) =
    let r = ends_length z in
    elim (cases_Bool (is_end c z)) [ inl t ↦ rw t (omega arith) | inr f ↦ rw f (omega arith) ]

-- ---- the text that is left

pub reads_start : (p : Place) (text : Text) (answer : Answer) → ReadsFrom p text [] (Indentation 0 false) [] answer → CutReads p text answer
reads_start p text answer s = (s.0, s.1, sym (run_reads p s.0) ∙ sym (ahead_nil (run (end_of p s.0) (placed p s.0) (Indentation 0 false) [])) ∙ s.2)

pub reads_new : (p : Place) (text : Text) (ts : List Token) (m : Mode) (ws : List ℕ) → ts ≡ [] → m ≡ Indentation 0 false → ws ≡ [] → (answer : Answer) → ReadsFrom p text ts m (reverse ws) answer → CutReads p text answer
reads_new p text ts m ws e f g answer s =
    reads_start p text answer (subst (λ x. ReadsFrom p text x (Indentation 0 false) [] answer) e (subst (λ n. ReadsFrom p text ts n [] answer) f (subst (λ v. ReadsFrom p text ts m (reverse v) answer) g s)))

pub run_end : (end : Place) (m : Mode) (ws : List ℕ) (ts us vs : List Token) → us ≡ ts ++ unfinished m end → ahead us (Ok (closing end ws)) ≡ Ok vs → ahead ts (run end [] m ws) ≡ Ok vs
unfolding run
run_end end m ws ts us vs e h =
    ahead_ahead ts (unfinished m end) (Ok (closing end ws)) ∙ ap (λ x. ahead x (Ok (closing end ws))) (sym e) ∙ h

pub reads_end : (p : Place) (text : Text) (ts : List Token) (m : Mode) (ws : List ℕ) (answer : Answer) → text ≡ [] → ahead ts (run p [] m ws) ≡ answer → ReadsFrom p text ts m ws answer
reads_end p text ts m ws answer e h = ([], e, h)

abbrev Answered : Place → Piece → List Piece → List Token → Mode → List ℕ → Answer
Answered end x ps ts m ws = ahead ts (run end (x ∷ ps) m ws)

-- the longest piece at the front, and a cut of what is behind it, are a cut
cut_more : (text : Text) (n : ℕ) (pieces : List Text) → IsLongest text n → IsCut (drop n text) pieces → IsCut text (take n text ∷ pieces)
cut_more text n pieces l c =
    let e : length (take n text) ≡ n = length-take-le n text l.within in
    subst (λ k. (take n text ≡ take k text) × IsLongest text k × IsCut (drop k text) pieces) (sym e) (refl, l, c)

reads_piece : (p : Place) (text : Text) (n : ℕ) (x : Piece) (pieces : List Text) (ts : List Token) (m : Mode) (ws : List ℕ) (answer : Answer) → IsLongest text n → IsCut (drop n text) pieces → x ≡ record { means = meaning (take n text); from = p.at; to = p.at + size (take n text); line = p.line } → Answered (end_of (after p (take n text)) pieces) x (placed (after p (take n text)) pieces) ts m ws ≡ answer → ReadsFrom p text ts m ws answer
reads_piece p text n x pieces ts m ws answer l c e h =
    (take n text ∷ pieces, cut_more text n pieces l c, ap (λ y. Answered (end_of (after p (take n text)) pieces) y (placed (after p (take n text)) pieces) ts m ws) (sym e) ∙ h)

good_is : (p q : Place) (z : Text) (s : Shape) → meaning z ≡ Ok s → q ≡ after p z → good s p q.at ≡ record { means = meaning z; from = p.at; to = p.at + size z; line = p.line }
good_is p q z s m e = λ i. record { means = sym m i; from = p.at; to = (e i).at; line = p.line }

bad_is : (p : Place) (z : Text) (x : Wrong) → meaning z ≡ Err x → bad x p (p.at + size z) ≡ record { means = meaning z; from = p.at; to = p.at + size z; line = p.line }
bad_is p z x m = λ i. record { means = sym m i; from = p.at; to = p.at + size z; line = p.line }

pub reads_more : (p q : Place) (text rest : Text) (n : ℕ) (s : Shape) (ts us : List Token) (m k : Mode) (ws vs : List ℕ) → IsGood text s n → q ≡ after p (take n text) → rest ≡ drop n text → Takes ts m ws (good s p q.at) us k vs → (answer : Answer) → ReadsFrom q rest us k vs answer → ReadsFrom p text ts m ws answer
reads_more p q text rest n s ts us m k ws vs g e d t answer a =
    let b : ReadsFrom (after p (take n text)) (drop n text) us k vs answer = subst (λ y. ReadsFrom (after p (take n text)) y us k vs answer) d (subst (λ r. ReadsFrom r rest us k vs answer) e a) in
    reads_piece p text n (good s p q.at) b.0 ts m ws answer g.longest b.1 (good_is p q (take n text) s g.means e)
    (t (end_of (after p (take n text)) b.0) (placed (after p (take n text)) b.0) ∙ b.2)

pub reads_flaw : (p : Place) (text : Text) (x : Wrong) (ts : List Token) (m : Mode) (ws : List ℕ) (f : LexFault) → IsFlawed text x → ((to : ℕ) → Halts m ws (bad x p to) f) → ReadsFrom p text ts m ws (Err f)
reads_flaw p text x ts m ws f b h =
    let z = take b.0 text in
    let c = cut_exists (drop b.0 text) in
    reads_piece p text b.0 (bad x p (p.at + size z)) c.0 ts m ws (Err f) b.1 c.1 (bad_is p z x b.2)
    (ap (ahead ts) (h (p.at + size z) (end_of (after p z) c.0) (placed (after p z) c.0)))

pub reads_halt : (p q : Place) (text : Text) (n : ℕ) (s : Shape) (ts : List Token) (m : Mode) (ws : List ℕ) (f : LexFault) → IsGood text s n → q ≡ after p (take n text) → Halts m ws (good s p q.at) f → ReadsFrom p text ts m ws (Err f)
reads_halt p q text n s ts m ws f g e h =
    let c = cut_exists (drop n text) in
    reads_piece p text n (good s p q.at) c.0 ts m ws (Err f) g.longest c.1 (good_is p q (take n text) s g.means e)
    (ap (ahead ts) (h (end_of (after p (take n text)) c.0) (placed (after p (take n text)) c.0)))

encodes_one : (c : ℕ) (z : Text) → size (c ∷ z) ≡ size (c ∷ []) + size z
encodes_one c z = ap length (encodes-append (c ∷ []) z) ∙ length-append (encode_utf8_all (c ∷ [])) (encode_utf8_all z)

pub bom_bytes : size (0xFEFF ∷ []) ≡ 3
unfolding lib.Utf8.encode
bom_bytes = refl

pub bom_size : (text : Text) → has_bom text ≡ true → 3 + size (drop 1 text) ≡ size text
bom_size [] h = cc
bom_size (c ∷ z) h =
    let e : 0xFEFF ≡ c = eqb-true 0xFEFF c (and_left (0xFEFF == c) true h) in
    subst (λ x. 3 + size z ≡ size (x ∷ z)) e (ap (λ n. n + size z) (sym bom_bytes) ∙ sym (encodes_one 0xFEFF z))

-- ---- an answer of a call that is handed on

pub on_ok_both : {T E A B C : Type 0} (r : Result T E) → (A → B → C) → OnOk r A → OnOk r B → OnOk r C
on_ok_both (Ok x) h a b = h a b
on_ok_both (Err e) h a b = tt

pub on_ok : {T E A B : Type 0} (r : Result T E) → (A → B) → OnOk r A → OnOk r B
on_ok (Ok x) h a = h a
on_ok (Err e) h a = tt

pub if_ok : {T E : Type 0} (r : Result T E) (P Q : T → Type 0) → ((x : T) → P x → Q x) → IfOk r P → IfOk r Q
if_ok (Ok x) P Q h p = h x p
if_ok (Err e) P Q h p = tt

pub if_err : {T E : Type 0} (r : Result T E) (P Q : E → Type 0) → ((x : E) → P x → Q x) → IfErr r P → IfErr r Q
if_err (Ok x) P Q h p = tt
if_err (Err e) P Q h p = h e p

-- ---- the same mode and fault

pub halts_as : (m n : Mode) (ws : List ℕ) (x : Piece) (f g : LexFault) → m ≡ n → f ≡ g → Halts n ws x g → Halts m ws x f
halts_as m n ws x f g e h k end ps = ap (λ y. run end (x ∷ ps) y ws) e ∙ k end ps ∙ ap (λ y. Err y) (sym h)

pub reads_stop : (p : Place) (text : Text) (x : Stop) (ts : List Token) (m : Mode) (ws : List ℕ) (f : LexFault) → IfFlaw x (IsFlawed text) → IsFlaw x (λ y. (to : ℕ) → Halts m ws (bad y p to) f) → ReadsFrom p text ts m ws (Err f)
reads_stop p text (Flaw y) ts m ws f b h = reads_flaw p text y ts m ws f b h
reads_stop p text NoMemory ts m ws f b h = absurd h

pub chars_size : (bytes : List ℕ) → IsUtf8 bytes → size (chars bytes) ≡ length bytes
chars_size bytes u = ap length (encodes-chars bytes u)
