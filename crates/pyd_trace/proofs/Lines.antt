-- Lines of events in front of a text are determined.
use Rattle.std.proofs.Common.{◌≡◌, ◌≢◌, ℕ, ◌+◌, ◌<◌, List, [], ◌∷◌, ◌++◌, length, refl, ap, sym, ◌∙◌, arith, append_assoc, append-nil, take, drop, true, false, eqb, Some}
use Rattle.std.proofs.Math.Seq.{take-append_seam}
use Rattle.std.proofs.lemmas.List.{append_cancel_left, flat_map_more, take-append-drop, length-append}
use Rattle.std.proofs.lemmas.List.Elements.{All-head, All-tail, All-push}
use Rattle.std.proofs.lemmas.Slice.Eq.{slice_eq-Decides}
use Rattle.std.proofs.lemmas.Bool.Decides.{Decides-eqb}
use Rattle.std.specs.Cmp.Lexicographic.{pointwise}
use Rattle.std.specs.Fmt.{decimal}
use Rattle.std.specs.List.{All, flat_map}
use Rattle.pyd_board.specs.declared.event.Act.{Act}
use Rattle.pyd_board.specs.declared.event.Event.{Event}
use Rattle.pyd_trace.specs.Text.{header, act_name, act_fields, fields_text, act_text, field_text, line_text, trace_text}
use Rattle.pyd_trace.specs.Reading.{IsEvent, OtherLine}
use Rattle.pyd_trace.specs.Guessing.{AreLinesSoFar, CutsLine}
use Rattle.pyd_trace.specs.Laws.{OneTrace, OneFirst, OneAnswer}
use Rattle.pyd_trace.proofs.Digits.{same_number, no_digit_space}
use Rattle.pyd_trace.proofs.Acts.{same_act}

-- an act's text that a newline ends, piece by piece
pub act-pieces : (act : Act) (rest : List ℕ) → (act_text act ++ 10 ∷ []) ++ rest ≡ act_name act ++ (fields_text (act_fields act) ++ 10 ∷ rest)
act-pieces act rest = append_assoc (act_text act) (10 ∷ []) rest ∙ append_assoc (act_name act) (fields_text (act_fields act)) (10 ∷ rest)

-- what stands behind the number of a line's event
abbrev pub behind_nth : Act → List ℕ → List ℕ
behind_nth act rest = 32 ∷ ((act_text act ++ 10 ∷ []) ++ rest)

-- a line in front of a rest, piece by piece
pub line-pieces : (event : Event) (rest : List ℕ) → line_text event ++ rest ≡ decimal event.by ++ (32 ∷ (decimal event.nth ++ behind_nth event.act rest))
line-pieces event rest =
    append_assoc (decimal event.by) (field_text event.nth ++ (32 ∷ (act_text event.act ++ 10 ∷ []))) rest
    ∙ ap (λ bs. decimal event.by ++ bs) (append_assoc (field_text event.nth) (32 ∷ (act_text event.act ++ 10 ∷ [])) rest)

tail_is : (x y : List ℕ) → 32 ∷ x ≡ 32 ∷ y → x ≡ y
tail_is x y e = cc

event_is : (e f : Event) → e.by ≡ f.by → e.nth ≡ f.nth → e.act ≡ f.act → e ≡ f
event_is e f p q r i = record { by = p i; nth = q i; act = r i }

-- two lines in front of one text are one
pub same_line : (e f : Event) (r s : List ℕ) → IsEvent e → IsEvent f → line_text e ++ r ≡ line_text f ++ s → (e ≡ f) × (r ≡ s)
same_line e f r s p q same =
    let seats = same_number e.by f.by _ _ (omega (arith, p.by)) (omega (arith, q.by)) (no_digit_space (decimal e.nth ++ behind_nth e.act r))
    (no_digit_space (decimal f.nth ++ behind_nth f.act s)) (sym (line-pieces e r) ∙ same ∙ line-pieces f s) in
    let spaces : 32 ∷ (decimal e.nth ++ behind_nth e.act r) ≡ 32 ∷ (decimal f.nth ++ behind_nth f.act s) = seats.1 in
    let counts = same_number e.nth f.nth (behind_nth e.act r) (behind_nth f.act s) p.nth q.nth (no_digit_space ((act_text e.act ++ 10 ∷ []) ++ r))
    (no_digit_space ((act_text f.act ++ 10 ∷ []) ++ s)) (tail_is _ _ spaces) in
    let acts = same_act e.act f.act r s p.act q.act (sym (act-pieces e.act r) ∙ tail_is _ _ counts.1 ∙ act-pieces f.act s) in
    (event_is e f seats.0 counts.0 acts.0, acts.1)

-- a line isn't empty
some_bytes : (xs ys : List ℕ) (y : ℕ) → xs ++ (y ∷ ys) ≢ []
some_bytes [] ys y e = absurd (omega (arith, ap length e))
some_bytes (x ∷ xs) ys y e = absurd (omega (arith, ap length e))

pub no_empty_line : OtherLine []
no_empty_line event more is e = some_bytes (decimal event.by) (decimal event.nth ++ behind_nth event.act more) 32 (sym (e ∙ line-pieces event more))

pub lines-next : (e : Event) (es : List Event) (r : List ℕ) → flat_map line_text (e ∷ es) ++ r ≡ line_text e ++ (flat_map line_text es ++ r)
lines-next e es r = append_assoc (line_text e) (flat_map line_text es) r

-- lines in front of a rest that begins with none are determined
pub same_lines : (es fs : List Event) (r s : List ℕ) → All IsEvent es → All IsEvent fs → OtherLine r → OtherLine s → flat_map line_text es ++ r ≡ flat_map line_text fs ++ s
    → (es ≡ fs) × (r ≡ s)
same_lines [] [] r s p q nr ns e = (refl, e)
same_lines [] (f ∷ fs) r s p q nr ns e = absurd (nr f (flat_map line_text fs ++ s) (All-head IsEvent f fs q) (e ∙ lines-next f fs s))
same_lines (x ∷ es) [] r s p q nr ns e = absurd (ns x (flat_map line_text es ++ r) (All-head IsEvent x es p) (sym e ∙ lines-next x es r))
same_lines (x ∷ es) (f ∷ fs) r s p q nr ns e =
    let first = same_line x f (flat_map line_text es ++ r) (flat_map line_text fs ++ s) (All-head IsEvent x es p) (All-head IsEvent f fs q) (sym (lines-next x es r) ∙ e ∙ lines-next f fs s) in
    let rest = same_lines es fs r s (All-tail IsEvent x es p) (All-tail IsEvent f fs q) nr ns first.1 in
    (ap (λ y. y ∷ es) first.0 ∙ ap (λ ys. f ∷ ys) rest.0, rest.1)

-- the same of traces
same_traces : (es fs : List Event) (r s : List ℕ) → All IsEvent es → All IsEvent fs → OtherLine r → OtherLine s → trace_text es ++ r ≡ trace_text fs ++ s → (es ≡ fs) × (r ≡ s)
same_traces es fs r s p q nr ns e =
    same_lines es fs r s p q nr ns (append_cancel_left header _ _ (sym (append_assoc header (flat_map line_text es) r) ∙ e ∙ append_assoc header (flat_map line_text fs) s))

pub one_trace : OneTrace
one_trace bytes events others p q =
    (same_traces events others [] [] p.events_are q.events_are no_empty_line no_empty_line (append-nil (trace_text events) ∙ sym p.text ∙ q.text ∙ sym (append-nil (trace_text others)))).0

pub one_first : OneFirst
one_first bytes number other p q =
    let same = same_traces p.before q.before p.behind q.behind p.events_are q.events_are p.other q.other (sym p.text ∙ q.text) in
    p.number_is ∙ ap (λ es. length es + 2) same.0 ∙ sym q.number_is

pub one_answer : OneAnswer
one_answer = record {
  version = λ bytes events trace other. other (flat_map line_text events) trace.text;
  line = λ bytes events number trace fault.
      fault.some (sym (same_traces events fault.before [] fault.behind trace.events_are fault.events_are no_empty_line fault.other (append-nil (trace_text events) ∙ sym trace.text ∙ fault.text)).1);
  fault = λ bytes number other fault. other (flat_map line_text fault.before ++ fault.behind) (fault.text ∙ append_assoc header (flat_map line_text fault.before) fault.behind);
}

-- one line more
pub lines_more : (lines rest more : List ℕ) (events : List Event) (event : Event) → AreLinesSoFar lines events rest → CutsLine rest event more → AreLinesSoFar lines (events ++ event ∷ []) more
lines_more lines rest more events event so_far cut =
    record {
      events_are = All-push IsEvent events event so_far.events_are cut.event_is;
      text =
          so_far.text ∙ ap (λ bs. flat_map line_text events ++ bs) cut.whole ∙ sym (append_assoc (flat_map line_text events) (line_text event) more)
          ∙ ap (λ bs. bs ++ more) (flat_map_more line_text [] events event);
    }

-- a line takes bytes away
longer : (xs ys more : List ℕ) (y : ℕ) → length more < length (xs ++ (y ∷ (ys ++ more)))
longer xs ys more y = omega (arith, length-append xs (y ∷ (ys ++ more)), length-append ys more)

abbrev line_end : Event → List ℕ
line_end event = decimal event.nth ++ (32 ∷ (act_text event.act ++ 10 ∷ []))

pub line_shortens : (rest more : List ℕ) (event : Event) → CutsLine rest event more → length more < length rest
line_shortens rest more event cut =
    let whole : rest ≡ decimal event.by ++ (32 ∷ (line_end event ++ more)) = cut.whole ∙ line-pieces event more ∙ ap (λ bs. decimal event.by ++ (32 ∷ bs)) (sym (append_assoc (decimal event.nth) (32 ∷ (act_text event.act ++ 10 ∷ [])) more)) in
    omega (arith, longer (decimal event.by) (line_end event) more 32, ap length whole)

-- a prefix that was found in front
pub begins : (n : ℕ) (bytes prefix more : List ℕ) → pointwise eqb (take n bytes) prefix ≡ true → more ≡ drop n bytes → bytes ≡ prefix ++ more
begins n bytes prefix more found behind =
    sym (take-append-drop n bytes) ∙ ap (λ bs. bs ++ drop n bytes) ((slice_eq-Decides Decides-eqb (take n bytes) prefix _ refl).0 found) ∙ ap (λ bs. prefix ++ bs) (sym behind)

-- where the line of an event was found in front
pub cuts_line : (n : ℕ) (bytes prefix more : List ℕ) (event : Event) → IsEvent event → prefix ≡ line_text event → pointwise eqb (take n bytes) prefix ≡ true → more ≡ drop n bytes → CutsLine bytes event more
cuts_line n bytes prefix more event is line found behind = record { event_is = is; whole = begins n bytes prefix more found behind ∙ ap (λ bs. bs ++ more) line }

-- where it wasn't found, it doesn't stand there
pub no_front : (bytes prefix more : List ℕ) → pointwise eqb (take (length prefix) bytes) prefix ≡ false → bytes ≢ prefix ++ more
no_front bytes prefix more other whole =
    let front : take (length prefix) bytes ≡ prefix = ap (take (length prefix)) whole ∙ take-append_seam prefix more in
    let both : true ≡ false = sym ((slice_eq-Decides Decides-eqb (take (length prefix) bytes) prefix _ refl).1 front) ∙ other in cc

-- where the guess's line wasn't found, no event's stands there
pub no_line : (bytes prefix : List ℕ) (guess : Event) → prefix ≡ line_text guess → pointwise eqb (take (length prefix) bytes) prefix ≡ false
    → ((event : Event) (more : List ℕ) → IsEvent event → bytes ≡ line_text event ++ more → Some guess ≡ Some event) → OtherLine bytes
no_line bytes prefix guess line other only event more is whole =
    let same : guess ≡ event = cc (only event more is whole) in
    no_front bytes prefix more other (whole ∙ ap (λ e. line_text e ++ more) (sym same) ∙ ap (λ bs. bs ++ more) (sym line))
