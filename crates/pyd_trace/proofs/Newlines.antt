-- The newlines of a trace are those that end its lines.
use Rattle.std.proofs.Common.{◌≡◌, ℕ, ◌+◌, ◌<◌, ◌^◌, List, [], ◌∷◌, ◌++◌, length, refl, ap, sym, ◌∙◌, arith, append_assoc, false, cond}
use Rattle.std.specs.Prelude.{◌==◌}
use Rattle.std.specs.Fmt.{decimal}
use Rattle.std.specs.List.{All, flat_map}
use Rattle.std.specs.Char.{IsAsciiDigit}
use Rattle.std.specs.Str.Parse.{AllDigits}
use Rattle.std.proofs.lemmas.Fmt.{decimal_is_IsNumeral}
use Rattle.std.proofs.lemmas.Str.Parse.{digit_from_value}
use Rattle.std.proofs.lemmas.Bool.Decides.{nat_tests}
use Rattle.std.proofs.lemmas.List.Elements.{All-head, All-tail}
use Rattle.std.proofs.lemmas.List.Sums.{sum_by-append}
use Rattle.pyd_board.specs.declared.event.Act.{Act}
use Rattle.pyd_board.specs.declared.event.Act.TheVariants.{Place, Claim, Finish, Drop, Refine, Settle, Lose, Trim}
use Rattle.pyd_board.specs.declared.event.Event.{Event}
use Rattle.pyd_trace.specs.Text.{header, act_name, act_fields, fields_text, field_text, act_text, line_text}
use Rattle.pyd_trace.specs.Reading.{IsEvent}
use Rattle.pyd_trace.specs.Laws.{newlines, OneNewline}
use Rattle.pyd_trace.proofs.Digits.{Wide}
use Rattle.pyd_trace.proofs.Acts.{wide_fields}

newlines-append : (xs ys : List ℕ) → newlines (xs ++ ys) ≡ newlines xs + newlines ys
newlines-append xs ys = sum_by-append (λ byte. cond (byte == 10) 1 0) xs ys

no_newline : (c : ℕ) → IsAsciiDigit c → (c == 10) ≡ false
no_newline c digit = grind (arith, nat_tests)

digits_have_none : (ds : List ℕ) → AllDigits 10 ds → newlines ds ≡ 0
digits_have_none [] digits = refl
digits_have_none (d ∷ ds) digits =
    let first : newlines (d ∷ []) ≡ 0 = ap (λ test. 0 + cond {A = ℕ} test 1 0) (no_newline d (digit_from_value d digits.0)) in
    omega (arith, first, newlines-append (d ∷ []) ds, digits_have_none ds digits.1)

field_has_none : (n : ℕ) → n < 2 ^ 64 → newlines (field_text n) ≡ 0
field_has_none n fits = digits_have_none (decimal n) (decimal_is_IsNumeral n fits).0.1

fields_have_none : (ns : List ℕ) → All Wide ns → newlines (fields_text ns) ≡ 0
fields_have_none [] fit = refl
fields_have_none (n ∷ ns) fit =
    omega (arith, newlines-append (field_text n) (fields_text ns), field_has_none n (All-head Wide n ns fit), fields_have_none ns (All-tail Wide n ns fit))

name_has_none : (act : Act) → newlines (act_name act) ≡ 0
name_has_none (Place n a m) = refl
name_has_none (Claim n a m) = refl
name_has_none (Finish n a m) = refl
name_has_none (Drop n a m) = refl
name_has_none (Refine n) = refl
name_has_none (Settle n) = refl
name_has_none (Lose m) = refl
name_has_none (Trim n) = refl

-- a line without its newline
abbrev event_text : Event → List ℕ
event_text event = decimal event.by ++ (field_text event.nth ++ (32 ∷ act_text event.act))

line_is : (event : Event) → line_text event ≡ event_text event ++ 10 ∷ []
line_is event =
    sym (append_assoc (decimal event.by) (field_text event.nth ++ (32 ∷ act_text event.act)) (10 ∷ [])
    ∙ ap (λ bs. decimal event.by ++ bs) (append_assoc (field_text event.nth) (32 ∷ act_text event.act) (10 ∷ [])))

event_has_none : (event : Event) → IsEvent event → newlines (event_text event) ≡ 0
event_has_none event is =
    let space : newlines (32 ∷ []) ≡ 0 = refl in
    omega (
      arith,
      space,
      newlines-append (32 ∷ []) (act_text event.act),
      newlines-append (act_name event.act) (fields_text (act_fields event.act)),
      newlines-append (decimal event.by) (field_text event.nth ++ (32 ∷ act_text event.act)),
      newlines-append (field_text event.nth) (32 ∷ act_text event.act),
      digits_have_none (decimal event.by) (decimal_is_IsNumeral event.by (omega (arith, is.by))).0.1,
      field_has_none event.nth is.nth,
      name_has_none event.act,
      fields_have_none (act_fields event.act) (wide_fields event.act is.act),
    )

line_has_one : (event : Event) → IsEvent event → newlines (line_text event) ≡ 1
line_has_one event is =
    let end : newlines (10 ∷ []) ≡ 1 = refl in
    omega (arith, end, ap newlines (line_is event), newlines-append (event_text event) (10 ∷ []), event_has_none event is)

lines_have : (events : List Event) → All IsEvent events → newlines (flat_map line_text events) ≡ length events
lines_have [] are = refl
lines_have (e ∷ events) are =
    omega (arith, newlines-append (line_text e) (flat_map line_text events), line_has_one e (All-head IsEvent e events are), lines_have events (All-tail IsEvent e events are))

pub one_newline : OneNewline
one_newline = record {
  ends = λ event is. (event_text event, line_is event, event_has_none event is);
  number = λ events are.
      let first : newlines header ≡ 1 = refl in
      omega (arith, first, newlines-append header (flat_map line_text events), lines_have events are);
}
