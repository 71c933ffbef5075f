-- One answer, and one for all bytes.
use Rattle.std.proofs.Common.{◌≡◌, Err, refl, sym, ap, ◌∙◌, inl, inr}
use Rattle.std.specs.Str.{chars, is_utf8}
use Rattle.std.specs.Str.Lossy.{utf8_valid_len}
use Rattle.std.proofs.lemmas.Str.{IsUtf8-from_is_utf8, is_utf8-from_IsUtf8}
use Rattle.std.proofs.lemmas.Bool.{cases_Bool}
use Rattle.pyd_lex.specs.declared.place.Place.{Place}
use Rattle.pyd_lex.specs.declared.fault.LexFault.TheVariants.{Utf8}
use Rattle.pyd_lex.specs.Words.{Text}
use Rattle.pyd_lex.specs.Lines.{Answer, read}
use Rattle.pyd_lex.specs.Reads.{CutReads, start, without_bom}
use Rattle.pyd_lex.specs.Laws.{OneAnswer, AnAnswer}
use Rattle.pyd_lex.proofs.Spelling.{cut_exists, cut_unique}

reads_one : (p : Place) (text : Text) (a b : Answer) → CutReads p text a → CutReads p text b → a ≡ b
reads_one p text a b s t = sym s.2 ∙ ap (read p) (cut_unique text s.0 t.0 s.1 t.1) ∙ t.2

pub one_answer : OneAnswer
one_answer bytes a b (inl x) (inl y) = x.1 ∙ sym y.1
one_answer bytes a b (inl x) (inr y) = absurd (x.0 y.0)
one_answer bytes a b (inr x) (inl y) = absurd (y.0 x.0)
one_answer bytes a b (inr x) (inr y) = reads_one (start (chars bytes)) (without_bom (chars bytes)) a b x.1 y.1

pub an_answer : AnAnswer
an_answer bytes =
    elim (cases_Bool (is_utf8 bytes)) [
      | inl t ↦
          let text = without_bom (chars bytes) in
          let cut = cut_exists text in
          (read (start (chars bytes)) cut.0, inr (IsUtf8-from_is_utf8 bytes t, (cut.0, cut.1, refl)))
      | inr f ↦ (Err (Utf8 (utf8_valid_len bytes)), inl (λ u. absurd (let t = is_utf8-from_IsUtf8 bytes u in cc), refl))
    ]
