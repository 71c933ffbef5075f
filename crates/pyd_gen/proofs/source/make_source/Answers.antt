use Rattle.std.proofs.Common.{◌≡◌, ℕ, ◌∙◌, ◌++◌, ap, arith, append_assoc, codes}
use Rattle.std.specs.List.{flat_map, range_with_len}
use Rattle.std.specs.String.{string_bytes}
use Rattle.pyd_gen.specs.Source.{heading, addend, part_lines, total_lines, source}
use Rattle.pyd_gen.proofs.Parts.{pieces-behind}
use Rattle.pyd_gen.proofs.source.make_source.Goals as goal

pub loop-part-init : goal.loop-part-init
unfolding heading
loop-part-init c = c.in_ok-text.ensures.ok

pub loop-part-preserved : goal.loop-part-preserved
loop-part-preserved c =
    c.in_ok-push_str.ensures.bytes
    ∙ ap (λ end. string_bytes c.loop-part.text ++ end) (c.deref.ensures ∙ c.in_ok-part_text.ensures ∙ ap (part_lines c.loop-part.part) c.addend.ensures)
    ∙ ap (λ start. start ++ part_lines c.loop-part.part (addend c.args.number c.loop-part.part)) c.loop-part.invariant
    ∙ pieces-behind heading (λ k. part_lines k (addend c.args.number k)) c.loop-part.part

pub loop-part-2-preserved : goal.loop-part-2-preserved
loop-part-2-preserved c =
    c.in_ok-add_total.ensures
    ∙ ap (λ start. start ++ total_lines c.loop-part-2.part) c.loop-part-2.invariant
    ∙ pieces-behind (string_bytes c.push_str-2.new.self) total_lines c.loop-part-2.part

pub returns : goal.returns
unfolding source
returns c =
    let all : c.loop-part-2.part ≡ 40 = omega (arith, c.loop-part-2-test.false, c.loop-part-2.auto) in
    let made : c.loop-part.part ≡ 40 = omega (arith, c.loop-part-test.false, c.loop-part.auto) in
    let pieces = λ (k : ℕ). part_lines k (addend c.args.number k) in
    rw c.into_bytes.ensures.value
    (c.loop-part-2.invariant
    ∙ ap (λ n. string_bytes c.push_str-2.new.self ++ flat_map total_lines (range_with_len 0 n)) all
    ∙ ap (λ start. start ++ flat_map total_lines (range_with_len 0 40)) (c.in_ok-push_str-2.ensures.bytes ∙ ap (λ start. start ++ codes "total = 0\n") (c.loop-part.invariant ∙ ap (λ n. heading ++ flat_map pieces (range_with_len 0 n)) made))
    ∙ append_assoc (heading ++ flat_map pieces (range_with_len 0 40)) (codes "total = 0\n") (flat_map total_lines (range_with_len 0 40))
    ∙ append_assoc heading (flat_map pieces (range_with_len 0 40)) (codes "total = 0\n" ++ flat_map total_lines (range_with_len 0 40)))
