use Rattle.std.proofs.Common.{◌∙◌, ap, reverse, refl, arith, Err}
use Rattle.pyd_lex.specs.Lines.{after, size}
use Rattle.pyd_lex.specs.Machine.{count}
use Rattle.pyd_lex.proofs.Steps.{reads_new, reads_more, reads_stop, reads_halt, map_fault, size_split, length_size, ends_length}
use Rattle.pyd_lex.proofs.scan.scanned.Goals as goal

pub loop-rest-init : goal.loop-rest-init
loop-rest-init c = record {
  at = refl;
  line = c.requires.line;
  within = let m = ap count c.new-scanner.ensures.mode in omega arith;
  reads = reads_new c.args.start c.args.text.now c.new-scanner.result.tokens.items c.new-scanner.result.mode c.new-scanner.result.widths.items c.new-scanner.ensures.tokens c.new-scanner.ensures.mode c.new-scanner.ensures.widths;
}

pub returns-in-Err-clause-fault : goal.returns-in-Err-clause-fault
returns-in-Err-clause-fault c =
    map_fault c.stopped.result _ _
    (λ f h. c.loop-rest.invariant.reads (Err f) (reads_stop c.loop-rest.place c.loop-rest.rest.now c.in-Err.stop c.loop-rest.scanner.tokens.items c.loop-rest.scanner.mode (reverse c.loop-rest.scanner.widths.items) f c.in-Err.ensures.flaw h))
    c.stopped.ensures

pub after-next-requires-clause-at : goal.after-next-requires-clause-at
after-next-requires-clause-at c =
    let s = size_split c.in-Ok.piece.1 c.loop-rest.rest.now in
    let f = ap size c.split_at.ensures.front in
    let i = c.loop-rest.invariant.at in
    let r = c.requires.at in
    omega arith

pub after-next-requires-clause-line : goal.after-next-requires-clause-line
after-next-requires-clause-line c =
    let s = size_split c.in-Ok.piece.1 c.loop-rest.rest.now in
    let f = ap size c.split_at.ensures.front in
    let e = ends_length c.split_at.result.0.now in
    let l = length_size c.split_at.result.0.now in
    let i = c.loop-rest.invariant.at in
    let k = c.loop-rest.invariant.line in
    let r = c.requires.at in
    omega arith

pub step-requires-clause-room : goal.step-requires-clause-room
step-requires-clause-room c =
    let a = ap (λ p. p.at) c.after-next.ensures in
    let l = length_size c.split_at.result.0.now in
    let n = c.split_at.ensures.front_len in
    let m = c.in-Ok.ensures.ok.moves in
    omega arith

pub returns-in-Err-step-clause-fault : goal.returns-in-Err-step-clause-fault
returns-in-Err-step-clause-fault c =
    map_fault c.in-Err-step.stop _ _
    (λ f h. c.loop-rest.invariant.reads (Err f) (reads_halt c.loop-rest.place c.after-next.result c.loop-rest.rest.now c.in-Ok.piece.1 c.in-Ok.piece.0 c.loop-rest.scanner.tokens.items c.loop-rest.scanner.mode (reverse c.loop-rest.scanner.widths.items) f c.in-Ok.ensures.ok (c.after-next.ensures ∙ ap (after c.loop-rest.place) c.split_at.ensures.front) h))
    c.in-Err-step.ensures.fault

pub loop-rest-preserved : goal.loop-rest-preserved
loop-rest-preserved c =
    let s = size_split c.in-Ok.piece.1 c.loop-rest.rest.now in
    let f = ap size c.split_at.ensures.front in
    let b = ap size c.split_at.ensures.back in
    let i = c.loop-rest.invariant.at in
    let a = ap (λ p. p.at) c.after-next.ensures in
    let n = ap (λ p. p.line) c.after-next.ensures in
    let e = ends_length c.split_at.result.0.now in
    let l = length_size c.split_at.result.0.now in
    let k = c.loop-rest.invariant.line in
    record {
      at = omega arith;
      line = omega arith;
      within = c.in-Ok-step.ensures.within;
      reads = λ answer h. c.loop-rest.invariant.reads answer (reads_more c.loop-rest.place c.after-next.result c.loop-rest.rest.now c.split_at.result.1.now c.in-Ok.piece.1 c.in-Ok.piece.0 c.loop-rest.scanner.tokens.items c.step.new.self.tokens.items c.loop-rest.scanner.mode c.step.new.self.mode (reverse c.loop-rest.scanner.widths.items) (reverse c.step.new.self.widths.items) c.in-Ok.ensures.ok (c.after-next.ensures ∙ ap (after c.loop-rest.place) c.split_at.ensures.front) c.split_at.ensures.back c.in-Ok-step.ensures.ok answer h);
    }
