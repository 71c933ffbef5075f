use Rattle.std.proofs.Common.{◌≡◌, drop, length, vec_len, ap, sym, ◌∙◌, arith}
use Rattle.pyd_runs.specs.Losses.{due_at}
use Rattle.pyd_core.specs.Cores.{plan_of, state_of}
use Rattle.pyd_core.proofs.keeper.Core.due_machine.Goals as goal

pub returns : goal.returns
returns c =
    let d = c.args.self.now in
    let journal = c.journal_law.ensures (plan_of d) d.log.journal.items in
    let all : vec_len d.log.journal ≡ length d.log.journal.items = omega (arith, d.log.journal.ok.0) in
    let count : c.len.result ≡ length (state_of d).journal
    = c.len.ensures ∙ all ∙ ap length (sym journal) in
    c.due_at.ensures ∙ ap (λ xs. due_at c.len.result (drop d.lost xs)) c.as_slice.ensures
    ∙ ap (due_at c.len.result) (sym c.requires.tied.losses)
    ∙ ap (λ n. due_at n (state_of d).losses) count
