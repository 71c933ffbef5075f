use Rattle.std.proofs.Common.{◌<◌, length, refl, sym, ap, subst, ◌∙◌}
use Rattle.pyd_scope.specs.Passages.{Passage}
use Rattle.pyd_translate.specs.declared.flow.Flow.TheVariants.{Left, Ended}
use Rattle.pyd_translate.specs.declared.flow.Exit.TheVariants as exit
use Rattle.pyd_translate.specs.Making.{Making}
use Rattle.pyd_translate.specs.Statements.{Done}
use Rattle.pyd_translate.specs.Rests.{passage_unfolds}
use Rattle.pyd_translate.specs.Drafts.{onto}
use Rattle.pyd_translate.specs.Flows.{file_in, passage_of, leaving, sequel_of}
use Rattle.pyd_translate.proofs.PassageFlows.{fewer_behind, passage_exit, behind_stands, none_left}
use Rattle.pyd_translate.proofs.passages.build_passage.Goals as goal

pub loop-stmt-init : goal.loop-stmt-init
loop-stmt-init c = (c.requires, λ leave next. refl)

pub loop-stmt-preserved : goal.loop-stmt-preserved
loop-stmt-preserved c =
    let stands = behind_stands (file_in c.args.at.now) c.args.at.now.routine (passage_of c.loop-stmt.here) (passage_of c.behind-here.result) c.in-Some.stmt.now c.in-Some.ensures c.loop-stmt.invariant.0 c.behind-here.ensures in (
      stands.1,
      λ leave next.
          ap (λ (p : Passage). onto c.build_statement.new.draft.nodes (passage_unfolds (file_in c.args.at.now) c.args.at.now.routine c.args.at.now.depth p c.args.rest.now (leaving (sequel_of c.args.rest.now leave next))
          c.build_statement.new.env.items c.build_statement.new.draft.next)) stands.0
          ∙ sym (passage_exit (file_in c.args.at.now) c.args.at.now.routine c.args.at.now.depth c.args.rest.now _ _ _ _ c.loop-stmt.env.items _
          (passage_of c.loop-stmt.here) c.in-Some.stmt.now _ _ c.in-Some.ensures c.may_leave.ensures c.in_ok-flow.ensures (Left exit.Normal) (c.in-Left.is ∙ ap (λ x. Left x) c.in-Normal.is) (leaving (sequel_of c.args.rest.now leave next)))
          ∙ c.loop-stmt.invariant.1 leave next,
    )

pub returns-in-Break : goal.returns-in-Break
returns-in-Break c =
    λ leave next. sym (c.loop-stmt.invariant.1 leave next)
    ∙ passage_exit (file_in c.args.at.now) c.args.at.now.routine c.args.at.now.depth c.args.rest.now _ _ _ _ c.loop-stmt.env.items _
    (passage_of c.loop-stmt.here) c.in-Some.stmt.now _ _ c.in-Some.ensures c.may_leave.ensures c.in_ok-flow.ensures (Left exit.Break) (c.in-Left.is ∙ ap (λ x. Left x) c.in-Break.is) (leaving (sequel_of c.args.rest.now leave next))

pub returns-in-Continue : goal.returns-in-Continue
returns-in-Continue c =
    λ leave next. sym (c.loop-stmt.invariant.1 leave next)
    ∙ passage_exit (file_in c.args.at.now) c.args.at.now.routine c.args.at.now.depth c.args.rest.now _ _ _ _ c.loop-stmt.env.items _
    (passage_of c.loop-stmt.here) c.in-Some.stmt.now _ _ c.in-Some.ensures c.may_leave.ensures c.in_ok-flow.ensures (Left exit.Continue) (c.in-Left.is ∙ ap (λ x. Left x) c.in-Continue.is) (leaving (sequel_of c.args.rest.now leave next))

pub returns-in-Ended : goal.returns-in-Ended
returns-in-Ended c =
    λ leave next. sym (c.loop-stmt.invariant.1 leave next)
    ∙ passage_exit (file_in c.args.at.now) c.args.at.now.routine c.args.at.now.depth c.args.rest.now _ _ _ _ c.loop-stmt.env.items _
    (passage_of c.loop-stmt.here) c.in-Some.stmt.now _ _ c.in-Some.ensures c.may_leave.ensures c.in_ok-flow.ensures (Ended c.in-Ended.value) c.in-Ended.is (leaving (sequel_of c.args.rest.now leave next))

pub returns : goal.returns
returns c =
    λ leave next. sym (c.loop-stmt.invariant.1 leave next)
    ∙ ap (λ (w : Making Done). onto c.loop-stmt.draft.nodes (w c.loop-stmt.draft.next))
    (none_left (file_in c.args.at.now) c.args.at.now.routine c.args.at.now.depth c.args.rest.now (passage_of c.loop-stmt.here) (leaving (sequel_of c.args.rest.now leave next)) c.loop-stmt.env.items c.in_default.ensures)

pub loop-stmt-smaller : goal.loop-stmt-smaller
loop-stmt-smaller c =
    subst (λ (p : Passage). length p.stmts < length c.loop-stmt.here.stmts)
    (sym (behind_stands (file_in c.args.at.now) c.args.at.now.routine (passage_of c.loop-stmt.here) (passage_of c.behind-here.result) c.in-Some.stmt.now c.in-Some.ensures c.loop-stmt.invariant.0 c.behind-here.ensures).0)
    (fewer_behind (passage_of c.loop-stmt.here) c.in-Some.stmt.now c.in-Some.ensures)
