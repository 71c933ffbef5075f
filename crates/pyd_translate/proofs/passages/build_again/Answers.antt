use Rattle.std.proofs.Common.{sym, ap, ◌∙◌}
use Rattle.pyd_tree.specs.declared.statement.What.{out-What}
use Rattle.pyd_tree.specs.declared.statement.What.TheOpen.{What-F}
use Rattle.pyd_tree.specs.declared.statement.What.TheVariants as what
use Rattle.pyd_tree.specs.declared.statement.What.TheViews.{out-roll-What}
use Rattle.pyd_translate.specs.Making.{Making}
use Rattle.pyd_translate.specs.Statements.{Done}
use Rattle.pyd_translate.specs.Drafts.{onto}
use Rattle.pyd_translate.specs.Flows.{file_in, passage_of}
use Rattle.pyd_translate.proofs.Onto.{onto_pure}
use Rattle.pyd_translate.proofs.PassageFlows.{again_so}
use Rattle.pyd_translate.proofs.passages.build_again.Goals as goal

pub returns-in_ok-again_while-in-While : goal.returns-in_ok-again_while-in-While
returns-in_ok-again_while-in-While c =
    λ leave next. ap (λ (w : Making Done). onto c.args.draft.now.nodes (w c.args.draft.now.next))
    (again_so (file_in c.args.at.now) c.args.at.now.routine c.args.at.now.depth (passage_of c.passage-here.result) _ c.in-Some.stmt.now (What-F.While c.in-While.test c.in-While._body) c.args.turns c.args.over.now c.args.rest.now next c.args.env.now.items
    c.passage-here.ensures c.in-Some.ensures (ap out-What (c.in-While.is ∙ sym (what.rolls-While c.in-While.test c.in-While._body)) ∙ out-roll-What (What-F.While c.in-While.test c.in-While._body)))
    ∙ c.in_ok-again_while-in-While.ensures ∙ sym (onto_pure _ _ _)

pub returns-in_ok-again_for-in-For : goal.returns-in_ok-again_for-in-For
returns-in_ok-again_for-in-For c =
    λ leave next. ap (λ (w : Making Done). onto c.args.draft.now.nodes (w c.args.draft.now.next))
    (again_so (file_in c.args.at.now) c.args.at.now.routine c.args.at.now.depth (passage_of c.passage-here.result) _ c.in-Some.stmt.now (What-F.For c.in-For._targets c.in-For._e c.in-For._body) c.args.turns c.args.over.now c.args.rest.now next c.args.env.now.items
    c.passage-here.ensures c.in-Some.ensures (ap out-What (c.in-For.is ∙ sym (what.rolls-For c.in-For._targets c.in-For._e c.in-For._body)) ∙ out-roll-What (What-F.For c.in-For._targets c.in-For._e c.in-For._body)))
    ∙ c.in_ok-again_for-in-For.ensures ∙ sym (onto_pure _ _ _)
