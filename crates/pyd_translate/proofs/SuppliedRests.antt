-- The nodes of statements, and of what goes on behind them, have what they need.
use Rattle.std.proofs.Common.{ℕ, List, [], ◌∷◌, arith}
use Rattle.pyd_value.specs.declared.value.Value.TheVariants as value
use Rattle.pyd_tree.specs.declared.statement.What.{out-What}
use Rattle.pyd_tree.specs.declared.statement.Stmt.{Stmt}
use Rattle.pyd_tree.specs.declared.file.File.{File}
use Rattle.pyd_names.specs.Binding.{locals}
use Rattle.pyd_meaning.specs.declared.limits.Limits.{Limits}
use Rattle.pyd_ir.specs.declared.arg.Arg.{Arg}
use Rattle.pyd_ir.specs.declared.arg.Arg.TheVariants.{Known}
use Rattle.pyd_ir.specs.declared.work.Frame.{Frame}
use Rattle.pyd_ir.specs.declared.work.Frame.TheVariants.{After, Again}
use Rattle.pyd_ir.specs.declared.work.Work.TheVariants.{While, For}
use Rattle.pyd_ir.specs.Arguments.{rest_arguments}
use Rattle.pyd_ir.specs.Inputs.{Given}
use Rattle.pyd_translate.specs.Making.{emit, ◌>>>◌}
use Rattle.pyd_scope.specs.Numbering.{Point, past_statement}
use Rattle.pyd_scope.specs.Passages.{Passage, passage_at}
use Rattle.pyd_translate.specs.Compounds.{Compound, Choice, WhileLoop, ForLoop, Simple, first_compound, first_line, passage_behind}
use Rattle.pyd_translate.specs.Expressions.{expression_unfolds}
use Rattle.pyd_translate.specs.Statements.{done, Exit, Normal, Break, Continue, Onward, ported, may_leave, context, stmts_unfold}
use Rattle.pyd_translate.specs.Rests.{again, again_first, rest_unfolds, block_unfolds}
use Rattle.pyd_translate.specs.Matching.{HaveValues}
use Rattle.pyd_translate.specs.Supplied.{BlockSupply}
use Rattle.pyd_translate.proofs.Keeping.{all_given-below}
use Rattle.pyd_translate.proofs.RestOrder.{block_order}
use Rattle.pyd_translate.proofs.Supplying.{later-same, later-then, HasSome, some-later, have-later, some-true, have-true, HasSlots, done-stocked, pure-stocked}
use Rattle.pyd_translate.proofs.SuppliedExpressions.{staged-later}
use Rattle.pyd_translate.proofs.SuppliedSides.{expression-supplied}
use Rattle.pyd_translate.proofs.SuppliedStatements.{Stocks, GoesOn, ported-stocked, composite-given, what-stocked}
use Rattle.pyd_translate.proofs.LawsSupplied.{values-below, stocked-supplied}

module _ (file : File) (limits : Limits) where
  module _ (routine depth : ℕ) where
    -- what goes on from slots that are given has what it needs
    abbrev Goes : ℕ → Given → Onward → Type 0
    Goes low before onward = GoesOn file limits routine low before onward

    -- statements, and then what goes on by the way in which they are left
    statements-stocked : (ss : List Stmt) (p : Point) (rest : List Frame) (leave : Exit → Onward) (low : ℕ) (before : Given)
        → HaveValues low before (rest_arguments rest) → ((exit : Exit) → Goes low before (leave exit))
        → Goes low before (stmts_unfold file routine depth ss p rest leave)
    unfolding stmts_unfold
    statements-stocked [] p rest leave low before have goes ids given env later has = goes Normal ids given env later has
    statements-stocked (s ∷ ss) p rest leave low before have goes ids given env later has =
        what-stocked file limits (out-What s.what) (may_leave s) p (context routine depth s.line env)
        (record {
          rest = rest;
          leave = leave;
          next = stmts_unfold file routine depth ss (past_statement s p) rest leave;
        }) low before ids given
        (record {
          rest = have;
          leave = goes;
          next = statements-stocked ss (past_statement s p) rest leave low before have goes;
        }) later has

    -- a loop that is gone on with
    again-stocked : (c : Compound) (p : Point) (turns : ℕ) (over : Arg) (rest : List Frame) (line : ℕ) (next : Onward)
        (low : ℕ) (before : Given) → HasSome low before over → HaveValues low before (rest_arguments rest)
        → Goes low before next
        → Goes low before (λ env. again file routine depth c p turns over rest (context routine depth line env) next)
    again-stocked (WhileLoop test body) p turns over rest line next low before v have goes ids given env later has =
        let at = context routine depth line env in
        done-stocked file limits HasSome ids given env (expression_unfolds file test p.expression at)
        (λ t. emit at (While t p.statement turns rest env) >>> ported (locals file routine))
        (expression-supplied file limits test p.expression at ids given has)
        (λ end mid t more u.
        let now = have-later low end before mid (rest_arguments rest) (later-then low ids end before given mid later more) have in
        let slots = staged-later file limits at ids end given mid more has in
        ported-stocked file limits end mid at (While t p.statement turns rest env) (locals file routine) (
          composite-given file limits end mid t rest env u now slots.1,
          (some-true end mid t u, have-true end mid (rest_arguments rest) now, slots.0),
        ))
    again-stocked (ForLoop targets e body) p turns over rest line next low before v have goes ids given env later has =
        let at = context routine depth line env in
        let now = have-later low ids before given (rest_arguments rest) later have in
        let u = some-later low ids before given over later v in
        ported-stocked file limits ids given at (For over p.statement turns rest env) (locals file routine) (
          composite-given file limits ids given over rest env u now has.1,
          (some-true ids given over u, have-true ids given (rest_arguments rest) now, has.0),
        )
    again-stocked (Choice arms otherwise) p turns over rest line next low before v have goes ids given env later has =
        goes ids given env later has
    again-stocked Simple p turns over rest line next low before v have goes ids given env later has =
        goes ids given env later has

    -- the first statement of a passage, as a loop that is gone on with
    again_first-stocked : (here : Passage) (turns : ℕ) (over : Arg) (rest : List Frame) (next : Onward)
        (low : ℕ) (before : Given) → HasSome low before over → HaveValues low before (rest_arguments rest)
        → Goes low before next → Goes low before (again_first file routine depth here turns over rest next)
    again_first-stocked here turns over rest next low before v have goes ids given env later has =
        again-stocked (first_compound here.stmts) here.point turns over rest (first_line here.stmts) next low before
        v have goes ids given env later has

    -- a rest, by the way in which the block before it was left
    rest-goes : (rest : List Frame) (low : ℕ) (before : Given) → HaveValues low before (rest_arguments rest)
        → (exit : Exit) → Goes low before (rest_unfolds file routine depth rest exit)
    unfolding rest_unfolds
    rest-goes [] low before have Normal ids given env later has = pure-stocked file limits ids given (done env (Known value.None))
    rest-goes [] low before have Break ids given env later has = pure-stocked file limits ids given (done env (Known value.None))
    rest-goes [] low before have Continue ids given env later has = pure-stocked file limits ids given (done env (Known value.None))
    rest-goes (After k ∷ rest) low before have Normal ids given env later has =
        statements-stocked (passage_behind (passage_at file routine k)).stmts
        (passage_behind (passage_at file routine k)).point rest
        (rest_unfolds file routine depth rest) low before have (rest-goes rest low before have) ids given env later has
    rest-goes (After k ∷ rest) low before have Break ids given env later has =
        rest-goes rest low before have Break ids given env later has
    rest-goes (After k ∷ rest) low before have Continue ids given env later has =
        rest-goes rest low before have Continue ids given env later has
    rest-goes (Again k turns over ∷ rest) low before have Normal ids given env later has =
        again_first-stocked (passage_at file routine k) turns over rest
        (rest_unfolds file routine depth rest Normal) low before have.0 have.1
        (rest-goes rest low before have.1 Normal) ids given env later has
    rest-goes (Again k turns over ∷ rest) low before have Break ids given env later has =
        rest-goes rest low before have.1 Normal ids given env later has
    rest-goes (Again k turns over ∷ rest) low before have Continue ids given env later has =
        again_first-stocked (passage_at file routine k) turns over rest
        (rest_unfolds file routine depth rest Normal) low before have.0 have.1
        (rest-goes rest low before have.1 Normal) ids given env later has

-- statements that are made from slots that are given, and what goes on behind them
pub block-stocked : (file : File) (limits : Limits) (routine depth : ℕ) (here : Passage) (rest : List Frame) (ids : ℕ)
    (given : Given) (env : List Arg)
    → HaveValues ids given (rest_arguments rest) → HasSlots file limits routine ids given env
    → Stocks file limits ids given (block_unfolds file routine depth here rest env)
block-stocked file limits routine depth here rest ids given env have has =
    statements-stocked file limits routine depth here.stmts here.point rest (rest_unfolds file routine depth rest) ids given
    have (rest-goes file limits routine depth rest ids given have) ids given env (later-same ids given) has

-- the nodes of statements and of what goes on behind them have what they need
pub block_supply : BlockSupply
block_supply file limits routine depth here rest ids given env names have are =
    let order =
    block_order file routine depth here rest ids env (values-below ids given (rest_arguments rest) have)
    (all_given-below ids given env are.all_given) in
    let ends = order.next in
    stocked-supplied file limits (block_unfolds file routine depth here rest env ids).next ids
    (block_unfolds file routine depth here rest env ids).nodes given order.nodes (omega (arith, ends))
    (block-stocked file limits routine depth here rest ids given env have (are.count, are.all_given))
