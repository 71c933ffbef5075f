-- The names under which the code has what productions make.
use Rattle.pyd_derivation.specs.declared.making.Making.{Making}
use Rattle.pyd_derivation.specs.declared.making.Making.TheVariants as making
use Rattle.pyd_derivation.specs.declared.making.FileMaking.{FileMaking}
use Rattle.pyd_derivation.specs.declared.making.FileMaking.TheVariants as file
use Rattle.pyd_derivation.specs.declared.making.StatementMaking.{StatementMaking}
use Rattle.pyd_derivation.specs.declared.making.StatementMaking.TheVariants as statement
use Rattle.pyd_derivation.specs.declared.making.ExpressionMaking.{ExpressionMaking}
use Rattle.pyd_derivation.specs.declared.making.ExpressionMaking.TheVariants as expression
use Rattle.pyd_derivation.specs.declared.piece.Piece.TheVariants as piece
use Rattle.pyd_derivation.specs.Forms.{Action, Of0, Of1, Of2, Of3, Of4, Of6, At1, At2, At3, At4, At5, At6}
use Rattle.pyd_derivation.specs.Actions.{as_and, as_arguments, as_assert, as_assign, as_augment, as_bound, as_break, as_chain, as_comma, as_compare, as_compared, as_condition, as_constant, as_continue, as_decorated, as_def, as_elifs, as_end, as_for, as_function_item, as_group, as_if, as_import, as_int, as_items, as_link, as_member, as_more_targets, as_name, as_names, as_not, as_not_in, as_or, as_params, as_pass, as_power, as_return, as_simple, as_statement_item, as_stmts, as_sub, as_suffix, as_suffixed, as_suite, as_targets, as_test, as_tests, as_text, as_unary, as_upper, as_while, same, second}

-- what is made under a name of files, functions and suites
abbrev pub file_action : FileMaking → Action
file_action file.End = Of1 as_end
file_action file.Items = Of2 as_items
file_action file.StatementItem = Of1 as_statement_item
file_action file.FunctionItem = Of1 as_function_item
file_action file.Import = At6 as_import
file_action file.Names = At3 as_names
file_action file.Decorated = At4 as_decorated
file_action file.Function = At6 as_def
file_action file.Params = At2 as_params
file_action file.Stmts = Of2 as_stmts
file_action file.Suite = Of6 as_suite

-- what is made under a name of statements
abbrev pub statement_action : StatementMaking → Action
statement_action statement.If = At5 as_if
statement_action statement.Elifs = At4 as_elifs
statement_action statement.While = At3 as_while
statement_action statement.For = At6 as_for
statement_action statement.Targets = At2 as_targets
statement_action statement.TargetComma = Of2 as_more_targets
statement_action statement.Simple = At3 as_simple
statement_action statement.Pass = At2 as_pass
statement_action statement.Break = At2 as_break
statement_action statement.Continue = At2 as_continue
statement_action statement.Return = At3 as_return
statement_action statement.Assert = At4 as_assert
statement_action statement.Assign = Of2 as_assign
statement_action statement.Augment = Of2 as_augment

-- what is made under a name of expressions
abbrev pub expression_action : ExpressionMaking → Action
expression_action expression.Tests = Of2 as_tests
expression_action expression.Comma = Of2 as_comma
expression_action expression.Test = Of2 as_test
expression_action expression.Condition = Of4 as_condition
expression_action expression.Or = Of2 as_or
expression_action expression.And = Of2 as_and
expression_action expression.Member = Of3 as_member
expression_action expression.Not = Of2 as_not
expression_action expression.Compare = Of2 as_compare
expression_action expression.Compared = Of3 as_compared
expression_action expression.NotIn = Of4 as_not_in
expression_action expression.Chain = Of2 as_chain
expression_action expression.Link = Of3 as_link
expression_action expression.Unary = Of2 as_unary
expression_action expression.Power = Of2 as_power
expression_action expression.Suffixed = Of2 as_suffixed
expression_action expression.Suffix = Of4 as_suffix
expression_action expression.Sub = Of2 as_sub
expression_action expression.Upper = Of2 as_upper
expression_action expression.Bound = Of2 as_bound
expression_action expression.Name = At2 as_name
expression_action expression.Int = Of1 as_int
expression_action expression.Text = At1 as_text
expression_action expression.Constant = Of1 as_constant
expression_action expression.Group = Of3 as_group
expression_action expression.Arguments = Of3 as_arguments

-- what is made under a name
abbrev pub action : Making → Action
action making.Nothing = Of0 piece.Nothing
action making.Same = Of1 same
action making.Second = Of2 second
action (making.File m) = file_action m
action (making.Statement m) = statement_action m
action (making.Expression m) = expression_action m
