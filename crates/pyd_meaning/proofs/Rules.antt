-- What small rows are computed by.
use Rattle.pyd_meaning.proofs.Statements.{statement, if_statement, while_statement, for_statement, expression_statement, assignment, augmented, passes, breaks, continues, return_statement, assert_statement}
use Rattle.pyd_meaning.proofs.Running.{suite-does, arm-does}
use Rattle.pyd_meaning.proofs.Expressions.{conditional, disjunction, conjunction, comparison, chain, unary, power, suffixed, index, slice, name_read, call, literal, tuple}
use Rattle.pyd_meaning.proofs.Levels.{out-int, out-bool, out-text, out-tuple, out-none, out-literal, out-members, out-call, comparison-ints, comparison-texts, comparison-none, size-text, size-tuple, size-int, nesting-text, nesting-tuple, nesting-int, encode-row, repr-int, repr-true, repr-false, repr-none, repr-tuple}

pub ruleset expressions = (conditional, disjunction, conjunction, comparison, chain, unary, power, suffixed, index, slice, name_read, call, literal, tuple)

pub ruleset values = (out-int, out-bool, out-text, out-tuple, out-none, out-literal, out-members, out-call, comparison-ints, comparison-texts, comparison-none, size-text, size-tuple, size-int, nesting-text, nesting-tuple, nesting-int)

pub ruleset lines = (encode-row, repr-int, repr-true, repr-false, repr-none, repr-tuple)

pub ruleset statements = (statement, if_statement, while_statement, for_statement, expression_statement, assignment, augmented, passes, breaks, continues, return_statement, assert_statement, suite-does, arm-does)
