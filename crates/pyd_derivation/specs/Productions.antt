-- The grammar, each rule with what it may stand for and what that makes of its parts. Above the productions of a rule
-- stands its line in the grammar of docs/FORMATS.md, where braces repeat, brackets are optional and a bar chooses; what
-- repeats or is optional is a rule of its own here.
use Rattle.std.specs.Prelude.{List, [], ◌∷◌}
use Rattle.pyd_syntax.specs.declared.symbol.Symbol.TheVariants.{Terminal as T, Rule as R}
use Rattle.pyd_syntax.specs.declared.terminal.TheConstants.{END, NEWLINE, INDENT, DEDENT, NAME, INT, STR, CONSTANT, FROM, IMPORT, DEF, IF, ELIF, ELSE, WHILE, FOR, IN, PASS, BREAK, CONTINUE, RETURN, ASSERT, OR, AND, NOT, LEFT_PAREN, RIGHT_PAREN, LEFT_BRACKET, RIGHT_BRACKET, COMMA, COLON, AT, ASSIGN, AUG, CMP, BAR, CARET, AMPERSAND, SHIFT, SIGN, TIMES, POWER}
use Rattle.pyd_syntax.specs.Rules.{file, items, item, import, names_rest, def, params, params_rest, suite, stmts, stmt, if, elifs, else, while, for, targets, targets_rest, simple, assignment, message, optional_tests, tests, tests_rest, test, conditional, or, or_rest, and, and_rest, not, compare, compare_rest, bits, bits_rest, xor, xor_rest, band, band_rest, shift, shift_rest, arith, arith_rest, term, term_rest, factor, power, exponent, suffixed, suffixes, sub, bound, optional_test, atom, arguments}
use Rattle.pyd_syntax.specs.Grammar.{◌⟶◌}
use Rattle.pyd_derivation.specs.declared.piece.Piece.TheVariants as piece
use Rattle.pyd_derivation.specs.Forms.{Form, Of0, Of1, Of2, Of3, Of4, Of6, At1, At2, At3, At4, At5, At6, ◌makes◌, ◌counts◌}
use Rattle.pyd_derivation.specs.Actions.{as_and, as_arguments, as_assert, as_assign, as_augment, as_bound, as_break, as_chain, as_comma, as_compare, as_compared, as_condition, as_constant, as_continue, as_decorated, as_def, as_elifs, as_end, as_for, as_function_item, as_group, as_if, as_import, as_int, as_items, as_link, as_member, as_more_targets, as_name, as_names, as_not, as_not_in, as_or, as_params, as_pass, as_power, as_return, as_simple, as_statement_item, as_stmts, as_sub, as_suffix, as_suffixed, as_suite, as_targets, as_test, as_tests, as_text, as_unary, as_upper, as_while, same, second}

-- the productions, numbered from 0
unfoldable pub grammar : List Form
grammar =
    -- file = { item } END
    (file ⟶ R items ∷ [] makes Of1 same) ∷
    (items ⟶ R item ∷ R items ∷ [] makes Of2 as_items) ∷
    (items ⟶ T END ∷ [] makes Of1 as_end) ∷
    -- item = import | def | stmt
    (item ⟶ R import ∷ [] makes Of1 same) ∷
    (item ⟶ R def ∷ [] makes Of1 as_function_item) ∷
    (item ⟶ R stmt ∷ [] makes Of1 as_statement_item) ∷
    -- import = 'from' NAME 'import' NAME { ',' NAME } NEWLINE
    (import ⟶ T FROM ∷ T NAME ∷ T IMPORT ∷ T NAME ∷ R names_rest ∷ T NEWLINE ∷ [] makes At6 as_import) ∷
    (names_rest ⟶ T COMMA ∷ T NAME ∷ R names_rest ∷ [] makes At3 as_names) ∷
    (names_rest ⟶ [] makes Of0 piece.Nothing) ∷
    -- def = { '@' NAME NEWLINE } 'def' NAME '(' [ NAME { ',' NAME } [','] ] ')' suite
    (def ⟶ T AT ∷ T NAME ∷ T NEWLINE ∷ R def ∷ [] makes At4 as_decorated) ∷
    (def ⟶ T DEF ∷ T NAME ∷ T LEFT_PAREN ∷ R params ∷ T RIGHT_PAREN ∷ R suite ∷ [] makes At6 as_def) ∷
    (params ⟶ T NAME ∷ R params_rest ∷ [] makes At2 as_params) ∷
    (params ⟶ [] makes Of0 piece.Nothing) ∷
    (params_rest ⟶ T COMMA ∷ R params ∷ [] makes Of2 second) ∷
    (params_rest ⟶ [] makes Of0 piece.Nothing) ∷
    -- suite = ':' NEWLINE INDENT stmt { stmt } DEDENT
    (suite ⟶ T COLON ∷ T NEWLINE ∷ T INDENT ∷ R stmt ∷ R stmts ∷ T DEDENT ∷ [] makes Of6 as_suite) ∷
    (stmts ⟶ R stmt ∷ R stmts ∷ [] makes Of2 as_stmts) ∷
    (stmts ⟶ [] makes Of0 piece.Nothing) ∷
    -- stmt = simple NEWLINE | if | while | for
    (stmt ⟶ R simple ∷ [] makes Of1 same) ∷
    (stmt ⟶ R if ∷ [] makes Of1 same) ∷
    (stmt ⟶ R while ∷ [] makes Of1 same) ∷
    (stmt ⟶ R for ∷ [] makes Of1 same) ∷
    -- if = 'if' test suite { 'elif' test suite } [ 'else' suite ]
    (if ⟶ T IF ∷ R test ∷ R suite ∷ R elifs ∷ R else ∷ [] makes At5 as_if counts 1 ∷ []) ∷
    (elifs ⟶ T ELIF ∷ R test ∷ R suite ∷ R elifs ∷ [] makes At4 as_elifs counts 1 ∷ []) ∷
    (elifs ⟶ [] makes Of0 piece.Nothing) ∷
    (else ⟶ T ELSE ∷ R suite ∷ [] makes Of2 second) ∷
    (else ⟶ [] makes Of0 piece.Nothing) ∷
    -- while = 'while' test suite
    (while ⟶ T WHILE ∷ R test ∷ R suite ∷ [] makes At3 as_while counts 1 ∷ []) ∷
    -- for = 'for' NAME { ',' NAME } [','] 'in' tests suite
    (for ⟶ T FOR ∷ T NAME ∷ R targets_rest ∷ T IN ∷ R tests ∷ R suite ∷ [] makes At6 as_for counts 4 ∷ []) ∷
    (targets ⟶ T NAME ∷ R targets_rest ∷ [] makes At2 as_targets) ∷
    (targets ⟶ [] makes Of0 piece.Nothing) ∷
    (targets_rest ⟶ T COMMA ∷ R targets ∷ [] makes Of2 as_more_targets) ∷
    (targets_rest ⟶ [] makes Of0 piece.Nothing) ∷
    -- simple = tests [ '=' tests | AUG tests ] | 'pass' | 'break' | 'continue'
    --        | 'return' [ tests ] | 'assert' test [ ',' test ]
    -- each with the NEWLINE that follows it in stmt
    (simple ⟶ R tests ∷ R assignment ∷ T NEWLINE ∷ [] makes At3 as_simple counts 0 ∷ 1 ∷ []) ∷
    (simple ⟶ T PASS ∷ T NEWLINE ∷ [] makes At2 as_pass counts []) ∷
    (simple ⟶ T BREAK ∷ T NEWLINE ∷ [] makes At2 as_break counts []) ∷
    (simple ⟶ T CONTINUE ∷ T NEWLINE ∷ [] makes At2 as_continue counts []) ∷
    (simple ⟶ T RETURN ∷ R optional_tests ∷ T NEWLINE ∷ [] makes At3 as_return counts 1 ∷ []) ∷
    (simple ⟶ T ASSERT ∷ R test ∷ R message ∷ T NEWLINE ∷ [] makes At4 as_assert counts 1 ∷ 2 ∷ []) ∷
    (assignment ⟶ T ASSIGN ∷ R tests ∷ [] makes Of2 as_assign) ∷
    (assignment ⟶ T AUG ∷ R tests ∷ [] makes Of2 as_augment) ∷
    (assignment ⟶ [] makes Of0 piece.Nothing) ∷
    (message ⟶ T COMMA ∷ R test ∷ [] makes Of2 second) ∷
    (message ⟶ [] makes Of0 piece.Nothing) ∷
    -- [ tests ], also what may follow a comma of tests
    (optional_tests ⟶ R tests ∷ [] makes Of1 same) ∷
    (optional_tests ⟶ [] makes Of0 piece.Nothing) ∷
    -- tests = test { ',' test } [',']
    (tests ⟶ R test ∷ R tests_rest ∷ [] makes Of2 as_tests) ∷
    (tests_rest ⟶ T COMMA ∷ R optional_tests ∷ [] makes Of2 as_comma) ∷
    (tests_rest ⟶ [] makes Of0 piece.Nothing) ∷
    -- test = or [ 'if' or 'else' test ]
    (test ⟶ R or ∷ R conditional ∷ [] makes Of2 as_test) ∷
    (conditional ⟶ T IF ∷ R or ∷ T ELSE ∷ R test ∷ [] makes Of4 as_condition) ∷
    (conditional ⟶ [] makes Of0 piece.Nothing) ∷
    -- or = and { 'or' and }
    (or ⟶ R and ∷ R or_rest ∷ [] makes Of2 as_or) ∷
    (or_rest ⟶ T OR ∷ R and ∷ R or_rest ∷ [] makes Of3 as_member) ∷
    (or_rest ⟶ [] makes Of0 piece.Nothing) ∷
    -- and = not { 'and' not }
    (and ⟶ R not ∷ R and_rest ∷ [] makes Of2 as_and) ∷
    (and_rest ⟶ T AND ∷ R not ∷ R and_rest ∷ [] makes Of3 as_member) ∷
    (and_rest ⟶ [] makes Of0 piece.Nothing) ∷
    -- not = 'not' not | compare
    (not ⟶ T NOT ∷ R not ∷ [] makes Of2 as_not) ∷
    (not ⟶ R compare ∷ [] makes Of1 same) ∷
    -- compare = bits { CMP bits }, where CMP is one of == != < <= > >= in, not in
    (compare ⟶ R bits ∷ R compare_rest ∷ [] makes Of2 as_compare) ∷
    (compare_rest ⟶ T CMP ∷ R bits ∷ R compare_rest ∷ [] makes Of3 as_compared) ∷
    (compare_rest ⟶ T IN ∷ R bits ∷ R compare_rest ∷ [] makes Of3 as_compared) ∷
    (compare_rest ⟶ T NOT ∷ T IN ∷ R bits ∷ R compare_rest ∷ [] makes Of4 as_not_in) ∷
    (compare_rest ⟶ [] makes Of0 piece.Nothing) ∷
    -- bits = xor { '|' xor }
    (bits ⟶ R xor ∷ R bits_rest ∷ [] makes Of2 as_chain) ∷
    (bits_rest ⟶ T BAR ∷ R xor ∷ R bits_rest ∷ [] makes Of3 as_link) ∷
    (bits_rest ⟶ [] makes Of0 piece.Nothing) ∷
    -- xor = band { '^' band }
    (xor ⟶ R band ∷ R xor_rest ∷ [] makes Of2 as_chain) ∷
    (xor_rest ⟶ T CARET ∷ R band ∷ R xor_rest ∷ [] makes Of3 as_link) ∷
    (xor_rest ⟶ [] makes Of0 piece.Nothing) ∷
    -- band = shift { '&' shift }
    (band ⟶ R shift ∷ R band_rest ∷ [] makes Of2 as_chain) ∷
    (band_rest ⟶ T AMPERSAND ∷ R shift ∷ R band_rest ∷ [] makes Of3 as_link) ∷
    (band_rest ⟶ [] makes Of0 piece.Nothing) ∷
    -- shift = arith { ('<<' | '>>') arith }
    (shift ⟶ R arith ∷ R shift_rest ∷ [] makes Of2 as_chain) ∷
    (shift_rest ⟶ T SHIFT ∷ R arith ∷ R shift_rest ∷ [] makes Of3 as_link) ∷
    (shift_rest ⟶ [] makes Of0 piece.Nothing) ∷
    -- arith = term { ('+' | '-') term }
    (arith ⟶ R term ∷ R arith_rest ∷ [] makes Of2 as_chain) ∷
    (arith_rest ⟶ T SIGN ∷ R term ∷ R arith_rest ∷ [] makes Of3 as_link) ∷
    (arith_rest ⟶ [] makes Of0 piece.Nothing) ∷
    -- term = factor { ('*' | '//' | '%') factor }
    (term ⟶ R factor ∷ R term_rest ∷ [] makes Of2 as_chain) ∷
    (term_rest ⟶ T TIMES ∷ R factor ∷ R term_rest ∷ [] makes Of3 as_link) ∷
    (term_rest ⟶ [] makes Of0 piece.Nothing) ∷
    -- factor = ('-' | '+') factor | power
    (factor ⟶ T SIGN ∷ R factor ∷ [] makes Of2 as_unary) ∷
    (factor ⟶ R power ∷ [] makes Of1 same) ∷
    -- power = suffixed [ '**' factor ]
    (power ⟶ R suffixed ∷ R exponent ∷ [] makes Of2 as_power) ∷
    (exponent ⟶ T POWER ∷ R factor ∷ [] makes Of2 second) ∷
    (exponent ⟶ [] makes Of0 piece.Nothing) ∷
    -- suffixed = atom { '[' sub ']' }
    (suffixed ⟶ R atom ∷ R suffixes ∷ [] makes Of2 as_suffixed) ∷
    (suffixes ⟶ T LEFT_BRACKET ∷ R sub ∷ T RIGHT_BRACKET ∷ R suffixes ∷ [] makes Of4 as_suffix) ∷
    (suffixes ⟶ [] makes Of0 piece.Nothing) ∷
    -- sub = test [ ':' [ test ] ] | ':' [ test ]
    (sub ⟶ R test ∷ R bound ∷ [] makes Of2 as_sub) ∷
    (sub ⟶ T COLON ∷ R optional_test ∷ [] makes Of2 as_upper) ∷
    (bound ⟶ T COLON ∷ R optional_test ∷ [] makes Of2 as_bound) ∷
    (bound ⟶ [] makes Of0 piece.Nothing) ∷
    (optional_test ⟶ R test ∷ [] makes Of1 same) ∷
    (optional_test ⟶ [] makes Of0 piece.Nothing) ∷
    -- atom = NAME [ '(' [ tests ] ')' ] | INT | STR | 'True' | 'False' | 'None'
    --      | '(' [ tests ] ')'
    (atom ⟶ T NAME ∷ R arguments ∷ [] makes At2 as_name) ∷
    (atom ⟶ T INT ∷ [] makes Of1 as_int) ∷
    (atom ⟶ T STR ∷ [] makes At1 as_text) ∷
    (atom ⟶ T CONSTANT ∷ [] makes Of1 as_constant) ∷
    (atom ⟶ T LEFT_PAREN ∷ R optional_tests ∷ T RIGHT_PAREN ∷ [] makes Of3 as_group) ∷
    (arguments ⟶ T LEFT_PAREN ∷ R optional_tests ∷ T RIGHT_PAREN ∷ [] makes Of3 as_arguments) ∷
    (arguments ⟶ [] makes Of0 piece.Nothing) ∷
    []
