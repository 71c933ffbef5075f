-- The error line of each conclusion.
use Rattle.std.specs.Prelude.{ℕ, List, [], ◌∷◌, ◌++◌, codes, decimal}
use Rattle.pyd_value.specs.declared.fault.Kind.{Kind}
use Rattle.pyd_value.specs.declared.fault.Kind.TheVariants as kind
use Rattle.pyd_value.specs.declared.fault.Limit.{Limit}
use Rattle.pyd_value.specs.declared.fault.Limit.TheVariants as limit
use Rattle.pyd_lex.specs.declared.fault.LexFault.{LexFault}
use Rattle.pyd_lex.specs.declared.fault.LexFault.TheVariants as lex
use Rattle.pyd_grammar.specs.declared.fault.ParseFault.{ParseFault}
use Rattle.pyd_grammar.specs.declared.fault.ParseFault.TheVariants as parse
use Rattle.pyd_scope.specs.declared.refusal.Refusal.{Refusal}
use Rattle.pyd_scope.specs.declared.refusal.Refusal.TheVariants as scope
use Rattle.pyd_scope.specs.Numbers.{line}
use Rattle.pyd_top.specs.declared.conclusion.Conclusion.{Conclusion}
use Rattle.pyd_top.specs.declared.conclusion.Conclusion.TheVariants as conclusion

-- what the error line calls an exception
abbrev pub kind_text : Kind → List ℕ
kind_text kind.NameError = codes "NameError"
kind_text kind.UnboundLocalError = codes "UnboundLocalError"
kind_text kind.TypeError = codes "TypeError"
kind_text kind.ValueError = codes "ValueError"
kind_text kind.IndexError = codes "IndexError"
kind_text kind.ZeroDivisionError = codes "ZeroDivisionError"
kind_text kind.AssertionError = codes "AssertionError"

-- what the error line calls a limit
abbrev pub limit_text : Limit → List ℕ
limit_text limit.Turn = codes "LIMIT TurnLimit"
limit_text limit.Depth = codes "LIMIT DepthLimit"
limit_text limit.Int = codes "LIMIT IntLimit"
limit_text limit.Size = codes "LIMIT SizeLimit"
limit_text limit.Outside = codes "LIMIT Outside"

-- what was there, and at which number of a kind of place
abbrev pub placed : List ℕ → List ℕ → ℕ → List ℕ
placed text place number = text ++ (place ++ (decimal number ++ 10 ∷ []))

-- what was there, and in which line
abbrev pub in_line : List ℕ → ℕ → List ℕ
in_line text number = placed text (codes ": line ") number

-- the error line of a fault of tokens
abbrev pub lex_line : LexFault → List ℕ
lex_line (lex.Utf8 byte) = placed (codes "REFUSED Utf8") (codes ": byte ") byte
lex_line (lex.BadChar n) = in_line (codes "REFUSED BadChar") n
lex_line (lex.BadName n) = in_line (codes "REFUSED BadName") n
lex_line (lex.BadNumber n) = in_line (codes "REFUSED BadNumber") n
lex_line (lex.WideNumber n) = in_line (codes "REFUSED WideNumber") n
lex_line (lex.BadString n) = in_line (codes "REFUSED BadString") n
lex_line (lex.Tab n) = in_line (codes "REFUSED Tab") n
lex_line (lex.BadDedent n) = in_line (codes "REFUSED BadDedent") n

-- the error line of a fault of the grammar
abbrev pub parse_line : ParseFault → List ℕ
parse_line (parse.Syntax n) = in_line (codes "REFUSED Syntax") n
parse_line (parse.Deep n) = in_line (codes "REFUSED Deep") n
parse_line (parse.Target n) = in_line (codes "REFUSED Target") n

-- what the error line calls a broken rule of scope
abbrev pub rule_text : Refusal → List ℕ
rule_text (scope.TwiceDefined n) = codes "REFUSED TwiceDefined"
rule_text (scope.Rebind n) = codes "REFUSED Rebind"
rule_text (scope.FunctionValue n) = codes "REFUSED FunctionValue"
rule_text (scope.CallOfVariable n) = codes "REFUSED CallOfVariable"
rule_text (scope.GlobalRead n) = codes "REFUSED GlobalRead"
rule_text (scope.Impure n) = codes "REFUSED Impure"
rule_text (scope.ReturnOutside n) = codes "REFUSED ReturnOutside"
rule_text (scope.BreakOutside n) = codes "REFUSED BreakOutside"
rule_text (scope.LateDef n) = codes "REFUSED LateDef"
rule_text (scope.NotConstant n) = codes "REFUSED NotConstant"
rule_text (scope.Decorator n) = codes "REFUSED Decorator"
rule_text (scope.TwiceParameter n) = codes "REFUSED TwiceParameter"

-- the line that is put on the sink for errors
abbrev pub error_of : Conclusion → List ℕ
error_of conclusion.Done = []
error_of (conclusion.Raised k n) = in_line (kind_text k) n
error_of (conclusion.Limit l n) = in_line (limit_text l) n
error_of conclusion.Words = codes "WORDS Line\n"
error_of conclusion.TooLong = codes "REFUSED TooLong\n"
error_of (conclusion.Lex f) = lex_line f
error_of (conclusion.Parse f) = parse_line f
error_of (conclusion.Scope r) = in_line (rule_text r) (line r)
error_of conclusion.ReadFault = codes "FAULT read\n"
error_of conclusion.SinkFault = codes "FAULT sink\n"
error_of conclusion.NoMemory = codes "FAULT memory\n"
