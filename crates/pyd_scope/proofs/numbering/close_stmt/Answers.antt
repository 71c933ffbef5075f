use Rattle.std.proofs.Common.{◌∷◌, ◌++◌, length, refl, ap, ◌∙◌}
use Rattle.pyd_scope.proofs.Walking.{set_there}
use Rattle.pyd_scope.proofs.numbering.close_stmt.Goals as goal

pub returns-in-Some : goal.returns-in-Some
returns-in-Some c =
    record {
      statements = λ front first back is at.
          set_there front first (record {
            suite = c.args.suite;
            at = c.args.at;
            expression = c.args.expression;
            behind_statement = c.in_ok-behind_statement.behind_statement;
            behind_expression = c.in_ok-behind_expression.behind_expression;
          }) back c.args.out.now.statements.items c.args.place is at
          ∙ (λ i. front ++ record {
            suite = c.args.suite;
            at = c.args.at;
            expression = c.args.expression;
            behind_statement = (c.in_ok-behind_statement.ensures ∙ ap length c.as_slice.ensures.value) i;
            behind_expression = (c.in_ok-behind_expression.ensures ∙ ap length c.as_slice-2.ensures.value) i;
          } ∷ back);
      expressions = refl;
    }
