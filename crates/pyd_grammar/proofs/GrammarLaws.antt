-- What each production of the grammar makes is what its rule is read as.
use Rattle.std.proofs.Common.{ℕ, ◌<◌, zero, suc, List, [], ◌∷◌, get_or, length, arith}
use Rattle.pyd_derivation.specs.Forms.{Form, none}
use Rattle.pyd_derivation.specs.Productions.{grammar}
use Rattle.pyd_grammar.proofs.Shapes.{Law, Files, Items, Stmt, Test}
use Rattle.pyd_grammar.proofs.ExpressionLaws.{TextsFit, alone, tests_alone, test_alone, behind, tests_made, comma_made, test_made, condition_made, or_made, and_made, member_made, not_made, compare_made, compared_made, not_in_made, chain_made, link_made, unary_made, power_made, suffixed_made, suffix_made, sub_made, upper_made, bound_made, name_made, arguments_made, group_made, int_made, constant_made, text_made}
use Rattle.pyd_grammar.proofs.StatementLaws.{items_made, end_made, function_made, statement_made, import_made, names_made, decorated_made, def_made, params_made, more_params_made, suite_made, stmts_made, if_made, elifs_made, else_made, while_made, for_made, targets_made, more_targets_made, simple_made, pass_made, break_made, continue_made, return_made, assert_made, assign_made, augment_made}

-- each of these forms keeps its law
abbrev pub Laws : List ℕ → List Form → Type 0
Laws bytes [] = Unit {0}
Laws bytes (f ∷ fs) = Law bytes f × Laws bytes fs

pub law_at : (bytes : List ℕ) (fs : List Form) (p : ℕ) → p < length fs → Laws bytes fs → Law bytes (get_or fs p none)
law_at bytes [] p l h = absurd (omega arith)
law_at bytes (f ∷ fs) zero l h = h.0
law_at bytes (f ∷ fs) (suc p) l h = law_at bytes fs p (omega arith) h.1

-- a part that is missing
missing : ℕ → Unit {0}
missing line = tt

pub lawful : (bytes : List ℕ) → TextsFit bytes → Laws bytes grammar
unfolding grammar
lawful bytes texts = (
  alone Files,
  (
    items_made,
    (
      end_made,
      (
        alone Items,
        (
          function_made,
          (
            statement_made,
            (
              import_made bytes,
              (
                names_made bytes,
                (
                  missing,
                  (
                    decorated_made bytes,
                    (
                      def_made bytes,
                      (
                        params_made bytes,
                        (
                          missing,
                          (
                            more_params_made,
                            (
                              missing,
                              (
                                suite_made,
                                (
                                  stmts_made,
                                  (
                                    missing,
                                    (
                                      alone Stmt,
                                      (
                                        alone Stmt,
                                        (
                                          alone Stmt,
                                          (
                                            alone Stmt,
                                            (
                                              if_made bytes,
                                              (
                                                elifs_made bytes,
                                                (
                                                  missing,
                                                  (
                                                    else_made,
                                                    (
                                                      missing,
                                                      (
                                                        while_made bytes,
                                                        (
                                                          for_made bytes,
                                                          (
                                                            targets_made bytes,
                                                            (
                                                              missing,
                                                              (
                                                                more_targets_made,
                                                                (
                                                                  missing,
                                                                  (
                                                                    simple_made bytes,
                                                                    (
                                                                      pass_made bytes,
                                                                      (
                                                                        break_made bytes,
                                                                        (
                                                                          continue_made bytes,
                                                                          (
                                                                            return_made bytes,
                                                                            (
                                                                              assert_made bytes,
                                                                              (
                                                                                assign_made,
                                                                                (
                                                                                  augment_made,
                                                                                  (
                                                                                    missing,
                                                                                    (
                                                                                      behind,
                                                                                      (
                                                                                        missing,
                                                                                        (
                                                                                          tests_alone,
                                                                                          (
                                                                                            missing,
                                                                                            (
                                                                                              tests_made,
                                                                                              (
                                                                                                comma_made,
                                                                                                (
                                                                                                  missing,
                                                                                                  (
                                                                                                    test_made,
                                                                                                    (
                                                                                                      condition_made,
                                                                                                      (
                                                                                                        missing,
                                                                                                        (
                                                                                                          or_made,
                                                                                                          (
                                                                                                            member_made,
                                                                                                            (
                                                                                                              missing,
                                                                                                              (
                                                                                                                and_made,
                                                                                                                (
                                                                                                                  member_made,
                                                                                                                  (
                                                                                                                    missing,
                                                                                                                    (
                                                                                                                      not_made,
                                                                                                                      (
                                                                                                                        alone Test,
                                                                                                                        (
                                                                                                                          compare_made,
                                                                                                                          (
                                                                                                                            compared_made,
                                                                                                                            (
                                                                                                                              compared_made,
                                                                                                                              (
                                                                                                                                not_in_made,
                                                                                                                                (
                                                                                                                                  missing,
                                                                                                                                  (
                                                                                                                                    chain_made,
                                                                                                                                    (
                                                                                                                                      link_made,
                                                                                                                                      (
                                                                                                                                        missing,
                                                                                                                                        (
                                                                                                                                          chain_made,
                                                                                                                                          (
                                                                                                                                            link_made,
                                                                                                                                            (
                                                                                                                                              missing,
                                                                                                                                              (
                                                                                                                                                chain_made,
                                                                                                                                                (
                                                                                                                                                  link_made,
                                                                                                                                                  (
                                                                                                                                                    missing,
                                                                                                                                                    (
                                                                                                                                                      chain_made,
                                                                                                                                                      (
                                                                                                                                                        link_made,
                                                                                                                                                        (
                                                                                                                                                          missing,
                                                                                                                                                          (
                                                                                                                                                            chain_made,
                                                                                                                                                            (
                                                                                                                                                              link_made,
                                                                                                                                                              (
                                                                                                                                                                missing,
                                                                                                                                                                (
                                                                                                                                                                  chain_made,
                                                                                                                                                                  (
                                                                                                                                                                    link_made,
                                                                                                                                                                    (
                                                                                                                                                                      missing,
                                                                                                                                                                      (
                                                                                                                                                                        unary_made,
                                                                                                                                                                        (
                                                                                                                                                                          alone Test,
                                                                                                                                                                          (
                                                                                                                                                                            power_made,
                                                                                                                                                                            (
                                                                                                                                                                              behind,
                                                                                                                                                                              (
                                                                                                                                                                                missing,
                                                                                                                                                                                (
                                                                                                                                                                                  suffixed_made,
                                                                                                                                                                                  (
                                                                                                                                                                                    suffix_made,
                                                                                                                                                                                    (
                                                                                                                                                                                      missing,
                                                                                                                                                                                      (
                                                                                                                                                                                        sub_made,
                                                                                                                                                                                        (
                                                                                                                                                                                          upper_made,
                                                                                                                                                                                          (
                                                                                                                                                                                            bound_made,
                                                                                                                                                                                            (
                                                                                                                                                                                              missing,
                                                                                                                                                                                              (
                                                                                                                                                                                                test_alone,
                                                                                                                                                                                                (
                                                                                                                                                                                                  missing,
                                                                                                                                                                                                  (
                                                                                                                                                                                                    name_made bytes,
                                                                                                                                                                                                    (
                                                                                                                                                                                                      int_made,
                                                                                                                                                                                                      (
                                                                                                                                                                                                        text_made bytes texts,
                                                                                                                                                                                                        (
                                                                                                                                                                                                          constant_made,
                                                                                                                                                                                                          (
                                                                                                                                                                                                            group_made,
                                                                                                                                                                                                            (
                                                                                                                                                                                                              arguments_made,
                                                                                                                                                                                                              (
                                                                                                                                                                                                                missing,
                                                                                                                                                                                                                tt,
                                                                                                                                                                                                              ),
                                                                                                                                                                                                            ),
                                                                                                                                                                                                          ),
                                                                                                                                                                                                        ),
                                                                                                                                                                                                      ),
                                                                                                                                                                                                    ),
                                                                                                                                                                                                  ),
                                                                                                                                                                                                ),
                                                                                                                                                                                              ),
                                                                                                                                                                                            ),
                                                                                                                                                                                          ),
                                                                                                                                                                                        ),
                                                                                                                                                                                      ),
                                                                                                                                                                                    ),
                                                                                                                                                                                  ),
                                                                                                                                                                                ),
                                                                                                                                                                              ),
                                                                                                                                                                            ),
                                                                                                                                                                          ),
                                                                                                                                                                        ),
                                                                                                                                                                      ),
                                                                                                                                                                    ),
                                                                                                                                                                  ),
                                                                                                                                                                ),
                                                                                                                                                              ),
                                                                                                                                                            ),
                                                                                                                                                          ),
                                                                                                                                                        ),
                                                                                                                                                      ),
                                                                                                                                                    ),
                                                                                                                                                  ),
                                                                                                                                                ),
                                                                                                                                              ),
                                                                                                                                            ),
                                                                                                                                          ),
                                                                                                                                        ),
                                                                                                                                      ),
                                                                                                                                    ),
                                                                                                                                  ),
                                                                                                                                ),
                                                                                                                              ),
                                                                                                                            ),
                                                                                                                          ),
                                                                                                                        ),
                                                                                                                      ),
                                                                                                                    ),
                                                                                                                  ),
                                                                                                                ),
                                                                                                              ),
                                                                                                            ),
                                                                                                          ),
                                                                                                        ),
                                                                                                      ),
                                                                                                    ),
                                                                                                  ),
                                                                                                ),
                                                                                              ),
                                                                                            ),
                                                                                          ),
                                                                                        ),
                                                                                      ),
                                                                                    ),
                                                                                  ),
                                                                                ),
                                                                              ),
                                                                            ),
                                                                          ),
                                                                        ),
                                                                      ),
                                                                    ),
                                                                  ),
                                                                ),
                                                              ),
                                                            ),
                                                          ),
                                                        ),
                                                      ),
                                                    ),
                                                  ),
                                                ),
                                              ),
                                            ),
                                          ),
                                        ),
                                      ),
                                    ),
                                  ),
                                ),
                              ),
                            ),
                          ),
                        ),
                      ),
                    ),
                  ),
                ),
              ),
            ),
          ),
        ),
      ),
    ),
  ),
)
