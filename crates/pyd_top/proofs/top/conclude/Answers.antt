use Rattle.std.proofs.Common.{◌≤◌, length, ap, refl, inl, arith, Err}
use Rattle.pyd_source.proofs.Prefixes.{added_none}
use Rattle.pyd_grammar.specs.Limits.{longest_source}
use Rattle.pyd_top.proofs.Inputs.{some_input, input_read, input_long, is_read, is_read_long}
use Rattle.pyd_top.proofs.Concluding.{too_long}
use Rattle.pyd_top.proofs.top.conclude.Goals as goal

pub returns-in_default-clause-concludes : goal.returns-in_default-clause-concludes
returns-in_default-clause-concludes g c =
    let input = some_input (g.S.Source.left c.args.source.now) in
    (input.0, input.1, record { faulty = c.in_default.ensures.none refl; untouched = refl; silent = added_none _ })

pub returns-in-Ok-clause-concludes : goal.returns-in-Ok-clause-concludes
returns-in-Ok-clause-concludes g c =
    let fits : length c.in-Ok.bytes.items ≤ longest_source = omega (arith, c.in-Ok.ensures.within) in
    let served = rw c.deref.ensures.value at c.serve.ensures.concludes in (
      c.in-Ok.bytes.items,
      input_read _ _ c.in-Ok.bytes.items c.in-Ok.ensures.ok c.in-Ok.ensures.end,
      served c.args.words.now _ c.in-Some.ensures.found (is_read _ _ fits c.in-Ok.ensures.end),
    )

pub returns-in-Err-TooLong-clause-concludes : goal.returns-in-Err-TooLong-clause-concludes
returns-in-Err-TooLong-clause-concludes g c =
    let took = c.in-Err-TooLong.ensures.long (ap Err c.in-Err-TooLong.field-0-is) in
    let input = input_long _ _ longest_source took in (
      input.0,
      input.1,
      record {
        output = _;
        made = record { mode = c.in-Some.mode; chosen = c.in-Some.ensures.found; makes = too_long c.in-Some.mode input.0 input.2 };
        put = added_none _;
        read = is_read_long input.0 _ input.2 took;
      },
    )

pub returns-in-Err-ReadFault-clause-concludes : goal.returns-in-Err-ReadFault-clause-concludes
returns-in-Err-ReadFault-clause-concludes g c =
    let input = some_input (g.S.Source.left c.args.source.now) in (
      input.0,
      input.1,
      record {
        mode = c.in-Some.mode;
        chosen = c.in-Some.ensures.found;
        failed = c.in-Err-ReadFault.ensures.cause.cause (ap Err c.in-Err-ReadFault.field-0-is);
        silent = added_none _;
      },
    )

pub returns-in-Err-NoMemory-clause-concludes : goal.returns-in-Err-NoMemory-clause-concludes
returns-in-Err-NoMemory-clause-concludes g c =
    let input = some_input (g.S.Source.left c.args.source.now) in (input.0, input.1, inl (added_none _))
