-- What is known at a step, of those from it on.
use Rattle.std.specs.Prelude.{ℕ, suc, ◌+◌, ◌-◌, ◌≡◌, List, [], ◌∷◌, drop, get_or, cond, ltb, Option, Some, None}
use Rattle.pyd_lex.specs.declared.token.Token.{Token}
use Rattle.pyd_lex.specs.declared.token.TokenKind.{TokenKind}
use Rattle.pyd_lex.specs.declared.token.TokenKind.TheVariants as kind
use Rattle.pyd_syntax.specs.declared.step.Step.{Step}
use Rattle.pyd_syntax.specs.declared.step.Step.TheVariants.{Shift, Expand}
use Rattle.pyd_derivation.specs.Pieces.{no_token}
use Rattle.pyd_derivation.specs.Derivation.{line_of}
use Rattle.pyd_measure.specs.declared.measures.Measure.TheVariants as measure
use Rattle.pyd_measure.specs.declared.measuring.Measuring.{Measuring}
use Rattle.pyd_measure.specs.declared.found.Measured.{Measured}
use Rattle.pyd_measure.specs.declared.state.State.{State}
use Rattle.pyd_measure.specs.Limit.{deepest}
use Rattle.pyd_measure.specs.Parts.{fits_in}
use Rattle.pyd_measure.specs.Measurings.{at, arity, measured, header_nesting, measuring_of}

-- the number of suites round a token, from that behind it
abbrev pub suites_before : TokenKind → ℕ → ℕ
suites_before kind.Dedent n = suc n
suites_before kind.Indent n = n - 1
suites_before k n = n

-- a token before what is known
abbrev pub shifted : TokenKind → State → State
shifted k s =
    record { suites = suites_before k s.suites; measures = measure.Other ∷ s.measures; found = s.found }

-- the lines, where a statement or header of this nesting in this line comes before those that they were found in
abbrev pub noted : Option ℕ → ℕ → State → Measured
noted None line s = s.found
noted (Some n) line s =
    record {
      deep = cond (ltb deepest (s.suites + n)) (Some line) s.found.deep;
      target = cond (fits_in (at s.measures 0) (at s.measures 1)) s.found.target (Some line);
    }

-- a production over the parts in front
abbrev pub expanded : Measuring → ℕ → State → State
expanded w line s =
    record {
      suites = s.suites;
      measures = measured w s.measures ∷ drop (arity w) s.measures;
      found = noted (header_nesting w s.measures) line s;
    }

-- what is known behind the last step
abbrev pub start : State
start = record { suites = 0; measures = []; found = record { deep = None; target = None } }

-- what is known at the first of these steps and tokens, which are the last ones
abbrev pub state : List Step → List Token → State
state [] ts = start
state (Shift ∷ steps) [] = shifted no_token.kind (state steps [])
state (Shift ∷ steps) (t ∷ ts) = shifted t.kind (state steps ts)
state (Expand p ∷ steps) ts = expanded (measuring_of p) (line_of ts) (state steps ts)

-- one step back, from a place among the tokens to one
abbrev pub Back : List Token → Step → State → ℕ → State → ℕ → Type 0
Back ts Shift s i u j = (j + 1 ≡ i) × (u ≡ shifted (get_or ts j no_token).kind s)
Back ts (Expand p) s i u j = (j ≡ i) × (u ≡ expanded (measuring_of p) (line_of (drop i ts)) s)
