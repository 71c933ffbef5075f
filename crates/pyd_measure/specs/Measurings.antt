-- How the measure of each production comes from those of its parts.
use Rattle.std.specs.Prelude.{ℕ, List, [], ◌∷◌, get_or, map, Option, Some, None, option_map}
use Rattle.pyd_value.specs.Size.{greatest}
use Rattle.pyd_measure.specs.declared.measures.Measure.{Measure}
use Rattle.pyd_measure.specs.declared.measures.Measure.TheVariants as measure
use Rattle.pyd_measure.specs.declared.measuring.Measuring.{Measuring}
use Rattle.pyd_measure.specs.declared.measuring.Measuring.TheVariants.{Nothing, Same, Second, Unmeasured, If, Elifs, While, For, Simple, Jump, Return, Assert, Assign, Augment, Tests, Comma, Test, Condition, Junction, Member, Unary, Compare, Compared, NotIn, Chain, Link, Power, Suffixed, Suffix, Sub, Upper, Bound, Name, Literal, Group, Arguments}
use Rattle.pyd_measure.specs.Parts.{counted}
use Rattle.pyd_measure.specs.Combining as combining

-- the places of the parts whose nesting counts, of a statement or a header
abbrev pub places : Measuring → Option (List ℕ)
places Nothing = None
places Same = None
places Second = None
places (Unmeasured n) = None
places If = Some (1 ∷ [])
places Elifs = Some (1 ∷ [])
places While = Some (1 ∷ [])
places For = Some (4 ∷ [])
places Simple = Some (0 ∷ 1 ∷ [])
places Jump = Some ([])
places Return = Some (1 ∷ [])
places Assert = Some (1 ∷ 2 ∷ [])
places Assign = None
places Augment = None
places Tests = None
places Comma = None
places Test = None
places Condition = None
places Junction = None
places Member = None
places Unary = None
places Compare = None
places Compared = None
places NotIn = None
places Chain = None
places Link = None
places Power = None
places Suffixed = None
places Suffix = None
places Sub = None
places Upper = None
places Bound = None
places Name = None
places Literal = None
places Group = None
places Arguments = None

-- how many parts are measured together
abbrev pub arity : Measuring → ℕ
arity Nothing = 0
arity Same = 1
arity Second = 2
arity (Unmeasured n) = n
arity If = 5
arity Elifs = 4
arity While = 3
arity For = 6
arity Simple = 3
arity Jump = 2
arity Return = 3
arity Assert = 4
arity Assign = 2
arity Augment = 2
arity Tests = 2
arity Comma = 2
arity Test = 2
arity Condition = 4
arity Junction = 2
arity Member = 3
arity Unary = 2
arity Compare = 2
arity Compared = 3
arity NotIn = 4
arity Chain = 2
arity Link = 3
arity Power = 2
arity Suffixed = 2
arity Suffix = 4
arity Sub = 2
arity Upper = 2
arity Bound = 2
arity Name = 2
arity Literal = 1
arity Group = 3
arity Arguments = 3

-- the measure of the part at this place
abbrev pub at : List Measure → ℕ → Measure
at ms i = get_or ms i measure.Nothing

-- the measure of the parts in front together
abbrev pub measured : Measuring → List Measure → Measure
measured Nothing ms = measure.Nothing
measured Same ms = at ms 0
measured Second ms = at ms 1
measured (Unmeasured n) ms = measure.Other
measured If ms = measure.Other
measured Elifs ms = measure.Other
measured While ms = measure.Other
measured For ms = measure.Other
measured Simple ms = measure.Other
measured Jump ms = measure.Other
measured Return ms = measure.Other
measured Assert ms = measure.Other
measured Assign ms = combining.assign (at ms 1)
measured Augment ms = combining.augment (at ms 1)
measured Tests ms = combining.tests (at ms 0) (at ms 1)
measured Comma ms = combining.comma (at ms 1)
measured Test ms = combining.test (at ms 0) (at ms 1)
measured Condition ms = combining.condition (at ms 1) (at ms 3)
measured Junction ms = combining.junction (at ms 0) (at ms 1)
measured Member ms = combining.member (at ms 1) (at ms 2)
measured Unary ms = combining.unary (at ms 1)
measured Compare ms = combining.compare (at ms 0) (at ms 1)
measured Compared ms = combining.compared (at ms 1) (at ms 2)
measured NotIn ms = combining.compared (at ms 2) (at ms 3)
measured Chain ms = combining.chain (at ms 0) (at ms 1)
measured Link ms = combining.link (at ms 1) (at ms 2)
measured Power ms = combining.power (at ms 0) (at ms 1)
measured Suffixed ms = combining.suffixed (at ms 0) (at ms 1)
measured Suffix ms = combining.suffix (at ms 1) (at ms 3)
measured Sub ms = combining.sub (at ms 0) (at ms 1)
measured Upper ms = combining.upper (at ms 1)
measured Bound ms = combining.bound (at ms 1)
measured Name ms = combining.name (at ms 1)
measured Literal ms = combining.literal
measured Group ms = combining.group (at ms 1)
measured Arguments ms = combining.arguments (at ms 1)

-- the nesting of a statement or a header without the suites round it
abbrev pub header_nesting : Measuring → List Measure → Option ℕ
header_nesting w ms = option_map (λ is. greatest (map (λ i. counted (at ms i)) is)) (places w)

-- how each production is measured, rule by rule in the order of the grammar
unfoldable pub table : List Measuring
table =
    -- file
    Same ∷
    -- items
    Unmeasured 2 ∷ Unmeasured 1 ∷
    -- item
    Same ∷ Unmeasured 1 ∷ Unmeasured 1 ∷
    -- import
    Unmeasured 6 ∷
    -- names_rest
    Unmeasured 3 ∷ Nothing ∷
    -- def
    Unmeasured 4 ∷ Unmeasured 6 ∷
    -- params
    Unmeasured 2 ∷ Nothing ∷
    -- params_rest
    Second ∷ Nothing ∷
    -- suite
    Unmeasured 6 ∷
    -- stmts
    Unmeasured 2 ∷ Nothing ∷
    -- stmt
    Same ∷ Same ∷ Same ∷ Same ∷
    -- if
    If ∷
    -- elifs
    Elifs ∷ Nothing ∷
    -- else
    Second ∷ Nothing ∷
    -- while
    While ∷
    -- for
    For ∷
    -- targets
    Unmeasured 2 ∷ Nothing ∷
    -- targets_rest
    Unmeasured 2 ∷ Nothing ∷
    -- simple
    Simple ∷ Jump ∷ Jump ∷ Jump ∷ Return ∷ Assert ∷
    -- assignment
    Assign ∷ Augment ∷ Nothing ∷
    -- message
    Second ∷ Nothing ∷
    -- optional_tests
    Same ∷ Nothing ∷
    -- tests
    Tests ∷
    -- tests_rest
    Comma ∷ Nothing ∷
    -- test
    Test ∷
    -- conditional
    Condition ∷ Nothing ∷
    -- or
    Junction ∷
    -- or_rest
    Member ∷ Nothing ∷
    -- and
    Junction ∷
    -- and_rest
    Member ∷ Nothing ∷
    -- not
    Unary ∷ Same ∷
    -- compare
    Compare ∷
    -- compare_rest
    Compared ∷ Compared ∷ NotIn ∷ Nothing ∷
    -- bits
    Chain ∷
    -- bits_rest
    Link ∷ Nothing ∷
    -- xor
    Chain ∷
    -- xor_rest
    Link ∷ Nothing ∷
    -- band
    Chain ∷
    -- band_rest
    Link ∷ Nothing ∷
    -- shift
    Chain ∷
    -- shift_rest
    Link ∷ Nothing ∷
    -- arith
    Chain ∷
    -- arith_rest
    Link ∷ Nothing ∷
    -- term
    Chain ∷
    -- term_rest
    Link ∷ Nothing ∷
    -- factor
    Unary ∷ Same ∷
    -- power
    Power ∷
    -- exponent
    Second ∷ Nothing ∷
    -- suffixed
    Suffixed ∷
    -- suffixes
    Suffix ∷ Nothing ∷
    -- sub
    Sub ∷ Upper ∷
    -- bound
    Bound ∷ Nothing ∷
    -- optional_test
    Same ∷ Nothing ∷
    -- atom
    Name ∷ Literal ∷ Literal ∷ Literal ∷ Group ∷
    -- arguments
    Arguments ∷ Nothing ∷
    []

-- how a production is measured
abbrev pub measuring_of : ℕ → Measuring
measuring_of p = get_or table p Nothing
