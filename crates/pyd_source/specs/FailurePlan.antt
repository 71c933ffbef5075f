-- Calls that fail at set numbers and move a few bytes at a time.
use Rattle.std.specs.Prelude.{ℕ, Bool, List, [], ◌∷◌, Option, Some, None, refl}
use Rattle.std.specs.Coded.{Coded, code_by, coded×, coded_list, coded_ℕ}
use Rattle.pyd_source.specs.Faults.{count_after, raised}

-- the numbers of the calls that fail, the most bytes that a call moves, the next call's number, and the faults so far
pub record FailurePlan : Type 0 where
  pub fails : List ℕ
  pub step : ℕ
  pub number : ℕ
  pub faults : ℕ

-- before the first call
abbrev pub begun : List ℕ → ℕ → FailurePlan
begun fails step = record { fails = fails; step = step; number = 0; faults = 0 }

-- after a call that failed or didn't
abbrev pub called : Bool → FailurePlan → FailurePlan
called failed plan = record plan {
  number = raised plan.number;
  faults = count_after failed plan.faults;
}

-- what a source in memory has left, and how its calls go
pub record Supply : Type 0 where
  pub left : List ℕ
  pub plan : FailurePlan

-- what a sink in memory holds, how much more it takes, and how its calls go
pub record Store : Type 0 where
  pub held : List ℕ
  pub room : ℕ
  pub plan : FailurePlan

-- the room is told where no number fails
abbrev pub told_room : Store → Option ℕ
told_room store = told store.plan.fails
  where
    told : List ℕ → Option ℕ
    told [] = Some store.room
    told (_ ∷ _) = None

-- how the fields of a plan are coded
abbrev pub plan_code : Coded FailurePlan
plan_code =
    code_by (List ℕ × (ℕ × (ℕ × ℕ))) (coded× (coded_list coded_ℕ) (coded× coded_ℕ (coded× coded_ℕ coded_ℕ)))
    (λ s. (s.fails, (s.step, (s.number, s.faults)))) (λ p. record { fails = p.0; step = p.1.0; number = p.1.1.0; faults = p.1.1.1 }) (λ _. refl)

-- how the fields of a supply are coded
abbrev pub supply_code : Coded Supply
supply_code =
    code_by (List ℕ × FailurePlan) (coded× (coded_list coded_ℕ) plan_code)
    (λ s. (s.left, s.plan)) (λ p. record { left = p.0; plan = p.1 }) (λ _. refl)

-- how the fields of a store are coded
abbrev pub store_code : Coded Store
store_code =
    code_by (List ℕ × (ℕ × FailurePlan)) (coded× (coded_list coded_ℕ) (coded× coded_ℕ plan_code))
    (λ s. (s.held, (s.room, s.plan))) (λ p. record { held = p.0; room = p.1.0; plan = p.1.1 }) (λ _. refl)
