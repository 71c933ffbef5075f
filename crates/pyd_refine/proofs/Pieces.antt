-- When the piece of a composite takes its place: by what its nodes do, and how many steps a composite counts.
use Rattle.std.proofs.Common.{◌≡◌, ℕ, ◌+◌, ◌*◌, ◌≤◌, ◌<◌, List, append-nil, refl, sym, ap, subst, ◌∙◌, arith, Option, Some, None, Result, Ok, Err}
use Rattle.pyd_value.specs.declared.value.Value.{Value}
use Rattle.pyd_value.specs.declared.fault.Fault.{Fault}
use Rattle.pyd_tree.specs.declared.file.File.{File}
use Rattle.pyd_names.specs.Binding.{locals}
use Rattle.pyd_meaning.specs.declared.limits.Limits.{Limits}
use Rattle.pyd_meaning.specs.Evaluation.{Evaluation, settled, gives, go_on, ◌>>=◌}
use Rattle.pyd_ir.specs.declared.arg.Arg.{Arg}
use Rattle.pyd_ir.specs.Inputs.{Given}
use Rattle.pyd_ir.specs.Ports.{Ports, only_port}
use Rattle.pyd_translate.specs.Making.{Piece, Making, pure, ◌>>>◌}
use Rattle.pyd_translate.specs.Statements.{Done}
use Rattle.pyd_translate.specs.Walk.{Finish, slot_values, count_composite, walk}
use Rattle.pyd_translate.specs.Matching.{HasValue, IsFinish, Relation, AreAlike, IsReached, Matches}
use Rattle.pyd_translate.proofs.Sequencing.{matches-then, matches-pure}
use Rattle.pyd_translate.proofs.Slots.{IsWithin, slots_within}
use Rattle.pyd_refine.specs.Composites.{only_value}
use Rattle.pyd_refine.specs.Readiness.{Yields, ArePorts, TakesPlace}
use Rattle.pyd_refine.proofs.Ports.{AreImages, locals-distinct, finish-ports, value-ports}

-- the walk of a piece that was made from number ids takes the place of a node, and what stands in the place of the node's ports is given
pub record Replaces (file : File) (limits : Limits) (ids : ℕ) (given : Given) (p : Piece Done)
    (node : Evaluation Ports) : Type 0 where
  pub lines : (walk file limits p.nodes given).lines ≡ node.lines
  pub ends :
      AreAlike (walk file limits p.nodes given).result p.got node.result
      (IsReached ids given p.next AreImages)
  pub fewer : (walk file limits p.nodes given).steps < node.steps

alike-by : {A B : Type 0} (wr : Result Given Fault) (got : Option A) (mr : Result B Fault)
    (R S : Given → A → B → Type 0)
    → ((after : Given) (a : A) (b : B) → R after a b → S after a b) → AreAlike wr got mr R → AreAlike wr got mr S
alike-by (Ok after) (Some a) (Ok b) R S to alike = to after a b alike
alike-by (Ok after) None (Ok b) R S to alike = absurd alike
alike-by (Ok after) got (Err f) R S to alike = absurd alike
alike-by (Err f) got (Ok b) R S to alike = absurd alike
alike-by (Err f) (Some a) (Err e) R S to alike = alike
alike-by (Err f) None (Err e) R S to alike = alike

-- it takes the node's place
pub replaces-takes : (file : File) (limits : Limits) (ids : ℕ) (given : Given) (p : Piece Done)
    (node : Evaluation Ports)
    → Replaces file limits ids given p node → TakesPlace file limits ids given p node
replaces-takes file limits ids given p node is = record {
  lines = is.lines;
  ends =
      alike-by (walk file limits p.nodes given).result p.got node.result
      (IsReached ids given p.next AreImages) (IsReached ids given p.next ArePorts)
      (λ after d ports reached. record { grown = reached.grown; kept = reached.kept; related = reached.related.0 }) is.ends;
  fewer = is.fewer;
}

module _ (file : File) (limits : Limits) (more ids : ℕ) (given : Given) where
  mapped : {A B C : Type 0} (p : Piece A) (R : Relation A B) (S : Relation A C) (f : B → C)
      → ((next : ℕ) (after : Given) (a : A) (b : B) → R next after a b → S next after a (f b))
      → (wr : Result Given Fault) (got : Option A) (ml : List (List ℕ)) (mr : Result B Fault) (ms : ℕ)
      → (walk file limits p.nodes given).lines ≡ ml
      → AreAlike wr got mr (IsReached ids given p.next R)
      → (walk file limits p.nodes given).result ≡ wr → p.got ≡ got
      → (walk file limits p.nodes given).steps ≤ 4 * ms + more
      → Matches file limits more ids given p (go_on ml ms mr (λ b. gives (f b))) S
  unfolding settled
  mapped p R S f to (Ok after) (Some a) ml (Ok b) ms lines ends is got steps = record {
    lines = lines ∙ sym (append-nil ml);
    ends =
        subst (λ r. AreAlike r p.got (Ok (f b)) (IsReached ids given p.next S)) (sym is)
        (subst (λ g. AreAlike (Ok after) g (Ok (f b)) (IsReached ids given p.next S)) (sym got)
        (record { grown = ends.grown; kept = ends.kept; related = to p.next after a b ends.related }));
    steps = omega (arith, steps);
  }
  mapped p R S f to (Ok after) None ml (Ok b) ms lines ends is got steps = absurd ends
  mapped p R S f to (Ok after) g ml (Err e) ms lines ends is got steps = absurd ends
  mapped p R S f to (Err d) g ml (Ok b) ms lines ends is got steps = absurd ends
  mapped {C = C} p R S f to (Err d) (Some a) ml (Err e) ms lines ends is got steps = record {
    lines = lines;
    ends =
        subst (λ r. AreAlike {B = C} r p.got (Err e) (IsReached ids given p.next S)) (sym is)
        (subst (λ g. AreAlike {B = C} (Err d) g (Err e) (IsReached ids given p.next S)) (sym got) ends);
    steps = steps;
  }
  mapped {C = C} p R S f to (Err d) None ml (Err e) ms lines ends is got steps = record {
    lines = lines;
    ends =
        subst (λ r. AreAlike {B = C} r p.got (Err e) (IsReached ids given p.next S)) (sym is)
        (subst (λ g. AreAlike {B = C} (Err d) g (Err e) (IsReached ids given p.next S)) (sym got) ends);
    steps = steps;
  }

  -- what is made of what an evaluation gives
  pub matches-map : {A B C : Type 0} (p : Piece A) (m : Evaluation B) (R : Relation A B) (S : Relation A C) (f : B → C)
      → ((next : ℕ) (after : Given) (a : A) (b : B) → R next after a b → S next after a (f b))
      → Matches file limits more ids given p m R
      → Matches file limits more ids given p (m >>= (λ b. gives (f b))) S
  unfolding ◌>>=◌
  matches-map p m R S f to is =
      mapped p R S f to (walk file limits p.nodes given).result p.got m.lines m.result m.steps
      is.lines is.ends refl refl is.steps

  -- a composite counts more steps than its piece
  pub takes-place : (frames : ℕ) (p : Piece Done) (m : Evaluation Ports) → more ≤ 1 + 2 * frames
      → Matches file limits more ids given p m AreImages
      → Replaces file limits ids given p (count_composite frames m)
  takes-place frames p m le is = record {
    lines = is.lines;
    ends = is.ends;
    fewer = let q = is.steps in omega (arith, le, q);
  }

  -- a piece of statements in the place of a composite with slots
  pub takes-slots : (routine frames : ℕ) (p : Piece Done) (m : Evaluation Finish) → more ≤ 1 + 2 * frames
      → Matches file limits more ids given p m (IsFinish (locals file routine))
      → Replaces file limits ids given p
      (count_composite frames (m >>= (λ fin. gives (slot_values (locals file routine) fin.names fin.value))))
  takes-slots routine frames p m le is =
      takes-place frames p _ le
      (matches-map p m (IsFinish (locals file routine)) AreImages
      (λ fin. slot_values (locals file routine) fin.names fin.value)
      (λ next after d fin. finish-ports (locals file routine) next after d fin (locals-distinct file routine)) is)

  yields-go : {A B : Type 0} (R : Given → A → B → Type 0) (P : B → Type 0)
      → ((after : Given) (a : A) (b : B) → R after a b → P b)
      → (wr : Result Given Fault) (got : Option A) (mr : Result B Fault) → AreAlike wr got mr R
      → (b : B) → mr ≡ Ok b → P b
  yields-go R P to (Ok after) (Some a) (Ok b) alike c e = subst P (the_value b c e) (to after a b alike)
    where
      or_other : {B : Type 0} → B → Result B Fault → B
      or_other d (Ok x) = x
      or_other d (Err f) = d

      the_value : {B : Type 0} (b c : B) → ◌≡◌ {A = Result B Fault} (Ok b) (Ok c) → b ≡ c
      the_value b c e = ap (or_other b) e
  yields-go R P to (Ok after) None (Ok b) alike c e = absurd alike
  yields-go R P to (Err d) got (Ok b) alike c e = absurd alike
  yields-go R P to wr got (Err f) alike c e = absurd (cc e)

  -- statements that nodes do end with slots alone
  pub matches-within : (slots : List (List ℕ)) (p : Piece Done) (m : Evaluation Finish)
      → Matches file limits more ids given p m (IsFinish slots) → Yields m (λ fin. IsWithin slots fin.names)
  matches-within slots p m is =
      yields-go (IsReached ids given p.next (IsFinish slots)) (λ fin. IsWithin slots fin.names)
      (λ after d fin reached. slots_within slots p.next after d.env fin.names reached.related.env)
      (walk file limits p.nodes given).result p.got m.result is.ends

-- a value and no slots
pub only-value : (file : File) (limits : Limits) (more ids : ℕ) (given : Given) (u : Making Arg) (m : Evaluation Value)
    → Matches file limits more ids given (u ids) m HasValue
    → Matches file limits more ids given ((u >>> (λ a. pure (only_value a))) ids) (m >>= (λ v. gives (only_port v))) AreImages
only-value file limits more ids given u m is =
    let count : more + 0 ≡ more = omega arith in
    subst (λ n. Matches file limits n ids given ((u >>> (λ a. pure (only_value a))) ids) (m >>= (λ v. gives (only_port v))) AreImages) count
    (matches-then file limits more 0 ids given HasValue AreImages u (λ a. pure (only_value a)) m (λ v. gives (only_port v)) is
    (λ next mid a v reached. matches-pure file limits 0 next mid AreImages (only_value a) (only_port v)
    (value-ports next mid a v reached.related)))

-- the value of a piece of statements, and no slots
pub only-returned : (file : File) (limits : Limits) (more ids : ℕ) (given : Given) (slots : List (List ℕ)) (u : Making Done) (m : Evaluation Finish)
    → Matches file limits more ids given (u ids) m (IsFinish slots)
    → Matches file limits more ids given ((u >>> (λ d. pure (only_value d.value))) ids) (m >>= (λ fin. gives (only_port fin.value))) AreImages
only-returned file limits more ids given slots u m is =
    let count : more + 0 ≡ more = omega arith in
    subst (λ n. Matches file limits n ids given ((u >>> (λ d. pure (only_value d.value))) ids) (m >>= (λ fin. gives (only_port fin.value))) AreImages) count
    (matches-then file limits more 0 ids given (IsFinish slots) AreImages u (λ d. pure (only_value d.value)) m (λ fin. gives (only_port fin.value)) is
    (λ next mid d fin reached. matches-pure file limits 0 next mid AreImages (only_value d.value) (only_port fin.value)
    (value-ports next mid d.value fin.value reached.related.value)))
