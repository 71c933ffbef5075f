-- A desk is that of what becomes of a state.
use Rattle.std.proofs.Common.{◌≡◌, ℕ, ◌<◌, List, length, set, refl, ap, sym, subst, ◌∙◌, length-set}
use Rattle.pyd_runs.specs.Effects.{State}
use Rattle.pyd_desk.specs.declared.desk.Desk.{Desk}
use Rattle.pyd_desk.specs.declared.desk.Mark.{Mark}
use Rattle.pyd_desk.specs.declared.desk.PortKind.{PortKind}
use Rattle.pyd_desk.specs.declared.line.Line.{Line}
use Rattle.pyd_desk.specs.Desks.{desk_of, driver_of, is_lost, mark_at}
use Rattle.pyd_desk.specs.States.{Becomes, IsStateOf}
use Rattle.pyd_desk.proofs.Numbers.{through, unchanged}
use Rattle.pyd_desk.proofs.Written.{put_mark}

-- a state with what the desk stands for
abbrev pub with_books : State → Desk → State
with_books s d = record s {
  graph = record s.graph { driver = driver_of d };
  desk = desk_of d;
  lost = is_lost d.alive.items;
}

-- one desk has places as another, and tells the same of ports
pub record HasSameShape (old new : Desk) : Type 0 where
  pub marks : length new.marks.items ≡ length old.marks.items
  pub driver : length new.driver.items ≡ length old.driver.items
  pub ports : (k : ℕ) → (mark_at new.marks.items k).ports ≡ (mark_at old.marks.items k).ports

-- a mark that was written tells the same of ports
set_ports : (marks : List Mark) (k : ℕ) (m : Mark) → k < length marks
    → m.ports ≡ (mark_at marks k).ports
    → ◌≡◌ {A = ℕ → PortKind} (λ n. (mark_at (set marks k m) n).ports) (λ n. (mark_at marks n).ports)
set_ports marks k m within same =
    let ports : (ℕ → Mark) → ℕ → PortKind = (λ f n. (f n).ports) in
    ap ports (put_mark marks k m within)
    ∙ through (λ n x. x.ports) (mark_at marks) k m
    ∙ unchanged (λ n. (mark_at marks n).ports) k m.ports same

-- so a desk with this mark has the same shape
pub put_shape : (old new : Desk) (k : ℕ) (m : Mark) → k < length old.marks.items
    → new.marks.items ≡ set old.marks.items k m → m.ports ≡ (mark_at old.marks.items k).ports
    → length new.driver.items ≡ length old.driver.items → HasSameShape old new
put_shape old new k m within e same driver = record {
  marks = ap length e ∙ length-set old.marks.items k m;
  driver = driver;
  ports = λ n. ap (λ xs. (mark_at xs n).ports) e
      ∙ ap (λ (f : ℕ → PortKind). f n) (set_ports old.marks.items k m within same);
}

-- what line and desk are of their state is there already
pub books_are : (line : Line) (d : Desk) (s : State) → IsStateOf line d s → with_books s d ≡ s
books_are line d s is = λ i. record s {
  graph = record s.graph { driver = sym is.graph.driver i };
  desk = sym is.desk i;
  lost = sym is.lost i;
}

module _ (line : Line) (old new : Desk) (s : State) (shape : HasSameShape old new)
    (is : IsStateOf line old s) where
  -- another desk of this shape is that of the state with what that desk stands for
  state_by_books : IsStateOf line new (with_books s new)
  state_by_books = record {
    graph = record {
      past = is.graph.past;
      chain = is.graph.chain;
      driver = refl;
      ports = λ k. shape.ports k ∙ is.graph.ports k;
    };
    desk = refl;
    lost = refl;
    marks = shape.marks ∙ is.marks;
    driver = shape.driver ∙ is.driver;
  }

  -- so it is that of what an effect makes of the state, where it stands for that
  pub state_by : (effect : State → State) → with_books s new ≡ effect (with_books s old)
      → IsStateOf line new (effect s)
  state_by effect e =
      subst (IsStateOf line new) (e ∙ ap effect (books_are line old s is)) state_by_books

-- of every state
pub becomes : (old new : Desk) (effect : State → State) → HasSameShape old new
    → ((s : State) → with_books s new ≡ effect (with_books s old)) → Becomes old new effect
becomes old new effect shape are line s is = state_by line old new s shape is effect (are s)
