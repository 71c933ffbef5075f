-- A core before any event.
use Rattle.std.proofs.Common.{◌≡◌, ℕ, List, [], ◌∷◌, length, take, drop, refl, ap, sym, subst, ◌∙◌, arith}
use Rattle.pyd_translate.specs.Laws.{BlockOrder, IsInOrder, IsDoneBelow}
use Rattle.pyd_translate.specs.Matching.{AreBelow, AreNumbered}
use Rattle.pyd_translate.specs.Slots.{unbound_slots}
use Rattle.pyd_board.specs.declared.event.Event.{Event}
use Rattle.pyd_runs.specs.Effects.{first_state}
use Rattle.pyd_runs.specs.Graphs.{end_at, module_piece}
use Rattle.pyd_runs.specs.Laws.{IsRunnable}
use Rattle.pyd_runs.specs.Plans.{Plan}
use Rattle.pyd_runs.specs.Replay.{IsLegal, IsLegalFrom, after, replay}
use Rattle.pyd_core.specs.declared.keeper.Core.{Core}
use Rattle.pyd_core.specs.Cores.{HasRoom, IsCore, IsFew, IsTied, plan_of}
use Rattle.pyd_core.specs.Starting.{HasFirst}

-- a core of such parts
pub record HasBegun (c : Core) : Type 0 where
  pub runnable : IsRunnable (plan_of c)
  pub few : IsFew c.setup
  pub parts : HasFirst c.program c.setup (record { line = c.line; desk = c.desk; log = c.log })
  pub lost : c.lost ≡ 0
  pub end : c.end ≡ end_at c.line.nodes.items

-- where no slot is bound, no node is named
unbound_below : {A : Type 0} (slots : List A) → AreBelow 0 (unbound_slots slots)
unbound_below [] = tt
unbound_below (slot ∷ slots) = (tt, unbound_below slots)

-- the nodes of a script are numbered from 0
script_order : BlockOrder → (p : Plan) → IsInOrder 0 (module_piece p) IsDoneBelow
script_order order p = order p.file 0 0 _ [] 0 _ tt (unbound_below _)

-- no event is a legal run, which changes nothing
no_event : (p : Plan) (es : List Event) → es ≡ []
    → (first_state p ≡ replay p es) × IsLegal p es
unfolding after IsLegalFrom
no_event p [] none = (refl, tt)
no_event p (e ∷ es) none = absurd (cc (none))

module _ (order : BlockOrder) (c : Core) (b : HasBegun c) where
  -- the nodes
  in_order : IsInOrder 0 (module_piece (plan_of c)) IsDoneBelow
  in_order = script_order order (plan_of c)

  -- there are as many numbers as nodes
  numbered : (n : ℕ) → n ≡ length c.line.nodes.items → n ≡ (first_state (plan_of c)).graph.next
  numbered n all =
      let is = in_order.next in
      let nodes : length c.line.nodes.items ≡ length (module_piece (plan_of c)).nodes
      = ap length b.parts.nodes in
      omega (arith, is, nodes, all)

  first_tied : IsTied c (first_state (plan_of c))
  first_tied = record {
    state = record {
      graph = record {
        past = sym (ap (λ n. take n c.line.nodes.items) b.parts.settled);
        chain = sym (ap (λ n. drop n c.line.nodes.items) b.parts.settled ∙ b.parts.nodes);
        driver = sym b.parts.desk.kept;
        ports = b.parts.desk.ports (subst (AreNumbered 0) (sym b.parts.nodes) in_order.nodes);
      };
      desk = sym b.parts.desk.desk;
      lost = sym b.parts.desk.lost;
      marks = numbered (length c.desk.marks.items) b.parts.desk.marks;
      driver = numbered (length c.desk.driver.items) b.parts.desk.driver;
    };
    end = ap end_at (sym b.parts.nodes) ∙ sym b.end;
    losses = sym (ap (λ n. drop n c.setup.losses) b.lost);
  }

  first_room : HasRoom 0 c
  first_room =
      let none = ap length b.parts.journal in
      let all = ap (λ n. length (drop n c.setup.losses)) b.lost in
      omega (arith, none, all, b.parts.room)

  -- a core
  pub begins : IsCore c
  begins =
      let none = no_event (plan_of c) c.log.journal.items b.parts.journal in
      record {
        runnable = b.runnable;
        few = b.few;
        legal = none.1;
        tied = subst (IsTied c) none.0 first_tied;
        places = record {
          settled = let z = b.parts.settled in omega (arith, z);
          stores = b.parts.desk.stores;
          alive = b.parts.desk.alive;
          seats = b.parts.seats;
        };
        counted = b.parts.counted;
        room = first_room;
      }
