-- Events of tickets, claims and losses leave what was put out, and what comes next.
use Rattle.std.proofs.Common.{◌≡◌, List, [], ◌∷◌, refl, ap, ◌∙◌}
use Rattle.std.specs.List.{All}
use Rattle.std.proofs.lemmas.List.Elements.{All-head, All-tail}
use Rattle.pyd_board.specs.declared.event.Event.{Event}
use Rattle.pyd_ir.specs.declared.node.Node.{Node}
use Rattle.pyd_ir.specs.Inputs.{leaf_meaning}
use Rattle.pyd_runs.specs.Effects.{State, happens}
use Rattle.pyd_runs.specs.Facts.{IsAlike, IsDeskAct}
use Rattle.pyd_runs.specs.Graphs.{Graph}
use Rattle.pyd_runs.specs.Plans.{Plan, limits_of}
use Rattle.pyd_runs.specs.Replay.{after}
use Rattle.pyd_runs.proofs.Unchanged.{desk_leaves}
use Rattle.pyd_steps.specs.Settling.{head_lines, lines_at, lines_of}

-- a graph is like itself
same_alike : (g : Graph) → IsAlike g g
same_alike g = record {
  past = refl;
  chain = refl;
  next = refl;
  given = refl;
  out = refl;
  end = refl;
}

-- and like one that is like another
alike_further : (g h i : Graph) → IsAlike g h → IsAlike h i → IsAlike g i
alike_further g h i one other = record {
  past = other.past ∙ one.past;
  chain = other.chain ∙ one.chain;
  next = other.next ∙ one.next;
  given = other.given ∙ one.given;
  out = other.out ∙ one.out;
  end = other.end ∙ one.end;
}

-- so they leave the graph
pub alike_after : (p : Plan) (s : State) (es : List Event) → All (λ e. IsDeskAct e.act) es
    → IsAlike s.graph (after p s es).graph
unfolding after
alike_after p s [] all = same_alike s.graph
alike_after p s (e ∷ es) all =
    alike_further s.graph (happens p s e).graph (after p (happens p s e) es).graph
    (desk_leaves p s e (All-head (λ e. IsDeskAct e.act) e es all))
    (alike_after p (happens p s e) es (All-tail (λ e. IsDeskAct e.act) e es all))

-- the lines of the first are by what is given
lines_given : (p : Plan) (g h : Graph) (ns : List Node) → h.given ≡ g.given
    → lines_at p h ns ≡ lines_at p g ns
lines_given p g h [] same = refl
lines_given p g h (n ∷ rest) same =
    ap (λ given. lines_of (leaf_meaning p.file (limits_of p) given n)) same

-- the head's lines are the same
pub head_alike : (p : Plan) (g h : Graph) → IsAlike g h → head_lines p h ≡ head_lines p g
head_alike p g h alike =
    ap (lines_at p h) alike.chain ∙ lines_given p g h g.chain alike.given
