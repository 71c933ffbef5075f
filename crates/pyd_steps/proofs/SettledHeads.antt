-- A core whose head is settled, and past nodes trimmed.
use Rattle.std.proofs.Common.{◌≡◌, ℕ, ◌⊎◌, List, [], ◌∷◌, ◌++◌, append_assoc, append-nil, refl, ap, sym, subst, ◌∙◌}
use Rattle.std.specs.List.{All, Contains}
use Rattle.std.proofs.lemmas.List.Elements.{All-cons, All-head, All-tail, All-weaker}
use Rattle.pyd_board.specs.declared.event.Act.{Act}
use Rattle.pyd_board.specs.declared.event.Act.TheVariants.{Place, Claim, Finish, Drop, Refine, Settle, Lose, Trim}
use Rattle.pyd_board.specs.declared.event.Event.{Event}
use Rattle.pyd_board.specs.Histories.{entries}
use Rattle.pyd_boards.specs.Boards.{entry}
use Rattle.pyd_boards.specs.Calls.{IsIn, NoneIn, kind_of, loses, trims}
use Rattle.pyd_boards.specs.Moves.{ComeDue, EndsIn}
use Rattle.pyd_meaning.specs.Module.{bytes_of}
use Rattle.pyd_runs.specs.Effects.{State, settled}
use Rattle.pyd_runs.specs.Enabled.{CanAct, CanSettle, CanTrim, IsLoss, IsQuiet}
use Rattle.pyd_runs.specs.Following.{BeginningLaw, JournalLaw, StepLaw}
use Rattle.pyd_runs.specs.Graphs.{Graph}
use Rattle.pyd_runs.specs.Laws.{PrefixLaw}
use Rattle.pyd_runs.specs.Plans.{IsSeat, Plan}
use Rattle.pyd_runs.specs.Reach.{Reached}
use Rattle.pyd_runs.specs.Replay.{replay}
use Rattle.pyd_core.specs.declared.keeper.Core.{Core}
use Rattle.pyd_core.specs.Cores.{IsCore, plan_of, state_of}
use Rattle.pyd_core.specs.Facts.{facts_of, may_come}
use Rattle.pyd_core.specs.Steps.{Stays}
use Rattle.pyd_steps.specs.declared.settling.Prepared.{Prepared}
use Rattle.pyd_steps.specs.declared.told.Told.{Told}
use Rattle.pyd_steps.specs.Settling.{Fails, FailsOut, HasUnreached, IsPrepared, IsTrimOrLoss, NoneTrimmable, SettlesAndTrims, SettlesOut, TrimsUnreached, Waits, head_lines}
use Rattle.pyd_steps.specs.Sinks.{Puts, PutsPart}
use Rattle.pyd_steps.proofs.HeadLines.{acted_settled, settled_lines}
use Rattle.pyd_steps.proofs.LastTrims.{event_graph, losses_graph}

-- where nothing was done, nothing was put
pub waits : (c : Core) (told : Told) → IsCore c → ((k : ℕ) → CanSettle (state_of c) k → ⊥)
    → Waits c c told told
waits c told core none = record {
  none = none;
  stays = record { core = core; plan = refl; journal = sym (append-nil c.log.journal.items) };
  same = refl;
}

-- a core with more room
module _ (b c : Core) (is : Stays b c) where
  entries_same : c.log.journal.items ≡ b.log.journal.items
  entries_same = is.journal ∙ append-nil b.log.journal.items

  state_same : state_of c ≡ state_of b
  state_same =
      ap (λ p. replay p c.log.journal.items) is.plan ∙ ap (replay (plan_of b)) entries_same

  lines_same : head_lines (plan_of c) (state_of c).graph ≡ head_lines (plan_of b) (state_of b).graph
  lines_same i = head_lines (is.plan i) (state_same i).graph

  pub quiet_still : IsQuiet (state_of b) → IsQuiet (state_of c)
  quiet_still quiet = subst IsQuiet (sym state_same) quiet

  pub seat_still : (seat : ℕ) → IsSeat (plan_of b) seat → IsSeat (plan_of c) seat
  seat_still seat seated = subst (λ p. IsSeat p seat) (sym is.plan) seated

  pub prepared_still : (prepared : Prepared) → IsPrepared (plan_of b) (state_of b) prepared
      → IsPrepared (plan_of c) (state_of c) prepared
  prepared_still prepared was =
      subst (λ p. IsPrepared p (state_of c) prepared) (sym is.plan)
      (subst (λ s. IsPrepared (plan_of b) s prepared) (sym state_same) was)

  -- what is made of it is made of the core as it was
  pub settles_then : (d : Core) (seat : ℕ) (told now : Told) → SettlesOut c d seat told now
      → SettlesOut b d seat told now
  settles_then d seat told now out =
      let k = out.settles.head.id in
      let was = out.settles.makes in
      record {
        settles = record {
          head = out.settles.head;
          rest = out.settles.rest;
          chain = ap (λ (s : State). s.graph.chain) (sym state_same) ∙ out.settles.chain;
          makes = record {
            core = was.core;
            plan = was.plan ∙ is.plan;
            journal = was.journal ∙ ap (λ es. es ++ entry es seat (Settle k) ∷ []) entries_same;
          };
          out = out.settles.out
              ∙ (λ i. (state_same i).graph.out ++ lines_same i);
        };
        puts = subst (λ lines. Puts told (bytes_of lines) now) lines_same out.puts;
      }

  pub unreached_still : (nodes : List ℕ)
      → HasUnreached (settled (plan_of b) (state_of b).graph) nodes
      → HasUnreached (settled (plan_of c) (state_of c).graph) nodes
  unreached_still nodes has =
      subst (λ p. HasUnreached (settled p (state_of c).graph) nodes) (sym is.plan)
      (subst (λ (s : State). HasUnreached (settled (plan_of b) s.graph) nodes) (sym state_same) has)

  pub fails_then : (told now : Told) → FailsOut c told now → FailsOut b told now
  fails_then told now part =
      subst (λ lines. PutsPart told (bytes_of lines) now) lines_same part

-- the graph behind a Settle
pub graph_settled : StepLaw → (p : Plan) (es : List Event) (seat k : ℕ)
    → (replay p (es ++ entry es seat (Settle k) ∷ [])).graph ≡ settled p (replay p es).graph
graph_settled step p es seat k =
    let v : Event = entry es seat (Settle k) in
    ap (λ (s : State). s.graph) (step p es v).state
    ∙ event_graph p (replay p es) v ∙ acted_settled p (replay p es) seat k

module _ (step : StepLaw) (c d : Core) (seat : ℕ) (told now : Told)
    (out : SettlesOut c d seat told now) where
  graph_then : (state_of d).graph ≡ settled (plan_of c) (state_of c).graph
  graph_then =
      ap (λ (s : State). s.graph) (ap (λ p. replay p d.log.journal.items) out.settles.makes.plan
      ∙ ap (replay (plan_of c)) out.settles.makes.journal)
      ∙ graph_settled step (plan_of c) c.log.journal.items seat out.settles.head.id

  -- what isn't reached there
  pub unreached_then : (nodes : List ℕ)
      → HasUnreached (settled (plan_of c) (state_of c).graph) nodes
      → HasUnreached (state_of d).graph nodes
  unreached_then nodes has =
      subst (λ (g : Graph). HasUnreached g nodes) (sym graph_then) has

  pub seat_then : IsSeat (plan_of c) seat → IsSeat (plan_of d) seat
  seat_then seated = subst (λ p. IsSeat p seat) (sym out.settles.makes.plan) seated

  -- its entries aren't losses alone
  pub not_losses : All (λ (e : Event). IsLoss e.act) d.log.journal.items → seat ≡ 0
  not_losses all =
      let v : Event = entry c.log.journal.items seat (Settle out.settles.head.id) in
      absurd (last_of (λ (e : Event). IsLoss e.act) c.log.journal.items v
      (subst (All (λ (e : Event). IsLoss e.act)) out.settles.makes.journal all))
    where
      last_of : {X : Type 0} (P : X → Type 0) (xs : List X) (x : X) → All P (xs ++ x ∷ []) → P x
      last_of P [] x all = All-head P x [] all
      last_of P (y ∷ ys) x all = last_of P ys x (All-tail P y (ys ++ x ∷ []) all)

-- a Trim may come only where a node may be trimmed, and the run goes on
trim_can : (p : Plan) (s : State) (seat : ℕ) (act : Act) → CanAct p s seat act
    → kind_of act ≡ trims → (k : ℕ) × (IsQuiet s × CanTrim s k)
trim_can p s seat (Trim k) can is = (k, can)
trim_can p s seat (Place k attempt machine) can is = absurd (cc (is))
trim_can p s seat (Claim k attempt machine) can is = absurd (cc (is))
trim_can p s seat (Finish k attempt machine) can is = absurd (cc (is))
trim_can p s seat (Drop k attempt machine) can is = absurd (cc (is))
trim_can p s seat (Refine k) can is = absurd (cc (is))
trim_can p s seat (Settle k) can is = absurd (cc (is))
trim_can p s seat (Lose machine) can is = absurd (cc (is))

loss_is : (act : Act) → kind_of act ≡ loses → IsLoss act
loss_is (Lose machine) is = tt
loss_is (Place k attempt machine) is = cc (is)
loss_is (Claim k attempt machine) is = cc (is)
loss_is (Finish k attempt machine) is = cc (is)
loss_is (Drop k attempt machine) is = cc (is)
loss_is (Refine k) is = cc (is)
loss_is (Settle k) is = cc (is)
loss_is (Trim k) is = cc (is)

can_same : (s t : State) (k : ℕ) → t.graph ≡ s.graph → CanTrim t k → CanTrim s k
can_same s t k same can = record {
  node = can.node;
  stands = subst (λ (g : Graph). Contains g.past can.node) same can.stands;
  number = can.number;
  unreached = λ r. can.unreached (subst (λ (g : Graph). Reached g k) (sym same) r);
}

-- where no node may be trimmed, no Trim may come behind losses either
none_comes : BeginningLaw → (p : Plan) (es due : List Event) → NoneTrimmable (replay p es)
    → ComeDue (facts_of p) (may_come p) 0 es due
    → NoneIn (facts_of p) (may_come p) trims 0 (es ++ due)
none_comes beginning p es due none come e may is =
    let s = replay p es in
    let t = replay p (es ++ due) in
    let same : t.graph ≡ s.graph
    = ap (λ (u : State). u.graph) (beginning p es due).state
    ∙ losses_graph p s due (All-weaker (IsIn (facts_of p) loses 0) (λ (x : Event). IsLoss x.act)
    (λ x of. loss_is x.act of.of_kind) due come.0.are_losses) in
    let can = trim_can p t e.by e.act may.1.act is.of_kind in
    none (ap (λ (g : Graph). g.end) (sym same) ∙ can.1.0.goes_on) can.0
    (can_same s t can.0 same can.1.1)

-- the head settled, and then Trims
pub settles_and_trims : BeginningLaw → (c d e : Core) (seat : ℕ) (told now : Told)
    → SettlesOut c d seat told now → TrimsUnreached d e seat → SettlesAndTrims c e seat told now
settles_and_trims beginning c d e seat told now out trimmed =
    let p = plan_of c in
    let es = c.log.journal.items in
    let made = out.settles.makes in
    let v : Event = entry es seat (Settle out.settles.head.id) in
    let own = v ∷ trimmed.own in
    let journal : e.log.journal.items ≡ es ++ own
    = trimmed.comes.journal ∙ ap (λ js. js ++ trimmed.own) made.journal
    ∙ append_assoc es (v ∷ []) trimmed.own in
    let plan : plan_of e ≡ p = trimmed.comes.plan ∙ made.plan in
    let state : state_of e ≡ replay p (es ++ own)
    = ap (λ q. replay q e.log.journal.items) plan ∙ ap (replay p) journal in
    record {
      own = own;
      comes = record { core = trimmed.comes.core; plan = plan; journal = journal };
      by = All-cons (λ (x : Event). x.by ≡ seat) v trimmed.own refl trimmed.by;
      settles = record {
        settled = v;
        more = trimmed.own;
        acts = refl;
        is_settle = record { of_kind = refl; in_run = refl };
        ends = subst (λ (q : Plan). (trimmed.own ≡ [])
            ⊎ EndsIn (facts_of q) (may_come q) trims 0 trimmed.own) made.plan trimmed.ends;
        are_trims = subst (λ (q : Plan). All (IsTrimOrLoss q) trimmed.own) made.plan
            trimmed.are_trims;
        none_left = λ due come. none_comes beginning p (es ++ own) due
            (subst NoneTrimmable state trimmed.none_left) come;
        answers = refl;
      };
      out = trimmed.out ∙ out.settles.out;
      puts = out.puts;
    }

-- the sink failed: what was put out and the head's lines begin the script's
fails : PrefixLaw → StepLaw → JournalLaw → (b c : Core) (seat : ℕ) (told now : Told)
    → Stays b c → IsCore b → IsSeat (plan_of b) seat → IsQuiet (state_of b) → (k : ℕ)
    → CanSettle (state_of b) k → FailsOut c told now → Fails b c told now
fails prefix step journals b c seat told now is core seated quiet k can part =
    let p = plan_of b in
    let es = b.log.journal.items in
    let v : Event = entry es seat (Settle k) in
    let s = state_of b in
    let legal = (step p es v).legal core.legal
    (record { seat = seated; nth = ap (entries seat) (sym (journals p es)); act = (quiet, can) }) in
    let first = prefix p (es ++ v ∷ []) core.runnable legal in
    record {
      number = k;
      can = can;
      more = first.0;
      begins = sym (append_assoc s.graph.out (head_lines p s.graph) first.0)
          ∙ ap (λ out. out ++ first.0) (sym (ap (λ (g : Graph). g.out)
          (graph_settled step p es seat k) ∙ settled_lines p s.graph))
          ∙ first.1;
      stays = is;
      part = fails_then b c is told now part;
    }

-- so it is of the core behind it, which is as it was
pub fails_same : PrefixLaw → StepLaw → JournalLaw → (b c d : Core) (seat : ℕ) (told now : Told)
    → Stays b c → IsCore b → IsSeat (plan_of b) seat → IsQuiet (state_of b) → (k : ℕ)
    → CanSettle (state_of b) k → FailsOut c told now → d ≡ c → Fails b d told now
fails_same prefix step journals b c d seat told now is core seated quiet k can part same =
    subst (λ e. Fails b e told now) (sym same)
    (fails prefix step journals b c seat told now is core seated quiet k can part)
