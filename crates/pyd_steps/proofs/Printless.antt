-- Events that put nothing out.
use Rattle.std.proofs.Common.{◌≡◌, ◌⊎◌, ℕ, List, [], ◌∷◌, ◌++◌, append-nil, add-zero, Option, Some, None, inl, inr, refl, ap, sym, subst, ◌∙◌, arith}
use Rattle.std.specs.List.{All}
use Rattle.std.proofs.lemmas.List.Elements.{All-head, All-tail}
use Rattle.pyd_source.specs.Content.{Added, Lowered}
use Rattle.pyd_board.specs.declared.event.Act.{Act}
use Rattle.pyd_board.specs.declared.event.Act.TheVariants.{Place, Claim, Finish, Drop, Refine, Settle, Lose, Trim}
use Rattle.pyd_board.specs.declared.event.Event.{Event}
use Rattle.pyd_boards.specs.Calls.{ActKind, IsIn, kind_of, loses, places, settles}
use Rattle.pyd_meaning.specs.Module.{bytes_of}
use Rattle.pyd_runs.specs.Effects.{State, happens}
use Rattle.pyd_runs.specs.Facts.{IsSettle, OutputLaw}
use Rattle.pyd_runs.specs.Following.{BeginningLaw}
use Rattle.pyd_runs.specs.Plans.{Plan}
use Rattle.pyd_runs.specs.Replay.{after, replay}
use Rattle.pyd_core.specs.Facts.{facts_of}
use Rattle.pyd_steps.specs.declared.told.Told.{Told}
use Rattle.pyd_steps.specs.Sinks.{Puts}

-- the kind of a Settle
settles_is : (act : Act) → IsSettle act → kind_of act ≡ settles
settles_is (Settle k) is = refl
settles_is (Place k attempt machine) is = absurd is
settles_is (Claim k attempt machine) is = absurd is
settles_is (Finish k attempt machine) is = absurd is
settles_is (Drop k attempt machine) is = absurd is
settles_is (Refine k) is = absurd is
settles_is (Lose machine) is = absurd is
settles_is (Trim k) is = absurd is

-- an event of another kind is none
pub other_kind : (e : Event) (kind : ActKind) → kind_of e.act ≡ kind → (kind ≡ settles → ⊥)
    → IsSettle e.act → ⊥
other_kind e kind of other is = other (sym of ∙ settles_is e.act is)

-- a Place and a loss are none
pub place_or_loss : (p : Plan) (e : Event)
    → IsIn (facts_of p) places 0 e ⊎ IsIn (facts_of p) loses 0 e → IsSettle e.act → ⊥
place_or_loss p e (inl is) = other_kind e places is.of_kind (λ same. cc (same))
place_or_loss p e (inr is) = other_kind e loses is.of_kind (λ same. cc (same))

-- without a Settle nothing is put out
out_still : OutputLaw → (p : Plan) (s : State) (es : List Event)
    → All (λ (e : Event). IsSettle e.act → ⊥) es → (after p s es).graph.out ≡ s.graph.out
unfolding after
out_still outputs p s [] none = refl
out_still outputs p s (e ∷ es) none =
    out_still outputs p (happens p s e) es (All-tail (λ (x : Event). IsSettle x.act → ⊥) e es none)
    ∙ (outputs p s e).by_settle (All-head (λ (x : Event). IsSettle x.act → ⊥) e es none)

-- so it is behind a run
pub no_lines : OutputLaw → BeginningLaw → (p : Plan) (events own : List Event)
    → All (λ (e : Event). IsSettle e.act → ⊥) own
    → (replay p (events ++ own)).graph.out ≡ (replay p events).graph.out ++ []
no_lines outputs beginning p events own none =
    ap (λ (s : State). s.graph.out) (beginning p events own).state
    ∙ out_still outputs p (replay p events) own none
    ∙ sym (append-nil (replay p events).graph.out)

-- no line has no bytes
no_bytes : bytes_of [] ≡ []
unfolding bytes_of
no_bytes = refl

-- to put none is to put nothing
added_none : (held : Option (List ℕ)) → Added held [] held
added_none None = refl
added_none (Some bytes) = ap Some (sym (append-nil bytes))

lowered_none : (room : Option ℕ) → Lowered room 0 room
lowered_none None = refl
lowered_none (Some room) = ap Some (sym (add-zero room))

pub puts_none : (told : Told) → Puts told (bytes_of []) told
puts_none told =
    subst (λ (bytes : List ℕ). Puts told bytes told) (sym no_bytes) (record {
      held = added_none told.held;
      room = lowered_none told.room;
      sure = refl;
      count = omega arith;
    })
