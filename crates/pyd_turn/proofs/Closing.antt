-- What the closing seat is told.
use Rattle.std.proofs.Common.{◌≡◌, ◌⊎◌, ℕ, ◌<◌, List, [], ◌∷◌, All, Contains, Option, Some, refl, sym, ap, ◌∙◌, subst, ⊎_elim, arith}
use Rattle.std.proofs.lemmas.List.Elements.{All-contains, All-weaker}
use mathlib.Core.Logic.{dite}
use mathlib.Core.Option.{some, some-injective}
use native.Mathlib.Decide.{ℕ_discrete}
use lib.ListN.{get_elem?}
use Rattle.atomic_table.specs.Table.{State, Final, Seen}
use Rattle.pyd_board.specs.Histories.{Extends, entries_of}
use Rattle.pyd_board.specs.declared.history.History.{History}
use Rattle.pyd_board.specs.declared.kept.RunName.{RunName}
use Rattle.pyd_turn.specs.declared.view.Stage.{Stage}
use Rattle.pyd_turn.specs.declared.view.Stage.TheVariants.{Idle, Holds}
use Rattle.pyd_turn.specs.declared.view.Tally.{Tally}
use Rattle.pyd_turn.specs.declared.view.View.{View}
use Rattle.pyd_turn.specs.Rule.{AtHome, Books, Counts, Fits, Lists, Locked, Out}
use Rattle.pyd_turn.specs.Views.{AllCounted, AllListed, lives, own_tally}
use Rattle.pyd_turn.proofs.Viewing.{elsewhere, has_value}

module _ {T : Type 0} (name_of : T → List RunName) (history_of : T → History) where
  -- the slot has a value, of which the view knows this
  pub record Told (v : View) (found : Option T) : Type 0 where
    pub value : T
    pub is : found ≡ Some value
    pub name : name_of value ≡ v.name
    pub grown : Extends v.seen (history_of value)
    pub own : entries_of 0 (history_of value) ≡ v.own
    pub listed : AllCounted (history_of value) v.joined

module _ {T : Type 0} (name_of : T → List RunName) (history_of : T → History) (lock_name : List RunName) where
  abbrev Rule : State (Option T) View → Type 0
  Rule = Locked name_of history_of lock_name

  pub closes : (id : ℕ) (v : View) (ws : List ℕ) (xs : List (Option T)) (found : Option T) → Final (Seen Rule id v) ws xs → get_elem? xs 0 ≡ some found → v.number ≡ 0 → v.stage ≡ Idle → AllListed v.made v.joined
      → Told name_of history_of v found
  closes id v ws xs found f there first idle all =
      let s : State (Option T) View = f.0 in
      let r : Rule s = f.1.0 in
      let at : get_elem? s.views id ≡ some v = f.1.1 in
      let b : Books = r.books in
      let ok : Fits lock_name b id v = r.each id v at (ap lives idle) in
      ⊎_elim
      (λ (h : AtHome name_of history_of lock_name b.history s.homes). record {
        value = h.value;
        is = some-injective found (Some h.value) (sym there ∙ f.4 0 (Some h.value) (ap (λ hs. get_elem? hs 0) h.there));
        name = h.name ∙ sym ok.name;
        grown = subst (Extends v.seen) (sym h.history) ok.saw;
        own = ap (entries_of 0) h.history ∙ (ap (λ (k : ℕ). entries_of k b.history) (sym first) ∙ ok.own.now);
        listed = All-weaker (Lists b id v) (λ t. entries_of t.seat (history_of h.value) ≡ t.entries) (λ t l. ap (entries_of t.seat) h.history ∙ l.1.now) v.joined ok.listed;
      })
      (λ (h : Out s.views s.homes).
      let o : Fits lock_name b h.who h.view = r.each h.who h.view h.there (ap lives h.holds) in
      let k : ℕ = h.view.number in
      let made_is = ok.first first in let exists = o.own.exists in
      let same : h.who ≡ id = dite (ℕ_discrete k 0) (λ e. sym o.own.owner ∙ (ap b.counted_by (e ∙ sym first) ∙ ok.own.owner))
      (λ e. let a = all k (omega arith) (omega arith) in sym o.own.owner ∙ (All-contains (Lists b id v) v.joined (record { seat = k; entries = a.0 }) ok.listed a.1).1.owner) in
      absurd (elsewhere s.views h.who id h.view v h.there at (ap has_value h.holds) (ap has_value idle) same))
      r.home
