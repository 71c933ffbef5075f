-- Giving the value back keeps the rule.
use Rattle.std.proofs.Common.{◌≡◌, ◌≢◌, ◌⊎◌, ℕ, ◌+◌, ◌%◌, ◌^◌, ◌<◌, ◌≤◌, List, [], ◌∷◌, All, length, set, sum_by, Option, Some, refl, sym, ap, ◌∙◌, subst, inl, ⊎_elim, arith, length-set, mod-eq_of_lt, slice_index, slice_set, unwrap_or}
use Rattle.std.proofs.lemmas.List.Elements.{All-weaker}
use mathlib.Core.Option.{some, none}
use native.Mathlib.Decide.{ℕ_discrete}
use lib.ListN.{get_elem?}
use Rattle.atomic_table.specs.Table.{State, step, gives, rest, stepped, Allows}
use Rattle.atomic_table.proofs.Lists.{set_here, set_else}
use Rattle.pyd_board.specs.Histories.{Extends, ExtendsBy, entries_of}
use Rattle.pyd_board.specs.declared.history.History.{History}
use Rattle.pyd_board.specs.declared.kept.RunName.{RunName}
use Rattle.pyd_board.proofs.Extending.{entries_others, extends_refl, extends_trans}
use Rattle.pyd_turn.specs.declared.view.Stage.{Stage}
use Rattle.pyd_turn.specs.declared.view.Stage.TheVariants.{Idle, Waits, Holds}
use Rattle.pyd_turn.specs.declared.view.Tally.{Tally}
use Rattle.pyd_turn.specs.declared.view.View.{View}
use Rattle.pyd_turn.specs.Rule.{AtHome, Books, Carries, Counts, Fits, Lists, Locked, Out, Turned}
use Rattle.pyd_turn.specs.Steps.{Hand, gone, Left}
use Rattle.pyd_turn.specs.Views.{lives, own_tally, turn_of, turns_drawn}
use Rattle.pyd_turn.proofs.Viewing.{after_one_more, each_set, served_later}
use Rattle.pyd_turn.proofs.Writing.{put, put_else, put_here, sum_set}

-- the value in a hand that has one
abbrev value_in : {T : Type 0} → T → List (ℕ × Option T) → T
value_in d [] = d
value_in d (x ∷ xs) = unwrap_or x.1 d

module _ {T : Type 0} (name_of : T → List RunName) (history_of : T → History) (lock_name : List RunName) where
  abbrev Table : Type 0
  Table = State (Option T) View

  abbrev Rule : Table → Type 0
  Rule = Locked name_of history_of lock_name

  pub leaves : (slots id : ℕ) (me : Hand T) (turn : ℕ) (x : T) → me.0.stage ≡ Holds turn → me.1 ≡ (0, Some x) ∷ [] → name_of x ≡ me.0.name → ExtendsBy me.0.number me.0.seen (history_of x)
      → Allows Rule slots id me 1 (λ n. (n + 1) % 2 ^ 64) (Left history_of (step slots 1 1 0 none) me)
  leaves slots id me turn x is carried same_name more s r deep at _ =
      let b : Books = r.books in
      let ok : Fits lock_name b id me.0 = r.each id me.0 at (ap lives is) in
      let held : Turned b id me.0.seen (Holds turn) = subst (Turned b id me.0.seen) is ok.turn in
      let held_now = held.1.now in let held_below = held.1.below in
      let g : History = history_of x in
      let k : ℕ = me.0.number in
      let next : ℕ = b.serving + 1 in
      let after' : ℕ → History = put b.after next g in
      let b' : Books = record b { history = g; serving = next; after = after' } in
      let from_all : ExtendsBy k b.history g = subst (λ (z : History). ExtendsBy k z g) held.1.saw more in
      let grown : Extends b.history g = from_all.extends in
      let w : View = gone me.0 g in
      let sum = sum_set (λ (v : View). turns_drawn v.stage) s.views id me.0 w at in
      let one_before : turns_drawn me.0.stage ≡ 1 = ap turns_drawn is in
      let queue = r.queue in
      let ends : turn_of me.0.stage + 1 ≡ next = let e = ap turn_of is in omega arith in
      let own_exists = ok.own.exists in
      let later_after : (i j : ℕ) → i ≤ j → j ≤ next → Extends (after' i) (after' j) = λ i j low high.
      after_one_more b.after b.history g b.serving r.today r.ordered grown i j low high (ℕ_discrete i next) (ℕ_discrete j next) in
      let Homes : Type 0 = List (mathlib.Core.Option.Option (Option T)) in
      let homes' : set s.homes 0 (some (Some x)) ≡ some (Some x) ∷ [] = ⊎_elim (λ (h : AtHome name_of history_of lock_name b.history s.homes). ap (λ (hs : Homes). set hs 0 (some (Some x))) h.there)
      (λ (h : Out s.views s.homes). ap (λ (hs : Homes). set hs 0 (some (Some x))) h.away) r.home in
      let unchanged : (t : Tally) → t.seat ≢ k → entries_of t.seat b.history ≡ t.entries → entries_of t.seat g ≡ t.entries = λ t other e. entries_others k t.seat b.history g other from_all ∙ e in
      let mine_listed : All (Lists b' id w) w.joined = All-weaker (Lists b id me.0) (Lists b' id w) (λ t l. (
        l.0,
        record { owner = l.1.owner; exists = l.1.exists; then = unchanged t l.0 l.1.now; now = unchanged t l.0 l.1.now },
      )) me.0.joined ok.listed in
      let not_mine : (j : ℕ) (t : Tally) → j ≢ id → b.counted_by t.seat ≡ j → t.seat ≢ k = λ j t other owner e. other (sym owner ∙ (ap b.counted_by e ∙ ok.own.owner)) in
      let theirs : (j : ℕ) (seen : History) (t : Tally) → j ≢ id → Counts b.counted_by b.made b.history j seen t → Counts b.counted_by b.made g j seen t = λ j seen t other c. record {
        owner = c.owner;
        exists = c.exists;
        then = c.then;
        now = unchanged t (not_mine j t other c.owner) c.now;
      } in (
        w,
        gives,
        tt,
        subst (λ (cs : List (ℕ × Option T)). Rule (stepped s 1 ((slice_index s.words 1 + 1) % 2 ^ 64) id cs w gives)) (sym carried) record {
          books = b';
          words = ap (λ (ws : List ℕ). slice_set ws 1 ((slice_index ws 1 + 1) % 2 ^ 64)) r.words ∙ ap (λ (z : ℕ). b.ticket ∷ z ∷ []) (mod-eq_of_lt (omega arith));
          made = length-set s.views id w ∙ r.made;
          few = r.few;
          early = omega arith;
          queue = omega arith;
          today = put_here b.after next g;
          ordered = later_after;
          unmade = λ z high. entries_others k z b.history g (λ e. omega arith) from_all ∙ r.unmade z high;
          home = inl (record { value = x; there = homes'; name = same_name ∙ ok.name; history = refl });
          each = each_set lock_name b' s.views id w
              (λ _. record {
                name = ok.name;
                saw = extends_refl g;
                when = omega arith;
                was = sym (ap after' ends ∙ put_here b.after next g);
                own = record { owner = ok.own.owner; exists = ok.own.exists; then = refl; now = refl };
                listed = mine_listed;
                turn = tt;
                first = ok.first;
                earlier = extends_trans me.0.earlier me.0.seen g ok.earlier more.extends;
              })
              (λ j v other there alive. let o = r.each j v there alive in let when = o.when in record {
                name = o.name;
                saw = extends_trans v.seen b.history g o.saw grown;
                when = omega arith;
                was = o.was ∙ sym (put_else b.after next g v.when (λ e. omega arith));
                own = theirs j v.seen (own_tally v) other o.own;
                listed = All-weaker (Lists b j v) (Lists b' j v) (λ t l. (l.0, theirs j v.seen t other l.1)) v.joined o.listed;
                turn = served_later b g id j turn v.seen other held.0.owner held.1.now v.stage o.turn;
                first = o.first;
                earlier = o.earlier;
              });
        },
        λ z e. let same : x ≡ z = ap (value_in x) (sym carried ∙ e) in
            ((λ i. (gone me.0 (history_of (same i)), rest (carried i))), record { own = refl; listed = All-weaker (Lists b' id w) (λ t. entries_of t.seat g ≡ t.entries) (λ t l. l.1.then) me.0.joined mine_listed }),
      )
