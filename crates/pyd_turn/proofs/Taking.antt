-- Drawing a turn and looking for it keep the rule.
use Rattle.std.proofs.Common.{◌≡◌, ◌≢◌, ◌⊎◌, ℕ, ◌+◌, ◌%◌, ◌^◌, ◌<◌, ◌≤◌, List, [], ◌∷◌, Bool, true, false, All, length, set, sum_by, Option, Some, refl, sym, ap, ◌∙◌, subst, inl, inr, ⊎_elim, arith, length-set, mod-eq_of_lt, slice_index, slice_set}
use Rattle.std.proofs.lemmas.List.Elements.{All-weaker}
use mathlib.Core.Logic.{dite}
use mathlib.Core.Option.{some, none}
use native.Mathlib.Decide.{ℕ_discrete}
use lib.ListN.{get_elem?}
use Rattle.atomic_table.specs.Table.{State, step, keeps, takes, Allows}
use Rattle.atomic_table.proofs.Lists.{set_here, set_else, set_again}
use Rattle.pyd_board.specs.Histories.{Extends, entries_of}
use Rattle.pyd_board.specs.declared.history.History.{History}
use Rattle.pyd_board.specs.declared.kept.RunName.{RunName}
use Rattle.pyd_board.proofs.Extending.{extends_trans}
use Rattle.pyd_turn.specs.declared.view.Stage.{Stage}
use Rattle.pyd_turn.specs.declared.view.Stage.TheVariants.{Idle, Waits, Holds}
use Rattle.pyd_turn.specs.declared.view.Tally.{Tally}
use Rattle.pyd_turn.specs.declared.view.View.{View}
use Rattle.pyd_turn.specs.Rule.{AtHome, Books, Carries, Counts, Drawn, Fits, Lists, Locked, Out, Turned}
use Rattle.pyd_turn.specs.Steps.{Hand, holding, Learned, Looked, Queued, Served}
use Rattle.pyd_turn.specs.Views.{Tallied, lives, own_tally, turn_of, turns_drawn}
use Rattle.pyd_turn.proofs.Viewing.{drawn_later, each_set, elsewhere, has_value, one_turn}
use Rattle.pyd_turn.proofs.Writing.{at_inside, put, put_else, put_here, sum_set, sum_small}

module _ {T : Type 0} (name_of : T → List RunName) (history_of : T → History) (lock_name : List RunName) where
  abbrev Table : Type 0
  Table = State (Option T) View

  abbrev Rule : Table → Type 0
  Rule = Locked name_of history_of lock_name

  pub queues : (slots id : ℕ) (me : Hand T) → me.0.stage ≡ Idle → Allows Rule slots id me 0 (λ n. (n + 1) % 2 ^ 64) (Queued (step slots 0 1 0 none) me)
  queues slots id me is s r deep at _ =
      let b : Books = r.books in
      let n : ℕ = slice_index s.words 0 in
      let n_is : n ≡ b.ticket = ap (λ (ws : List ℕ). slice_index ws 0) r.words in
      let w : View = record me.0 { stage = Waits n } in
      let b' : Books = record b { ticket = b.ticket + 1; drawn_by = put b.drawn_by b.ticket id } in
      let ok : Fits lock_name b id me.0 = r.each id me.0 at (ap lives is) in
      let sum = sum_set (λ (v : View). turns_drawn v.stage) s.views id me.0 w at in
      let zero_before : turns_drawn me.0.stage ≡ 0 = ap turns_drawn is in
      let few = r.few in let early = r.early in let queue = r.queue in let sized = r.made in
      let small = sum_small (λ (v : View). turns_drawn v.stage) (λ v. one_turn v.stage) s.views in
      let low : b.ticket + 1 < 2 ^ 64 = omega arith in (
        w,
        keeps,
        tt,
        record {
          books = b';
          words = ap (λ (ws : List ℕ). slice_set ws 0 ((slice_index ws 0 + 1) % 2 ^ 64)) r.words ∙ ap (λ (k : ℕ). k ∷ b.serving ∷ []) (mod-eq_of_lt low);
          made = length-set s.views id w ∙ r.made;
          few = r.few;
          early = r.early;
          queue = omega arith;
          today = r.today;
          ordered = r.ordered;
          unmade = r.unmade;
          home = ⊎_elim inl
              (λ (h : Out s.views s.homes). inr (record {
                who = h.who;
                view = h.view;
                turn = h.turn;
                there = set_else s.views id h.who w (elsewhere s.views h.who id h.view me.0 h.there at (ap has_value h.holds) (ap has_value is)) ∙ h.there;
                holds = h.holds;
                away = h.away;
              }))
              r.home;
          each = each_set lock_name b' s.views id w
              (λ _. record {
                name = ok.name;
                saw = ok.saw;
                when = ok.when;
                was = ok.was;
                own = ok.own;
                listed = ok.listed;
                turn = record { below = omega arith; owner = ap (put b.drawn_by b.ticket id) n_is ∙ put_here b.drawn_by b.ticket id };
                first = ok.first;
                earlier = ok.earlier;
              })
              (λ j v other there alive. let o = r.each j v there alive in record {
                name = o.name;
                saw = o.saw;
                when = o.when;
                was = o.was;
                own = o.own;
                listed = o.listed;
                turn = drawn_later b id j v.seen other v.stage o.turn;
                first = o.first;
                earlier = o.earlier;
              });
        },
        refl,
      )

  -- a step that changes nothing
  still : (s : Table) → Rule s → (i id : ℕ) (v : View) → get_elem? s.views id ≡ some v → slice_set s.words i (slice_index s.words i) ≡ s.words
      → Rule (record { words = slice_set s.words i (slice_index s.words i); homes = s.homes; views = set s.views id v })
  still s r i id v at same = subst (λ (z : List ℕ × List View). Rule (record { words = z.0; homes = s.homes; views = z.1 })) (λ c. (sym same c, sym (set_again s.views id v at) c)) r

  pub learns : (slots id : ℕ) (me : Hand T) → lives me.0.stage ≡ true → Allows Rule slots id me 0 (λ n. n) (Learned (step slots 0 0 0 none) me)
  learns slots id me alive s r deep at _ =
      let ok : Fits lock_name r.books id me.0 = r.each id me.0 at alive in (
        me.0,
        keeps,
        tt,
        still s r 0 id me.0 at (ap (λ (ws : List ℕ). slice_set ws 0 (slice_index ws 0)) r.words ∙ sym r.words),
        record {
          same = refl;
          earlier = ok.earlier;
          tallied = record { own = ok.own.then; listed = All-weaker (Lists r.books id me.0) (λ t. entries_of t.seat me.0.seen ≡ t.entries) (λ t l. l.1.then) me.0.joined ok.listed };
        },
      )

  pub looks : (slots id : ℕ) (me : Hand T) (turn : ℕ) → me.0.stage ≡ Waits turn → turn < 2 ^ 62 → Allows Rule slots id me 1 (λ n. n) (Looked name_of history_of (step slots 1 0 0 none) me)
  looks slots id me turn is small s r deep at _ =
      let b : Books = r.books in
      let n : ℕ = slice_index s.words 1 in
      let n_is : n ≡ b.serving = ap (λ (ws : List ℕ). slice_index ws 1) r.words in
      let words' : slice_set s.words 1 n ≡ b.ticket ∷ b.serving ∷ [] = ap (λ (ws : List ℕ). slice_set ws 1 (slice_index ws 1)) r.words in
      let now : turn_of me.0.stage ≡ turn = ap turn_of is in
      let ok : Fits lock_name b id me.0 = r.each id me.0 at (ap lives is) in
      let drawn : Drawn b.ticket b.drawn_by id turn = subst (Turned b id me.0.seen) is ok.turn in
      dite (ℕ_discrete n (turn_of me.0.stage))
      (λ hit. ⊎_elim
      (λ (h : AtHome name_of history_of lock_name b.history s.homes).
      let w : View = holding me.0 (history_of h.value) in
      let sum = sum_set (λ (v : View). turns_drawn v.stage) s.views id me.0 w at in
      let one_before : turns_drawn me.0.stage ≡ 1 = ap turns_drawn is in
      let queue = r.queue in let drawn_below = drawn.below in
      let grown : Extends me.0.seen (history_of h.value) = subst (Extends me.0.seen) (sym h.history) ok.saw in
      let counts : (t : Tally) → Counts b.counted_by b.made b.history id me.0.seen t → Counts b.counted_by b.made b.history id w.seen t = λ t c. record {
        owner = c.owner;
        exists = c.exists;
        then = ap (entries_of t.seat) h.history ∙ c.now;
        now = c.now;
      } in
      let own : Counts b.counted_by b.made b.history id w.seen (own_tally w) = counts (own_tally me.0) ok.own in
      let listed : All (Lists b id w) w.joined = All-weaker (Lists b id me.0) (Lists b id w) (λ t l. (l.0, counts t l.1)) me.0.joined ok.listed in (
        w,
        takes 0 (Some h.value),
        ap (λ (hs : List (mathlib.Core.Option.Option (Option T))). get_elem? hs 0) h.there,
        record {
          books = b;
          words = words';
          made = length-set s.views id w ∙ r.made;
          few = r.few;
          early = r.early;
          queue = omega arith;
          today = r.today;
          ordered = r.ordered;
          unmade = r.unmade;
          home = inr (record {
            who = id;
            view = w;
            turn = turn_of me.0.stage;
            there = set_here s.views id w (at_inside s.views id me.0 at);
            holds = refl;
            away = ap (λ (hs : List (mathlib.Core.Option.Option (Option T))). slice_set hs 0 none) h.there;
          });
          each = each_set lock_name b s.views id w
              (λ _. record {
                name = ok.name;
                saw = subst (λ (z : History). Extends z b.history) (sym h.history) (Rattle.pyd_board.proofs.Extending.extends_refl b.history);
                when = omega arith;
                was = h.history ∙ (sym r.today ∙ ap b.after (sym n_is ∙ hit));
                own = own;
                listed = listed;
                turn = (
                  record { below = omega arith; owner = ap b.drawn_by now ∙ drawn.owner },
                  record { now = sym hit ∙ n_is; below = omega arith; saw = h.history },
                );
                first = ok.first;
                earlier = extends_trans me.0.earlier me.0.seen (history_of h.value) ok.earlier grown;
              })
              (λ j v other there. r.each j v there);
        },
        record {
          served = λ _. record {
            value = h.value;
            holds = refl;
            name = h.name ∙ sym ok.name;
            grown = grown;
            own = own.then;
            tallied = record { own = own.then; listed = All-weaker (Lists b id w) (λ t. entries_of t.seat w.seen ≡ t.entries) (λ t l. l.1.then) w.joined listed };
          };
          waits = λ miss. absurd (miss hit);
        },
      ))
      (λ (h : Out s.views s.homes).
      let o : Fits lock_name b h.who h.view = r.each h.who h.view h.there (ap lives h.holds) in
      let held : Turned b h.who h.view.seen (Holds h.turn) = subst (Turned b h.who h.view.seen) h.holds o.turn in
      let same_turn : turn ≡ h.turn = sym now ∙ (sym hit ∙ (n_is ∙ sym held.1.now)) in
      let same : h.who ≡ id = sym held.0.owner ∙ (ap b.drawn_by (sym same_turn) ∙ drawn.owner) in
      absurd (elsewhere s.views h.who id h.view me.0 h.there at (ap has_value h.holds) (ap has_value is) same))
      r.home)
      (λ miss. (me.0, keeps, tt, still s r 1 id me.0 at (words' ∙ sym r.words), record { served = λ hit. absurd (miss hit); waits = λ _. refl }))
