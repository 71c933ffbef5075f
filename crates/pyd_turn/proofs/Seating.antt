-- Making the lock, splitting a seat and joining one keep the rule.
use Rattle.std.proofs.Common.{◌≡◌, ◌≢◌, ◌⊎◌, ℕ, ◌+◌, ◌^◌, ◌<◌, ◌≤◌, List, [], ◌∷◌, ◌++◌, Bool, true, false, true≢false, All, length, set, sum_by, Option, Some, refl, sym, ap, ◌∙◌, subst, inl, inr, ⊎_elim, arith, length-set, length-append, nat_le, leb-true, leb-false, le_of_lt}
use Rattle.std.proofs.lemmas.List.Elements.{All-nil, All-push, All-weaker}
use Rattle.std.proofs.lemmas.List.Sums.{sum_by-append}
use mathlib.Core.Logic.{dite}
use mathlib.Core.Option.{some, none, some-injective, some-ne-none}
use native.Mathlib.Decide.{ℕ_discrete}
use lib.ListN.{get_elem?}
use Rattle.atomic_table.specs.Table.{State, Splits, Joins, opening}
use Rattle.atomic_table.proofs.Lists.{at_set, set_here, set_else, at_longer}
use Rattle.pyd_board.specs.Histories.{AllBy, Extends, entries_of}
use Rattle.pyd_board.specs.declared.history.History.{History}
use Rattle.pyd_board.specs.declared.kept.RunName.{RunName}
use Rattle.pyd_board.proofs.Extending.{entries_grow, entries_none, extends_refl}
use Rattle.pyd_turn.specs.declared.view.Stage.{Stage}
use Rattle.pyd_turn.specs.declared.view.Stage.TheVariants.{Idle, Holds}
use Rattle.pyd_turn.specs.declared.view.Tally.{Tally}
use Rattle.pyd_turn.specs.declared.view.View.{View}
use Rattle.pyd_turn.specs.Rule.{AtHome, Books, Carries, Counts, Fits, Lists, Locked, Out, Turned}
use Rattle.pyd_turn.specs.Views.{joined_with, later, lives, newcomer, opened, own_tally, spent, turns_drawn, with_one_more}
use Rattle.pyd_turn.proofs.Viewing.{counts_later, each_set, either_saw, either_was, either_when, elsewhere, entries_between, extends_there, has_value, later_of}
use Rattle.pyd_turn.proofs.Writing.{at_end, at_inside, at_only, put, put_else, put_here, sum_set}

module _ {T : Type 0} (name_of : T → List RunName) (history_of : T → History) (lock_name : List RunName) where
  abbrev Table : Type 0
  Table = State (Option T) View

  abbrev Rule : Table → Type 0
  Rule = Locked name_of history_of lock_name

  pub opens : (x : T) → name_of x ≡ lock_name → AllBy 0 (history_of x).events → Rule (opening (0 ∷ 0 ∷ []) (Some x ∷ []) (opened (name_of x) (history_of x)))
  opens x is all =
      let h : History = history_of x in
      let v : View = opened (name_of x) h in
      let b : Books = record { history = h; ticket = 0; serving = 0; made = 1; drawn_by = λ _. 0; counted_by = λ _. 0; after = λ _. h } in
      let first : Carries lock_name b 0 v = λ _. record {
        name = is;
        saw = extends_refl h;
        when = omega arith;
        was = refl;
        own = record { owner = refl; exists = omega arith; then = refl; now = refl };
        listed = All-nil (Lists b 0 v);
        turn = tt;
        first = λ _. refl;
        earlier = extends_refl h;
      } in record {
        books = b;
        words = refl;
        made = refl;
        few = omega arith;
        early = omega arith;
        queue = refl;
        today = refl;
        ordered = λ i j low high. extends_refl h;
        unmade = λ k high. entries_none 0 k (λ e. omega arith) h.events all;
        home = inl (record { value = x; there = refl; name = is; history = refl });
        each = λ j u e. let t = at_only v u j e in subst (λ (z : ℕ × View). Carries lock_name b z.0 z.1) (λ i. (sym t.0 i, t.1 i)) first;
      }

  pub splits : (id : ℕ) (v : View) → v.number ≡ 0 → lives v.stage ≡ true → v.made + 1 < 2 ^ 32 → Splits Rule id v (with_one_more v) (newcomer v)
  splits id v first alive room s r at =
      let b : Books = r.books in
      let ok : Fits lock_name b id v = r.each id v at alive in
      let n : ℕ = length s.views in
      let m : ℕ = v.made in
      let made_is : m ≡ b.made = ok.first first in
      let b' : Books = record b { made = b.made + 1; counted_by = put b.counted_by m n } in
      let vs : List View = set s.views id (with_one_more v) in
      let o : View = newcomer v in
      let sum = sum_set (λ (u : View). turns_drawn u.stage) s.views id v (with_one_more v) at in
      let more = sum_by-append (λ (u : View). turns_drawn u.stage) vs (o ∷ []) in
      let long = length-append vs (o ∷ []) in
      let same_length : length vs ≡ n = length-set s.views id (with_one_more v) in
      let sized = r.made in let queue = r.queue in let own_exists = ok.own.exists in
      let none_yet : entries_of m b.history ≡ 0 = r.unmade m (omega arith) in
      let grown = entries_grow m v.seen b.history ok.saw in
      let none_seen : entries_of m v.seen ≡ 0 = omega arith in
      let mine : Carries lock_name b' id (with_one_more v) = λ _. record {
        name = ok.name;
        saw = ok.saw;
        when = ok.when;
        was = ok.was;
        own = counts_later b m n id v.seen (own_tally v) made_is ok.own;
        listed = All-weaker (Lists b id v) (Lists b' id v) (λ t l. (l.0, counts_later b m n id v.seen t made_is l.1)) v.joined ok.listed;
        turn = ok.turn;
        first = λ _. ap (λ (z : ℕ). z + 1) made_is;
        earlier = ok.earlier;
      } in
      let theirs : Carries lock_name b' n o = λ _. record {
        name = ok.name;
        saw = ok.saw;
        when = ok.when;
        was = ok.was;
        own = record { owner = put_here b.counted_by m n; exists = omega arith; then = none_seen; now = none_yet };
        listed = All-nil (Lists b' n o);
        turn = tt;
        first = λ e. absurd (omega arith);
        earlier = extends_refl v.seen;
      } in
      let others : (j : ℕ) (u : View) → j ≢ id → get_elem? s.views j ≡ some u → Carries lock_name b' j u = λ j u other there alive_u. let q = r.each j u there alive_u in record {
        name = q.name;
        saw = q.saw;
        when = q.when;
        was = q.was;
        own = counts_later b m n j u.seen (own_tally u) made_is q.own;
        listed = All-weaker (Lists b j u) (Lists b' j u) (λ t l. (l.0, counts_later b m n j u.seen t made_is l.1)) u.joined q.listed;
        turn = q.turn;
        first = λ e. absurd (other (sym q.own.owner ∙ (ap b.counted_by (e ∙ sym first) ∙ ok.own.owner)));
        earlier = q.earlier;
      } in record {
        books = b';
        words = r.words;
        made = omega arith;
        few = omega arith;
        early = r.early;
        queue = omega arith;
        today = r.today;
        ordered = r.ordered;
        unmade = λ k high. r.unmade k (omega arith);
        home = ⊎_elim inl
            (λ (h : Out s.views s.homes). inr (dite (ℕ_discrete h.who id)
            (λ e. record {
              who = id;
              view = with_one_more v;
              turn = h.turn;
              there = at_longer vs (o ∷ []) id (with_one_more v) (set_here s.views id (with_one_more v) (at_inside s.views id v at));
              holds = ap (λ (u : View). u.stage) (some-injective v h.view (sym at ∙ (ap (get_elem? s.views) (sym e) ∙ h.there))) ∙ h.holds;
              away = h.away;
            })
            (λ e. record {
              who = h.who;
              view = h.view;
              turn = h.turn;
              there = at_longer vs (o ∷ []) h.who h.view (set_else s.views id h.who (with_one_more v) e ∙ h.there);
              holds = h.holds;
              away = h.away;
            })))
            r.home;
        each = λ j u e. ⊎_elim (λ (t : get_elem? vs j ≡ some u). each_set lock_name b' s.views id (with_one_more v) mine others j u t)
            (λ (t : (j ≡ length vs) × (o ≡ u)). subst (λ (z : ℕ × View). Carries lock_name b' z.0 z.1) (λ i. (sym (t.0 ∙ same_length) i, t.1 i)) theirs) (at_end vs o u j e);
      }

  pub joins : (id : ℕ) (v : View) (other : ℕ) (w : View) → v.stage ≡ Idle → w.stage ≡ Idle → Joins Rule id v other w (joined_with v w) spent
  joins id v other w v_idle w_idle s r at apart there =
      let b : Books = r.books in
      let x : View = joined_with v w in
      let vs : List View = set s.views id x in
      let there' : get_elem? s.views other ≡ some w = sym (set_else s.views id other x apart) ∙ there in
      let ok : Fits lock_name b id v = r.each id v at (ap lives v_idle) in
      let ow : Fits lock_name b other w = r.each other w there' (ap lives w_idle) in
      let b' : Books = record b { counted_by = put b.counted_by w.number id } in
      let sum = sum_set (λ (u : View). turns_drawn u.stage) s.views id v x at in
      let sum' = sum_set (λ (u : View). turns_drawn u.stage) vs other w spent there in
      let w_zero : turns_drawn w.stage ≡ 0 = ap turns_drawn w_idle in
      let queue = r.queue in
      let test : Bool = nat_le w.when v.when in
      let l = later_of test v.seen w.seen
      (λ e. extends_there b.after w.seen v.seen w.when v.when ow.was ok.was (r.ordered w.when v.when (leb-true w.when v.when e) ok.when))
      (λ e. extends_there b.after v.seen w.seen v.when w.when ok.was ow.was (r.ordered v.when w.when (le_of_lt (leb-false w.when v.when e)) ow.when)) in
      let within : Extends x.seen b.history = either_saw b.history test v.seen w.seen ok.saw ow.saw in
      let kept : (t : Tally) → Counts b.counted_by b.made b.history id v.seen t → Counts b'.counted_by b.made b.history id x.seen t = λ t h. record {
        owner = put_else b.counted_by w.number id t.seat (λ e. apart (sym ow.own.owner ∙ (ap b.counted_by (sym e) ∙ h.owner))) ∙ h.owner;
        exists = h.exists;
        then = entries_between t v.seen x.seen b.history l.0.first within h.then h.now;
        now = h.now;
      } in
      let apart_from : (j : ℕ) (seen : History) (t : Tally) → j ≢ other → Counts b.counted_by b.made b.history j seen t → Counts b'.counted_by b.made b.history j seen t = λ j seen t j_other h. record {
        owner = put_else b.counted_by w.number id t.seat (λ e. j_other (sym h.owner ∙ (ap b.counted_by e ∙ ow.own.owner))) ∙ h.owner;
        exists = h.exists;
        then = h.then;
        now = h.now;
      } in
      let differ : w.number ≢ v.number = λ e. apart (sym ow.own.owner ∙ (ap b.counted_by e ∙ ok.own.owner)) in
      let added : Lists b' id x (own_tally w) = (
        differ,
        record {
          owner = put_here b.counted_by w.number id;
          exists = ow.own.exists;
          then = entries_between (own_tally w) w.seen x.seen b.history l.0.second within ow.own.then ow.own.now;
          now = ow.own.now;
        },
      ) in
      let mine : Carries lock_name b' id x = λ _. record {
        name = ok.name;
        saw = within;
        when = either_when b.serving test v.when w.when ok.when ow.when;
        was = either_was b.after test v.seen w.seen v.when w.when ok.was ow.was;
        own = kept (own_tally v) ok.own;
        listed = All-push (Lists b' id x) v.joined (own_tally w) (All-weaker (Lists b id v) (Lists b' id x) (λ t h. (h.0, kept t h.1)) v.joined ok.listed) added;
        turn = subst (Turned b' id x.seen) (sym v_idle) tt;
        first = ok.first;
        earlier = l.1;
      } in
      let home_there : (h : Out s.views s.homes) → get_elem? (set vs other spent) h.who ≡ some h.view = λ h.
      set_else vs other h.who spent (elsewhere s.views h.who other h.view w h.there there' (ap has_value h.holds) (ap has_value w_idle))
      ∙ (set_else s.views id h.who x (elsewhere s.views h.who id h.view v h.there at (ap has_value h.holds) (ap has_value v_idle)) ∙ h.there) in record {
        books = b';
        words = r.words;
        made = length-set vs other spent ∙ (length-set s.views id x ∙ r.made);
        few = r.few;
        early = r.early;
        queue = omega arith;
        today = r.today;
        ordered = r.ordered;
        unmade = r.unmade;
        home = ⊎_elim inl (λ (h : Out s.views s.homes). inr (record { who = h.who; view = h.view; turn = h.turn; there = home_there h; holds = h.holds; away = h.away })) r.home;
        each = each_set lock_name b' vs other spent (λ alive. absurd (true≢false (sym alive)))
            (λ j u j_other e. ⊎_elim (λ (t : (j ≡ id) × (x ≡ u)). subst (λ (z : ℕ × View). Carries lock_name b' z.0 z.1) (λ i. (sym t.0 i, t.1 i)) mine)
            (λ (t : (j ≢ id) × (get_elem? s.views j ≡ some u)). λ alive. let q = r.each j u t.1 alive in record {
              name = q.name;
              saw = q.saw;
              when = q.when;
              was = q.was;
              own = apart_from j u.seen (own_tally u) j_other q.own;
              listed = All-weaker (Lists b j u) (Lists b' j u) (λ a h. (h.0, apart_from j u.seen a j_other h.1)) u.joined q.listed;
              turn = q.turn;
              first = q.first;
              earlier = q.earlier;
            }) (at_set s.views id j x u e));
      }
