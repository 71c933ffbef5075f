-- What a plan has passed.
use Rattle.std.proofs.Common.{◌≡◌, ◌∙◌, ◌≤◌, ℕ, Bool, true, false, List, [], Option, Some, None, Result, Ok, Err, codes, ok_or, if◌then◌else◌, nat_le, refl, subst, arith, ◌&&◌}
use Rattle.std.specs.Option.{option_map_or}
use Rattle.std.specs.List.Sorted.{IsNonDecreasingBy}
use Rattle.std.specs.Str.Parse.{digits_value}
use Rattle.std.proofs.lemmas.Bool.{leb-true, and_parts}
use Rattle.clap.specs.Words.{Row}
use Rattle.pyd_board.specs.declared.setup.Loss.{Loss}
use Rattle.pyd_words.specs.declared.fault.WordsFault.{WordsFault}
use Rattle.pyd_words.specs.declared.fault.WordsFault.TheVariants.{Line, BadNumber, OutOfRange, BadScript, NoMachine, TwiceLost, AllLost, NumberWhere}
use Rattle.pyd_words.specs.declared.plan.Mode.{Mode}
use Rattle.pyd_words.specs.declared.plan.Numbers.{Numbers}
use Rattle.pyd_words.specs.declared.plan.Plan.{Plan}
use Rattle.pyd_words.specs.Options.{Text, Numeral, options, machines, workers, turns, depth, window, number}
use Rattle.pyd_words.specs.Command.{given, is_refused, value}
use Rattle.pyd_words.specs.Numbers.{is_digits, most_digits, ranged, within}
use Rattle.pyd_words.specs.Losses.{in_order, loses_all, loses_none, loses_twice, ordered, script}
use Rattle.pyd_words.specs.Words.{◌>>=◌, are_formed, losses_in, ordered_script, mode_in, near_in, number_stands, numbers, plan, plan_of, settings, words}
use Rattle.pyd_words.specs.Laws.{Within, IsSound}
use Rattle.pyd_words.proofs.Order.{in_order_rises}
use Rattle.pyd_words.proofs.Lost.{any_in_order, all_in_order, twice_in_order}

-- a value comes of a value
passed : {A B : Type 0} (r : Result A WordsFault) (next : A → Result B WordsFault) (y : B) → (r >>= next) ≡ Ok y → (x : A) × (r ≡ Ok x) × (next x ≡ Ok y)
unfolding ◌>>=◌
passed (Ok x) next y h = (x, refl, h)
passed (Err fault) next y h = cc

-- a value comes of the branch that has no fault
not_barred : {A : Type 0} (b : Bool) (fault : WordsFault) (r : Result A WordsFault) (y : A) → (if b then Err fault else r) ≡ Ok y → (b ≡ false) × (r ≡ Ok y)
not_barred true fault r y h = cc
not_barred false fault r y h = (refl, h)

let_through : {A : Type 0} (b : Bool) (fault : WordsFault) (r : Result A WordsFault) (y : A) → (if b then r else Err fault) ≡ Ok y → (b ≡ true) × (r ≡ Ok y)
let_through true fault r y h = (refl, h)
let_through false fault r y h = cc

-- the value of a result
abbrev value_of : {A : Type 0} → A → Result A WordsFault
value_of x = Ok x

the_value : {A : Type 0} (x y : A) → value_of x ≡ value_of y → x ≡ y
the_value x y h = cc

in_limits : (o : Numeral) (n m : ℕ) → within o n ≡ Ok m → Within o m
in_limits o n m h =
    let p = let_through (nat_le o.least n && nat_le n o.most) OutOfRange (Ok n) m h in
    let both = and_parts (nat_le o.least n) (nat_le n o.most) p.0 in
    let low : o.least ≤ n = leb-true o.least n both.0 in
    let high : n ≤ o.most = leb-true n o.most both.1 in
    let same : n ≡ m = the_value n m p.1 in
    (omega arith, omega arith)

number_within : (o : Numeral) (z : Option Text) (m : ℕ) → Within o o.default → option_map_or (ranged o) z (Ok o.default) ≡ Ok m → Within o m
number_within o None m default h = subst (λ (n : ℕ). Within o n) (the_value o.default m h) default
number_within o (Some z) m default h =
    let p = let_through (is_digits most_digits z) BadNumber (within o (digits_value 10 z)) m h in
    in_limits o (digits_value 10 z) m p.1

-- numbers within their limits
record AllWithin (n : Numbers) : Type 0 where
  machines_in : Within machines n.machines
  workers_in : Within workers n.workers
  turns_in : Within turns n.turns
  depth_in : Within depth n.depth
  window_in : Within window n.window
  number_in_limits : Within number n.number

numbers_within : (rows : List Row) (n : Numbers) → numbers rows ≡ Ok n → AllWithin n
unfolding numbers
numbers_within rows n h =
    let a = passed _ _ n h in
    let b = passed _ _ n a.2 in
    let c = passed _ _ n b.2 in
    let d = passed _ _ n c.2 in
    let e = passed _ _ n d.2 in
    let f = passed _ _ n e.2 in
    subst (λ (m : Numbers). AllWithin m) (the_value _ n f.2)
    (record {
      machines_in = number_within machines (value machines.name rows) a.0 (omega arith, omega arith) a.1;
      workers_in = number_within workers (value workers.name rows) b.0 (omega arith, omega arith) b.1;
      turns_in = number_within turns (value turns.name rows) c.0 (omega arith, omega arith) c.1;
      depth_in = number_within depth (value depth.name rows) d.0 (omega arith, omega arith) d.1;
      window_in = number_within window (value window.name rows) e.0 (omega arith, omega arith) e.1;
      number_in_limits = number_within number (value number.name rows) f.0 (omega arith, omega arith) f.1;
    })

-- losses that a run of so many machines can have
record CanLose (m : ℕ) (ls : List Loss) : Type 0 where
  up : IsNonDecreasingBy (λ l. l.event) ls
  there : loses_none m ls ≡ false
  once : loses_twice ls ≡ false
  left : loses_all m ls ≡ false

ordered_can : (m : ℕ) (written ls : List Loss) → ordered m written ≡ Ok ls → CanLose m ls
ordered_can m written ls h =
    let a = not_barred (loses_none m written) NoMachine _ ls h in
    let b = not_barred (loses_twice written) TwiceLost _ ls a.1 in
    let c = not_barred (loses_all m written) AllLost (Ok (in_order written)) ls b.1 in
    subst (λ (xs : List Loss). CanLose m xs) (the_value (in_order written) ls c.1)
    (record {
      up = in_order_rises written;
      there = any_in_order (λ l. nat_le m l.machine) written ∙ a.0;
      once = twice_in_order written ∙ b.0;
      left = all_in_order m written ∙ c.0;
    })

losses_can : (m : ℕ) (z : Option Text) (ls : List Loss) → option_map_or (ordered_script m) z (ordered m []) ≡ Ok ls → CanLose m ls
losses_can m None ls h = ordered_can m [] ls h
losses_can m (Some z) ls h = let a = passed (ok_or (script z) BadScript) (ordered m) ls h in ordered_can m a.0 ls a.2

-- the parts of a plan make it sound
sound_of : (mode : Mode) (n : Numbers) (near : Bool) (ls : List Loss) → AllWithin n → CanLose n.machines ls → IsSound (plan_of mode n near ls)
sound_of mode n near ls within_all can = record {
  machines_within = within_all.machines_in;
  workers_within = within_all.workers_in;
  turns_within = within_all.turns_in;
  depth_within = within_all.depth_in;
  window_within = within_all.window_in;
  number_within = within_all.number_in_limits;
  rising = can.up;
  machines_there = can.there;
  none_twice = can.once;
  one_left = can.left;
}

settings_sound : (mode : Mode) (rows : List Row) (p : Plan) → settings mode rows ≡ Ok p → IsSound p
unfolding settings
settings_sound mode rows p h =
    let a = passed (numbers rows) _ p h in
    let b = passed (losses_in a.0.machines rows) _ p a.2 in
    let c = let_through (number_stands mode rows) NumberWhere (Ok (plan_of mode a.0 (near_in rows) b.0)) p b.2 in
    subst (λ (q : Plan). IsSound q) (the_value (plan_of mode a.0 (near_in rows) b.0) p c.1)
    (sound_of mode a.0 (near_in rows) b.0 (numbers_within rows a.0 a.1) (losses_can a.0.machines (value (codes "lose") rows) b.0 b.1))

pub plan_is_sound : (ws : List Text) (p : Plan) → words ws ≡ Ok p → IsSound p
unfolding words plan
plan_is_sound ws p h =
    let a = not_barred (is_refused ws) Line (plan (given ws)) p h in
    let b = passed (mode_in (given ws)) _ p a.1 in
    let c = let_through (are_formed options (given ws)) BadNumber (settings b.0 (given ws)) p b.2 in
    settings_sound b.0 (given ws) p c.1
