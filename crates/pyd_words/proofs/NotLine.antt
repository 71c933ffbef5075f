-- Words that the command's definition takes have a plan, or another fault than `Line`.
use Rattle.std.proofs.Common.{◌≡◌, ◌∙◌, Bool, true, false, List, [], Option, Some, None, Result, Ok, Err, ok_or, if◌then◌else◌, ap, sym, inl, inr}
use Rattle.std.specs.Option.{option_map_or}
use Rattle.std.proofs.lemmas.Bool.{cases_Bool}
use Rattle.clap.specs.Words.{Row}
use Rattle.pyd_board.specs.declared.setup.Loss.{Loss}
use Rattle.pyd_words.specs.declared.fault.WordsFault.{WordsFault}
use Rattle.pyd_words.specs.declared.fault.WordsFault.TheVariants.{Line, BadMode, BadNumber, OutOfRange, BadScript, NoMachine, TwiceLost, AllLost, NumberWhere}
use Rattle.pyd_words.specs.declared.plan.Mode.{Mode}
use Rattle.pyd_words.specs.Options.{Text, Numeral, options, machines, workers, turns, depth, window, number}
use Rattle.pyd_words.specs.Command.{given, is_refused, value}
use Rattle.pyd_words.specs.Numbers.{is_digits, most_digits, ranged}
use Rattle.pyd_words.specs.Losses.{in_order, loses_all, loses_none, loses_twice, ordered, script}
use Rattle.pyd_words.specs.Words.{◌>>=◌, are_formed, losses_in, ordered_script, mode_in, near_in, number_stands, numbers, plan, plan_of, settings, words}

-- the answer is another than `Line`
abbrev NotLine : {A : Type 0} → Result A WordsFault → Type 0
NotLine r = r ≡ Err Line → ⊥

given_value : {A : Type 0} (x : A) → NotLine (Ok x)
given_value x h = cc

not_then : {A B : Type 0} (r : Result A WordsFault) (next : A → Result B WordsFault) → NotLine r → ((x : A) → NotLine (next x)) → NotLine (r >>= next)
unfolding ◌>>=◌
not_then (Ok x) next first rest = rest x
not_then (Err fault) next first rest = λ h. let same : fault ≡ Line = cc in first (ap Err same)

not_either : {A : Type 0} (b : Bool) (x y : Result A WordsFault) → NotLine x → NotLine y → NotLine (if b then x else y)
not_either true x y first second = first
not_either false x y first second = second

not_missing : {A : Type 0} (o : Option A) (fault : WordsFault) → (fault ≡ Line → ⊥) → NotLine (ok_or o fault)
not_missing (Some x) fault h = λ e. cc
not_missing None fault h = λ e. let same : fault ≡ Line = cc in h same

not_ranged : (o : Numeral) (z : Option Text) → NotLine (option_map_or (ranged o) z (Ok o.default))
not_ranged o None = given_value o.default
not_ranged o (Some z) =
    not_either (is_digits most_digits z) _ (Err BadNumber)
    (not_either _ (Ok _) (Err OutOfRange) (given_value _) (λ h. cc)) (λ h. cc)

not_ordered : (m : _) (ls : List Loss) → NotLine (ordered m ls)
not_ordered m ls =
    not_either (loses_none m ls) (Err NoMachine) _ (λ h. cc)
    (not_either (loses_twice ls) (Err TwiceLost) _ (λ h. cc)
    (not_either (loses_all m ls) (Err AllLost) (Ok (in_order ls)) (λ h. cc) (given_value (in_order ls))))

not_script : (m : _) (z : Option Text) → NotLine (option_map_or (ordered_script m) z (ordered m []))
not_script m None = not_ordered m []
not_script m (Some z) = not_then (ok_or (script z) BadScript) (ordered m) (not_missing (script z) BadScript (λ h. cc)) (not_ordered m)

not_numbers : (rows : List Row) → NotLine (numbers rows)
unfolding numbers
not_numbers rows =
    not_then _ _ (not_ranged machines (value machines.name rows)) (λ m.
    not_then _ _ (not_ranged workers (value workers.name rows)) (λ w.
    not_then _ _ (not_ranged turns (value turns.name rows)) (λ t.
    not_then _ _ (not_ranged depth (value depth.name rows)) (λ d.
    not_then _ _ (not_ranged window (value window.name rows)) (λ win.
    not_then _ _ (not_ranged number (value number.name rows)) (λ n. given_value _))))))

not_settings : (mode : Mode) (rows : List Row) → NotLine (settings mode rows)
unfolding settings
not_settings mode rows =
    not_then (numbers rows) _ (not_numbers rows) (λ n.
    not_then (losses_in n.machines rows) _ (not_script n.machines (value _ rows)) (λ ls.
    not_either (number_stands mode rows) (Ok (plan_of mode n (near_in rows) ls)) (Err NumberWhere) (given_value _) (λ h. cc)))

not_plan : (rows : List Row) → NotLine (plan rows)
unfolding plan
not_plan rows =
    not_then (mode_in rows) _ (not_missing _ BadMode (λ h. cc)) (λ mode.
    not_either (are_formed options rows) (settings mode rows) (Err BadNumber) (not_settings mode rows) (λ h. cc))

pub line_is_refused : (ws : List Text) → words ws ≡ Err Line → is_refused ws ≡ true
unfolding words
line_is_refused ws h = elim (cases_Bool (is_refused ws)) [
  | inl refused ↦ refused
  | inr taken ↦ absurd (not_plan (given ws) (sym (ap (λ b. if b then Err Line else plan (given ws)) taken) ∙ h))
]

pub refused_is_line : (ws : List Text) → is_refused ws ≡ true → words ws ≡ Err Line
unfolding words
refused_is_line ws h = ap (λ b. if b then Err Line else plan (given ws)) h
