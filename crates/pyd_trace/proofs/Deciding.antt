-- What stands in front of bytes can be decided, so bytes have an answer.
use Rattle.std.proofs.Common.{◌≡◌, ◌≢◌, ℕ, zero, suc, ◌<◌, ◌≤◌, ◌^◌, List, [], ◌∷◌, ◌++◌, length, take, drop, refl, ap, sym, ◌∙◌, arith, below_more, Bool, true, false, eqb, inl, inr, ◌⊎◌}
use Rattle.std.specs.List.{flat_map}
use Rattle.std.specs.Cmp.Lexicographic.{pointwise}
use Rattle.std.proofs.lemmas.List.{append_assoc}
use Rattle.std.proofs.lemmas.List.Elements.{All-nil, All-cons}
use Rattle.pyd_board.specs.declared.event.Act.{Act}
use Rattle.pyd_board.specs.declared.event.Act.TheVariants.{Place, Claim, Finish, Drop, Refine, Settle, Lose, Trim}
use Rattle.pyd_board.specs.declared.event.Event.{Event}
use Rattle.pyd_trace.specs.Text.{header, line_text}
use Rattle.pyd_trace.specs.Reading.{IsAct, IsEvent, IsTrace, OtherVersion, FirstOther}
use Rattle.pyd_trace.specs.Guessing.{CutsLine, AreLines, FirstOtherLine}
use Rattle.pyd_trace.specs.Laws.{SomeAnswer}
use Rattle.pyd_trace.proofs.Lines.{begins, no_front, line_shortens, lines-next}

-- a fact holds or doesn't
abbrev Decided : Type 0 → Type 0
Decided P = P ⊎ (P → ⊥)

decided_as : {P Q : Type 0} → (P → Q) → (Q → P) → Decided P → Decided Q
decided_as to back (inl p) = inl (to p)
decided_as to back (inr none) = inr (λ q. none (back q))

neither_of : {P Q : Type 0} → (P → ⊥) → (Q → ⊥) → P ⊎ Q → ⊥
neither_of first second (inl p) = first p
neither_of first second (inr q) = second q

either : {P Q : Type 0} → Decided P → Decided Q → Decided (P ⊎ Q)
either (inl p) q = inl (inl p)
either (inr none) (inl q) = inl (inr q)
either (inr none) (inr neither) = inr (neither_of none neither)

-- a number below a bound of which a fact holds
abbrev Below : (ℕ → Type 0) → ℕ → Type 0
Below P bound = (n : ℕ) × (n < bound) × P n

below_next : (P : ℕ → Type 0) (bound : ℕ) → Decided (P bound) → Decided (Below P bound) → Decided (Below P (suc bound))
below_next P bound (inl p) rest = inl (bound, omega arith, p)
below_next P bound (inr none) (inl found) = inl (found.0, omega (arith, found.1), found.2)
below_next P bound (inr none) (inr fewer) =
    inr (λ found. below_more (λ k. P k → ⊥) bound (λ k lt p. fewer (k, lt, p)) none found.0 (omega (arith, found.1)) found.2)

below : (P : ℕ → Type 0) → ((n : ℕ) → Decided (P n)) → (bound : ℕ) → Decided (Below P bound)
below P decide zero = inr (λ found. absurd (omega (arith, found.1)))
below P decide (suc bound) = below_next P bound (decide bound) (below P decide bound)

-- whether a text stands in front
abbrev InFront : List ℕ → List ℕ → Type 0
InFront bytes prefix = (more : List ℕ) × (bytes ≡ prefix ++ more)

in_front : (bytes prefix : List ℕ) (test : Bool) → pointwise eqb (take (length prefix) bytes) prefix ≡ test → Decided (InFront bytes prefix)
in_front bytes prefix true found = inl (drop (length prefix) bytes, begins (length prefix) bytes prefix (drop (length prefix) bytes) found refl)
in_front bytes prefix false other = inr (λ front. no_front bytes prefix front.0 other front.1)

-- the acts of a kind of which a fact holds
abbrev Tickets : (Act → Type 0) → (ℕ → ℕ → ℕ → Act) → Type 0
Tickets P make = Below (λ n. Below (λ a. Below (λ m. P (make n a m)) (2 ^ 32)) (2 ^ 64)) (2 ^ 64)

abbrev Ones : (Act → Type 0) → (ℕ → Act) → ℕ → Type 0
Ones P make bound = Below (λ n. P (make n)) bound

abbrev Kinds : (Act → Type 0) → Type 0
Kinds P =
    Tickets P Place ⊎ (Tickets P Claim ⊎ (Tickets P Finish ⊎ (Tickets P Drop ⊎ (Ones P Refine (2 ^ 64) ⊎ (Ones P Settle (2 ^ 64) ⊎ (Ones P Lose (2 ^ 32) ⊎ Ones P Trim (2 ^ 64)))))))

abbrev SomeAct : (Act → Type 0) → Type 0
SomeAct P = (act : Act) × IsAct act × P act

act_of_kind : (P : Act → Type 0) → Kinds P → SomeAct P
act_of_kind P (inl f) = (Place f.0 f.2.0 f.2.2.0, (f.1, f.2.1, f.2.2.1), f.2.2.2)
act_of_kind P (inr (inl f)) = (Claim f.0 f.2.0 f.2.2.0, (f.1, f.2.1, f.2.2.1), f.2.2.2)
act_of_kind P (inr (inr (inl f))) = (Finish f.0 f.2.0 f.2.2.0, (f.1, f.2.1, f.2.2.1), f.2.2.2)
act_of_kind P (inr (inr (inr (inl f)))) = (Drop f.0 f.2.0 f.2.2.0, (f.1, f.2.1, f.2.2.1), f.2.2.2)
act_of_kind P (inr (inr (inr (inr (inl f))))) = (Refine f.0, f.1, f.2)
act_of_kind P (inr (inr (inr (inr (inr (inl f)))))) = (Settle f.0, f.1, f.2)
act_of_kind P (inr (inr (inr (inr (inr (inr (inl f))))))) = (Lose f.0, f.1, f.2)
act_of_kind P (inr (inr (inr (inr (inr (inr (inr f))))))) = (Trim f.0, f.1, f.2)

kind_of_act : (P : Act → Type 0) (act : Act) → IsAct act → P act → Kinds P
kind_of_act P (Place n a m) is p = inl (n, is.0, (a, is.1, (m, is.2, p)))
kind_of_act P (Claim n a m) is p = inr (inl (n, is.0, (a, is.1, (m, is.2, p))))
kind_of_act P (Finish n a m) is p = inr (inr (inl (n, is.0, (a, is.1, (m, is.2, p)))))
kind_of_act P (Drop n a m) is p = inr (inr (inr (inl (n, is.0, (a, is.1, (m, is.2, p))))))
kind_of_act P (Refine n) is p = inr (inr (inr (inr (inl (n, is, p)))))
kind_of_act P (Settle n) is p = inr (inr (inr (inr (inr (inl (n, is, p))))))
kind_of_act P (Lose m) is p = inr (inr (inr (inr (inr (inr (inl (m, is, p)))))))
kind_of_act P (Trim n) is p = inr (inr (inr (inr (inr (inr (inr (n, is, p)))))))

tickets : (P : Act → Type 0) → ((act : Act) → Decided (P act)) → (make : ℕ → ℕ → ℕ → Act) → Decided (Tickets P make)
tickets P decide make =
    below (λ n. Below (λ a. Below (λ m. P (make n a m)) (2 ^ 32)) (2 ^ 64))
    (λ n. below (λ a. Below (λ m. P (make n a m)) (2 ^ 32)) (λ a. below (λ m. P (make n a m)) (λ m. decide (make n a m)) (2 ^ 32)) (2 ^ 64)) (2 ^ 64)

ones : (P : Act → Type 0) → ((act : Act) → Decided (P act)) → (make : ℕ → Act) (bound : ℕ) → Decided (Ones P make bound)
ones P decide make bound = below (λ n. P (make n)) (λ n. decide (make n)) bound

some_act : (P : Act → Type 0) → ((act : Act) → Decided (P act)) → Decided (SomeAct P)
some_act P decide =
    decided_as (act_of_kind P) (λ some. kind_of_act P some.0 some.1 some.2)
    (either (tickets P decide Place) (either (tickets P decide Claim) (either (tickets P decide Finish) (either (tickets P decide Drop)
    (either (ones P decide Refine (2 ^ 64)) (either (ones P decide Settle (2 ^ 64)) (either (ones P decide Lose (2 ^ 32)) (ones P decide Trim (2 ^ 64)))))))))

-- an event whose line stands in front
abbrev Leads : List ℕ → ℕ → ℕ → Act → Type 0
Leads bytes by nth act = InFront bytes (line_text (record { by = by; nth = nth; act = act }))

abbrev SomeLine : List ℕ → Type 0
SomeLine bytes = (event : Event) × (more : List ℕ) × CutsLine bytes event more

abbrev Found : List ℕ → Type 0
Found bytes = Below (λ by. Below (λ nth. SomeAct (Leads bytes by nth)) (2 ^ 64)) (2 ^ 32)

line_of_found : (bytes : List ℕ) → Found bytes → SomeLine bytes
line_of_found bytes f =
    (record { by = f.0; nth = f.2.0; act = f.2.2.0 }, f.2.2.2.0, record { event_is = record { by = f.1; nth = f.2.1; act = f.2.2.1 }; whole = f.2.2.2.1 })

found_of_line : (bytes : List ℕ) → SomeLine bytes → Found bytes
found_of_line bytes some =
    let event = some.0 in
    (event.by, some.2.event_is.by, (event.nth, some.2.event_is.nth, (event.act, some.2.event_is.act, (some.1, some.2.whole))))

some_line : (bytes : List ℕ) → Decided (SomeLine bytes)
some_line bytes =
    decided_as (line_of_found bytes) (found_of_line bytes)
    (below _ (λ by. below _ (λ nth. some_act (Leads bytes by nth) (λ act. in_front bytes (line_text (record { by = by; nth = nth; act = act })) _ refl)) (2 ^ 64)) (2 ^ 32))

-- lines are those of events, or one is the first that is no event's
abbrev LinesAnswer : List ℕ → Type 0
LinesAnswer lines = ((events : List Event) × AreLines lines events) ⊎ ((number : ℕ) × FirstOtherLine lines number)

answer_behind : (lines : List ℕ) (event : Event) (more : List ℕ) → CutsLine lines event more → LinesAnswer more → LinesAnswer lines
answer_behind lines event more cut (inl rest) =
    inl (
      event ∷ rest.0,
      record { events_are = All-cons IsEvent event rest.0 cut.event_is rest.1.events_are; text = cut.whole ∙ ap (λ bs. line_text event ++ bs) rest.1.text },
    )
answer_behind lines event more cut (inr rest) =
    let fault = rest.1 in
    inr (
      suc rest.0,
      record {
        before = event ∷ fault.before;
        behind = fault.behind;
        so_far = record {
          events_are = All-cons IsEvent event fault.before cut.event_is fault.so_far.events_are;
          text = cut.whole ∙ ap (λ bs. line_text event ++ bs) fault.so_far.text ∙ sym (lines-next event fault.before fault.behind);
        };
        some = fault.some;
        other = fault.other;
        number_is = omega (arith, fault.number_is);
      },
    )

answer_of : (lines : List ℕ) → lines ≢ [] → Decided (SomeLine lines) → ((more : List ℕ) → length more < length lines → LinesAnswer more) → LinesAnswer lines
answer_of lines some (inl line) rest = answer_behind lines line.0 line.1 line.2 (rest line.1 (line_shortens lines line.1 line.0 line.2))
answer_of lines some (inr none) rest =
    inr (
      2,
      record {
        before = [];
        behind = lines;
        so_far = record { events_are = All-nil IsEvent; text = refl };
        some = some;
        other = λ event more is whole. none (event, more, record { event_is = is; whole = whole });
        number_is = refl;
      },
    )

lines_answer : (fuel : ℕ) (lines : List ℕ) → length lines ≤ fuel → LinesAnswer lines
lines_answer fuel [] within = inl ([], record { events_are = All-nil IsEvent; text = refl })
lines_answer zero (b ∷ lines) within = absurd (omega (arith, within))
lines_answer (suc fuel) (b ∷ lines) within =
    answer_of (b ∷ lines) (λ e. absurd (omega (arith, ap length e))) (some_line (b ∷ lines)) (λ more fewer. lines_answer fuel more (omega (arith, fewer, within)))

-- behind a header
abbrev TraceAnswer : List ℕ → Type 0
TraceAnswer bytes = ((events : List Event) × IsTrace bytes events) ⊎ ((number : ℕ) × FirstOther bytes number)

behind_header : (bytes more : List ℕ) → bytes ≡ header ++ more → LinesAnswer more → TraceAnswer bytes
behind_header bytes more whole (inl lines) = inl (lines.0, record { events_are = lines.1.events_are; text = whole ∙ ap (λ bs. header ++ bs) lines.1.text })
behind_header bytes more whole (inr lines) =
    let fault = lines.1 in
    inr (
      lines.0,
      record {
        before = fault.before;
        behind = fault.behind;
        events_are = fault.so_far.events_are;
        text = whole ∙ ap (λ bs. header ++ bs) fault.so_far.text ∙ sym (append_assoc header (flat_map line_text fault.before) fault.behind);
        some = fault.some;
        other = fault.other;
        number_is = fault.number_is;
      },
    )

answer_from : (bytes : List ℕ) → Decided (InFront bytes header) → OtherVersion bytes ⊎ TraceAnswer bytes
answer_from bytes (inl front) = inr (behind_header bytes front.0 front.1 (lines_answer (length front.0) front.0 (omega arith)))
answer_from bytes (inr none) = inl (λ more whole. none (more, whole))

pub some_answer : SomeAnswer
some_answer bytes = answer_from bytes (in_front bytes header _ refl)
