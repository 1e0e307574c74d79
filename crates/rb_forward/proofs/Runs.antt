-- Runs of calls on entries.
use Rattle.std.proofs.Common.{◌≡◌, ℕ, ◌+◌, ◌≤◌, Bool, true, false, cond, eqb, List, [], ◌∷◌, ◌++◌, Option, Some, None, refl, sym, ap, subst, ◌∙◌, arith}
use Rattle.std.specs.Prelude.{find, map}
use Rattle.std.specs.List.{cons_option, sum_by}
use Rattle.std.specs.Option.{option_map}
use Rattle.std.proofs.lemmas.List.Sums.{sum_by-cons, sum_by_push}
use Rattle.rb_forward.specs.declared.types.Forward.{Forward}
use Rattle.rb_forward.specs.Forwards.{Entry, Forwards, can_start, with_next_entry, next_entry, sent, as_sent, is_unsent, without_first, change_first, reply, due, drop_caller, counts_for, is_due, is_of_connection}
use Rattle.rb_forward.specs.Laws.{Event, after, number_begun, entry_ended, number_of, times, run, AreRising}
use Rattle.rb_forward.specs.Laws.Event.{Start, Sent, Reply, Due, DropCaller}
use Rattle.rb_forward.proofs.Tables.{all_stay, sum-without}

-- ---- counts

-- 1 for an entry of this number, and 0 for another
abbrev is_one : ℕ → ℕ → ℕ
is_one number n = cond (eqb n number) 1 0

abbrev one_of : ℕ → Entry → ℕ
one_of number e = is_one number e.number

abbrev present : ℕ → Forwards → ℕ
present number f = sum_by (one_of number) f.all

times-option : (number : ℕ) (o : Option ℕ) (numbers : List ℕ) → times number (cons_option o numbers) ≡ times number (cons_option o []) + times number numbers
times-option number None numbers = omega arith
times-option number (Some n) numbers =
    let more = sum_by-cons (is_one number) n numbers in
    let one = sum_by-cons (is_one number) n [] in
    omega (arith, more, one)

times-one : (number n : ℕ) → times number (cons_option (Some n) []) ≡ is_one number n
times-one number n = let one = sum_by-cons (is_one number) n [] in omega (arith, one)

-- an entry that begins
pushed : (number : ℕ) (f : Forwards) (clock : ℕ) (forward : Forward) (args : List ℕ)
    → present number (with_next_entry clock forward args f) ≡ present number f + is_one number f.next
unfolding with_next_entry next_entry
pushed number f clock forward args = sum_by_push (one_of number) f.all (next_entry clock forward args f)

-- an entry that is sent
kept : (number id : ℕ) (all : List Entry) → sum_by (one_of number) (change_first (is_unsent id) as_sent all) ≡ sum_by (one_of number) all
kept number id [] = refl
kept number id (e ∷ all) = by_cases (is_unsent id e) refl (kept number id all)
  where
    by_cases : (t : Bool) → is_unsent id e ≡ t → sum_by (one_of number) (change_first (is_unsent id) as_sent all) ≡ sum_by (one_of number) all
        → sum_by (one_of number) (change_first (is_unsent id) as_sent (e ∷ all)) ≡ sum_by (one_of number) (e ∷ all)
    by_cases true t further = rw t (sum_by-cons (one_of number) (as_sent e) all ∙ sym (sum_by-cons (one_of number) e all))
    by_cases false t further =
        rw t (sum_by-cons (one_of number) e (change_first (is_unsent id) as_sent all) ∙ ap (λ n. one_of number e + n) further ∙ sym (sum_by-cons (one_of number) e all))

kept-present : (number id : ℕ) (f : Forwards) → present number (sent id f) ≡ present number f
unfolding sent
kept-present number id f = kept number id f.all

-- an entry that ends
gone : (number : ℕ) (test : Entry → Bool) (all : List Entry) (o : Option Entry) → find test all ≡ o
    → sum_by (one_of number) (without_first test all) + times number (cons_option (option_map number_of o) []) ≡ sum_by (one_of number) all
gone number test all None h = let same = ap (sum_by (one_of number)) (all_stay test all h) in omega (arith, same)
gone number test all (Some e) h =
    let sum = sum-without test (one_of number) all e h in
    let one = times-one number e.number in
    omega (arith, sum, one)

-- what begins and was there is what ends and is there
step-counts : (cap first_xid : ℕ) (f : Forwards) (event : Event) (number : ℕ)
    → present number (after cap first_xid f event) + times number (cons_option (option_map number_of (entry_ended first_xid f event)) [])
    ≡ present number f + times number (cons_option (number_begun cap f event) [])
unfolding reply due drop_caller
step-counts cap first_xid f (Start clock forward args) number = by_cases (can_start cap f)
  where
    by_cases : (b : Bool) → present number (cond b (with_next_entry clock forward args f) f) + times number [] ≡ present number f + times number (cons_option (cond b (Some f.next) None) [])
    by_cases true =
        let more = pushed number f clock forward args in
        let one = times-one number f.next in
        omega (arith, more, one)
    by_cases false = refl
step-counts cap first_xid f (Sent id) number = ap (λ n. n + times number []) (kept-present number id f)
step-counts cap first_xid f (Reply clock from message) number =
    let l = gone number (counts_for first_xid clock from message) f.all (find (counts_for first_xid clock from message) f.all) refl in
    omega (arith, l)
step-counts cap first_xid f (Due clock) number = let l = gone number (is_due clock) f.all (find (is_due clock) f.all) refl in omega (arith, l)
step-counts cap first_xid f (DropCaller id) number = let l = gone number (is_of_connection id) f.all (find (is_of_connection id) f.all) refl in omega (arith, l)

pub run-counts : (cap first_xid : ℕ) (f : Forwards) (events : List Event) (number : ℕ)
    → times number (run cap first_xid f events).begun + present number f ≡ times number (run cap first_xid f events).ended + present number (run cap first_xid f events).left
run-counts cap first_xid f [] number = refl
run-counts cap first_xid f (event ∷ events) number =
    let next = after cap first_xid f event in
    let rest = run-counts cap first_xid next events number in
    let here = step-counts cap first_xid f event number in
    let b = times-option number (number_begun cap f event) (run cap first_xid next events).begun in
    let e = times-option number (option_map number_of (entry_ended first_xid f event)) (run cap first_xid next events).ended in
    omega (arith, rest, here, b, e)

-- ---- numbers

-- a number that is given is the next one, and nothing else moves it
abbrev GivesNext : Option ℕ → ℕ → ℕ → Type 0
GivesNext None old new = new ≡ old
GivesNext (Some n) old new = (n ≡ old) × (new ≡ old + 1)

next-started : (f : Forwards) (clock : ℕ) (forward : Forward) (args : List ℕ) → (with_next_entry clock forward args f).next ≡ f.next + 1
unfolding with_next_entry
next-started f clock forward args = refl

next-sent : (id : ℕ) (f : Forwards) → (sent id f).next ≡ f.next
unfolding sent
next-sent id f = refl

step-next : (cap first_xid : ℕ) (f : Forwards) (event : Event) → GivesNext (number_begun cap f event) f.next (after cap first_xid f event).next
unfolding reply due drop_caller
step-next cap first_xid f (Start clock forward args) = by_cases (can_start cap f)
  where
    by_cases : (b : Bool) → GivesNext (cond b (Some f.next) None) f.next (cond b (with_next_entry clock forward args f) f).next
    by_cases true = (refl, next-started f clock forward args)
    by_cases false = refl
step-next cap first_xid f (Sent id) = next-sent id f
step-next cap first_xid f (Reply clock from message) = refl
step-next cap first_xid f (Due clock) = refl
step-next cap first_xid f (DropCaller id) = refl

rising-option : (o : Option ℕ) (old new end : ℕ) (rest : List ℕ) → GivesNext o old new → AreRising new rest end → AreRising old (cons_option o rest) end
rising-option None old new end rest e later = subst (λ n. AreRising n rest end) e later
rising-option (Some n) old new end rest (is, e) later =
    let up : new ≡ n + 1 = omega arith in
    (omega arith, subst (λ m. AreRising m rest end) up later)

pub run-rising : (cap first_xid : ℕ) (f : Forwards) (events : List Event) → AreRising f.next (run cap first_xid f events).begun (run cap first_xid f events).left.next
run-rising cap first_xid f [] = omega arith
run-rising cap first_xid f (event ∷ events) =
    rising-option (number_begun cap f event) f.next (after cap first_xid f event).next _ _ (step-next cap first_xid f event) (run-rising cap first_xid (after cap first_xid f event) events)

-- ---- order

abbrev InOrder : List Entry → ℕ → ℕ → Type 0
InOrder all least end = AreRising least (map number_of all) end

lower : (numbers : List ℕ) (least more end : ℕ) → least ≤ more → AreRising more numbers end → AreRising least numbers end
lower [] least more end le h = omega (arith, le, h)
lower (n ∷ numbers) least more end le h = let here = h.0 in (omega (arith, le, here), h.1)

order-without : (test : Entry → Bool) (all : List Entry) (least end : ℕ) → InOrder all least end → InOrder (without_first test all) least end
order-without test [] least end h = h
order-without test (e ∷ all) least end h =
    let up : least ≤ e.number + 1 = let here = h.0 in omega (arith, here) in
    elim (test e) as (λ b. InOrder (cond b all (e ∷ without_first test all)) least end)
    [ true ↦ lower (map number_of all) least (e.number + 1) end up h.1 | false ↦ (h.0, order-without test all (e.number + 1) end h.1) ]

order-sent : (id : ℕ) (all : List Entry) (least end : ℕ) → InOrder all least end → InOrder (change_first (is_unsent id) as_sent all) least end
order-sent id [] least end h = h
order-sent id (e ∷ all) least end h =
    elim (is_unsent id e) as (λ b. InOrder (cond b (as_sent e ∷ all) (e ∷ change_first (is_unsent id) as_sent all)) least end)
    [ true ↦ h | false ↦ (h.0, order-sent id all (e.number + 1) end h.1) ]

order-more : (all : List Entry) (e : Entry) (least end : ℕ) → InOrder all least end → e.number ≡ end → InOrder (all ++ e ∷ []) least (end + 1)
order-more [] e least end h is = (omega (arith, h, is), omega (arith, is))
order-more (first ∷ all) e least end h is = (h.0, order-more all e (first.number + 1) end h.1 is)

number-next : (f : Forwards) (clock : ℕ) (forward : Forward) (args : List ℕ) → (next_entry clock forward args f).number ≡ f.next
unfolding next_entry
number-next f clock forward args = refl

order-started : (f : Forwards) (clock : ℕ) (forward : Forward) (args : List ℕ) → InOrder f.all 1 f.next
    → InOrder (with_next_entry clock forward args f).all 1 (with_next_entry clock forward args f).next
unfolding with_next_entry
order-started f clock forward args h = order-more f.all (next_entry clock forward args f) 1 f.next h (number-next f clock forward args)

step-order : (cap first_xid : ℕ) (f : Forwards) (event : Event) → InOrder f.all 1 f.next → InOrder (after cap first_xid f event).all 1 (after cap first_xid f event).next
unfolding reply due drop_caller sent
step-order cap first_xid f (Start clock forward args) h =
    elim (can_start cap f) as (λ b. InOrder (cond b (with_next_entry clock forward args f) f).all 1 (cond b (with_next_entry clock forward args f) f).next)
    [ true ↦ order-started f clock forward args h | false ↦ h ]
step-order cap first_xid f (Sent id) h = order-sent id f.all 1 f.next h
step-order cap first_xid f (Reply clock from message) h = order-without (counts_for first_xid clock from message) f.all 1 f.next h
step-order cap first_xid f (Due clock) h = order-without (is_due clock) f.all 1 f.next h
step-order cap first_xid f (DropCaller id) h = order-without (is_of_connection id) f.all 1 f.next h

pub run-order : (cap first_xid : ℕ) (f : Forwards) (events : List Event) → InOrder f.all 1 f.next → InOrder (run cap first_xid f events).left.all 1 (run cap first_xid f events).left.next
run-order cap first_xid f [] h = h
run-order cap first_xid f (event ∷ events) h = run-order cap first_xid (after cap first_xid f event) events (step-order cap first_xid f event h)
