-- Each entry that has begun ended with one event of the run, or is there.
use Rattle.std.specs.Prelude.{map, filter}
use Rattle.std.proofs.Common.{◌≡◌, ◌⊎◌, inl, inr, ℕ, ◌+◌, ◌≤◌, ◌==◌, Bool, true, false, cond, eqb, nat_le, nat_lt, ◌&&◌, List, [], ◌∷◌, ◌++◌, refl, ap, arith}
use Rattle.std.proofs.lemmas.Bool.{leb-true, le-ltb}
use Rattle.std.proofs.lemmas.List.{map-append}
use Rattle.std.proofs.lemmas.List.Sums.{sum_by-append}
use Rattle.std.proofs.lemmas.Grind.{common_steps}
use Rattle.rb_forward.specs.Forwards.{Entry, with_next_entry, next_entry, sent, without_first, change_first, as_sent, is_unsent}
use Rattle.rb_forward.specs.Laws.{number_of, times}
use Rattle.rb_model.specs.State.{State, opening}
use Rattle.rb_model.specs.Step.{Event, step, after}
use Rattle.rb_model.specs.ForwardLaws.{numbers_in, next_in, OneIsGone, ChangesAtMostOne, EventsChangeAtMostOne, gone_with, ended_in, EntriesEndOnce}
use Rattle.rb_laws.proofs.EntriesKept.{Goes, Goes as goes, step-follows}

-- ---- one event

-- an entry that is sent
marked : (number : ℕ) (all : List Entry) → map number_of (change_first (is_unsent number) as_sent all) ≡ map number_of all
marked number [] = grind arith
marked number (e ∷ all) = grind (arith, marked number all)

-- an entry that ends, if there is one
abbrev EndsOne : List ℕ → List ℕ → Type 0
EndsOne numbers left = (left ≡ numbers) ⊎ OneIsGone numbers left

behind_one : (n : ℕ) (numbers left : List ℕ) → EndsOne numbers left → EndsOne (n ∷ numbers) (n ∷ left)
behind_one n numbers left (inl same) = inl (ap (λ (ns : List ℕ). n ∷ ns) same)
behind_one n numbers left (inr g) =
    inr (record { before = n ∷ g.before; gone = g.gone; behind = g.behind; were = ap (λ (ns : List ℕ). n ∷ ns) g.were; are_left = ap (λ (ns : List ℕ). n ∷ ns) g.are_left })

ended : (test : Entry → Bool) (all : List Entry) → EndsOne (map number_of all) (map number_of (without_first test all))
ended test [] = inl refl
ended test (e ∷ all) = by_test (test e) (behind_one e.number (map number_of all) (map number_of (without_first test all)) (ended test all))
  where
    by_test : (b : Bool) → EndsOne (e.number ∷ map number_of all) (e.number ∷ map number_of (without_first test all))
        → EndsOne (e.number ∷ map number_of all) (map number_of (cond b all (e ∷ without_first test all)))
    by_test true later = inr (record { before = []; gone = e.number; behind = map number_of all; were = refl; are_left = refl })
    by_test false later = later

goes-one : (cap : ℕ) (s t : State) → Goes cap s.ledger.forwards t.ledger.forwards → ChangesAtMostOne s t
unfolding with_next_entry next_entry sent
goes-one cap s t p = grind (arith, common_steps, goes, map-append, marked, ended)

pub events_change_at_most_one : EventsChangeAtMostOne
events_change_at_most_one s event = goes-one s.setting.limits.forwards s (step s event).1 (step-follows s event).goes

-- ---- counts

abbrev if_one : Bool → ℕ
if_one b = cond b 1 0

abbrev is_one : ℕ → ℕ → ℕ
is_one number n = if_one (eqb n number)

-- 1 for a number from 1 on that is below the next one
abbrev begun : ℕ → ℕ → ℕ
begun number next = if_one (nat_le 1 number && nat_lt number next)

-- of a number that passes the test, all are left, and of another none
times-filter : (test : ℕ → Bool) (number : ℕ) (ns : List ℕ) → times number (filter test ns) ≡ cond (test number) (times number ns) 0
times-filter test number [] = grind (arith, common_steps)
times-filter test number (n ∷ ns) = grind (arith, common_steps, times-filter test number ns)

-- ---- what an event leaves of the counts

-- this many have ended before with this number, or there is one
abbrev IsOnce : ℕ → State → ℕ → Type 0
IsOnce number s past = past + times number (numbers_in s) ≡ begun number (next_in s)

module _ (s t : State) (number past : ℕ) (once : IsOnce number s past) where
  -- how often the number is gone then
  abbrev gone : ℕ
  gone = times number (filter (λ n. times n (numbers_in t) == 0) (numbers_in s))

  abbrev Gone : Bool → Type 0
  Gone b = gone ≡ cond b (times number (numbers_in s)) 0

  same-once : numbers_in t ≡ numbers_in s → next_in t ≡ next_in s → (b : Bool) → eqb (times number (numbers_in t)) 0 ≡ b → Gone b → IsOnce number t (past + gone)
  same-once numbers next b e left = grind arith

  ends-once : OneIsGone (numbers_in s) (numbers_in t) → next_in t ≡ next_in s → (b : Bool) → eqb (times number (numbers_in t)) 0 ≡ b → Gone b → IsOnce number t (past + gone)
  ends-once g next b e left = grind (arith, common_steps)

  begins-once : 1 ≤ next_in s → numbers_in t ≡ numbers_in s ++ next_in s ∷ [] → next_in t ≡ next_in s + 1 → (b : Bool) → eqb (times number (numbers_in t)) 0 ≡ b → Gone b → IsOnce number t (past + gone)
  begins-once from numbers next b e left = grind (arith, common_steps)

  changed-once : 1 ≤ next_in s → ChangesAtMostOne s t → IsOnce number t (past + gone)
  changed-once from change = by_change change (eqb (times number (numbers_in t)) 0) refl (times-filter (λ n. times n (numbers_in t) == 0) number (numbers_in s))
    where
      by_change : ChangesAtMostOne s t → (b : Bool) → eqb (times number (numbers_in t)) 0 ≡ b → Gone b → IsOnce number t (past + gone)
      by_change bb b e left = grind (arith, common_steps, same-once, ends-once, begins-once)

-- ---- runs

next-rises : (s t : State) → ChangesAtMostOne s t → next_in s ≤ next_in t
next-rises s t p = grind arith

run-once : (s : State) (events : List Event) (number past : ℕ) → 1 ≤ next_in s → IsOnce number s past → IsOnce number (after s events) (past + times number (ended_in s events))
run-once s [] number past from once = omega (arith, once)
run-once s (event ∷ events) number past from once =
    let t : State = (step s event).1 in
    let change = events_change_at_most_one s event in
    let up = next-rises s t change in
    let more = sum_by-append (is_one number) (gone_with s event) (ended_in t events) in
    let later = run-once t events number (past + times number (gone_with s event)) (omega (arith, from, up)) (changed-once s t number past once from change) in
    omega (arith, more, later)

pub entries_end_once : EntriesEndOnce
entries_end_once limits listener first_xid now events number =
    let start : State = opening limits listener first_xid now in
    let once = run-once start events number 0 (omega arith) (opens number) in
    omega (arith, once)
  where
    opens : (number : ℕ) → 0 ≡ begun number 1
    opens number = grind (arith, common_steps, le-ltb, leb-true)
