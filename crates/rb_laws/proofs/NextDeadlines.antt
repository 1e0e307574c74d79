-- The next deadline has come exactly if something is due.
use Rattle.std.specs.Prelude.{find, map, ◌||◌, nat_le, min}
use Rattle.std.proofs.Common.{◌≡◌, ℕ, max, Bool, true, false, Option, Some, None, List, [], ◌∷◌, refl, sym, ap, ◌∙◌, arith}
use Rattle.std.proofs.lemmas.Bool.Decides.{nat_tests}
use Rattle.std.proofs.lemmas.Grind.{common_steps}
use Rattle.rb_forward.specs.Forwards.{Entry, is_due as entry_is_due}
use Rattle.rb_forward.specs.Deadlines.{sooner_of, soonest_of, deadlines_of, next_deadline as next_entry_deadline}
use Rattle.rb_model.specs.declared.types.Expired.{Expired}
use Rattle.rb_model.specs.declared.types.Expired.TheVariants.{Nothing}
use Rattle.rb_model.specs.State.{State, Connection}
use Rattle.rb_model.specs.Losses.{is_due, has_come, deadline}
use Rattle.rb_model.specs.Ending.{at_fresh_moment, expire}
use Rattle.rb_model.specs.NextDeadlines.{connection_deadlines, next_connection_deadline, next_deadline, IsNextDeadline, NextDeadlinesAreExact}
use Rattle.rb_laws.proofs.DueThings.{Expiry, expiry}
use Rattle.rb_laws.proofs.DueThings.Expiry.{EntryEnds, ConnectionEnds, NothingDue}

-- ---- of a list

least-come : (clock a b : ℕ) → nat_le (min a b) clock ≡ (nat_le a clock || nat_le b clock)
least-come clock a b = grind (arith, nat_tests)

sooner-come : (clock : ℕ) (a b : Option ℕ) → has_come clock (sooner_of a b) ≡ (has_come clock a || has_come clock b)
sooner-come clock None b = refl
sooner-come clock (Some a) None = grind arith
sooner-come clock (Some a) (Some b) = least-come clock a b

module _ {A : Type 0} (clock : ℕ) (test : A → Bool) (due : A → Option ℕ) (alike : (x : A) → test x ≡ has_come clock (due x)) where
  none-come : (xs : List A) → find test xs ≡ None → has_come clock (soonest_of (map due xs)) ≡ false
  none-come [] none = refl
  none-come (x ∷ xs) none = grind (arith, common_steps, alike, sooner-come, none-come xs)

  some-come : (xs : List A) (found : A) → find test xs ≡ Some found → has_come clock (soonest_of (map due xs)) ≡ true
  some-come [] found is = grind arith
  some-come (x ∷ xs) found is = grind (arith, common_steps, alike, sooner-come, some-come xs found)

-- ---- of a state

module _ (s : State) (now : ℕ) where
  abbrev clock : ℕ
  clock = max s.clock now

  no-entry : find (entry_is_due clock) s.ledger.forwards.all ≡ None → has_come clock (next_entry_deadline s.ledger.forwards) ≡ false
  unfolding deadlines_of
  no-entry none = none-come clock (entry_is_due clock) (λ (e : Entry). Some e.deadline) (λ e. refl) s.ledger.forwards.all none

  one-entry : (e : Entry) → find (entry_is_due clock) s.ledger.forwards.all ≡ Some e → has_come clock (next_entry_deadline s.ledger.forwards) ≡ true
  unfolding deadlines_of
  one-entry e is = some-come clock (entry_is_due clock) (λ (x : Entry). Some x.deadline) (λ x. refl) s.ledger.forwards.all e is

  no-connection : find (is_due clock) s.connections.all ≡ None → has_come clock (next_connection_deadline s.connections) ≡ false
  unfolding connection_deadlines is_due
  no-connection none = none-come clock (is_due clock) (λ (c : Connection). deadline c.since c.phase) (λ c. refl) s.connections.all none

  one-connection : (c : Connection) → find (is_due clock) s.connections.all ≡ Some c → has_come clock (next_connection_deadline s.connections) ≡ true
  unfolding connection_deadlines is_due
  one-connection c is = some-come clock (is_due clock) (λ (x : Connection). deadline x.since x.phase) (λ x. refl) s.connections.all c is

  come-in-two : has_come clock (next_deadline s) ≡ (has_come clock (next_connection_deadline s.connections) || has_come clock (next_entry_deadline s.ledger.forwards))
  unfolding next_deadline
  come-in-two = sooner-come clock (next_connection_deadline s.connections) (next_entry_deadline s.ledger.forwards)

  -- if it has not come, nothing is found
  before : (o : Option ℕ) → has_come clock o ≡ false → expire s now ≡ (Nothing, at_fresh_moment now s) → IsNextDeadline s now o
  before None not is = is
  before (Some moment) not is = (λ early. is, λ late. grind (arith, nat_tests))

  behind : (o : Option ℕ) → has_come clock o ≡ true → ((expire s now).0 ≡ Nothing → ⊥) → IsNextDeadline s now o
  behind None come some = absurd cc
  behind (Some moment) come some = (λ early. grind (arith, nat_tests), λ late. some)

  by_case : (r : Expired × State) → expire s now ≡ r → Expiry s clock (at_fresh_moment now s) r → IsNextDeadline s now (next_deadline s)
  by_case r same (EntryEnds e found ledger left is) =
      behind (next_deadline s) (grind (arith, common_steps, come-in-two, one-entry e found))
      (λ none. let clash = sym (ap (λ (x : Expired × State). x.0) (same ∙ is)) ∙ none in absurd cc)
  by_case r same (ConnectionEnds none c found is) =
      behind (next_deadline s) (grind (arith, common_steps, come-in-two, one-connection c found))
      (λ gone. let clash = sym (ap (λ (x : Expired × State). x.0) (same ∙ is)) ∙ gone in absurd cc)
  by_case r same (NothingDue none free is) =
      before (next_deadline s) (grind (arith, common_steps, come-in-two, no-entry none, no-connection free)) (same ∙ is)

pub next_deadlines_are_exact : NextDeadlinesAreExact
next_deadlines_are_exact s now = by_case s now (expire s now) refl (expiry s now)
