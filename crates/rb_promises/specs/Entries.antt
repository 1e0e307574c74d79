-- The order of the numbers of forwarded calls.
use Rattle.std.specs.Prelude.{◌≡◌, ◌<◌, ◌≤◌, Bool, true, find, All, Some}
use Rattle.std.specs.List.{AllPairs}
use Rattle.rb_forward.specs.Forwards.{Entry, Forwards}
use Rattle.rb_model.specs.State.{State}
use Rattle.rb_model.specs.Step.{IsReached}

-- Each number is below those of all later entries, and below the next one.
pub record EntriesRise (f : Forwards) : Type 0 where
  pub rising : AllPairs (λ (d e : Entry). d.number < e.number) f.all
  pub below : All (λ (e : Entry). e.number < f.next) f.all

abbrev pub EntriesAreInOrder : Type 0
EntriesAreInOrder = (s : State) → IsReached s → EntriesRise s.ledger.forwards

-- So the first that passes a test is the one of least number that does.
abbrev pub FirstEntriesAreLeast : Type 0
FirstEntriesAreLeast =
    (s : State) → IsReached s → (test : Entry → Bool) (e : Entry)
    → find test s.ledger.forwards.all ≡ Some e
    → All (λ (d : Entry). test d ≡ true → e.number ≤ d.number) s.ledger.forwards.all
