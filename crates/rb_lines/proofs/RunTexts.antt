-- What is written of a run, event by event.
use Rattle.std.proofs.Common.{◌≡◌, List, ℕ, [], ◌∷◌, ◌++◌, refl, ap, subst}
use Rattle.rb_model.specs.State.{State}
use Rattle.rb_model.specs.Step.{Event, Output, step, after}
use Rattle.rb_lines.specs.Entries.{entry_text, run_entries}
use Rattle.rb_lines.specs.Tapes.{Tape, Records}

-- a run goes on from where it stands
pub run_entries-append : (s : State) (xs ys : List Event) → run_entries s (xs ++ ys) ≡ run_entries s xs ++ run_entries (after s xs) ys
unfolding run_entries
run_entries-append s [] ys = refl
run_entries-append s (x ∷ xs) ys =
    ap (λ (entries : List (List ℕ)). entry_text x (step s x).0 ∷ entries) (run_entries-append (step s x).1 xs ys)

-- an event that gave this
pub one_recorded : (s : State) (event : Event) (output : Output) (old new : Tape) → output ≡ (step s event).0 → Records (entry_text event output ∷ []) old new → Records (run_entries s (event ∷ [])) old new
unfolding run_entries
one_recorded s event output old new is records =
    subst (λ (x : Output). Records (entry_text event x ∷ []) old new) is records
