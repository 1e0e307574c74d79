-- A run goes on from the state after the events before.
use Rattle.std.proofs.Common.{◌≡◌, List, [], ◌∷◌, ◌++◌, refl, ap}
use Rattle.rb_model.specs.State.{State}
use Rattle.rb_model.specs.Step.{Event, Output, step, run, after}

pub run-append : (s : State) (xs ys : List Event) → run s (xs ++ ys) ≡ run s xs ++ run (after s xs) ys
run-append s [] ys = refl
run-append s (x ∷ xs) ys = ap (λ (rest : List Output). (step s x).0 ∷ rest) (run-append (step s x).1 xs ys)

pub after-append : (s : State) (xs ys : List Event) → after s (xs ++ ys) ≡ after (after s xs) ys
after-append s [] ys = refl
after-append s (x ∷ xs) ys = after-append (step s x).1 xs ys
