-- The numbers of connections only go up.
use Rattle.std.specs.Prelude.{filter_map}
use Rattle.std.specs.List.{cons_option}
use Rattle.std.proofs.Common.{◌≡◌, ℕ, ◌+◌, Option, Some, None, List, [], ◌∷◌, sym, subst, arith}
use Rattle.rb_model.specs.State.{State, Connections}
use Rattle.rb_model.specs.Connections.{without_number}
use Rattle.rb_model.specs.Step.{Event, Output, step, run}
use Rattle.rb_model.specs.Laws.{number_given, AreRisingFrom}
use Rattle.rb_laws.proofs.Happenings.{Happening, happening}

-- a number that is given is the next one, and no other event moves it
abbrev pub GivesNext : Option ℕ → ℕ → ℕ → Type 0
GivesNext None old new = new ≡ old
GivesNext (Some id) old new = (id ≡ old) × (new ≡ old + 1)

none_given : (output : Output) (old : ℕ) (now : Connections) → number_given output ≡ None → now.next ≡ old → GivesNext (number_given output) old now.next
none_given output old now none same = subst (λ (o : Option ℕ). GivesNext o old now.next) (sym none) same

pub happening-next : (s : State) (event : Event) (output : Output) (now : Connections) → Happening s event output now → GivesNext (number_given output) s.connections.next now.next
unfolding without_number
happening-next s event output now p = grind arith

pub step-next : (s : State) (event : Event) → GivesNext (number_given (step s event).0) s.connections.next (step s event).1.connections.next
step-next s event = happening-next s event (step s event).0 (step s event).1.connections (happening s event)

rising : (o : Option ℕ) (old new : ℕ) (rest : List ℕ) → GivesNext o old new → AreRisingFrom new rest → AreRisingFrom old (cons_option o rest)
rising o old new rest e later = grind arith

pub numbers_rise : (s : State) (events : List Event) → AreRisingFrom s.connections.next (filter_map number_given (run s events))
numbers_rise s [] = tt
numbers_rise s (event ∷ events) = rising (number_given (step s event).0) s.connections.next (step s event).1.connections.next _ (step-next s event) (numbers_rise (step s event).1 events)
