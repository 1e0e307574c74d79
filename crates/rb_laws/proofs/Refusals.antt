-- A refused event leaves the state.
use Rattle.std.proofs.Common.{◌≡◌, ℕ, Bool, true, false, cond, Option, Result, Ok, Err, List, refl, arith}
use Rattle.std.proofs.lemmas.Grind.{common_steps}
use Rattle.rb_forward.specs.Forwards.{can_be_sent}
use Rattle.rb_answers.specs.Forwarding.{call_sent}
use Rattle.rb_model.specs.declared.types.CoreFault.{CoreFault}
use Rattle.rb_model.specs.declared.types.CoreFault.TheVariants.{Gone}
use Rattle.rb_model.specs.Calls.{Outcome}
use Rattle.rb_model.specs.State.{State, Connection, Connections}
use Rattle.rb_model.specs.Connections.{close_in_table}
use Rattle.rb_model.specs.declared.types.Told.{Told}
use Rattle.rb_model.specs.declared.types.Expired.{Expired}
use Rattle.rb_model.specs.Step.{Event, Output, sent_call, show_end, show_expired, unless_refused, bytes_to, bytes, gave, open_connection, close_connection, output_or, show_taken, show_outcome, step}
use Rattle.rb_model.specs.declared.types.Taken.{Taken}
use Rattle.rb_model.specs.Step.Output.{Took, TookAndLost}
use Rattle.rb_model.specs.Laws.{IsKeptIfRefused}

-- a call that refuses leaves the state
abbrev IsKept : {A : Type 0} → State → Result A CoreFault × State → Type 0
IsKept s (Ok x, t) = Unit {0}
IsKept s (Err fault, t) = t ≡ s

-- each of two cases is so
either : {X : Type 0} (P : X → Type 0) (b : Bool) (x y : X) → P x → P y → P (cond b x y)
either P b x y left right = grind arith

-- what a word that is no refusal shows
shown-or : {A : Type 0} (s : State) (show : A → Output) (plain : (x : A) (t : State) → IsKeptIfRefused (show x) s t) (r : Result A CoreFault × State) → IsKept s r → IsKeptIfRefused (output_or show r).0 s (output_or show r).1
shown-or s show plain r kept = grind arith

moves : {A : Type 0} (now : ℕ) (s : State) (r : Result A CoreFault × Connections) → IsKept s (unless_refused now s r)
moves now s r = grind arith

bytes_kept : (s : State) (now id : ℕ) (piece : List ℕ) (o : Option Connection) → IsKept s (bytes_to s now id piece o)
bytes_kept s now id piece o = grind arith

closes : (s : State) (id : ℕ) → IsKept s (close_connection s id)
unfolding close_connection close_in_table
closes s id = grind arith

lends : (s : State) (r : Result (List ℕ) CoreFault) → IsKept s (r, s)
lends s r = grind arith

shows_taken : (s : State) (t : Taken) (u : State) → IsKeptIfRefused (show_taken t) s u
shows_taken s t u = elim (t.lost) as (λ b. IsKeptIfRefused (cond b (TookAndLost t.count) (Took t.count)) s u) [ true ↦ tt | false ↦ tt ]

shows_outcome : (s : State) (r : Outcome × State) → IsKeptIfRefused (show_outcome r).0 s (show_outcome r).1
shows_outcome s r = grind arith

shows_end : (s : State) (r : Option Told × State) → IsKeptIfRefused (show_end r).0 s (show_end r).1
shows_end s r = grind arith

shows_expired : (s : State) (r : Expired × State) → IsKeptIfRefused (show_expired r).0 s (show_expired r).1
shows_expired s r = grind arith

sends : (s : State) (number : ℕ) → IsKept s (sent_call s number)
unfolding sent_call
sends s number = either (λ (r : Result (Unit {0}) CoreFault × State). IsKept s r) (can_be_sent number s.ledger.forwards) (Ok tt, record s { ledger = call_sent number s.ledger }) (Err Gone, s) tt refl

pub kept : (s : State) (event : Event) → IsKeptIfRefused (step s event).0 s (step s event).1
unfolding step bytes gave open_connection
kept s event = grind (arith, common_steps, shown-or, moves, shows_taken, bytes_kept, lends, either, closes, shows_outcome, sends, shows_end, shows_expired)
