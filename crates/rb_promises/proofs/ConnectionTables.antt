-- Which connections there are after an event: those that were there, but for the one that is closed, and the one that is opened.
use Rattle.std.specs.Prelude.{filter}
use Rattle.std.specs.List.{AllZip, list_any}
use Rattle.std.proofs.Common.{◌≡◌, ℕ, ◌==◌, max, Bool, true, false, cond, not, None, Ok, Err, List, [], ◌∷◌, ◌++◌, map, refl, sym, ap, ◌∙◌, append-nil, arith}
use Rattle.std.proofs.lemmas.List.{map-append}
use Rattle.std.proofs.lemmas.Grind.{common_steps}
use Rattle.rb_address.specs.declared.who.Who.{Who}
use Rattle.rb_model.specs.declared.types.CoreFault.TheVariants.{Gone}
use Rattle.rb_model.specs.Connections.{has_number, is_there, without_number, close_in_table}
use Rattle.rb_model.specs.Laws.{number_given}
use Rattle.rb_model.specs.State.{State, Connection, Connections}
use Rattle.rb_model.specs.State.Phase.{Idle}
use Rattle.rb_model.specs.Step.{Event, Output, close_connection, dropped_with, output_or, show_done, step}
use Rattle.rb_model.specs.Step.Event.{Open, Bytes, Pending, Gave, Closed, NextLost, Datagram, Unsent, Sent, Forward, Expire, ZeroStats}
use Rattle.rb_promises.specs.Accounts.{opened_by}
use Rattle.rb_promises.specs.Ends.{those_in, left_by}
use Rattle.rb_promises.proofs.ConnectionSteps.{IsAsBefore, Moves, step-moves, closes-done}
use Rattle.rb_promises.proofs.ConnectionSteps.Moves.{Keeps, Adds, Removes}

-- ---- lists of them

abbrev named : Connection → ℕ × Who
named c = (c.number, c.who)

abbrev those : List Connection → List (ℕ × Who)
those all = map (λ (c : Connection). (c.number, c.who)) all

abbrev others : ℕ → List (ℕ × Who) → List (ℕ × Who)
others id all = filter (λ (c : ℕ × Who). not (c.0 == id)) all

same_name : (c d : Connection) → IsAsBefore c d → named d ≡ named c
same_name c d is = ap (λ (n : ℕ). (n, d.who)) is.number ∙ ap (λ (w : Who). (c.number, w)) is.who

same_those : (all now : List Connection) → AllZip IsAsBefore all now → those now ≡ those all
same_those [] [] zip = refl
same_those [] (d ∷ now) zip = absurd zip
same_those (c ∷ all) [] zip = absurd zip
same_those (c ∷ all) (d ∷ now) zip =
    ap (λ (x : ℕ × Who). x ∷ those now) (same_name c d zip.0) ∙ ap (λ (xs : List (ℕ × Who)). named c ∷ xs) (same_those all now zip.1)

without_those : (id : ℕ) (all : List Connection) → those (filter (λ (c : Connection). not (c.number == id)) all) ≡ others id (those all)
without_those id [] = refl
without_those id (c ∷ all) = by_test (not (c.number == id)) (without_those id all)
  where
    by_test : (b : Bool) → those (filter (λ (x : Connection). not (x.number == id)) all) ≡ others id (those all)
        → those (cond b (c ∷ filter (λ (x : Connection). not (x.number == id)) all) (filter (λ (x : Connection). not (x.number == id)) all)) ≡ cond b (named c ∷ others id (those all)) (others id (those all))
    by_test true later = ap (λ (xs : List (ℕ × Who)). named c ∷ xs) later
    by_test false later = later

none_without : (id : ℕ) (all : List Connection) → list_any (has_number id) all ≡ false → others id (those all) ≡ those all
none_without id [] none = refl
none_without id (c ∷ all) none = grind (arith, common_steps, none_without id all)

-- ---- what an event makes of them

pub none_opened : (event : Event) (output : Output) → number_given output ≡ None → opened_by event output ≡ []
none_opened event output none = grind arith

module _ (s : State) where
  abbrev all : List (ℕ × Who)
  all = those s.connections.all

  plainly : (event : Event) (output : Output) (now : Connections) → Moves s event output now → ((id : ℕ) → event ≡ Closed id → ⊥) → those now.all ≡ all ++ opened_by event output
  plainly event output now (Keeps none zip) other =
      same_those s.connections.all now.all zip ∙ sym (append-nil all) ∙ ap (λ (xs : List (ℕ × Who)). all ++ xs) (sym (none_opened event output none))
  plainly event output now (Adds at who is out same) other =
      let new : Connection = record { number = s.connections.next; who = who; phase = Idle; since = max s.clock at } in
      let one : opened_by event output ≡ named new ∷ [] = ap (λ (e : Event). opened_by e output) is ∙ ap (opened_by (Open at who)) out in
      ap (λ (x : Connections). those x.all) same ∙ map-append named s.connections.all (new ∷ []) ∙ ap (λ (xs : List (ℕ × Who)). all ++ xs) (sym one)
  plainly event output now (Removes id is same) other = absurd (other id is)

  stays_so : (id : ℕ) → is_there id s.connections ≡ false → (step s (Closed id)).1.connections ≡ s.connections
  unfolding step close_connection close_in_table
  stays_so id none = ap (λ (b : Bool). (output_or show_done (dropped_with s id (cond b (Ok tt, without_number id s.connections) (Err Gone, s.connections)))).1.connections) none

  none_so : (id : ℕ) → is_there id s.connections ≡ false → others id all ≡ all
  unfolding is_there
  none_so id none = none_without id s.connections.all none

  closed : (id : ℕ) (b : Bool) → is_there id s.connections ≡ b → those (step s (Closed id)).1.connections.all ≡ others id all ++ []
  unfolding without_number
  closed id true there = ap (λ (x : Connections). those x.all) (closes-done s id there).1 ∙ without_those id s.connections.all ∙ sym (append-nil (others id all))
  closed id false gone = ap (λ (x : Connections). those x.all) (stays_so id gone) ∙ sym (none_so id gone) ∙ sym (append-nil (others id all))

  by_moves : (event : Event) → ((id : ℕ) → event ≡ Closed id → ⊥) → those (step s event).1.connections.all ≡ all ++ opened_by event (step s event).0
  by_moves event other = plainly event (step s event).0 (step s event).1.connections (step-moves s event) other

  pub those_there : (event : Event) → those_in (step s event).1 ≡ left_by event (those_in s) ++ opened_by event (step s event).0
  those_there (Open at who) = by_moves (Open at who) (λ id e. absurd cc)
  those_there (Bytes at id piece) = by_moves (Bytes at id piece) (λ k e. absurd cc)
  those_there (Pending id) = by_moves (Pending id) (λ k e. absurd cc)
  those_there (Gave at id n) = by_moves (Gave at id n) (λ k e. absurd cc)
  those_there (Closed id) = closed id (is_there id s.connections) refl
  those_there NextLost = by_moves NextLost (λ id e. absurd cc)
  those_there (Datagram at who content) = by_moves (Datagram at who content) (λ id e. absurd cc)
  those_there Unsent = by_moves Unsent (λ id e. absurd cc)
  those_there (Sent number) = by_moves (Sent number) (λ id e. absurd cc)
  those_there (Forward at from message) = by_moves (Forward at from message) (λ id e. absurd cc)
  those_there (Expire at) = by_moves (Expire at) (λ id e. absurd cc)
  those_there ZeroStats = by_moves ZeroStats (λ id e. absurd cc)
