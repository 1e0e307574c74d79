-- Bytes that came on a connection, and the reply that was given at once: what is recorded of both, and where a run goes on.
use Rattle.std.specs.Prelude.{◌||◌}
use Rattle.std.specs.List.{AllByRecursion}
use Rattle.std.proofs.Common.{◌≡◌, ◌<◌, ◌≤◌, ℕ, zero, suc, Bool, true, false, cond, List, [], ◌∷◌, length, take, drop, eqb, Option, Some, None, Result, Ok, Err, arith, refl, sym, ap, subst, ◌∙◌, inl, inr, ◌⊎◌}
use Rattle.std.proofs.lemmas.Bool.{cond-false, ne_eqb}
use Rattle.std.proofs.lemmas.List.{length-take, length-drop, take_all}
use Rattle.rb_model.specs.declared.types.CoreFault.{CoreFault}
use Rattle.rb_model.specs.declared.types.Taken.{Taken}
use Rattle.rb_model.specs.State.{State, Owed, Phase, Connection}
use Rattle.rb_model.specs.State.Phase.{Idle, Reading, Owing, Awaiting, Lost}
use Rattle.rb_model.specs.Connections.{pending_of, pending_in, live_connection}
use Rattle.rb_model.specs.Step.{Event, Output, step, after, bytes, pending, pending_on, gave, show_taken}
use Rattle.rb_model.specs.Step.Event.{Bytes, Pending, Gave}
use Rattle.rb_model.specs.Step.Output.{IsPending, Done}
use Rattle.rb_model.specs.Laws.{is_owing}
use Rattle.rb_model.specs.Sessions.{pending_bytes}
use Rattle.rb_lines.specs.Entries.{entry_text, run_entries}
use Rattle.rb_lines.specs.Tapes.{Tape, Records}
use Rattle.rb_connections.specs.Slots.{Acts, Shows}
use Rattle.rb_model.specs.Exchanges.{count_now, without_front, exchange, fits_at_once, at_once_in, at_once_on, at_once}
use Rattle.rb_core.specs.StandsFor.{CoreView, StandsFor}
use Rattle.rb_lines.specs.RecordLaws.{Fits, AreBytes, HasLine}
use Rattle.rb_engine.specs.Recording.{given_events, exchange_events, output_or_refusal, given_entries, taken_entries}
use Rattle.rb_engine.proofs.Reached.{output_state, output_given, look_state, look_output, gave_output, given_state, GoesOn, goes}

-- ---- what is given at once is all that is pending

part_fits : (a b : ℕ) (xs : List ℕ) → length (drop a (take b xs)) ≤ length xs
part_fits a b xs = omega (arith, length-drop a (take b xs), length-take b xs)

pending_fits : (o : Owed) → length (pending_of o) ≤ length o.marked
unfolding pending_of
pending_fits o = part_fits _ _ o.marked

whole_in : (room : ℕ) (phase : Phase) → 0 < at_once_in room phase → length (pending_in phase) ≤ at_once_in room phase
whole_in room (Owing o) some = by_fit (fits_at_once room o) some
  where
    by_fit : (fits : Bool) → 0 < cond fits (length o.marked) 0 → length (pending_of o) ≤ cond fits (length o.marked) 0
    by_fit true some = pending_fits o
    by_fit false some = absurd (omega (arith, some))
whole_in room Idle some = absurd (omega (arith, some))
whole_in room (Reading fed) some = absurd (omega (arith, some))
whole_in room Awaiting some = absurd (omega (arith, some))
whole_in room Lost some = absurd (omega (arith, some))

whole_on : (room : ℕ) (c : Option Connection) (owed : List ℕ) → pending_on c ≡ Ok owed → 0 < at_once_on room c → length owed ≤ at_once_on room c
whole_on room None owed is some = absurd (omega (arith, some))
whole_on room (Some c) owed is some = let same : pending_in c.phase ≡ owed = ap (λ (r : Result (List ℕ) CoreFault). pending_bytes r) is in subst (λ (xs : List ℕ). length xs ≤ at_once_in room c.phase) same (whole_in room c.phase some)

whole : (room id : ℕ) (before : Option Connection) (r : Result Taken CoreFault × State) (owed : List ℕ) → pending r.1 id ≡ Ok owed → 0 < at_once room id before r → length owed ≤ at_once room id before r
unfolding pending
whole room id None r owed is some = absurd (omega (arith, some))
whole room id (Some before) (Err fault, s) owed is some = absurd (omega (arith, some))
whole room id (Some before) (Ok taken, s) owed is some = by_owed (is_owing before.phase || taken.lost) some
  where
    by_owed : (b : Bool) → 0 < cond b 0 (at_once_on room (live_connection id s.connections.all)) → length owed ≤ cond b 0 (at_once_on room (live_connection id s.connections.all))
    by_owed true some = absurd (omega (arith, some))
    by_owed false some = whole_on room (live_connection id s.connections.all) owed is some

-- a connection on which something is pending is there
gave_done : (s : State) (now id n : ℕ) (owed : List ℕ) → pending s id ≡ Ok owed → Ok tt ≡ (gave s now id n).0
unfolding pending gave
gave_done s now id n owed is = by_found (live_connection id s.connections.all) refl is
  where
    by_found : (c : Option Connection) → live_connection id s.connections.all ≡ c → pending_on c ≡ Ok owed → Ok tt ≡ (gave s now id n).0
    by_found None found is = absurd cc
    by_found (Some c) found is = rw found refl

-- ---- both

-- What is given of what is pending after the bytes: none, or all of it.
pub record GivenAtOnce (s : State) (now id n : ℕ) (given : List ℕ) : Type 0 where
  pub some : (n ≡ 0) ⊎ (0 < n)
  pub count : length given ≡ n
  pub all : 0 < n → pending s id ≡ Ok given

none_or_more : (n : ℕ) → (n ≡ 0) ⊎ (0 < n)
none_or_more zero = inl refl
none_or_more (suc n) = inr (omega arith)

given_at_once : (s : State) (now id piece_room n : ℕ) (piece given : List ℕ) → length given ≡ n → n ≡ count_now now id piece piece_room s → given ≡ take n (pending_bytes (pending (bytes s now id piece).1 id)) → GivenAtOnce (bytes s now id piece).1 now id n given
given_at_once s now id room n piece given count is front = record {
  some = none_or_more n;
  count = count;
  all = λ some. by_owed some (pending (bytes s now id piece).1 id) refl front;
}
  where
    by_owed : 0 < n → (owed : Result (List ℕ) CoreFault) → pending (bytes s now id piece).1 id ≡ owed → given ≡ take n (pending_bytes owed) → pending (bytes s now id piece).1 id ≡ Ok given
    by_owed some (Err fault) shows front = absurd (omega (arith, some, count, ap (λ (xs : List ℕ). length xs) front, length-take n (pending_bytes (Err fault))))
    by_owed some (Ok owed) shows front =
        let few : length owed ≤ n = rw is (whole room id (live_connection id s.connections.all) (bytes s now id piece) owed shows (rw (← is) some)) in
        shows ∙ ap Ok (sym (front ∙ take_all n owed few))

given_is : (s : State) (now id : ℕ) (given : List ℕ) → pending s id ≡ Ok given → run_entries s (given_events now id (length given)) ≡ given_entries now id given
unfolding run_entries
given_is s now id given is =
    let look : (step s (Pending id)).0 ≡ IsPending given = sym (look_output s id (Ok given) is) in
    let done : (step (step s (Pending id)).1 (Gave now id (length given))).0 ≡ Done =
    ap (λ (t : State). (step t (Gave now id (length given))).0) (look_state s id) ∙ sym (gave_output s now id (length given) given is (omega arith) (gave_done s now id (length given) given is)) in
    ap (λ (x : Output). entry_text (Pending id) x ∷ entry_text (Gave now id (length given)) (step (step s (Pending id)).1 (Gave now id (length given))).0 ∷ []) look
    ∙ ap (λ (x : Output). entry_text (Pending id) (IsPending given) ∷ entry_text (Gave now id (length given)) x ∷ []) done

pub bytes_state : (s : State) (now id : ℕ) (piece : List ℕ) → (step s (Bytes now id piece)).1 ≡ (bytes s now id piece).1
unfolding step
bytes_state s now id piece = output_state show_taken (bytes s now id piece)

bytes_output : (s : State) (now id : ℕ) (piece : List ℕ) → output_or_refusal show_taken (bytes s now id piece).0 ≡ (step s (Bytes now id piece)).0
unfolding step
bytes_output s now id piece = output_given show_taken (bytes s now id piece)

pub nonzero : (n : ℕ) → 0 < n → eqb n 0 ≡ false
nonzero n some = ne_eqb n 0 (λ e. omega (arith, e, some))

given_are : (s t : State) (now id n : ℕ) (given : List ℕ) → t ≡ s → GivenAtOnce s now id n given → cond (eqb (length given) 0) [] (given_entries now id given) ≡ run_entries t (cond (eqb n 0) [] (given_events now id n))
unfolding run_entries
given_are s t now id n given same g = elim g.some [
  | inl none ↦ rw (g.count, none) refl
  | inr some ↦
      cond-false _ _ _ (nonzero (length given) (omega (arith, g.count, some)))
      ∙ sym (given_is s now id given (g.all some))
      ∙ ap (λ (k : ℕ). run_entries s (given_events now id k)) g.count
      ∙ ap (λ (x : State). run_entries x (given_events now id n)) (sym same)
      ∙ ap (λ (events : List Event). run_entries t events) (sym (cond-false _ _ _ (nonzero n some)))
]

exchange_is : (s : State) (now id n : ℕ) (piece given : List ℕ) (taken : Result Taken CoreFault) → taken ≡ (bytes s now id piece).0 → GivenAtOnce (bytes s now id piece).1 now id n given → taken_entries now id piece (output_or_refusal show_taken taken) given ≡ run_entries s (exchange_events now id piece n)
unfolding run_entries
exchange_is s now id n piece given taken is g =
    ap (λ (x : Output). entry_text (Bytes now id piece) x ∷ cond (eqb (length given) 0) [] (given_entries now id given)) (ap (output_or_refusal show_taken) is ∙ bytes_output s now id piece)
    ∙ ap (λ (entries : List (List ℕ)). entry_text (Bytes now id piece) (step s (Bytes now id piece)).0 ∷ entries) (given_are (bytes s now id piece).1 (step s (Bytes now id piece)).1 now id n given (bytes_state s now id piece) g)

exchange_state : (s : State) (now id n : ℕ) (piece given : List ℕ) → GivenAtOnce (bytes s now id piece).1 now id n given → without_front now n id (bytes s now id piece).1 ≡ after s (exchange_events now id piece n)
exchange_state s now id n piece given g = elim g.some [
  | inl none ↦ rw none (sym (bytes_state s now id piece))
  | inr some ↦
      cond-false _ _ _ (nonzero n some)
      ∙ sym (given_state (bytes s now id piece).1 now id n given (g.all some) (omega (arith, g.count)))
      ∙ ap (λ (t : State). after t (given_events now id n)) (sym (bytes_state s now id piece))
      ∙ ap (λ (events : List Event). after (step s (Bytes now id piece)).1 events) (sym (cond-false _ _ _ (nonzero n some)))
]

-- Bytes were taken, and these bytes of the reply given.
pub record Exchanged (now id room n : ℕ) (piece given : List ℕ) (r : Result Taken CoreFault) (old new : CoreView) : Type 0 where
  pub count : length given ≡ n
  pub at_once : Shows StandsFor (count_now now id piece room) old n
  pub acts : Acts StandsFor (exchange now id piece room) old new (r, given)

module _ (now id room n : ℕ) (piece given : List ℕ) (r : Result Taken CoreFault) (old new : CoreView) (h : Exchanged now id room n piece given r old new) where
  pub given_of : (s : State) → StandsFor old s → GivenAtOnce (bytes s now id piece).1 now id n given
  given_of s stands =
      let count = h.at_once s stands in
      given_at_once s now id room n piece given h.count count
      (ap (λ (x : Result Taken CoreFault × List ℕ). x.1) (h.acts.gives s stands) ∙ ap (λ (k : ℕ). take k (pending_bytes (pending (bytes s now id piece).1 id))) (sym count))

  pub exchange_records : (before later : Tape) → Records (taken_entries now id piece (output_or_refusal show_taken r) given) before later → (s : State) → StandsFor old s → Records (run_entries s (exchange_events now id piece n)) before later
  exchange_records before later records s stands =
      subst (λ (entries : List (List ℕ)). Records entries before later) (exchange_is s now id n piece given r (ap (λ (x : Result Taken CoreFault × List ℕ). x.0) (h.acts.gives s stands)) (given_of s stands)) records

  exchange_lines : Fits now → Fits id → AreBytes piece → Fits n → (none : Bool) → AllByRecursion HasLine (Bytes now id piece ∷ cond none [] (given_events now id n))
  exchange_lines now_fits id_fits small n_fits true = ((now_fits, id_fits, small), tt)
  exchange_lines now_fits id_fits small n_fits false = ((now_fits, id_fits, small), (id_fits, ((now_fits, id_fits, n_fits), tt)))

  pub exchange_goes : (before later : Tape) → Records (taken_entries now id piece (output_or_refusal show_taken r) given) before later → Fits now → Fits id → AreBytes piece → Fits n → ∥ GoesOn old new before later (λ s. exchange_events now id piece n) ∥₁
  exchange_goes before later records now_fits id_fits small n_fits =
      goes old new before later (λ s. exchange_events now id piece n) (λ s h. exchange_lines now_fits id_fits small n_fits (eqb n 0))
      (λ s stands. subst (StandsFor new) (ap (λ (k : ℕ). without_front now k id (bytes s now id piece).1) (sym (h.at_once s stands)) ∙ exchange_state s now id n piece given (given_of s stands)) (h.acts.stands s stands))
      (exchange_records before later records)
