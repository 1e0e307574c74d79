-- What an event does to each connection.
use Rattle.std.specs.Prelude.{All, find}
use Rattle.std.specs.List.{AllZip, Contains}
use Rattle.std.proofs.Common.{◌≡◌, ◌⊎◌, inl, inr, ◌≤◌, ℕ, max, min, Bool, true, false, cond, not, eqb, Option, Some, None, Result, Ok, Err, List, [], ◌∷◌, ◌++◌, length, map, take, refl, sym, ap, subst, ◌∙◌, arith}
use Rattle.std.proofs.lemmas.Bool.{and_parts, eqb-false, ne_eqb, not-true, le-ltb}
use Rattle.std.proofs.lemmas.List.Elements.{All-contains, All-weaker, Contains-append_left, Contains-push_cases, filter_passes}
use Rattle.rb_address.specs.declared.who.Who.{Who}
use Rattle.rb_rpc.specs.Records.{data_of}
use Rattle.rb_address.specs.declared.caller.Caller.TheVariants.{Tcp}
use Rattle.rb_model.specs.declared.types.CoreFault.{CoreFault}
use Rattle.rb_model.specs.declared.types.CoreFault.TheVariants.{Gone}
use Rattle.rb_model.specs.declared.types.Taken.{Taken}
use Rattle.rb_model.specs.Calls.{Outcome}
use Rattle.rb_model.specs.Laws.{number_given}
use Rattle.rb_model.specs.State.{State, Phase, Connection, Connections, at_moment}
use Rattle.rb_model.specs.State.Phase.{Lost}
use Rattle.rb_model.specs.Connections.{is_lost, is_live, live_connection, change_first, changed_at, keep_reading, settle, with_given, give, pending_in, is_there, with_new, without_number, close_in_table}
use Rattle.rb_model.specs.Losses.{began_before, stamp_in, lose, evict_early}
use Rattle.rb_model.specs.Step.{sender, Event, Output, pending, pending_on, gave, is_too_much, dropped_with, close_connection, output_or, show_taken, show_done, step}
use Rattle.rb_model.specs.Step.Event.{Open, Gave, Closed}
use Rattle.rb_model.specs.Step.Output.{Opened, TooMuch, Took, TookAndLost, Done}
use Rattle.rb_laws.proofs.Happenings.{Happening, happening, crowd_at, said_in}
use Rattle.rb_laws.proofs.Happenings.Happening.{Stays, Evicts, Opens, Reads, Ends, Gives, Closes, Tells, TimesOut}
use Rattle.rb_promises.specs.Connections.{IsIn, LostConnectionsStay, HasOneOf, IsOpened, OnlyOpeningsAdd, OnlyClosesRemove, as_many, GavesAreCapped}
use Rattle.rb_promises.proofs.Membership.{contains-filter, contains-from_filter, zip-forward, zip-back, zip-same, zip-map, zip-twice}
use Rattle.rb_promises.proofs.RefusalCases.{none-there}

-- ---- a connection that stays

-- it has the number that it had, and the same at its other end; and as a whole it is as it was, if it was Lost
pub record IsAsBefore (old new : Connection) : Type 0 where
  pub number : new.number ≡ old.number
  pub who : new.who ≡ old.who
  pub lost : old.phase ≡ Lost → new ≡ old

same-as : (c : Connection) → IsAsBefore c c
same-as c = record { number = refl; who = refl; lost = λ e. refl }

same-twice : (a b c : Connection) → IsAsBefore a b → IsAsBefore b c → IsAsBefore a c
same-twice a b c first second = record {
  number = second.number ∙ first.number;
  who = second.who ∙ first.who;
  lost = λ e. let same = first.lost e in second.lost (ap (λ (x : Connection). x.phase) same ∙ e) ∙ same;
}

-- the change of a live one keeps its number and who is at its other end
record KeepsWho (f : Connection → Connection) : Type 0 where
  number : (c : Connection) → (f c).number ≡ c.number
  who : (c : Connection) → (f c).who ≡ c.who

reading-keeps : (clock : ℕ) (fed : List ℕ) → KeepsWho (keep_reading clock fed)
unfolding keep_reading
reading-keeps clock fed = record { number = λ c. refl; who = λ c. refl }

settled-keeps : (clock : ℕ) (said : Outcome) → KeepsWho (settle clock said)
unfolding settle
settled-keeps clock said = record { number = λ c. refl; who = λ c. refl }

given-number : (clock n : ℕ) (c : Connection) → (with_given clock n c).number ≡ c.number
unfolding with_given
given-number clock n c = grind arith

given-who : (clock n : ℕ) (c : Connection) → (with_given clock n c).who ≡ c.who
unfolding with_given
given-who clock n c = grind arith

giving-keeps : (clock n : ℕ) → KeepsWho (λ c. (give clock n c).1)
unfolding give
giving-keeps clock n = record {
  number = λ c. given-number clock (min n (length (pending_in c.phase))) c;
  who = λ c. given-who clock (min n (length (pending_in c.phase))) c;
}

losing-keeps : KeepsWho lose
losing-keeps = record { number = λ c. refl; who = λ c. refl }

pub live-not-lost : (id : ℕ) (c : Connection) → is_live id c ≡ true → c.phase ≡ Lost → ⊥
unfolding is_live
live-not-lost id c live lost =
    let is : is_lost c.phase ≡ true = ap is_lost lost in
    let none : is_lost c.phase ≡ false = not-true (is_lost c.phase) (and_parts (eqb c.number id) (not (is_lost c.phase)) live).1 in
    absurd cc

changed-stays : (id : ℕ) (f : Connection → Connection) → KeepsWho f → (all : List Connection) → AllZip IsAsBefore all (change_first (is_live id) f all)
changed-stays id f keeps [] = tt
changed-stays id f keeps (c ∷ all) = by_test (is_live id c) refl (changed-stays id f keeps all)
  where
    by_test : (b : Bool) → is_live id c ≡ b → AllZip IsAsBefore all (change_first (is_live id) f all) → AllZip IsAsBefore (c ∷ all) (cond b (f c ∷ all) (c ∷ change_first (is_live id) f all))
    by_test true e later = (record { number = keeps.number c; who = keeps.who c; lost = λ lost. absurd (live-not-lost id c e lost) }, zip-same IsAsBefore same-as all)
    by_test false e later = (same-as c, later)

lost-twice : (c : Connection) → c.phase ≡ Lost → lose c ≡ c
lost-twice c e = ap (λ (p : Phase). record c { phase = p }) (sym e)

evicted-stays : (changes : List ℕ) (c : Connection) → IsAsBefore c (evict_early changes c)
unfolding evict_early
evicted-stays changes c = by_test (began_before changes (stamp_in c.phase))
  where
    by_test : (b : Bool) → IsAsBefore c (cond b (lose c) c)
    by_test true = record { number = refl; who = refl; lost = lost-twice c }
    by_test false = same-as c

evicting-stays : (changes : List ℕ) (all : List Connection) → AllZip IsAsBefore all (map (evict_early changes) all)
evicting-stays changes all = zip-map IsAsBefore (evict_early changes) (evicted-stays changes) all

-- ---- what an event does to all

pub taken_none : (taken : Taken) → number_given (show_taken taken) ≡ None
taken_none taken = by_lost taken.lost
  where
    by_lost : (b : Bool) → number_given (cond b (TookAndLost taken.count) (Took taken.count)) ≡ None
    by_lost true = refl
    by_lost false = refl

pub data Moves (s : State) (event : Event) (output : Output) (now : Connections) : Type 0 where
  Keeps : number_given output ≡ None → AllZip IsAsBefore s.connections.all now.all → Moves s event output now
  Adds : (at : ℕ) (who : Who) → event ≡ Open at who → output ≡ Opened s.connections.next → now ≡ with_new who (max s.clock at) s.connections → Moves s event output now
  Removes : (id : ℕ) → event ≡ Closed id → now ≡ without_number id s.connections → Moves s event output now

keeps-at : (s : State) (event : Event) (output : Output) (now after : Connections) → number_given output ≡ None → now ≡ after → AllZip IsAsBefore s.connections.all after.all → Moves s event output now
keeps-at s event output now after none same zip = Keeps none (subst (λ (c : Connections). AllZip IsAsBefore s.connections.all c.all) (sym same) zip)

moves : (s : State) (event : Event) (output : Output) (now : Connections) → Happening s event output now → Moves s event output now
moves s event output now (Stays q same) = keeps-at s event output now _ q.no_number same (zip-same IsAsBefore same-as s.connections.all)
moves s event output now (Evicts at who content is q same) = keeps-at s event output now _ q.no_number same (evicting-stays (crowd_at s at (sender s who content) content) s.connections.all)
moves s event output now (Opens at who is out same) = Adds at who is out same
moves s event output now (Reads at id piece c fed is there feeds none out same) =
    keeps-at s event output now _ (ap number_given out) same (changed-stays id (keep_reading (max s.clock at) (fed ++ piece)) (reading-keeps (max s.clock at) (fed ++ piece)) s.connections.all)
moves s event output now (Ends at id piece c fed n is there feeds some out same) =
    let changes : List ℕ = crowd_at s at (Tcp id c.who) (data_of (take n (fed ++ piece))) in
    let said : Outcome = said_in s at id c (take n (fed ++ piece)) in
    keeps-at s event output now _ (ap number_given out ∙ taken_none _) same (zip-twice IsAsBefore same-twice s.connections.all (map (evict_early changes) s.connections.all) _
    (evicting-stays changes s.connections.all) (changed-stays id (settle (max s.clock at) said) (settled-keeps (max s.clock at) said) (map (evict_early changes) s.connections.all)))
moves s event output now (Gives at id n c is there few out same) =
    keeps-at s event output now _ (ap number_given out) same (changed-stays id (λ x. (give (max s.clock at) n x).1) (giving-keeps (max s.clock at) n) s.connections.all)
moves s event output now (Closes id is out there same) = Removes id is same
moves s event output now (Tells at id said is q final told there same) =
    keeps-at s event output now _ q.no_number same (changed-stays id (settle (max s.clock at) said) (settled-keeps (max s.clock at) said) s.connections.all)
moves s event output now (TimesOut at c is q none found same) =
    keeps-at s event output now _ q.no_number same (changed-stays c.number lose losing-keeps s.connections.all)

pub step-moves : (s : State) (event : Event) → Moves s event (step s event).0 (step s event).1.connections
step-moves s event = moves s event (step s event).0 (step s event).1.connections (happening s event)

-- another number is not closed
not-closed : (event : Event) (id : ℕ) (c : Connection) → event ≡ Closed id → (event ≡ Closed c.number → ⊥) → not (eqb c.number id) ≡ true
not-closed event id c is other =
    let apart : eqb c.number id ≡ false = ne_eqb c.number id (λ same. other (is ∙ ap Closed (sym same))) in
    ap not apart

-- ---- Lost ones

lost-within : (s : State) (event : Event) (output : Output) (now : Connections) (c : Connection) → Moves s event output now → IsIn s c → c.phase ≡ Lost → (event ≡ Closed c.number → ⊥) → Contains now.all c
unfolding without_number
lost-within s event output now c (Keeps none zip) within lost other =
    let found = zip-forward IsAsBefore s.connections.all now.all c zip within in
    subst (Contains now.all) (found.2.lost lost) found.1
lost-within s event output now c (Adds at who is out same) within lost other =
    subst (λ (t : Connections). Contains t.all c) (sym same) (Contains-append_left s.connections.all _ c within)
lost-within s event output now c (Removes id is same) within lost other =
    subst (λ (t : Connections). Contains t.all c) (sym same) (contains-filter (λ (x : Connection). not (eqb x.number id)) s.connections.all c within (not-closed event id c is other))

is-there : (s : State) (c : Connection) → IsIn s c → is_there c.number s.connections ≡ true
is-there s c within = by_test (is_there c.number s.connections) refl
  where
    by_test : (b : Bool) → is_there c.number s.connections ≡ b → b ≡ true
    by_test true e = refl
    by_test false e = absurd (All-contains (λ (x : Connection). x.number ≡ c.number → ⊥) s.connections.all c (none-there s c.number e) within refl)

pub closes-done : (s : State) (id : ℕ) → is_there id s.connections ≡ true → ((step s (Closed id)).0 ≡ Done) × ((step s (Closed id)).1.connections ≡ without_number id s.connections)
unfolding step close_connection close_in_table
closes-done s id there = (
  ap (λ (b : Bool). (output_or show_done (dropped_with s id (cond b (Ok tt, without_number id s.connections) (Err Gone, s.connections)))).0) there,
  ap (λ (b : Bool). (output_or show_done (dropped_with s id (cond b (Ok tt, without_number id s.connections) (Err Gone, s.connections)))).1.connections) there,
)

none-left : (id : ℕ) (c : Connections) → All (λ (x : Connection). x.number ≡ id → ⊥) (without_number id c).all
unfolding without_number
none-left id c =
    All-weaker (λ (x : Connection). not (eqb x.number id) ≡ true) (λ (x : Connection). x.number ≡ id → ⊥)
    (λ x passes same. eqb-false x.number id (not-true (eqb x.number id) passes) same) _ (filter_passes (λ (x : Connection). not (eqb x.number id)) c.all)

pub lost_connections_stay : LostConnectionsStay
lost_connections_stay s c within lost =
    let closed = closes-done s c.number (is-there s c within) in
    record {
      stays = λ event other. lost-within s event (step s event).0 (step s event).1.connections c (step-moves s event) within lost other;
      closes = closed.0;
      goes = subst (λ (t : Connections). All (λ (x : Connection). x.number ≡ c.number → ⊥) t.all) (sym closed.1) (none-left c.number s.connections);
    }

-- ---- how they come and go

there-is : (s : State) (c d : Connection) → IsIn s d → d.number ≡ c.number → d.who ≡ c.who → HasOneOf s c
there-is s c d (k, low, is) number who = (k, d, low, is, (number, who))

added : (s : State) (event : Event) (c : Connection) (now : Connections) → now ≡ (step s event).1.connections → Moves s event (step s event).0 now → Contains now.all c → HasOneOf s c ⊎ IsOpened s event c
unfolding without_number
added s event c now is_now (Keeps none zip) within =
    let found = zip-back IsAsBefore s.connections.all now.all c zip within in
    inl (there-is s c found.0 found.1 (sym found.2.number) (sym found.2.who))
added s event c now is_now (Adds at who is out same) within =
    elim (Contains-push_cases s.connections.all _ c (subst (λ (t : Connections). Contains t.all c) same within)) [
      | inl old ↦ inl (there-is s c c old refl refl)
      | inr new ↦ inr (record {
        now = at;
        opens = is ∙ ap (λ (x : Connection). Open at x.who) new;
        told = out ∙ ap (λ (x : Connection). Opened x.number) new;
        number = sym (ap (λ (x : Connection). x.number) new);
        phase = sym (ap (λ (x : Connection). x.phase) new);
        since = sym (ap (λ (x : Connection). x.since) new);
      })
    ]
added s event c now is_now (Removes id is same) within =
    inl (there-is s c c (contains-from_filter (λ (x : Connection). not (eqb x.number id)) s.connections.all c (subst (λ (t : Connections). Contains t.all c) same within)) refl refl)

pub only_openings_add : OnlyOpeningsAdd
only_openings_add s event c within = added s event c (step s event).1.connections refl (step-moves s event) within

removed : (s : State) (event : Event) (output : Output) (after : State) (c : Connection) → Moves s event output after.connections → IsIn s c → (event ≡ Closed c.number → ⊥) → HasOneOf after c
unfolding without_number
removed s event output after c (Keeps none zip) within other =
    let found = zip-forward IsAsBefore s.connections.all after.connections.all c zip within in
    there-is after c found.0 found.1 found.2.number found.2.who
removed s event output after c (Adds at who is out same) within other =
    there-is after c c (subst (λ (t : Connections). Contains t.all c) (sym same) (Contains-append_left s.connections.all _ c within)) refl refl
removed s event output after c (Removes id is same) within other =
    there-is after c c (subst (λ (t : Connections). Contains t.all c) (sym same) (contains-filter (λ (x : Connection). not (eqb x.number id)) s.connections.all c within (not-closed event id c is other))) refl refl

pub only_closes_remove : OnlyClosesRemove
only_closes_remove s event c within other = removed s event (step s event).0 (step s event).1 c (step-moves s event) within other

-- ---- bytes that are given

changed-alike : (test : Connection → Bool) (f g : Connection → Connection) (all : List Connection) (c : Connection) → find test all ≡ Some c → f c ≡ g c → change_first test f all ≡ change_first test g all
changed-alike test f g [] c is same = refl
changed-alike test f g (d ∷ all) c is same = grind (arith, changed-alike test f g all c)

module _ (s : State) (now id : ℕ) (c : Connection) where
  -- the state once this many bytes were given
  abbrev given : ℕ → State
  given n = record (at_moment now s) { connections = changed_at id (λ x. (give (max s.clock now) n x).1) s.connections }

  gave-is : (n : ℕ) → live_connection id s.connections.all ≡ Some c → gave s now id n ≡ (Ok tt, given n)
  unfolding gave give
  gave-is n there = rw there refl

  gives-alike : (n : ℕ) → (give (max s.clock now) n c).1 ≡ (give (max s.clock now) (as_many c n) c).1
  unfolding give
  gives-alike n = ap (λ (m : ℕ). with_given (max s.clock now) m c) (omega arith)

  given-alike : (n : ℕ) → live_connection id s.connections.all ≡ Some c → given n ≡ given (as_many c n)
  unfolding live_connection
  given-alike n there =
      ap (λ (all : List Connection). record (at_moment now s) { connections = record s.connections { all = all } })
      (changed-alike (is_live id) (λ x. (give (max s.clock now) n x).1) (λ x. (give (max s.clock now) (as_many c n) x).1) s.connections.all c there (gives-alike n))

  shown-state : (r : Result (Unit {0}) CoreFault × State) → (output_or show_done r).1 ≡ r.1
  shown-state r = grind arith

  step-gives : (m : ℕ) → live_connection id s.connections.all ≡ Some c → m ≤ length (pending_in c.phase) → (step s (Gave now id m)).1 ≡ (gave s now id m).1
  unfolding step pending
  step-gives m there few =
      let test : is_too_much m (pending_on (live_connection id s.connections.all)) ≡ false = ap (λ (o : Option Connection). is_too_much m (pending_on o)) there ∙ le-ltb (length (pending_in c.phase)) m few in
      ap (λ (b : Bool). (cond b (TooMuch, s) (output_or show_done (gave s now id m))).1) test ∙ shown-state (gave s now id m)

-- it is done, and this is the state after it
done_with : State → Result (Unit {0}) CoreFault × State
done_with t = (Ok tt, t)

pub gaves_are_capped : GavesAreCapped
unfolding done_with
gaves_are_capped s now id n c live =
    let same : gave s now id n ≡ gave s now id (as_many c n) = gave-is s now id c n live ∙ ap done_with (given-alike s now id c n live) ∙ sym (gave-is s now id c (as_many c n) live) in
    record {
      same = same;
      done = ap (λ (r : Result (Unit {0}) CoreFault × State). r.0) (gave-is s now id c n live);
      event = ap (λ (r : Result (Unit {0}) CoreFault × State). r.1) same ∙ sym (step-gives s now id c (as_many c n) live (omega arith));
    }
