-- What is given into a room is given by steps: piece by piece, a look at what is pending and the giving of it.
use Rattle.std.specs.Prelude.{find}
use Rattle.std.specs.List.{flat_map}
use Rattle.std.proofs.Common.{◌≡◌, ◌<◌, ◌≤◌, ℕ, zero, suc, ◌+◌, ◌-◌, ◌*◌, ◌/◌, min, max, ltb, Bool, true, false, cond, eqb, Option, Some, None, Result, Ok, Err, List, [], ◌∷◌, ◌++◌, length, take, drop, lit<, refl, sym, ap, subst, ◌∙◌, inl, inr, arith, append-nil, length-append}
use Rattle.std.proofs.lemmas.Bool.{le-ltb, lt-ltb, cond-true, cond-false, cases_lt, ne_eqb}
use Rattle.std.proofs.lemmas.Grind.{common_steps}
use Rattle.std.proofs.lemmas.List.{length-take, length-drop, take_all, drop_all, nil_from_length}
use Rattle.std.proofs.Math.Seq.{take-append_seam, drop-append_seam}
use Rattle.rb_model.specs.declared.types.CoreFault.{CoreFault}
use Rattle.rb_model.specs.declared.types.CoreFault.TheVariants.{Gone}
use Rattle.rb_model.specs.State.{Owed, Phase, Connection, State, at_moment}
use Rattle.rb_model.specs.State.Phase.{Idle, Reading, Owing, Awaiting, Lost}
use Rattle.rb_model.specs.Connections.{longest_fragment, pending_of, pending_in, is_live, live_connection, change_first, changed_at, phase_when_given, with_given, give, on_found}
use Rattle.rb_model.specs.Sessions.{pending_bytes}
use Rattle.rb_model.specs.Step.{Event, Output, step, run, after, pending, pending_on, gave, unless_refused, output_or, show_done, is_too_much}
use Rattle.rb_model.specs.Step.Event.{Pending, Gave}
use Rattle.rb_model.specs.Step.Output.{IsPending, Done, TooMuch}
use Rattle.rb_model.specs.Gives.{end_within, fitting_of, fitting_in, write_fitting, unless_nothing, write_into, cut_from, pieces_of, piece_events, piece_outputs, first_piece, GivesBySteps, GivesAreSteps}
use Rattle.rb_model.proofs.Gives.{front_end, count_pending, fits_none, fits_last, fits_more}
use Rattle.rb_laws.proofs.Cuts.{IsFeeding, find-changed, changed-twice}

-- ---- bytes that are given on a live connection

-- the state once this many bytes were given; none leave it, its clock too
abbrev given_at : State → ℕ → ℕ → ℕ → State
given_at s now id n =
    cond (eqb n 0) s (record (at_moment now s) { connections = changed_at id (λ (c : Connection). with_given (max s.clock now) n c) s.connections })

some-given : (s : State) (now id n : ℕ) → 0 < n → given_at s now id n ≡ record (at_moment now s) { connections = changed_at id (λ (c : Connection). with_given (max s.clock now) n c) s.connections }
some-given s now id n some = cond-false _ _ _ (ne_eqb n 0 (λ e. omega (arith, e, some)))

giving-feeds : (id clock n : ℕ) → IsFeeding id (λ (c : Connection). with_given clock n c)
unfolding is_live with_given
giving-feeds id clock n = record { live = λ c e. grind arith }

-- the change of the connection that is found is what counts
changed-alike : (test : Connection → Bool) (f g : Connection → Connection) (all : List Connection) (c : Connection) → find test all ≡ Some c → f c ≡ g c → change_first test f all ≡ change_first test g all
changed-alike test f g [] c is same = refl
changed-alike test f g (d ∷ all) c is same = grind (arith, changed-alike test f g all c)

given-twice : (clock p r : ℕ) → 0 < p → 0 < r → (c : Connection) → with_given clock r (with_given clock p c) ≡ with_given clock (p + r) c
unfolding with_given
given-twice clock p r some more c = grind (arith, common_steps)

given-behind : (s : State) (now id p r : ℕ) → 0 < p → given_at (given_at s now id p) now id r ≡ given_at s now id (p + r)
given-behind s now id p zero some = ap (λ (n : ℕ). given_at s now id n) (omega arith)
given-behind s now id p (suc r) some =
    let more : 0 < suc r = omega arith in
    let clock : max (max s.clock now) now ≡ max s.clock now = omega arith in
    ap (λ (t : State). given_at t now id (suc r)) (some-given s now id p some)
    ∙ some-given (record (at_moment now s) { connections = changed_at id (λ (c : Connection). with_given (max s.clock now) p c) s.connections }) now id (suc r) more
    ∙ ap (λ (k : ℕ). record s { clock = k; connections = record s.connections { all = change_first (is_live id) (λ (c : Connection). with_given k (suc r) c) (change_first (is_live id) (λ (c : Connection). with_given (max s.clock now) p c) s.connections.all) } }) clock
    ∙ ap (λ (all : List Connection). record s { clock = max s.clock now; connections = record s.connections { all = all } })
    (changed-twice id (λ (c : Connection). with_given (max s.clock now) p c) (λ (c : Connection). with_given (max s.clock now) (suc r) c) (λ (c : Connection). with_given (max s.clock now) (p + suc r) c)
    (giving-feeds id (max s.clock now) p) (given-twice (max s.clock now) p (suc r) some more) s.connections.all)
    ∙ sym (some-given s now id (p + suc r) (omega (arith, some)))

-- ---- one piece

-- These pieces are looked at and given one by one, and `new` is the state after them.
record Steps (s : State) (now id : ℕ) (pieces : List (List ℕ)) (new : State) : Type 0 where
  state : new ≡ after s (piece_events now id pieces)
  outputs : run s (piece_events now id pieces) ≡ piece_outputs pieces

module _ (s : State) (now id : ℕ) (c : Connection) (o : Owed) (live : live_connection id s.connections.all ≡ Some c) (owes : c.phase ≡ Owing o) where
  is-pending : pending s id ≡ Ok (pending_of o)
  unfolding pending
  is-pending = ap (λ (x : Option Connection). pending_on x) live ∙ ap (λ (phase : Phase). let r : Result (List ℕ) CoreFault = Ok (pending_in phase) in r) owes

  look-is : step s (Pending id) ≡ (IsPending (pending_of o), s)
  unfolding step
  look-is = ap (λ (r : Result (List ℕ) CoreFault). output_or IsPending (r, s)) is-pending

  given-is : 0 < length (pending_of o) → gave s now id (length (pending_of o)) ≡ (Ok tt, given_at s now id (length (pending_of o)))
  unfolding gave give live_connection
  given-is some =
      let n : ℕ = length (pending_of o) in
      let clock : ℕ = max s.clock now in
      let all : min n (length (pending_in c.phase)) ≡ n = rw owes (omega arith) in
      ap (λ (x : Option Connection). unless_refused now s (on_found id (give clock n) s.connections x)) live
      ∙ ap (λ (xs : List Connection). let r : Result (Unit {0}) CoreFault × State = (Ok tt, record (at_moment now s) { connections = record s.connections { all = xs } }) in r)
      (changed-alike (is_live id) (λ (x : Connection). (give clock n x).1) (λ (x : Connection). with_given clock n x) s.connections.all c live (ap (λ (k : ℕ). with_given clock k c) all))
      ∙ ap (λ (t : State). let r : Result (Unit {0}) CoreFault × State = (Ok tt, t) in r) (sym (some-given s now id n some))

  gave-is : 0 < length (pending_of o) → step s (Gave now id (length (pending_of o))) ≡ (Done, given_at s now id (length (pending_of o)))
  unfolding step
  gave-is some =
      let n : ℕ = length (pending_of o) in
      let plain : is_too_much n (pending s id) ≡ false = rw is-pending (le-ltb n n (omega arith)) in
      cond-false _ _ _ plain ∙ ap (λ (r : Result (Unit {0}) CoreFault × State). output_or show_done r) (given-is some)

  one-more : 0 < length (pending_of o) → (pieces : List (List ℕ)) (new : State) → Steps (given_at s now id (length (pending_of o))) now id pieces new → Steps s now id (pending_of o ∷ pieces) new
  one-more some pieces new steps =
      let n : ℕ = length (pending_of o) in
      let looked : (step s (Pending id)).1 ≡ s = ap (λ (r : Output × State). r.1) look-is in
      let gave_here : step (step s (Pending id)).1 (Gave now id n) ≡ (Done, given_at s now id n) = ap (λ (t : State). step t (Gave now id n)) looked ∙ gave-is some in
      record {
        state = steps.state ∙ ap (λ (r : Output × State). after r.1 (piece_events now id pieces)) (sym gave_here);
        outputs =
            ap (λ (x : Output). x ∷ (step (step s (Pending id)).1 (Gave now id n)).0 ∷ run (step (step s (Pending id)).1 (Gave now id n)).1 (piece_events now id pieces)) (ap (λ (r : Output × State). r.0) look-is)
            ∙ ap (λ (r : Output × State). IsPending (pending_of o) ∷ r.0 ∷ run r.1 (piece_events now id pieces)) gave_here
            ∙ ap (λ (xs : List Output). IsPending (pending_of o) ∷ Done ∷ xs) steps.outputs;
      }

  live-then : (p : ℕ) → 0 < p → live_connection id (given_at s now id p).connections.all ≡ Some (with_given (max s.clock now) p c)
  unfolding live_connection
  live-then p some =
      ap (λ (t : State). find (is_live id) t.connections.all) (some-given s now id p some)
      ∙ find-changed id (λ (x : Connection). with_given (max s.clock now) p x) (giving-feeds id (max s.clock now) p) s.connections.all c live

  owes-then : (p : ℕ) → 0 < p → o.given + p < length o.marked → (with_given (max s.clock now) p c).phase ≡ Owing (record o { given = o.given + p })
  unfolding with_given
  owes-then p some less =
      ap (λ (x : Connection). x.phase) (cond-false _ _ _ (ne_eqb p 0 (λ e. omega (arith, e, some))))
      ∙ ap (λ (phase : Phase). phase_when_given p phase) owes
      ∙ cond-true (ltb (o.given + p) (length o.marked)) _ _ (lt-ltb (o.given + p) (length o.marked) less)

-- ---- all pieces

-- This many bytes are the first piece: those that are pending.
abbrev IsFirst : ℕ → ℕ → Owed → Type 0
IsFirst first room o = 0 < length (fitting_of room o) → (take first (fitting_of room o) ≡ pending_of o) × (drop first (fitting_of room o) ≡ drop (length (pending_of o)) (fitting_of room o))

-- what fits begins with what is pending
pending-some : (room : ℕ) (o : Owed) → 0 < length (fitting_of room o) → 0 < length (pending_of o)
unfolding fitting_of longest_fragment
pending-some room o some = omega (arith, some, count_pending o, length-drop o.given (take (end_within room o) o.marked), length-take (end_within room o) o.marked)

some-pending : (room : ℕ) (o : Owed) → 0 < length (fitting_of room o) → (length (pending_of o) ≤ room) × (0 < length (pending_of o))
some-pending room o some = elim (cases_lt room (length (pending_of o))) [
  | inl less ↦ absurd (omega (arith, some, ap (λ (xs : List ℕ). length xs) (fits_none room o less)))
  | inr fits ↦ (fits, pending-some room o some)
]

-- all of it, and what is after it
data Parts (room : ℕ) (o : Owed) : Type 0 where
  IsLast : length o.marked ≤ front_end o → fitting_of room o ≡ pending_of o → Parts room o
  HasMore : front_end o ≡ o.given + length (pending_of o) → front_end o < length o.marked → fitting_of room o ≡ pending_of o ++ fitting_of (room - length (pending_of o)) (record o { given = o.given + length (pending_of o) }) → Parts room o

parts : (room : ℕ) (o : Owed) → length (pending_of o) ≤ room → 0 < length (pending_of o) → Parts room o
parts room o fits some = elim (cases_lt (front_end o) (length o.marked)) [
  | inl more ↦ HasMore (omega (arith, some, more, count_pending o)) more (fits_more room o fits more)
  | inr last ↦ IsLast last (fits_last room o fits last)
]

-- the pending bytes are the first piece
pending-first : (room : ℕ) (o : Owed) → IsFirst (length (pending_of o)) room o
pending-first room o some =
    let can = some-pending room o some in
    (by_parts (parts room o can.0 can.1), refl)
  where
    by_parts : Parts room o → take (length (pending_of o)) (fitting_of room o) ≡ pending_of o
    by_parts (IsLast last is) = ap (λ (xs : List ℕ). take (length (pending_of o)) xs) is ∙ take_all (length (pending_of o)) (pending_of o) (omega arith)
    by_parts (HasMore end more is) = ap (λ (xs : List ℕ). take (length (pending_of o)) xs) is ∙ take-append_seam (pending_of o) _

few-pend : (o : Owed) (k : ℕ) → o.given ≡ longest_fragment * k → length (pending_of o) ≤ longest_fragment
unfolding longest_fragment
few-pend o k at = omega (arith, at, count_pending o)

all-pend : (o : Owed) (k : ℕ) → o.given ≡ longest_fragment * k → front_end o < length o.marked → length (pending_of o) ≡ longest_fragment
unfolding longest_fragment
all-pend o k at more = omega (arith, at, count_pending o, more)

-- so is a fragment if the giving stands at the end of one
fragment-first : (room : ℕ) (o : Owed) (k : ℕ) → o.given ≡ longest_fragment * k → IsFirst longest_fragment room o
fragment-first room o k at some =
    let can = some-pending room o some in
    by_parts (parts room o can.0 can.1)
  where
    by_parts : Parts room o → (take longest_fragment (fitting_of room o) ≡ pending_of o) × (drop longest_fragment (fitting_of room o) ≡ drop (length (pending_of o)) (fitting_of room o))
    by_parts (IsLast last is) = (
      ap (λ (xs : List ℕ). take longest_fragment xs) is ∙ take_all longest_fragment (pending_of o) (few-pend o k at),
      ap (λ (xs : List ℕ). drop longest_fragment xs) is ∙ drop_all longest_fragment (pending_of o) (few-pend o k at) ∙ sym (drop_all (length (pending_of o)) (pending_of o) (omega arith)) ∙ ap (λ (xs : List ℕ). drop (length (pending_of o)) xs) (sym is),
    )
    by_parts (HasMore end more is) =
        let same : longest_fragment ≡ length (pending_of o) = sym (all-pend o k at more) in
        (ap (λ (n : ℕ). take n (fitting_of room o)) same ∙ (pending-first room o some).0, ap (λ (n : ℕ). drop n (fitting_of room o)) same)

no-steps : (s : State) (now id k first : ℕ) → Steps s now id (cut_from k first []) s
no-steps s now id zero first = record { state = refl; outputs = refl }
no-steps s now id (suc k) first = record { state = refl; outputs = refl }

-- a piece, and those after it
cut-more : (k first : ℕ) (bytes : List ℕ) → 0 < length bytes → cut_from (suc k) first bytes ≡ take first bytes ∷ cut_from k longest_fragment (drop first bytes)
cut-more k first [] some = absurd (omega (arith, some))
cut-more k first (byte ∷ bytes) some = refl

none-fit : (s : State) (now id room k first : ℕ) (o : Owed) → length (fitting_of room o) ≤ 0 → Steps s now id (cut_from k first (fitting_of room o)) (given_at s now id (length (fitting_of room o)))
none-fit s now id room k first o none =
    let nothing : [] ≡ fitting_of room o = sym (nil_from_length (fitting_of room o) (omega (arith, none))) in
    subst (λ (bytes : List ℕ). Steps s now id (cut_from k first bytes) (given_at s now id (length bytes))) nothing (no-steps s now id k first)

steps-on : (k : ℕ) (s : State) (now id room first : ℕ) (c : Connection) (o : Owed) → live_connection id s.connections.all ≡ Some c → c.phase ≡ Owing o → length (fitting_of room o) ≤ k → IsFirst first room o
    → Steps s now id (cut_from k first (fitting_of room o)) (given_at s now id (length (fitting_of room o)))
steps-on zero s now id room first c o live owes enough is_first = none-fit s now id room zero first o enough
steps-on (suc k) s now id room first c o live owes enough is_first = elim (cases_lt 0 (length (fitting_of room o))) [
  | inl some ↦ by_parts some (some-pending room o some).1 (λ t at n first number x then. steps-on k t at number n first x then) (parts room o (some-pending room o some).0 (some-pending room o some).1)
  | inr none ↦ none-fit s now id room (suc k) first o none
]
  where
    cut : 0 < length (fitting_of room o) → cut_from (suc k) first (fitting_of room o) ≡ pending_of o ∷ cut_from k longest_fragment (drop (length (pending_of o)) (fitting_of room o))
    cut some =
        cut-more k first (fitting_of room o) some
        ∙ ap (λ (piece : List ℕ). piece ∷ cut_from k longest_fragment (drop first (fitting_of room o))) (is_first some).0
        ∙ ap (λ (bytes : List ℕ). pending_of o ∷ cut_from k longest_fragment bytes) (is_first some).1

    by_parts : 0 < length (fitting_of room o) → 0 < length (pending_of o)
        → ((t : State) (at n first : ℕ) (number : ℕ) (x : Connection) (then : Owed) → live_connection number t.connections.all ≡ Some x → x.phase ≡ Owing then → length (fitting_of n then) ≤ k → IsFirst first n then → Steps t at number (cut_from k first (fitting_of n then)) (given_at t at number (length (fitting_of n then))))
        → Parts room o → Steps s now id (cut_from (suc k) first (fitting_of room o)) (given_at s now id (length (fitting_of room o)))
    by_parts some pends further (IsLast last is) =
        let p : ℕ = length (pending_of o) in
        let over : drop p (fitting_of room o) ≡ [] = ap (λ (bytes : List ℕ). drop p bytes) is ∙ drop_all p (pending_of o) (omega arith) in
        let pieces : cut_from (suc k) first (fitting_of room o) ≡ pending_of o ∷ cut_from k longest_fragment [] = cut some ∙ ap (λ (bytes : List ℕ). pending_of o ∷ cut_from k longest_fragment bytes) over in
        subst (λ (n : ℕ). Steps s now id (cut_from (suc k) first (fitting_of room o)) (given_at s now id n)) (ap (λ (bytes : List ℕ). length bytes) (sym is))
        (subst (λ (xs : List (List ℕ)). Steps s now id xs (given_at s now id p)) (sym pieces)
        (one-more s now id c o live owes pends (cut_from k longest_fragment []) (given_at s now id p) (no-steps (given_at s now id p) now id k longest_fragment)))
    by_parts some pends further (HasMore end more is) =
        let p : ℕ = length (pending_of o) in
        let then : Owed = record o { given = o.given + p } in
        let rest : List ℕ = fitting_of (room - p) then in
        let behind : drop p (fitting_of room o) ≡ rest = ap (λ (bytes : List ℕ). drop p bytes) is ∙ drop-append_seam (pending_of o) rest in
        let count : length (fitting_of room o) ≡ p + length rest = ap (λ (bytes : List ℕ). length bytes) is ∙ length-append (pending_of o) rest in
        let pieces : cut_from (suc k) first (fitting_of room o) ≡ pending_of o ∷ cut_from k longest_fragment rest = cut some ∙ ap (λ (bytes : List ℕ). pending_of o ∷ cut_from k longest_fragment bytes) behind in
        let later : Steps (given_at s now id p) now id (cut_from k longest_fragment rest) (given_at (given_at s now id p) now id (length rest)) =
        further (given_at s now id p) now (room - p) longest_fragment id (with_given (max s.clock now) p c) then (live-then s now id c o live owes p pends)
        (owes-then s now id c o live owes p pends (omega (arith, end, more))) (omega (arith, enough, count, pends)) (fragment-first (room - p) then (o.given / longest_fragment + 1) (sym end)) in
        subst (λ (t : State). Steps s now id (cut_from (suc k) first (fitting_of room o)) t) (given-behind s now id p (length rest) pends ∙ ap (λ (n : ℕ). given_at s now id n) (sym count))
        (subst (λ (xs : List (List ℕ)). Steps s now id xs (given_at (given_at s now id p) now id (length rest))) (sym pieces)
        (one-more s now id c o live owes pends (cut_from k longest_fragment rest) (given_at (given_at s now id p) now id (length rest)) later))

-- ---- what is given

gives-in : (s : State) (now id room : ℕ) (c : Connection) (o : Owed) → live_connection id s.connections.all ≡ Some c → c.phase ≡ Owing o → write_into s now id room ≡ (Ok (fitting_of room o), given_at s now id (length (fitting_of room o)))
unfolding write_into write_fitting live_connection
gives-in s now id room c o live owes =
    let clock : ℕ = max s.clock now in
    let count : ℕ = length (fitting_of room o) in
    ap (λ (x : Option Connection). unless_nothing s (unless_refused now s (on_found id (write_fitting clock room) s.connections x))) live
    ∙ ap (λ (bytes : List ℕ). unless_nothing s (Ok bytes, record (at_moment now s) { connections = record s.connections { all = change_first (is_live id) (λ (x : Connection). (write_fitting clock room x).1) s.connections.all } })) (ap (λ (phase : Phase). fitting_in room phase) owes)
    ∙ ap (λ (all : List Connection). unless_nothing s (Ok (fitting_of room o), record (at_moment now s) { connections = record s.connections { all = all } }))
    (changed-alike (is_live id) (λ (x : Connection). (write_fitting clock room x).1) (λ (x : Connection). with_given clock count x) s.connections.all c live (ap (λ (phase : Phase). with_given clock (length (fitting_in room phase)) c) owes))
    ∙ by_bytes (fitting_of room o)
  where
    by_bytes : (bytes : List ℕ) → unless_nothing s (Ok bytes, record (at_moment now s) { connections = changed_at id (λ (x : Connection). with_given (max s.clock now) (length bytes) x) s.connections }) ≡ (Ok bytes, given_at s now id (length bytes))
    by_bytes [] = refl
    by_bytes (byte ∷ bytes) =
        ap (λ (t : State). let r : Result (List ℕ) CoreFault × State = (Ok (byte ∷ bytes), t) in r) (sym (some-given s now id (length (byte ∷ bytes)) (omega arith)))

-- if nothing is owed, nothing is given
gives-none : (s : State) (now id room : ℕ) (c : Connection) → live_connection id s.connections.all ≡ Some c → fitting_in room c.phase ≡ [] → write_into s now id room ≡ (Ok [], s)
unfolding write_into write_fitting
gives-none s now id room c live none =
    let clock : ℕ = max s.clock now in
    ap (λ (x : Option Connection). unless_nothing s (unless_refused now s (on_found id (write_fitting clock room) s.connections x))) live
    ∙ ap (λ (bytes : List ℕ). unless_nothing s (Ok bytes, record (at_moment now s) { connections = changed_at id (λ (x : Connection). (write_fitting clock room x).1) s.connections })) none

steps-of-none : (s : State) (now id : ℕ) (bytes : List ℕ) (new : State) (r : Result (List ℕ) CoreFault × State) → r ≡ (Ok [], s) → r ≡ (Ok bytes, new) → GivesBySteps s now id bytes new
unfolding pieces_of
steps-of-none s now id bytes new r is gives =
    let same : bytes ≡ [] = ap (λ (x : Result (List ℕ) CoreFault × State). pending_bytes x.0) (sym gives ∙ is) in
    let stays : new ≡ s = ap (λ (x : Result (List ℕ) CoreFault × State). x.1) (sym gives ∙ is) in
    rw (same, stays) (record { state = refl; outputs = refl })

gives-refused : (s : State) (now id room : ℕ) → live_connection id s.connections.all ≡ None → write_into s now id room ≡ (Err Gone, s)
unfolding write_into
gives-refused s now id room live =
    ap (λ (x : Option Connection). unless_nothing s (unless_refused now s (on_found id (write_fitting (max s.clock now) room) s.connections x))) live

pub gives_are_steps : GivesAreSteps
unfolding pieces_of
gives_are_steps s now id room bytes new gives = by_live (live_connection id s.connections.all) refl
  where
    by_phase : (c : Connection) (phase : Phase) → live_connection id s.connections.all ≡ Some c → c.phase ≡ phase → GivesBySteps s now id bytes new
    by_phase c (Owing o) live owes =
        let is = sym gives ∙ gives-in s now id room c o live owes in
        let same : bytes ≡ fitting_of room o = ap (λ (x : Result (List ℕ) CoreFault × State). pending_bytes x.0) is in
        let then : new ≡ given_at s now id (length (fitting_of room o)) = ap (λ (x : Result (List ℕ) CoreFault × State). x.1) is in
        let first : first_piece s id ≡ length (pending_of o) = ap (λ (r : Result (List ℕ) CoreFault). length (pending_bytes r)) (is-pending s now id c o live owes) in
        let steps = steps-on (length (fitting_of room o)) s now id room (length (pending_of o)) c o live owes (omega arith) (pending-first room o) in
        let all : Steps s now id (cut_from (length bytes) (first_piece s id) bytes) new = rw (same, then, first) steps in
        record { state = all.state; outputs = all.outputs }
    by_phase c Idle live is = steps-of-none s now id bytes new (write_into s now id room) (gives-none s now id room c live (ap (λ (phase : Phase). fitting_in room phase) is)) gives
    by_phase c (Reading fed) live is = steps-of-none s now id bytes new (write_into s now id room) (gives-none s now id room c live (ap (λ (phase : Phase). fitting_in room phase) is)) gives
    by_phase c Awaiting live is = steps-of-none s now id bytes new (write_into s now id room) (gives-none s now id room c live (ap (λ (phase : Phase). fitting_in room phase) is)) gives
    by_phase c Lost live is = steps-of-none s now id bytes new (write_into s now id room) (gives-none s now id room c live (ap (λ (phase : Phase). fitting_in room phase) is)) gives

    by_live : (c : Option Connection) → live_connection id s.connections.all ≡ c → GivesBySteps s now id bytes new
    by_live (Some c) live = by_phase c c.phase live refl
    by_live None live =
        let both : Err Gone ≡ Ok bytes = ap (λ (x : Result (List ℕ) CoreFault × State). x.0) (sym (gives-refused s now id room live) ∙ gives) in
        absurd cc
