-- What is given into a room, piece by piece: what is recorded of it, and where a run goes on.
use Rattle.std.specs.List.{AllByRecursion}
use Rattle.std.proofs.Common.{◌≡◌, ◌<◌, ◌≤◌, ℕ, zero, suc, min, max, false, lit<, List, [], ◌∷◌, ◌++◌, length, take, drop, Option, Some, None, Result, Ok, Err, arith, refl, sym, ap, subst, ◌∙◌, append_assoc, append-nil}
use Rattle.std.proofs.Math.Bridge.{le_prop}
use Rattle.std.proofs.Math.Logic.{∥∥₁_elim}
use Rattle.std.proofs.lemmas.Grind.{flat_map-append}
use Rattle.std.proofs.lemmas.List.{length-take, length-drop, take_min, drop_min, nil_from_length}
use Rattle.std.proofs.Math.Seq.{take-append_seam, drop-append_seam}
use Rattle.rb_model.specs.declared.types.CoreFault.{CoreFault}
use Rattle.rb_model.specs.declared.types.Given.{Given}
use Rattle.rb_model.specs.State.{State, Phase, Connection}
use Rattle.rb_model.specs.State.Phase.{Idle, Reading, Owing, Awaiting, Lost}
use Rattle.rb_model.specs.Connections.{longest_fragment, pending_in, live_connection, on_found}
use Rattle.rb_model.specs.Sessions.{pending_bytes}
use Rattle.rb_model.specs.Gives.{end_within, fitting_of, fitting_in, write_fitting, unless_nothing, write_into, bytes_given, cut_from, pieces_of, piece_events, piece_outputs, first_piece, GivesBySteps}
use Rattle.rb_model.specs.Step.{Event, Output, unless_refused, pending_on, pending, step, run, after}
use Rattle.rb_model.proofs.Gives.{count_pending}
use Rattle.rb_model.specs.Step.Event.{Pending, Gave}
use Rattle.rb_model.specs.Step.Output.{IsPending, Done}
use Rattle.rb_laws.proofs.Gives.{gives_are_steps}
use Rattle.rb_lines.specs.Entries.{entry_text, run_entries}
use Rattle.rb_lines.specs.Tapes.{Tape, Records}
use Rattle.rb_lines.proofs.Tapes.{records_more}
use Rattle.rb_connections.specs.Slots.{Acts, Shows}
use Rattle.rb_core.specs.StandsFor.{CoreView, StandsFor}
use Rattle.rb_lines.specs.RecordLaws.{Fits, HasLine}
use Rattle.rb_engine.specs.Served.{IsServed}
use Rattle.rb_engine.proofs.Reached.{none_recorded, off_recorded, GoesOn, goes}
use Rattle.rb_engine.specs.Recording.{given_entries, pieces_entries, give_events}

-- ---- pieces

pub some_fits : 0 < longest_fragment
unfolding longest_fragment
some_fits = lit< tt

-- in as many pieces as there are bytes, or more
cut_enough : (j k n : ℕ) (bytes : List ℕ) → 0 < n → length bytes ≤ j → length bytes ≤ k → cut_from j n bytes ≡ cut_from k n bytes
cut_enough zero zero n bytes some few less = refl
cut_enough zero (suc k) n [] some few less = refl
cut_enough zero (suc k) n (byte ∷ bytes) some few less = absurd (omega (arith, few))
cut_enough (suc j) zero n [] some few less = refl
cut_enough (suc j) zero n (byte ∷ bytes) some few less = absurd (omega (arith, less))
cut_enough (suc j) (suc k) n [] some few less = refl
cut_enough (suc j) (suc k) n (byte ∷ bytes) some few less =
    ap (λ (pieces : List (List ℕ)). take n (byte ∷ bytes) ∷ pieces)
    (cut_enough j k longest_fragment (drop n (byte ∷ bytes)) some_fits (omega (arith, some, few, length-drop n (byte ∷ bytes))) (omega (arith, some, less, length-drop n (byte ∷ bytes))))

pub pieces_none : (n : ℕ) → pieces_of n [] ≡ []
unfolding pieces_of
pieces_none n = refl

-- the first piece, and those after it
pub pieces_more : (n : ℕ) (bytes : List ℕ) → 0 < n → 0 < length bytes → pieces_of n bytes ≡ take n bytes ∷ pieces_of longest_fragment (drop n bytes)
unfolding pieces_of
pieces_more n [] some more = absurd (omega (arith, more))
pieces_more n (byte ∷ bytes) some more =
    ap (λ (pieces : List (List ℕ)). take n (byte ∷ bytes) ∷ pieces)
    (cut_enough (length bytes) (length (drop n (byte ∷ bytes))) longest_fragment (drop n (byte ∷ bytes)) some_fits (omega (arith, some, length-drop n (byte ∷ bytes))) (omega arith))

-- ---- what is recorded of them

-- events, each with what it gave
entries_with : List Event → List Output → List (List ℕ)
entries_with [] outputs = []
entries_with (event ∷ events) [] = []
entries_with (event ∷ events) (output ∷ outputs) = entry_text event output ∷ entries_with events outputs

run_is : (s : State) (events : List Event) → run_entries s events ≡ entries_with events (run s events)
unfolding run_entries entries_with
run_is s [] = refl
run_is s (event ∷ events) = ap (λ (entries : List (List ℕ)). entry_text event (step s event).0 ∷ entries) (run_is (step s event).1 events)

pieces_with : (now id : ℕ) (pieces : List (List ℕ)) → entries_with (piece_events now id pieces) (piece_outputs pieces) ≡ pieces_entries now id pieces
unfolding entries_with
pieces_with now id [] = refl
pieces_with now id (piece ∷ pieces) =
    ap (λ (entries : List (List ℕ)). entry_text (Pending id) (IsPending piece) ∷ entry_text (Gave now id (length piece)) Done ∷ entries) (pieces_with now id pieces)

given_entries_are : (s new : State) (now id : ℕ) (bytes : List ℕ) → GivesBySteps s now id bytes new → pieces_entries now id (pieces_of (first_piece s id) bytes) ≡ run_entries s (give_events now id bytes s)
given_entries_are s new now id bytes steps =
    let pieces : List (List ℕ) = pieces_of (first_piece s id) bytes in
    sym (run_is s (piece_events now id pieces)
    ∙ ap (λ (outputs : List Output). entries_with (piece_events now id pieces) outputs) steps.outputs
    ∙ pieces_with now id pieces)

-- ---- pieces that are recorded one by one

take_whole : (n : ℕ) (piece behind : List ℕ) → length piece ≡ min n (length (piece ++ behind)) → take n (piece ++ behind) ≡ piece
take_whole n piece behind size =
    sym (take_min n (piece ++ behind)) ∙ ap (λ (k : ℕ). take k (piece ++ behind)) (sym size) ∙ take-append_seam piece behind

drop_whole : (n : ℕ) (piece behind : List ℕ) → length piece ≡ min n (length (piece ++ behind)) → drop n (piece ++ behind) ≡ behind
drop_whole n piece behind size =
    sym (drop_min n (piece ++ behind)) ∙ ap (λ (k : ℕ). drop k (piece ++ behind)) (sym size) ∙ drop-append_seam piece behind

-- Of the pieces of these bytes some were recorded, and these bytes are left.
pub record RecordsSome (now id first : ℕ) (given left : List ℕ) (old new : Tape) : Type 0 where
  pub done : List (List ℕ)
  pub recorded : Records (pieces_entries now id done) old new
  pub pieces : done ++ pieces_of longest_fragment left ≡ pieces_of first given

pub records_first : (now id first : ℕ) (given : List ℕ) (old new : Tape) → 0 < first → 0 < length given → Records (given_entries now id (take first given)) old new → RecordsSome now id first given (drop first given) old new
records_first now id first given old new size some records = record {
  done = take first given ∷ [];
  recorded = records;
  pieces = sym (pieces_more first given size some);
}

pub records_next : (now id first : ℕ) (given left piece behind : List ℕ) (old mid new : Tape) → RecordsSome now id first given left old mid → left ≡ piece ++ behind → length piece ≡ min longest_fragment (length left) → 0 < length left → Records (given_entries now id piece) mid new → RecordsSome now id first given behind old new
records_next now id first given left piece behind old mid new was is size some records =
    let fits : length piece ≡ min longest_fragment (length (piece ++ behind)) = size ∙ ap (λ (xs : List ℕ). min longest_fragment (length xs)) is in
    record {
      done = was.done ++ (piece ∷ []);
      recorded = subst (λ (entries : List (List ℕ)). Records entries old new) (sym (flat_map-append (given_entries now id) was.done (piece ∷ []))) (records_more (pieces_entries now id was.done) (given_entries now id piece) old mid new was.recorded records);
      pieces =
          append_assoc was.done (piece ∷ []) (pieces_of longest_fragment behind)
          ∙ ap (λ (more : List (List ℕ)). was.done ++ more)
          (ap (λ (xs : List ℕ). xs ∷ pieces_of longest_fragment behind) (sym (take_whole longest_fragment piece behind fits))
          ∙ ap (λ (xs : List ℕ). take longest_fragment (piece ++ behind) ∷ pieces_of longest_fragment xs) (sym (drop_whole longest_fragment piece behind fits))
          ∙ sym (pieces_more longest_fragment (piece ++ behind) some_fits (subst (λ (xs : List ℕ). 0 < length xs) is some))
          ∙ ap (λ (xs : List ℕ). pieces_of longest_fragment xs) (sym is))
          ∙ was.pieces;
    }

pub records_all : (now id first : ℕ) (given left : List ℕ) (old new : Tape) → RecordsSome now id first given left old new → length left ≡ 0 → Records (pieces_entries now id (pieces_of first given)) old new
records_all now id first given left old new was none =
    let over : was.done ≡ pieces_of first given =
    sym (append-nil was.done)
    ∙ ap (λ (more : List (List ℕ)). was.done ++ more) (sym (pieces_none longest_fragment) ∙ ap (λ (xs : List ℕ). pieces_of longest_fragment xs) (sym (nil_from_length left none)))
    ∙ was.pieces in
    subst (λ (pieces : List (List ℕ)). Records (pieces_entries now id pieces) old new) over was.recorded

-- ---- what is given into a room

-- what fits begins with what is pending
some_in : (room : ℕ) (phase : Phase) → 0 < length (fitting_in room phase) → 0 < length (pending_in phase)
unfolding fitting_of longest_fragment
some_in room (Owing o) some = omega (arith, some, count_pending o, length-drop o.given (take (end_within room o) o.marked), length-take (end_within room o) o.marked)
some_in room Idle some = some
some_in room (Reading fed) some = some
some_in room Awaiting some = some
some_in room Lost some = some

nothing_gives : (s : State) (r : Result (List ℕ) CoreFault × State) → (unless_nothing s r).0 ≡ r.0
nothing_gives s (Ok [], new) = refl
nothing_gives s (Ok (byte ∷ bytes), new) = refl
nothing_gives s (Err fault, new) = refl

some_on : (s : State) (now id room : ℕ) (bytes : List ℕ) (c : Option Connection) → Ok bytes ≡ (unless_nothing s (unless_refused now s (on_found id (write_fitting (max s.clock now) room) s.connections c))).0 → 0 < length bytes → 0 < length (pending_bytes (pending_on c))
unfolding write_fitting
some_on s now id room bytes None gives some = absurd cc
some_on s now id room bytes (Some c) gives some =
    let r : Result (List ℕ) CoreFault × State = unless_refused now s (on_found id (write_fitting (max s.clock now) room) s.connections (Some c)) in
    let fits : bytes ≡ fitting_in room c.phase = ap (λ (x : Result (List ℕ) CoreFault). pending_bytes x) (gives ∙ nothing_gives s r) in
    some_in room c.phase (subst (λ (xs : List ℕ). 0 < length xs) fits some)

-- if bytes are given, some are pending
pub some_first : (s : State) (now id room : ℕ) (bytes : List ℕ) → Ok bytes ≡ (write_into s now id room).0 → 0 < length bytes → 0 < first_piece s id
unfolding write_into pending
some_first s now id room bytes gives some = some_on s now id room bytes (live_connection id s.connections.all) gives some

module _ (s : State) (now id room : ℕ) where
  -- if it is refused, the state stays
  refused_on : (fault : CoreFault) (c : Option Connection) → Err fault ≡ (unless_nothing s (unless_refused now s (on_found id (write_fitting (max s.clock now) room) s.connections c))).0
      → (unless_nothing s (unless_refused now s (on_found id (write_fitting (max s.clock now) room) s.connections c))).1 ≡ s
  refused_on fault None gives = refl
  refused_on fault (Some c) gives =
      let r : Result (List ℕ) CoreFault × State = unless_refused now s (on_found id (write_fitting (max s.clock now) room) s.connections (Some c)) in
      let both : Err fault ≡ Ok (write_fitting (max s.clock now) room c).0 = gives ∙ nothing_gives s r in
      absurd cc

  pub refused_stays : (fault : CoreFault) → Err fault ≡ (write_into s now id room).0 → (write_into s now id room).1 ≡ s
  unfolding write_into
  refused_stays fault gives = refused_on fault (live_connection id s.connections.all) gives

  steps_of : (bytes : List ℕ) → Ok bytes ≡ (write_into s now id room).0 → GivesBySteps s now id bytes (write_into s now id room).1
  steps_of bytes gives =
      gives_are_steps s now id room bytes (write_into s now id room).1 (ap (λ (x : Result (List ℕ) CoreFault). let r : Result (List ℕ) CoreFault × State = (x, (write_into s now id room).1) in r) (sym gives))

  state_after : (r : Result (List ℕ) CoreFault) → r ≡ (write_into s now id room).0 → (write_into s now id room).1 ≡ after s (give_events now id (pending_bytes r) s)
  state_after (Ok bytes) gives = (steps_of bytes gives).state
  state_after (Err fault) gives =
      refused_stays fault gives ∙ ap (λ (pieces : List (List ℕ)). after s (piece_events now id pieces)) (sym (pieces_none (first_piece s id)))

  entries_are : (r : Result (List ℕ) CoreFault) → r ≡ (write_into s now id room).0 → pieces_entries now id (pieces_of (first_piece s id) (pending_bytes r)) ≡ run_entries s (give_events now id (pending_bytes r) s)
  unfolding run_entries
  entries_are (Ok bytes) gives = given_entries_are s (write_into s now id room).1 now id bytes (steps_of bytes gives)
  entries_are (Err fault) gives =
      ap (λ (pieces : List (List ℕ)). pieces_entries now id pieces) (pieces_none (first_piece s id))
      ∙ ap (λ (pieces : List (List ℕ)). run_entries s (piece_events now id pieces)) (sym (pieces_none (first_piece s id)))

-- ---- their lines

cut_lines : (now id k n : ℕ) (bytes : List ℕ) → Fits now → Fits id → Fits (length bytes) → AllByRecursion HasLine (piece_events now id (cut_from k n bytes))
cut_lines now id zero n bytes now_fits id_fits few = tt
cut_lines now id (suc k) n [] now_fits id_fits few = tt
cut_lines now id (suc k) n (byte ∷ bytes) now_fits id_fits few = (
  id_fits,
  (
    (now_fits, id_fits, omega (arith, few, length-take n (byte ∷ bytes))),
    cut_lines now id k longest_fragment (drop n (byte ∷ bytes)) now_fits id_fits (omega (arith, few, length-drop n (byte ∷ bytes))),
  ),
)

give_lines : (now id : ℕ) (bytes : List ℕ) (s : State) → Fits now → Fits id → Fits (length bytes) → AllByRecursion HasLine (give_events now id bytes s)
unfolding pieces_of
give_lines now id bytes s now_fits id_fits few = cut_lines now id (length bytes) (first_piece s id) bytes now_fits id_fits few

pub none_given : Fits 0
none_given = omega arith

-- no more bytes are given than there is room for
pub few_given : (room : List ℕ) (r : Result Given CoreFault) → Fits (length room) → Fits (length (pending_bytes (bytes_given room r)))
few_given room (Ok given) few = omega (arith, few, length-take given.count room)
few_given room (Err fault) few = none_given

-- ---- a call

-- The pieces of what was given were recorded, from each state that the core stood for.
abbrev pub RecordsPieces : ℕ → ℕ → List ℕ → CoreView → Tape → Tape → Type 0
RecordsPieces now id bytes old before later = (s : State) → StandsFor old s → Records (pieces_entries now id (pieces_of (first_piece s id) bytes)) before later

module _ (now id room : ℕ) (r : Result (List ℕ) CoreFault) (old new : CoreView) (acts : Acts StandsFor (λ s. write_into s now id room) old new r) where
  pub gives_records : (before later : Tape) → RecordsPieces now id (pending_bytes r) old before later → (s : State) → StandsFor old s → Records (run_entries s (give_events now id (pending_bytes r) s)) before later
  gives_records before later records s h =
      subst (λ (entries : List (List ℕ)). Records entries before later) (entries_are s now id room r (acts.gives s h)) (records s h)

  pub gives_goes : (before later : Tape) → RecordsPieces now id (pending_bytes r) old before later → Fits now → Fits id → Fits (length (pending_bytes r)) → ∥ GoesOn old new before later (λ s. give_events now id (pending_bytes r) s) ∥₁
  gives_goes before later records now_fits id_fits few =
      goes old new before later (λ s. give_events now id (pending_bytes r) s) (λ s h. give_lines now id (pending_bytes r) s now_fits id_fits few)
      (λ s h. subst (StandsFor new) (state_after s now id room r (acts.gives s h)) (acts.stands s h))
      (gives_records before later records)

-- while the recording is over
pub off_pieces : (now id : ℕ) (bytes : List ℕ) (core : CoreView) (tape : Tape) → tape.is_on ≡ false → ∥ IsServed core tape ∥₁ → RecordsPieces now id bytes core tape tape
off_pieces now id bytes core tape off held s h = off_recorded _ core tape off held

-- if nothing is given
pub no_pieces : (now id : ℕ) (bytes : List ℕ) (core : CoreView) (tape : Tape) → bytes ≡ [] → ∥ IsServed core tape ∥₁ → RecordsPieces now id bytes core tape tape
no_pieces now id bytes core tape none held s h =
    let is : pieces_of (first_piece s id) bytes ≡ [] = ap (λ (xs : List ℕ). pieces_of (first_piece s id) xs) none ∙ pieces_none (first_piece s id) in
    subst (λ (pieces : List (List ℕ)). Records (pieces_entries now id pieces) tape tape) (sym is) (none_recorded core tape held)

pub all_pieces : (now id first : ℕ) (bytes : List ℕ) (core : CoreView) (before later : Tape) → Shows StandsFor (λ s. first_piece s id) core first → Records (pieces_entries now id (pieces_of first bytes)) before later → RecordsPieces now id bytes core before later
all_pieces now id first bytes core before later shows records s h =
    subst (λ (n : ℕ). Records (pieces_entries now id (pieces_of n bytes)) before later) (shows s h) records

-- if bytes are given, some are pending
pub first_some : (now id room first : ℕ) (bytes : List ℕ) (old new : CoreView) (tape : Tape) → Shows StandsFor (λ s. first_piece s id) old first → Acts StandsFor (λ s. write_into s now id room) old new (Ok bytes) → 0 < length bytes → ∥ IsServed old tape ∥₁ → 0 < first
first_some now id room first bytes old new tape shows acts some held =
    ∥∥₁_elim held le_prop (λ h. subst (λ (n : ℕ). 0 < n) (sym (shows h.state h.stands)) (some_first h.state now id room bytes (acts.gives h.state h.stands) some))
