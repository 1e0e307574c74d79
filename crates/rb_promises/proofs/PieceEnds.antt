-- Bytes are taken to the end of a record, and no further.
use Rattle.std.specs.Prelude.{option_map}
use Rattle.std.proofs.Common.{◌≡◌, ◌⊎◌, inl, inr, ◌≤◌, ◌+◌, ◌-◌, ℕ, zero, suc, Bool, true, false, not, cond, eqb, Option, Some, None, Result, List, [], ◌++◌, length, take, drop, refl, sym, ap, ◌∙◌, append-nil, arith}
use Rattle.std.proofs.Math.Seq.{take-nil}
use Rattle.std.proofs.lemmas.List.{take_all, length-take, length-drop}
use Rattle.std.proofs.lemmas.Bool.{and_parts, ltb-false}
use Rattle.rb_rpc.specs.Records.{first_record, record_of, is_cut, is_last, fragment_end}
use Rattle.rb_model.specs.declared.types.CoreFault.{CoreFault}
use Rattle.rb_model.specs.declared.types.Taken.{Taken}
use Rattle.rb_model.specs.Calls.{is_no_call}
use Rattle.rb_model.specs.State.{State, Phase, Connection, opening}
use Rattle.rb_model.specs.State.Phase.{Idle, Reading, Owing, Awaiting, Lost}
use Rattle.rb_model.specs.Connections.{is_live, is_lost, live_connection, fed_in}
use Rattle.rb_model.specs.Laws.{is_awaiting, IsLive, owed_in}
use Rattle.rb_model.specs.Step.{Output, bytes, output_or, show_taken, step, after}
use Rattle.rb_model.specs.Step.Event.{Bytes}
use Rattle.rb_model.specs.Sessions.{Session, taken_by, empty_session, session_from}
use Rattle.rb_model.specs.Bounds.{count_in}
use Rattle.rb_laws.proofs.Cuts.{find-holds}
use Rattle.rb_laws.proofs.Entries.{opening-awaits}
use Rattle.rb_laws.proofs.Happenings.{Arriving, arriving, said_in}
use Rattle.rb_laws.proofs.Happenings.Arriving.{NotThere, NotTaken, ReadOn, Ended}
use Rattle.rb_laws.proofs.Passing.{first-alone}
use Rattle.rb_laws.proofs.Reached.{IsSoundPhase}
use Rattle.rb_laws.proofs.Sessions.{Holds, count-shown, sound-live, unfinished-here, ends-whole, taken-is}
use Rattle.rb_laws.proofs.WholeReplies.{is-left}
use Rattle.rb_laws.proofs.WholeSessions.{run-holds, none-found, opening-holds, same_one}
use Rattle.rb_promises.specs.Pieces.{IsWhole, EndsRecord, PiecesEndAtRecords}

-- ---- a record ends within the bytes

record-within : (k : ℕ) (bytes : List ℕ) (n : ℕ) → record_of k bytes ≡ Some n → n ≤ length bytes
record-within zero bytes n is = absurd cc
record-within (suc k) bytes n is = by_cut (is_cut bytes) refl is (record-within k (drop (fragment_end bytes) bytes))
  where
    end : ℕ
    end = fragment_end bytes

    later : Option ℕ
    later = record_of k (drop (fragment_end bytes) bytes)

    by_later : end ≤ length bytes → (o : Option ℕ) → later ≡ o → option_map (λ m. end + m) o ≡ Some n → ((m : ℕ) → later ≡ Some m → m ≤ length (drop (fragment_end bytes) bytes)) → n ≤ length bytes
    by_later long None e is more = absurd cc
    by_later long (Some m) e is more =
        let sum : end + m ≡ n = cc in
        omega (arith, long, sum, more m e, length-drop (fragment_end bytes) bytes)

    by_last : end ≤ length bytes → (b : Bool) → cond b (Some end) (option_map (λ m. end + m) later) ≡ Some n → ((m : ℕ) → later ≡ Some m → m ≤ length (drop (fragment_end bytes) bytes)) → n ≤ length bytes
    by_last long true is more = let same : end ≡ n = cc in omega (arith, long, same)
    by_last long false is more = by_later long later refl is more

    by_cut : (b : Bool) → is_cut bytes ≡ b → cond b None (cond (is_last bytes) (Some end) (option_map (λ m. end + m) later)) ≡ Some n → ((m : ℕ) → later ≡ Some m → m ≤ length (drop (fragment_end bytes) bytes)) → n ≤ length bytes
    by_cut true e is more = absurd cc
    by_cut false e is more = by_last (ltb-false _ _ e) (is_last bytes) is more

first-within : (bytes : List ℕ) (n : ℕ) → first_record bytes ≡ Some n → n ≤ length bytes
unfolding first_record
first-within bytes n is = record-within (length bytes) bytes n is

-- ---- one piece

module _ (id : ℕ) (s : State) (t : Session) (h : Holds id s.connections t) (c : Connection) (there : IsLive s id c) where
  -- it takes bytes if it owes none and waits for none
  takes-bytes : owed_in c.phase ≡ [] → is_awaiting c.phase ≡ false → fed_in c.phase ≡ None → ⊥
  unfolding live_connection is_live
  takes-bytes none waits feeds = by_value c.phase (and_parts (eqb c.number id) (not (is_lost c.phase)) (find-holds (is_live id) s.connections.all c there)).1 (sound-live id s t h c there) none waits feeds
    where
      by_value : (p : Phase) → not (is_lost p) ≡ true → IsSoundPhase p → owed_in p ≡ [] → is_awaiting p ≡ false → fed_in p ≡ None → ⊥
      by_value Idle live sound none waits feeds = absurd cc
      by_value (Reading fed) live sound none waits feeds = absurd cc
      by_value (Owing o) live sound none waits feeds = omega (arith, sound, is-left o none)
      by_value Awaiting live sound none waits feeds = absurd cc
      by_value Lost live sound none waits feeds = absurd cc

  taken-by : (now : ℕ) (piece : List ℕ) (output : Output) (k : ℕ) → count_in output ≡ k → taken_by id (Bytes now id piece) output ≡ take k piece
  taken-by now piece output k is = taken-is id s t h c there now piece output k is

  -- what is taken of a piece
  abbrev taken : ℕ → List ℕ → Result Taken CoreFault × State → List ℕ
  taken now piece r = taken_by id (Bytes now id piece) (output_or show_taken r).0

  is-whole : (piece more : List ℕ) → more ≡ piece → first_record (t.unfinished ++ piece) ≡ None → IsWhole t.unfinished piece more
  is-whole piece more all none = record { all = all; none = ap (λ (xs : List ℕ). first_record (t.unfinished ++ xs)) all ∙ none }

  piece-ends : (now : ℕ) (piece : List ℕ) → owed_in c.phase ≡ [] → is_awaiting c.phase ≡ false → (r : Result Taken CoreFault × State) → Arriving s now id piece r
      → IsWhole t.unfinished piece (taken now piece r) ⊎ EndsRecord t.unfinished (taken now piece r)
  piece-ends now piece none waits r (NotThere gone is) = absurd (none-found c (sym gone ∙ there))
  piece-ends now piece none waits r (NotTaken d here (inl feeds) is) =
      let one : d ≡ c = same_one d c (sym here ∙ there) in
      absurd (takes-bytes none waits (ap (λ (x : Connection). fed_in x.phase) (sym one) ∙ feeds))
  piece-ends now piece none waits r (NotTaken d here (inr empty) is) =
      let k : ℕ = count_in (output_or show_taken r).0 in
      let nothing : taken now piece r ≡ piece = taken-by now piece (output_or show_taken r).0 k refl ∙ ap (take k) empty ∙ take-nil k ∙ sym empty in
      inl (is-whole piece (taken now piece r) nothing (ap (λ (xs : List ℕ). first_record (t.unfinished ++ xs)) empty ∙ ap first_record (append-nil t.unfinished) ∙ h.none))
  piece-ends now piece none waits r (ReadOn d fed here feeds ends is) =
      let count : count_in (output_or show_taken r).0 ≡ length piece = ap (λ (x : Result Taken CoreFault × State). count_in (output_or show_taken x).0) is in
      let all : taken now piece r ≡ piece = taken-by now piece (output_or show_taken r).0 (length piece) count ∙ take_all (length piece) piece (omega arith) in
      inl (is-whole piece (taken now piece r) all (ap (λ (xs : List ℕ). first_record (xs ++ piece)) (unfinished-here id s t h d here fed feeds) ∙ ends))
  piece-ends now piece none waits r (Ended d fed n here feeds ends is) =
      let shown : Taken = record { count = n - length fed; lost = is_no_call (said_in s now id d (take n (fed ++ piece))) } in
      let count : count_in (output_or show_taken r).0 ≡ n - length fed = ap (λ (x : Result Taken CoreFault × State). count_in (output_or show_taken x).0) is ∙ count-shown shown in
      let part : taken now piece r ≡ take (n - length fed) piece = taken-by now piece (output_or show_taken r).0 (n - length fed) count in
      let all : t.unfinished ++ taken now piece r ≡ take n (fed ++ piece) = ap (λ (xs : List ℕ). t.unfinished ++ xs) part ∙ ends-whole id s t h d here piece fed n feeds ends in
      let long : n ≤ length (fed ++ piece) = first-within (fed ++ piece) n ends in
      let size : n ≡ length (t.unfinished ++ taken now piece r) = omega (arith, ap (λ (xs : List ℕ). length xs) all, length-take n (fed ++ piece), long) in
      inr (ap first_record all ∙ first-alone (fed ++ piece) n ends ∙ ap (λ (k : ℕ). Some k) size)

  step-ends : (now : ℕ) (piece : List ℕ) → owed_in c.phase ≡ [] → is_awaiting c.phase ≡ false
      → IsWhole t.unfinished piece (taken_by id (Bytes now id piece) (step s (Bytes now id piece)).0) ⊎ EndsRecord t.unfinished (taken_by id (Bytes now id piece) (step s (Bytes now id piece)).0)
  unfolding step
  step-ends now piece none waits = piece-ends now piece none waits (bytes s now id piece) (arriving s now id piece)

pub pieces_end_at_records : PiecesEndAtRecords
pieces_end_at_records limits listener first_xid opened events id c there none waits now piece =
    let start : State = opening limits listener first_xid opened in
    let passed : Session = session_from start id empty_session events in
    let h : Holds id (after start events).connections passed = run-holds id start empty_session events (opening-awaits limits listener first_xid opened) (opening-holds id limits listener first_xid opened) in
    step-ends id (after start events) passed h c there now piece none waits
