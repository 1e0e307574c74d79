-- What passes on one connection with one event.
use Rattle.std.proofs.Common.{◌≡◌, ◌⊎◌, inl, inr, ◌≤◌, ℕ, zero, suc, ◌-◌, max, Bool, true, false, cond, Option, Some, None, List, [], ◌∷◌, ◌++◌, length, drop, refl, ap, ◌∙◌, length-append, arith}
use Rattle.std.proofs.lemmas.Bool.{ltb-false}
use Rattle.std.proofs.lemmas.List.{take_all, length-drop}
use Rattle.std.proofs.Math.Seq.{take-nil}
use Rattle.std.specs.Prelude.{take}
use Rattle.rb_rpc.specs.Records.{record_of, is_cut, is_last, fragment_end, first_record, data_of}
use Rattle.rb_rpc.proofs.Markings.{not_cut, mapped}
use Rattle.rb_forward.specs.declared.types.Ended.{Ended as EntryEnd}
use Rattle.rb_answers.specs.Ledger.{Ledger}
use Rattle.rb_answers.specs.Forwarding.{target_replied, fell_due}
use Rattle.rb_model.specs.declared.types.Told.{Told}
use Rattle.rb_model.specs.Bounds.{count_in}
use Rattle.rb_model.specs.Calls.{Outcome}
use Rattle.rb_model.specs.Connections.{fed_in, live_connection}
use Rattle.rb_model.specs.Ending.{tell_end, at_fresh_moment, expired_as, forward_reply, expire}
use Rattle.rb_model.specs.Sessions.{Session, at_event, piece_to, taken_by, gave_to, given_by, outcome_of_ended, outcome_by, with_outcome, with_last_outcome, session_with, session_after}
use Rattle.rb_model.specs.State.{State, Connection, at_moment}
use Rattle.rb_model.specs.Step.{Event, Output, show_told, show_end, show_expired, step}
use Rattle.rb_model.specs.Step.Event.{Open, Bytes, Pending, Gave, Closed, NextLost, Datagram, Unsent, Sent, Forward, Expire, ZeroStats}
use Rattle.rb_model.specs.Step.Output.{Ready}
use Rattle.rb_laws.proofs.Happenings.{said_in, is_end, end-passes-none}
use Rattle.rb_laws.proofs.Passing.{none-passed, goes-on, first-alone, ends}
use Rattle.rb_laws.proofs.Sessions.{Holds, unfinished-here, ends-whole, taken-is}

-- ---- the end of a record

ends_there : (b : Bool) (e n : ℕ) (v : Option ℕ) → cond b (Some e) v ≡ Some n → (e ≡ n) ⊎ (v ≡ Some n)
ends_there true e n v is = inl cc
ends_there false e n v is = inr is

within : (k : ℕ) (bytes : List ℕ) (n : ℕ) → record_of k bytes ≡ Some n → n ≤ length bytes
within zero bytes n is = absurd cc
within (suc k) bytes n is =
    let there = not_cut (is_cut bytes) _ n is in
    let long : fragment_end bytes ≤ length bytes = ltb-false _ _ there.0 in
    elim (ends_there (is_last bytes) (fragment_end bytes) n _ there.1) [
      | inl same ↦ omega (arith, long, same)
      | inr later ↦
          let m = mapped (fragment_end bytes) n (record_of k (drop (fragment_end bytes) bytes)) later in
          omega (arith, within k (drop (fragment_end bytes) bytes) m.0 m.1, length-drop (fragment_end bytes) bytes, m.2, long)
    ]

-- a record that ends in the bytes ends in the piece behind those before it
pub ends_in_piece : (fed piece : List ℕ) (n : ℕ) → first_record (fed ++ piece) ≡ Some n → n - length fed ≤ length piece
unfolding first_record
ends_in_piece fed piece n is = omega (arith, within (length (fed ++ piece)) (fed ++ piece) n is, length-append fed piece)

-- ---- the end of a forwarded call

ready_so : (s : State) (at : ℕ) (message : List ℕ) (id : ℕ) (said : Outcome) (r : Option EntryEnd × Ledger) (show : Option Told × State → Output × State)
    → ((told : Told) (x : State) → (show (Some told, x)).0 ≡ show_told x.reply told) → outcome_of_ended id message r.0 ≡ Some said
    → (show (tell_end message (at_fresh_moment at s) r)).0 ≡ Ready id
ready_so s at message id said r show shows told = grind arith

-- what a connection is told the output says
pub told_ready : (s : State) (event : Event) (id : ℕ) (said : Outcome) → outcome_by s id event ≡ Some said → (step s event).0 ≡ Ready id
unfolding step forward_reply expire
told_ready s (Forward at from message) id said told = ready_so s at message id said (target_replied s.setting.first_xid (max s.clock at) from message s.ledger) show_end (λ x u. refl) told
told_ready s (Expire at) id said told = ready_so s at [] id said (fell_due (max s.clock at) s.ledger) (λ r. show_expired (expired_as r)) (λ x u. refl) told
told_ready s (Open at who) id said told = absurd cc
told_ready s (Bytes at k piece) id said told = absurd cc
told_ready s (Pending k) id said told = absurd cc
told_ready s (Gave at k n) id said told = absurd cc
told_ready s (Closed k) id said told = absurd cc
told_ready s NextLost id said told = absurd cc
told_ready s (Datagram at who content) id said told = absurd cc
told_ready s Unsent id said told = absurd cc
told_ready s (Sent number) id said told = absurd cc
told_ready s ZeroStats id said told = absurd cc

-- ---- one connection

pub none_gave : (s : State) (event : Event) (id : ℕ) (output : Output) → gave_to id event ≡ 0 → given_by s id event output ≡ []
none_gave s event id output is = grind arith

module _ (s : State) (event : Event) (id : ℕ) (t : Session) where
  abbrev pub passed : List ℕ → List ℕ → Option Outcome → Session
  passed taken gave told =
      record (session_with (at_event event s) id taken gave t) { calls = with_outcome told (session_with (at_event event s) id taken gave t).calls }

  pub session_is : (taken gave : List ℕ) (told : Option Outcome) → taken_by id event (step s event).0 ≡ taken
      → given_by s id event (step s event).0 ≡ gave → outcome_by s id event ≡ told → session_after s id event t ≡ passed taken gave told
  session_is taken gave told p q r =
      ap (λ (x : List ℕ). passed x (given_by s id event (step s event).0) (outcome_by s id event)) p
      ∙ ap (λ (x : List ℕ). passed taken x (outcome_by s id event)) q
      ∙ ap (λ (x : Option Outcome). passed taken gave x) r

  pub none_passes : first_record t.unfinished ≡ None → taken_by id event (step s event).0 ≡ [] → given_by s id event (step s event).0 ≡ [] → outcome_by s id event ≡ None
      → session_after s id event t ≡ t
  none_passes none p q r = session_is [] [] None p q r ∙ none-passed (at_event event s) id t none

  pub no_piece : piece_to id event ≡ [] → taken_by id event (step s event).0 ≡ []
  no_piece is = ap (λ (xs : List ℕ). take (count_in (step s event).0) xs) is ∙ take-nil (count_in (step s event).0)

  -- the output takes nothing and gives nothing
  pub plain_passes : first_record t.unfinished ≡ None → (output : Output) → (step s event).0 ≡ output → count_in output ≡ 0 → given_by s id event output ≡ [] → outcome_by s id event ≡ None
      → session_after s id event t ≡ t
  plain_passes none output out no_count no_bytes told =
      none_passes none (ap (λ (o : Output). take (count_in o) (piece_to id event)) out ∙ ap (λ (n : ℕ). take n (piece_to id event)) no_count)
      (ap (λ (o : Output). given_by s id event o) out ∙ no_bytes) told

  -- the event is of another connection
  pub other_passes : first_record t.unfinished ≡ None → piece_to id event ≡ [] → gave_to id event ≡ 0 → outcome_by s id event ≡ None → session_after s id event t ≡ t
  other_passes none no_bytes no_gave told = none_passes none (no_piece no_bytes) (none_gave s event id (step s event).0 no_gave) told

  -- the connection is told the end of its forwarded call
  pub told_calls : first_record t.unfinished ≡ None → is_end event ≡ true → (said : Outcome) → outcome_by s id event ≡ Some said
      → (session_after s id event t).calls ≡ with_last_outcome said t.calls
  told_calls none is said told =
      let none_of = end-passes-none event is id in
      ap (λ (x : Session). x.calls) (session_is [] [] (Some said) (no_piece none_of.0) (none_gave s event id (step s event).0 none_of.1) told
      ∙ ap (λ (x : Session). record x { calls = with_last_outcome said x.calls }) (none-passed (at_event event s) id t none))

  -- bytes come on the live connection
  module _ (h : Holds id s.connections t) (c : Connection) (there : live_connection id s.connections.all ≡ Some c) (at : ℕ) (piece fed : List ℕ) (event_is : event ≡ Bytes at id piece)
      (feeds : fed_in c.phase ≡ Some fed) where
    taken_so : (n : ℕ) → count_in (step s event).0 ≡ n → taken_by id event (step s event).0 ≡ take n piece
    taken_so n counts = ap (λ (x : Event). taken_by id x (step s event).0) event_is ∙ taken-is id s t h c there at piece (step s event).0 n counts

    session_so : (more : List ℕ) → taken_by id event (step s event).0 ≡ more → session_after s id event t ≡ session_with (at_moment at s) id more [] t
    session_so more taken =
        session_is more [] None taken (none_gave s event id (step s event).0 (ap (gave_to id) event_is)) (ap (outcome_by s id) event_is)
        ∙ ap (λ (x : Event). session_with (at_event x s) id more [] t) event_is

    -- a record ends
    pub record_calls : (n : ℕ) → first_record (fed ++ piece) ≡ Some n → count_in (step s event).0 ≡ n - length fed
        → (session_after s id event t).calls ≡ t.calls ++ record { content = data_of (take n (fed ++ piece)); said = said_in s at id c (take n (fed ++ piece)) } ∷ []
    record_calls n some counts =
        let more : List ℕ = take (n - length fed) piece in
        let whole : t.unfinished ++ more ≡ take n (fed ++ piece) = ends-whole id s t h c there piece fed n feeds some in
        let here : first_record (t.unfinished ++ more) ≡ Some n = ap first_record whole ∙ first-alone (fed ++ piece) n some in
        ap (λ (x : Session). x.calls) (session_so more (taken_so (n - length fed) counts) ∙ ends (at_moment at s) id more t n c here there)
        ∙ ap (λ (xs : List ℕ). t.calls ++ record { content = data_of xs; said = said_in s at id c xs } ∷ []) whole

    -- none ends
    pub reading_calls : first_record (fed ++ piece) ≡ None → count_in (step s event).0 ≡ length piece → (session_after s id event t).calls ≡ t.calls
    reading_calls none counts =
        let whole : t.unfinished ++ piece ≡ fed ++ piece = ap (λ (xs : List ℕ). xs ++ piece) (unfinished-here id s t h c there fed feeds) in
        ap (λ (x : Session). x.calls) (session_so piece (taken_so (length piece) counts ∙ take_all (length piece) piece (omega arith)) ∙ goes-on (at_moment at s) id piece t (ap first_record whole ∙ none))
