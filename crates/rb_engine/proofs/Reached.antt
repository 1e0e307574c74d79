-- A state that a run reaches goes on by each event, and so does its record.
use Rattle.std.specs.Prelude.{IsTrue, IsErrOf, not}
use Rattle.std.specs.List.{AllByRecursion}
use Rattle.std.proofs.Common.{◌≡◌, ◌<◌, ◌≤◌, ℕ, suc, Bool, true, false, cond, List, [], ◌∷◌, ◌++◌, length, append-nil, slice_index_or, Option, Some, None, Result, Ok, Err, refl, sym, ap, subst, ◌∙◌, inl, inr, ◌⊎◌}
use Rattle.std.proofs.Math.Bridge.{le_prop}
use Rattle.std.proofs.Math.Logic.{∥∥₁_elim}
use Rattle.std.proofs.lemmas.Bool.{le-ltb}
use Rattle.rb_address.specs.declared.peer.Peer.{Peer}
use Rattle.rb_address.specs.declared.who.Who.{Who}
use Rattle.rb_address.specs.Callers.{IsWho}
use Rattle.rb_address.specs.Peers.{IsPeer}
use Rattle.rb_forward.specs.Forwards.{Unsent as UnsentCall}
use Rattle.rb_answers.specs.declared.listener.Listener.{Listener}
use Rattle.rb_model.specs.declared.types.CoreFault.{CoreFault}
use Rattle.rb_model.specs.declared.types.CoreFault.TheVariants.{BadLimits}
use Rattle.rb_model.specs.declared.types.Limits.{Limits}
use Rattle.rb_model.specs.declared.types.Told.{Told}
use Rattle.rb_model.specs.declared.types.Expired.{Expired}
use Rattle.rb_model.specs.declared.types.Expired.TheVariants as expiries
use Rattle.rb_model.specs.State.{Setting, State, opening, are_good}
use Rattle.rb_model.specs.Calls.{Outcome, Outcome as outcomes}
use Rattle.rb_model.specs.Ending.{forward_reply, expire}
use Rattle.rb_model.specs.Step.{Event, Output, step, after, open_connection, pending, gave, close_connection, next_lost, datagram, zero_stats, unsent_call, sent_call, output_or, show_done, show_outcome, show_told, show_end, show_expired, is_too_much}
use Rattle.rb_model.specs.Step.Event.{Open, Pending, Gave, Closed, NextLost, Datagram, Unsent, Sent, Forward, Expire, ZeroStats}
use Rattle.rb_model.specs.Step.Output.{Opened, TooMuch, IsPending, Done, LostIs, Silent, UnsentIs, Ignored, Nothing, ConnectionLost}
use Rattle.rb_laws.proofs.RunLaws.{after-append}
use Rattle.rb_laws.proofs.EntriesKept.{after-setting}
use Rattle.rb_lines.specs.Entries.{entry_text, run_entries, options_text}
use Rattle.rb_lines.specs.Tapes.{Tape, Records, IsRecordOf, empty_tape}
use Rattle.rb_lines.proofs.RunTexts.{run_entries-append, one_recorded}
use Rattle.rb_lines.proofs.Tapes.{records_more, new_record, record_goes_on, record_stays}
use Rattle.rb_model.specs.declared.served.Response as outcome
use Rattle.rb_model.specs.declared.served.Response.TheVariants as outcome_kinds
use Rattle.rb_model.specs.Served.{outcome_with}
use Rattle.rb_connections.specs.Slots.{Acts, Shows}
use Rattle.rb_core.specs.Core.{ActsWithReply}
use Rattle.rb_core.specs.HeldBytes.{IsListener}
use Rattle.rb_core.specs.StandsFor.{CoreView, StandsFor}
use Rattle.rb_core.proofs.Begun.{with_steps_before, stands_begun}
use Rattle.rb_lines.specs.RecordLaws.{Fits, AreBytes, HasLine}
use Rattle.rb_lines.specs.Starts.{MeetsLaws}
use Rattle.rb_engine.specs.Recording.{given_events, send_events_of, send_events, output_or_refusal, answer_shown}
use Rattle.rb_engine.specs.Served.{IsServed}
use mathlib.Core.Bool.{true≢false}

pub output_state : {A : Type 0} (show : A → Output) (r : Result A CoreFault × State) → (output_or show r).1 ≡ r.1
output_state show (Ok x, s) = refl
output_state show (Err fault, s) = refl

pub output_given : {A : Type 0} (show : A → Output) (r : Result A CoreFault × State) → output_or_refusal show r.0 ≡ (output_or show r).0
output_given show (Ok x, s) = refl
output_given show (Err fault, s) = refl

outcome_state : (r : Outcome × State) → (show_outcome r).1 ≡ r.1
outcome_state (outcomes.NoCall, s) = refl
outcome_state (outcomes.Reply reply stamp, s) = refl
outcome_state (outcomes.Forwarded, s) = refl
outcome_state (outcomes.Silent, s) = refl

end_state : (r : Option Told × State) → (show_end r).1 ≡ r.1
end_state (None, s) = refl
end_state (Some told, s) = refl

expired_state : (r : Expired × State) → (show_expired r).1 ≡ r.1
expired_state (expiries.Nothing, s) = refl
expired_state (expiries.Ended told, s) = refl
expired_state (expiries.ConnectionLost id, s) = refl

-- ---- the core of the daemon, and its record

-- what is written of a run that goes on
pub more_recorded : (l : Limits) (h : Listener) (xid now : ℕ) (first more : List Event) (s : State) (before later : Tape) → s ≡ after (opening l h xid now) first → IsRecordOf (options_text l h xid now ∷ run_entries (opening l h xid now) first) before → Records (run_entries s more) before later → IsRecordOf (options_text l h xid now ∷ run_entries (opening l h xid now) (first ++ more)) later
more_recorded l h xid now first more s before later is was records =
    subst (λ (entries : List (List ℕ)). IsRecordOf (options_text l h xid now ∷ entries) later)
    (ap (λ (t : State). run_entries (opening l h xid now) first ++ run_entries t more) is ∙ sym (run_entries-append (opening l h xid now) first more))
    (record_goes_on (options_text l h xid now ∷ run_entries (opening l h xid now) first) (run_entries s more) before later was records)

-- the lines of events after others
pub lines_append : (xs ys : List Event) → AllByRecursion HasLine xs → AllByRecursion HasLine ys → AllByRecursion HasLine (xs ++ ys)
lines_append [] ys a b = b
lines_append (x ∷ xs) ys a b = (a.0, lines_append xs ys a.1 b)

-- what the type of a slice says of its bytes
pub bytes_are : (xs : List ℕ) → ((i : ℕ) → slice_index_or xs i 0 < 256) → AreBytes xs
bytes_are [] small = tt
bytes_are (x ∷ xs) small = (small 0, bytes_are xs (λ i. small (suc i)))

-- From each state that the core stood for, it stands for the one after these events, which have lines and are recorded.
pub record GoesOn (old new : CoreView) (before later : Tape) (events : State → List Event) : Type 0 where
  pub lines : (s : State) → StandsFor old s → AllByRecursion HasLine (events s)
  pub stands : (s : State) → StandsFor old s → StandsFor new (after s (events s))
  pub records : (s : State) → StandsFor old s → Records (run_entries s (events s)) before later

pub goes : (old new : CoreView) (before later : Tape) (events : State → List Event) → ((s : State) → StandsFor old s → AllByRecursion HasLine (events s)) → ((s : State) → StandsFor old s → StandsFor new (after s (events s))) → ((s : State) → StandsFor old s → Records (run_entries s (events s)) before later) → ∥ GoesOn old new before later events ∥₁
goes old new before later events lines stands records = ∣ record { lines = lines; stands = stands; records = records } ∣₁

-- so a core that stands for a reached state goes on by events to one that does
abbrev pub served_on : (old new : CoreView) (before later : Tape) (events : State → List Event) → GoesOn old new before later events → IsServed old before → IsServed new later
served_on old new before later events on h =
    let r = h.reached in
    let first = opening r.limits r.listener r.first_xid r.now in
    record {
      state = after h.state (events h.state);
      stands = on.stands h.state h.stands;
      reached = record {
        limits = r.limits;
        listener = r.listener;
        first_xid = r.first_xid;
        now = r.now;
        events = r.events ++ events h.state;
        is = ap (λ (t : State). after t (events h.state)) r.is ∙ sym (after-append first r.events (events h.state));
      };
      good = subst (λ (x : Setting). are_good x.limits x.listener ≡ true) (sym (after-setting h.state (events h.state))) h.good;
      listener = subst (λ (x : Setting). IsListener x.listener) (sym (after-setting h.state (events h.state))) h.listener;
      lines = lines_append r.events (events h.state) h.lines (on.lines h.state h.stands);
      begins = subst (MeetsLaws (after h.state (events h.state)).setting.listener) (sym (on.records h.state h.stands).limit)
          (subst (λ (x : Setting). MeetsLaws x.listener before.limit) (sym (after-setting h.state (events h.state))) h.begins);
      recorded = more_recorded r.limits r.listener r.first_xid r.now r.events (events h.state) h.state before later r.is h.recorded (on.records h.state h.stands);
    }

-- limits that are not refused are good
pub good_from : {T : Type 0} (good : Bool) (made : T) → (IsTrue (not good) → IsErrOf (Ok made) BadLimits) → good ≡ true
good_from true made kept = refl
good_from false made kept = let wrong = kept refl in absurd cc

pub new_recorded : (l : Limits) (h : Listener) (xid now limit : ℕ) (empty tape : Tape) → empty ≡ empty_tape limit → Records (options_text l h xid now ∷ []) empty tape → IsRecordOf (options_text l h xid now ∷ run_entries (opening l h xid now) []) tape
unfolding run_entries
new_recorded l h xid now limit empty tape is records = record_goes_on [] (options_text l h xid now ∷ []) empty tape (subst (IsRecordOf []) (sym is) (new_record limit)) records

abbrev pub new_served : (core : CoreView) (l : Limits) (h : Listener) (xid now limit : ℕ) (empty tape : Tape) → empty ≡ empty_tape limit → Records (options_text l h xid now ∷ []) empty tape → StandsFor core (opening l h xid now) → are_good l h ≡ true → IsListener h → MeetsLaws h limit → IsServed core tape
new_served core l h xid now limit empty tape is records stands good listener begins = record {
  state = opening l h xid now;
  stands = stands;
  reached = record { limits = l; listener = h; first_xid = xid; now = now; events = []; is = refl };
  good = good;
  listener = listener;
  lines = tt;
  begins = subst (MeetsLaws h) (sym (records.limit ∙ ap (λ (t : Tape). t.limit) is)) begins;
  recorded = new_recorded l h xid now limit empty tape is records;
}

-- another tape with the same text, whose limit stays, and that is on only if it was
abbrev pub still_served : (core : CoreView) (before later : Tape) → later.text ≡ before.text → later.limit ≡ before.limit → (later.is_on ≡ true → before.is_on ≡ true) → IsServed core before → IsServed core later
still_served core before later text limit on h =
    record { state = h.state; stands = h.stands; reached = h.reached; good = h.good; listener = h.listener; lines = h.lines; begins = subst (MeetsLaws _) (sym limit) h.begins; recorded = record_stays _ before later text limit on h.recorded }

-- if nothing is recorded
pub none_recorded : (core : CoreView) (tape : Tape) → ∥ IsServed core tape ∥₁ → Records [] tape tape
none_recorded core tape held = record {
  on = λ is. is;
  grows = λ is. sym (append-nil tape.text);
  ends = λ was off. absurd (true≢false (sym was ∙ off));
  stays = λ off. refl;
  written = refl;
  limit = refl;
  within = ∥∥₁_elim held le_prop (λ h. h.recorded.within);
}

-- what was recorded is within the limit
pub within_limit : (core : CoreView) (tape : Tape) → ∥ IsServed core tape ∥₁ → length tape.text ≤ tape.limit
within_limit core tape held = ∥∥₁_elim held le_prop (λ h. h.recorded.within)

-- if the recording is over
pub off_records : (entries : List (List ℕ)) (tape : Tape) → tape.is_on ≡ false → length tape.text ≤ tape.limit → Records entries tape tape
off_records entries tape off few = record {
  on = λ is. is;
  grows = λ is. absurd (true≢false (sym is ∙ off));
  ends = λ was is. absurd (true≢false (sym was ∙ off));
  stays = λ is. refl;
  written = refl;
  limit = refl;
  within = few;
}

pub off_recorded : (entries : List (List ℕ)) (core : CoreView) (tape : Tape) → tape.is_on ≡ false → ∥ IsServed core tape ∥₁ → Records entries tape tape
off_recorded entries core tape off held = off_records entries tape off (within_limit core tape held)

-- ---- one event

pub open_records : (old new : CoreView) (now : ℕ) (who : Who) (r : Result ℕ CoreFault) (before later : Tape) → Acts StandsFor (λ s. open_connection s now who) old new r → Records (entry_text (Open now who) (output_or_refusal Opened r) ∷ []) before later → (s : State) → StandsFor old s → Records (run_entries s (Open now who ∷ [])) before later
unfolding step
open_records old new now who r before later acts records s h =
    one_recorded s (Open now who) (output_or_refusal Opened r) before later (ap (output_or_refusal Opened) (acts.gives s h) ∙ output_given Opened (open_connection s now who)) records

pub open_goes : (old new : CoreView) (now : ℕ) (who : Who) (r : Result ℕ CoreFault) (before later : Tape) → Acts StandsFor (λ s. open_connection s now who) old new r → Records (entry_text (Open now who) (output_or_refusal Opened r) ∷ []) before later → Fits now → ∥ IsWho who ∥₁ → ∥ GoesOn old new before later (λ s. Open now who ∷ []) ∥₁
unfolding step
open_goes old new now who r before later acts records fits is_who =
    ∥∥₁_elim is_who squash₁ (λ w.
    goes old new before later (λ s. Open now who ∷ []) (λ s h. ((fits, w), tt)) (λ s h. subst (StandsFor new) (sym (output_state Opened (open_connection s now who))) (acts.stands s h)) (open_records old new now who r before later acts records))

pub closed_records : (old new : CoreView) (id : ℕ) (r : Result (Unit {0}) CoreFault) (before later : Tape) → Acts StandsFor (λ s. close_connection s id) old new r → Records (entry_text (Closed id) (output_or_refusal show_done r) ∷ []) before later → (s : State) → StandsFor old s → Records (run_entries s (Closed id ∷ [])) before later
unfolding step
closed_records old new id r before later acts records s h =
    one_recorded s (Closed id) (output_or_refusal show_done r) before later (ap (output_or_refusal show_done) (acts.gives s h) ∙ output_given show_done (close_connection s id)) records

pub closed_goes : (old new : CoreView) (id : ℕ) (r : Result (Unit {0}) CoreFault) (before later : Tape) → Acts StandsFor (λ s. close_connection s id) old new r → Records (entry_text (Closed id) (output_or_refusal show_done r) ∷ []) before later → Fits id → ∥ GoesOn old new before later (λ s. Closed id ∷ []) ∥₁
unfolding step
closed_goes old new id r before later acts records fits =
    goes old new before later (λ s. Closed id ∷ []) (λ s h. (fits, tt)) (λ s h. subst (StandsFor new) (sym (output_state show_done (close_connection s id))) (acts.stands s h)) (closed_records old new id r before later acts records)

pub lost_records : (old : CoreView) (lost : Option ℕ) (before later : Tape) → Shows StandsFor next_lost old lost → Records (entry_text NextLost (LostIs lost) ∷ []) before later → (s : State) → StandsFor old s → Records (run_entries s (NextLost ∷ [])) before later
unfolding step
lost_records old lost before later shows records s h = one_recorded s NextLost (LostIs lost) before later (ap LostIs (shows s h)) records

pub lost_goes : (old new : CoreView) (n : ℕ) (lost : Option ℕ) (before later : Tape) → new ≡ with_steps_before old n → Shows StandsFor next_lost old lost → Records (entry_text NextLost (LostIs lost) ∷ []) before later → ∥ GoesOn old new before later (λ s. NextLost ∷ []) ∥₁
unfolding step
lost_goes old new n lost before later is shows records =
    goes old new before later (λ s. NextLost ∷ []) (λ s h. (tt, tt)) (stands_begun old new n is) (lost_records old lost before later shows records)

-- ---- a datagram

answer_silent : (given : outcome.Response) (reply : List ℕ) → (given ≡ outcome_kinds.NoCall) ⊎ (given ≡ outcome_kinds.Silent) → Silent ≡ answer_shown given reply
answer_silent given reply (inl is) = rw is refl
answer_silent given reply (inr is) = rw is refl

answer_is : (given : outcome.Response) (reply : List ℕ) (r : Outcome × State) → outcome_with given reply ≡ r.0 → answer_shown given reply ≡ (show_outcome r).0
answer_is outcome_kinds.NoCall reply (x, s) is = rw (← is) refl
answer_is outcome_kinds.Reply reply (x, s) is = rw (← is) refl
answer_is outcome_kinds.Forwarded reply (x, s) is = rw (← is) refl
answer_is outcome_kinds.Silent reply (x, s) is = rw (← is) refl

pub datagram_records : (old new : CoreView) (now : ℕ) (who : Who) (content : List ℕ) (given : outcome.Response) (before later : Tape) → ActsWithReply (λ s. datagram s now who content) old new given → Records (entry_text (Datagram now who content) (answer_shown given new.reply) ∷ []) before later → (s : State) → StandsFor old s → Records (run_entries s (Datagram now who content ∷ [])) before later
unfolding step
datagram_records old new now who content given before later acts records s h =
    one_recorded s (Datagram now who content) (answer_shown given new.reply) before later (answer_is given new.reply (datagram s now who content) (acts.gives s h)) records

-- with a look at the reply after it
pub datagram_goes : (old new after_look : CoreView) (n now : ℕ) (who : Who) (content : List ℕ) (given : outcome.Response) (before later : Tape) → after_look ≡ with_steps_before new n → ActsWithReply (λ s. datagram s now who content) old new given → Records (entry_text (Datagram now who content) (answer_shown given new.reply) ∷ []) before later → Fits now → ∥ IsWho who ∥₁ → AreBytes content → ∥ GoesOn old after_look before later (λ s. Datagram now who content ∷ []) ∥₁
unfolding step
datagram_goes old new after_look n now who content given before later is acts records fits is_who small =
    ∥∥₁_elim is_who squash₁ (λ w.
    goes old after_look before later (λ s. Datagram now who content ∷ []) (λ s h. ((fits, w, small), tt))
    (λ s h. stands_begun new after_look n is _ (subst (StandsFor new) (sym (outcome_state (datagram s now who content))) (acts.stands s h)))
    (datagram_records old new now who content given before later acts records))

-- a look at the core changes nothing that is served
pub looked_goes : (old new : CoreView) (n : ℕ) (tape : Tape) → new ≡ with_steps_before old n → ∥ IsServed old tape ∥₁ → ∥ GoesOn old new tape tape (λ s. []) ∥₁
unfolding run_entries
looked_goes old new n tape is held = goes old new tape tape (λ s. []) (λ s h. tt) (stands_begun old new n is) (λ s h. none_recorded old tape held)

-- so of one that is no call, or is not answered
pub silent_records : (old new : CoreView) (now : ℕ) (who : Who) (content : List ℕ) (given : outcome.Response) (before later : Tape) → (given ≡ outcome_kinds.NoCall) ⊎ (given ≡ outcome_kinds.Silent) → ActsWithReply (λ s. datagram s now who content) old new given → Records (entry_text (Datagram now who content) Silent ∷ []) before later → (s : State) → StandsFor old s → Records (run_entries s (Datagram now who content ∷ [])) before later
silent_records old new now who content given before later is acts records =
    datagram_records old new now who content given before later acts (subst (λ (x : Output). Records (entry_text (Datagram now who content) x ∷ []) before later) (answer_silent given new.reply is) records)

pub silent_goes : (old new : CoreView) (now : ℕ) (who : Who) (content : List ℕ) (given : outcome.Response) (before later : Tape) → (given ≡ outcome_kinds.NoCall) ⊎ (given ≡ outcome_kinds.Silent) → ActsWithReply (λ s. datagram s now who content) old new given → Records (entry_text (Datagram now who content) Silent ∷ []) before later → Fits now → ∥ IsWho who ∥₁ → AreBytes content → ∥ GoesOn old new before later (λ s. Datagram now who content ∷ []) ∥₁
silent_goes old new now who content given before later is acts records =
    datagram_goes old new new new.steps_before now who content given before later refl acts (subst (λ (x : Output). Records (entry_text (Datagram now who content) x ∷ []) before later) (answer_silent given new.reply is) records)

-- ---- statistics begin anew

pub zeroed_records : (old : CoreView) (before later : Tape) → Records (entry_text ZeroStats Done ∷ []) before later → (s : State) → StandsFor old s → Records (run_entries s (ZeroStats ∷ [])) before later
unfolding step
zeroed_records old before later records s h = one_recorded s ZeroStats Done before later refl records

pub zeroed_goes : (old new : CoreView) (before later : Tape) → Acts StandsFor (λ s. (tt {0}, zero_stats s)) old new (tt {0}) → Records (entry_text ZeroStats Done ∷ []) before later → ∥ GoesOn old new before later (λ s. ZeroStats ∷ []) ∥₁
unfolding step
zeroed_goes old new before later acts records =
    goes old new before later (λ s. ZeroStats ∷ []) (λ s h. (tt, tt)) (λ s h. acts.stands s h) (zeroed_records old before later records)

-- ---- the end of a forwarded call

end_is : (reply : List ℕ) (told : Told) (r : Option Told × State) → Some told ≡ r.0 → reply ≡ r.1.reply → show_told reply told ≡ (show_end r).0
end_is reply told (x, s) is same = rw (← is) (ap (λ (bytes : List ℕ). show_told bytes told) same)

pub ignored_records : (old new : CoreView) (now : ℕ) (from : Peer) (message : List ℕ) (before later : Tape) → Acts StandsFor (λ s. forward_reply s now from message) old new None → Records (entry_text (Forward now from message) Ignored ∷ []) before later → (s : State) → StandsFor old s → Records (run_entries s (Forward now from message ∷ [])) before later
unfolding step
ignored_records old new now from message before later acts records s h =
    one_recorded s (Forward now from message) Ignored before later (none_is (forward_reply s now from message) (acts.gives s h)) records
  where
    none_is : (r : Option Told × State) → None ≡ r.0 → Ignored ≡ (show_end r).0
    none_is (x, s) is = rw (← is) refl

pub forward_records : (old new : CoreView) (now : ℕ) (from : Peer) (message : List ℕ) (told : Told) (before later : Tape) → Acts StandsFor (λ s. forward_reply s now from message) old new (Some told) → Records (entry_text (Forward now from message) (show_told new.reply told) ∷ []) before later → (s : State) → StandsFor old s → Records (run_entries s (Forward now from message ∷ [])) before later
unfolding step
forward_records old new now from message told before later acts records s h =
    one_recorded s (Forward now from message) (show_told new.reply told) before later (end_is new.reply told (forward_reply s now from message) (acts.gives s h) (acts.stands s h).reply) records

-- with a look at the reply after it
forward_stands : (old new after_look : CoreView) (n now : ℕ) (from : Peer) (message : List ℕ) (r : Option Told) → after_look ≡ with_steps_before new n → Acts StandsFor (λ s. forward_reply s now from message) old new r → (s : State) → StandsFor old s → StandsFor after_look (step s (Forward now from message)).1
unfolding step
forward_stands old new after_look n now from message r is acts s h =
    stands_begun new after_look n is _ (subst (StandsFor new) (sym (end_state (forward_reply s now from message))) (acts.stands s h))

pub ignored_goes : (old new : CoreView) (now : ℕ) (from : Peer) (message : List ℕ) (before later : Tape) → Acts StandsFor (λ s. forward_reply s now from message) old new None → Records (entry_text (Forward now from message) Ignored ∷ []) before later → Fits now → ∥ IsPeer from ∥₁ → AreBytes message → ∥ GoesOn old new before later (λ s. Forward now from message ∷ []) ∥₁
ignored_goes old new now from message before later acts records fits is_peer small =
    ∥∥₁_elim is_peer squash₁ (λ w.
    goes old new before later (λ s. Forward now from message ∷ []) (λ s h. ((fits, w, small), tt)) (forward_stands old new new new.steps_before now from message None refl acts) (ignored_records old new now from message before later acts records))

pub forward_goes : (old new after_look : CoreView) (n now : ℕ) (from : Peer) (message : List ℕ) (told : Told) (before later : Tape) → after_look ≡ with_steps_before new n → Acts StandsFor (λ s. forward_reply s now from message) old new (Some told) → Records (entry_text (Forward now from message) (show_told new.reply told) ∷ []) before later → Fits now → ∥ IsPeer from ∥₁ → AreBytes message → ∥ GoesOn old after_look before later (λ s. Forward now from message ∷ []) ∥₁
forward_goes old new after_look n now from message told before later is acts records fits is_peer small =
    ∥∥₁_elim is_peer squash₁ (λ w.
    goes old after_look before later (λ s. Forward now from message ∷ []) (λ s h. ((fits, w, small), tt)) (forward_stands old new after_look n now from message (Some told) is acts) (forward_records old new now from message told before later acts records))

-- ---- what is due

-- what is shown of it, with the reply that is held
abbrev pub due_shown : Expired → List ℕ → Output
due_shown expiries.Nothing reply = Nothing
due_shown (expiries.Ended told) reply = show_told reply told
due_shown (expiries.ConnectionLost id) reply = ConnectionLost id

due_is : (reply : List ℕ) (due : Expired) (r : Expired × State) → due ≡ r.0 → reply ≡ r.1.reply → due_shown due reply ≡ (show_expired r).0
due_is reply expiries.Nothing (x, s) is same = rw (← is) refl
due_is reply (expiries.Ended told) (x, s) is same = rw (← is) (ap (λ (bytes : List ℕ). show_told bytes told) same)
due_is reply (expiries.ConnectionLost id) (x, s) is same = rw (← is) refl

pub expire_records : (old new : CoreView) (now : ℕ) (due : Expired) (before later : Tape) → Acts StandsFor (λ s. expire s now) old new due → Records (entry_text (Expire now) (due_shown due new.reply) ∷ []) before later → (s : State) → StandsFor old s → Records (run_entries s (Expire now ∷ [])) before later
unfolding step
expire_records old new now due before later acts records s h =
    one_recorded s (Expire now) (due_shown due new.reply) before later (due_is new.reply due (expire s now) (acts.gives s h) (acts.stands s h).reply) records

-- with a look at the reply after it
pub expire_goes : (old new after_look : CoreView) (n now : ℕ) (due : Expired) (before later : Tape) → after_look ≡ with_steps_before new n → Acts StandsFor (λ s. expire s now) old new due → Records (entry_text (Expire now) (due_shown due new.reply) ∷ []) before later → Fits now → ∥ GoesOn old after_look before later (λ s. Expire now ∷ []) ∥₁
unfolding step
expire_goes old new after_look n now due before later is acts records fits =
    goes old after_look before later (λ s. Expire now ∷ []) (λ s h. (fits, tt))
    (λ s h. stands_begun new after_look n is _ (subst (StandsFor new) (sym (expired_state (expire s now))) (acts.stands s h)))
    (expire_records old new now due before later acts records)

-- ---- what is given on a connection

-- two events, each with what it gave
two_recorded : (s : State) (first second : Event) (one two : Output) (before mid later : Tape) → one ≡ (step s first).0 → two ≡ (step (step s first).1 second).0 → Records (entry_text first one ∷ []) before mid → Records (entry_text second two ∷ []) mid later → Records (run_entries s (first ∷ second ∷ [])) before later
unfolding run_entries
two_recorded s first second one two before mid later is then a b =
    rw (← is, ← then) (records_more (entry_text first one ∷ []) (entry_text second two ∷ []) before mid later a b)

pub look_state : (s : State) (id : ℕ) → (step s (Pending id)).1 ≡ s
unfolding step
look_state s id = output_state IsPending (pending s id, s)

pub look_output : (s : State) (id : ℕ) (owed : Result (List ℕ) CoreFault) → pending s id ≡ owed → output_or_refusal IsPending owed ≡ (step s (Pending id)).0
unfolding step
look_output s id owed is = ap (output_or_refusal IsPending) (sym is) ∙ output_given IsPending (pending s id, s)

-- no more than is pending was given
pub gave_state : (s : State) (now id n : ℕ) (owed : List ℕ) → pending s id ≡ Ok owed → n ≤ length owed → (step s (Gave now id n)).1 ≡ (gave s now id n).1
unfolding step
gave_state s now id n owed is few =
    let plain : is_too_much n (pending s id) ≡ false = rw is (le-ltb (length owed) n few) in
    ap (λ (b : Bool). (cond b (TooMuch, s) (output_or show_done (gave s now id n))).1) plain ∙ output_state show_done (gave s now id n)

pub gave_output : (s : State) (now id n : ℕ) (owed : List ℕ) → pending s id ≡ Ok owed → n ≤ length owed → Ok tt ≡ (gave s now id n).0 → Done ≡ (step s (Gave now id n)).0
unfolding step
gave_output s now id n owed is few done =
    let plain : is_too_much n (pending s id) ≡ false = rw is (le-ltb (length owed) n few) in
    ap (output_or_refusal show_done) done ∙ output_given show_done (gave s now id n) ∙ sym (ap (λ (b : Bool). (cond b (TooMuch, s) (output_or show_done (gave s now id n))).0) plain)

pub given_state : (s : State) (now id n : ℕ) (owed : List ℕ) → pending s id ≡ Ok owed → n ≤ length owed → after s (given_events now id n) ≡ (gave s now id n).1
given_state s now id n owed is few = ap (λ (t : State). (step t (Gave now id n)).1) (look_state s id) ∙ gave_state s now id n owed is few

-- ---- calls that must be sent

pub unsent_records : (old : CoreView) (unsent : Option UnsentCall) (before later : Tape) → Shows StandsFor unsent_call old unsent → Records (entry_text Unsent (UnsentIs unsent) ∷ []) before later → (s : State) → StandsFor old s → Records (run_entries s (Unsent ∷ [])) before later
unfolding step
unsent_records old unsent before later shows records s h = one_recorded s Unsent (UnsentIs unsent) before later (ap UnsentIs (shows s h)) records

pub none_records : (old : CoreView) (before later : Tape) → Shows StandsFor unsent_call old None → Records (entry_text Unsent (UnsentIs None) ∷ []) before later → (s : State) → StandsFor old s → Records (run_entries s (send_events s)) before later
none_records old before later shows records s h =
    subst (λ (u : Option UnsentCall). Records (run_entries s (send_events_of u)) before later) (shows s h) (unsent_records old None before later shows records s h)

pub none_goes : (old new : CoreView) (n : ℕ) (before later : Tape) → new ≡ with_steps_before old n → Shows StandsFor unsent_call old None → Records (entry_text Unsent (UnsentIs None) ∷ []) before later → ∥ GoesOn old new before later (λ s. Unsent ∷ []) ∥₁
unfolding step
none_goes old new n before later is shows records =
    goes old new before later (λ s. Unsent ∷ []) (λ s h. (tt, tt)) (stands_begun old new n is) (unsent_records old None before later shows records)

pub sent_records : (old mid new : CoreView) (n : ℕ) (unsent : UnsentCall) (r : Result (Unit {0}) CoreFault) (before between later : Tape) → mid ≡ with_steps_before old n → Shows StandsFor unsent_call old (Some unsent) → Acts StandsFor (λ s. sent_call s unsent.number) mid new r → Records (entry_text Unsent (UnsentIs (Some unsent)) ∷ []) before between → Records (entry_text (Sent unsent.number) (output_or_refusal show_done r) ∷ []) between later → (s : State) → StandsFor old s → Records (run_entries s (send_events s)) before later
unfolding step
sent_records old mid new n unsent r before between later is shows acts one two s h =
    subst (λ (u : Option UnsentCall). Records (run_entries s (send_events_of u)) before later) (shows s h)
    (two_recorded s Unsent (Sent unsent.number) (UnsentIs (Some unsent)) (output_or_refusal show_done r) before between later (ap UnsentIs (shows s h))
    (ap (output_or_refusal show_done) (acts.gives s (stands_begun old mid n is s h)) ∙ output_given show_done (sent_call s unsent.number)) one two)

pub sent_goes : (old mid new : CoreView) (n : ℕ) (unsent : UnsentCall) (r : Result (Unit {0}) CoreFault) (before between later : Tape) → mid ≡ with_steps_before old n → Shows StandsFor unsent_call old (Some unsent) → Acts StandsFor (λ s. sent_call s unsent.number) mid new r → Records (entry_text Unsent (UnsentIs (Some unsent)) ∷ []) before between → Records (entry_text (Sent unsent.number) (output_or_refusal show_done r) ∷ []) between later → Fits unsent.number → ∥ GoesOn old new before later send_events ∥₁
unfolding step
sent_goes old mid new n unsent r before between later is shows acts one two fits =
    goes old new before later send_events (λ s h. subst (λ (u : Option UnsentCall). AllByRecursion HasLine (send_events_of u)) (shows s h) (tt, (fits, tt)))
    (λ s h. subst (λ (u : Option UnsentCall). StandsFor new (after s (send_events_of u))) (shows s h) (subst (StandsFor new) (sym (output_state show_done (sent_call s unsent.number))) (acts.stands s (stands_begun old mid n is s h))))
    (sent_records old mid new n unsent r before between later is shows acts one two)
