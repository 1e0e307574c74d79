-- What each event leaves of the ledger.
use Rattle.std.proofs.Common.{◌≡◌, ℕ, max, Bool, true, false, cond, Option, Some, None, Result, Ok, Err, List, [], refl, ◌∙◌, arith}
use Rattle.rb_rpc.specs.Feeds.{arguments_of}
use Rattle.rb_forward.specs.declared.types.Ended.{Ended as EntryEnd}
use Rattle.rb_forward.specs.Forwards.{can_be_sent}
use Rattle.rb_answers.specs.Ledger.{Ledger}
use Rattle.rb_answers.specs.Forwarding.{target_replied, fell_due, caller_dropped, call_sent}
use Rattle.rb_model.specs.declared.types.Told.{Told}
use Rattle.rb_model.specs.declared.types.CoreFault.{CoreFault}
use Rattle.rb_model.specs.declared.types.CoreFault.TheVariants.{Gone}
use Rattle.rb_model.specs.Calls.{Outcome, Outcome as outcomes, message_of, outcome}
use Rattle.rb_model.specs.Losses.{first_due, with_lost, expire_first}
use Rattle.rb_model.specs.Ending.{tell_end, at_fresh_moment, forward_reply, lost_as, expire_connection, expired_as, expire}
use Rattle.rb_model.specs.State.{State, Connection, Connections, at_moment}
use Rattle.rb_model.specs.Connections.{Taking, taking_of, live_connection, is_there, without_number, close_in_table}
use Rattle.rb_model.specs.Connections.Taking.{TakesNone, GoesOn, Ends}
use Rattle.rb_model.specs.Step.{sender, Event, Output, context_in, serve, serve_record, when_taken, bytes_to, bytes, dropped_with, sent_call, show_end, show_expired, unless_refused, pending, gave, is_too_much, open_connection, close_connection, with_reply, datagram, output_or, show_taken, show_done, show_outcome, step, zero_stats}
use Rattle.rb_model.specs.Step.Event.{Open, Bytes, Pending, Gave, Closed, NextLost, Datagram, Unsent, Sent, Forward, Expire, ZeroStats}
use Rattle.rb_model.specs.Step.Output.{Opened, TooMuch, IsPending}
use Rattle.rb_model.specs.ChangeLaws.{Brought, record_in, record_on}

-- ---- what it is

-- after the answer to a message, if there is one
abbrev pub ledger_from : State → Option Brought → Ledger
ledger_from s None = s.ledger
ledger_from s (Some m) = (outcome (context_in (at_moment m.now s) m.caller) (message_of m.content) (arguments_of m.content) s.ledger).1

-- a message is answered, a forwarded call ends or was sent, statistics begin anew, or nothing changes
abbrev pub ledger_left : State → Event → Ledger
ledger_left s (Datagram now who content) = ledger_from s (Some (record { now = now; caller = sender s who content; content = content }))
ledger_left s (Bytes now id piece) = ledger_from s (record_on now id piece (live_connection id s.connections.all))
ledger_left s (Forward now from message) = (target_replied s.setting.first_xid (max s.clock now) from message s.ledger).1
ledger_left s (Expire now) = (fell_due (max s.clock now) s.ledger).1
ledger_left s (Closed id) = cond (is_there id s.connections) (caller_dropped id s.ledger).1 s.ledger
ledger_left s (Sent number) = cond (can_be_sent number s.ledger.forwards) (call_sent number s.ledger) s.ledger
ledger_left s ZeroStats = record s.ledger { history = [] }
ledger_left s event = s.ledger

-- ---- that it is

outcome-ledger : (r : Outcome × State) → (show_outcome (with_reply r)).1.ledger ≡ r.1.ledger
outcome-ledger (outcomes.NoCall, t) = refl
outcome-ledger (outcomes.Reply reply stamp, t) = refl
outcome-ledger (outcomes.Forwarded, t) = refl
outcome-ledger (outcomes.Silent, t) = refl

bytes-ledger : (s : State) (now id : ℕ) (piece : List ℕ) (o : Option Connection)
    → (output_or show_taken (bytes_to s now id piece o)).1.ledger ≡ ledger_from s (record_on now id piece o)
unfolding serve_record serve
bytes-ledger s now id piece None = refl
bytes-ledger s now id piece (Some c) = by_taking (taking_of c.phase piece)
  where
    by_taking : (t : Taking) → (when_taken (at_moment now s) id piece c t).1.ledger ≡ ledger_from s (record_in now id c.who t)
    by_taking TakesNone = refl
    by_taking (GoesOn fed) = refl
    by_taking (Ends n content) = refl

moved-ledger : {A : Type 0} (s : State) (now : ℕ) (show : A → Output) (r : Result A CoreFault × Connections) → (output_or show (unless_refused now s r)).1.ledger ≡ s.ledger
moved-ledger s now show r = grind arith

shown-ledger : {A : Type 0} (s : State) (show : A → Output) (r : Result A CoreFault) → (output_or show (r, s)).1.ledger ≡ s.ledger
shown-ledger s show r = grind arith

gave-ledger : (s : State) (b : Bool) (r : Output × State) → r.1.ledger ≡ s.ledger → (cond b (TooMuch, s) r).1.ledger ≡ s.ledger
gave-ledger s true r e = refl
gave-ledger s false r e = e

closed-ledger : (s : State) (id : ℕ) (b : Bool) → (output_or show_done (dropped_with s id (cond b (Ok tt, without_number id s.connections) (Err Gone, s.connections)))).1.ledger ≡ cond b (caller_dropped id s.ledger).1 s.ledger
closed-ledger s id true = refl
closed-ledger s id false = refl

sent-ledger : (s : State) (number : ℕ) (b : Bool) → (output_or show_done (cond b (Ok tt, record s { ledger = call_sent number s.ledger }) (Err Gone, s))).1.ledger ≡ cond b (call_sent number s.ledger) s.ledger
sent-ledger s number true = refl
sent-ledger s number false = refl

tell-ledger : (s : State) (message : List ℕ) (r : Option EntryEnd × Ledger) → (tell_end message s r).1.ledger ≡ r.1
tell-ledger s message r = grind arith

end-ledger : (r : Option Told × State) → (show_end r).1.ledger ≡ r.1.ledger
end-ledger (None, t) = refl
end-ledger (Some told, t) = refl

expired-ledger : (r : Option Told × State) → (show_expired (expired_as r)).1.ledger ≡ r.1.ledger
unfolding expire_connection expire_first
expired-ledger (Some told, t) = refl
expired-ledger (None, t) = by_found (first_due t.clock t.connections)
  where
    by_found : (o : Option ℕ) → (show_expired (lost_as o, record t { connections = with_lost o t.connections })).1.ledger ≡ t.ledger
    by_found None = refl
    by_found (Some id) = refl

pub step-ledger : (s : State) (event : Event) → (step s event).1.ledger ≡ ledger_left s event
unfolding step bytes open_connection gave close_connection close_in_table datagram serve sent_call forward_reply expire zero_stats
step-ledger s (Open now who) = moved-ledger s now Opened _
step-ledger s (Bytes now id piece) = bytes-ledger s now id piece (live_connection id s.connections.all)
step-ledger s (Pending id) = shown-ledger s IsPending (pending s id)
step-ledger s (Gave now id n) = gave-ledger s (is_too_much n (pending s id)) (output_or show_done (gave s now id n)) (moved-ledger s now show_done _)
step-ledger s (Closed id) = closed-ledger s id (is_there id s.connections)
step-ledger s NextLost = refl
step-ledger s (Datagram now who content) = outcome-ledger (serve (at_moment now s) (sender s who content) content)
step-ledger s Unsent = refl
step-ledger s (Sent number) = sent-ledger s number (can_be_sent number s.ledger.forwards)
step-ledger s (Forward now from message) =
    let ended = target_replied s.setting.first_xid (max s.clock now) from message s.ledger in
    end-ledger (tell_end message (at_fresh_moment now s) ended) ∙ tell-ledger (at_fresh_moment now s) message ended
step-ledger s (Expire now) =
    let ended = fell_due (max s.clock now) s.ledger in
    expired-ledger (tell_end [] (at_fresh_moment now s) ended) ∙ tell-ledger (at_fresh_moment now s) [] ended
step-ledger s ZeroStats = refl
