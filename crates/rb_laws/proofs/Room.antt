-- There are no more connections than there may be.
use Rattle.std.specs.Prelude.{filter}
use Rattle.std.proofs.Common.{◌≡◌, ℕ, ◌+◌, ◌≤◌, max, Bool, cond, Option, Result, Ok, Err, List, [], ◌∷◌, ◌++◌, length, arith}
use Rattle.std.proofs.lemmas.List.{length-map}
use Rattle.std.proofs.lemmas.Grind.{common_steps}
use Rattle.rb_address.specs.declared.who.Who.{Who}
use Rattle.rb_address.specs.declared.caller.Caller.{Caller}
use Rattle.rb_forward.specs.declared.types.Ended.{Ended}
use Rattle.rb_forward.specs.declared.types.FwdId.{FwdId}
use Rattle.rb_forward.specs.Forwards.{can_be_sent}
use Rattle.rb_answers.specs.Ledger.{Ledger}
use Rattle.rb_answers.specs.Forwarding.{call_sent}
use Rattle.rb_model.specs.Losses.{removals_in_the_way, evict_early}
use Rattle.rb_model.specs.declared.types.CoreFault.{CoreFault}
use Rattle.rb_model.specs.declared.types.CoreFault.TheVariants.{Gone}
use Rattle.rb_model.specs.declared.types.Told.{Told}
use Rattle.rb_model.specs.declared.types.Expired.{Expired}
use Rattle.rb_model.specs.Calls.{Outcome, message_of}
use Rattle.rb_model.specs.State.{State, Connection, at_moment}
use Rattle.rb_model.specs.Connections.{change_first, live_connection, give, on_found, number_for, open_in_table, is_there, without_number, close_in_table}
use Rattle.rb_model.specs.Ending.{tell, tell_end, at_fresh_moment, forward_reply, expire}
use Rattle.rb_model.specs.Step.{sender, Event, Output, context_in, serve, serve_record, unless_refused, bytes_to, bytes, pending, gave, is_too_much, open_connection, dropped_with, close_connection, with_reply, datagram, sent_call, output_or, show_taken, show_done, show_outcome, show_end, show_expired, step, after, IsReached, zero_stats}
use Rattle.rb_model.specs.Step.Event.{Open, Bytes, Pending, Gave, Closed, NextLost, Datagram, Unsent, Sent, Forward as ForwardCame, Expire, ZeroStats}
use Rattle.rb_model.specs.Step.Output.{TooMuch, IsPending}
use Rattle.rb_laws.proofs.EntriesKept.{step-follows}
use Rattle.rb_laws.proofs.DueThings.{Expiry, expiry}

changed-length : (test : Connection → Bool) (f : Connection → Connection) (all : List Connection) → length (change_first test f all) ≡ length all
changed-length test f [] = grind arith
changed-length test f (c ∷ all) = grind (arith, changed-length test f all)

filtered-length : (p : Connection → Bool) (all : List Connection) → length (filter p all) ≤ length all
filtered-length p [] = grind arith
filtered-length p (c ∷ all) = grind (arith, filtered-length p all)

pushed-length : (all : List Connection) (c : Connection) → length (all ++ c ∷ []) ≡ length all + 1
pushed-length all c = grind (arith, common_steps)

abbrev count : State → ℕ
count s = length s.connections.all

-- no more than before
module _ (s : State) where
  output-few : {A : Type 0} (show : A → Output) (r : Result A CoreFault) (u : State) → count u ≤ count s → count (output_or show (r, u)).1 ≤ count s
  output-few show r u few = grind arith

  serve-few : (now : ℕ) (caller : Caller) (content : List ℕ) → count (serve (at_moment now s) caller content).1 ≤ count s
  unfolding serve
  serve-few now caller content = let same = length-map s.connections.all (evict_early (removals_in_the_way (context_in (at_moment now s) caller) (message_of content) s.connections.all s.ledger)) in omega (arith, same)

  bytes-few : (now id : ℕ) (piece : List ℕ) (o : Option Connection) → count (output_or show_taken (bytes_to s now id piece o)).1 ≤ count s
  unfolding serve_record
  bytes-few now id piece o = grind (arith, common_steps, changed-length, serve-few)

  gave-few : (now id n : ℕ) (o : Option Connection) → count (output_or show_done (unless_refused now s (on_found id (give (max s.clock now) n) s.connections o))).1 ≤ count s
  gave-few now id n o = grind (arith, common_steps, changed-length)

  closed-few : (id : ℕ) (b : Bool) → count (output_or show_done (dropped_with s id (cond b (Ok tt, without_number id s.connections) (Err Gone, s.connections)))).1 ≤ count s
  unfolding without_number
  closed-few id b = grind (arith, common_steps, filtered-length)

  tell-few : (u : State) (call : FwdId) (caller : Caller) (said : Outcome) → count u ≤ count s → count (tell call caller said u).1 ≤ count s
  tell-few u call caller said few = grind (arith, common_steps, changed-length)

  told-few : (message : List ℕ) (u : State) (r : Option Ended × Ledger) → count u ≤ count s → count (tell_end message u r).1 ≤ count s
  told-few message u r few = grind (arith, common_steps, tell-few)

  end-few : (r : Option Told × State) → count r.1 ≤ count s → count (show_end r).1 ≤ count s
  end-few r few = grind arith

  expired-few : (r : Expired × State) → count r.1 ≤ count s → count (show_expired r).1 ≤ count s
  expired-few r few = grind arith

  expire-few : (now : ℕ) (r : Expired × State) → Expiry s (max s.clock now) (at_fresh_moment now s) r → count r.1 ≤ count s
  expire-few now r p = grind (arith, common_steps, tell-few, changed-length)

  outcome-few : (r : Outcome × State) → count r.1 ≤ count s → count (show_outcome (with_reply r)).1 ≤ count s
  outcome-few r few = grind arith

  sent-few : (number : ℕ) (b : Bool) → count (output_or show_done (cond b (Ok tt, record s { ledger = call_sent number s.ledger }) (Err Gone, s))).1 ≤ count s
  sent-few number b = grind arith

  either : (b : Bool) (x y : Output × State) → count x.1 ≤ count s → count y.1 ≤ count s → count (cond b x y).1 ≤ count s
  either b x y left right = grind arith

-- ---- there is room for one more when it is opened

abbrev HasRoom : State → Type 0
HasRoom s = count s ≤ s.setting.limits.conns

opened-room : (s : State) (now : ℕ) (who : Who) → HasRoom s → count (step s (Open now who)).1 ≤ s.setting.limits.conns
unfolding step open_connection open_in_table number_for
opened-room s now who few = grind (arith, common_steps)

within : (s : State) (n : ℕ) → HasRoom s → n ≤ count s → n ≤ s.setting.limits.conns
within s n few less = omega (arith, few, less)

step-few : (s : State) (event : Event) → HasRoom s → count (step s event).1 ≤ s.setting.limits.conns
unfolding step bytes gave close_connection close_in_table datagram sent_call forward_reply zero_stats
step-few s (Open now who) few = opened-room s now who few
step-few s (Bytes now id piece) few = within s _ few (bytes-few s now id piece (live_connection id s.connections.all))
step-few s (Pending id) few = within s _ few (output-few s IsPending (pending s id) s (omega arith))
step-few s (Gave now id n) few =
    within s _ few (either s (is_too_much n (pending s id)) (TooMuch, s) (output_or show_done (gave s now id n)) (omega arith) (gave-few s now id n (live_connection id s.connections.all)))
step-few s (Closed id) few = within s _ few (closed-few s id (is_there id s.connections))
step-few s NextLost few = few
step-few s (Datagram now who content) few = within s _ few (outcome-few s (serve (at_moment now s) (sender s who content) content) (serve-few s now (sender s who content) content))
step-few s Unsent few = few
step-few s (Sent number) few = within s _ few (sent-few s number (can_be_sent number s.ledger.forwards))
step-few s (ForwardCame now from message) few = grind (arith, common_steps, within s, end-few s (forward_reply s now from message), told-few s message (at_fresh_moment now s))
step-few s (Expire now) few = within s _ few (expired-few s (expire s now) (expire-few s now (expire s now) (expiry s now)))
step-few s ZeroStats few = few

step-room : (s : State) (event : Event) → HasRoom s → HasRoom (step s event).1
step-room s event few = rw ((step-follows s event).setting) (step-few s event few)

after-room : (s : State) (events : List Event) → HasRoom s → HasRoom (after s events)
after-room s [] few = few
after-room s (event ∷ events) few = after-room (step s event).1 events (step-room s event few)

pub reached-room : (s : State) → IsReached s → length s.connections.all ≤ s.setting.limits.conns
reached-room s r = grind (arith, common_steps, after-room)
