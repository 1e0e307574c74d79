-- The bytes of arguments that wait in the connections: only bytes that arrive make them more, and the end of a record takes
-- its own.
use Rattle.std.specs.Prelude.{find, filter}
use Rattle.std.proofs.Common.{◌≡◌, ℕ, ◌+◌, ◌≤◌, max, Bool, cond, Option, Some, None, Result, Ok, Err, List, [], ◌∷◌, map, arith}
use Rattle.std.proofs.lemmas.List.Sums.{sum_by-cons}
use Rattle.std.proofs.lemmas.Grind.{common_steps}
use Rattle.rb_address.specs.declared.peer.Peer.{Peer}
use Rattle.rb_address.specs.declared.who.Who.{Who}
use Rattle.rb_address.specs.declared.caller.Caller.{Caller}
use Rattle.rb_forward.specs.declared.types.Ended.{Ended}
use Rattle.rb_forward.specs.declared.types.FwdId.{FwdId}
use Rattle.rb_forward.specs.Forwards.{can_be_sent}
use Rattle.rb_answers.specs.Ledger.{Ledger}
use Rattle.rb_answers.specs.Forwarding.{call_sent}
use Rattle.rb_model.specs.declared.types.CoreFault.{CoreFault}
use Rattle.rb_model.specs.declared.types.CoreFault.TheVariants.{Gone}
use Rattle.rb_model.specs.declared.types.Told.{Told}
use Rattle.rb_model.specs.declared.types.Expired.{Expired}
use Rattle.rb_model.specs.Calls.{Outcome, message_of}
use Rattle.rb_model.specs.State.{State, Connection, at_moment}
use Rattle.rb_model.specs.Connections.{settle, change_first, is_live, with_given, give, on_found, number_for, opening_as, open_in_table, is_there, without_number, close_in_table, phase_after, live_connection}
use Rattle.rb_model.specs.Losses.{stamp_in, removals_in_the_way, evict_early, lose}
use Rattle.rb_model.specs.Ending.{tell, tell_end, at_fresh_moment, forward_reply, expire}
use Rattle.rb_model.specs.Step.{sender, Output, context_in, serve, serve_record, unless_refused, pending, gave, is_too_much, open_connection, dropped_with, close_connection, with_reply, datagram, sent_call, output_or, show_done, show_outcome, show_end, show_expired, step, zero_stats}
use Rattle.rb_model.specs.Step.Event.{Open, Pending, Gave, Closed, Datagram, Sent, Forward as ForwardCame, Expire, ZeroStats}
use Rattle.rb_model.specs.Step.Output.{Opened, TooMuch, IsPending}
use Rattle.rb_model.specs.WholeRuns.{args_in, args_waiting}
use Rattle.rb_laws.proofs.Crowds.{plain_lives}
use Rattle.rb_laws.proofs.DueThings.{Expiry, expiry}

abbrev args_of : Connection → ℕ
args_of c = args_in c.phase

-- ---- lists of connections

-- one is changed to one with no more
changed-waiting : (test : Connection → Bool) (f : Connection → Connection) → ((c : Connection) → args_of (f c) ≤ args_of c) → (all : List Connection)
    → args_waiting (change_first test f all) ≤ args_waiting all
changed-waiting test f less [] = grind (arith, common_steps)
changed-waiting test f less (c ∷ all) = grind (arith, common_steps, changed-waiting test f less all)

some_is : (x y : Connection) → Some x ≡ Some y → x ≡ y
some_is x y e = cc

-- the one that is found is changed
pub found-waiting : (test : Connection → Bool) (f : Connection → Connection) (all : List Connection) (c : Connection) → find test all ≡ Some c
    → args_waiting (change_first test f all) + args_of c ≡ args_waiting all + args_of (f c)
found-waiting test f [] c there = grind (arith, common_steps)
found-waiting test f (d ∷ all) c there = grind (arith, common_steps, found-waiting test f all c)

evicted-few : (changes : List ℕ) (c : Connection) → args_of (evict_early changes c) ≤ args_of c
unfolding evict_early
evicted-few changes c = grind arith

pub evicted-waiting : (changes : List ℕ) (all : List Connection) → args_waiting (map (evict_early changes) all) ≤ args_waiting all
evicted-waiting changes [] = grind (arith, common_steps, evicted-few, sum_by-cons)
evicted-waiting changes (c ∷ all) = grind (arith, common_steps, evicted-few, sum_by-cons, evicted-waiting changes all)

filtered-waiting : (p : Connection → Bool) (all : List Connection) → args_waiting (filter p all) ≤ args_waiting all
filtered-waiting p [] = grind (arith, common_steps)
filtered-waiting p (c ∷ all) = grind (arith, common_steps, filtered-waiting p all)

-- ---- what becomes of one connection

after-none : (given : Outcome) → args_in (phase_after given) ≡ 0
after-none given = grind arith

pub settled-none : (clock : ℕ) (given : Outcome) (c : Connection) → args_of (settle clock given c) ≡ 0
unfolding settle
settled-none clock given c = after-none given

settled-few : (clock : ℕ) (given : Outcome) (c : Connection) → args_of (settle clock given c) ≤ args_of c
settled-few clock given c = let none = settled-none clock given c in omega (arith, none)

giving-few : (clock n : ℕ) (c : Connection) → args_of (give clock n c).1 ≤ args_of c
unfolding give with_given
giving-few clock n c = grind arith

-- ---- events

abbrev pub waiting : State → ℕ
waiting s = args_waiting s.connections.all

-- no more than before
module _ (s : State) where
  pub serve-waits : (now : ℕ) (caller : Caller) (content : List ℕ) → waiting (serve (at_moment now s) caller content).1 ≤ waiting s
  unfolding serve
  serve-waits now caller content = evicted-waiting (removals_in_the_way (context_in (at_moment now s) caller) (message_of content) s.connections.all s.ledger) s.connections.all

  -- the record of the live connection of a number ended, and is answered
  pub answering-waits : (now id : ℕ) (content : List ℕ) (c : Connection) → find (is_live id) s.connections.all ≡ Some c → stamp_in c.phase ≡ None
      → waiting (serve_record (at_moment now s) id c.who content).1 + args_of c ≤ waiting s
  unfolding serve_record serve
  answering-waits now id content c there plain = grind (arith, common_steps, evicted-waiting, plain_lives, found-waiting, settled-none)

  opened-waits : (now : ℕ) (who : Who) (r : Result ℕ CoreFault) → waiting (output_or Opened (unless_refused now s (opening_as who (max s.clock now) s.connections r))).1 ≤ waiting s
  opened-waits now who r = grind (arith, common_steps)

  output-waits : {A : Type 0} (show : A → Output) (r : Result A CoreFault) (u : State) → waiting u ≤ waiting s → waiting (output_or show (r, u)).1 ≤ waiting s
  output-waits show r u few = grind arith

  gave-waits : (now id n : ℕ) (o : Option Connection) → waiting (output_or show_done (unless_refused now s (on_found id (give (max s.clock now) n) s.connections o))).1 ≤ waiting s
  gave-waits now id n o = grind (arith, common_steps, changed-waiting, giving-few)

  closed-waits : (id : ℕ) (b : Bool) → waiting (output_or show_done (dropped_with s id (cond b (Ok tt, without_number id s.connections) (Err Gone, s.connections)))).1 ≤ waiting s
  unfolding without_number
  closed-waits id b = grind (arith, common_steps, filtered-waiting)

  tell-waits : (u : State) (call : FwdId) (caller : Caller) (said : Outcome) → waiting u ≤ waiting s → waiting (tell call caller said u).1 ≤ waiting s
  tell-waits u call caller said few = grind (arith, common_steps, changed-waiting, settled-few)

  told-waits : (message : List ℕ) (u : State) (r : Option Ended × Ledger) → waiting u ≤ waiting s → waiting (tell_end message u r).1 ≤ waiting s
  told-waits message u r few = grind (arith, common_steps, tell-waits)

  end-waits : (r : Option Told × State) → waiting r.1 ≤ waiting s → waiting (show_end r).1 ≤ waiting s
  end-waits r few = grind arith

  expired-waits : (r : Expired × State) → waiting r.1 ≤ waiting s → waiting (show_expired r).1 ≤ waiting s
  expired-waits r few = grind arith

  lost-few : (c : Connection) → args_of (lose c) ≤ args_of c
  lost-few c = omega arith

  expire-waits : (now : ℕ) (r : Expired × State) → Expiry s (max s.clock now) (at_fresh_moment now s) r → waiting r.1 ≤ waiting s
  expire-waits now r p = grind (arith, common_steps, tell-waits, changed-waiting, lost-few)

  outcome-waits : (r : Outcome × State) → waiting r.1 ≤ waiting s → waiting (show_outcome (with_reply r)).1 ≤ waiting s
  outcome-waits r few = grind arith

  sent-waits : (number : ℕ) (b : Bool) → waiting (output_or show_done (cond b (Ok tt, record s { ledger = call_sent number s.ledger }) (Err Gone, s))).1 ≤ waiting s
  sent-waits number b = grind arith

  either : (b : Bool) (x y : Output × State) → waiting x.1 ≤ waiting s → waiting y.1 ≤ waiting s → waiting (cond b x y).1 ≤ waiting s
  either b x y left right = grind arith

  pub open-waits : (now : ℕ) (who : Who) → waiting (step s (Open now who)).1 ≤ waiting s
  unfolding step open_connection open_in_table
  open-waits now who = opened-waits now who (number_for s.setting.limits.conns s.connections)

  pub give-waits : (now id n : ℕ) → waiting (step s (Gave now id n)).1 ≤ waiting s
  unfolding step gave
  give-waits now id n = either (is_too_much n (pending s id)) (TooMuch, s) (output_or show_done (gave s now id n)) (omega arith) (gave-waits now id n (live_connection id s.connections.all))

  pub pending-waits : (id : ℕ) → waiting (step s (Pending id)).1 ≤ waiting s
  unfolding step
  pending-waits id = output-waits IsPending (pending s id) s (omega arith)

  pub close-waits : (id : ℕ) → waiting (step s (Closed id)).1 ≤ waiting s
  unfolding step close_connection close_in_table
  close-waits id = closed-waits id (is_there id s.connections)

  pub datagram-waits : (now : ℕ) (who : Who) (content : List ℕ) → waiting (step s (Datagram now who content)).1 ≤ waiting s
  unfolding step datagram
  datagram-waits now who content = outcome-waits (serve (at_moment now s) (sender s who content) content) (serve-waits now (sender s who content) content)

  pub send-waits : (number : ℕ) → waiting (step s (Sent number)).1 ≤ waiting s
  unfolding step sent_call
  send-waits number = sent-waits number (can_be_sent number s.ledger.forwards)

  pub forward-waits : (now : ℕ) (from : Peer) (message : List ℕ) → waiting (step s (ForwardCame now from message)).1 ≤ waiting s
  unfolding step forward_reply
  forward-waits now from message = grind (arith, common_steps, end-waits, told-waits)

  pub expiry-waits : (now : ℕ) → waiting (step s (Expire now)).1 ≤ waiting s
  unfolding step
  expiry-waits now = expired-waits (expire s now) (expire-waits now (expire s now) (expiry s now))

  pub zero-waits : waiting (step s ZeroStats).1 ≤ waiting s
  unfolding step zero_stats
  zero-waits = omega arith
