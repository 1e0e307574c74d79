-- An event that changes no row costs little, and that of a list goes by the rows alone.
use Rattle.std.specs.Option.{option_map_or}
use Rattle.std.proofs.Common.{◌≡◌, ◌≤◌, ℕ, ◌+◌, ◌*◌, Bool, true, false, cond, Option, Some, None, List, length, refl, ◌∙◌, arith}
use Rattle.std.proofs.lemmas.List.{length-take}
use Rattle.rb_xdr.specs.Ordered.{looks}
use Rattle.rb_xdr.proofs.Ordering.{looks_few}
use Rattle.rb_address.specs.declared.who.Who.{Who}
use Rattle.rb_rpc.specs.Feeds.{arguments_of}
use Rattle.rb_arguments.specs.Forwarded.{longest_forwarded as longest_args}
use Rattle.rb_answers.specs.declared.listener.Listener.{Listener}
use Rattle.rb_answers.specs.Callers.{may_register}
use Rattle.rb_model.specs.declared.types.Limits.{Limits}
use Rattle.rb_model.specs.declared.message.Message.{Message}
use Rattle.rb_model.specs.declared.message.Message.TheVariants as says
use Rattle.rb_model.specs.State.{State, Connection, at_moment, are_good}
use Rattle.rb_model.specs.Connections.{Taking, taking_of, live_connection}
use Rattle.rb_model.specs.Connections.Taking.{TakesNone, GoesOn, Ends}
use Rattle.rb_model.specs.Step.{when_taken, Event, bytes_to, bytes, output_or, show_taken, step, IsReached}
use Rattle.rb_model.specs.Step.Event.{Open, Bytes, Pending, Gave, Closed, NextLost, Datagram, Unsent, Sent, Forward, Expire, ZeroStats}
use Rattle.rb_model.specs.Calls.{longest_reply, longest_kept, kept_of, message_of}
use Rattle.rb_model.specs.Bounds.{count_in}
use Rattle.rb_model.specs.Costs.{sizes_in, asks_for_list, asks_for_rows, gives_list, gave_cost, find_cost, given_cost, recount_cost, count_taken, record_cost, bytes_cost, reply_count, event_cost}
use Rattle.rb_model.specs.OutsiderCosts.{asks_for_change, ends_for_change, is_for_change, ends_for_list, plain_allowance, list_allowance, allowance_at, byte_allowance, EventsCostFew, DatagramsCostFew, ListsCostByRows}
use Rattle.rb_model.proofs.CostBounds.{plain_most, plain_record_most, answer_most, gave_most}
use Rattle.rb_laws.proofs.RepliesShown.{unsent-shown, datagram-shown, forward-shown, expiry-shown}
use Rattle.rb_laws.proofs.StepBounds.{taken-counts, conns_few, datagram_most, shows}

-- what is for no list and changes no row does not walk the rows
plain_of : (may : Bool) (message : Message) → asks_for_change may message ≡ false → asks_for_list message ≡ false → asks_for_rows may message ≡ false
plain_of may (says.Asked call) kept plain = rw (plain, kept) refl
plain_of may says.NoCall kept plain = refl
plain_of may (says.Refused head) kept plain = refl
plain_of may (says.Garbage head) kept plain = refl

-- good limits have few of all
pub good_conns : (limits : Limits) (listener : Listener) → are_good limits listener ≡ true → limits.conns ≤ 256
good_conns limits listener good = grind arith

good_rows : (limits : Limits) (listener : Listener) → are_good limits listener ≡ true → limits.rows ≤ 4096
good_rows limits listener good = grind arith

pub good_forwards : (limits : Limits) (listener : Listener) → are_good limits listener ≡ true → limits.forwards ≤ 64
good_forwards limits listener good = grind arith

-- ---- datagrams

module _ (s : State) (good : are_good s.setting.limits s.setting.listener ≡ true) where
  few_looks : looks s.setting.limits.rows ≤ 13
  few_looks = looks_few s.setting.limits.rows 12 (good_rows s.setting.limits s.setting.listener good)

  module _ (now : ℕ) (who : Who) (content : List ℕ) where
    abbrev may : Bool
    may = may_register s.setting.listener.announced who

    datagram_few : asks_for_change may (message_of content) ≡ false → asks_for_list (message_of content) ≡ false
        → event_cost s (Datagram now who content) ≤ length content + 2 * reply_count s (Datagram now who content) + 2048
    datagram_few kept plain =
        let most = plain_most (sizes_in s) may (message_of content) (length content) (reply_count s (Datagram now who content)) (plain_of may (message_of content) kept plain) in
        omega (arith, most, few_looks)

    list_few : IsReached s → event_cost s (Datagram now who content) ≤ length content + 2 * reply_count s (Datagram now who content) + 2048 + list_allowance s.setting.limits
    list_few reached =
        let most = datagram_most s reached good may content (length content) (reply_count s (Datagram now who content)) in
        omega (arith, most, few_looks, conns_few s reached good, good_conns s.setting.limits s.setting.listener good)

pub datagrams_cost_few : DatagramsCostFew
datagrams_cost_few s good now who content kept plain =
    let few = datagram_few s good now who content kept plain in
    let shown = datagram-shown s now who content in
    omega (arith, few, shown)

pub lists_cost_by_rows : ListsCostByRows
lists_cost_by_rows s reached good now who content is =
    let few = list_few s good now who content reached in
    let shown = datagram-shown s now who content in
    omega (arith, few, shown)

-- ---- every event

module _ (s : State) (reached : IsReached s) (good : are_good s.setting.limits s.setting.listener ≡ true) where
  pub few_conns : length s.connections.all ≤ 256
  few_conns = omega (arith, conns_few s reached good, good_conns s.setting.limits s.setting.listener good)

  pub few_forwards : s.setting.limits.forwards ≤ 64
  few_forwards = good_forwards s.setting.limits s.setting.listener good

  abbrev more_for : Bool → ℕ
  more_for list = cond list (list_allowance s.setting.limits) 0

  piece_few : (now id : ℕ) (piece : List ℕ) (m : Option Connection)
      → option_map_or (λ (c : Connection). ends_for_change (may_register s.setting.listener.announced c.who) (taking_of c.phase piece)) m false ≡ false
      → bytes_cost s.setting.listener.announced (sizes_in s) piece m
      ≤ 16 * count_in (output_or show_taken (bytes_to s now id piece m)).0 + (plain_allowance + more_for (option_map_or (λ (c : Connection). ends_for_list (taking_of c.phase piece)) m false))
  unfolding longest_reply longest_kept longest_args
  piece_few now id piece None kept = omega (arith, few_conns)
  piece_few now id piece (Some c) kept =
      by_taking (may_register s.setting.listener.announced c.who) (taking_of c.phase piece) kept
      (shows s reached good now id piece (when_taken (at_moment now s) id piece c (taking_of c.phase piece)).0 ∙ taken-counts (at_moment now s) id piece c (taking_of c.phase piece))
    where
      by_taking : (may : Bool) (t : Taking) → ends_for_change may t ≡ false → count_in (show_taken (when_taken (at_moment now s) id piece c t).0) ≡ count_taken piece t
          → find_cost (length s.connections.all) + (count_taken piece t + 1) + 4 + record_cost may (sizes_in s) t
          ≤ 16 * count_in (show_taken (when_taken (at_moment now s) id piece c t).0) + (plain_allowance + more_for (ends_for_list t))
      by_taking may TakesNone none k = omega (arith, few_conns, k)
      by_taking may (GoesOn fed) none k = omega (arith, few_conns, k)
      by_taking may (Ends n content) none k = by_list (asks_for_list (message_of content)) refl
        where
          by_list : (list : Bool) → asks_for_list (message_of content) ≡ list
              → find_cost (length s.connections.all) + (n + 1) + 4 + record_cost may (sizes_in s) (Ends n content)
              ≤ 16 * count_in (show_taken (when_taken (at_moment now s) id piece c (Ends n content)).0) + (plain_allowance + more_for list)
          by_list true e =
              let most = answer_most (asks_for_rows may (message_of content)) (sizes_in s) (length (kept_of content)) in
              omega (arith, few_conns, few_looks s good, k, length-take longest_kept (arguments_of content), most)
          by_list false e =
              let most = plain_record_most (sizes_in s) may n content (plain_of may (message_of content) none e) in
              omega (arith, few_conns, few_looks s good, k, length-take longest_kept (arguments_of content), most)

  gave_few : (m : Option Connection) → gave_cost (length s.connections.all) s.setting.limits.rows m
      ≤ find_cost (length s.connections.all) + given_cost 0 + recount_cost + more_for (option_map_or gives_list m false)
  gave_few None = omega arith
  gave_few (Some c) = by_list (gives_list c) refl
    where
      by_list : (list : Bool) → gives_list c ≡ list → gave_cost (length s.connections.all) s.setting.limits.rows (Some c)
          ≤ find_cost (length s.connections.all) + given_cost 0 + recount_cost + more_for list
      by_list true e = omega (arith, gave_most (length s.connections.all) s.setting.limits.rows (Some c))
      by_list false e = rw e (omega arith)

  event_few : (event : Event) → is_for_change s event ≡ false → event_cost s event ≤ byte_allowance s event + allowance_at s event
  unfolding step bytes longest_reply
  event_few (Open now who) kept = omega arith
  event_few (Bytes now id piece) kept = let few = piece_few now id piece (live_connection id s.connections.all) kept in omega (arith, few)
  event_few (Pending id) kept = omega (arith, few_conns)
  event_few (Gave now id n) kept = let few = gave_few (live_connection id s.connections.all) in omega (arith, few, few_conns)
  event_few (Closed id) kept = omega (arith, few_conns, few_forwards)
  event_few (Datagram now who content) kept = by_list (asks_for_list (message_of content)) refl
    where
      by_list : (list : Bool) → asks_for_list (message_of content) ≡ list → event_cost s (Datagram now who content) ≤ byte_allowance s (Datagram now who content) + (plain_allowance + more_for list)
      by_list true e =
          let few = list_few s good now who content reached in
          let shown = datagram-shown s now who content in
          omega (arith, few, shown)
      by_list false e =
          let few = datagram_few s good now who content kept e in
          let shown = datagram-shown s now who content in
          omega (arith, few, shown)
  event_few NextLost kept = omega (arith, few_conns)
  event_few Unsent kept = omega (arith, few_forwards, unsent-shown s)
  event_few (Sent number) kept = omega (arith, few_forwards)
  event_few (Forward now from message) kept = omega (arith, few_conns, few_forwards, forward-shown s now from message)
  event_few (Expire now) kept = omega (arith, few_conns, few_forwards, expiry-shown s now)
  event_few ZeroStats kept = omega arith

pub events_cost_few : EventsCostFew
events_cost_few = event_few
