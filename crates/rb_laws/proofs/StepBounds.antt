-- What an event costs is within the bound on its steps.
use Rattle.std.proofs.Common.{◌≡◌, ℕ, Bool, List, length, refl, ◌≤◌, ◌+◌, true, false, cond, Option, Some, None, [], ◌∷◌, ◌++◌, sym, ap, ◌∙◌, arith}
use Rattle.std.proofs.lemmas.List.{length-take}
use Rattle.rb_xdr.specs.Ordered.{looks}
use Rattle.rb_rpc.specs.Feeds.{arguments_of}
use Rattle.rb_arguments.specs.Forwarded.{longest_forwarded as longest_args}
use Rattle.rb_answers.specs.Callers.{may_register}
use Rattle.rb_model.specs.State.{State, Connection, at_moment, opening, are_good}
use Rattle.rb_model.specs.Connections.{Taking, taking_of, live_connection}
use Rattle.rb_model.specs.Connections.Taking.{TakesNone, GoesOn, Ends}
use Rattle.rb_model.specs.Step.{when_taken, Event, Output, bytes_to, bytes, output_or, show_taken, step, after, IsReached}
use Rattle.rb_model.specs.Step.Event.{Open, Bytes, Pending, Gave, Closed, NextLost, Datagram, Unsent, Sent, Forward, Expire, ZeroStats}
use Rattle.rb_model.specs.declared.types.Taken.{Taken}
use Rattle.rb_model.specs.Costs.{sizes_in, asks_for_rows, sizes_for, datagram_cost, count_taken, record_cost, bytes_cost, find_cost, event_cost}
use Rattle.rb_model.specs.Calls.{longest_reply, longest_kept, kept_of, message_of}
use Rattle.rb_model.specs.Bounds.{count_in, steps_bound, bound_at}
use Rattle.rb_model.specs.BoundLaws.{StepsAreBounded, RunsAreBounded}
use Rattle.rb_model.proofs.CostBounds.{looks_few, message_most, answer_most, gave_most}
use Rattle.rb_laws.proofs.Ledgers.{step-setting}
use Rattle.rb_laws.proofs.Room.{reached-room}
use Rattle.rb_laws.proofs.RunLaws.{after-append}
use Rattle.rb_laws.proofs.RepliesShown.{unsent-shown, datagram-shown, forward-shown, expiry-shown}

-- ---- a piece of bytes

-- this many of its bytes are taken
pub taken-counts : (s : State) (id : ℕ) (piece : List ℕ) (c : Connection) (t : Taking) → (when_taken s id piece c t).0.count ≡ count_taken piece t
taken-counts s id piece c t = grind arith

-- an event more
pub reached-step : (s : State) → IsReached s → (event : Event) → IsReached (step s event).1
reached-step s r event =
    let start : State = opening r.limits r.listener r.first_xid r.now in
    let is : (step s event).1 ≡ after start (r.events ++ event ∷ []) = ap (λ (t : State). (step t event).1) r.is ∙ sym (after-append start r.events (event ∷ [])) in
    record { limits = r.limits; listener = r.listener; first_xid = r.first_xid; now = r.now; events = r.events ++ event ∷ []; is = is }

module _ (s : State) (reached : IsReached s) (good : are_good s.setting.limits s.setting.listener ≡ true) where
  pub conns_few : length s.connections.all ≤ s.setting.limits.conns
  conns_few = reached-room s reached

  -- a search takes no more looks than there may be rows
  pub rows_looks : looks s.setting.limits.rows ≤ s.setting.limits.rows
  rows_looks = looks_few s.setting.limits.rows

  -- a message costs no more than one that asks for rows
  pub datagram_most : (may : Bool) (content : List ℕ) (count written : ℕ) → datagram_cost (sizes_for may (message_of content) (sizes_in s)) count written ≤ datagram_cost (sizes_in s) count written
  datagram_most may content count written = let most = message_most (asks_for_rows may (message_of content)) (sizes_in s) count written in omega (arith, most)

  -- ---- a piece of bytes

  module _ (now id : ℕ) (piece : List ℕ) where
    pub shows : (t : Taken) → count_in (show_taken t) ≡ t.count
    shows t = elim t.lost as (λ b. count_in (cond b (Output.TookAndLost t.count) (Output.Took t.count)) ≡ t.count) [ true ↦ refl | false ↦ refl ]

    piece_within : (m : Option Connection) → live_connection id s.connections.all ≡ m
        → bytes_cost s.setting.listener.announced (sizes_in s) piece m ≤ steps_bound s.setting.limits (count_in (output_or show_taken (bytes_to s now id piece m)).0) 0
    unfolding longest_reply longest_kept longest_args
    piece_within None e = omega (arith, conns_few)
    piece_within (Some c) e = by_taking (may_register s.setting.listener.announced c.who) (taking_of c.phase piece) (shows (when_taken (at_moment now s) id piece c (taking_of c.phase piece)).0 ∙ taken-counts (at_moment now s) id piece c (taking_of c.phase piece))
      where
        by_taking : (may : Bool) (t : Taking) → count_in (show_taken (when_taken (at_moment now s) id piece c t).0) ≡ count_taken piece t
            → find_cost (length s.connections.all) + (count_taken piece t + 1) + 4 + record_cost may (sizes_in s) t ≤ steps_bound s.setting.limits (count_in (show_taken (when_taken (at_moment now s) id piece c t).0)) 0
        by_taking may TakesNone k = omega (arith, conns_few, k)
        by_taking may (GoesOn fed) k = omega (arith, conns_few, k)
        by_taking may (Ends n content) k =
            let most = answer_most (asks_for_rows may (message_of content)) (sizes_in s) (length (kept_of content)) in
            omega (arith, conns_few, rows_looks, k, length-take longest_kept (arguments_of content), most)

  -- ---- every event

  event_within : (event : Event) → event_cost s event ≤ bound_at s event
  unfolding longest_reply longest_kept longest_args step bytes
  event_within (Open now who) = omega arith
  event_within (Bytes now id piece) = let within = piece_within now id piece (live_connection id s.connections.all) refl in omega (arith, within)
  event_within (Pending id) = omega (arith, conns_few)
  event_within (Gave now id n) = let most = gave_most (length s.connections.all) s.setting.limits.rows (live_connection id s.connections.all) in omega (arith, conns_few, most)
  event_within (Closed id) = omega (arith, conns_few)
  event_within NextLost = omega (arith, conns_few)
  event_within (Datagram now who content) =
      let most = datagram_most (may_register s.setting.listener.announced who) content (length content) (length (step s (Datagram now who content)).1.reply) in
      omega (arith, conns_few, rows_looks, most, datagram-shown s now who content)
  event_within Unsent = omega (arith, unsent-shown s)
  event_within (Sent number) = omega arith
  event_within (Forward now from message) = omega (arith, conns_few, forward-shown s now from message)
  event_within (Expire now) = omega (arith, conns_few, expiry-shown s now)
  event_within ZeroStats = omega arith

pub steps_are_bounded : StepsAreBounded
steps_are_bounded s reached good event = event_within s reached good event

pub runs_are_bounded : RunsAreBounded
runs_are_bounded s reached good [] = omega arith
runs_are_bounded s reached good (event ∷ events) =
    let one = steps_are_bounded s reached good event in
    let rest = runs_are_bounded (step s event).1 (reached-step s reached event) (rw (step-setting s event) good) events in
    omega (arith, one, rest)

-- ---- what is held after a run

pub reached-after : (s : State) (events : List Event) → IsReached s → IsReached (after s events)
reached-after s [] reached = reached
reached-after s (event ∷ events) reached = reached-after (step s event).1 events (reached-step s reached event)
