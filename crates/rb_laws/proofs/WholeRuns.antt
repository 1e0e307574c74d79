-- What a whole run takes is within its bound.
use Rattle.std.proofs.Common.{◌≡◌, ◌≤◌, ◌<◌, ℕ, ◌+◌, ◌-◌, ◌*◌, Bool, Option, Some, None, List, [], ◌∷◌, ◌++◌, length, take, refl, ap, subst, ◌∙◌, arith, true}
use Rattle.std.proofs.lemmas.List.{length-take}
use Rattle.std.proofs.Math.Seq.{take-append-add}
use Rattle.std.proofs.lemmas.Grind.{common_steps}
use Rattle.rb_rpc.specs.Verdict.{verdict}
use Rattle.rb_rpc.specs.Records.{first_record, data_of}
use Rattle.rb_rpc.proofs.RecordCuts.{ends_later}
use Rattle.rb_xdr.specs.Ordered.{looks}
use Rattle.rb_rpc.specs.Feeds.{arguments_of}
use Rattle.rb_answers.specs.Callers.{may_register}
use Rattle.rb_model.specs.Calls.{longest_reply, longest_kept, kept_of, message_of}
use Rattle.rb_model.specs.State.{Setting, State, Phase, Connection, at_moment, are_good}
use Rattle.rb_model.specs.Connections.{Taking, taking_of, fed_in, taking_up_to, live_connection, keep_reading}
use Rattle.rb_model.specs.Connections.Taking.{TakesNone, GoesOn, Ends}
use Rattle.rb_model.specs.Step.{Event, Output, with_count, when_taken, bytes_to, bytes, output_or, show_taken, step, run, after, IsReached}
use Rattle.rb_model.specs.Step.Event.{Open, Bytes, Pending, Gave, Closed, NextLost, Datagram, Unsent, Sent, Forward, Expire, ZeroStats}
use Rattle.rb_model.specs.Bounds.{count_in, bytes_in, bytes_out}
use Rattle.rb_model.specs.Costs.{sizes_in, asks_for_rows, sizes_for, answer_cost, count_taken, record_cost, bytes_cost, find_cost, event_cost, run_cost}
use Rattle.rb_model.specs.WholeRuns.{args_in, args_waiting, total_of, total_in, total_out, bytes_reported, event_allowance, EventsArePaidAhead, WholeRunsAreBounded}
use Rattle.rb_model.specs.Losses.{stamp_in}
use Rattle.rb_model.proofs.CostBounds.{answer_most, gave_most}
use Rattle.rb_laws.proofs.ExactTaking.{fed-none}
use Rattle.rb_laws.proofs.Reached.{live-sound}
use Rattle.rb_laws.proofs.Ledgers.{step-setting}
use Rattle.rb_laws.proofs.KeptLengths.{kept_few}
use Rattle.rb_laws.proofs.RepliesShown.{unsent-shown, datagram-shown, forward-shown, expiry-shown}
use Rattle.rb_laws.proofs.StepBounds.{taken-counts, reached-step, conns_few, rows_looks, datagram_most, shows}
use Rattle.rb_laws.proofs.Waiting.{waiting, found-waiting, answering-waits, open-waits, give-waits, pending-waits, close-waits, datagram-waits, send-waits, forward-waits, expiry-waits, zero-waits}

-- ---- a piece that is taken

none_kept : length (kept_of (data_of [])) ≤ 0
unfolding data_of arguments_of verdict
none_kept = omega (arith, length-take longest_kept (arguments_of (data_of [])))

-- after bytes that are fed
fed_args : (p : Phase) (fed : List ℕ) → fed_in p ≡ Some fed → length (kept_of (data_of fed)) ≤ args_in p
fed_args p fed is = grind (arith, common_steps, none_kept)

-- What a connection has after a piece, and what it read, is within what it had and what was taken.
abbrev IsWithin : Phase → List ℕ → Taking → Type 0
IsWithin p piece TakesNone = Unit {0}
IsWithin p piece (GoesOn fed) = length (kept_of (data_of fed)) ≤ args_in p + length piece
IsWithin p piece (Ends n content) = length (kept_of content) ≤ args_in p + n

up_to : (p : Phase) (fed piece : List ℕ) → fed_in p ≡ Some fed → first_record fed ≡ None → (r : Option ℕ) → first_record (fed ++ piece) ≡ r → IsWithin p piece (taking_up_to fed piece r)
up_to p fed piece is none None e = let few = kept_few fed piece in let had = fed_args p fed is in omega (arith, few, had)
up_to p fed piece is none (Some m) e =
    let later : length fed < m = ends_later fed piece m none e in
    let n : ℕ = m - length fed in
    let size : m ≡ length fed + n = omega (arith, later) in
    let front : take m (fed ++ piece) ≡ fed ++ take n piece = ap (λ (k : ℕ). take k (fed ++ piece)) size ∙ take-append-add fed piece n in
    let few = kept_few fed (take n piece) in
    let had = fed_args p fed is in
    let same : length (kept_of (data_of (take m (fed ++ piece)))) ≡ length (kept_of (data_of (fed ++ take n piece))) = ap (λ (xs : List ℕ). length (kept_of (data_of xs))) front in
    omega (arith, few, had, same, length-take n piece)

taken_within : (p : Phase) (piece : List ℕ) → ((fed : List ℕ) → fed_in p ≡ Some fed → first_record fed ≡ None) → IsWithin p piece (taking_of p piece)
unfolding taking_of
taken_within p piece sound = grind (arith, common_steps, up_to p)

-- what takes bytes has no list
no_list : (p : Phase) (piece : List ℕ) (n : ℕ) (content : List ℕ) → taking_of p piece ≡ Ends n content → stamp_in p ≡ None
unfolding taking_of
no_list p piece n content e = grind arith

read_args : (clock : ℕ) (fed : List ℕ) (c : Connection) → args_in (keep_reading clock fed c).phase ≡ length (kept_of (data_of fed))
unfolding keep_reading
read_args clock fed c = refl

counted : (n : ℕ) (r : Bool × State) → waiting (with_count n r).1 ≡ waiting r.1
counted n (lost, u) = refl

module _ (s : State) (reached : IsReached s) (good : are_good s.setting.limits s.setting.listener ≡ true) where
  few : length s.connections.all ≤ s.setting.limits.conns
  few = conns_few s reached good

  few_looks : looks s.setting.limits.rows ≤ s.setting.limits.rows
  few_looks = rows_looks s reached good

  module _ (now id : ℕ) (piece : List ℕ) where
    -- a record costs no more than one that asks for rows
    ended_most : (may : Bool) (content : List ℕ) → answer_cost (sizes_for may (message_of content) (sizes_in s)) (length (kept_of content)) ≤ answer_cost (sizes_in s) (length (kept_of content))
    ended_most may content = answer_most (asks_for_rows may (message_of content)) (sizes_in s) (length (kept_of content))

    -- by the connection that there is, and two steps more
    abbrev IsPaid : Option Connection → Type 0
    IsPaid m =
        let end : Output × State = output_or show_taken (bytes_to s now id piece m) in
        bytes_cost s.setting.listener.announced (sizes_in s) piece m + 2 + 2 * waiting end.1 ≤ 2 * waiting s + 16 * count_in end.0 + event_allowance s.setting.limits

    piece_paid : (m : Option Connection) → live_connection id s.connections.all ≡ m → IsPaid m
    unfolding live_connection longest_reply
    piece_paid None e = omega (arith, few)
    piece_paid (Some c) e =
        by_taking (taking_of c.phase piece) refl (taken_within c.phase piece (λ fed is. fed-none c.phase (live-sound s reached id c e) fed is))
        (shows s reached good now id piece (when_taken (at_moment now s) id piece c (taking_of c.phase piece)).0 ∙ taken-counts (at_moment now s) id piece c (taking_of c.phase piece))
      where
        by_taking : (t : Taking) → taking_of c.phase piece ≡ t → IsWithin c.phase piece t → count_in (show_taken (when_taken (at_moment now s) id piece c t).0) ≡ count_taken piece t
            → find_cost (length s.connections.all) + (count_taken piece t + 1) + 4 + record_cost (may_register s.setting.listener.announced c.who) (sizes_in s) t + 2 + 2 * waiting (when_taken (at_moment now s) id piece c t).1
            ≤ 2 * waiting s + 16 * count_in (show_taken (when_taken (at_moment now s) id piece c t).0) + event_allowance s.setting.limits
        by_taking bb is within k = grind (arith, common_steps, few, few_looks, ended_most, found-waiting, read_args, answering-waits, no_list, counted)

    -- with the look whether the reply can be given at once
    pub bytes_paid : event_cost s (Bytes now id piece) + 2 + 2 * args_waiting (step s (Bytes now id piece)).1.connections.all
        ≤ 2 * args_waiting s.connections.all + 16 * count_in (step s (Bytes now id piece)).0 + event_allowance s.setting.limits
    unfolding step bytes
    bytes_paid = piece_paid (live_connection id s.connections.all) refl

  -- ---- every event

  event_paid : (event : Event) → event_cost s event + 2 * args_waiting (step s event).1.connections.all
      ≤ 2 * args_waiting s.connections.all + 16 * (bytes_in event (step s event).0 + bytes_out event (step s event).0) + event_allowance s.setting.limits
  unfolding step bytes longest_reply
  event_paid (Open now who) = let kept = open-waits s now who in omega (arith, kept)
  event_paid (Bytes now id piece) = let paid = piece_paid now id piece (live_connection id s.connections.all) refl in omega (arith, paid)
  event_paid (Pending id) = let kept = pending-waits s id in omega (arith, few, kept)
  event_paid (Gave now id n) = let kept = give-waits s now id n in let most = gave_most (length s.connections.all) s.setting.limits.rows (live_connection id s.connections.all) in omega (arith, few, kept, most)
  event_paid (Closed id) = let kept = close-waits s id in omega (arith, few, kept)
  event_paid NextLost = omega (arith, few)
  event_paid (Datagram now who content) = let kept = datagram-waits s now who content in let shown = datagram-shown s now who content in let most = datagram_most s reached good (may_register s.setting.listener.announced who) content (length content) (length (step s (Datagram now who content)).1.reply) in omega (arith, few, few_looks, kept, shown, most)
  event_paid Unsent = let lent = unsent-shown s in omega (arith, lent)
  event_paid (Sent number) = let kept = send-waits s number in omega (arith, kept)
  event_paid (Forward now from message) = let kept = forward-waits s now from message in let shown = forward-shown s now from message in omega (arith, few, kept, shown)
  event_paid (Expire now) = let kept = expiry-waits s now in let shown = expiry-shown s now in omega (arith, few, kept, shown)
  event_paid ZeroStats = let kept = zero-waits s in omega (arith, kept)

-- what is told of a refused call counts as well
out_told : (event : Event) (output : Output) → bytes_out event output ≤ bytes_reported event output
out_told event output = grind arith

pub events_are_paid_ahead : EventsArePaidAhead
events_are_paid_ahead s reached good event = grind (arith, common_steps, event_paid, out_told)

-- ---- runs

-- the sum over events after others
pub total-append : (number : Event → Output → ℕ) (s : State) (xs ys : List Event) → total_of number (xs ++ ys) (run s (xs ++ ys)) ≡ total_of number xs (run s xs) + total_of number ys (run (after s xs) ys)
total-append number s [] ys = omega arith
total-append number s (x ∷ xs) ys = let rest = total-append number (step s x).1 xs ys in omega (arith, rest)

pub paid_ahead : (s : State) → IsReached s → are_good s.setting.limits s.setting.listener ≡ true → (events : List Event)
    → run_cost s events + 2 * waiting (after s events)
    ≤ 2 * waiting s + 16 * (total_in events (run s events) + total_out events (run s events)) + length events * event_allowance s.setting.limits
paid_ahead s reached good [] = omega arith
paid_ahead s reached good (event ∷ events) =
    let next : State = (step s event).1 in
    let one = events_are_paid_ahead s reached good event in
    let there = paid_ahead next (reached-step s reached event) (rw (step-setting s event) good) events in
    let rest : run_cost next events + 2 * waiting (after next events)
    ≤ 2 * waiting next + 16 * (total_in events (run next events) + total_out events (run next events)) + length events * event_allowance s.setting.limits =
    subst (λ (x : Setting). run_cost next events + 2 * waiting (after next events)
    ≤ 2 * waiting next + 16 * (total_in events (run next events) + total_out events (run next events)) + length events * event_allowance x.limits) (step-setting s event) there in
    omega (arith, one, rest)

pub whole_runs_are_bounded : WholeRunsAreBounded
whole_runs_are_bounded s reached good events = let whole = paid_ahead s reached good events in omega (arith, whole)
