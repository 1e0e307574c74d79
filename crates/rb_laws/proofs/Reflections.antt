-- What strangers are sent over UDP is at most twice what came in their names.
use Rattle.std.specs.Prelude.{find}
use Rattle.std.specs.Option.{option_map}
use Rattle.std.specs.List.{sum_by}
use Rattle.std.proofs.Common.{◌≡◌, ◌≤◌, ℕ, ◌+◌, ◌*◌, max, Bool, true, false, cond, Option, Some, None, Result, Ok, Err, List, [], ◌∷◌, ◌++◌, length, drop, refl, ap, ◌∙◌, arith}
use Rattle.std.proofs.lemmas.List.Sums.{sum_by_push}
use Rattle.std.proofs.lemmas.Grind.{common_steps}
use Rattle.rb_xdr.specs.Xdr.{number, opaque}
use Rattle.rb_address.specs.declared.peer.Peer.{Peer}
use Rattle.rb_address.specs.declared.who.Who.{Who}
use Rattle.rb_rpc.specs.declared.call.Verdict.TheVariants as verdicts
use Rattle.rb_rpc.specs.declared.call.Verdict.{Verdict}
use Rattle.rb_rpc.specs.Verdict.{verdict}
use Rattle.rb_rpc.specs.declared.reply.ReplyStatus.TheVariants as replies
use Rattle.rb_rpc.specs.declared.reply.ReplyStatus.{ReplyStatus}
use Rattle.rb_rpc.specs.Replies.{reply_head}
use Rattle.rb_address.specs.declared.caller.Caller.{Caller}
use Rattle.rb_address.specs.declared.caller.Caller.TheVariants.{Tcp, Udp}
use Rattle.rb_rpc.specs.Feeds.{arguments_of}
use Rattle.rb_forward.specs.declared.types.Forward.{Forward as Asked}
use Rattle.rb_forward.specs.declared.types.ForwardEnd as target
use Rattle.rb_forward.specs.declared.types.ForwardEnd.TheVariants.{Passed, Refused, Failed, Dropped}
use Rattle.rb_forward.specs.declared.types.FwdId.{FwdId}
use Rattle.rb_forward.specs.Forwards.{Entry, Forwards, is_unsent, as_sent, change_first as change_entry, sent, can_be_sent, next_entry, with_next_entry, without_first, id_of, ended_by, is_of_connection, counts_for, is_due, outcome_of, reply, due, drop_caller}
use Rattle.rb_forward.proofs.Tables.{all_stay, sum-without}
use Rattle.rb_answers.specs.declared.answers.Answer.{Answer}
use Rattle.rb_answers.specs.declared.answers.Answer.TheVariants as answers
use Rattle.rb_answers.specs.declared.answers.Results.{Results}
use Rattle.rb_answers.specs.declared.answers.Results.TheVariants as results
use Rattle.rb_answers.specs.declared.context.Context.{Context}
use Rattle.rb_answers.specs.Callers.{is_stranger}
use Rattle.rb_answers.specs.Ledger.{Ledger, with_call_noted}
use Rattle.rb_answers.specs.Results.{result_bytes, shown_of}
use Rattle.rb_answers.specs.Answers.{answer}
use Rattle.rb_answers.specs.Forwarding.{forwarded_bytes, noted_end, target_replied, fell_due, caller_dropped, call_sent}
use Rattle.rb_model.specs.declared.message.Message.{Message}
use Rattle.rb_model.specs.declared.message.Message.TheVariants as says
use Rattle.rb_model.specs.declared.types.CoreFault.{CoreFault}
use Rattle.rb_model.specs.declared.types.Taken.{Taken}
use Rattle.rb_model.specs.declared.types.Told.{Told}
use Rattle.rb_model.specs.Calls.{Outcome, Outcome as outcomes, reply_in, longest_reply, longest_for, fitting_reply, success, results_outcome, reply_with, message_with, message_of, refusal, call_of, outcome}
use Rattle.rb_model.specs.State.{State, Connection, at_moment, opening}
use Rattle.rb_model.specs.Connections.{Taking, taking_of, live_connection, is_there}
use Rattle.rb_model.specs.Connections.Taking.{TakesNone, GoesOn, Ends}
use Rattle.rb_model.specs.Losses.{first_due, with_lost, expire_first}
use Rattle.rb_model.specs.Ending.{outcome_of_failure, outcome_of_end, outcome_at_end, tell, tell_end, at_fresh_moment, forward_reply, lost_as, expire_connection, expired_as, expire}
use Rattle.rb_model.specs.Step.{longest_to, sender, Event, Output, context_in, serve, pending, gave, is_too_much, with_reply, datagram, open_connection, bytes, close_connection, sent_call, output_or, show_taken, show_done, show_outcome, show_told, show_end, show_expired, step, run}
use Rattle.rb_model.specs.Step.Event.{Open, Bytes, Pending, Gave, Closed, NextLost, Datagram, Unsent, Sent, Forward, Expire, ZeroStats}
use Rattle.rb_model.specs.Step.Output.{Opened, TooMuch, IsPending, RepliedTo}
use Rattle.rb_model.specs.ChangeLaws.{record_in, record_on}
use Rattle.rb_model.specs.WholeRuns.{total_of}
use Rattle.rb_model.specs.Reflections.{bytes_from, bytes_to, RepliesAreAtMostTwice, StrangersAreSentAtMostTwice}
use Rattle.rb_model.proofs.ReplyHeads.{short_head}
use Rattle.rb_laws.proofs.Entering.{is_forwarded, Entering, serve-enters}
use Rattle.rb_laws.proofs.Entering.Entering.{Same, Begins}
use Rattle.rb_laws.proofs.LedgerSteps.{ledger_from, step-ledger}
use Rattle.rb_laws.proofs.Ledgers.{step-setting}

-- ---- one reply

system-err : (xid : ℕ) → length (reply_head xid replies.SystemErr) ≡ 24
unfolding reply_head number opaque
system-err xid = refl

mismatch : (xid : ℕ) → length (reply_head xid (replies.RpcMismatch 2 2)) ≡ 24
unfolding reply_head number opaque
mismatch xid = refl

fitting-most : (longest xid : ℕ) (whole : List ℕ) → 24 ≤ longest → length (fitting_reply longest xid whole) ≤ longest
unfolding fitting_reply
fitting-most longest xid whole enough = grind (arith, common_steps, system-err xid)

enough : (caller : Caller) → 24 ≤ longest_for caller
unfolding longest_reply
enough (Tcp id who) = omega arith
enough (Udp who longest) = omega arith

success-most : (caller : Caller) (xid : ℕ) (bytes : List ℕ) → length (success caller xid bytes) ≤ longest_for caller
success-most caller xid bytes = fitting-most (longest_for caller) xid (reply_head xid replies.Success ++ bytes) (enough caller)

-- the most that a caller over UDP may be told: its results, or why there are none
abbrev pub most_told : Caller → ℕ
most_told caller = max 32 (longest_for caller)

results-most : (who : Who) (longest count xid : ℕ) (bytes : List ℕ) (given : Results)
    → length (reply_in (results_outcome (Udp who longest) count xid bytes given)) ≤ longest_for (Udp who longest)
results-most who longest count xid bytes (results.Rows list) = success-most (Udp who longest) xid bytes
results-most who longest count xid bytes (results.Value value) = success-most (Udp who longest) xid bytes
results-most who longest count xid bytes results.Statistics = success-most (Udp who longest) xid bytes

message-most : (context : Context) (who : Who) (longest : ℕ) → context.caller ≡ Udp who longest → (message : Message) (arguments : List ℕ) (l : Ledger)
    → length (reply_in (outcome context message arguments l).0) ≤ most_told (Udp who longest)
unfolding outcome
message-most context who longest is says.NoCall arguments l = omega arith
message-most context who longest is (says.Refused head) arguments l = omega (arith, short_head head.xid head.status)
message-most context who longest is (says.Garbage head) arguments l = omega (arith, short_head head.xid replies.GarbageArgs)
message-most context who longest is (says.Asked call) arguments l = by_answer (answer context call arguments (with_call_noted call.head l))
  where
    by_answer : (r : Answer × Ledger) → length (reply_in (reply_with context call.head.xid r).0) ≤ most_told (Udp who longest)
    by_answer (answers.Results given, new) = rw is (let most = results-most who longest (length new.changes) call.head.xid (result_bytes (shown_of new) given) given in omega (arith, most))
    by_answer (answers.Refused status, new) = omega (arith, short_head call.head.xid status)
    by_answer (answers.Forwarded, new) = omega arith
    by_answer (answers.Silent, new) = omega arith

-- the bytes that a message has at least of which this is said
abbrev IsLong : Verdict → ℕ → Type 0
IsLong verdicts.NoCall n = Unit {0}
IsLong (verdicts.RpcMismatch xid) n = 12 ≤ n
IsLong (verdicts.AuthError xid stat) n = 24 ≤ n
IsLong (verdicts.Call head place) n = 24 ≤ n

long-verdict : (bytes : List ℕ) → IsLong (verdict bytes) (length bytes)
unfolding verdict
long-verdict bytes = grind arith

sender-few : (s : State) (who : Who) (content : List ℕ) → s.setting.listener.terms.long_replies ≡ false → is_stranger who ≡ true
    → 12 ≤ length content → longest_for (sender s who content) ≤ 2 * length content
unfolding longest_to longest_reply
sender-few s who content short stranger long = rw (short, stranger) (omega (arith, long))

module _ (context : Context) (who : Who) (longest n : ℕ) (is : context.caller ≡ Udp who longest) (few : 12 ≤ n → longest_for (Udp who longest) ≤ 2 * n) where
  told-twice : (v : Verdict) → IsLong v n → (arguments : List ℕ) (l : Ledger) → length (reply_in (outcome context (message_with v arguments) arguments l).0) ≤ 2 * n
  unfolding outcome
  told-twice verdicts.NoCall long arguments l = omega arith
  told-twice (verdicts.RpcMismatch xid) long arguments l = omega (arith, mismatch xid, long)
  told-twice (verdicts.AuthError xid stat) long arguments l =
      let most = message-most context who longest is (refusal xid (replies.AuthError stat)) arguments l in
      let short = few (omega (arith, long)) in omega (arith, most, long, short)
  told-twice (verdicts.Call head place) long arguments l =
      let most = message-most context who longest is (call_of head arguments) arguments l in
      let short = few (omega (arith, long)) in omega (arith, most, long, short)

pub replies_are_at_most_twice : RepliesAreAtMostTwice
unfolding datagram serve message_of
replies_are_at_most_twice s short now who content stranger =
    told-twice (context_in (at_moment now s) (sender s who content)) who (longest_to s.setting.listener.terms who (length content)) (length content) refl
    (sender-few s who content short stranger) (verdict content) (long-verdict content) (arguments_of content) s.ledger

-- what is forwarded is a call
forwarded-long : (context : Context) (v : Verdict) (n : ℕ) → IsLong v n → (arguments : List ℕ) (l : Ledger)
    → is_forwarded (outcome context (message_with v arguments) arguments l).0 ≡ true → 24 ≤ n
unfolding outcome
forwarded-long context verdicts.NoCall n long arguments l is = absurd cc
forwarded-long context (verdicts.RpcMismatch xid) n long arguments l is = absurd cc
forwarded-long context (verdicts.AuthError xid stat) n long arguments l is = long
forwarded-long context (verdicts.Call head place) n long arguments l is = long

-- what is told at the end of a forwarded call
failure-most : (forward : Asked) (status : ReplyStatus) → length (reply_in (outcome_of_failure forward status)) ≤ 32
failure-most forward status = grind (arith, short_head)

pub end-most : (forward : Asked) (message : List ℕ) (outcome : target.ForwardEnd) → length (reply_in (outcome_of_end forward message outcome)) ≤ most_told forward.caller
end-most forward message (Passed place) = let most = success-most forward.caller forward.xid (forwarded_bytes forward (drop place message)) in omega (arith, most)
end-most forward message (Refused status) = omega (arith, failure-most forward status)
end-most forward message Failed = omega (arith, failure-most forward replies.SystemErr)
end-most forward message Dropped = omega arith

-- ---- what forwarded calls may still be told

module _ (test : Who → Bool) where
  abbrev owed_to : Caller → ℕ
  owed_to (Tcp id who) = 0
  owed_to (Udp who longest) = cond (test who) (most_told (Udp who longest)) 0

  abbrev owed_by : Entry → ℕ
  owed_by e = owed_to e.forward.caller

  abbrev owing : Forwards → ℕ
  owing f = sum_by owed_by f.all

  begun : (clock : ℕ) (forward : Asked) (args : List ℕ) (f : Forwards) → owing (with_next_entry clock forward args f) ≡ owing f + owed_to forward.caller
  unfolding with_next_entry next_entry
  begun clock forward args f = sum_by_push owed_by f.all (next_entry clock forward args f)

  marked : (number : ℕ) (all : List Entry) → sum_by owed_by (change_entry (is_unsent number) as_sent all) ≡ sum_by owed_by all
  marked number [] = grind (arith, common_steps)
  marked number (e ∷ all) = grind (arith, common_steps, marked number all)

  less : (found : Entry → Bool) (all : List Entry) → sum_by owed_by (without_first found all) ≤ sum_by owed_by all
  less found all = by_found (find found all) refl
    where
      by_found : (o : Option Entry) → find found all ≡ o → sum_by owed_by (without_first found all) ≤ sum_by owed_by all
      by_found None e = let same = ap (sum_by owed_by) (all_stay found all e) in omega (arith, same)
      by_found (Some x) e = let one = sum-without found owed_by all x e in omega (arith, one)

  -- ---- outputs

  -- the bytes of a reply at the end of a forwarded call
  abbrev later : Output → ℕ
  later (RepliedTo who told) = cond (test who) (length told) 0
  later output = 0

  abbrev is_datagram : Event → Bool
  is_datagram (Datagram now who content) = true
  is_datagram event = false

  to-later : (event : Event) (output : Output) → is_datagram event ≡ false → bytes_to test event output ≡ later output
  to-later event output not_one = grind arith

  from-none : (event : Event) (output : Output) → is_datagram event ≡ false → bytes_from test event output ≡ 0
  from-none event output not_one = grind arith

  quiet-or : {A : Type 0} (show : A → Output) → ((x : A) → later (show x) ≡ 0) → (r : Result A CoreFault × State) → later (output_or show r).0 ≡ 0
  quiet-or show none (Ok x, u) = none x
  quiet-or show none (Err fault, u) = refl

  taken-quiet : (t : Taken) → later (show_taken t) ≡ 0
  taken-quiet t = grind arith

  either-quiet : (b : Bool) (x y : Output × State) → later x.0 ≡ 0 → later y.0 ≡ 0 → later (cond b x y).0 ≡ 0
  either-quiet true x y left right = left
  either-quiet false x y left right = right

  expired-quiet : (u : State) → later (show_expired (expire_connection u)).0 ≡ 0
  unfolding expire_connection expire_first
  expired-quiet u = by_found (first_due u.clock u.connections)
    where
      by_found : (o : Option ℕ) → later (show_expired (lost_as o, record u { connections = with_lost o u.connections })).0 ≡ 0
      by_found None = refl
      by_found (Some id) = refl

  told-later : (call : FwdId) (caller : Caller) (said : Outcome) (u : State) → length (reply_in said) ≤ most_told caller
      → later (show_told (tell call caller said u).1.reply (tell call caller said u).0) ≤ owed_to caller
  told-later call (Tcp id who) said u most = omega arith
  told-later call (Udp who longest) said u most = by_said said most
    where
      by_test : (b : Bool) (m n : ℕ) → m ≤ n → cond b m 0 ≤ cond b n 0
      by_test true m n le = le
      by_test false m n le = omega arith

      by_said : (x : Outcome) → length (reply_in x) ≤ most_told (Udp who longest)
          → later (show_told (tell call (Udp who longest) x u).1.reply (tell call (Udp who longest) x u).0) ≤ owed_to (Udp who longest)
      by_said (outcomes.Reply told stamp) most = by_test (test who) (length told) (most_told (Udp who longest)) most
      by_said outcomes.NoCall most = omega arith
      by_said outcomes.Forwarded most = omega arith
      by_said outcomes.Silent most = omega arith

  module _ (s : State) where
    abbrev before : Forwards
    before = s.ledger.forwards

    -- the first entry for which the test holds ends so, if there is one
    module _ (now : ℕ) (message : List ℕ) (found : Entry → Bool) (outcome : target.ForwardEnd) where
      abbrev ended : Option Entry → Option Told × State
      ended o = tell_end message (at_fresh_moment now s) (noted_end (option_map (ended_by outcome) o, record before { all = without_first found before.all }) s.ledger)

      end-paid : (o : Option Entry) → find found before.all ≡ o → later (show_end (ended o)).0 + sum_by owed_by (without_first found before.all) ≤ owing before
      end-paid None e = omega (arith, less found before.all)
      end-paid (Some x) e =
          let one = sum-without found owed_by before.all x e in
          let told = told-later (id_of x) x.forward.caller (outcome_at_end message (ended_by outcome x)) (record (at_fresh_moment now s) { ledger = (noted_end (Some (ended_by outcome x), record before { all = without_first found before.all }) s.ledger).1 }) (end-most x.forward message outcome) in
          omega (arith, one, told)

      due-paid : (o : Option Entry) → find found before.all ≡ o → later (show_expired (expired_as (ended o))).0 + sum_by owed_by (without_first found before.all) ≤ owing before
      due-paid None e =
          let quiet = expired-quiet (ended None).1 in omega (arith, less found before.all, quiet)
      due-paid (Some x) e = end-paid (Some x) e

    -- ---- the events

    abbrev left_by : Event → ℕ
    left_by event = owing (step s event).1.ledger.forwards

    -- it may say something to a caller over UDP
    abbrev speaks : Event → Bool
    speaks (Datagram now who content) = true
    speaks (Forward now from message) = true
    speaks (Expire now) = true
    speaks event = false

    others-quiet : (event : Event) → speaks event ≡ false → later (step s event).0 ≡ 0
    unfolding step
    others-quiet (Open now who) is = quiet-or Opened (λ id. refl) (open_connection s now who)
    others-quiet (Bytes now id piece) is = quiet-or show_taken taken-quiet (bytes s now id piece)
    others-quiet (Pending id) is = quiet-or IsPending (λ front. refl) (pending s id, s)
    others-quiet (Gave now id n) is = either-quiet (is_too_much n (pending s id)) (TooMuch, s) (output_or show_done (gave s now id n)) refl (quiet-or show_done (λ u. refl) (gave s now id n))
    others-quiet (Closed id) is = quiet-or show_done (λ u. refl) (close_connection s id)
    others-quiet NextLost is = refl
    others-quiet (Datagram now who content) is = absurd cc
    others-quiet Unsent is = refl
    others-quiet (Sent number) is = quiet-or show_done (λ u. refl) (sent_call s number)
    others-quiet (Forward now from message) is = absurd cc
    others-quiet (Expire now) is = absurd cc
    others-quiet ZeroStats is = refl

    -- a record on a connection is answered
    record-left : (now id : ℕ) (who : Who) (content : List ℕ)
        → owing (outcome (context_in (at_moment now s) (Tcp id who)) (message_of content) (arguments_of content) s.ledger).1.forwards ≡ owing before
    unfolding serve
    record-left now id who content = by_entering (serve-enters (at_moment now s) (Tcp id who) content)
      where
        by_entering : Entering (context_in (at_moment now s) (Tcp id who)) before (serve (at_moment now s) (Tcp id who) content).1.ledger.forwards (is_forwarded (serve (at_moment now s) (Tcp id who) content).0)
            → owing (serve (at_moment now s) (Tcp id who) content).1.ledger.forwards ≡ owing before
        by_entering (Same e same) = ap owing same
        by_entering (Begins e forward args by can more) =
            let one = begun (max s.clock now) forward args before in
            let none : owed_to forward.caller ≡ 0 = ap owed_to by in
            let is = ap owing more in
            omega (arith, one, none, is)

    bytes-left : (now id : ℕ) (piece : List ℕ) (o : Option Connection) → owing (ledger_from s (record_on now id piece o)).forwards ≡ owing before
    bytes-left now id piece None = refl
    bytes-left now id piece (Some c) = by_taking (taking_of c.phase piece)
      where
        by_taking : (t : Taking) → owing (ledger_from s (record_in now id c.who t)).forwards ≡ owing before
        by_taking TakesNone = refl
        by_taking (GoesOn fed) = refl
        by_taking (Ends n content) = record-left now id c.who content

    closed-left : (id : ℕ) (b : Bool) → owing (cond b (caller_dropped id s.ledger).1 s.ledger).forwards ≤ owing before
    unfolding caller_dropped drop_caller
    closed-left id true = less (is_of_connection id) before.all
    closed-left id false = omega arith

    sent-left : (number : ℕ) (b : Bool) → owing (cond b (call_sent number s.ledger) s.ledger).forwards ≡ owing before
    unfolding call_sent sent
    sent-left number true = marked number before.all
    sent-left number false = refl

    module _ (short : s.setting.listener.terms.long_replies ≡ false) (strangers : (who : Who) → test who ≡ true → is_stranger who ≡ true) where
      module _ (now : ℕ) (who : Who) (content : List ℕ) where
        abbrev n : ℕ
        n = length content

        abbrev brought : ℕ
        brought = cond (test who) n 0

        same-paid : (told new : ℕ) → new ≡ owing before → (test who ≡ true → told ≤ 2 * n) → cond (test who) told 0 + new ≤ owing before + 2 * brought
        same-paid told new same most = by_test (test who) refl
          where
            by_test : (b : Bool) → test who ≡ b → cond b told 0 + new ≤ owing before + 2 * cond b n 0
            by_test true e = let few = most e in omega (arith, few, same)
            by_test false e = omega (arith, same)

        begun-paid : (new : ℕ) (forward : Asked) → forward.caller ≡ sender s who content → new ≡ owing before + owed_to forward.caller → 24 ≤ n → new ≤ owing before + 2 * brought
        begun-paid new forward by more long = by_test (test who) refl
          where
            by_test : (b : Bool) → test who ≡ b → new ≤ owing before + 2 * cond b n 0
            by_test true e =
                let few = sender-few s who content short (strangers who e) (omega (arith, long)) in
                let owed : owed_to forward.caller ≡ most_told (sender s who content) = ap owed_to by ∙ ap (λ (b : Bool). cond b (most_told (sender s who content)) 0) e in
                omega (arith, few, owed, more, long)
            by_test false e =
                let owed : owed_to forward.caller ≡ 0 = ap owed_to by ∙ ap (λ (b : Bool). cond b (most_told (sender s who content)) 0) e in
                omega (arith, owed, more)

        abbrev Context_then : Context
        Context_then = context_in (at_moment now s) (sender s who content)

        paid : (said : Outcome) (t : State) → Entering Context_then before t.ledger.forwards (is_forwarded said) → (test who ≡ true → length (reply_in said) ≤ 2 * n) → (is_forwarded said ≡ true → 24 ≤ n)
            → bytes_to test (Datagram now who content) (show_outcome (with_reply (said, t))).0 + owing (show_outcome (with_reply (said, t))).1.ledger.forwards ≤ owing before + 2 * brought
        paid outcomes.NoCall t (Same e same) most long = let is = ap owing same in omega (arith, is)
        paid outcomes.NoCall t (Begins e forward args by can more) most long = absurd cc
        paid (outcomes.Reply told stamp) t (Same e same) most long = same-paid (length told) (owing t.ledger.forwards) (ap owing same) most
        paid (outcomes.Reply told stamp) t (Begins e forward args by can more) most long = absurd cc
        paid outcomes.Forwarded t (Same e same) most long = absurd cc
        paid outcomes.Forwarded t (Begins e forward args by can more) most long =
            let one = begun-paid (owing t.ledger.forwards) forward by (ap owing more ∙ begun (max s.clock now) forward args before) (long refl) in omega (arith, one)
        paid outcomes.Silent t (Same e same) most long = let is = ap owing same in omega (arith, is)
        paid outcomes.Silent t (Begins e forward args by can more) most long = absurd cc

        datagram-paid : bytes_to test (Datagram now who content) (step s (Datagram now who content)).0 + left_by (Datagram now who content) ≤ owing before + 2 * brought
        unfolding step datagram serve message_of
        datagram-paid =
            paid (serve (at_moment now s) (sender s who content) content).0 (serve (at_moment now s) (sender s who content) content).1 (serve-enters (at_moment now s) (sender s who content) content)
            (λ e. replies_are_at_most_twice s short now who content (strangers who e))
            (forwarded-long Context_then (verdict content) n (long-verdict content) (arguments_of content) s.ledger)

      forward-paid : (now : ℕ) (from : Peer) (message : List ℕ) → later (step s (Forward now from message)).0 + left_by (Forward now from message) ≤ owing before
      unfolding step forward_reply target_replied reply
      forward-paid now from message =
          let found : Entry → Bool = counts_for s.setting.first_xid (max s.clock now) from message in
          let left = ap (λ (l : Ledger). owing l.forwards) (step-ledger s (Forward now from message)) in
          let one = end-paid now message found (outcome_of message) (find found before.all) refl in
          omega (arith, left, one)

      expire-paid : (now : ℕ) → later (step s (Expire now)).0 + left_by (Expire now) ≤ owing before
      unfolding step expire fell_due due
      expire-paid now =
          let found : Entry → Bool = is_due (max s.clock now) in
          let left = ap (λ (l : Ledger). owing l.forwards) (step-ledger s (Expire now)) in
          let one = due-paid now [] found Failed (find found before.all) refl in
          omega (arith, left, one)

      other-paid : (event : Event) → speaks event ≡ false → left_by event ≤ owing before
      other-paid (Open now who) is = let left = ap (λ (l : Ledger). owing l.forwards) (step-ledger s (Open now who)) in omega (arith, left)
      other-paid (Bytes now id piece) is =
          let left = ap (λ (l : Ledger). owing l.forwards) (step-ledger s (Bytes now id piece)) in
          let one = bytes-left now id piece (live_connection id s.connections.all) in omega (arith, left, one)
      other-paid (Pending id) is = let left = ap (λ (l : Ledger). owing l.forwards) (step-ledger s (Pending id)) in omega (arith, left)
      other-paid (Gave now id n) is = let left = ap (λ (l : Ledger). owing l.forwards) (step-ledger s (Gave now id n)) in omega (arith, left)
      other-paid (Closed id) is =
          let left = ap (λ (l : Ledger). owing l.forwards) (step-ledger s (Closed id)) in
          let one = closed-left id (is_there id s.connections) in omega (arith, left, one)
      other-paid NextLost is = let left = ap (λ (l : Ledger). owing l.forwards) (step-ledger s NextLost) in omega (arith, left)
      other-paid (Datagram now who content) is = absurd cc
      other-paid Unsent is = let left = ap (λ (l : Ledger). owing l.forwards) (step-ledger s Unsent) in omega (arith, left)
      other-paid (Sent number) is =
          let left = ap (λ (l : Ledger). owing l.forwards) (step-ledger s (Sent number)) in
          let one = sent-left number (can_be_sent number s.ledger.forwards) in omega (arith, left, one)
      other-paid (Forward now from message) is = absurd cc
      other-paid (Expire now) is = absurd cc
      other-paid ZeroStats is = let left = ap (λ (l : Ledger). owing l.forwards) (step-ledger s ZeroStats) in omega (arith, left)

      abbrev IsPaid : Event → Type 0
      IsPaid event = bytes_to test event (step s event).0 + left_by event ≤ owing before + 2 * bytes_from test event (step s event).0

      later-paid : (event : Event) → is_datagram event ≡ false → later (step s event).0 + left_by event ≤ owing before → IsPaid event
      later-paid event is one = omega (arith, to-later event (step s event).0 is, from-none event (step s event).0 is, one)

      quiet-paid : (event : Event) → is_datagram event ≡ false → speaks event ≡ false → IsPaid event
      quiet-paid event is quiet = let none = others-quiet event quiet in let one = other-paid event quiet in later-paid event is (omega (arith, none, one))

      event-paid : (event : Event) → IsPaid event
      event-paid (Datagram now who content) = datagram-paid now who content
      event-paid (Forward now from message) = later-paid (Forward now from message) refl (forward-paid now from message)
      event-paid (Expire now) = later-paid (Expire now) refl (expire-paid now)
      event-paid (Open now who) = quiet-paid (Open now who) refl refl
      event-paid (Bytes now id piece) = quiet-paid (Bytes now id piece) refl refl
      event-paid (Pending id) = quiet-paid (Pending id) refl refl
      event-paid (Gave now id n) = quiet-paid (Gave now id n) refl refl
      event-paid (Closed id) = quiet-paid (Closed id) refl refl
      event-paid NextLost = quiet-paid NextLost refl refl
      event-paid Unsent = quiet-paid Unsent refl refl
      event-paid (Sent number) = quiet-paid (Sent number) refl refl
      event-paid ZeroStats = quiet-paid ZeroStats refl refl

  -- ---- runs

  run-paid : (s : State) → s.setting.listener.terms.long_replies ≡ false → ((who : Who) → test who ≡ true → is_stranger who ≡ true) → (events : List Event)
      → total_of (bytes_to test) events (run s events) ≤ owing s.ledger.forwards + 2 * total_of (bytes_from test) events (run s events)
  run-paid s short strangers [] = omega arith
  run-paid s short strangers (event ∷ events) =
      let one = event-paid s short strangers event in
      let rest = run-paid (step s event).1 (rw (step-setting s event) short) strangers events in
      omega (arith, one, rest)

pub strangers_are_sent_at_most_twice : StrangersAreSentAtMostTwice
strangers_are_sent_at_most_twice limits listener first_xid now events test short strangers =
    let all = run-paid test (opening limits listener first_xid now) short strangers events in omega (arith, all)
