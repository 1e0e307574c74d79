-- What holds of the daemon's core between two events, and what its calls answer.
use Rattle.std.specs.List.{AllByRecursion}
use Rattle.std.specs.Prelude.{◌≡◌, ℕ, ◌==◌, Bool, true, not, List, [], ◌∷◌, length, Option, Some, None}
use Rattle.rb_address.specs.declared.peer.Peer.{Peer}
use Rattle.rb_address.specs.declared.who.Who.{Who}
use Rattle.rb_registry.specs.declared.row.Row.{Row}
use Rattle.rb_forward.specs.Forwards.{Unsent}
use Rattle.rb_answers.specs.Ledger.{rows_in}
use Rattle.rb_model.specs.State.{State, are_good}
use Rattle.rb_model.specs.declared.types.Told.TheVariants.{TcpReady, Datagram, Silent}
use Rattle.rb_model.specs.declared.types.Expired.TheVariants.{Nothing as NothingDue, Ended, ConnectionLost}
use Rattle.rb_model.specs.declared.types.Told.{Told}
use Rattle.rb_model.specs.declared.types.Expired.{Expired}
use Rattle.rb_model.specs.Ending.{forward_reply, expire}
use Rattle.rb_model.specs.Calls.{Outcome}
use Rattle.rb_model.specs.Calls.Outcome.{NoCall, Reply, Forwarded, Silent as SilentCall}
use Rattle.rb_model.specs.Step.{datagram, unsent_call, sent_call, zero_stats, after, IsReached}
use Rattle.rb_model.specs.ChangeLaws.{this_machine, set_bytes, set_calls}
use Rattle.rb_lines.specs.Tapes.{Tape}
use Rattle.rb_core.specs.StandsFor.{CoreView, StandsFor}
use Rattle.rb_core.specs.HeldBytes.{IsListener}
use Rattle.rb_lines.specs.RecordLaws.{HasLine}
use Rattle.rb_lines.specs.Starts.{MeetsLaws}
use Rattle.rb_engine.specs.declared.engine.Answer.{Answer}
use Rattle.rb_engine.specs.declared.engine.Answer.TheVariants as answers
use Rattle.rb_engine.specs.declared.engine.Due.{Due}
use Rattle.rb_engine.specs.Recording.{HasRecorded}
use Rattle.rb_engine.specs.declared.engine.Due.TheVariants as dues

-- The core stands for a state that a run of events reaches from an opening, and the tape is a record of that run. Its limits
-- are good, its listener has a port of 16 bits and a short path, each of its events has a line, and it began as laws presuppose.
-- EVENT-1: Each event happens at the moment of its turn, and is one step of the model.
pub record IsServed (core : CoreView) (tape : Tape) : Type 0 where
  pub state : State
  pub stands : StandsFor core state
  pub reached : IsReached state
  pub good : are_good state.setting.limits state.setting.listener ≡ true
  pub listener : IsListener state.setting.listener
  pub lines : AllByRecursion HasLine reached.events
  pub begins : MeetsLaws state.setting.listener tape.limit
  pub recorded : HasRecorded reached tape

-- ---- datagrams

-- what is done about it: a reply is sent, or the call is forwarded
abbrev pub answer_of : Outcome → Answer
answer_of NoCall = answers.Nothing
answer_of (Reply bytes stamp) = answers.Reply
answer_of Forwarded = answers.Forwarded
answer_of SilentCall = answers.Nothing

abbrev pub answered : Outcome × State → Answer × State
answered (outcome, s) = (answer_of outcome, s)

-- a datagram came from a caller
abbrev pub answer_datagram : Who → List ℕ → State → ℕ → Answer × State
answer_datagram who content s now = answered (datagram s now who content)

-- ---- rows that were kept

-- how many changes of rows were accepted
abbrev pub change_count : State → ℕ
change_count s = length s.ledger.changes

-- how many rows are set, the daemon's own among them
abbrev pub row_count : State → ℕ
row_count s = length (rows_in s.ledger)

-- one more change was accepted
abbrev pub has_changed : State → State → Bool
has_changed before later = not (change_count before == change_count later)

-- A row is set again by the call that sets it; and whether it is set.
abbrev pub set_again : Row → State → ℕ → Bool × State
set_again row s now = let later : State = (datagram s now this_machine (set_bytes row)).1 in (has_changed s later, later)

-- The state after kept rows were set again, one after another, each by the call that sets it; then statistics begin anew, if
-- there were some.
-- KEEP-1 KEEP-7
abbrev pub with_rows_again : List Row → State → ℕ → State
with_rows_again [] s now = s
with_rows_again (row ∷ rows) s now = zero_stats (after s (set_calls now (row ∷ rows)))

-- ---- forwarded calls

-- the connection that goes on
abbrev pub ready_of : Told → Option ℕ
ready_of (TcpReady id) = Some id
ready_of (Datagram call who) = None
ready_of (Silent call) = None

abbrev pub ready_after : Option Told × State → Option ℕ × State
ready_after (None, s) = (None, s)
ready_after (Some told, s) = (ready_of told, s)

-- a datagram came where forwarded calls are sent from
-- SEND-2: The reply to a forwarded call goes to the core at the moment of the turn, and on to the
-- caller: over UDP from the socket that it called; a connection is served again.
abbrev pub take_forward_reply : Peer → List ℕ → State → ℕ → Option ℕ × State
take_forward_reply from message s now = ready_after (forward_reply s now from message)

abbrev pub due_when : Option ℕ → Due
due_when None = dues.Done
due_when (Some id) = dues.Ready id

abbrev pub due_after : Expired × State → Due × State
due_after (NothingDue, s) = (dues.Nothing, s)
due_after (Ended told, s) = (due_when (ready_of told), s)
due_after (ConnectionLost id, s) = (dues.Closed id, s)

-- DUE-4: What is due at the moment of a turn that does not put it off ends in that turn, forwarded
-- calls first; a connection that is due is closed, and one whose forwarded call ends is served
-- again.
abbrev pub expire_due : State → ℕ → Due × State
expire_due s now = due_after (expire s now)

-- The call that must be sent first was sent, if there is one: its number.
abbrev pub send_unsent : State → Option Unsent → Option ℕ × State
send_unsent s None = (None, s)
send_unsent s (Some unsent) = (Some unsent.number, (sent_call s unsent.number).1)

-- SEND-1: A forwarded call is sent as soon as it came, once, over the socket for forwarded calls to
-- its target's family, and counts as sent though the socket does not take it.
abbrev pub send_forward : State → ℕ → Option ℕ × State
send_forward s now = send_unsent s (unsent_call s)
