-- What strangers are sent over UDP: at most twice the bytes that came in their names. A sender's address can be forged, so this
-- is what anybody can have sent to a host that never asked.
use Rattle.std.specs.Prelude.{◌≡◌, ◌≤◌, ℕ, ◌*◌, Bool, true, false, if◌then◌else◌, List, length}
use Rattle.rb_address.specs.declared.who.Who.{Who}
use Rattle.rb_answers.specs.declared.listener.Listener.{Listener}
use Rattle.rb_answers.specs.Callers.{is_stranger}
use Rattle.rb_model.specs.declared.types.Limits.{Limits}
use Rattle.rb_model.specs.Calls.{reply_in}
use Rattle.rb_model.specs.State.{State, opening}
use Rattle.rb_model.specs.Step.{Event, Output, datagram, run}
use Rattle.rb_model.specs.Step.Event.{Datagram}
use Rattle.rb_model.specs.Step.Output.{Replied, RepliedTo}
use Rattle.rb_model.specs.WholeRuns.{total_of}

-- the bytes that an event brings in a datagram from a sender for whom the test holds
abbrev pub bytes_from : (Who → Bool) → Event → Output → ℕ
bytes_from test (Datagram now who content) output = if test who then length content else 0
bytes_from test event output = 0

-- the bytes that its output has for one: the reply at once, or at the end of a forwarded call
abbrev pub bytes_to : (Who → Bool) → Event → Output → ℕ
bytes_to test (Datagram now who content) (Replied reply) = if test who then length reply else 0
bytes_to test event (RepliedTo who reply) = if test who then length reply else 0
bytes_to test event output = 0

-- From every state in which long replies over UDP are not allowed, the reply to a stranger's datagram has at most twice
-- its bytes.
abbrev pub RepliesAreAtMostTwice : Type 0
RepliesAreAtMostTwice =
    (s : State) → s.setting.listener.terms.long_replies ≡ false → (now : ℕ) (who : Who) (content : List ℕ)
    → is_stranger who ≡ true → length (reply_in (datagram s now who content).0) ≤ 2 * length content

-- In every run that begins so, strangers are sent over UDP, at once and at the end of forwarded calls, at most twice the
-- bytes that came in their names: all of them together, those at one host, or each alone.
-- REFLECT-1
abbrev pub StrangersAreSentAtMostTwice : Type 0
StrangersAreSentAtMostTwice =
    (limits : Limits) (listener : Listener) (first_xid now : ℕ) (events : List Event) (test : Who → Bool)
    → listener.terms.long_replies ≡ false → ((who : Who) → test who ≡ true → is_stranger who ≡ true)
    → let outputs : List Output = run (opening limits listener first_xid now) events in
    total_of (bytes_to test) events outputs ≤ 2 * total_of (bytes_from test) events outputs
