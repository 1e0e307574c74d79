-- Replies that are given in the call that takes the end of their record, by what is held.
use Rattle.std.specs.Prelude.{◌≡◌, ℕ, Bool, if◌then◌else◌, List, length, take, Option, Result}
use Rattle.std.specs.Borrow.{Bor}
use Rattle.rb_xdr.specs.Kept.{Kept}
use Rattle.rb_model.specs.declared.types.CoreFault.{CoreFault}
use Rattle.rb_model.specs.declared.types.Exchanged.{Exchanged}
use Rattle.rb_model.specs.State.{State}
use Rattle.rb_model.specs.Connections.{with_given, live_connection, on_connection}
use Rattle.rb_model.specs.Exchanges.{pending_front, at_once_on, count_now, exchange, taken_in, count_given}
use Rattle.rb_model.specs.declared.served.Served.{Served}
use Rattle.rb_model.specs.declared.served.Served.TheVariants.{Answered, Listed}
use Rattle.rb_connections.specs.declared.slot.EndedRecord.{EndedRecord}
use Rattle.rb_model.specs.declared.served.Response.TheVariants as outcomes
use Rattle.rb_connections.specs.Slots.{Acts, Shows}
use Rattle.rb_connections.specs.Giving.{IsGivenWhole, whole_length}
use Rattle.rb_core.specs.StandsFor.{CoreView, StandsFor}
use Rattle.rb_core.specs.Core.{arguments_in, serve_ended, without_arguments}

-- ---- bytes that arrive

-- The result gives as many bytes as are given at once in this room.
abbrev pub CountsGiven : ℕ → ℕ → List ℕ → List ℕ → CoreView → Result Exchanged CoreFault → Type 0
CountsGiven now id piece room held result =
    Shows StandsFor (count_now now id piece (length room)) held (count_given result)

-- From each state that the old core stands for, the call does the model's `exchange` with this much room, and the first
-- bytes of `room` are those that were given.
-- EXCHANGE-1
abbrev pub Exchanges : ℕ → ℕ → List ℕ → CoreView → CoreView → Result Exchanged CoreFault → List ℕ → Type 0
Exchanges now id piece old new result room =
    Acts StandsFor (exchange now id piece (length room)) old new (taken_in result, take (count_given result) room)

-- ---- an answer

abbrev pub count_when_answered : ℕ → ℕ → Bool × State → ℕ
count_when_answered room id (lost, s) = if lost then 0 else at_once_on room (live_connection id s.connections.all)

abbrev pub answer_and_give : ℕ → ℕ → Bool × State → (Bool × List ℕ) × State
answer_and_give id n (lost, s) = ((lost, pending_front n id s), on_connection id (with_given s.clock n) s)

-- The record that ended on the connection of the number, with this verdict and these arguments, is answered, and the
-- first n bytes in `room` are those of its reply that were given at once. No arguments are held after it.
abbrev pub AnswersGiving : ℕ → EndedRecord → Option (Bor (List ℕ)) → CoreView → CoreView → Bool × ℕ → List ℕ → Type 0
AnswersGiving id ended arguments old new (lost, n) room =
    Acts StandsFor
    (λ s. answer_and_give id (length (take n room)) (serve_ended id ended (arguments_in arguments old.arguments) s))
    (without_arguments old) new (lost, take n room)

-- `n` is how many bytes of the reply are given at once in this room.
abbrev pub GivesAtOnce : List ℕ → ℕ → EndedRecord → Option (Bor (List ℕ)) → CoreView → ℕ → Type 0
GivesAtOnce room id ended arguments old n =
    (s : State) → StandsFor (without_arguments old) s
    → n ≡ count_when_answered (length room) id (serve_ended id ended (arguments_in arguments old.arguments) s)

-- ---- a reply

-- how many bytes are given at once of what is served; `reply` is what was written of it
abbrev pub count_at_once : ℕ → Served → List ℕ → ℕ
count_at_once room (Answered outcomes.Reply) reply = whole_length room (length reply)
count_at_once room (Answered outcomes.NoCall) reply = 0
count_at_once room (Answered outcomes.Forwarded) reply = 0
count_at_once room (Answered outcomes.Silent) reply = 0
count_at_once room (Listed xid listing) reply = 0

-- What a message is answered with is a reply, and is given whole so.
pub record IsGivenAtOnce (served : Served) (before after : Kept) (given : List ℕ) : Type 0 where
  pub is_reply : served ≡ Answered outcomes.Reply
  pub whole : IsGivenWhole before after given
