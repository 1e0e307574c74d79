-- What is true of all that a core holds, and what its calls answer.
use Rattle.std.specs.Prelude.{◌≡◌, ◌≤◌, ℕ, Bool, List, [], length, Option, Some, None, Result, Ok, Err, IfOk}
use Rattle.std.specs.Borrow.{Bor}
use Rattle.rb_xdr.specs.Kept.{Kept}
use Rattle.rb_address.specs.declared.caller.Caller.{Caller}
use Rattle.rb_address.specs.declared.caller.Caller.TheVariants.{Tcp}
use Rattle.rb_forward.specs.declared.types.Ended.{Ended}
use Rattle.rb_proto.specs.declared.books.Books.{Books}
use Rattle.rb_answers.specs.declared.context.Context.{Context}
use Rattle.rb_answers.specs.declared.listener.Listener.{Listener}
use Rattle.rb_model.specs.declared.types.Limits.{Limits}
use Rattle.rb_proto.specs.Books.{AreTied}
use Rattle.rb_model.specs.declared.types.CoreFault.{CoreFault}
use Rattle.rb_model.specs.State.{Setting, State}
use Rattle.rb_model.specs.Calls.{message_with, Outcome, longest_reply}
use Rattle.rb_model.specs.Connections.{on_live}
use Rattle.rb_rpc.specs.declared.standing.Standing.{Standing}
use Rattle.rb_model.specs.declared.types.Taken.{Taken}
use Rattle.rb_model.specs.declared.types.Told.{Told}
use Rattle.rb_model.specs.Ending.{outcome_at_end, tell}
use Rattle.rb_model.specs.Standings.{without_standing}
use Rattle.rb_model.specs.Step.{serve_message, settle_on, bytes}
use Rattle.rb_model.specs.declared.served.Response as outcome
use Rattle.rb_connections.specs.declared.slot.EndedRecord.{EndedRecord}
use Rattle.rb_connections.specs.declared.slot.Received.{Received}
use Rattle.rb_connections.specs.StandsFor.{Table}
use Rattle.rb_connections.specs.Slots.{Acts, TableActs, TableShows, take_piece, arguments_on, IsDraft}
use Rattle.rb_connections.specs.Listings.{CanContinueAll}
use Rattle.rb_model.specs.Served.{outcome_with}
use Rattle.rb_core.specs.declared.calls.Piece.{Piece}
use Rattle.rb_core.specs.declared.calls.Surroundings.{Surroundings}
use Rattle.rb_core.specs.StandsFor.{CoreView, StandsFor}
use Rattle.rb_core.specs.Awaits.{AreAwaited}

-- What is true of all that a core holds: it has one meter, its draft is empty between two events, each connection for
-- which a call is forwarded awaits it, the registry can make the rest of each list that is being given, and the reply
-- has this many bytes.
-- METER-1
pub record IsCore (setting : Setting) (connections : Table) (books : Books) (reply draft arguments : Kept) (reply_len : ℕ) : Type 0 where
  pub conns : connections.conns ≡ setting.limits.conns
  pub few_conns : setting.limits.conns ≤ 256
  pub few_rows : setting.limits.rows ≤ 4096
  pub len : reply_len ≡ length reply.bytes
  pub short : length reply.bytes ≤ longest_reply
  pub limit : books.registry.limit ≡ setting.limits.rows
  pub forwards : books.forwards.cap ≡ setting.limits.forwards
  pub few : setting.limits.forwards ≤ 64
  pub first_xid : books.forwards.first_xid ≡ setting.first_xid
  pub awaited : AreAwaited books.forwards connections
  pub lists : CanContinueAll books.registry connections
  pub tied : AreTied reply.tie books
  pub connections_tie : connections.tie ≡ reply.tie
  pub reply_cap : reply.cap ≡ longest_reply
  pub is_draft : IsDraft reply.tie draft
  pub empty : draft.bytes ≡ []
  pub has_arguments : IsDraft reply.tie arguments

-- ---- what calls answer

-- what a call from a caller sees at a moment
abbrev pub context_at : Limits → Listener → ℕ → Caller → Context
context_at limits listener clock caller = record {
  announced = listener.announced;
  terms = listener.terms;
  reserved = listener.reserved;
  limit = limits.rows;
  forwards = limits.forwards;
  clock = clock;
  caller = caller;
}

-- and one that is served in these surroundings
abbrev pub context_in : Surroundings → Context
context_in around = context_at around.limits.now around.listener.now around.clock around.caller

abbrev pub context_of : CoreView → Caller → Context
context_of held caller = context_at held.setting.limits held.setting.listener held.clock caller

-- what was received of a piece of bytes, or that there is no such connection
abbrev pub received_in : Result Piece CoreFault → Result Received CoreFault
received_in (Ok piece) = Ok piece.received
received_in (Err fault) = Err fault

-- This many bytes of a piece were taken on the live connection of the number, and this came of it.
abbrev pub TakesPiece : ℕ → ℕ → List ℕ → Table → Table → Result Piece CoreFault → Type 0
TakesPiece id clock piece old new result = TableActs (on_live id (take_piece clock piece)) old new (received_in result)

-- the arguments of a record: those in the piece if it came whole, else those that are held
abbrev pub arguments_in : Option (Bor (List ℕ)) → List ℕ → List ℕ
arguments_in (Some lent) held = lent.now
arguments_in None held = held

-- These are the arguments that the core has after a piece for the connection of the number; `before` and `after` are
-- the buffer that was handed in for them. None lie in the piece if no record ended.
pub record AreArguments (id : ℕ) (piece : List ℕ) (table : Table) (before after : Kept) (got : Piece) : Type 0 where
  pub shows : TableShows (arguments_on id before.bytes piece) table (arguments_in got.arguments after.bytes)
  pub none : got.received.ended ≡ None → got.arguments ≡ None

abbrev pub HasArguments : ℕ → List ℕ → Table → Kept → Kept → Result Piece CoreFault → Type 0
HasArguments id piece table before after result = IfOk result (λ got. AreArguments id piece table before after got)

-- a record with this verdict and these arguments is answered, and its connection goes on
abbrev pub serve_ended : ℕ → EndedRecord → List ℕ → State → Bool × State
serve_ended id ended arguments s =
    settle_on id (serve_message s (Tcp id ended.who) (message_with ended.verdict arguments) arguments)

-- what is held, once the arguments are taken out
abbrev pub without_arguments : CoreView → CoreView
without_arguments held = record held { arguments = [] }

-- The caller of a forwarded call that ended is told how; `message` is the datagram that ended it.
abbrev pub TellsCaller : List ℕ → Ended → CoreView → CoreView → Told → Type 0
TellsCaller message ended old new given = Acts StandsFor (tell ended.id ended.forward.caller (outcome_at_end message ended)) old new given

-- The bytes of a piece arrive on the connection of the number; the result also says where that stands then.
abbrev pub TakesBytes : ℕ → ℕ → List ℕ → CoreView → CoreView → Result (Taken × Standing) CoreFault → Type 0
TakesBytes now id piece old new result = Acts StandsFor (λ s. bytes s now id piece) old new (without_standing result)

-- An act that answers something, with the reply that is held after it.
abbrev pub ActsWithReply : (State → Outcome × State) → CoreView → CoreView → outcome.Response → Type 0
ActsWithReply act old new given = Acts StandsFor act old new (outcome_with given new.reply)
