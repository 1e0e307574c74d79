-- What a message says by its verdict, and that what is kept of a record says enough.
use Rattle.std.specs.Prelude.{◌≡◌, ⊤, ℕ, Bool, List, Option, Some, None, ◌==◌, ◌&&◌, if◌then◌else◌}
use Rattle.rb_rpc.specs.declared.call.CallHead.{CallHead}
use Rattle.rb_rpc.specs.declared.call.Verdict.{Verdict}
use Rattle.rb_rpc.specs.declared.call.Verdict.TheVariants as verdicts
use Rattle.rb_registry.specs.Rows.{rpcb_prog}
use Rattle.rb_rpc.specs.Verdict.{verdict}
use Rattle.rb_rpc.specs.Feeds.{arguments_of}
use Rattle.rb_answers.specs.declared.context.Context.{Context}
use Rattle.rb_arguments.specs.declared.procedure.Procedure.{Procedure}
use Rattle.rb_arguments.specs.declared.procedure.VoidProcedure.TheVariants as voids
use Rattle.rb_arguments.specs.declared.request.Request.TheVariants as requests
use Rattle.rb_arguments.specs.declared.request.Request.{Request}
use Rattle.rb_arguments.specs.Arguments.{arguments}
use Rattle.rb_answers.specs.Ledger.{Ledger}
use Rattle.rb_model.specs.declared.message.Message.{Message}
use Rattle.rb_serving.specs.declared.message.Called.{Called}
use Rattle.rb_model.specs.declared.message.Message.TheVariants as says
use Rattle.rb_model.specs.Calls.{is_served, kept_of, message_with, message_of, outcome}

-- ---- what is called

-- what a call says by what was read of its arguments, None if they are unreadable
abbrev pub asked_of : CallHead → Option Request → Message
asked_of head (Some request) = says.Asked (record { head = head; request = request })
asked_of head None = says.Garbage head

-- what a call of a procedure says, with these bytes after its head
abbrev pub said_by : Called → List ℕ → Message
said_by called bytes = asked_of called.head.now (arguments called.procedure bytes)

-- A message of this verdict calls this procedure, whatever bytes follow its head.
abbrev pub CallsProcedure : Verdict → CallHead → Procedure → Type 0
CallsProcedure verdict head procedure = (bytes : List ℕ) → message_with verdict bytes ≡ asked_of head (arguments procedure bytes)

-- So this is what a message of this verdict calls.
abbrev pub IsCalledBy : Verdict → Called → Type 0
IsCalledBy verdict called = CallsProcedure verdict called.head.now called.procedure

-- A message of this verdict says this, whatever bytes follow its head.
abbrev pub IsMessageOf : Verdict → Message → Type 0
IsMessageOf verdict message = (bytes : List ℕ) → message ≡ message_with verdict bytes

abbrev pub AsksNothing : Message → Type 0
AsksNothing (says.Asked call) = ⊥
AsksNothing says.NoCall = ⊤
AsksNothing (says.Refused head) = ⊤
AsksNothing (says.Garbage head) = ⊤

-- whether a call is one of NULL, procedure 0 of each version (RFC 1833 sections 2.2 and 3.2)
abbrev pub is_null : CallHead → Bool
is_null head = head.prog == rpcb_prog && is_served head.vers && head.proc == 0

-- the head of a call of NULL, None if the verdict is another
abbrev pub null_called : Verdict → Option CallHead
null_called (verdicts.Call head place) = if is_null head then Some head else None
null_called verdicts.NoCall = None
null_called (verdicts.RpcMismatch xid) = None
null_called (verdicts.AuthError xid stat) = None

-- a call of NULL
abbrev pub null_message : CallHead → Message
null_message head = says.Asked (record { head = head; request = requests.Void voids.Null })

-- ---- what is kept says enough

-- The verdict on a record and what is kept of it say what the record says, and it is answered alike.
pub record SaysTheRecord (content : List ℕ) : Type 0 where
  pub says : message_with (verdict content) (kept_of content) ≡ message_of content
  pub answered : (context : Context) (ledger : Ledger)
      → outcome context (message_of content) (kept_of content) ledger ≡ outcome context (message_of content) (arguments_of content) ledger

-- ARGS-5
abbrev pub KeptSaysTheRecord : Type 0
KeptSaysTheRecord = (content : List ℕ) → SaysTheRecord content
