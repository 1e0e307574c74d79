-- What messages say, by the grammar of their bytes (RFC 5531 sections 8 and 9, RFC 1833).
use Rattle.std.specs.Prelude.{◌≡◌, ◌<◌, ◌≤◌, ◌↔◌, ◌⊎◌, ℕ, List, drop, Some, None, ⊤}
use Rattle.rb_xdr.specs.Xdr.{AreBytes}
use Rattle.rb_rpc.specs.declared.call.CallHead.{CallHead}
use Rattle.rb_rpc.specs.declared.reply.ReplyStatus.{ReplyStatus}
use Rattle.rb_rpc.specs.declared.reply.ReplyStatus.TheVariants.{RpcMismatch, AuthError, ProgUnavail, ProgMismatch, ProcUnavail}
use Rattle.rb_rpc.specs.Grammar.{BeginsWithCall, BeginsWithOtherVersion, HasBadAuth, IsNoCall}
use Rattle.rb_registry.specs.Rows.{rpcb_prog}
use Rattle.rb_answers.specs.declared.call.Call.{Call}
use Rattle.rb_arguments.specs.declared.procedure.Procedure.{Procedure}
use Rattle.rb_arguments.specs.declared.request.Request.{Request}
use Rattle.rb_arguments.specs.Arguments.{procedure_at, HasArgs}
use Rattle.rb_arguments.specs.Grammar.{Asks}
use Rattle.rb_model.specs.declared.message.Message.TheVariants.{NoCall, Garbage, Asked}
use Rattle.rb_model.specs.Calls.{refusal, message_of}
use Rattle.rb_model.specs.declared.message.Message.{Message}
use Rattle.rb_model.specs.declared.message.Message.TheVariants as says

-- ---- heads of calls

-- of program 100000, and of version 2, 3 or 4
pub record IsOfServedVersion (head : CallHead) : Type 0 where
  pub program : head.prog ≡ rpcb_prog
  pub from_2 : 2 ≤ head.vers
  pub to_4 : head.vers ≤ 4

-- of any other program
-- PROGRAM-1
abbrev pub IsOfOtherProgram : CallHead → Type 0
IsOfOtherProgram head = head.prog ≡ rpcb_prog → ⊥

-- of any other version of this program
-- VERSION-1
pub record IsOfOtherVersion (head : CallHead) : Type 0 where
  pub program : head.prog ≡ rpcb_prog
  pub other : (head.vers < 2) ⊎ (4 < head.vers)

-- PROC-3: A procedure that the version does not have is PROC_UNAVAIL.
pub record IsOfNoProcedure (head : CallHead) : Type 0 where
  pub served : IsOfServedVersion head
  pub none : procedure_at head.vers head.proc ≡ None

-- ---- messages

-- The bytes begin with a call of program 100000, and after its head with the arguments of the request; its procedure
-- is the one that the head's version and number name.
pub record BeginsWithRequest (call : Call) (bytes : List ℕ) : Type 0 where
  pub place : ℕ
  pub head : BeginsWithCall call.head place bytes
  pub program : call.head.prog ≡ rpcb_prog
  pub asks : Asks call.head.vers call.head.proc call.request (drop place bytes)

-- They begin with a call of a procedure that the version has, and after its head with the
-- arguments of no request.
-- ARGS-4
pub record HasUnreadableArguments (head : CallHead) (bytes : List ℕ) : Type 0 where
  pub place : ℕ
  pub procedure : Procedure
  pub call : BeginsWithCall head place bytes
  pub served : IsOfServedVersion head
  pub known : procedure_at head.vers head.proc ≡ Some procedure
  pub unreadable : (r : Request) → Asks head.vers head.proc r (drop place bytes) → ⊥

-- They begin with a call of this xid, and its head has this property.
pub record BeginsWithCallBy (xid : ℕ) (is_such : CallHead → Type 0) (bytes : List ℕ) : Type 0 where
  pub head : CallHead
  pub place : ℕ
  pub call : BeginsWithCall head place bytes
  pub xid_is : head.xid ≡ xid
  pub such : is_such head

-- the messages that are refused whatever the daemon holds, by the status of the reply; no other
-- status refuses one so
abbrev pub IsRefused : ℕ → ReplyStatus → List ℕ → Type 0
IsRefused xid (RpcMismatch low high) bytes =
    (low ≡ 2) × (high ≡ 2) × BeginsWithOtherVersion xid bytes
IsRefused xid (AuthError stat) bytes = HasBadAuth xid stat bytes
IsRefused xid ProgUnavail bytes = BeginsWithCallBy xid IsOfOtherProgram bytes
IsRefused xid (ProgMismatch low high) bytes =
    (low ≡ 2) × (high ≡ 4) × BeginsWithCallBy xid IsOfOtherVersion bytes
IsRefused xid ProcUnavail bytes = BeginsWithCallBy xid IsOfNoProcedure bytes
IsRefused xid status bytes = ⊥

-- ---- what a message says

abbrev pub AskedMessagesAreOfTheGrammar : Type 0
AskedMessagesAreOfTheGrammar =
    (bytes : List ℕ) → AreBytes bytes → (call : Call)
    → (message_of bytes ≡ Asked call) ↔ BeginsWithRequest call bytes

abbrev pub RefusedMessagesAreOfTheGrammar : Type 0
RefusedMessagesAreOfTheGrammar =
    (bytes : List ℕ) → AreBytes bytes → (xid : ℕ) (status : ReplyStatus)
    → (message_of bytes ≡ refusal xid status) ↔ IsRefused xid status bytes

abbrev pub GarbageMessagesAreOfTheGrammar : Type 0
GarbageMessagesAreOfTheGrammar =
    (bytes : List ℕ) → AreBytes bytes → (head : CallHead)
    → (message_of bytes ≡ Garbage head) ↔ HasUnreadableArguments head bytes

abbrev pub NoCallsAreOfTheGrammar : Type 0
NoCallsAreOfTheGrammar =
    (bytes : List ℕ) → AreBytes bytes → (message_of bytes ≡ NoCall) ↔ IsNoCall bytes

-- ---- the arguments of what is asked

-- the arguments of a call that is asked for are these bytes, as far as its answer reads them
abbrev pub HasArgsIn : Message → List ℕ → Type 0
HasArgsIn says.NoCall arguments = ⊤
HasArgsIn (says.Refused head) arguments = ⊤
HasArgsIn (says.Garbage head) arguments = ⊤
HasArgsIn (says.Asked call) arguments = HasArgs call.request arguments
