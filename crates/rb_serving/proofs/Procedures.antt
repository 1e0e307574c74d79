-- What a call of a procedure says.
use Rattle.std.specs.Prelude.{not, ◌==◌, ◌&&◌, ◌||◌}
use Rattle.std.proofs.Common.{◌≡◌, ℕ, Bool, true, false, cond, List, Option, Some, None, refl, ap, ◌∙◌, ◌⊎◌, inl, inr, arith}
use Rattle.rb_rpc.specs.declared.call.CallHead.{CallHead}
use Rattle.rb_rpc.specs.declared.call.Verdict.{Verdict}
use Rattle.rb_rpc.specs.declared.call.Verdict.TheVariants as verdicts
use Rattle.rb_rpc.specs.declared.reply.ReplyStatus.TheVariants as replies
use Rattle.rb_registry.specs.Rows.{rpcb_prog}
use Rattle.rb_arguments.specs.declared.procedure.Procedure.{Procedure}
use Rattle.rb_arguments.specs.declared.procedure.Procedure.TheVariants.{Void}
use Rattle.rb_arguments.specs.declared.procedure.VoidProcedure.TheVariants.{Null}
use Rattle.rb_answers.specs.declared.context.Context.{Context}
use Rattle.rb_arguments.specs.declared.request.Request.{Request}
use Rattle.rb_arguments.specs.Arguments.{procedure_at, arguments, is_known, request, or_garbage}
use Rattle.rb_answers.specs.Ledger.{Ledger}
use Rattle.rb_model.specs.declared.message.Message.{Message}
use Rattle.rb_model.specs.declared.message.Message.TheVariants as says
use Rattle.rb_model.specs.Calls.{is_served, refusal, request_of, call_of, message_with}
use Rattle.rb_model.specs.Losses.{asks_room}
use Rattle.rb_serving.specs.Messages.{AsksNothing, asked_of, is_null, null_called, null_message}

module _ (head : CallHead) (bytes : List ℕ) (prog : not (head.prog == rpcb_prog) ≡ false) (served : not (is_served head.vers) ≡ false) where
  pub calls : (procedure : Procedure) → procedure_at head.vers head.proc ≡ Some procedure → call_of head bytes ≡ asked_of head (arguments procedure bytes)
  unfolding call_of request_of is_known request
  calls procedure is = rw (prog, served) (rw is (by_request (arguments procedure bytes)))
    where
      by_request : (o : Option Request) → request_of head (or_garbage o) ≡ asked_of head o
      by_request None = refl
      by_request (Some q) = refl

  pub unavailable : procedure_at head.vers head.proc ≡ None → call_of head bytes ≡ refusal head.xid replies.ProcUnavail
  unfolding call_of request_of is_known
  unavailable is = rw (prog, served) (rw is refl)

-- ---- a call of NULL, which has no arguments

null_parts : (prog vers proc : ℕ) → (prog == rpcb_prog && is_served vers && proc == 0) ≡ true → (not (prog == rpcb_prog) ≡ false) × (is_served vers ≡ true) × (proc ≡ 0)
null_parts prog vers proc is = grind arith

null_at : (vers : ℕ) → is_served vers ≡ true → procedure_at vers 0 ≡ Some (Void Null)
unfolding is_served procedure_at
null_at vers served = by_version (versions vers served)
  where
    versions : (n : ℕ) → (n == 2 || n == 3 || n == 4) ≡ true → (n ≡ 2) ⊎ (n ≡ 3) ⊎ (n ≡ 4)
    versions n e = grind arith

    by_version : (vers ≡ 2) ⊎ (vers ≡ 3) ⊎ (vers ≡ 4) → procedure_at vers 0 ≡ Some (Void Null)
    by_version (inl two) = rw two refl
    by_version (inr (inl three)) = rw three refl
    by_version (inr (inr four)) = rw four refl

null_calls : (head : CallHead) (bytes : List ℕ) → is_null head ≡ true → call_of head bytes ≡ null_message head
unfolding arguments
null_calls head bytes is =
    let parts = null_parts head.prog head.vers head.proc is in
    calls head bytes parts.0 (rw parts.1 refl) (Void Null) (rw parts.2 (null_at head.vers parts.1))

pub null_asked : (v : Verdict) (head : CallHead) → null_called v ≡ Some head → (bytes : List ℕ) → message_with v bytes ≡ null_message head
null_asked (verdicts.Call asked place) head is bytes = by_test (is_null asked) refl is
  where
    head_in : Option CallHead → CallHead
    head_in (Some found) = found
    head_in None = asked

    by_test : (b : Bool) → is_null asked ≡ b → cond b (Some asked) None ≡ Some head → call_of asked bytes ≡ null_message head
    by_test true test some = rw (← ap head_in some) (null_calls asked bytes test)
    by_test false test none = absurd cc
null_asked verdicts.NoCall head is bytes = absurd cc
null_asked (verdicts.RpcMismatch xid) head is bytes = absurd cc
null_asked (verdicts.AuthError xid stat) head is bytes = absurd cc

-- ---- a message that asks for nothing

pub nothing_asks : (context : Context) (message : Message) (l : Ledger) → AsksNothing message → asks_room context message l ≡ false
nothing_asks context says.NoCall l none = refl
nothing_asks context (says.Refused head) l none = refl
nothing_asks context (says.Garbage head) l none = refl
nothing_asks context (says.Asked call) l none = absurd none
