-- The first 8,816 bytes of its arguments decide what a call says.
use Rattle.std.specs.Prelude.{option_map, option_and_then}
use Rattle.std.proofs.Common.{◌≡◌, ◌≤◌, ℕ, List, take, Option, Some, None, refl, ap, subst, arith}
use Rattle.rb_xdr.specs.Xdr.{Reading, read_number, read_opaque}
use Rattle.rb_rpc.specs.declared.call.CallHead.{CallHead}
use Rattle.rb_rpc.specs.Verdict.{verdict}
use Rattle.rb_rpc.specs.declared.call.Verdict.{Verdict}
use Rattle.rb_rpc.specs.declared.call.Verdict.TheVariants.{NoCall, RpcMismatch, AuthError, Call}
use Rattle.rb_rpc.specs.Feeds.{arguments_of}
use Rattle.rb_arguments.specs.Forwarded.{longest_forwarded as longest_args}
use Rattle.rb_arguments.specs.declared.procedure.Procedure.{Procedure}
use Rattle.rb_arguments.specs.declared.procedure.Procedure.TheVariants as procedures
use Rattle.rb_arguments.specs.declared.request.Request.{Request}
use Rattle.rb_arguments.specs.declared.request.Request.TheVariants.{Mapping, Rpcb, Uaddr2taddr, Taddr2uaddr, Forward}
use Rattle.rb_arguments.specs.Remote.{read_remote}
use Rattle.rb_arguments.specs.Types.{read_mapping, read_rpcb, read_netbuf}
use Rattle.rb_arguments.specs.Arguments.{procedure_at, value_of, front, arguments, request, HasArgs}
use Rattle.rb_answers.specs.declared.answers.Answer.{Answer}
use Rattle.rb_answers.specs.declared.context.Context.{Context}
use Rattle.rb_answers.specs.Ledger.{Ledger, with_call_noted}
use Rattle.rb_answers.proofs.Fronts.{answer_of_front}
use Rattle.rb_model.specs.declared.message.Message.{Message}
use Rattle.rb_model.specs.declared.message.Message.TheVariants as says
use Rattle.rb_model.specs.Calls.{call_of, message_with, message_of, reply_with, outcome, longest_kept, kept_of}
use Rattle.rb_model.specs.Grammar.{HasArgsIn}
use Rattle.rb_model.proofs.AskedArgs.{message_has}
use Rattle.rb_serving.specs.Messages.{KeptSaysTheRecord}
use Rattle.rb_serving.proofs.ReaderFronts.{LooksAt, give_looks, bind_looks, number_looks, opaque_looks}

-- ---- the types of arguments

mapping_looks : LooksAt 16 read_mapping
unfolding read_mapping
mapping_looks =
    bind_looks 4 12 read_number _ number_looks
    (λ prog. bind_looks 4 8 read_number _ number_looks
    (λ vers. bind_looks 4 4 read_number _ number_looks
    (λ prot. bind_looks 4 0 read_number _ number_looks (λ port. give_looks _ 0))))

rpcb_looks : LooksAt 308 read_rpcb
unfolding read_rpcb
rpcb_looks =
    bind_looks 4 304 read_number _ number_looks
    (λ prog. bind_looks 4 300 read_number _ number_looks
    (λ vers. bind_looks 36 264 (read_opaque 32) _ (opaque_looks 32)
    (λ netid. bind_looks 132 132 (read_opaque 128) _ (opaque_looks 128)
    (λ addr. bind_looks 132 0 (read_opaque 128) _ (opaque_looks 128) (λ owner. give_looks _ 0)))))

netbuf_looks : LooksAt 136 read_netbuf
unfolding read_netbuf
netbuf_looks =
    bind_looks 4 132 read_number _ number_looks
    (λ maxlen. bind_looks 132 0 (read_opaque 128) _ (opaque_looks 128) (λ buf. give_looks _ 0))

remote_looks : LooksAt 8816 read_remote
unfolding read_remote longest_args
remote_looks =
    bind_looks 4 8812 read_number _ number_looks
    (λ prog. bind_looks 4 8808 read_number _ number_looks
    (λ vers. bind_looks 4 8804 read_number _ number_looks
    (λ proc. bind_looks 8804 0 (read_opaque longest_args) _ (opaque_looks longest_args) (λ args. give_looks _ 0))))

-- ---- what is asked for

front_of_front : {A : Type 0} (made : A → Request) (reads : List ℕ → Reading A) (most n : ℕ) (bytes : List ℕ) → LooksAt most reads → most ≤ n
    → option_map made (front reads (take n bytes)) ≡ option_map made (front reads bytes)
front_of_front {A} made reads most n bytes looks enough = ap (λ (r : Reading A). option_map made (value_of r)) (looks.decided n bytes enough)

arguments_of_front : (procedure : Procedure) (n : ℕ) (bytes : List ℕ) → longest_kept ≤ n → arguments procedure (take n bytes) ≡ arguments procedure bytes
unfolding arguments longest_kept
arguments_of_front (procedures.Void procedure) n bytes enough = refl
arguments_of_front (procedures.Mapping procedure) n bytes enough = front_of_front (Mapping procedure) read_mapping 16 n bytes mapping_looks (omega (arith, enough))
arguments_of_front (procedures.Rpcb procedure) n bytes enough = front_of_front (Rpcb procedure) read_rpcb 308 n bytes rpcb_looks (omega (arith, enough))
arguments_of_front procedures.Uaddr2taddr n bytes enough = front_of_front Uaddr2taddr (read_opaque 128) 132 n bytes (opaque_looks 128) (omega (arith, enough))
arguments_of_front (procedures.Forward kind) n bytes enough = front_of_front (Forward kind) read_remote 8816 n bytes remote_looks (omega (arith, enough))
arguments_of_front procedures.Taddr2uaddr n bytes enough = front_of_front Taddr2uaddr read_netbuf 136 n bytes netbuf_looks (omega (arith, enough))

-- the first bytes of the arguments decide what is asked for
pub request_of_front : (vers proc n : ℕ) (bytes : List ℕ) → longest_kept ≤ n → request vers proc (take n bytes) ≡ request vers proc bytes
unfolding request
request_of_front vers proc n bytes enough = by_procedure (procedure_at vers proc)
  where
    by_procedure : (p : Option Procedure) → option_and_then (λ procedure. arguments procedure (take n bytes)) p ≡ option_and_then (λ procedure. arguments procedure bytes) p
    by_procedure (Some procedure) = arguments_of_front procedure n bytes enough
    by_procedure None = refl

call_of_front : (n : ℕ) (head : CallHead) (bytes : List ℕ) → longest_kept ≤ n → call_of head (take n bytes) ≡ call_of head bytes
unfolding call_of
call_of_front n head bytes enough = rw (request_of_front head.vers head.proc n bytes enough) refl

message_of_front : (v : Verdict) (n : ℕ) (arguments : List ℕ) → longest_kept ≤ n → message_with v (take n arguments) ≡ message_with v arguments
message_of_front NoCall n arguments enough = refl
message_of_front (RpcMismatch xid) n arguments enough = refl
message_of_front (AuthError xid stat) n arguments enough = refl
message_of_front (Call head place) n arguments enough = call_of_front n head arguments enough

message_kept : (content : List ℕ) → message_with (verdict content) (kept_of content) ≡ message_of content
unfolding message_of
message_kept content = message_of_front (verdict content) longest_kept (arguments_of content) (omega arith)

-- ---- it is answered alike

outcome_kept : (content : List ℕ) (message : Message) → message_with (verdict content) (kept_of content) ≡ message → (context : Context) (ledger : Ledger)
    → outcome context message (kept_of content) ledger ≡ outcome context message (arguments_of content) ledger
unfolding outcome
outcome_kept content says.NoCall is context ledger = refl
outcome_kept content (says.Refused head) is context ledger = refl
outcome_kept content (says.Garbage head) is context ledger = refl
outcome_kept content (says.Asked call) is context ledger =
    let has : HasArgs call.request (kept_of content) = subst (λ (m : Message). HasArgsIn m (kept_of content)) is (message_has (verdict content) (kept_of content)) in
    ap (λ (r : Answer × Ledger). reply_with context call.head.xid r) (answer_of_front context call longest_kept (arguments_of content) (with_call_noted call.head ledger) has)

pub kept_says : KeptSaysTheRecord
kept_says content = record {
  says = message_kept content;
  answered = λ context ledger. outcome_kept content (message_of content) (message_kept content) context ledger;
}
