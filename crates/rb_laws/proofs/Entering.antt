-- What a call does to the entries of forwarded calls: it begins one if it is forwarded, and else leaves them.
use Rattle.std.proofs.Common.{◌≡◌, ℕ, Bool, true, false, cond, Option, Some, None, List, length, refl, arith}
use Rattle.rb_rpc.specs.declared.call.CallHead.{CallHead}
use Rattle.rb_address.specs.declared.caller.Caller.{Caller}
use Rattle.rb_rpc.specs.declared.reply.ReplyStatus.{ReplyStatus}
use Rattle.rb_rpc.specs.declared.reply.ReplyStatus.TheVariants as replies
use Rattle.rb_uaddr.specs.declared.address.Uaddr.{Uaddr}
use Rattle.rb_rpc.specs.Feeds.{arguments_of}
use Rattle.rb_registry.specs.declared.row.Row.{Row}
use Rattle.rb_registry.specs.declared.row.Which.{Which}
use Rattle.rb_forward.specs.declared.types.Forward.{Forward}
use Rattle.rb_arguments.specs.declared.kind.Kind.{Kind}
use Rattle.rb_forward.specs.Forwards.{Forwards, can_start, with_next_entry}
use Rattle.rb_answers.specs.declared.answers.Answer.{Answer}
use Rattle.rb_answers.specs.declared.answers.Answer.TheVariants as answers
use Rattle.rb_answers.specs.declared.answers.Results.{Results}
use Rattle.rb_answers.specs.declared.context.Context.{Context}
use Rattle.rb_arguments.specs.declared.mapping.Mapping.{Mapping}
use Rattle.rb_arguments.specs.declared.procedure.MappingProcedure.TheVariants as mappings
use Rattle.rb_arguments.specs.declared.procedure.RpcbProcedure.TheVariants as rpcbs
use Rattle.rb_arguments.specs.declared.remote.RemoteCall.{RemoteCall}
use Rattle.rb_arguments.specs.declared.request.Request.{Request}
use Rattle.rb_arguments.specs.declared.request.Request.TheVariants as requests
use Rattle.rb_answers.specs.Ledger.{Ledger, rows_in, with_call_noted}
use Rattle.rb_answers.specs.Results.{result_bytes, shown_of}
use Rattle.rb_arguments.specs.Remote.{args_of}
use Rattle.rb_answers.specs.Forwarding.{refusal, address_asked, forward_of, refuse, forward_to, forward_call}
use Rattle.rb_answers.specs.Answers.{set_row, unset_rows, getport, getaddr, getversaddr, answer_to, answer}
use Rattle.rb_model.specs.declared.message.Message.{Message}
use Rattle.rb_model.specs.declared.message.Message.TheVariants as says
use Rattle.rb_model.specs.Calls.{Outcome, message_of, results_outcome, reply_with, outcome}
use Rattle.rb_model.specs.Calls.Outcome.{NoCall, Reply, Forwarded, Silent}
use Rattle.rb_model.specs.State.{State}
use Rattle.rb_model.specs.Step.{context_in, serve}

abbrev pub is_forwarded : Outcome → Bool
is_forwarded NoCall = false
is_forwarded (Reply reply began) = false
is_forwarded Forwarded = true
is_forwarded Silent = false

abbrev answers_later : Answer → Bool
answers_later (answers.Results results) = false
answers_later (answers.Refused status) = false
answers_later answers.Forwarded = true
answers_later answers.Silent = false

pub data Entering (context : Context) (old new : Forwards) (forwarded : Bool) : Type 0 where
  Same : forwarded ≡ false → new ≡ old → Entering context old new forwarded
  Begins : forwarded ≡ true → (forward : Forward) (args : List ℕ) → forward.caller ≡ context.caller → can_start context.forwards old ≡ true
      → new ≡ with_next_entry context.clock forward args old → Entering context old new forwarded

set-enters : (context : Context) (head : CallHead) (o : Option Row) (l : Ledger) → (set_row context head o l).1.forwards ≡ l.forwards
unfolding set_row
set-enters context head o l = grind arith

unset-enters : (context : Context) (head : CallHead) (prog vers : ℕ) (o : Option Which) (l : Ledger) → (unset_rows context head prog vers o l).1.forwards ≡ l.forwards
unfolding unset_rows
unset-enters context head prog vers o l = grind arith

getport-enters : (context : Context) (head : CallHead) (m : Mapping) (l : Ledger) → (getport context head m l).1.forwards ≡ l.forwards
unfolding getport
getport-enters context head m l = grind arith

refused-now : (kind : Kind) (status : ReplyStatus) → answers_later (refusal kind status) ≡ false
refused-now kind status = grind arith

abbrev Enters : Context → Ledger → Answer × Ledger → Type 0
Enters context l r = Entering context l.forwards r.1.forwards (answers_later r.0)

forward-enters : (context : Context) (xid : ℕ) (kind : Kind) (remote : RemoteCall) (arguments : List ℕ) (l : Ledger) → Enters context l (forward_call context xid kind remote arguments l)
unfolding forward_call forward_of
forward-enters context xid kind remote arguments l = by_address (address_asked context remote (rows_in l))
  where
    by_room : (registered : Uaddr) (b : Bool) → can_start context.forwards l.forwards ≡ b → Enters context l
        (cond b (answers.Forwarded, record l { forwards = with_next_entry context.clock (forward_of context xid kind remote registered) (args_of remote arguments) l.forwards }) (refuse context kind remote replies.SystemErr l))
    by_room registered true e = Begins refl (forward_of context xid kind remote registered) (args_of remote arguments) refl e refl
    by_room registered false e = Same (refused-now kind replies.SystemErr) refl

    by_address : (o : Option Uaddr) → Enters context l (forward_to context xid kind remote (args_of remote arguments) o l)
    by_address None = Same (refused-now kind replies.ProgUnavail) refl
    by_address (Some registered) = by_room registered (can_start context.forwards l.forwards) refl

answer-enters : (context : Context) (head : CallHead) (request : Request) (arguments : List ℕ) (l : Ledger) → Enters context l (answer_to context head request arguments l)
unfolding getaddr getversaddr
answer-enters context head (requests.Mapping mappings.Set m) arguments l = Same refl (set-enters context head _ l)
answer-enters context head (requests.Mapping mappings.Unset m) arguments l = Same refl (unset-enters context head m.prog m.vers _ l)
answer-enters context head (requests.Mapping mappings.Getport m) arguments l = Same refl (getport-enters context head m l)
answer-enters context head (requests.Rpcb rpcbs.Set r) arguments l = Same refl (set-enters context head _ l)
answer-enters context head (requests.Rpcb rpcbs.Unset r) arguments l = Same refl (unset-enters context head r.prog r.vers _ l)
answer-enters context head (requests.Rpcb rpcbs.Getaddr r) arguments l = Same refl refl
answer-enters context head (requests.Rpcb rpcbs.Getversaddr r) arguments l = Same refl refl
answer-enters context head (requests.Rpcb rpcbs.Getaddrlist r) arguments l = Same refl refl
answer-enters context head (requests.Void procedure) arguments l = Same refl refl
answer-enters context head (requests.Uaddr2taddr text) arguments l = Same refl refl
answer-enters context head (requests.Taddr2uaddr netbuf) arguments l = Same refl refl
answer-enters context head (requests.Forward kind remote) arguments l = forward-enters context head.xid kind remote arguments l

-- results are told at once
results-now : (caller : Caller) (count xid : ℕ) (bytes : List ℕ) (given : Results) → is_forwarded (results_outcome caller count xid bytes given) ≡ false
results-now caller count xid bytes given = grind arith

abbrev Served : Context → Ledger → Outcome × Ledger → Type 0
Served context l r = Entering context l.forwards r.1.forwards (is_forwarded r.0)

outcome-enters : (context : Context) (message : Message) (arguments : List ℕ) (l : Ledger) → Served context l (outcome context message arguments l)
unfolding outcome answer with_call_noted
outcome-enters context says.NoCall arguments l = Same refl refl
outcome-enters context (says.Refused head) arguments l = Same refl refl
outcome-enters context (says.Garbage head) arguments l = Same refl refl
outcome-enters context (says.Asked call) arguments l = by_answer (answer_to context call.head call.request arguments (with_call_noted call.head l)) (answer-enters context call.head call.request arguments (with_call_noted call.head l))
  where
    by_answer : (r : Answer × Ledger) → Entering context l.forwards r.1.forwards (answers_later r.0) → Served context l (reply_with context call.head.xid r)
    by_answer (answers.Results results, new) (Same e same) = Same (results-now context.caller (length new.changes) call.head.xid (result_bytes (shown_of new) results) results) same
    by_answer (answers.Results results, new) (Begins e forward args by can more) = absurd cc
    by_answer (answers.Refused status, new) (Same e same) = Same refl same
    by_answer (answers.Refused status, new) (Begins e forward args by can more) = absurd cc
    by_answer (answers.Forwarded, new) (Same e same) = absurd cc
    by_answer (answers.Forwarded, new) (Begins e forward args by can more) = Begins refl forward args by can more
    by_answer (answers.Silent, new) (Same e same) = Same refl same
    by_answer (answers.Silent, new) (Begins e forward args by can more) = absurd cc

pub serve-enters : (s : State) (caller : Caller) (content : List ℕ)
    → Entering (context_in s caller) s.ledger.forwards (serve s caller content).1.ledger.forwards (is_forwarded (serve s caller content).0)
unfolding serve
serve-enters s caller content = outcome-enters (context_in s caller) (message_of content) (arguments_of content) s.ledger
