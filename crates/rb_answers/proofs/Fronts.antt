-- A call is answered the same whatever stands after its arguments.
use Rattle.std.proofs.Common.{◌≡◌, ◌≤◌, ◌+◌, ◌-◌, ℕ, List, take, drop, refl, ap, ◌∙◌, arith}
use Rattle.std.proofs.lemmas.List.{length-take, drop-take, take-take}
use Rattle.rb_rpc.specs.declared.call.CallHead.{CallHead}
use Rattle.rb_arguments.specs.declared.remote.RemoteCall.{RemoteCall}
use Rattle.rb_arguments.specs.declared.procedure.MappingProcedure.TheVariants as mappings
use Rattle.rb_arguments.specs.declared.procedure.RpcbProcedure.TheVariants as rpcbs
use Rattle.rb_arguments.specs.declared.request.Request.TheVariants.{Void, Mapping, Rpcb, Uaddr2taddr, Taddr2uaddr, Forward}
use Rattle.rb_arguments.specs.declared.request.Request.{Request}
use Rattle.rb_arguments.specs.Arguments.{HasArgs}
use Rattle.rb_arguments.specs.Remote.{args_of, HasContent}
use Rattle.rb_answers.specs.Ledger.{Ledger, rows_in}
use Rattle.rb_answers.specs.Forwarding.{address_asked, forward_to, forward_call}
use Rattle.rb_answers.specs.Answers.{Context, Call, answer_to, answer}

args_of_front : (remote : RemoteCall) (n : ℕ) (bytes : List ℕ) → HasContent remote (take n bytes) → args_of remote (take n bytes) ≡ args_of remote bytes
args_of_front remote n bytes has =
    let count : ℕ = 16 + remote.count - 16 in
    let enough : 16 + remote.count ≤ n = omega (arith, has.within, length-take n bytes) in
    let size : n ≡ 16 + (n - 16) = omega (arith, enough) in
    ap (λ (k : ℕ). take count (drop 16 (take k bytes))) size
    ∙ ap (λ (xs : List ℕ). take count xs) (drop-take 16 (n - 16) bytes)
    ∙ take-take count (n - 16) (drop 16 bytes) (omega (arith, enough))

answer_to_front : (context : Context) (head : CallHead) (request : Request) (n : ℕ) (bytes : List ℕ) (l : Ledger)
    → HasArgs request (take n bytes) → answer_to context head request (take n bytes) l ≡ answer_to context head request bytes l
unfolding forward_call
answer_to_front context head (Void procedure) n bytes l has = refl
answer_to_front context head (Mapping mappings.Set m) n bytes l has = refl
answer_to_front context head (Mapping mappings.Unset m) n bytes l has = refl
answer_to_front context head (Mapping mappings.Getport m) n bytes l has = refl
answer_to_front context head (Rpcb rpcbs.Set r) n bytes l has = refl
answer_to_front context head (Rpcb rpcbs.Unset r) n bytes l has = refl
answer_to_front context head (Rpcb rpcbs.Getaddr r) n bytes l has = refl
answer_to_front context head (Rpcb rpcbs.Getversaddr r) n bytes l has = refl
answer_to_front context head (Rpcb rpcbs.Getaddrlist r) n bytes l has = refl
answer_to_front context head (Uaddr2taddr text) n bytes l has = refl
answer_to_front context head (Taddr2uaddr netbuf) n bytes l has = refl
answer_to_front context head (Forward kind remote) n bytes l has =
    ap (λ (args : List ℕ). forward_to context head.xid kind remote args (address_asked context remote (rows_in l)) l) (args_of_front remote n bytes has)

pub answer_of_front : (context : Context) (call : Call) (n : ℕ) (bytes : List ℕ) (l : Ledger)
    → HasArgs call.request (take n bytes) → answer context call (take n bytes) l ≡ answer context call bytes l
unfolding answer
answer_of_front context call n bytes l has = answer_to_front context call.head call.request n bytes l has
