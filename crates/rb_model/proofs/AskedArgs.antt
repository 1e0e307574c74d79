-- The bytes that a call was read from have its arguments.
use Rattle.std.specs.Prelude.{IfOk, option_map}
use Rattle.std.proofs.Common.{◌≡◌, ℕ, List, Option, Some, Result, Ok, Err, refl, subst, arith}
use Rattle.std.proofs.lemmas.Grind.{common_steps}
use Rattle.rb_xdr.specs.Xdr.{Reading}
use Rattle.rb_rpc.specs.declared.call.CallHead.{CallHead}
use Rattle.rb_rpc.specs.declared.call.Verdict.{Verdict}
use Rattle.rb_arguments.specs.declared.procedure.Procedure.{Procedure}
use Rattle.rb_arguments.specs.declared.remote.RemoteCall.{RemoteCall}
use Rattle.rb_arguments.specs.declared.request.ArgumentFault.{ArgumentFault}
use Rattle.rb_arguments.specs.declared.request.Request.{Request}
use Rattle.rb_arguments.specs.Remote.{read_remote, HasContent}
use Rattle.rb_arguments.specs.Arguments.{value_of, front, arguments, request, read_request, HasArgs}
use Rattle.rb_arguments.proofs.Remotes.{content_is_there}
use Rattle.rb_model.specs.Calls.{request_of, call_of, message_with}
use Rattle.rb_model.specs.Grammar.{HasArgsIn}

-- the request that was made of what was read
made_has : {A : Type 0} (made : A → Request) (bytes : List ℕ) (o : Option A) → ((a : A) → o ≡ Some a → HasArgs (made a) bytes) → (q : Request) → option_map made o ≡ Some q → HasArgs q bytes
made_has made bytes o has q is = grind arith

remote_there : (bytes : List ℕ) (remote : RemoteCall) → front read_remote bytes ≡ Some remote → HasContent remote bytes
remote_there bytes remote is = by_reading (read_remote bytes) refl is
  where
    by_reading : (r : Reading RemoteCall) → read_remote bytes ≡ r → value_of r ≡ Some remote → HasContent remote bytes
    by_reading (Ok read) e is = let same : read.0 ≡ remote = cc in subst (λ (call : RemoteCall). HasContent call bytes) same (content_is_there bytes read.0 read.1 e)
    by_reading (Err fault) e is = absurd cc

arguments_there : (procedure : Procedure) (bytes : List ℕ) (q : Request) → arguments procedure bytes ≡ Some q → HasArgs q bytes
unfolding arguments
arguments_there procedure bytes q is = grind (arith, common_steps, made_has, remote_there)

request_there : (vers proc : ℕ) (bytes : List ℕ) (q : Request) → request vers proc bytes ≡ Some q → HasArgs q bytes
unfolding request
request_there vers proc bytes q is = grind (arith, common_steps, arguments_there)

read_there : (vers proc : ℕ) (bytes : List ℕ) (q : Request) → read_request vers proc bytes ≡ Ok q → HasArgs q bytes
read_there vers proc bytes q is = grind (arith, common_steps, request_there)

-- what a request of these arguments says has them
pub request_says : (head : CallHead) (r : Result Request ArgumentFault) (bytes : List ℕ) → IfOk r (λ q. HasArgs q bytes) → HasArgsIn (request_of head r) bytes
unfolding request_of
request_says head r bytes has = grind arith

read_has : (vers proc : ℕ) (bytes : List ℕ) → IfOk (read_request vers proc bytes) (λ q. HasArgs q bytes)
read_has vers proc bytes = grind (arith, common_steps, read_there)

call_has : (head : CallHead) (bytes : List ℕ) → HasArgsIn (call_of head bytes) bytes
unfolding call_of
call_has head bytes = grind (arith, common_steps, request_says, read_has)

pub message_has : (v : Verdict) (bytes : List ℕ) → HasArgsIn (message_with v bytes) bytes
message_has v bytes = grind (arith, common_steps, call_has)
