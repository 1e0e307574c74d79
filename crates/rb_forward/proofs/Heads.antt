-- The head of a call with AUTH_NONE.
use Rattle.std.proofs.Common.{◌≡◌, length, refl}
use Rattle.rb_xdr.specs.Xdr.{number, opaque}
use Rattle.rb_rpc.specs.CallBytes.{call_bytes}
use Rattle.rb_rpc.specs.declared.call.CallHead.{CallHead}
use Rattle.rb_rpc.specs.declared.call.Credential.TheVariants as credentials

pub length-head : (head : CallHead) → head.cred ≡ credentials.None → length (call_bytes head) ≡ 40
unfolding call_bytes number opaque
length-head head h = rw h refl

pub ruleset heads = (length-head)
