-- The head of a call word by word (RFC 5531 section 9), and the verdict when it has come so far.
use Rattle.std.specs.Prelude.{ℕ, ◌+◌, ◌-◌, ◌==◌, nat_lt, Bool, true, false, if◌then◌else◌}
use Rattle.rb_xdr.specs.Xdr.{residue}
use Rattle.rb_rpc.specs.Messages.{max_auth_body}
use Rattle.rb_rpc.specs.declared.call.CallHead.{CallHead}
use Rattle.rb_rpc.specs.declared.call.Credential.{Credential}
use Rattle.rb_rpc.specs.declared.call.Verdict.{Verdict}
use Rattle.rb_rpc.specs.declared.call.Verdict.TheVariants as verdicts
use Rattle.rb_rpc.specs.declared.call.Credential.TheVariants as credentials
use Rattle.rb_rpc.specs.declared.auth.AuthStat.TheVariants as stats
use Rattle.rb_rpc.specs.declared.sys_fields.SysField.TheVariants as fields
use Rattle.rb_rpc.specs.declared.stage.Claim.TheVariants as claims
use Rattle.rb_rpc.specs.declared.stage.Stage.TheVariants as stages
use Rattle.rb_rpc.specs.SysFields.{SysField, ends_in_zeros, field_after}
pub use Rattle.rb_rpc.specs.declared.stage.CallWords.{CallWords}
pub use Rattle.rb_rpc.specs.declared.stage.Claim.{Claim}
pub use Rattle.rb_rpc.specs.declared.stage.Stage.{Stage}

-- ---- credentials

abbrev pub sys_claim : SysField → Claim
sys_claim fields.Stamp = claims.Unreadable
sys_claim fields.NameLength = claims.Unreadable
sys_claim (fields.Name left) = claims.Unreadable
sys_claim fields.Uid = claims.Unreadable
sys_claim (fields.Gid uid) = claims.Unreadable
sys_claim (fields.GidCount uid) = claims.Unreadable
sys_claim (fields.Gids uid left) = claims.Unreadable
sys_claim (fields.Whole uid) = claims.Taken (credentials.Sys uid)
sys_claim fields.Unreadable = claims.Unreadable

-- a whole credential of this flavor, whose body was read so far as one of AUTH_SYS (section 8.2: AUTH_NONE is 0, AUTH_SYS is 1)
unfoldable pub claim_of : ℕ → SysField → Claim
claim_of flavor field =
    if flavor == 0 then claims.Taken credentials.None
    else if nat_lt 1 flavor then claims.Rejected
    else sys_claim field

-- ---- one more word

-- after the credential's length word
unfoldable pub credential_before : CallWords → ℕ → ℕ → Stage
credential_before call flavor len =
    if nat_lt max_auth_body len then stages.BadCredential call.xid
    else if len == 0 then stages.VerifierFlavor call (claim_of flavor fields.Stamp) len
    else stages.CredentialBody call flavor len len fields.Stamp

-- after a word of the credential's body, of which this many bytes were to come
unfoldable pub credential_after : CallWords → ℕ → ℕ → ℕ → SysField → ℕ → Stage
credential_after call flavor len left field w =
    if nat_lt 4 left then stages.CredentialBody call flavor len (left - 4) (field_after field w)
    else if ends_in_zeros left w then stages.VerifierFlavor call (claim_of flavor (if left == 4 then field_after field w else field)) len
    else stages.NoCall

abbrev pub head_of : CallWords → Credential → CallHead
head_of call cred = record { xid = call.xid; prog = call.prog; vers = call.vers; proc = call.proc; cred = cred }

-- after the verifier, if the arguments begin at this place
unfoldable pub stage_behind : CallWords → Claim → ℕ → Stage
stage_behind call (claims.Taken cred) place = stages.Arguments (head_of call cred) place
stage_behind call claims.Unreadable place = stages.BadCredential call.xid
stage_behind call claims.Rejected place = stages.RejectedCredential call.xid

-- six words, and two times a flavor, a length word, a body and its residual bytes
abbrev pub arguments_at : ℕ → ℕ → ℕ
arguments_at len verifier_len = 40 + len + residue len + verifier_len + residue verifier_len

-- after the verifier's length word
unfoldable pub verifier_before : CallWords → Claim → ℕ → ℕ → Stage
verifier_before call claim len verifier_len =
    if nat_lt max_auth_body verifier_len then stages.BadVerifier call.xid
    else if verifier_len == 0 then stage_behind call claim (arguments_at len verifier_len)
    else stages.VerifierBody call claim (arguments_at len verifier_len) verifier_len

-- after a word of the verifier's body, of which this many bytes were to come
unfoldable pub verifier_after : CallWords → Claim → ℕ → ℕ → ℕ → Stage
verifier_after call claim place left w =
    if nat_lt 4 left then stages.VerifierBody call claim place (left - 4)
    else if ends_in_zeros left w then stage_behind call claim place
    else stages.NoCall

unfoldable pub stage_after : Stage → ℕ → Stage
stage_after stages.Xid w = stages.MessageType w
stage_after (stages.MessageType xid) w = if w == 0 then stages.RpcVersion xid else stages.NoCall
stage_after (stages.RpcVersion xid) w = if w == 2 then stages.Prog xid else stages.RpcMismatch xid
stage_after (stages.Prog xid) w = stages.Vers xid w
stage_after (stages.Vers xid prog) w = stages.Proc xid prog w
stage_after (stages.Proc xid prog vers) w = stages.CredentialFlavor (record { xid = xid; prog = prog; vers = vers; proc = w })
stage_after (stages.CredentialFlavor call) w = stages.CredentialLength call w
stage_after (stages.CredentialLength call flavor) w = credential_before call flavor w
stage_after (stages.CredentialBody call flavor len left field) w = credential_after call flavor len left field w
stage_after (stages.VerifierFlavor call claim len) w = stages.VerifierLength call claim len
stage_after (stages.VerifierLength call claim len) w = verifier_before call claim len w
stage_after (stages.VerifierBody call claim place left) w = verifier_after call claim place left w
stage_after (stages.Arguments head place) w = stages.Arguments head place
stage_after stages.NoCall w = stages.NoCall
stage_after (stages.RpcMismatch xid) w = stages.RpcMismatch xid
stage_after (stages.BadCredential xid) w = stages.BadCredential xid
stage_after (stages.RejectedCredential xid) w = stages.RejectedCredential xid
stage_after (stages.BadVerifier xid) w = stages.BadVerifier xid

-- ---- the verdict there

unfoldable pub verdict_at : Stage → Verdict
verdict_at stages.Xid = verdicts.NoCall
verdict_at (stages.MessageType xid) = verdicts.NoCall
verdict_at (stages.RpcVersion xid) = verdicts.NoCall
verdict_at (stages.Prog xid) = verdicts.NoCall
verdict_at (stages.Vers xid prog) = verdicts.NoCall
verdict_at (stages.Proc xid prog vers) = verdicts.NoCall
verdict_at (stages.CredentialFlavor call) = verdicts.NoCall
verdict_at (stages.CredentialLength call flavor) = verdicts.NoCall
verdict_at (stages.CredentialBody call flavor len left field) = verdicts.NoCall
verdict_at (stages.VerifierFlavor call claim len) = verdicts.NoCall
verdict_at (stages.VerifierLength call claim len) = verdicts.NoCall
verdict_at (stages.VerifierBody call claim place left) = verdicts.NoCall
verdict_at (stages.Arguments head place) = verdicts.Call head place
verdict_at stages.NoCall = verdicts.NoCall
verdict_at (stages.RpcMismatch xid) = verdicts.RpcMismatch xid
verdict_at (stages.BadCredential xid) = verdicts.AuthError xid stats.BadCredential
verdict_at (stages.RejectedCredential xid) = verdicts.AuthError xid stats.RejectedCredential
verdict_at (stages.BadVerifier xid) = verdicts.AuthError xid stats.BadVerifier

abbrev pub is_call : Verdict → Bool
is_call (verdicts.Call head place) = true
is_call verdicts.NoCall = false
is_call (verdicts.RpcMismatch xid) = false
is_call (verdicts.AuthError xid stat) = false
