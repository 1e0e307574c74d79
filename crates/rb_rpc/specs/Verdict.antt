-- The verdict on the data of a record, or on a datagram (RFC 5531 section 9): the first line that holds of the whole list.
use Rattle.std.specs.Prelude.{ℕ, ◌+◌, ◌≤◌, ⊤, ◌==◌, nat_lt, not, Bool, ◌&&◌, ◌||◌, if◌then◌else◌, List, length, take, drop, slice_range, Option, Some, None}
use Rattle.std.specs.Option.{is_some}
use Rattle.rb_xdr.specs.Xdr.{number_at, word, residue, are_zero}
use Rattle.rb_rpc.specs.Messages.{CallHead, Credential, max_auth_body, body_of_sys, uid_of}
use Rattle.rb_rpc.specs.declared.call.Verdict.TheVariants.{NoCall, RpcMismatch, AuthError, Call}
use Rattle.rb_rpc.specs.declared.call.Credential.TheVariants as credentials
use Rattle.rb_rpc.specs.declared.auth.AuthStat.TheVariants as stats
pub use Rattle.rb_rpc.specs.declared.call.Verdict.{Verdict}

-- ---- opaque_auth at a place: the flavor, the length word, the body and its residual bytes (section 8.2)

-- where its body begins and where the residual bytes begin; where it ends
abbrev pub body_at : ℕ → ℕ
body_at place = place + 8

unfoldable pub body_length : ℕ → List ℕ → ℕ
body_length place bytes = number_at (place + 4) bytes

unfoldable pub auth_end : ℕ → List ℕ → ℕ
auth_end place bytes = body_at place + body_length place bytes + residue (body_length place bytes)

-- CRED-1: A credential whose length word is there and over 400 is answered AUTH_ERROR AUTH_BADCRED,
-- whatever follows.
unfoldable pub is_over_long : ℕ → List ℕ → Bool
is_over_long place bytes = not (nat_lt (length bytes) (body_at place)) && nat_lt max_auth_body (body_length place bytes)

-- CRED-2: A credential that is cut short, or has a residual byte that is not zero, makes it no
-- call.
-- VERF-2: A verifier that is cut short, or has a residual byte that is not zero, makes it no call;
-- any flavor is taken.
unfoldable pub is_broken : ℕ → List ℕ → Bool
is_broken place bytes =
    nat_lt (length bytes) (auth_end place bytes)
    || not (are_zero (slice_range bytes (body_at place + body_length place bytes) (auth_end place bytes)))

-- ---- places and fields of a call

-- the credential stands after six words: xid, mtype, rpcvers, prog, vers, proc
abbrev pub credential_at : ℕ
credential_at = 24

unfoldable pub credential_end : List ℕ → ℕ
credential_end bytes = auth_end credential_at bytes

-- the verifier stands after the credential, and the arguments after the verifier
unfoldable pub verifier_end : List ℕ → ℕ
verifier_end bytes = auth_end (credential_end bytes) bytes

abbrev pub credential_flavor : List ℕ → ℕ
credential_flavor bytes = word 6 bytes

abbrev pub credential_body : List ℕ → List ℕ
credential_body bytes = take (body_length credential_at bytes) (drop (body_at credential_at) bytes)

-- the uid that the credential's body says as one of AUTH_SYS
unfoldable pub sys_uid : List ℕ → Option ℕ
sys_uid bytes = uid_of (body_of_sys (credential_body bytes))

-- AUTH_NONE, or AUTH_SYS if it could be read
abbrev pub caller_of : Option ℕ → Credential
caller_of (Some uid) = credentials.Sys uid
caller_of None = credentials.None

abbrev pub head_of : List ℕ → CallHead
head_of bytes = record {
  xid = word 0 bytes;
  prog = word 3 bytes;
  vers = word 4 bytes;
  proc = word 5 bytes;
  cred = if credential_flavor bytes == 0 then credentials.None else caller_of (sys_uid bytes);
}

-- The first line that holds decides.
-- CALL-1: A message of fewer than 12 bytes, or whose mtype is not CALL, is no call.
-- CALL-2: A call of version 2 that is cut short within its six words is no call.
-- RPCVERS-1 VERF-1 CRED-3 CALL-3 FEED-1
unfoldable pub verdict : List ℕ → Verdict
verdict bytes =
    if nat_lt (length bytes) 12 || not (word 1 bytes == 0) then NoCall
    else if not (word 2 bytes == 2) then RpcMismatch (word 0 bytes)
    else if nat_lt (length bytes) 24 then NoCall
    else if is_over_long credential_at bytes then AuthError (word 0 bytes) stats.BadCredential
    else if is_broken credential_at bytes then NoCall
    else if is_over_long (credential_end bytes) bytes then AuthError (word 0 bytes) stats.BadVerifier
    else if is_broken (credential_end bytes) bytes then NoCall
    else if nat_lt 1 (credential_flavor bytes) then AuthError (word 0 bytes) stats.RejectedCredential
    else if credential_flavor bytes == 1 && not (is_some (sys_uid bytes)) then AuthError (word 0 bytes) stats.BadCredential
    else Call (head_of bytes) (verifier_end bytes)

-- The head of a call ends within this many bytes.
abbrev pub EndsWithin : Verdict → ℕ → Type 0
EndsWithin (Call head place) len = place ≤ len
EndsWithin NoCall len = ⊤
EndsWithin (RpcMismatch xid) len = ⊤
EndsWithin (AuthError xid stat) len = ⊤
