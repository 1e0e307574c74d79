-- Calls and replies by what they are spelled from.
use Rattle.std.specs.Prelude.{◌≡◌, ℕ, ◌<◌, ◌≤◌, ◌↔◌, ◌⊎◌, List, ◌++◌, length, ⊤}
use Rattle.rb_xdr.specs.Xdr.{AreBytes, IsNumber, AreNumbers, IsContent, number}
use Rattle.rb_rpc.specs.Messages.{CallHead, Credential, AuthStat, SysBody, auth, max_auth_body, max_machine, max_gids}
use Rattle.rb_rpc.specs.CallBytes.{call_words, call_bytes, sys_bytes}
use Rattle.rb_rpc.specs.Verdict.{verdict}
use Rattle.rb_rpc.specs.declared.call.Verdict.TheVariants as verdicts
use Rattle.rb_rpc.specs.declared.auth.AuthStat.TheVariants as stats
use Rattle.rb_rpc.specs.declared.call.Credential.TheVariants as credentials
use Rattle.rb_rpc.specs.Replies.{ReplyStatus, reply_with, reply_head}
use Rattle.rb_rpc.specs.ReadReplies.{says, read_reply}
use Rattle.rb_rpc.specs.declared.reply.ReplyStatus.TheVariants.{Success, ProgUnavail, ProgMismatch, ProcUnavail, GarbageArgs, SystemErr, RpcMismatch, AuthError}

-- ---- parts of calls and replies

-- a flavor, and a body of at most 400 bytes
pub record IsAuth (flavor : ℕ) (body : List ℕ) : Type 0 where
  pub flavor_fits : IsNumber flavor
  pub body_fits : IsContent max_auth_body body

pub record IsSysBody (b : SysBody) : Type 0 where
  pub stamp : IsNumber b.stamp
  pub machine : IsContent max_machine b.machine
  pub uid : IsNumber b.uid
  pub gid : IsNumber b.gid
  pub gids : AreNumbers b.gids
  pub few_gids : length b.gids ≤ max_gids

-- The body begins with the fields of AUTH_SYS, and they say this uid.
pub record SaysUid (uid : ℕ) (body : List ℕ) : Type 0 where
  pub fields : SysBody
  pub rest : List ℕ
  pub fit : IsSysBody fields
  pub uid_is : fields.uid ≡ uid
  pub whole : body ≡ sys_bytes fields ++ rest

-- flavor AUTH_NONE with any body, or AUTH_SYS with a readable one
abbrev pub SaysCaller : Credential → ℕ → List ℕ → Type 0
SaysCaller credentials.None flavor body = flavor ≡ 0
SaysCaller (credentials.Sys uid) flavor body = (flavor ≡ 1) × SaysUid uid body

pub record IsHead (head : CallHead) : Type 0 where
  pub xid : IsNumber head.xid
  pub prog : IsNumber head.prog
  pub vers : IsNumber head.vers
  pub proc : IsNumber head.proc

-- ---- calls

-- The bytes begin with a call of this head, which ends at the place: its words, a credential and a verifier.
-- CALL-3: A message that CALL-1, CALL-2, RPCVERS-1, CRED and VERF do not refuse is a call. It is
-- read as its words (xid, program, version and procedure), its credential (none, or the uid of
-- AUTH_SYS), and the place after the verifier, where its arguments begin.
pub record BeginsWithCall (head : CallHead) (place : ℕ) (bytes : List ℕ) : Type 0 where
  pub flavor : ℕ
  pub body : List ℕ
  pub verifier_flavor : ℕ
  pub verifier_body : List ℕ
  pub rest : List ℕ
  pub head_fits : IsHead head
  pub credential_fits : IsAuth flavor body
  pub caller : SaysCaller head.cred flavor body
  pub verifier_fits : IsAuth verifier_flavor verifier_body
  pub whole : bytes ≡ (call_words head ++ auth flavor body ++ auth verifier_flavor verifier_body) ++ rest
  pub place_is : place ≡ length (call_words head ++ auth flavor body ++ auth verifier_flavor verifier_body)

abbrev pub VerdictIsOfTheGrammar : Type 0
VerdictIsOfTheGrammar =
    (bytes : List ℕ) → AreBytes bytes → (head : CallHead) (place : ℕ) → (verdict bytes ≡ verdicts.Call head place) ↔ BeginsWithCall head place bytes

-- ---- refusals, in their order

-- The bytes begin with xid, CALL, and another version of RPC than 2.
-- RPCVERS-1: A call whose rpcvers is not 2 is answered RPC_MISMATCH, low 2, high 2, whatever
-- follows the word of the version.
pub record BeginsWithOtherVersion (xid : ℕ) (bytes : List ℕ) : Type 0 where
  pub version : ℕ
  pub rest : List ℕ
  pub xid_fits : IsNumber xid
  pub version_fits : IsNumber version
  pub other : version ≡ 2 → ⊥
  pub whole : bytes ≡ (number xid ++ number 0 ++ number version) ++ rest

-- They begin with the six words of a call by this xid, and these bytes are after them.
pub record BeginsWithWords (xid : ℕ) (rest bytes : List ℕ) : Type 0 where
  pub head : CallHead
  pub head_fits : IsHead head
  pub xid_is : head.xid ≡ xid
  pub whole : bytes ≡ call_words head ++ rest

-- They begin with a flavor and a length of more than 400.
pub record BeginsOverLong (bytes : List ℕ) : Type 0 where
  pub flavor : ℕ
  pub len : ℕ
  pub rest : List ℕ
  pub flavor_fits : IsNumber flavor
  pub len_fits : IsNumber len
  pub over : max_auth_body < len
  pub whole : bytes ≡ (number flavor ++ number len) ++ rest

-- a call's words, and a credential that is over-long
-- CRED-1
pub record HasLongCredential (xid : ℕ) (bytes : List ℕ) : Type 0 where
  pub rest : List ℕ
  pub words : BeginsWithWords xid rest bytes
  pub credential : BeginsOverLong rest

-- VERF-1: A verifier whose length word is there and over 400 is answered AUTH_ERROR AUTH_BADVERF,
-- before the credential's flavor is checked.
pub record HasLongVerifier (xid : ℕ) (bytes : List ℕ) : Type 0 where
  pub flavor : ℕ
  pub body : List ℕ
  pub rest : List ℕ
  pub credential_fits : IsAuth flavor body
  pub words : BeginsWithWords xid (auth flavor body ++ rest) bytes
  pub verifier : BeginsOverLong rest

-- a call's words, a credential of this flavor and body, and a verifier
pub record HasAuths (xid flavor : ℕ) (body bytes : List ℕ) : Type 0 where
  pub verifier_flavor : ℕ
  pub verifier_body : List ℕ
  pub rest : List ℕ
  pub credential_fits : IsAuth flavor body
  pub verifier_fits : IsAuth verifier_flavor verifier_body
  pub words : BeginsWithWords xid (auth flavor body ++ (auth verifier_flavor verifier_body ++ rest)) bytes

-- these, with a flavor that is neither AUTH_NONE nor AUTH_SYS
-- CRED-3: A credential of another flavor than AUTH_NONE and AUTH_SYS is answered AUTH_ERROR
-- AUTH_REJECTEDCRED, once its verifier was read.
pub record HasOtherFlavor (xid : ℕ) (bytes : List ℕ) : Type 0 where
  pub flavor : ℕ
  pub body : List ℕ
  pub auths : HasAuths xid flavor body bytes
  pub other : 1 < flavor

-- these, with the flavor AUTH_SYS, and a body that begins with no fields of AUTH_SYS
-- CRED-4
pub record HasUnreadableBody (xid : ℕ) (bytes : List ℕ) : Type 0 where
  pub body : List ℕ
  pub auths : HasAuths xid 1 body bytes
  pub unreadable : (uid : ℕ) → SaysUid uid body → ⊥

-- the calls that are answered by AUTH_ERROR, by the reason
abbrev pub HasBadAuth : ℕ → AuthStat → List ℕ → Type 0
HasBadAuth xid stats.BadCredential bytes = HasLongCredential xid bytes ⊎ HasUnreadableBody xid bytes
HasBadAuth xid stats.BadVerifier bytes = HasLongVerifier xid bytes
HasBadAuth xid stats.RejectedCredential bytes = HasOtherFlavor xid bytes
HasBadAuth xid stat bytes = ⊥

abbrev pub MismatchesAreOfTheGrammar : Type 0
MismatchesAreOfTheGrammar =
    (bytes : List ℕ) → AreBytes bytes → (xid : ℕ) → (verdict bytes ≡ verdicts.RpcMismatch xid) ↔ BeginsWithOtherVersion xid bytes

abbrev pub AuthErrorsAreOfTheGrammar : Type 0
AuthErrorsAreOfTheGrammar =
    (bytes : List ℕ) → AreBytes bytes → (xid : ℕ) (stat : AuthStat) → (verdict bytes ≡ verdicts.AuthError xid stat) ↔ HasBadAuth xid stat bytes

-- neither a call nor one of these
-- CALL-1 CALL-2 CRED-2 VERF-2 DATAGRAM-1
pub record IsNoCall (bytes : List ℕ) : Type 0 where
  pub no_mismatch : (xid : ℕ) → BeginsWithOtherVersion xid bytes → ⊥
  pub no_bad_auth : (xid : ℕ) (stat : AuthStat) → HasBadAuth xid stat bytes → ⊥
  pub no_call : (head : CallHead) (place : ℕ) → BeginsWithCall head place bytes → ⊥

abbrev pub TheRestIsNoCall : Type 0
TheRestIsNoCall = (bytes : List ℕ) → AreBytes bytes → (verdict bytes ≡ verdicts.NoCall) ↔ IsNoCall bytes

-- ---- replies

-- the numbers that a reply's status carries
abbrev pub IsReplyStatus : ReplyStatus → Type 0
IsReplyStatus (ProgMismatch low high) = IsNumber low × IsNumber high
IsReplyStatus (RpcMismatch low high) = IsNumber low × IsNumber high
IsReplyStatus (AuthError stat) = ⊤
IsReplyStatus Success = ⊤
IsReplyStatus ProgUnavail = ⊤
IsReplyStatus ProcUnavail = ⊤
IsReplyStatus GarbageArgs = ⊤
IsReplyStatus SystemErr = ⊤

-- The bytes begin with a reply that says this, with any verifier if it has one, and it ends at the place.
-- REPLY-2: A reply is read if and only if the bytes begin with one; its verifier may have any
-- flavor and at most 400 bytes.
pub record BeginsWithReply (xid : ℕ) (status : ReplyStatus) (place : ℕ) (bytes : List ℕ) : Type 0 where
  pub flavor : ℕ
  pub body : List ℕ
  pub rest : List ℕ
  pub xid_fits : IsNumber xid
  pub status_fits : IsReplyStatus status
  pub verifier_fits : IsAuth flavor body
  pub whole : bytes ≡ reply_with (auth flavor body) xid status ++ rest
  pub place_is : place ≡ length (reply_with (auth flavor body) xid status)

abbrev pub RepliesAreOfTheGrammar : Type 0
RepliesAreOfTheGrammar =
    (bytes : List ℕ) → AreBytes bytes → (xid : ℕ) (status : ReplyStatus) (place : ℕ)
    → (read_reply bytes ≡ says xid status place) ↔ BeginsWithReply xid status place bytes

-- what is written is read, whatever results follow
abbrev pub WrittenRepliesAreRead : Type 0
WrittenRepliesAreRead =
    (xid : ℕ) (status : ReplyStatus) (results : List ℕ) → IsNumber xid → IsReplyStatus status
    → read_reply (reply_head xid status ++ results) ≡ says xid status (length (reply_head xid status))

-- the uid of a caller is a number
abbrev pub IsCaller : Credential → Type 0
IsCaller credentials.None = ⊤
IsCaller (credentials.Sys uid) = IsNumber uid

-- CALL-4
abbrev pub WrittenCallsAreRead : Type 0
WrittenCallsAreRead =
    (head : CallHead) (arguments : List ℕ) → IsHead head → IsCaller head.cred
    → verdict (call_bytes head ++ arguments) ≡ verdicts.Call head (length (call_bytes head))
