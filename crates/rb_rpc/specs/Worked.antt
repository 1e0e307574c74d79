-- Worked examples, word by word.
use Rattle.std.specs.Prelude.{◌≡◌, ℕ, List, [], ◌∷◌, ◌++◌, length, take, replicate, map, Some, None}
use Rattle.rb_xdr.specs.Xdr.{words}
use Rattle.rb_rpc.specs.Messages.{CallHead, Credential}
use Rattle.rb_rpc.specs.CallBytes.{call_bytes}
use Rattle.rb_rpc.specs.Verdict.{verdict}
use Rattle.rb_rpc.specs.Replies.{reply_head}
use Rattle.rb_rpc.specs.ReadReplies.{says, read_reply}
use Rattle.rb_rpc.specs.declared.call.Verdict.TheVariants as verdicts
use Rattle.rb_rpc.specs.declared.call.Credential.TheVariants as credentials
use Rattle.rb_rpc.specs.declared.auth.AuthStat.TheVariants as stats
use Rattle.rb_rpc.specs.declared.reply.ReplyStatus.TheVariants as replies
use Rattle.rb_rpc.specs.Records.{first_record, data_of, marked_reply, reply_fragments}

-- the head with AUTH_NONE, and the one with AUTH_SYS of a uid; program 100000
abbrev pub with_none : ℕ → ℕ → ℕ → List ℕ
with_none xid vers proc = words (xid ∷ 0 ∷ 2 ∷ 0x186a0 ∷ vers ∷ proc ∷ 0 ∷ 0 ∷ 0 ∷ 0 ∷ [])

abbrev pub with_sys : ℕ → ℕ → ℕ → ℕ → List ℕ
with_sys xid vers proc uid = words (xid ∷ 0 ∷ 2 ∷ 0x186a0 ∷ vers ∷ proc ∷ 1 ∷ 20 ∷ 0 ∷ 0 ∷ uid ∷ 0 ∷ 0 ∷ 0 ∷ 0 ∷ [])

abbrev pub head : ℕ → ℕ → ℕ → ℕ → Credential → CallHead
head xid prog vers proc cred = record { xid = xid; prog = prog; vers = vers; proc = proc; cred = cred }

-- the reply with this accept_stat
abbrev pub answer : ℕ → ℕ → List ℕ
answer xid stat = words (xid ∷ 1 ∷ 0 ∷ 0 ∷ 0 ∷ stat ∷ [])

-- ---- verdicts

-- NULL of version 2, by AUTH_NONE and by AUTH_SYS with uid 500; bytes after it count for nothing
abbrev pub NullCall : Type 0
NullCall = verdict (with_none 1 2 0) ≡ verdicts.Call (head 1 100000 2 0 credentials.None) 40

abbrev pub NullCallAndMore : Type 0
NullCallAndMore = verdict (with_none 1 2 0 ++ replicate 100 255) ≡ verdicts.Call (head 1 100000 2 0 credentials.None) 40

abbrev pub NullCallBySys : Type 0
NullCallBySys = verdict (with_sys 1 2 0 500) ≡ verdicts.Call (head 1 100000 2 0 (credentials.Sys 500)) 60

-- RPC version 3; without the word of the version
abbrev pub OtherRpcVersion : Type 0
OtherRpcVersion = verdict (words (5 ∷ 0 ∷ 3 ∷ [])) ≡ verdicts.RpcMismatch 5

abbrev pub TooShort : Type 0
TooShort = verdict (words (5 ∷ 0 ∷ [])) ≡ verdicts.NoCall

-- a credential of 400 bytes, and one that says 401
abbrev pub credential_of : ℕ → List ℕ
credential_of count = words (9 ∷ 0 ∷ 2 ∷ 0x186a0 ∷ 2 ∷ 0 ∷ 0 ∷ count ∷ []) ++ replicate 400 7 ++ words (0 ∷ 0 ∷ [])

abbrev pub GreatestCredential : Type 0
GreatestCredential = verdict (credential_of 400) ≡ verdicts.Call (head 9 100000 2 0 credentials.None) 440

abbrev pub OverlongCredential : Type 0
OverlongCredential = verdict (credential_of 401) ≡ verdicts.AuthError 9 stats.BadCredential

abbrev pub HugeCredential : Type 0
HugeCredential = verdict (credential_of 0xffffffff) ≡ verdicts.AuthError 9 stats.BadCredential

-- flavor RPCSEC_GSS, of a program that is not there
abbrev pub OtherFlavor : Type 0
OtherFlavor = verdict (words (10 ∷ 0 ∷ 2 ∷ 200009 ∷ 2 ∷ 0 ∷ 6 ∷ 0 ∷ 0 ∷ 0 ∷ [])) ≡ verdicts.AuthError 10 stats.RejectedCredential

-- an AUTH_SYS body that ends before gids
abbrev pub SysBodyCutShort : Type 0
SysBodyCutShort = verdict (words (11 ∷ 0 ∷ 2 ∷ 0x186a0 ∷ 2 ∷ 0 ∷ 1 ∷ 16 ∷ 0 ∷ 0 ∷ 500 ∷ 0 ∷ 0 ∷ 0 ∷ [])) ≡ verdicts.AuthError 11 stats.BadCredential

abbrev pub OverlongVerifier : Type 0
OverlongVerifier = verdict (words (12 ∷ 0 ∷ 2 ∷ 0x186a0 ∷ 2 ∷ 0 ∷ 0 ∷ 0 ∷ 0 ∷ 0x191 ∷ [])) ≡ verdicts.AuthError 12 stats.BadVerifier

-- a residual byte that is not zero, and one that is
abbrev pub BadResidue : Type 0
BadResidue = verdict (words (13 ∷ 0 ∷ 2 ∷ 0x186a0 ∷ 2 ∷ 0 ∷ 0 ∷ 1 ∷ 0xff000001 ∷ 0 ∷ 0 ∷ [])) ≡ verdicts.NoCall

abbrev pub GoodResidue : Type 0
GoodResidue = verdict (words (13 ∷ 0 ∷ 2 ∷ 0x186a0 ∷ 2 ∷ 0 ∷ 0 ∷ 1 ∷ 0xff000000 ∷ 0 ∷ 0 ∷ [])) ≡ verdicts.Call (head 13 100000 2 0 credentials.None) 44

-- the bytes without their last ones, from none of them on
abbrev pub proper_fronts : List ℕ → List (List ℕ)
proper_fronts [] = []
proper_fronts (b ∷ more) = [] ∷ map (λ front. b ∷ front) (proper_fronts more)

-- SET by AUTH_SYS is no call wherever it is cut in the head
abbrev pub CutCalls : Type 0
CutCalls = map verdict (proper_fronts (with_sys 1 2 1 500)) ≡ replicate 60 verdicts.NoCall

-- the version of RPC decides from its word on, and an overlong credential from its length word on
abbrev pub CutMismatches : Type 0
CutMismatches = map verdict (proper_fronts (words (5 ∷ 0 ∷ 3 ∷ 7 ∷ 7 ∷ 7 ∷ []))) ≡ replicate 12 verdicts.NoCall ++ replicate 12 (verdicts.RpcMismatch 5)

abbrev pub CutCredentials : Type 0
CutCredentials = map verdict (proper_fronts (take 60 (credential_of 401))) ≡ replicate 32 verdicts.NoCall ++ replicate 28 (verdicts.AuthError 9 stats.BadCredential)

-- ---- calls as they are written

abbrev pub WritesNone : Type 0
WritesNone = call_bytes (head 1000 200001 1 0 credentials.None) ≡ words (1000 ∷ 0 ∷ 2 ∷ 200001 ∷ 1 ∷ 0 ∷ 0 ∷ 0 ∷ 0 ∷ 0 ∷ [])

abbrev pub WritesSys : Type 0
WritesSys = call_bytes (head 1 100000 4 1 (credentials.Sys 500)) ≡ with_sys 1 4 1 500

-- ---- replies

abbrev pub WritesRpcMismatch : Type 0
WritesRpcMismatch = reply_head 5 (replies.RpcMismatch 2 2) ≡ words (5 ∷ 1 ∷ 1 ∷ 0 ∷ 2 ∷ 2 ∷ [])

abbrev pub WritesSuccess : Type 0
WritesSuccess = reply_head 1 replies.Success ≡ answer 1 0

abbrev pub WritesAuthError : Type 0
WritesAuthError = reply_head 9 (replies.AuthError stats.BadCredential) ≡ words (9 ∷ 1 ∷ 1 ∷ 1 ∷ 1 ∷ [])

abbrev pub WritesProgMismatch : Type 0
WritesProgMismatch = reply_head 25 (replies.ProgMismatch 2 4) ≡ answer 25 2 ++ words (2 ∷ 4 ∷ [])

abbrev pub WritesFaults : Type 0
WritesFaults =
    map (reply_head 25) (replies.ProgUnavail ∷ replies.ProcUnavail ∷ replies.GarbageArgs ∷ replies.SystemErr ∷ [])
    ≡ answer 25 1 ∷ answer 25 3 ∷ answer 25 4 ∷ answer 25 5 ∷ []

abbrev pub ReadsSuccess : Type 0
ReadsSuccess = read_reply (answer 1 0 ++ words (7 ∷ [])) ≡ says 1 replies.Success 24

abbrev pub ReadsNoneShort : Type 0
ReadsNoneShort = read_reply (take 20 (answer 1 0)) ≡ None

abbrev pub ReadsProgMismatch : Type 0
ReadsProgMismatch = read_reply (words (0x3e8 ∷ 1 ∷ 0 ∷ 0 ∷ 0 ∷ 2 ∷ 3 ∷ 4 ∷ [])) ≡ says 1000 (replies.ProgMismatch 3 4) 32

abbrev pub ReadsDenied : Type 0
ReadsDenied = read_reply (words (0x3e8 ∷ 1 ∷ 1 ∷ 0 ∷ 2 ∷ 2 ∷ [])) ≡ says 1000 (replies.RpcMismatch 2 2) 24

-- the greatest auth_stat, and one more
abbrev pub ReadsAuthStat : Type 0
ReadsAuthStat = read_reply (words (3 ∷ 1 ∷ 1 ∷ 1 ∷ 14 ∷ [])) ≡ says 3 (replies.AuthError stats.GssContext) 20

abbrev pub ReadsNoOtherAuthStat : Type 0
ReadsNoOtherAuthStat = read_reply (words (3 ∷ 1 ∷ 1 ∷ 1 ∷ 15 ∷ [])) ≡ None

-- a verifier of one byte
abbrev pub ReadsVerifier : Type 0
ReadsVerifier = read_reply (words (3 ∷ 1 ∷ 0 ∷ 9 ∷ 1 ∷ 0xff000000 ∷ 4 ∷ [])) ≡ says 3 replies.GarbageArgs 28

-- ---- records

-- each byte in a fragment of its own, and an empty fragment after it
abbrev pub in_single_bytes : List ℕ → List ℕ
in_single_bytes [] = []
in_single_bytes (b ∷ more) = words (1 ∷ []) ++ (b ∷ []) ++ words (0 ∷ []) ++ in_single_bytes more

-- NULL in 40 fragments of one byte, an empty one between each two, and the empty last one: 360 bytes
abbrev pub in_many : List ℕ
in_many = take 356 (in_single_bytes (with_none 1 2 0)) ++ words (0x80000000 ∷ [])

abbrev pub ManyFragments : Type 0
ManyFragments = first_record (in_many ++ with_none 2 2 0) ≡ Some 360

abbrev pub ManyFragmentsData : Type 0
ManyFragmentsData = data_of in_many ≡ with_none 1 2 0

abbrev pub OneByteLess : Type 0
OneByteLess = first_record (take 359 in_many) ≡ None

abbrev pub FirstOfTwo : Type 0
FirstOfTwo = first_record (words (0x80000028 ∷ []) ++ with_none 1 2 0 ++ words (0x80000028 ∷ []) ++ with_none 2 2 0) ≡ Some 44

abbrev pub ShortRecord : Type 0
ShortRecord = first_record (words (0x8000000c ∷ 5 ∷ 0 ∷ 3 ∷ [])) ≡ Some 16

abbrev pub HugeFragment : Type 0
HugeFragment = first_record (words (0xffffffff ∷ 5 ∷ 0 ∷ 3 ∷ [])) ≡ None

abbrev pub MarkedReply : Type 0
MarkedReply = marked_reply (answer 1 0) ≡ words (0x80000018 ∷ []) ++ answer 1 0

-- 9,048 bytes are eight fragments of 1,024 and one of 856
abbrev pub MarkedInNine : Type 0
MarkedInNine = map (λ f. length f.content) (reply_fragments (replicate 9048 1)) ≡ replicate 8 1024 ++ 856 ∷ []

-- one fragment of a call and 100,000 bytes after it, and one byte more
abbrev pub long_record : List ℕ
long_record = words (0x800186c8 ∷ []) ++ with_none 1 2 0 ++ replicate 100000 255

abbrev pub LongRecord : Type 0
LongRecord = first_record (long_record ++ 5 ∷ []) ≡ Some 100044

abbrev pub LongRecordVerdict : Type 0
LongRecordVerdict = verdict (data_of long_record) ≡ verdicts.Call (head 1 100000 2 0 credentials.None) 40
