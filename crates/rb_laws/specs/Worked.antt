-- Worked examples: what runs give, word by word.
use Rattle.std.specs.Prelude.{◌≡◌, ℕ, List, [], ◌∷◌, ◌++◌, replicate, Some, None}
use Rattle.rb_xdr.specs.Xdr.{words}
use Rattle.rb_address.specs.declared.host.Host.TheVariants.{V4}
use Rattle.rb_address.specs.declared.peer.Peer.{Peer}
use Rattle.rb_address.specs.declared.who.Source.TheVariants.{Inet}
use Rattle.rb_address.specs.declared.who.Trust.TheVariants.{Claims}
use Rattle.rb_address.specs.declared.who.Who.{Who}
use Rattle.rb_answers.specs.declared.listener.Listener.{Listener}
use Rattle.rb_answers.specs.Terms.{open_terms}
use Rattle.rb_model.specs.State.{State, opening}
use Rattle.rb_model.specs.Step.{Output, run}
use Rattle.rb_model.specs.Step.Event.{Datagram}
use Rattle.rb_model.specs.Step.Output.{Replied, Silent}

-- a caller of which nothing is known but what it claims, and not which host it asked
abbrev pub who_at : Peer → Who
who_at peer = record { source = Inet peer; asked = V4 (0 ∷ 0 ∷ 0 ∷ 0 ∷ []); trust = Claims }

abbrev pub loopback : Who
loopback = who_at (record { host = V4 (127 ∷ 0 ∷ 0 ∷ 1 ∷ []); port = 900 })

-- port 111 over IPv4, for which 192.0.2.1 is told, without a local socket
abbrev pub listener : Listener
listener = record {
  announced = record { inet = Some (192 ∷ 0 ∷ 2 ∷ 1 ∷ []); inet6 = None };
  port = 111;
  local = None;
  terms = open_terms;
  reserved = [];
}

abbrev pub fresh : State
fresh = opening (record { conns = 4; rows = 300; forwards = 4 }) listener 1000 0

-- A SET of program 200001, version 1 on TCP, the port of it, and the same SET again: TRUE, 2049, FALSE.
abbrev pub SetThenAskThenSetAgain : Type 0
SetThenAskThenSetAgain =
    run fresh
    (Datagram 0 loopback (words (3 ∷ 0 ∷ 2 ∷ 0x186a0 ∷ 2 ∷ 1 ∷ 0 ∷ 0 ∷ 0 ∷ 0 ∷ 0x30d41 ∷ 1 ∷ 6 ∷ 0x801 ∷ []))
    ∷ Datagram 0 loopback (words (4 ∷ 0 ∷ 2 ∷ 0x186a0 ∷ 2 ∷ 3 ∷ 0 ∷ 0 ∷ 0 ∷ 0 ∷ 0x30d41 ∷ 1 ∷ 6 ∷ 0 ∷ []))
    ∷ Datagram 0 loopback (words (5 ∷ 0 ∷ 2 ∷ 0x186a0 ∷ 2 ∷ 1 ∷ 0 ∷ 0 ∷ 0 ∷ 0 ∷ 0x30d41 ∷ 1 ∷ 6 ∷ 0x801 ∷ []))
    ∷ [])
    ≡ Replied (words (3 ∷ 1 ∷ 0 ∷ 0 ∷ 0 ∷ 0 ∷ 1 ∷ []))
    ∷ Replied (words (4 ∷ 1 ∷ 0 ∷ 0 ∷ 0 ∷ 0 ∷ 0x801 ∷ []))
    ∷ Replied (words (5 ∷ 1 ∷ 0 ∷ 0 ∷ 0 ∷ 0 ∷ 0 ∷ []))
    ∷ []

-- The greatest version on the protocol, if the version that is asked for is not there.
abbrev pub GreatestVersionElse : Type 0
GreatestVersionElse =
    run fresh
    (Datagram 0 loopback (words (1 ∷ 0 ∷ 2 ∷ 0x186a0 ∷ 2 ∷ 1 ∷ 0 ∷ 0 ∷ 0 ∷ 0 ∷ 200002 ∷ 1 ∷ 6 ∷ 3001 ∷ []))
    ∷ Datagram 0 loopback (words (2 ∷ 0 ∷ 2 ∷ 0x186a0 ∷ 2 ∷ 1 ∷ 0 ∷ 0 ∷ 0 ∷ 0 ∷ 200002 ∷ 3 ∷ 6 ∷ 3003 ∷ []))
    ∷ Datagram 0 loopback (words (3 ∷ 0 ∷ 2 ∷ 0x186a0 ∷ 2 ∷ 3 ∷ 0 ∷ 0 ∷ 0 ∷ 0 ∷ 200002 ∷ 9 ∷ 6 ∷ 0 ∷ []))
    ∷ Datagram 0 loopback (words (4 ∷ 0 ∷ 2 ∷ 0x186a0 ∷ 2 ∷ 3 ∷ 0 ∷ 0 ∷ 0 ∷ 0 ∷ 200002 ∷ 1 ∷ 6 ∷ 0 ∷ []))
    ∷ Datagram 0 loopback (words (5 ∷ 0 ∷ 2 ∷ 0x186a0 ∷ 2 ∷ 3 ∷ 0 ∷ 0 ∷ 0 ∷ 0 ∷ 200002 ∷ 9 ∷ 17 ∷ 0 ∷ []))
    ∷ Datagram 0 loopback (words (6 ∷ 0 ∷ 2 ∷ 0x186a0 ∷ 2 ∷ 3 ∷ 0 ∷ 0 ∷ 0 ∷ 0 ∷ 200002 ∷ 1 ∷ 5 ∷ 0 ∷ []))
    ∷ [])
    ≡ Replied (words (1 ∷ 1 ∷ 0 ∷ 0 ∷ 0 ∷ 0 ∷ 1 ∷ []))
    ∷ Replied (words (2 ∷ 1 ∷ 0 ∷ 0 ∷ 0 ∷ 0 ∷ 1 ∷ []))
    ∷ Replied (words (3 ∷ 1 ∷ 0 ∷ 0 ∷ 0 ∷ 0 ∷ 0xbbb ∷ []))
    ∷ Replied (words (4 ∷ 1 ∷ 0 ∷ 0 ∷ 0 ∷ 0 ∷ 3001 ∷ []))
    ∷ Replied (words (5 ∷ 1 ∷ 0 ∷ 0 ∷ 0 ∷ 0 ∷ 0 ∷ []))
    ∷ Replied (words (6 ∷ 1 ∷ 0 ∷ 0 ∷ 0 ∷ 0 ∷ 0 ∷ []))
    ∷ []

abbrev pub fresh_with : ℕ → State
fresh_with rows = opening (record { conns = 4; rows = rows; forwards = 4 }) listener 1000 0

-- a call of version 2 with the null credential, and these words as its arguments
abbrev pub call2 : ℕ → ℕ → List ℕ → List ℕ
call2 xid proc arguments = words (xid ∷ 0 ∷ 2 ∷ 0x186a0 ∷ 2 ∷ proc ∷ 0 ∷ 0 ∷ 0 ∷ 0 ∷ []) ++ words arguments

-- an accepted reply with these words as its results
abbrev pub success_reply : ℕ → List ℕ → List ℕ
success_reply xid results = words (xid ∷ 1 ∷ 0 ∷ 0 ∷ 0 ∷ 0 ∷ []) ++ words results

abbrev pub NullIsAnswered : Type 0
NullIsAnswered =
    run fresh (Datagram 0 loopback (words (1 ∷ 0 ∷ 2 ∷ 0x186a0 ∷ 2 ∷ 0 ∷ 0 ∷ 0 ∷ 0 ∷ 0 ∷ [])) ∷ [])
    ≡ Replied (words (1 ∷ 1 ∷ 0 ∷ 0 ∷ 0 ∷ 0 ∷ [])) ∷ []

-- the port mapper's own port, by its greatest version
abbrev pub OwnRowsAreAsked : Type 0
OwnRowsAreAsked =
    run fresh (Datagram 0 loopback (call2 7 3 (100000 ∷ 9 ∷ 6 ∷ 0 ∷ [])) ∷ []) ≡ Replied (success_reply 7 (0x6f ∷ [])) ∷ []

-- at a limit of eight rows there is room for two after the own ones
abbrev pub LimitIsReached : Type 0
LimitIsReached =
    run (fresh_with 8)
    (Datagram 0 loopback (call2 1 1 (200001 ∷ 1 ∷ 6 ∷ 2049 ∷ []))
    ∷ Datagram 0 loopback (call2 2 1 (200002 ∷ 1 ∷ 6 ∷ 2049 ∷ []))
    ∷ Datagram 0 loopback (call2 3 1 (200003 ∷ 1 ∷ 6 ∷ 2049 ∷ []))
    ∷ [])
    ≡ Replied (success_reply 1 (1 ∷ [])) ∷ Replied (success_reply 2 (1 ∷ [])) ∷ Replied (success_reply 3 (0 ∷ [])) ∷ []

-- a SET is accepted from the announced host, and not from another
abbrev pub LocalCallersSet : Type 0
LocalCallersSet =
    run fresh
    (Datagram 0 (who_at (record { host = V4 (198 ∷ 51 ∷ 100 ∷ 7 ∷ []); port = 900 })) (call2 3 1 (200001 ∷ 1 ∷ 6 ∷ 2049 ∷ []))
    ∷ Datagram 0 (who_at (record { host = V4 (192 ∷ 0 ∷ 2 ∷ 1 ∷ []); port = 900 })) (call2 3 1 (200001 ∷ 1 ∷ 6 ∷ 2049 ∷ []))
    ∷ [])
    ≡ Replied (success_reply 3 (0 ∷ [])) ∷ Replied (success_reply 3 (1 ∷ [])) ∷ []

abbrev pub NothingIsSilent : Type 0
NothingIsSilent = run fresh (Datagram 0 loopback [] ∷ []) ≡ Silent ∷ []

-- ---- the order of refusals

-- what a fresh core answers a datagram with
abbrev pub answer_to : List ℕ → List Output
answer_to message = run fresh (Datagram 0 loopback message ∷ [])

-- AUTH_SYS with stamp 0, an empty machine name, this uid, gid 0 and no gids
abbrev pub call_by_sys : ℕ → ℕ → ℕ → ℕ → List ℕ
call_by_sys xid vers proc uid = words (xid ∷ 0 ∷ 2 ∷ 100000 ∷ vers ∷ proc ∷ 1 ∷ 20 ∷ 0 ∷ 0 ∷ uid ∷ 0 ∷ 0 ∷ 0 ∷ 0 ∷ [])

abbrev pub call_by_none : ℕ → ℕ → ℕ → ℕ → List ℕ
call_by_none xid prog vers proc = words (xid ∷ 0 ∷ 2 ∷ prog ∷ vers ∷ proc ∷ 0 ∷ 0 ∷ 0 ∷ 0 ∷ [])

-- an accepted reply with an accept_stat other than SUCCESS and what belongs to it, and a denied one
abbrev pub refused_by : ℕ → ℕ → List ℕ → List Output
refused_by xid stat more = Replied (words (xid ∷ 1 ∷ 0 ∷ 0 ∷ 0 ∷ stat ∷ []) ++ words more) ∷ []

abbrev pub denied_reply : List ℕ → List Output
denied_reply reply = Replied (words reply) ∷ []

abbrev pub NullBySys : Type 0
NullBySys = answer_to (call_by_sys 1 2 0 500) ≡ Replied (success_reply 1 []) ∷ []

abbrev pub NullOfThree : Type 0
NullOfThree = answer_to (call_by_none 1 100000 3 0) ≡ Replied (success_reply 1 []) ∷ []

abbrev pub NullOfFour : Type 0
NullOfFour = answer_to (call_by_none 1 100000 4 0) ≡ Replied (success_reply 1 []) ∷ []

abbrev pub OtherRpcVersion : Type 0
OtherRpcVersion = answer_to (words (5 ∷ 0 ∷ 3 ∷ [])) ≡ denied_reply (5 ∷ 1 ∷ 1 ∷ 0 ∷ 2 ∷ 2 ∷ [])

abbrev pub TooShort : Type 0
TooShort = answer_to (words (5 ∷ 0 ∷ [])) ≡ Silent ∷ []

-- a NULL call whose credential has this many bytes, as it says
abbrev pub with_credential : ℕ → ℕ → List ℕ
with_credential says count = words (9 ∷ 0 ∷ 2 ∷ 100000 ∷ 2 ∷ 0 ∷ 0 ∷ says ∷ []) ++ replicate count 0 ++ words (0 ∷ 0 ∷ [])

abbrev pub GreatestCredential : Type 0
GreatestCredential = answer_to (with_credential 400 400) ≡ Replied (success_reply 9 []) ∷ []

abbrev pub OverlongCredential : Type 0
OverlongCredential = answer_to (with_credential 401 400) ≡ denied_reply (9 ∷ 1 ∷ 1 ∷ 1 ∷ 1 ∷ [])

-- the body ends before its gids
abbrev pub SysBodyCutShort : Type 0
SysBodyCutShort =
    answer_to (words (11 ∷ 0 ∷ 2 ∷ 100000 ∷ 2 ∷ 0 ∷ 1 ∷ 16 ∷ 0 ∷ 0 ∷ 500 ∷ 0 ∷ 0 ∷ 0 ∷ [])) ≡ denied_reply (11 ∷ 1 ∷ 1 ∷ 1 ∷ 1 ∷ [])

abbrev pub OverlongVerifier : Type 0
OverlongVerifier = answer_to (words (12 ∷ 0 ∷ 2 ∷ 100000 ∷ 2 ∷ 0 ∷ 0 ∷ 0 ∷ 0 ∷ 401 ∷ [])) ≡ denied_reply (12 ∷ 1 ∷ 1 ∷ 1 ∷ 3 ∷ [])

-- a credential of one byte, after which stand three residual ones
abbrev pub with_residue : ℕ → List ℕ
with_residue byte_and_residue = words (13 ∷ 0 ∷ 2 ∷ 100000 ∷ 2 ∷ 0 ∷ 0 ∷ 1 ∷ byte_and_residue ∷ 0 ∷ 0 ∷ [])

abbrev pub BadResidue : Type 0
BadResidue = answer_to (with_residue 0xff000001) ≡ Silent ∷ []

abbrev pub GoodResidue : Type 0
GoodResidue = answer_to (with_residue 0xff000000) ≡ Replied (success_reply 13 []) ∷ []

-- RPCSEC_GSS is refused whatever the program
abbrev pub GssBeforeProgram : Type 0
GssBeforeProgram = answer_to (words (10 ∷ 0 ∷ 2 ∷ 200009 ∷ 2 ∷ 0 ∷ 6 ∷ 0 ∷ 0 ∷ 0 ∷ [])) ≡ denied_reply (10 ∷ 1 ∷ 1 ∷ 1 ∷ 2 ∷ [])

abbrev pub OtherVersion : Type 0
OtherVersion = answer_to (call_by_none 25 100000 5 0) ≡ refused_by 25 2 (2 ∷ 4 ∷ [])

abbrev pub UnknownProcedure : Type 0
UnknownProcedure = answer_to (call_by_none 25 100000 2 6) ≡ refused_by 25 3 []

-- a SET with three words in place of four
abbrev pub GarbageArguments : Type 0
GarbageArguments = answer_to (call_by_none 25 100000 2 1 ++ words (0 ∷ 0 ∷ 0 ∷ [])) ≡ refused_by 25 4 []

-- GETSTAT as the first call: info[12] of version 4 is 1
abbrev pub GetstatFirstCall : Type 0
GetstatFirstCall = answer_to (call_by_none 23 100000 4 12) ≡ Replied (success_reply 23 (replicate 46 0 ++ 1 ∷ replicate 4 0)) ∷ []

-- a SET whose arguments are cut short is counted, and an unknown procedure and another version are not
abbrev pub GetstatOfRefusals : Type 0
GetstatOfRefusals =
    run fresh
    (Datagram 0 loopback (call_by_none 1 100000 2 1 ++ words (0 ∷ 0 ∷ 0 ∷ []))
    ∷ Datagram 0 loopback (call_by_none 2 100000 2 6) ∷ Datagram 0 loopback (call_by_none 3 100000 5 1)
    ∷ Datagram 0 loopback (call_by_none 4 100000 4 12) ∷ [])
    ≡ refused_by 1 4 [] ++ refused_by 2 3 [] ++ refused_by 3 2 (2 ∷ 4 ∷ [])
    ++ Replied (success_reply 4 (0 ∷ 1 ∷ replicate 44 0 ++ 1 ∷ replicate 4 0)) ∷ []

abbrev pub OtherProgram : Type 0
OtherProgram = answer_to (call_by_none 25 200001 2 0) ≡ refused_by 25 1 []
