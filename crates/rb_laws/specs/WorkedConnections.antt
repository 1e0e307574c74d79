-- Worked examples: connections, in whole records and in pieces.
use Rattle.std.specs.Prelude.{◌≡◌, ℕ, zero, suc, ◌+◌, ◌^◌, true, false, List, [], ◌∷◌, ◌++◌, length, take, drop, map, replicate, Some, None}
use Rattle.rb_xdr.specs.Xdr.{words}
use Rattle.rb_model.specs.declared.types.CoreFault.TheVariants.{Full, Gone}
use Rattle.rb_model.specs.declared.types.Limits.{Limits}
use Rattle.rb_model.specs.State.{State, are_good, opening}
use Rattle.rb_model.specs.Step.{Event, run}
use Rattle.rb_model.specs.Step.Event.{Open, Bytes, Pending, Gave, Closed, NextLost}
use Rattle.rb_model.specs.Step.Output.{Opened, Refused, TooMuch, Took, TookAndLost, IsPending, Done, LostIs}
use Rattle.rb_model.specs.Calls.Outcome.{NoCall, Reply}
use Rattle.rb_model.specs.Sessions.{Exchange, session}
use Rattle.rb_laws.specs.Worked.{listener, loopback, fresh, success_reply, call_by_none}

abbrev pub open_event : Event
open_event = Open 0 loopback

-- NULL of version 2
abbrev pub null_call : ℕ → List ℕ
null_call xid = call_by_none xid 100000 2 0

-- a record of one fragment
abbrev pub in_one : List ℕ → List ℕ
in_one bytes = words ((2 ^ 31 + length bytes) ∷ []) ++ bytes

-- the reply to a NULL of this number, marked
abbrev pub null_reply : ℕ → List ℕ
null_reply xid = words (0x80000018 ∷ []) ++ success_reply xid []

-- the bytes one by one
abbrev pub one_by_one : List ℕ → List Event
one_by_one bytes = map (λ b. Bytes 0 1 (b ∷ [])) bytes

-- ---- records

abbrev pub NoCallCloses : Type 0
NoCallCloses =
    run fresh
    (open_event ∷ Bytes 0 1 (words (0x80000008 ∷ 5 ∷ 0 ∷ [])) ∷ NextLost ∷ Pending 1 ∷ Closed 1 ∷ NextLost ∷ [])
    ≡ Opened 1 ∷ TookAndLost 12 ∷ LostIs (Some 1) ∷ Refused Gone ∷ Done ∷ LostIs None ∷ []

abbrev pub OtherRpcVersionOnTcp : Type 0
OtherRpcVersionOnTcp =
    run fresh (open_event ∷ Bytes 0 1 (words (0x8000000c ∷ 5 ∷ 0 ∷ 3 ∷ [])) ∷ Pending 1 ∷ [])
    ≡ Opened 1 ∷ Took 16 ∷ IsPending (words (0x80000018 ∷ 5 ∷ 1 ∷ 1 ∷ 0 ∷ 2 ∷ 2 ∷ [])) ∷ []

-- 40 fragments of one byte, an empty one between each two, and an empty last one
abbrev pub single_byte_fragments : List ℕ → List ℕ
single_byte_fragments [] = []
single_byte_fragments (b ∷ []) = words (1 ∷ []) ++ b ∷ [] ++ words (0x80000000 ∷ [])
single_byte_fragments (b ∷ c ∷ bytes) = words (1 ∷ []) ++ b ∷ [] ++ words (0 ∷ []) ++ single_byte_fragments (c ∷ bytes)

abbrev pub SingleByteFragmentsInOnePiece : Type 0
SingleByteFragmentsInOnePiece =
    run fresh (open_event ∷ Bytes 0 1 (single_byte_fragments (null_call 1)) ∷ Pending 1 ∷ []) ≡ Opened 1 ∷ Took 360 ∷ IsPending (null_reply 1) ∷ []

abbrev pub SingleByteFragmentsByteByByte : Type 0
SingleByteFragmentsByteByByte =
    run fresh (open_event ∷ one_by_one (take 359 (single_byte_fragments (null_call 1))) ++ Pending 1 ∷ [] ++ one_by_one (drop 359 (single_byte_fragments (null_call 1))) ++ Pending 1 ∷ [])
    ≡ Opened 1 ∷ replicate 359 (Took 1) ++ IsPending [] ∷ Took 1 ∷ IsPending (null_reply 1) ∷ []

-- this many pieces of seven bytes
abbrev pub pieces_of_seven : ℕ → List ℕ → List Event
pieces_of_seven zero bytes = []
pieces_of_seven (suc k) bytes = Bytes 0 1 (take 7 bytes) ∷ pieces_of_seven k (drop 7 bytes)

abbrev pub SingleByteFragmentsInSevens : Type 0
SingleByteFragmentsInSevens =
    run fresh (open_event ∷ pieces_of_seven 52 (single_byte_fragments (null_call 1)) ++ Pending 1 ∷ []) ≡ Opened 1 ∷ replicate 51 (Took 7) ++ Took 3 ∷ IsPending (null_reply 1) ∷ []

-- bytes after the arguments are taken with the record, and count for nothing
abbrev pub BytesBehindArguments : Type 0
BytesBehindArguments =
    run fresh (open_event ∷ Bytes 0 1 (in_one (null_call 1 ++ replicate 10000 0xff)) ∷ Pending 1 ∷ [])
    ≡ Opened 1 ∷ Took 10044 ∷ IsPending (null_reply 1) ∷ []

-- after the first record nothing more is taken until its reply is given
abbrev pub OneRecordAtATime : Type 0
OneRecordAtATime =
    run fresh
    (open_event ∷ Bytes 0 1 (in_one (null_call 1) ++ in_one (null_call 2)) ∷ Bytes 0 1 (in_one (null_call 2)) ∷ Gave 0 1 28
    ∷ Bytes 0 1 (in_one (null_call 2)) ∷ Pending 1 ∷ [])
    ≡ Opened 1 ∷ Took 44 ∷ Took 0 ∷ Done ∷ Took 44 ∷ IsPending (null_reply 2) ∷ []

-- what passed on the connection then
abbrev pub null_called : ℕ → Exchange
null_called xid = record { content = null_call xid; said = Reply (success_reply xid []) None }

abbrev pub OneRecordAtATimePasses : Type 0
OneRecordAtATimePasses =
    session fresh 1
    (open_event ∷ Bytes 0 1 (in_one (null_call 1) ++ in_one (null_call 2)) ∷ Bytes 0 1 (in_one (null_call 2)) ∷ Gave 0 1 28
    ∷ Bytes 0 1 (in_one (null_call 2) ++ in_one (null_call 3)) ∷ Gave 0 1 3 ∷ Bytes 0 1 (in_one (null_call 3)) ∷ Gave 0 1 25
    ∷ Bytes 0 1 (take 7 (in_one (null_call 3))) ∷ [])
    ≡ record {
      taken = in_one (null_call 1) ++ in_one (null_call 2) ++ take 7 (in_one (null_call 3));
      given = null_reply 1 ++ null_reply 2;
      unfinished = take 7 (in_one (null_call 3));
      calls = null_called 1 ∷ null_called 2 ∷ [];
    }

-- two words
abbrev pub no_call : List ℕ
no_call = words (5 ∷ 0 ∷ [])

-- what is no call is a record without a reply, and nothing is taken after it
abbrev pub NoCallPasses : Type 0
NoCallPasses =
    session fresh 1
    (open_event ∷ Bytes 0 1 (in_one (null_call 1)) ∷ Gave 0 1 28 ∷ Bytes 0 1 (in_one no_call ++ in_one (null_call 2))
    ∷ Bytes 0 1 (in_one (null_call 2)) ∷ [])
    ≡ record {
      taken = in_one (null_call 1) ++ in_one no_call;
      given = null_reply 1;
      unfinished = [];
      calls = null_called 1 ∷ record { content = no_call; said = NoCall } ∷ [];
    }

-- ---- giving

abbrev pub GivenInParts : Type 0
GivenInParts =
    run fresh
    (open_event ∷ Bytes 0 1 (in_one (null_call 1)) ∷ Gave 0 1 0 ∷ Pending 1 ∷ Gave 0 1 3 ∷ Pending 1 ∷ Gave 0 1 25 ∷ Pending 1 ∷ [])
    ≡ Opened 1 ∷ Took 44 ∷ Done ∷ IsPending (null_reply 1) ∷ Done ∷ IsPending (drop 3 (null_reply 1)) ∷ Done ∷ IsPending [] ∷ []

abbrev pub TooMuchIsRefused : Type 0
TooMuchIsRefused =
    run fresh (open_event ∷ Bytes 0 1 (in_one (null_call 1)) ∷ Gave 0 1 29 ∷ Pending 1 ∷ Bytes 0 7 [] ∷ [])
    ≡ Opened 1 ∷ Took 44 ∷ TooMuch ∷ IsPending (null_reply 1) ∷ Refused Gone ∷ []

-- ---- openings

abbrev pub limits : ℕ → ℕ → ℕ → Limits
limits conns rows forwards = record { conns = conns; rows = rows; forwards = forwards }

abbrev pub GoodLimits : Type 0
GoodLimits =
    map (λ (l : Limits). are_good l listener)
    (limits 1 8 0 ∷ limits 256 4096 64 ∷ limits 0 8 0 ∷ limits 257 8 0 ∷ limits 1 7 0 ∷ limits 1 4097 0 ∷ limits 1 8 65 ∷ [])
    ≡ true ∷ true ∷ false ∷ false ∷ false ∷ false ∷ false ∷ []

abbrev pub with_one_place : State
with_one_place = opening (limits 1 300 4) listener 1000 0

abbrev pub NumbersDoNotRecur : Type 0
NumbersDoNotRecur =
    run with_one_place (open_event ∷ open_event ∷ Closed 1 ∷ open_event ∷ Closed 1 ∷ [])
    ≡ Opened 1 ∷ Refused Full ∷ Done ∷ Opened 2 ∷ Refused Gone ∷ []
