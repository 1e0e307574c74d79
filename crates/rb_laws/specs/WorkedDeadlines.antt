-- Worked examples: deadlines of connections.
use Rattle.std.specs.Prelude.{◌≡◌, List, [], ◌∷◌, ◌++◌, Some, None}
use Rattle.rb_xdr.specs.Xdr.{words}
use Rattle.rb_model.specs.declared.types.CoreFault.TheVariants.{Gone}
use Rattle.rb_model.specs.State.{greatest_number}
use Rattle.rb_model.specs.NextDeadlines.{next_deadline}
use Rattle.rb_model.specs.Step.{Event, Output, run, after}
use Rattle.rb_model.specs.Step.Event.{Open, Bytes, Pending, Gave, Closed, NextLost, Datagram, Expire}
use Rattle.rb_model.specs.Step.Output.{Opened, Refused, Took, Done, LostIs, Replied, Forwarded, Nothing, ConnectionLost, RepliedTo}
use Rattle.rb_laws.specs.Worked.{loopback, fresh, call2, success_reply, call_by_none}
use Rattle.rb_laws.specs.WorkedConnections.{open_event, null_call, in_one}
use Rattle.rb_laws.specs.WorkedForwards.{set_event, indirect}

abbrev pub IdleEnds : Type 0
IdleEnds =
    run fresh (open_event ∷ Expire 299999 ∷ Expire 300000 ∷ Expire 300000 ∷ NextLost ∷ Pending 1 ∷ Closed 1 ∷ NextLost ∷ [])
    ≡ Opened 1 ∷ Nothing ∷ ConnectionLost 1 ∷ Nothing ∷ LostIs (Some 1) ∷ Refused Gone ∷ Done ∷ LostIs None ∷ []

-- the first byte of a record comes at 10, and a later one moves nothing
abbrev pub ReadingEnds : Type 0
ReadingEnds =
    run fresh (open_event ∷ Bytes 10 1 (0x80 ∷ []) ∷ Bytes 20000 1 (0 ∷ []) ∷ Expire 30009 ∷ Expire 30010 ∷ [])
    ≡ Opened 1 ∷ Took 1 ∷ Took 1 ∷ Nothing ∷ ConnectionLost 1 ∷ []

-- an opening at an earlier moment counts as at the last one, and that of least number is first
abbrev pub TwoEnd : Type 0
TwoEnd =
    run fresh (Open 1000 loopback ∷ Open 500 loopback ∷ Expire 300999 ∷ Expire 301000 ∷ Expire 301000 ∷ Expire 301000 ∷ [])
    ≡ Opened 1 ∷ Opened 2 ∷ Nothing ∷ ConnectionLost 1 ∷ ConnectionLost 2 ∷ Nothing ∷ []

-- a NULL call at the moment 0, and what it gives
abbrev pub calls_null : List Event
calls_null = open_event ∷ Bytes 0 1 (in_one (null_call 1)) ∷ []

abbrev pub null_called : List Output
null_called = Opened 1 ∷ Took 44 ∷ []

abbrev pub OwingEnds : Type 0
OwingEnds = run fresh (calls_null ++ Expire 29999 ∷ Expire 30000 ∷ []) ≡ null_called ++ Nothing ∷ ConnectionLost 1 ∷ []

-- three bytes given are progress, from which the deadline counts, and none given are not
abbrev pub GivenBytesAreProgress : Type 0
GivenBytesAreProgress =
    run fresh (calls_null ++ Gave 20000 1 3 ∷ Gave 21000 1 0 ∷ Expire 49999 ∷ Expire 50000 ∷ [])
    ≡ null_called ++ Done ∷ Done ∷ Nothing ∷ ConnectionLost 1 ∷ []

-- the last byte of the reply is given at 20,000
abbrev pub IdleAfterTheReply : Type 0
IdleAfterTheReply =
    run fresh (calls_null ++ Gave 20000 1 28 ∷ Expire 319999 ∷ Expire 320000 ∷ [])
    ≡ null_called ++ Done ∷ Nothing ∷ ConnectionLost 1 ∷ []

abbrev pub DueAtOnceAtTheGreatestMoment : Type 0
DueAtOnceAtTheGreatestMoment =
    run fresh (Open greatest_number loopback ∷ Expire greatest_number ∷ []) ≡ Opened 1 ∷ ConnectionLost 1 ∷ []

-- an INDIRECT of a program on UDP, forwarded so that its deadline comes at 301,000, as does that of the connection
abbrev pub ForwardedCallsComeFirst : Type 0
ForwardedCallsComeFirst =
    run fresh
    (Datagram 0 loopback (call2 3 1 (200001 ∷ 1 ∷ 17 ∷ 2049 ∷ [])) ∷ Open 1000 loopback
    ∷ Datagram 296000 loopback (call_by_none 15 100000 4 10 ++ words (200001 ∷ 1 ∷ 0 ∷ 0 ∷ []))
    ∷ Expire 300999 ∷ Expire 301000 ∷ Expire 301000 ∷ Expire 301000 ∷ [])
    ≡ Replied (success_reply 3 (1 ∷ [])) ∷ Opened 1 ∷ Forwarded
    ∷ Nothing ∷ RepliedTo loopback (words (15 ∷ 1 ∷ 0 ∷ 0 ∷ 0 ∷ 5 ∷ [])) ∷ ConnectionLost 1 ∷ Nothing ∷ []

-- the next deadline if nothing has one, of a connection that is Idle and of one that reads a record, and of a forwarded
-- call
abbrev pub NextOfEach : Type 0
NextOfEach =
    (next_deadline fresh ≡ None)
    × (next_deadline (after fresh (open_event ∷ [])) ≡ Some 300000)
    × (next_deadline (after fresh (open_event ∷ Bytes 10 1 (0x80 ∷ []) ∷ [])) ≡ Some 30010)
    × (next_deadline (after fresh (open_event ∷ set_event ∷ Datagram 1000 loopback (indirect 15 200001) ∷ [])) ≡ Some 6000)
