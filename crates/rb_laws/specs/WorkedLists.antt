-- Worked examples: lists that are streamed, rows that are retained for them, and connections that become Lost for room.
use Rattle.std.specs.Prelude.{◌≡◌, ℕ, ◌+◌, List, [], ◌∷◌, ◌++◌, take, drop, map, Some, None, Result, Ok}
use Rattle.std.specs.List.{flat_map, range_with_len}
use Rattle.rb_xdr.specs.Xdr.{words}
use Rattle.rb_model.specs.declared.types.CoreFault.TheVariants.{Gone}
use Rattle.rb_model.specs.Step.{Event, Output, run, after}
use Rattle.rb_model.specs.Step.Event.{Bytes, Pending, Gave, Closed, NextLost, Datagram}
use Rattle.rb_model.specs.Step.Output.{Opened, Refused, Took, IsPending, Done, LostIs, Replied}
use Rattle.rb_laws.specs.Worked.{loopback, fresh, fresh_with, call2, success_reply}
use Rattle.rb_rpc.specs.Records.{marked_reply}
use Rattle.rb_model.specs.declared.types.CoreFault.{CoreFault}
use Rattle.rb_model.specs.State.{State}
use Rattle.rb_model.specs.Gives.{write_into}
use Rattle.rb_laws.specs.WorkedConnections.{open_event, in_one}

-- SET and UNSET of version 1 of a program on tcp, port 2049, without a credential
abbrev pub set : ℕ → Event
set prog = Datagram 0 loopback (call2 1 1 (prog ∷ 1 ∷ 6 ∷ 2049 ∷ []))

abbrev pub unset : ℕ → Event
unset prog = Datagram 0 loopback (call2 1 2 (prog ∷ 1 ∷ 6 ∷ 0 ∷ []))

abbrev pub was_true : Output
was_true = Replied (success_reply 1 (1 ∷ []))

abbrev pub was_false : Output
was_false = Replied (success_reply 1 (0 ∷ []))

-- a DUMP of version 2 on a connection
abbrev pub dump : ℕ → Event
dump id = Bytes 0 id (in_one (call2 1 4 []))

-- the reply to it, if these programs were SET after the six own rows
abbrev pub dump_reply : List ℕ → List ℕ
dump_reply progs =
    success_reply 1 [] ++ own 4 6 ++ own 3 6 ++ own 2 6 ++ own 4 17 ++ own 3 17 ++ own 2 17
    ++ flat_map (λ prog. words (1 ∷ prog ∷ 1 ∷ 6 ∷ 2049 ∷ [])) progs ++ words (0 ∷ [])
  where
    own : ℕ → ℕ → List ℕ
    own vers prot = words (1 ∷ 0x186a0 ∷ vers ∷ prot ∷ 0x6f ∷ [])

abbrev pub A : ℕ
A = 200001

abbrev pub B : ℕ
B = 200002

abbrev pub C : ℕ
C = 200003

-- ---- retained rows, and room

-- a list is that of its call while rows go, and the connection with the oldest list becomes Lost for room
abbrev pub DumpSurvivesUnsetAndEvicts : Type 0
DumpSurvivesUnsetAndEvicts =
    run (fresh_with 8)
    (open_event ∷ open_event ∷ set A ∷ set B
    ∷ dump 1 ∷ Pending 1 ∷ unset A ∷ dump 2 ∷ Pending 2 ∷ set C ∷ NextLost ∷ Pending 1 ∷ unset B ∷ Pending 2
    ∷ Closed 1 ∷ NextLost ∷ [])
    ≡ Opened 1 ∷ Opened 2 ∷ was_true ∷ was_true
    ∷ Took 44 ∷ IsPending (words (0x800000bc ∷ []) ++ dump_reply (A ∷ B ∷ [])) ∷ was_true
    ∷ Took 44 ∷ IsPending (words (0x800000a8 ∷ []) ++ dump_reply (B ∷ [])) ∷ was_true
    ∷ LostIs (Some 1) ∷ Refused Gone ∷ was_true ∷ IsPending (words (0x800000a8 ∷ []) ++ dump_reply (B ∷ []))
    ∷ Done ∷ LostIs None ∷ []

-- each connection whose list began before the row went becomes Lost, and none whose list began later
abbrev pub OldReadersAreEvicted : Type 0
OldReadersAreEvicted =
    run (fresh_with 8)
    (open_event ∷ open_event ∷ open_event ∷ set A ∷ set B ∷ dump 1 ∷ dump 2 ∷ unset A ∷ dump 3 ∷ set C
    ∷ NextLost ∷ Closed 1 ∷ NextLost ∷ Closed 2 ∷ NextLost ∷ Pending 3 ∷ [])
    ≡ Opened 1 ∷ Opened 2 ∷ Opened 3 ∷ was_true ∷ was_true ∷ Took 44 ∷ Took 44 ∷ was_true ∷ Took 44 ∷ was_true
    ∷ LostIs (Some 1) ∷ Done ∷ LostIs (Some 2) ∷ Done ∷ LostIs None
    ∷ IsPending (words (0x800000a8 ∷ []) ++ dump_reply (B ∷ [])) ∷ []

-- a table that is full of live rows refuses, and no connection becomes Lost
abbrev pub FullTableRefuses : Type 0
FullTableRefuses =
    run (fresh_with 8) (open_event ∷ set A ∷ set B ∷ dump 1 ∷ set C ∷ NextLost ∷ [])
    ≡ Opened 1 ∷ was_true ∷ was_true ∷ Took 44 ∷ was_false ∷ LostIs None ∷ []

-- a row that came and went while a list is given is needed by it too
abbrev pub RowsThatCameAndWentAreNeeded : Type 0
RowsThatCameAndWentAreNeeded =
    run (fresh_with 8) (open_event ∷ set A ∷ dump 1 ∷ set B ∷ NextLost ∷ unset B ∷ NextLost ∷ set B ∷ NextLost ∷ [])
    ≡ Opened 1 ∷ was_true ∷ Took 44 ∷ was_true ∷ LostIs None ∷ was_true ∷ LostIs None ∷ was_true ∷ LostIs (Some 1) ∷ []

-- ---- a list in two fragments

-- 95 programs beside the six own rows
abbrev pub many : List ℕ
many = range_with_len A 95

abbrev pub in_two : List ℕ → List Output
in_two bytes =
    IsPending (words (0x400 ∷ []) ++ take 1024 bytes)
    ∷ Done
    ∷ IsPending (words (0x80000400 ∷ []) ++ drop 1024 bytes)
    ∷ []

abbrev pub ListInTwoFragments : Type 0
ListInTwoFragments =
    run (after fresh (map set many ++ open_event ∷ dump 1 ∷ [])) (Pending 1 ∷ Gave 0 1 1028 ∷ Pending 1 ∷ [])
    ≡ in_two (dump_reply many)

-- it is that of its call, whatever is SET and UNSET while it is given
abbrev pub ListAsOfItsCall : Type 0
ListAsOfItsCall =
    run (after fresh (map set many ++ open_event ∷ dump 1 ∷ unset (A + 94) ∷ set (A + 200) ∷ []))
    (Pending 1 ∷ Gave 0 1 1028 ∷ Pending 1 ∷ [])
    ≡ in_two (dump_reply many)

-- ---- a list in three fragments

-- 140 programs beside the six own rows
abbrev pub with_long_list : State
with_long_list = after fresh (map set (range_with_len A 140) ++ open_event ∷ dump 1 ∷ [])

abbrev pub long_list : List ℕ
long_list = marked_reply (dump_reply (range_with_len A 140))

-- into room for two fragments and a half go two, and the third one goes later
abbrev pub ListIntoRoom : Type 0
ListIntoRoom =
    let given : Result (List ℕ) CoreFault × State = write_into with_long_list 0 1 2570 in
    let ended : Result (List ℕ) CoreFault × State = write_into given.1 0 1 2570 in
    given.0 ∷ (write_into given.1 0 1 900).0 ∷ ended.0 ∷ (write_into ended.1 0 1 2570).0 ∷ []
    ≡ Ok (take 2056 long_list) ∷ Ok [] ∷ Ok (drop 2056 long_list) ∷ Ok [] ∷ []
