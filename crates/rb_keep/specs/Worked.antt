-- Worked examples: the lines of rows, and how they are read.
use Rattle.std.specs.Prelude.{◌≡◌, ℕ, List, [], ◌∷◌, ◌++◌, take, codes, Ok, Err}
use Rattle.rb_address.specs.declared.netid.Netid.TheVariants.{Tcp, Local}
use Rattle.rb_address.specs.declared.who.Owner.TheVariants.{Unknown, Uid}
use Rattle.rb_registry.specs.declared.row.Row.{Row}
use Rattle.rb_registry.specs.Index.{rank}
use Rattle.rb_keep.specs.declared.fault.KeepFault.TheVariants.{BadLine, NotKept}
use Rattle.rb_keep.specs.Kept.{rows_text, all_netids, lines_on}
use Rattle.rb_keep.specs.Reading.{read}

-- program 200001, version 1 on TCP, by AUTH_NONE, and 200002, version 3 on a local socket, by uid 1000
abbrev pub two_rows : List Row
two_rows =
    record { prog = 200001; vers = 1; netid = Tcp; owner = Unknown; addr = codes "0.0.0.0.8.1" }
    ∷ record { prog = 200002; vers = 3; netid = Local; owner = Uid 1000; addr = codes "/run/x.sock" }
    ∷ []

-- as tests/row.py makes them of `(xid=0 4 set 200001 1 tcp 0.0.0.0.8.1)` and
-- `(xid=0 uid=1000 4 set 200002 3 local /run/x.sock)`
abbrev pub two_lines : List ℕ
two_lines =
    codes "datagram 8 127.0.0.1:0 000000000000000000000002000186a000000004000000010000000000000000000000000000000000030d410000000100000003746370000000000b302e302e302e302e382e310000000000\n"
    ++ codes "datagram 8 127.0.0.1:0 000000000000000000000002000186a0000000040000000100000001000000140000000000000000000003e80000000000000000000000000000000000030d4200000003000000056c6f63616c0000000000000b2f72756e2f782e736f636b0000000000\n"

-- These lines are kept of them at the moment 8.
abbrev pub LinesOfTwoRows : Type 0
LinesOfTwoRows = rows_text 8 two_rows ≡ two_lines

abbrev pub TwoLinesAreRead : Type 0
TwoLinesAreRead = read (codes "# kept\n\n" ++ two_lines) ≡ Ok two_rows

-- as tests/row.py makes it of `(xid=0 uid=1000 4 unset 200002 3 local)`
abbrev pub third_line : List ℕ
third_line = codes "datagram 9 127.0.0.1:0 000000000000000000000002000186a0000000040000000200000001000000140000000000000000000003e80000000000000000000000000000000000030d4200000003000000056c6f63616c0000000000000000000000\n"

-- their owners
abbrev pub two_owners : List (ℕ × ℕ)
two_owners = (rank 200001 Tcp 1, 0) ∷ (rank 200002 Local 3, 1001) ∷ []

-- The second row goes, and has this line. The text is then read as the first one, whatever stands behind it.
abbrev pub ARowGoes : Type 0
ARowGoes =
    (lines_on 9 200002 3 (take 1 two_rows) all_netids two_owners ≡ third_line)
    × (read (two_lines ++ third_line) ≡ Ok (take 1 two_rows))
    × (read (two_lines ++ third_line ++ codes "datagram 9 127") ≡ Ok (take 1 two_rows))

-- Another port, whose word it is, another xid and a byte after the call make another event.
abbrev pub OtherLinesAreNamed : Type 0
OtherLinesAreNamed =
    (read (codes "datagram 8 127.0.0.1:1 000000000000000000000002000186a000000004000000010000000000000000000000000000000000030d410000000100000003746370000000000b302e302e302e302e382e310000000000\n") ≡ Err (NotKept 1))
    × (read (codes "datagram 8 127.0.0.1:0/0 000000000000000000000002000186a000000004000000010000000000000000000000000000000000030d410000000100000003746370000000000b302e302e302e302e382e310000000000\n") ≡ Err (NotKept 1))
    × (read (codes "datagram 8 127.0.0.1:0 000000010000000000000002000186a000000004000000010000000000000000000000000000000000030d410000000100000003746370000000000b302e302e302e302e382e310000000000\n") ≡ Err (NotKept 1))
    × (read (codes "datagram 8 127.0.0.1:0 000000000000000000000002000186a000000004000000010000000000000000000000000000000000030d410000000100000003746370000000000b302e302e302e302e382e31000000000000\n") ≡ Err (NotKept 1))
    × (read (codes "\nexpire 8\n") ≡ Err (NotKept 2))
    × (read (codes "# kept\ndatagram 8\n") ≡ Err (BadLine 2))
