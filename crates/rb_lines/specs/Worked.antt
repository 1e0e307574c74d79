-- Worked examples: what texts of event lines say, and what is printed for them.
use Rattle.std.specs.Prelude.{◌≡◌, ◌^◌, ◌-◌, List, ℕ, [], ◌∷◌, ◌++◌, replicate, codes, true, false, Some, None, Ok, Err}
use Rattle.std.specs.List.{flat_map}
use Rattle.std.specs.Int.{w32, to_be_bytes}
use Rattle.rb_address.specs.declared.host.Host.TheVariants.{V4, V6}
use Rattle.rb_address.specs.declared.peer.Peer.{Peer}
use Rattle.rb_address.specs.declared.who.Owner.TheVariants.{Unknown, Uid}
use Rattle.rb_address.specs.declared.who.Source.TheVariants.{Inet, Local}
use Rattle.rb_address.specs.declared.who.Trust.TheVariants as trusts
use Rattle.rb_address.specs.declared.who.Who.{Who}
use Rattle.rb_address.specs.Callers.{unknown_host}
use Rattle.rb_address.specs.Reading.{number_below, peer}
use Rattle.rb_answers.specs.declared.listener.Forwarding.TheVariants.{Anywhere, ForLocal}
use Rattle.rb_answers.specs.declared.listener.Terms.{Terms}
use Rattle.rb_model.specs.Step.Event.{Datagram, Open, Bytes, Pending, Gave, Closed, NextLost, Unsent, Sent, Forward, Expire, ZeroStats}
use Rattle.rb_model.specs.declared.types.CoreFault.TheVariants.{Full, Spent, Gone}
use Rattle.rb_model.specs.Step.Output.{Replied, Silent, Opened, Refused, Took, TookAndLost, IsPending, Done, TooMuch, LostIs, Forwarded, UnsentIs, Ignored, Nothing, Ready, RepliedTo}
use Rattle.rb_lines.specs.Entries.{event_text, listener_text, reserved_text}
use Rattle.rb_lines.specs.declared.lines.ReadFault.TheVariants.{BadLine}
use Rattle.rb_lines.specs.Lines.{read}
use Rattle.rb_lines.specs.Printing.{report_of}

-- numbers, each as four bytes
abbrev pub words : List ℕ → List ℕ
words numbers = flat_map (to_be_bytes w32) numbers

-- a line, and the line feed that ends it
abbrev pub with_line_feed : List ℕ → List ℕ
with_line_feed text = text ++ 10 ∷ []

abbrev pub peer_here : Peer
peer_here = record { host = V4 (127 ∷ 0 ∷ 0 ∷ 1 ∷ []); port = 900 }

-- 2001:db8::1, of the documentation (RFC 3849)
abbrev pub peer_over_ipv6 : Peer
peer_over_ipv6 = record { host = V6 (32 ∷ 1 ∷ 13 ∷ 184 ∷ replicate 11 0 ++ 1 ∷ []); port = 900 }

-- a caller at a peer, of which nothing else is known
abbrev pub claimant_at : Peer → Who
claimant_at peer = record { source = Inet peer; asked = unknown_host; trust = trusts.Claims }

abbrev pub here : Who
here = claimant_at peer_here

abbrev pub over_ipv6 : Who
over_ipv6 = claimant_at peer_over_ipv6

-- root, on a local socket
abbrev pub local_root : Who
local_root = record { source = Local; asked = unknown_host; trust = trusts.Local (Uid 0) }

-- A SET, the port of its row, and the same SET again, as three lines and as three events.
abbrev pub StoredRunIsRead : Type 0
StoredRunIsRead =
    read
    (with_line_feed (codes "datagram 0 127.0.0.1:900 000000030000000000000002000186a000000002000000010000000000000000000000000000000000030d41000000010000000600000801")
    ++ with_line_feed (codes "datagram 0 127.0.0.1:900 000000040000000000000002000186a000000002000000030000000000000000000000000000000000030d41000000010000000600000000")
    ++ with_line_feed (codes "datagram 0 127.0.0.1:900 000000050000000000000002000186a000000002000000010000000000000000000000000000000000030d41000000010000000600000801"))
    ≡ Ok
    (Datagram 0 here (words (3 ∷ 0 ∷ 2 ∷ 100000 ∷ 2 ∷ 1 ∷ 0 ∷ 0 ∷ 0 ∷ 0 ∷ 200001 ∷ 1 ∷ 6 ∷ 2049 ∷ []))
    ∷ Datagram 0 here (words (4 ∷ 0 ∷ 2 ∷ 100000 ∷ 2 ∷ 3 ∷ 0 ∷ 0 ∷ 0 ∷ 0 ∷ 200001 ∷ 1 ∷ 6 ∷ 0 ∷ []))
    ∷ Datagram 0 here (words (5 ∷ 0 ∷ 2 ∷ 100000 ∷ 2 ∷ 1 ∷ 0 ∷ 0 ∷ 0 ∷ 0 ∷ 200001 ∷ 1 ∷ 6 ∷ 2049 ∷ []))
    ∷ [])

-- Its replies TRUE, port 2049 and FALSE, and what is printed for them.
abbrev pub StoredRunIsPrinted : Type 0
StoredRunIsPrinted =
    report_of
    (Replied (words (3 ∷ 1 ∷ 0 ∷ 0 ∷ 0 ∷ 0 ∷ 1 ∷ []))
    ∷ Replied (words (4 ∷ 1 ∷ 0 ∷ 0 ∷ 0 ∷ 0 ∷ 2049 ∷ []))
    ∷ Replied (words (5 ∷ 1 ∷ 0 ∷ 0 ∷ 0 ∷ 0 ∷ 0 ∷ []))
    ∷ Silent
    ∷ [])
    ≡ with_line_feed (codes "reply 00000003000000010000000000000000000000000000000000000001")
    ++ with_line_feed (codes "reply 00000004000000010000000000000000000000000000000000000801")
    ++ with_line_feed (codes "reply 00000005000000010000000000000000000000000000000000000000")
    ++ with_line_feed (codes "silent")

abbrev pub BadEventLine : Type 0
BadEventLine = read (codes "datagram 0 127.0.0.1:900 0g") ≡ Err (BadLine 1)

-- Comments and empty lines say nothing and count. The last line may lack its line feed. A carriage return,
-- a space too many and a space at the end make a bad line.
abbrev pub LinesAreCounted : Type 0
LinesAreCounted =
    (read (with_line_feed (codes "# a" ++ 9 ∷ 13 ∷ []) ++ with_line_feed [] ++ codes "datagram 007 127.0.0.1:900 Af") ≡ Ok (Datagram 7 here (175 ∷ []) ∷ []))
    × (read (with_line_feed (codes "#") ++ with_line_feed [] ++ codes "datagram 7 127.0.0.1:900 -" ++ 13 ∷ []) ≡ Err (BadLine 3))
    × (read (with_line_feed (codes "datagram 7 127.0.0.1:900 -") ++ with_line_feed (codes "datagram 7  127.0.0.1:900 -")) ≡ Err (BadLine 2))
    × (read (codes "datagram 7 127.0.0.1:900 00 ") ≡ Err (BadLine 1))
    × (read (codes " datagram 7 127.0.0.1:900 00") ≡ Err (BadLine 1))
    × (read (codes "datagram 7 127.0.0.1:900 ") ≡ Err (BadLine 1))
    × (read (codes "datagram 7 127.0.0.1:900 000") ≡ Err (BadLine 1))
    × (read (codes "datagrams 7 127.0.0.1:900 00") ≡ Err (BadLine 1))
    × (read [] ≡ Ok [])

abbrev pub NumbersOfLines : Type 0
NumbersOfLines =
    (number_below (2 ^ 64) (codes "18446744073709551615") ≡ Some (2 ^ 64 - 1))
    × (number_below (2 ^ 64) (codes "18446744073709551616") ≡ None)
    × (number_below (2 ^ 64) (codes "000000000000000000000000000018446744073709551615") ≡ Some (2 ^ 64 - 1))
    × (number_below (2 ^ 64) (codes "+1") ≡ None)
    × (number_below (2 ^ 64) [] ≡ None)

abbrev pub PeersOfLines : Type 0
PeersOfLines =
    (peer (codes "127.0.0.1:900") ≡ Some peer_here)
    × (peer (codes "255.255.255.255:65535") ≡ Some (record { host = V4 (255 ∷ 255 ∷ 255 ∷ 255 ∷ []); port = 65535 }))
    × (peer (codes "0.0.0.0:0") ≡ Some (record { host = V4 (0 ∷ 0 ∷ 0 ∷ 0 ∷ []); port = 0 }))
    × (peer (codes "127.0.0.01:900") ≡ None)
    × (peer (codes "127.0.0.1:0900") ≡ None)
    × (peer (codes "127.0.0.256:900") ≡ None)
    × (peer (codes "127.0.0.1:65536") ≡ None)
    × (peer (codes "127.0.0:900") ≡ None)
    × (peer (codes "127.0.0.1.1:900") ≡ None)
    × (peer (codes "127.0.0.1") ≡ None)

-- The lines of connections.
abbrev pub ConnectionsAreRead : Type 0
ConnectionsAreRead =
    (read
    (with_line_feed (codes "open 0005 127.0.0.1:900") ++ with_line_feed (codes "bytes 6 1 80000028") ++ with_line_feed (codes "bytes 0 7 -")
    ++ with_line_feed (codes "pending 01") ++ with_line_feed (codes "gave 0 1 29") ++ with_line_feed (codes "closed 18446744073709551615") ++ codes "lost")
    ≡ Ok
    (Open 5 here ∷ Bytes 6 1 (128 ∷ 0 ∷ 0 ∷ 40 ∷ []) ∷ Bytes 0 7 [] ∷ Pending 1 ∷ Gave 0 1 29 ∷ Closed (2 ^ 64 - 1) ∷ NextLost ∷ []))
    × (read (codes "open 5") ≡ Err (BadLine 1))
    × (read (codes "open 5 127.0.0.1:900 ") ≡ Err (BadLine 1))
    × (read (codes "bytes 0 7") ≡ Err (BadLine 1))
    × (read (codes "bytes 0 7 ") ≡ Err (BadLine 1))
    × (read (codes "pending") ≡ Err (BadLine 1))
    × (read (codes "pending +1") ≡ Err (BadLine 1))
    × (read (codes "gave 0 1") ≡ Err (BadLine 1))
    × (read (codes "gave 0 1 18446744073709551616") ≡ Err (BadLine 1))
    × (read (codes "closed 1 ") ≡ Err (BadLine 1))
    × (read (codes "lost ") ≡ Err (BadLine 1))

abbrev pub ConnectionsArePrinted : Type 0
ConnectionsArePrinted =
    report_of
    (Opened 1 ∷ Refused Full ∷ Refused Spent ∷ Refused Gone ∷ Took 360 ∷ TookAndLost 12 ∷ IsPending (128 ∷ 0 ∷ 0 ∷ 24 ∷ []) ∷ IsPending [] ∷ Done ∷ TooMuch ∷ LostIs None ∷ LostIs (Some 10) ∷ [])
    ≡ with_line_feed (codes "open 1") ++ with_line_feed (codes "full") ++ with_line_feed (codes "spent") ++ with_line_feed (codes "gone") ++ with_line_feed (codes "took 360")
    ++ with_line_feed (codes "took 12 closed") ++ with_line_feed (codes "pending 80000018") ++ with_line_feed (codes "pending -") ++ with_line_feed (codes "ok")
    ++ with_line_feed (codes "toomuch") ++ with_line_feed (codes "lost -") ++ with_line_feed (codes "lost 10")

-- The lines of forwarded calls.
abbrev pub ForwardsAreRead : Type 0
ForwardsAreRead =
    (read
    (with_line_feed (codes "unsent") ++ with_line_feed (codes "sent 01") ++ with_line_feed (codes "forward 2000 127.0.0.1:900 000003e8")
    ++ with_line_feed (codes "forward 2000 127.0.0.1:900 -") ++ codes "expire 6000")
    ≡ Ok
    (Unsent ∷ Sent 1 ∷ Forward 2000 peer_here (0 ∷ 0 ∷ 3 ∷ 232 ∷ []) ∷ Forward 2000 peer_here [] ∷ Expire 6000 ∷ []))
    × (read (codes "unsent ") ≡ Err (BadLine 1))
    × (read (codes "sent") ≡ Err (BadLine 1))
    × (read (codes "sent 18446744073709551616") ≡ Err (BadLine 1))
    × (read (codes "forward 2000 127.0.0.1:900") ≡ Err (BadLine 1))
    × (read (codes "expire -1") ≡ Err (BadLine 1))

-- The line of statistics that begin anew.
abbrev pub ZeroIsRead : Type 0
ZeroIsRead =
    (read (with_line_feed (codes "zero") ++ codes "lost") ≡ Ok (ZeroStats ∷ NextLost ∷ []))
    × (read (codes "zero ") ≡ Err (BadLine 1))
    × (read (codes "zero 1") ≡ Err (BadLine 1))
    × (read (codes "Zero") ≡ Err (BadLine 1))

abbrev pub ZeroIsPrinted : Type 0
ZeroIsPrinted = event_text ZeroStats ≡ with_line_feed (codes "zero")

abbrev pub ForwardsArePrinted : Type 0
ForwardsArePrinted =
    report_of
    (Forwarded ∷ UnsentIs None
    ∷ UnsentIs (Some (record { number = 1; target = peer_here; call = 0 ∷ 0 ∷ 3 ∷ 232 ∷ [] }))
    ∷ Ignored ∷ Nothing ∷ Ready 7 ∷ RepliedTo here (0 ∷ 0 ∷ 0 ∷ 15 ∷ []) ∷ [])
    ≡ with_line_feed (codes "forwarded") ++ with_line_feed (codes "unsent -") ++ with_line_feed (codes "unsent 1 127.0.0.1:900 000003e8")
    ++ with_line_feed (codes "ignored") ++ with_line_feed (codes "nothing") ++ with_line_feed (codes "ready 7")
    ++ with_line_feed (codes "datagram 127.0.0.1:900 0000000f")

-- The lines of callers: which host was asked, and whose word there is for them. A target of a forwarded call is a peer
-- alone.
abbrev pub CallersAreRead : Type 0
CallersAreRead =
    (read
    (with_line_feed (codes "open 5 127.0.0.1:900>192.0.2.9/stranger") ++ with_line_feed (codes "datagram 7 local/0 af")
    ++ with_line_feed (codes "open 5 [2001:db8::1]:900>::1") ++ codes "datagram 8 127.0.0.1:900/unknown -")
    ≡ Ok
    (Open 5 (record here { asked = V4 (192 ∷ 0 ∷ 2 ∷ 9 ∷ []); trust = trusts.Stranger }) ∷ Datagram 7 local_root (175 ∷ [])
    ∷ Open 5 (record over_ipv6 { asked = V6 (replicate 15 0 ++ 1 ∷ []) }) ∷ Datagram 8 (record here { trust = trusts.Local Unknown }) [] ∷ []))
    × (read (codes "open 5 127.0.0.1:900>0.0.0.0") ≡ Err (BadLine 1))
    × (read (codes "open 5 127.0.0.1:900>[::1]") ≡ Err (BadLine 1))
    × (read (codes "open 5 127.0.0.1:900/01") ≡ Err (BadLine 1))
    × (read (codes "open 5 127.0.0.1:900/0>192.0.2.9") ≡ Err (BadLine 1))
    × (read (codes "open 5 local /0") ≡ Err (BadLine 1))
    × (read (codes "forward 2000 local -") ≡ Err (BadLine 1))
    × (read (codes "forward 2000 127.0.0.1:900>192.0.2.9 -") ≡ Err (BadLine 1))
    × (read (codes "forward 2000 127.0.0.1:900/0 -") ≡ Err (BadLine 1))

-- An output has only where the call came from.
abbrev pub CallersArePrinted : Type 0
CallersArePrinted =
    (event_text (Open 5 (record here { asked = V4 (192 ∷ 0 ∷ 2 ∷ 9 ∷ []); trust = trusts.Stranger })) ≡ with_line_feed (codes "open 5 127.0.0.1:900>192.0.2.9/stranger"))
    × (event_text (Datagram 7 local_root (175 ∷ [])) ≡ with_line_feed (codes "datagram 7 local/0 af"))
    × (report_of (RepliedTo local_root (0 ∷ 0 ∷ 0 ∷ 15 ∷ []) ∷ []) ≡ with_line_feed (codes "datagram local 0000000f"))
    × (report_of (RepliedTo (record here { trust = trusts.Stranger }) (0 ∷ 0 ∷ 0 ∷ 15 ∷ []) ∷ []) ≡ with_line_feed (codes "datagram 127.0.0.1:900 0000000f"))

-- terms that hold nobody back
abbrev pub open_terms : Terms
open_terms = record { long_replies = true; forwarding = Anywhere }

-- The command in the first line of a record, of a daemon that serves both families and a local socket, and of one that
-- serves IPv6 alone; when the terms hold somebody back; and programs that are reserved.
abbrev pub OptionsArePrinted : Type 0
OptionsArePrinted =
    (listener_text (record { announced = record { inet = Some (192 ∷ 0 ∷ 2 ∷ 1 ∷ []); inet6 = Some (replicate 15 0 ++ 1 ∷ []) }; port = 111; local = Some (codes "/run/rpcbind.sock"); terms = open_terms; reserved = [] })
    ≡ codes " --announce 192.0.2.1 --announce ::1 --port 111 --local '/run/rpcbind.sock'")
    × (listener_text (record { announced = record { inet = None; inet6 = Some (replicate 15 0 ++ 1 ∷ []) }; port = 111; local = None; terms = open_terms; reserved = [] }) ≡ codes " --announce ::1 --port 111")
    × (listener_text (record { announced = record { inet = None; inet6 = None }; port = 111; local = Some (codes "/run/rpcbind.sock"); terms = record { long_replies = false; forwarding = ForLocal }; reserved = [] })
    ≡ codes " --port 111 --local '/run/rpcbind.sock' --udp-lists local --forward-for local")
    × (reserved_text (record { first = 100003; last = 100003; uid = 0 } ∷ record { first = 100020; last = 100030; uid = 110 } ∷ []) ≡ codes " --reserve 100003=0 --reserve 100020-100030=110")

-- The lines of peers of IPv6. Another spelling of the host, as one that is not shortened or has no brackets, makes a
-- bad line.
abbrev pub Ipv6PeersAreRead : Type 0
Ipv6PeersAreRead =
    (read
    (with_line_feed (codes "open 5 [2001:db8::1]:900") ++ with_line_feed (codes "datagram 7 [2001:db8::1]:900 af")
    ++ codes "forward 2000 [2001:db8::1]:900 -")
    ≡ Ok (Open 5 over_ipv6 ∷ Datagram 7 over_ipv6 (175 ∷ []) ∷ Forward 2000 peer_over_ipv6 [] ∷ []))
    × (read (codes "open 5 [2001:db8:0:0:0:0:0:1]:900") ≡ Err (BadLine 1))
    × (read (codes "open 5 [2001:DB8::1]:900") ≡ Err (BadLine 1))
    × (read (codes "open 5 2001:db8::1:900") ≡ Err (BadLine 1))
    × (read (codes "open 5 [::ffff:127.0.0.1]:900") ≡ Err (BadLine 1))
    × (read (codes "open 5 [2001:db8::1]:0900") ≡ Err (BadLine 1))
    × (read (codes "open 5 [2001:db8::1]") ≡ Err (BadLine 1))
    × (read (codes "datagram 7 [2001:db8::1] :900 af") ≡ Err (BadLine 1))

abbrev pub Ipv6PeersArePrinted : Type 0
Ipv6PeersArePrinted =
    (report_of (RepliedTo over_ipv6 (0 ∷ 0 ∷ 0 ∷ 15 ∷ []) ∷ []) ≡ with_line_feed (codes "datagram [2001:db8::1]:900 0000000f"))
    × (event_text (Open 5 over_ipv6) ≡ with_line_feed (codes "open 5 [2001:db8::1]:900"))
    × (event_text (Datagram 7 over_ipv6 (175 ∷ [])) ≡ with_line_feed (codes "datagram 7 [2001:db8::1]:900 af"))
