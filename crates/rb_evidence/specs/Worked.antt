-- Worked examples, of tables that Linux 6.18 showed for clients of uid 0 and 65534, a closed one among them.
use Rattle.std.specs.Prelude.{◌≡◌, ℕ, List, [], ◌∷◌, ◌++◌, codes, replicate, Some, None}
use Rattle.rb_address.specs.declared.host.Host.TheVariants.{V4, V6}
use Rattle.rb_address.specs.declared.peer.Peer.{Peer}
use Rattle.rb_evidence.specs.Table.{uid_of, uid_of_mapped}

abbrev pub of_127_0_0_1 : ℕ → Peer
of_127_0_0_1 port = record { host = V4 (127 ∷ 0 ∷ 0 ∷ 1 ∷ []); port = port }

abbrev pub of__1 : ℕ → Peer
of__1 port = record { host = V6 (replicate 15 0 ++ 1 ∷ []); port = port }

-- After the head: the listener at port 31112, a connection of uid 65534 seen from both ends, one that its client has
-- closed, one that its client has shut down, and one that waits to be accepted.
abbrev pub table4 : List ℕ
table4 = codes "  sl  local_address rem_address   st tx_queue rx_queue tr tm->when retrnsmt   uid  timeout inode                                                     \n"
    ++ codes "   1: 0100007F:7988 00000000:0000 0A 00000000:00000000 00:00000000 00000000     0        0 480838 1 00000000a4f3f425 100 0 0 10 0                    \n"
    ++ codes "   2: 0100007F:DCFE 0100007F:7988 01 00000000:00000000 00:00000000 00000000 65534        0 481882 2 00000000de433d49 20 0 0 10 -1                    \n"
    ++ codes "   3: 0100007F:DD06 0100007F:7988 05 00000000:00000000 03:00001760 00000000     0        0 0 3 000000001dd51283                                      \n"
    ++ codes "   4: 0100007F:DD08 0100007F:7988 05 00000000:00000000 00:00000000 00000000 65534        0 483792 2 00000000e5f901c8 20 0 0 11 -1                    \n"
    ++ codes "   7: 0100007F:7988 0100007F:DD14 01 00000000:00000000 00:00000000 00000000     0        0 0 1 000000004a7e1525 20 0 0 10 -1                         \n"
    ++ codes "  12: 0100007F:7988 0100007F:DCFE 01 00000000:00000000 00:00000000 00000000     0        0 480846 1 00000000387e9f90 20 0 0 10 -1                    \n"

pub record OverIpv4 : Type 0 where
  pub client : uid_of table4 (of_127_0_0_1 56574) (of_127_0_0_1 31112) ≡ Some 65534
  pub server : uid_of table4 (of_127_0_0_1 31112) (of_127_0_0_1 56574) ≡ Some 0
  pub closed : uid_of table4 (of_127_0_0_1 56582) (of_127_0_0_1 31112) ≡ None
  pub shut_down : uid_of table4 (of_127_0_0_1 56584) (of_127_0_0_1 31112) ≡ None
  pub not_accepted : uid_of table4 (of_127_0_0_1 31112) (of_127_0_0_1 56596) ≡ None
  pub other_port : uid_of table4 (of_127_0_0_1 56575) (of_127_0_0_1 31112) ≡ None
  pub other_door : uid_of table4 (of_127_0_0_1 56574) (of_127_0_0_1 111) ≡ None

-- the same over IPv6, at port 31114
abbrev pub table6 : List ℕ
table6 = codes "  sl  local_address                         remote_address                        st tx_queue rx_queue tr tm->when retrnsmt   uid  timeout inode\n"
    ++ codes "   5: 00000000000000000000000001000000:9B7C 00000000000000000000000001000000:798A 01 00000000:00000000 00:00000000 00000000 65534        0 483225 2 0000000018a3cb3f 20 0 0 10 -1\n"
    ++ codes "   7: 00000000000000000000000001000000:9B8C 00000000000000000000000001000000:798A 05 00000000:00000000 03:00001760 00000000     0        0 0 3 00000000a27b55f1\n"

pub record OverIpv6 : Type 0 where
  pub client : uid_of table6 (of__1 39804) (of__1 31114) ≡ Some 65534
  pub closed : uid_of table6 (of__1 39820) (of__1 31114) ≡ None
  pub shown_twice : uid_of (table6 ++ table6) (of__1 39804) (of__1 31114) ≡ Some 65534

-- a socket of IPv6 that is connected to ::ffff:127.0.0.1: the listener's end, of IPv4, is not in this table
abbrev pub table_mapped : List ℕ
table_mapped = codes "   0: 0000000000000000FFFF00000100007F:8E18 0000000000000000FFFF00000100007F:7991 01 00000000:00000000 00:00000000 00000000 65534        0 574753 2 00000000224133ca 20 0 0 10 -1\n"

pub record OverIpv4InIpv6 : Type 0 where
  pub client : uid_of_mapped table_mapped (of_127_0_0_1 36376) (of_127_0_0_1 31121) ≡ Some 65534
  pub as_it_is : uid_of table_mapped (of_127_0_0_1 36376) (of_127_0_0_1 31121) ≡ None
