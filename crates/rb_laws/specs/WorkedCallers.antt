-- Worked examples: callers that are known, strangers, callers over IPv6, and what each is told.
use Rattle.std.specs.Prelude.{◌≡◌, ℕ, true, false, List, [], ◌∷◌, ◌++◌, replicate, codes, Some}
use Rattle.rb_xdr.specs.Xdr.{words}
use Rattle.rb_address.specs.declared.host.Host.{Host}
use Rattle.rb_address.specs.declared.host.Host.TheVariants.{V4, V6}
use Rattle.rb_address.specs.declared.netid.Netid.{Netid}
use Rattle.rb_address.specs.declared.netid.Netid.TheVariants as netids
use Rattle.rb_address.specs.declared.peer.Peer.{Peer}
use Rattle.rb_address.specs.declared.who.Owner.TheVariants.{Uid}
use Rattle.rb_address.specs.declared.who.Source.TheVariants.{Inet}
use Rattle.rb_address.specs.declared.who.Trust.{Trust}
use Rattle.rb_address.specs.declared.who.Trust.TheVariants.{Local, Stranger}
use Rattle.rb_address.specs.declared.who.Who.{Who}
use Rattle.rb_registry.specs.declared.row.Row.{Row}
use Rattle.rb_registry.specs.Rows.Change.{Added}
use Rattle.rb_answers.specs.declared.listener.Listener.{Listener}
use Rattle.rb_answers.specs.Terms.{open_terms}
use Rattle.rb_answers.specs.Callers.{own_rows}
use Rattle.rb_model.specs.State.{are_good, opening}
use Rattle.rb_model.specs.Step.{Event, Output, run}
use Rattle.rb_model.specs.Step.Event.{Datagram, Unsent}
use Rattle.rb_model.specs.Step.Output.{Replied, Forwarded, UnsentIs}
use Rattle.rb_model.specs.ChangeLaws.{changes_by}
use Rattle.rb_laws.specs.Worked.{loopback, fresh, fresh_with, call2, call_by_none, call_by_sys, success_reply}
use Rattle.rb_laws.specs.WorkedConnections.{limits}
use Rattle.rb_laws.specs.WorkedForwards.{set_event, was_set, indirect, question}

-- from 127.0.0.1, with this known of it
abbrev pub known_as : Trust → Who
known_as trust = record loopback { trust = trust }

-- a SET by AUTH_SYS of uid 0, from a caller that is known as uid 5
abbrev pub KnownCallersSetAsTheyAre : Type 0
KnownCallersSetAsTheyAre =
    changes_by fresh
    (Datagram 0 (known_as (Local (Uid 5))) (call_by_sys 1 2 1 0 ++ words (200001 ∷ 1 ∷ 6 ∷ 2049 ∷ [])) ∷ [])
    ≡ Added (record { prog = 200001; vers = 1; netid = netids.Tcp; owner = Uid 5; addr = codes "0.0.0.0.8.1" }) ∷ []

-- a SET from 127.0.0.1 is FALSE if the caller is a stranger
abbrev pub StrangersAreRefused : Type 0
StrangersAreRefused =
    run fresh (Datagram 0 (known_as Stranger) (call2 3 1 (200001 ∷ 1 ∷ 6 ∷ 2049 ∷ [])) ∷ [])
    ≡ Replied (success_reply 3 (0 ∷ [])) ∷ []

-- at a limit of eight rows the last two are for uid 0, and for who claims what it is
abbrev pub LastQuarterIsKept : Type 0
LastQuarterIsKept =
    run (fresh_with 8)
    (Datagram 0 (known_as (Local (Uid 5))) (call2 1 1 (200001 ∷ 1 ∷ 6 ∷ 2049 ∷ []))
    ∷ Datagram 0 (known_as (Local (Uid 0))) (call2 2 1 (200001 ∷ 1 ∷ 6 ∷ 2049 ∷ []))
    ∷ Datagram 0 loopback (call2 3 1 (200002 ∷ 1 ∷ 6 ∷ 2049 ∷ []))
    ∷ [])
    ≡ Replied (success_reply 1 (0 ∷ [])) ∷ Replied (success_reply 2 (1 ∷ [])) ∷ Replied (success_reply 3 (1 ∷ [])) ∷ []

-- ---- hosts that are told

-- GETADDR of version 3, of version 1 of program 200001
abbrev pub getaddr : List ℕ
getaddr = call_by_none 2 100000 3 3 ++ words (200001 ∷ 1 ∷ 0 ∷ 0 ∷ 0 ∷ [])

-- the reply to it, with a text of this many bytes, and zeros after it
abbrev pub told : ℕ → List ℕ → List ℕ
told count text = success_reply 2 (count ∷ []) ++ text

-- of a row of 0.0.0.0 a caller is told the host that it asked, or the announced one if that is not known
abbrev pub AskedHostIsTold : Type 0
AskedHostIsTold =
    run fresh
    (set_event ∷ Datagram 0 (record loopback { asked = V4 (198 ∷ 51 ∷ 100 ∷ 9 ∷ []) }) getaddr ∷ Datagram 0 loopback getaddr ∷ [])
    ≡ was_set ∷ Replied (told 16 (codes "198.51.100.9.8.1")) ∷ Replied (told 13 (codes "192.0.2.1.8.1" ++ 0 ∷ 0 ∷ 0 ∷ [])) ∷ []

-- ---- IPv6

-- port 111 over IPv4 and IPv6, for which no host is told, and a local socket
abbrev pub everywhere : Listener
everywhere = record {
  announced = record { inet = Some (replicate 4 0); inet6 = Some (replicate 16 0) };
  port = 111;
  local = Some (codes "/run/rpcbind.sock");
  terms = open_terms;
  reserved = [];
}

-- 2001:db8::1, or with another last byte
abbrev pub host6 : ℕ → Host
host6 last = V6 (32 ∷ 1 ∷ 13 ∷ 184 ∷ replicate 11 0 ++ last ∷ [])

abbrev pub from_afar : Who
from_afar = record { source = Inet (record { host = host6 7; port = 900 }); asked = host6 1; trust = Stranger }

-- SETs of program 200001, version 1 on udp at 0.0.0.0.8.1, and on udp6 at ::.8.2, and then these events
abbrev pub behind_both : List Event → List Output
behind_both events =
    run (opening (limits 4 300 4) everywhere 1000 0) (set_event ∷ Datagram 0 loopback set_udp6 ∷ events)
  where
    set_udp6 : List ℕ
    set_udp6 =
        call_by_none 3 100000 4 1 ++ words (200001 ∷ 1 ∷ 4 ∷ []) ++ codes "udp6"
        ++ words (6 ∷ []) ++ codes "::.8.2" ++ 0 ∷ 0 ∷ words (0 ∷ [])

abbrev pub both_set : List Output
both_set = was_set ∷ Replied (success_reply 3 (1 ∷ [])) ∷ []

-- a caller over IPv6 is told the row on udp6, at the host that it asked
abbrev pub CallersOverIpv6AreTold : Type 0
CallersOverIpv6AreTold =
    behind_both (Datagram 0 from_afar getaddr ∷ []) ≡ both_set ++ Replied (told 15 (codes "2001:db8::1.8.2" ++ 0 ∷ [])) ∷ []

-- and a call for it is forwarded to that row, at ::1
abbrev pub CallsOverIpv6AreForwarded : Type 0
CallsOverIpv6AreForwarded =
    behind_both (Datagram 1000 from_afar (indirect 15 200001) ∷ Unsent ∷ [])
    ≡ both_set ++ Forwarded ∷ UnsentIs (Some (record question { target = here6 })) ∷ []
  where
    here6 : Peer
    here6 = record { host = V6 (replicate 15 0 ++ 1 ∷ []); port = 2050 }

-- ---- own rows

abbrev pub own : Netid → List ℕ → ℕ → Row
own netid addr vers = record { prog = 100000; vers = vers; netid = netid; owner = Uid 0; addr = addr }

abbrev pub OwnRowsOfAllNetids : Type 0
OwnRowsOfAllNetids =
    own_rows everywhere
    ≡ own netids.Tcp6 (codes "::.0.111") 4 ∷ own netids.Tcp6 (codes "::.0.111") 3
    ∷ own netids.Udp6 (codes "::.0.111") 4 ∷ own netids.Udp6 (codes "::.0.111") 3
    ∷ own netids.Tcp (codes "0.0.0.0.0.111") 4 ∷ own netids.Tcp (codes "0.0.0.0.0.111") 3 ∷ own netids.Tcp (codes "0.0.0.0.0.111") 2
    ∷ own netids.Udp (codes "0.0.0.0.0.111") 4 ∷ own netids.Udp (codes "0.0.0.0.0.111") 3 ∷ own netids.Udp (codes "0.0.0.0.0.111") 2
    ∷ own netids.Local (codes "/run/rpcbind.sock") 4 ∷ own netids.Local (codes "/run/rpcbind.sock") 3
    ∷ []

-- beside them at least two more have to fit
abbrev pub OwnRowsNeedRoom : Type 0
OwnRowsNeedRoom = (are_good (limits 1 13 0) everywhere ≡ false) × (are_good (limits 1 14 0) everywhere ≡ true)
