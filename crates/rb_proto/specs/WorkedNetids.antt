-- Worked examples of the netids tcp6, udp6 and local. The listener is 192.0.2.1, port 111; callers are at 127.0.0.1, and come by UDP.
use Rattle.std.specs.Prelude.{◌≡◌, ℕ, List, [], ◌∷◌, ◌++◌, Ok, codes}
use Rattle.rb_xdr.specs.Xdr.{words, opaque}
use Rattle.rb_rpc.specs.declared.call.Credential.TheVariants as credentials
use Rattle.rb_proto.specs.Worked.{Message, call, call_as, call_with, rpcb_args, results_of, results_behind, yes, no_}

-- SET by uid 500 of version 1 of program 200001
abbrev pub set_on : List ℕ → List ℕ → Message
set_on netid addr = call_with (credentials.Sys 500) 4 1 (rpcb_args 200001 1 netid addr)

abbrev pub long_address : List ℕ
long_address = codes "2001:DB8:0:0:1:0:0:1.8.1"

-- A universal address of the netid's family that has a port is set, and any name of a local socket.
abbrev pub AddressesGoByNetid : Type 0
AddressesGoByNetid =
    results_of (
    set_on (codes "tcp6") long_address ∷ set_on (codes "udp6") (codes "1::2::3.0.1") ∷ set_on (codes "udp6") (codes "::1.0.0")
    ∷ set_on (codes "udp6") (codes "0.0.0.0.8.1") ∷ set_on (codes "udp6") long_address ∷ set_on (codes "tcp") long_address
    ∷ set_on (codes "local") [] ∷ set_on (codes "local") (47 ∷ 0 ∷ 120 ∷ []) ∷ set_on (codes "local") (codes "/run/x") ∷ [])
    ≡ yes ∷ no_ ∷ no_ ∷ no_ ∷ yes ∷ no_ ∷ no_ ∷ no_ ∷ yes ∷ []

abbrev pub three_sets : List Message
three_sets = set_on (codes "tcp6") long_address ∷ set_on (codes "udp6") long_address ∷ set_on (codes "local") (codes "0.0.0.0.8.1") ∷ []

-- TRUE and an entry of GETADDRLIST
abbrev pub entry : List ℕ → List ℕ → ℕ → List ℕ → List ℕ → List ℕ
entry addr netid semantics family proto =
    words (1 ∷ []) ++ opaque addr ++ opaque netid ++ words (semantics ∷ []) ++ opaque family ++ opaque proto

-- GETADDRLIST shows the texts as they were set, also that of a local socket that looks like an address.
abbrev pub TextsStay : Type 0
TextsStay =
    results_behind 3 (three_sets ++ call 4 11 (200001 ∷ 1 ∷ 0 ∷ 0 ∷ 0 ∷ []) ∷ [])
    ≡ Ok (
    entry long_address (codes "tcp6") 3 (codes "inet6") (codes "tcp")
    ++ entry long_address (codes "udp6") 1 (codes "inet6") (codes "udp")
    ++ entry (codes "0.0.0.0.8.1") (codes "local") 3 (codes "loopback") (codes "-")
    ++ words (0 ∷ [])) ∷ []

-- GETADDR and GETPORT find none of these rows, and version 2 neither removes nor lists them; UNSET of version 4 without a netid removes all.
abbrev pub OthersAreNotSeen : Type 0
OthersAreNotSeen =
    results_behind 3 (
    three_sets ++ call 4 3 (200001 ∷ 1 ∷ 0 ∷ 0 ∷ 0 ∷ []) ∷ call 2 3 (200001 ∷ 1 ∷ 6 ∷ 0 ∷ []) ∷ call_as 0 2 2 (200001 ∷ 1 ∷ 6 ∷ 0 ∷ [])
    ∷ call_as 500 4 2 (200001 ∷ 1 ∷ 0 ∷ 0 ∷ 0 ∷ []) ∷ call 4 11 (200001 ∷ 1 ∷ 0 ∷ 0 ∷ 0 ∷ []) ∷ [])
    ≡ no_ ∷ no_ ∷ no_ ∷ yes ∷ no_ ∷ []

abbrev pub VersionTwoListsNone : Type 0
VersionTwoListsNone = results_behind 3 (three_sets ++ call 2 4 [] ∷ []) ≡ results_of (call 2 4 [] ∷ [])

-- of `2001:DB8:0:0:1:0:0:1.8.1`, and back
abbrev pub Ipv6TransportForm : Type 0
Ipv6TransportForm =
    results_of (
    call_with credentials.None 3 7 (opaque long_address)
    ∷ call 3 8 (0x1c ∷ 0x1c ∷ 0x0a000801 ∷ 0 ∷ 0x20010db8 ∷ 0 ∷ 0x00010000 ∷ 1 ∷ 0 ∷ []) ∷ [])
    ≡ Ok (words (0x1c ∷ 0x1c ∷ 0x0a000801 ∷ 0 ∷ 0x20010db8 ∷ 0 ∷ 0x00010000 ∷ 1 ∷ 0 ∷ []))
    ∷ Ok (opaque (codes "2001:db8::1:0:0:1.8.1")) ∷ []
