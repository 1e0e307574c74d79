-- The networks of this machine, as Linux lists its routes: a line each, of fields with tabs between them (proc(5),
-- /proc/net/route).
use Rattle.std.specs.Prelude.{◌≡◌, ℕ, ◌-◌, ◌==◌, ◌++◌, Bool, if◌then◌else◌, List, [], ◌∷◌, reverse, codes, bit_or, Option, Some, None, Result, Ok, Err}
use Rattle.std.specs.List.{list_any, slice_split, flat_map}
use Rattle.std.specs.Global.{Vec}
use Rattle.std.specs.Vec.{vec_items}
use Rattle.std.specs.Str.{bytes_eq}
use Rattle.hex.specs.Hex.{decode_sized}
use Rattle.hex.specs.declared.error.FromHexError.{FromHexError}

-- BROADCAST-2: Routes are read whole, at most 1,048,576 bytes.
abbrev pub longest_routes : ℕ
longest_routes = 1048576

-- the pieces of a text between bytes of this value
abbrev pub pieces_of : ℕ → List ℕ → List (List ℕ)
pieces_of between text = slice_split (λ b. b == between) text

abbrev pub tab : ℕ
tab = 9

abbrev pub newline : ℕ
newline = 10

abbrev pub reversed_octets : Result (List ℕ) FromHexError → Option (List ℕ)
reversed_octets (Ok octets) = Some (reverse octets)
reversed_octets (Err fault) = None

-- an IPv4 address: eight hexadecimal digits, the octets from the last to the first
abbrev pub route_address : List ℕ → Option (List ℕ)
route_address field = reversed_octets (decode_sized field 4)

-- a network's address with each bit of its hosts set (RFC 919 section 7, RFC 922 section 7)
abbrev pub broadcast_of : List ℕ → List ℕ → List ℕ
broadcast_of (octet ∷ octets) (mask ∷ masks) = bit_or octet (255 - mask) ∷ broadcast_of octets masks
broadcast_of octets masks = []

abbrev pub broadcast_by : Option (List ℕ) → Option (List ℕ) → Option (List ℕ)
broadcast_by (Some network) (Some mask) = Some (broadcast_of network mask)
broadcast_by network mask = None

-- a route that is up, and goes through no gateway, nor to one host
abbrev pub is_direct : List ℕ → Bool
is_direct flags = bytes_eq flags (codes "0001")

abbrev pub network_of : List (List ℕ) → Option (List ℕ)
network_of (interface ∷ network ∷ gateway ∷ flags ∷ count ∷ uses ∷ metric ∷ mask ∷ more) =
    if is_direct flags then broadcast_by (route_address network) (route_address mask) else None
network_of fields = None

abbrev pub option_list : Option (List ℕ) → List (List ℕ)
option_list None = []
option_list (Some network) = network ∷ []

-- the broadcast address of the network that a line's route leads to, if this machine is on it
abbrev pub networks_in_line : List ℕ → List (List ℕ)
networks_in_line line = option_list (network_of (pieces_of tab line))

-- those of all lines, in their order
-- BROADCAST-1: `-b` goes to the broadcast address of each network that this machine is on, to
-- 255.255.255.255 if none is shown, and with `--broadcast` to that address alone.
abbrev pub networks_in : List ℕ → List (List ℕ)
networks_in routes = flat_map networks_in_line (pieces_of newline routes)

-- these addresses stand after those that were there
abbrev pub AddsNetworks : Vec (List ℕ) → Vec (List ℕ) → List (List ℕ) → Type 0
AddsNetworks old new networks = vec_items new ≡ vec_items old ++ networks

-- what became of a broadcast at each of its networks
-- BROADCAST-3: A broadcast has gone out if it went to one of its networks at least.
abbrev pub has_gone_out : List Bool → Bool
has_gone_out sent = list_any (λ is_sent. is_sent) sent
