-- Networks: the hosts that begin with the same bits.
use Rattle.std.specs.Prelude.{ℕ, ◌/◌, ◌%◌, ◌==◌, nat_lt, not, Bool, false, if◌then◌else◌, List, [], ◌∷◌, take, drop, bytes_eq, Option, Some, None, option_map, Result, Ok, Err}
use Rattle.std.specs.List.{list_all, flat_map}
use Rattle.std.specs.Option.{option_or}
use Rattle.rb_uaddr.specs.Uaddr.{ipv6_host}
use Rattle.rb_address.specs.declared.host.Host.{Host}
use Rattle.rb_address.specs.declared.host.Host.TheVariants.{V4, V6}
use Rattle.rb_address.specs.declared.network.Network.{Network}
use Rattle.rb_address.specs.declared.network.NetworkFault.{NetworkFault}
use Rattle.rb_address.specs.declared.network.NetworkFault.TheVariants.{TooLong, BitsBehind, Mapped}
use Rattle.rb_address.specs.Hosts.{octets_of_host, bit_count, is_same_host, plain_host}
use Rattle.rb_address.specs.Reading.{◌>>=◌, cut, plain_number, ipv4_host}

-- ---- the bits of a host, each 0 or 1, the most significant first

abbrev pub octet_bits : ℕ → List ℕ
octet_bits b = b / 128 % 2 ∷ b / 64 % 2 ∷ b / 32 % 2 ∷ b / 16 % 2 ∷ b / 8 % 2 ∷ b / 4 % 2 ∷ b / 2 % 2 ∷ b % 2 ∷ []

abbrev pub bits_of : List ℕ → List ℕ
bits_of octets = flat_map octet_bits octets

-- ---- networks

-- the first this many bits are the same
abbrev pub is_same_front : ℕ → List ℕ → List ℕ → Bool
is_same_front length a b = bytes_eq (take length (bits_of a)) (take length (bits_of b))

-- hosts of two families are never in one network
abbrev pub has_front : Host → ℕ → Host → Bool
has_front (V4 a) length (V4 b) = is_same_front length a b
has_front (V6 a) length (V6 b) = is_same_front length a b
has_front (V4 a) length (V6 b) = false
has_front (V6 a) length (V4 b) = false

-- NETWORK-1: A network has the hosts whose first bits are those of its own host, as many as its
-- length says, and none of the other family.
abbrev pub has : Network → Host → Bool
has network host = has_front network.host network.length host

-- every bit after this many is 0
abbrev pub is_clear_behind : ℕ → List ℕ → Bool
is_clear_behind length octets = list_all (λ bit. bit == 0) (drop length (bits_of octets))

abbrev pub is_clear : ℕ → Host → Bool
is_clear length host = is_clear_behind length (octets_of_host host)

-- NETWORK-2: No network has a length of more than 32 bits, or of 128 for IPv6, a bit set after its
-- length, or a host of IPv4 in IPv6's form.
unfoldable pub network_at : Host → ℕ → Result Network NetworkFault
network_at host length =
    if nat_lt (bit_count host) length then Err TooLong
    else if not (is_clear length host) then Err BitsBehind
    else if not (is_same_host (plain_host host) host) then Err Mapped
    else Ok (record { host = host; length = length })

-- ---- their texts

-- a host of either family, an IPv6 host in any spelling
abbrev pub host_of : List ℕ → Option Host
host_of text = option_or (option_map V4 (ipv4_host text)) (option_map V6 (ipv6_host text))

-- HOST-1: An address of an option is dotted IPv4 without leading zeros, or IPv6 in any spelling,
-- except one of IPv4 in IPv6's form, ::ffff:a.b.c.d; another like ::1.2.3.4 is taken.
unfoldable pub plain_host_of : List ℕ → Option Host
plain_host_of text = do
  host ← host_of text
  if is_same_host (plain_host host) host then Some host else None

abbrev pub if_ok : Result Network NetworkFault → Option Network
if_ok (Ok network) = Some network
if_ok (Err fault) = None

-- a host alone is a network of one host
abbrev pub network_of_one : List ℕ → Option Network
network_of_one text = do
  host ← host_of text
  if_ok (network_at host (bit_count host))

abbrev pub network_of_parts : Option (List ℕ × List ℕ) → List ℕ → Option Network
network_of_parts None text = network_of_one text
network_of_parts (Some parts) text = do
  host ← host_of parts.0
  length ← plain_number 256 parts.1
  if_ok (network_at host length)

-- a host, a slash and a length in decimal without leading zeros
-- OPTION-5
unfoldable pub network_of : List ℕ → Option Network
network_of text = network_of_parts (cut 47 text) text

-- ---- of one byte

abbrev pub is_same_octet : ℕ → ℕ → ℕ → Bool
is_same_octet length x y = bytes_eq (take length (octet_bits x)) (take length (octet_bits y))

abbrev pub is_octet_clear : ℕ → ℕ → Bool
is_octet_clear length x = list_all (λ bit. bit == 0) (drop length (octet_bits x))
