-- Universal addresses of TCP and UDP over IPv4 and IPv6 (RFC 5665 sections 5.2.3.3 and 5.2.3.4), and their transport form.
use Rattle.std.specs.Prelude.{◌≡◌, ◌≢◌, ◌<◌, ℕ, ◌+◌, ◌*◌, ◌/◌, ◌%◌, ◌^◌, ◌==◌, nat_lt, nat_le, not, ◌&&◌, if◌then◌else◌, Bool, false, List, [], ◌∷◌, ◌++◌, length, take, map, replicate, slice_range, slice_index, All, Option, Some, None, option_map, decimal, bytes_eq}
use Rattle.std.specs.Char.{digit_char}
use Rattle.std.specs.List.{slice_split, join_with_byte, list_any}
use Rattle.std.specs.Option.{option_or}
use Rattle.std.specs.Net.Addr.{segments_of, octets_of}
use Rattle.std.specs.Net.Reader.{read_ipv6, whole_value}
use Rattle.std.specs.Net.Text.{hex_groups_text}
use Rattle.std.specs.Str.Parse.{digits_value}
use Rattle.rb_uaddr.specs.declared.address.Uaddr.{Uaddr}
use Rattle.rb_uaddr.specs.declared.address.Uaddr.TheVariants.{V4, V6}
use Rattle.rb_uaddr.specs.declared.address.Hosts.{Hosts}

-- this many bytes
pub record IsBytes (n : ℕ) (bytes : List ℕ) : Type 0 where
  pub count : length bytes ≡ n
  pub small : All (λ b. b < 256) bytes

-- The host is four bytes or sixteen, the most significant first; the port has sixteen bits.
abbrev pub IsUaddr : Uaddr → Type 0
IsUaddr (V4 host port) = IsBytes 4 host × (port < 2 ^ 16)
IsUaddr (V6 host port) = IsBytes 16 host × (port < 2 ^ 16)

unfoldable pub port_of : Uaddr → ℕ
port_of (V4 host port) = port
port_of (V6 host port) = port

-- the IPv4 host 0.0.0.0, which stands for every host of the listener
abbrev pub any_host : List ℕ
any_host = 0 ∷ 0 ∷ 0 ∷ 0 ∷ []

abbrev pub any_host6 : List ℕ
any_host6 = replicate 16 0

-- the port's high byte and low byte
unfoldable pub port_bytes : ℕ → List ℕ
port_bytes port = port / 256 ∷ port % 256 ∷ []

-- ---- the text

abbrev pub dot : ℕ
dot = 46

-- the host in groups of sixteen bits, with `::` for the longest run of zeros (RFC 5952 section 4)
unfoldable pub ipv6_host_text : List ℕ → List ℕ
ipv6_host_text host = hex_groups_text (segments_of host)

-- `h1.h2.h3.h4.p1.p2` and `x1:x2:x3:x4:x5:x6:x7:x8.p1.p2`: the host, and the bytes of the port in decimal
-- UADDR-1 UADDR-3
unfoldable pub text_of : Uaddr → List ℕ
text_of (V4 host port) = join_with_byte dot (map decimal (host ++ port_bytes port))
text_of (V6 host port) = join_with_byte dot (ipv6_host_text host ∷ map decimal (port_bytes port))

-- the number below 256 that has this decimal text
unfoldable pub octet : List ℕ → Option ℕ
octet text = let n = digits_value 10 text in if nat_lt n 256 && bytes_eq (decimal n) text then Some n else None

infixl 10 ◌>>=◌
abbrev pub ◌>>=◌ : {A B : Type 0} → Option A → (A → Option B) → Option B
(Some x) >>= f = f x
None >>= f = None

-- the IPv4 address whose six numbers have these texts
unfoldable pub ipv4_of_parts : List (List ℕ) → Option Uaddr
ipv4_of_parts (a ∷ b ∷ c ∷ d ∷ e ∷ f ∷ []) = do
  h1 ← octet a
  h2 ← octet b
  h3 ← octet c
  h4 ← octet d
  p1 ← octet e
  p2 ← octet f
  Some (V4 (h1 ∷ h2 ∷ h3 ∷ h4 ∷ []) (256 * p1 + p2))
ipv4_of_parts _ = None

-- The sixteen bytes of the host that has this text. `read_ipv6` also reads hosts that end in an IPv4 address, but a part between dots is none.
unfoldable pub ipv6_host : List ℕ → Option (List ℕ)
ipv6_host text = option_map octets_of (whole_value (read_ipv6 text))

-- the IPv6 address whose host and two numbers have these texts
unfoldable pub ipv6_of_parts : List (List ℕ) → Option Uaddr
ipv6_of_parts (h ∷ e ∷ f ∷ []) = do
  host ← ipv6_host h
  p1 ← octet e
  p2 ← octet f
  Some (V6 host (256 * p1 + p2))
ipv6_of_parts _ = None

-- what stands between the dots
unfoldable pub parts_of : List ℕ → List (List ℕ)
parts_of text = slice_split (λ b. b == dot) text

-- UADDR-4: The text of an address is kept as it was given, beside the universal address that it
-- spells, if it spells one.
unfoldable pub parse_ipv4 : List ℕ → Option Uaddr
parse_ipv4 text = ipv4_of_parts (parts_of text)

-- UADDR-4
unfoldable pub parse_ipv6 : List ℕ → Option Uaddr
parse_ipv6 text = ipv6_of_parts (parts_of text)

-- the address that has this text: an IPv4 address has six parts, and an IPv6 address three
-- UADDR-1 UADDR-2
unfoldable pub parse : List ℕ → Option Uaddr
parse text = option_or (parse_ipv4 text) (parse_ipv6 text)

-- UADDR-5: The name of a local socket is any text of 1 to 128 bytes, none of them zero.
unfoldable pub is_local_text : List ℕ → Bool
is_local_text text = nat_lt 0 (length text) && nat_le (length text) 128 && not (list_any (λ b. b == 0) text)

-- ---- a host of its family in place of every host

-- an IPv4 host, or the given one in place of 0.0.0.0
unfoldable pub merged_host : List ℕ → List ℕ → List ℕ
merged_host host own = if bytes_eq own any_host then host else own

-- an IPv6 host, or the given one in place of ::
unfoldable pub merged_host6 : List ℕ → List ℕ → List ℕ
merged_host6 host own = if bytes_eq own any_host6 then host else own

-- whether an address has such a host, if it is one
abbrev pub is_at_any : Option Uaddr → Bool
is_at_any (Some (V4 own port)) = bytes_eq own any_host
is_at_any (Some (V6 own port)) = bytes_eq own any_host6
is_at_any None = false

-- 0.0.0.0 and :: are replaced, and nothing else
-- MERGE-1
unfoldable pub merged_address : Hosts → Uaddr → Uaddr
merged_address hosts (V4 own port) = V4 (merged_host hosts.inet own) port
merged_address hosts (V6 own port) = V6 (merged_host6 hosts.inet6 own) port

-- ---- the transport form, which RFC 1833 section 2.1 leaves open

-- TADDR-1: The transport form of an IPv4 address is 16 bytes: 2, 0, the port, the host, and eight
-- zeros; of an IPv6 address 28: 10, 0, the port, four zeros, the host, four zeros. If a form is
-- read these eight may be any bytes.
unfoldable pub transport_of : Uaddr → List ℕ
transport_of (V4 host port) = 2 ∷ 0 ∷ port_bytes port ++ host ++ replicate 8 0
transport_of (V6 host port) = 10 ∷ 0 ∷ port_bytes port ++ replicate 4 0 ++ host ++ replicate 4 0

-- this many bytes, that begin with the family and a zero
abbrev pub is_form : ℕ → ℕ → List ℕ → Bool
is_form family n form = length form == n && bytes_eq (take 2 form) (family ∷ 0 ∷ [])

abbrev pub form_port : List ℕ → ℕ
form_port form = 256 * slice_index form 2 + slice_index form 3

-- The length and the first two bytes decide; where zeros are written nothing is looked at.
-- TADDR-1
unfoldable pub from_transport : List ℕ → Option Uaddr
from_transport form =
    if is_form 2 16 form then Some (V4 (slice_range form 4 8) (form_port form))
    else (if is_form 10 28 form then Some (V6 (slice_range form 8 24) (form_port form)) else None)

-- ---- as the code has them

-- the digit that is worth this much in a group of an IPv6 host, or nothing for a leading zero
abbrev pub place_text : ℕ → ℕ → List ℕ
place_text worth group = if nat_le worth group then digit_char (group / worth % 16) ∷ [] else []

-- of addresses those of one family
abbrev pub ipv4_alone : Option Uaddr → Option Uaddr
ipv4_alone (Some (V4 host port)) = Some (V4 host port)
ipv4_alone (Some (V6 host port)) = None
ipv4_alone None = None

abbrev pub ipv6_alone : Option Uaddr → Option Uaddr
ipv6_alone (Some (V6 host port)) = Some (V6 host port)
ipv6_alone (Some (V4 host port)) = None
ipv6_alone None = None

abbrev pub HasNoDot : List ℕ → Type 0
HasNoDot text = All (λ b. (b == dot) ≡ false) text

-- the text is this number below 256 in decimal, a dot, and this rest
abbrev pub BeginsWith : ℕ → List ℕ → List ℕ → Type 0
BeginsWith n rest text = (n < 256) × (text ≡ decimal n ++ dot ∷ rest)

-- the text is the front, its first dot, and the rest
pub record IsCutAtDot (front rest text : List ℕ) : Type 0 where
  pub no_dot : HasNoDot front
  pub text_is : text ≡ front ++ dot ∷ rest

-- no number below 256 stands before a dot
abbrev pub BeginsWithNone : List ℕ → Type 0
BeginsWithNone text = (n : ℕ) (rest : List ℕ) → ¬ (BeginsWith n rest text)

-- the first dot after the first byte stands there
pub record IsFirstDot (text : List ℕ) (end : ℕ) : Type 0 where
  pub behind : 0 < end
  pub within : end < length text
  pub found : slice_index text end ≡ dot
  pub first : (i : ℕ) → 0 < i → i < end → slice_index text i ≢ dot
