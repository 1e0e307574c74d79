-- How a universal address is spelled (RFC 5665 sections 5.2.3.3 and 5.2.3.4), and the laws that join the definitions to it.
use Rattle.std.specs.Prelude.{◌≡◌, ◌≢◌, ℕ, ◌+◌, ◌-◌, ◌*◌, ◌^◌, ◌<◌, ◌≤◌, ◌⊎◌, ◌↔◌, true, List, [], ◌∷◌, ◌++◌, length, map, take, drop, replicate, slice_index, codes, Some, decimal, All}
use Rattle.std.specs.Int.{IsInRange}
use Rattle.std.specs.List.{join_with_byte}
use Rattle.std.specs.Net.Addr.{segments_of, octets_of}
use Rattle.std.specs.Net.Text.{hex}
use Rattle.std.specs.Str.Parse.{AllDigits, digits_value}
use Rattle.rb_uaddr.specs.declared.address.Uaddr.{Uaddr}
use Rattle.rb_uaddr.specs.declared.address.Uaddr.TheVariants.{V4, V6}
use Rattle.rb_uaddr.specs.declared.address.Hosts.{Hosts}
use Rattle.rb_uaddr.specs.Uaddr.{IsBytes, IsUaddr, any_host, any_host6, dot, ipv6_host_text, parse, text_of, merged_address, is_local_text, transport_of, from_transport}

-- UADDR-1: An IPv4 address is `h1.h2.h3.h4.p1.p2`, six decimal numbers from 0 to 255 without
-- leading zeros; the port is 256·p1 + p2.
pub record SpellsV4 (host : List ℕ) (port : ℕ) (text : List ℕ) : Type 0 where
  pub p1 : ℕ
  pub p2 : ℕ
  pub host_fits : IsBytes 4 host
  pub p1_fits : p1 < 256
  pub p2_fits : p2 < 256
  pub port_is : port ≡ 256 * p1 + p2
  pub text_is : text ≡ join_with_byte dot (map decimal (host ++ p1 ∷ p2 ∷ []))

-- ---- IPv6

abbrev pub colon : ℕ
colon = 58

-- one to four hexadecimal digits of either case (RFC 4291 section 2.2)
pub record IsGroup (text : List ℕ) : Type 0 where
  pub digits : AllDigits 16 text
  pub some : 0 < length text
  pub few : length text ≤ 4

abbrev pub group_values : List (List ℕ) → List ℕ
group_values groups = map (digits_value 16) groups

-- all eight groups, with a colon between each two (RFC 4291 section 2.2, form 1)
pub record SpellsInFull (host text : List ℕ) : Type 0 where
  pub groups : List (List ℕ)
  pub eight : length groups ≡ 8
  pub are_groups : All IsGroup groups
  pub host_is : host ≡ octets_of (group_values groups)
  pub text_is : text ≡ join_with_byte colon groups

-- at most seven groups, with one `::` for those that are missing, which are zeros (form 2)
pub record SpellsShortened (host text : List ℕ) : Type 0 where
  pub front : List (List ℕ)
  pub back : List (List ℕ)
  pub few : length front + length back < 8
  pub front_groups : All IsGroup front
  pub back_groups : All IsGroup back
  pub host_is : host ≡ octets_of (group_values front ++ replicate (8 - length front - length back) 0 ++ group_values back)
  pub text_is : text ≡ join_with_byte colon front ++ codes "::" ++ join_with_byte colon back

-- The third form, which ends in an IPv4 address, is left out here, though RFC 5665 section 5.2.3.4 allows it; a zone is no part
-- of a universal address.
abbrev pub SpellsHost : List ℕ → List ℕ → Type 0
SpellsHost host text = SpellsInFull host text ⊎ SpellsShortened host text

-- `x1:x2:x3:x4:x5:x6:x7:x8.p1.p2` or the same with `::`: the host's text, and two numbers from 0 to 255 in decimal without leading zeros,
-- with a dot before each. The port is 256·p1 + p2.
-- UADDR-2: An IPv6 address is read as eight groups of one to four hexadecimal digits of either case
-- with colons between them, or at most seven and one `::` for those that are missing, and `.p1.p2`.
-- A host that ends in an IPv4 address, or has a zone, is none.
pub record SpellsV6 (host : List ℕ) (port : ℕ) (text : List ℕ) : Type 0 where
  pub host_text : List ℕ
  pub p1 : ℕ
  pub p2 : ℕ
  pub host_spelled : SpellsHost host host_text
  pub p1_fits : p1 < 256
  pub p2_fits : p2 < 256
  pub port_is : port ≡ 256 * p1 + p2
  pub text_is : text ≡ join_with_byte dot (host_text ∷ decimal p1 ∷ decimal p2 ∷ [])

-- ---- how an IPv6 host is printed (RFC 5952 section 4)

-- the text of a group of this value, in lower case and without leading zeros (sections 4.1 and 4.3)
pub record PrintsGroup (n : ℕ) (text : List ℕ) : Type 0 where
  pub is_group : IsGroup text
  pub value_is : digits_value 16 text ≡ n
  pub no_leading_zero : slice_index text 0 ≡ 48 → length text ≡ 1
  pub lower_case : All (λ b. ¬ (IsInRange 65 90 b)) text

-- this many zero groups stand there
pub record IsZeroRun (groups : List ℕ) (start len : ℕ) : Type 0 where
  pub within : start + len ≤ length groups
  pub zeros : take len (drop start groups) ≡ replicate len 0

-- No run is longer, and of those as long it is the first.
pub record IsLongestRun (groups : List ℕ) (start len : ℕ) : Type 0 where
  pub run : IsZeroRun groups start len
  pub longest : (s n : ℕ) → IsZeroRun groups s n → n ≤ len
  pub first : (s : ℕ) → IsZeroRun groups s len → start ≤ s

abbrev pub printed_groups : List ℕ → List ℕ
printed_groups groups = join_with_byte colon (map hex groups)

-- `::` stands for the longest run of two zero groups or more, and of those as long for the first (section 4.2).
pub record PrintsShortened (groups text : List ℕ) : Type 0 where
  pub start : ℕ
  pub len : ℕ
  pub run : IsLongestRun groups start len
  pub two : 2 ≤ len
  pub text_is : text ≡ printed_groups (take start groups) ++ codes "::" ++ printed_groups (drop (start + len) groups)

-- No two zero groups stand beside each other.
pub record PrintsInFull (groups text : List ℕ) : Type 0 where
  pub no_run : (start : ℕ) → ¬ (IsZeroRun groups start 2)
  pub text_is : text ≡ printed_groups groups

-- UADDR-3: An IPv6 host is printed in lower case without leading zeros, always in groups, and its
-- longest run of at least two zero groups as `::`, the first of several that are as long (RFC 5952
-- section 4).
abbrev pub PrintsHost : List ℕ → List ℕ → Type 0
PrintsHost host text = PrintsShortened (segments_of host) text ⊎ PrintsInFull (segments_of host) text

-- ---- both

abbrev pub Spells : Uaddr → List ℕ → Type 0
Spells (V4 host port) text = SpellsV4 host port text
Spells (V6 host port) text = SpellsV6 host port text

-- A text is read as an address exactly if it spells it.
abbrev pub ReadIsSpelled : Type 0
ReadIsSpelled = (text : List ℕ) (u : Uaddr) → (parse text ≡ Some u) ↔ Spells u text

-- What is printed is a spelling, and it is read as the address that was printed.
abbrev pub PrintedIsSpelled : Type 0
PrintedIsSpelled = (u : Uaddr) → IsUaddr u → Spells u (text_of u)

abbrev pub PrintedIsRead : Type 0
PrintedIsRead = (u : Uaddr) → IsUaddr u → parse (text_of u) ≡ Some u

-- An IPv4 address has one spelling: what was read is printed as it was.
abbrev pub OneSpelling : Type 0
OneSpelling = (text host : List ℕ) (port : ℕ) → parse text ≡ Some (V4 host port) → text_of (V4 host port) ≡ text

-- An IPv6 host is printed as RFC 5952 section 4 recommends, always in groups, and in no other way.
abbrev pub GroupIsPrinted : Type 0
GroupIsPrinted = (n : ℕ) (text : List ℕ) → n < 2 ^ 16 → PrintsGroup n text ↔ (text ≡ hex n)

abbrev pub HostIsPrinted : Type 0
HostIsPrinted = (host : List ℕ) → IsBytes 16 host → PrintsHost host (ipv6_host_text host)

abbrev pub OnePrinted : Type 0
OnePrinted = (host a b : List ℕ) → PrintsHost host a → PrintsHost host b → a ≡ b

abbrev pub ReadIsAddress : Type 0
ReadIsAddress = (text : List ℕ) (u : Uaddr) → parse text ≡ Some u → IsUaddr u

-- Sixteen bytes: 2, 0, the port, the host, and eight bytes that say nothing.
pub record IsTransportV4 (host : List ℕ) (port : ℕ) (form : List ℕ) : Type 0 where
  pub p1 : ℕ
  pub p2 : ℕ
  pub unread : List ℕ
  pub host_count : length host ≡ 4
  pub unread_count : length unread ≡ 8
  pub port_is : port ≡ 256 * p1 + p2
  pub form_is : form ≡ 2 ∷ 0 ∷ p1 ∷ p2 ∷ host ++ unread

-- Twenty-eight bytes: 10, 0, the port, four bytes that say nothing, the host, and four more that say nothing.
pub record IsTransportV6 (host : List ℕ) (port : ℕ) (form : List ℕ) : Type 0 where
  pub p1 : ℕ
  pub p2 : ℕ
  pub flow : List ℕ
  pub scope : List ℕ
  pub host_count : length host ≡ 16
  pub flow_count : length flow ≡ 4
  pub scope_count : length scope ≡ 4
  pub port_is : port ≡ 256 * p1 + p2
  pub form_is : form ≡ 10 ∷ 0 ∷ p1 ∷ p2 ∷ flow ++ host ++ scope

-- TADDR-1
abbrev pub IsTransportOf : Uaddr → List ℕ → Type 0
IsTransportOf (V4 host port) form = IsTransportV4 host port form
IsTransportOf (V6 host port) form = IsTransportV6 host port form

-- Bytes are read as an address exactly if they are a transport form of it.
abbrev pub TransportIsExact : Type 0
TransportIsExact = (form : List ℕ) (u : Uaddr) → (from_transport form ≡ Some u) ↔ IsTransportOf u form

abbrev pub TransportIsRead : Type 0
TransportIsRead = (u : Uaddr) → IsUaddr u → from_transport (transport_of u) ≡ Some u

-- what is read of bytes is an address
abbrev pub TransportIsAddress : Type 0
TransportIsAddress = (form : List ℕ) (u : Uaddr) → All (λ b. b < 256) form → from_transport form ≡ Some u → IsUaddr u

-- MERGE-1: `merge` puts the host of its family in place of 0.0.0.0 and of `::`, and of no other;
-- the port stays.
pub record MergesAnyHost : Type 0 where
  pub replaced : (hosts : Hosts) (port : ℕ) → merged_address hosts (V4 any_host port) ≡ V4 hosts.inet port
  pub kept : (hosts : Hosts) (own : List ℕ) (port : ℕ) → own ≢ any_host → merged_address hosts (V4 own port) ≡ V4 own port
  pub replaced_ipv6 : (hosts : Hosts) (port : ℕ) → merged_address hosts (V6 any_host6 port) ≡ V6 hosts.inet6 port
  pub kept_ipv6 : (hosts : Hosts) (own : List ℕ) (port : ℕ) → own ≢ any_host6 → merged_address hosts (V6 own port) ≡ V6 own port

-- ---- the address of a local socket

-- UADDR-5
pub record IsLocalText (text : List ℕ) : Type 0 where
  pub some : 0 < length text
  pub few : length text ≤ 128
  pub no_zero : All (λ b. b ≢ 0) text

abbrev pub LocalIsAnyText : Type 0
LocalIsAnyText = (text : List ℕ) → (is_local_text text ≡ true) ↔ IsLocalText text
