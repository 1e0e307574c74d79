-- The addresses of this machine, as Linux lists them, a line for each (proc(5)).
use Rattle.std.specs.Prelude.{◌≡◌, ℕ, ◌==◌, ◌&&◌, ◌||◌, nat_lt, not, Bool, true, false, if◌then◌else◌, List, [], ◌∷◌, length, codes, bytes_eq, slice_index, bit_and, Option, Some, None, Result, Ok, Err}
use Rattle.std.specs.List.{list_any, list_all}
use Rattle.std.specs.Char.{is_ascii_alphabetic, is_ascii_alphanumeric}
use Rattle.std.specs.Option.{option_map}
use Rattle.std.specs.Borrow.{Bor}
use Rattle.hex.specs.Hex.{decode_sized}
use Rattle.hex.specs.declared.error.FromHexError.{FromHexError}
use Rattle.rb_address.specs.declared.host.Host.{Host}
use Rattle.rb_address.specs.declared.host.Host.TheVariants.{V4, V6}
use Rattle.rb_address.specs.Hosts.{is_loopback}
use Rattle.rb_address.specs.Networks.{plain_host_of}
use Rattle.rb_address.specs.Reading.{◌>>=◌, cut}
use Rattle.rb_policy.specs.Addresses.{has_host}
use Rattle.rb_policy.specs.declared.machine.TrieLine.{TrieLine}
use Rattle.rb_policy.specs.declared.machine.TrieLine.TheVariants.{Leaf, Local, Other}
use Rattle.rb_policy.specs.declared.machine.Reached.{Reached}
use Rattle.rb_policy.specs.declared.machine.AddressChange.{AddressChange}
use Rattle.rb_policy.specs.declared.machine.AddressChange.TheVariants.{Leave, Listen}

-- without the spaces in front of it
abbrev pub unindented : List ℕ → List ℕ
unindented [] = []
unindented (b ∷ text) = if b == 32 then unindented text else b ∷ text

-- ---- IPv4, in /proc/net/fib_trie

abbrev pub leaf_of : List ℕ → Option Host
leaf_of text = do
  parts ← cut 32 text
  if bytes_eq parts.0 (codes "|--") then plain_host_of parts.1 else None

abbrev pub leaf_line : Option Host → TrieLine
leaf_line (Some host) = Leaf host
leaf_line None = Other

-- ADDRESSES-1: An address of IPv4 is of this machine if /proc/net/fib_trie has a leaf of it with a line `/32 host LOCAL`.
abbrev pub trie_line : List ℕ → TrieLine
trie_line line =
    if bytes_eq (unindented line) (codes "/32 host LOCAL") then Local else leaf_line (leaf_of (unindented line))

-- ---- IPv6, in /proc/net/if_inet6: address, number, length, scope, flags and name of the interface

abbrev pub named : Option (Bor (List ℕ)) → Option (List ℕ)
named name = option_map (λ t. t.now) name

abbrev pub is_wanted : List ℕ → Option (List ℕ) → Bool
is_wanted interface None = true
is_wanted interface (Some name) = bytes_eq interface name

-- IFA_F_TENTATIVE is 64, IFA_F_DADFAILED 8
abbrev pub is_unflagged : Result (List ℕ) FromHexError → Bool
is_unflagged (Ok flags) = bit_and (slice_index flags 0) 72 == 0
is_unflagged (Err fault) = false

abbrev pub is_ready : List ℕ → Bool
is_ready flags = is_unflagged (decode_sized flags 1)

abbrev pub if_read : Result (List ℕ) FromHexError → Option (List ℕ)
if_read (Ok octets) = Some octets
if_read (Err fault) = None

abbrev pub octets_of : List ℕ → Option (List ℕ)
octets_of digits = if_read (decode_sized digits 16)

abbrev pub inet6_of : List ℕ → Option Host
inet6_of digits = option_map V6 (octets_of digits)

-- ADDRESSES-2: An address of IPv6 is of this machine if /proc/net/if_inet6 has it, its scope is not that of a link, and it is
-- neither tentative nor found to be another machine's.
abbrev pub inet6_at : List ℕ → Option (List ℕ) → Option Host
inet6_at line name = do
  address ← cut 32 line
  number ← cut 32 address.1
  length ← cut 32 number.1
  scope ← cut 32 length.1
  flags ← cut 32 scope.1
  if bytes_eq scope.0 (codes "20") || not (is_ready flags.0) || not (is_wanted (unindented flags.1) name)
      then None else inet6_of address.0

-- ---- the networks of IPv4 that an interface reaches, in /proc/net/route

abbrev pub turned : List ℕ → List ℕ
turned (a ∷ b ∷ c ∷ d ∷ []) = d ∷ c ∷ b ∷ a ∷ []
turned octets = octets

abbrev pub word_of : List ℕ → Option (List ℕ)
word_of digits = option_map turned (if_read (decode_sized digits 4))

abbrev pub network_of : List ℕ → List ℕ → Option Reached
network_of first mask = do
  octets ← word_of first
  bits ← word_of mask
  Some (record { first = octets; mask = bits })

-- interface, first address, router, four others, and the mask, with tabs between them
-- ADDRESSES-3: Of IPv4 an interface has the addresses of networks that /proc/net/route has at it without a router and with a
-- mask, `lo` those of 127.0.0.0/8; of IPv6 those whose line in /proc/net/if_inet6 ends in its name.
abbrev pub reached_by : List ℕ → List ℕ → Option Reached
reached_by line name = do
  interface ← cut 9 line
  first ← cut 9 interface.1
  router ← cut 9 first.1
  flags ← cut 9 router.1
  references ← cut 9 flags.1
  uses ← cut 9 references.1
  metric ← cut 9 uses.1
  mask ← cut 9 metric.1
  if bytes_eq interface.0 name && bytes_eq router.0 (codes "00000000") && not (bytes_eq mask.0 (codes "00000000"))
      then network_of first.0 mask.0 else None

abbrev pub loopback_network : Reached
loopback_network = record { first = 127 ∷ 0 ∷ 0 ∷ 0 ∷ []; mask = 255 ∷ 0 ∷ 0 ∷ 0 ∷ [] }

abbrev pub are_within : List ℕ → List ℕ → List ℕ → Bool
are_within [] mask octets = true
are_within (x ∷ first) [] octets = true
are_within (x ∷ first) (m ∷ mask) [] = true
are_within (x ∷ first) (m ∷ mask) (octet ∷ octets) = bit_and octet m == x && are_within first mask octets

abbrev pub reaches : Host → Reached → Bool
reaches (V4 octets) network = are_within network.first network.mask octets
reaches (V6 octets) network = false

abbrev pub is_reached : Host → List Reached → Bool
is_reached host reached = list_any (λ network. reaches host network) reached

-- ADDRESSES-3
abbrev pub is_inet_of : Bool → List Reached → Host → Bool
is_inet_of true reached host = is_reached host reached
is_inet_of false reached host = not (is_loopback host)

-- ---- names of interfaces

abbrev pub is_of_name : ℕ → Bool
is_of_name b = is_ascii_alphanumeric b || b == 46 || b == 45 || b == 95

-- BIND-5: A value of `--bind` that is a letter and up to 14 letters, digits, `.`, `-` and `_` names an interface, or all by `all`:
-- each of its addresses is listened on, and those of the loopback also.
abbrev pub names_interface : List ℕ → Bool
names_interface [] = false
names_interface (first ∷ rest) = is_ascii_alphabetic first && nat_lt (length rest) 15 && list_all is_of_name rest

-- ---- what is done about them

abbrev pub first_outside : List Host → List Host → Option Host
first_outside [] others = None
first_outside (host ∷ hosts) others = if has_host host others then first_outside hosts others else Some host

abbrev pub leave_or : Option Host → Option Host → Option AddressChange
leave_or (Some gone) came = Some (Leave gone)
leave_or None (Some host) = Some (Listen host)
leave_or None None = None

-- those that are listened on, and those that the machine has
-- BIND-6: First those are left that the machine has no more, then those are listened on that it has and that are not yet.
abbrev pub next_change : List Host → List Host → Option AddressChange
next_change bound found = leave_or (first_outside bound found) (first_outside found bound)
