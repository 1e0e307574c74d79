-- What the values of the options of rpcbind spell, by its manual page, rpcbind(8).
use Rattle.std.specs.Prelude.{◌≡◌, ◌≢◌, ◌⊎◌, ⊤, ℕ, ◌<◌, ◌≤◌, Bool, true, false, List, [], ◌∷◌, ◌++◌, length, drop, reverse, codes, decimal, Option, Some, None, All}
use Rattle.std.specs.Str.Parse.{IsNumeral, digits_value}
use Rattle.std.specs.Net.Addr.{octets_of}
use Rattle.std.specs.Net.Grammar.{IsDotted, IsColonHex}
use Rattle.rb_address.specs.declared.host.Host.{Host}
use Rattle.rb_address.specs.declared.host.Host.TheVariants.{V4, V6}
use Rattle.rb_address.specs.declared.network.Network.{Network}
use Rattle.rb_address.specs.Hosts.{mapped_front, octets_of_host, bit_count}
use Rattle.rb_address.specs.Networks.{bits_of}
use Rattle.rb_answers.specs.declared.listener.Announced.{Announced}
use Rattle.rb_answers.specs.declared.listener.Forwarding.{Forwarding}
use Rattle.rb_answers.specs.declared.listener.Forwarding.TheVariants.{Anywhere, ForAll, ForLocal}
use Rattle.rb_policy.specs.declared.brake.Rate.{Rate}
use Rattle.rb_policy.specs.declared.log_choice.Logged.{Logged}
use Rattle.rb_policy.specs.declared.log_choice.Logged.TheVariants.{Nothing, Changes, All as Everything}
use Rattle.rb_answers.specs.declared.reserved.Reservation.{Reservation}
use Rattle.rb_promises.specs.WordForms.{SpellsWithin, SpellsNumber}

-- ---- numbers

-- a number of 64 bits in decimal digits
abbrev pub SpellsLong : ℕ → List ℕ → Type 0
SpellsLong n text = SpellsWithin 0 18446744073709551615 n text

-- ---- hosts

-- a text of an IPv6 address (RFC 4291 section 2.2) that is none of IPv4 in IPv6's form (section 2.5.5.2)
pub record SpellsInet6 (octets text : List ℕ) : Type 0 where
  pub segments : List ℕ
  pub spelled : IsColonHex text segments
  pub octets_are : octets ≡ octets_of segments
  pub is_no_inet : (inet : List ℕ) → octets ≢ mapped_front ++ inet

-- an IPv4 address in dotted decimal form without leading zeros, or such an IPv6 address
abbrev pub SpellsHost : Host → List ℕ → Type 0
SpellsHost (V4 octets) text = IsDotted text octets
SpellsHost (V6 octets) text = SpellsInet6 octets text

-- Each value is spelled by the text at its place.
abbrev pub SpellEach : {A : Type 0} → (A → List ℕ → Type 0) → List A → List (List ℕ) → Type 0
SpellEach Spells [] [] = ⊤
SpellEach Spells (x ∷ xs) (text ∷ texts) = Spells x text × SpellEach Spells xs texts
SpellEach Spells _ _ = ⊥

abbrev pub hosts_of_families : Option (List ℕ) → Option (List ℕ) → List Host
hosts_of_families None None = []
hosts_of_families (Some inet) None = V4 inet ∷ []
hosts_of_families None (Some inet6) = V6 inet6 ∷ []
hosts_of_families (Some inet) (Some inet6) = V4 inet ∷ V6 inet6 ∷ []

-- the host of each family that is announced, in either order
abbrev pub Announces : Announced → List (List ℕ) → Type 0
Announces announced texts =
    let hosts = hosts_of_families announced.inet announced.inet6 in
    SpellEach SpellsHost hosts texts ⊎ SpellEach SpellsHost (reverse hosts) texts

-- ---- networks

-- a host alone, or a host, a slash and how many of its first bits count, with none set after them
pub data SpellsNetwork (network : Network) (text : List ℕ) : Type 0 where
  OfOneHost : SpellsHost network.host text → network.length ≡ bit_count network.host → SpellsNetwork network text
  WithLength : (front : List ℕ) → text ≡ front ++ codes "/" ++ decimal network.length → SpellsHost network.host front
      → network.length ≤ bit_count network.host
      → All (λ bit. bit ≡ 0) (drop network.length (bits_of (octets_of_host network.host))) → SpellsNetwork network text

-- ---- the local socket

-- 1 to 107 bytes, none of a control character below 32 and none of a quote
pub record IsSocketPath (text : List ℕ) : Type 0 where
  pub some : 0 < length text
  pub few : length text ≤ 107
  pub no_control : All (λ byte. 32 ≤ byte) text
  pub no_quote : All (λ byte. byte ≢ 39) text

abbrev pub SpellsPath : List ℕ → List ℕ → Type 0
SpellsPath path text = (text ≡ path) × IsSocketPath path

-- octal digits and nothing else, of nine bits
pub record SpellsMode (n : ℕ) (text : List ℕ) : Type 0 where
  pub digits : IsNumeral 8 text
  pub value : digits_value 8 text ≡ n
  pub fits : n < 512

-- ---- reserved programs

-- the first program, and with a `-` the last one
pub data SpellsPrograms (first last : ℕ) (text : List ℕ) : Type 0 where
  OneProgram : SpellsNumber first text → last ≡ first → SpellsPrograms first last text
  FirstAndLast : (front back : List ℕ) → text ≡ front ++ codes "-" ++ back
      → SpellsNumber first front → SpellsNumber last back → SpellsPrograms first last text

-- the programs, and after a `=` the uid
-- RESERVE-2
pub record SpellsReservation (r : Reservation) (text : List ℕ) : Type 0 where
  pub programs : List ℕ
  pub uid : List ℕ
  pub parts : text ≡ programs ++ codes "=" ++ uid
  pub of_programs : SpellsPrograms r.first r.last programs
  pub of_uid : SpellsNumber r.uid uid
  pub in_order : r.first ≤ r.last

-- ---- the terms

-- whether long replies go over UDP to all callers, or to those of this machine alone
abbrev pub lists_text : Bool → List ℕ
lists_text true = codes "all"
lists_text false = codes "local"

-- for whom calls are forwarded
abbrev pub whom_text : Forwarding → List ℕ
whom_text Anywhere = codes "any"
whom_text ForAll = codes "all"
whom_text ForLocal = codes "local"

-- two numbers with a comma between them, of a network and of a host, or one that is both
pub data SpellsRate (rate : Rate) (text : List ℕ) : Type 0 where
  OneNumber : SpellsWithin 1 1000 rate.network text → rate.host ≡ rate.network → SpellsRate rate text
  TwoNumbers : (first second : List ℕ) → text ≡ first ++ codes "," ++ second
      → SpellsWithin 1 1000 rate.network first → SpellsWithin 1 1000 rate.host second → SpellsRate rate text

abbrev pub SpellsLog : Logged → List ℕ → Type 0
SpellsLog Nothing text = ⊥
SpellsLog Changes text = text ≡ codes "changes"
SpellsLog Everything text = text ≡ codes "all"
