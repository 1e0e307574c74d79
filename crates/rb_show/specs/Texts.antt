-- Texts of a reply, as they are printed.
use Rattle.std.specs.Prelude.{◌≡◌, ℕ, ◌-◌, nat_le, ◌&&◌, if◌then◌else◌, List, [], ◌∷◌, ◌++◌, map, length, replicate, codes, Option, Some, None, String, string_bytes}
use Rattle.std.specs.Fmt.{decimal}
use Rattle.std.specs.List.{flat_map}
use Rattle.rb_address.specs.declared.netid.Transport.{Transport}
use Rattle.rb_address.specs.Netids.{netid_text, netid_of, transport_of_protocol}

-- A text has these bytes.
abbrev pub HasBytes : {Z : Type 0} → List ℕ → String Z → Type 0
HasBytes bytes text = string_bytes text ≡ bytes

-- ---- texts of a reply

-- a byte that is no printable ASCII character is shown as `?`
-- SHOW-9
abbrev pub shown_byte : ℕ → ℕ
shown_byte b = if nat_le 33 b && nat_le b 126 then b else 63

-- SHOW-9: An empty text is shown as `-`, and a byte that is no printable character of ASCII, or a
-- space, as `?`.
abbrev pub shown_text : List ℕ → List ℕ
shown_text [] = codes "-"
shown_text (b ∷ text) = map shown_byte (b ∷ text)

-- ---- lists and columns

-- texts with another between them
abbrev pub joined : List ℕ → List (List ℕ) → List ℕ
joined between [] = []
joined between (text ∷ texts) = text ++ flat_map (λ next. between ++ next) texts

abbrev pub at_right : ℕ → List ℕ → List ℕ
at_right width text = replicate (width - length text) 32 ++ text

abbrev pub at_left : ℕ → List ℕ → List ℕ
at_left width text = text ++ replicate (width - length text) 32

-- ---- protocols

abbrev pub transport_text : ℕ → Option Transport → List ℕ
transport_text prot (Some transport) = netid_text (netid_of transport)
transport_text prot None = decimal prot

-- the name of the protocol's transport over IPv4, or its number
abbrev pub prot_text : ℕ → List ℕ
prot_text prot = transport_text prot (transport_of_protocol prot)
