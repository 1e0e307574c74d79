-- The addresses that may be set on a netid.
use Rattle.std.proofs.Common.{◌≡◌, ◌≢◌, ◌↔◌, ℕ, ◌==◌, true, not, List, Option, Some, None, refl, sym, ap, ◌∙◌}
use Rattle.std.proofs.lemmas.Bool.{not-true, not_from_false, eqb-false, ne_eqb}
use Rattle.std.proofs.lemmas.Option.{none-some, same_Some}
use Rattle.rb_uaddr.specs.declared.address.Uaddr.{Uaddr}
use Rattle.rb_uaddr.specs.declared.address.Uaddr.TheVariants.{V4, V6}
use Rattle.rb_uaddr.specs.Uaddr.{port_of, parse, parse_ipv4, parse_ipv6, ipv4_alone, ipv6_alone}
use Rattle.rb_uaddr.specs.Grammar.{SpellsV4}
use Rattle.rb_uaddr.proofs.GrammarLaws.{read_spells, spelled_reads}
use Rattle.rb_uaddr.proofs.Ipv6Laws.{read_spells_v6, spelled_reads_v6}
use Rattle.rb_uaddr.proofs.Families.{ipv4_is_read, ipv6_is_read}
use Rattle.rb_uaddr.proofs.LocalTexts.{local_is_any_text}
use Rattle.rb_address.specs.declared.netid.Netid.{Netid}
use Rattle.rb_address.specs.declared.netid.Netid.TheVariants.{Tcp, Udp, Tcp6, Udp6, Local}
use Rattle.rb_answers.specs.Netids.{address_in, has_port, is_address}
use Rattle.rb_promises.specs.Addresses.{IsAddressOfV4, IsAddressOfV6, IsAddressOn}

some_port : (port : ℕ) → not (port == 0) ≡ true → port ≢ 0
some_port port e = eqb-false port 0 (not-true (port == 0) e)

has_some : (port : ℕ) → port ≢ 0 → not (port == 0) ≡ true
has_some port some = not_from_false (port == 0) (ne_eqb port 0 some)

-- ---- IPv4

pub spelled_v4 : (text host : List ℕ) (port : ℕ) → SpellsV4 host port text → parse_ipv4 text ≡ Some (V4 host port)
spelled_v4 text host port s = sym (ipv4_is_read text) ∙ ap ipv4_alone (spelled_reads text (V4 host port) s)

of_v4 : (text : List ℕ) (o : Option Uaddr) → parse_ipv4 text ≡ o → has_port o ≡ true → IsAddressOfV4 text
unfolding port_of
of_v4 text None is e = absurd cc
of_v4 text (Some (V4 host port)) is e =
    record { host = host; port = port; spelled = read_spells text (V4 host port) is; some = some_port port e }
of_v4 text (Some (V6 host port)) is e = absurd (read_spells text (V6 host port) is)

is_v4 : (text : List ℕ) → IsAddressOfV4 text → has_port (parse_ipv4 text) ≡ true
unfolding port_of
is_v4 text a = rw (spelled_v4 text a.host a.port a.spelled) (has_some a.port a.some)

-- ---- IPv6

no_v4 : (o : Option Uaddr) (host : List ℕ) (port : ℕ) → ipv6_alone o ≡ Some (V4 host port) → ⊥
no_v4 None host port e = none-some (V4 host port) e
no_v4 (Some (V4 h p)) host port e = none-some (V4 host port) e
no_v4 (Some (V6 h p)) host port e = let same : V6 h p ≡ V4 host port = same_Some (V6 h p) (V4 host port) e in absurd cc

pub read_no_v4 : (text host : List ℕ) (port : ℕ) → parse_ipv6 text ≡ Some (V4 host port) → ⊥
read_no_v4 text host port is = no_v4 (parse text) host port (ipv6_is_read text ∙ is)

of_v6 : (text : List ℕ) (o : Option Uaddr) → parse_ipv6 text ≡ o → has_port o ≡ true → IsAddressOfV6 text
unfolding port_of
of_v6 text None is e = absurd cc
of_v6 text (Some (V6 host port)) is e =
    record { host = host; port = port; spelled = read_spells_v6 text (V6 host port) is; some = some_port port e }
of_v6 text (Some (V4 host port)) is e = absurd (read_no_v4 text host port is)

is_v6 : (text : List ℕ) → IsAddressOfV6 text → has_port (parse_ipv6 text) ≡ true
unfolding port_of
is_v6 text a = rw (spelled_reads_v6 text a.host a.port a.spelled) (has_some a.port a.some)

-- ---- on a netid

pub address_exactly : (netid : Netid) (text : List ℕ) → (is_address netid text ≡ true) ↔ IsAddressOn netid text
unfolding is_address address_in
address_exactly Tcp text = (of_v4 text (parse_ipv4 text) refl, is_v4 text)
address_exactly Udp text = (of_v4 text (parse_ipv4 text) refl, is_v4 text)
address_exactly Tcp6 text = (of_v6 text (parse_ipv6 text) refl, is_v6 text)
address_exactly Udp6 text = (of_v6 text (parse_ipv6 text) refl, is_v6 text)
address_exactly Local text = local_is_any_text text
