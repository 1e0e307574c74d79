-- What is told of a row that is found.
use Rattle.std.proofs.Common.{◌≡◌, ℕ, ◌/◌, ◌%◌, ◌^◌, ◌<◌, Bool, true, false, cond, ◌⊎◌, inl, inr, List, [], ◌∷◌, length, Option, Some, None, option_map, bytes_eq, refl, sym, ap, subst, ◌∙◌, arith}
use Rattle.std.specs.Prelude.{decimal}
use Rattle.std.specs.Option.{option_map_or}
use Rattle.std.specs.List.{join_with_byte}
use Rattle.std.proofs.lemmas.Bool.{true≢false}
use Rattle.std.proofs.lemmas.List.Elements.{All-replicate}
use Rattle.std.proofs.lemmas.Option.{none-some, same_Some}
use Rattle.std.proofs.lemmas.Slice.Eq.{bytes_eq-Decides}
use Rattle.rb_uaddr.specs.declared.address.Uaddr.{Uaddr}
use Rattle.rb_uaddr.specs.declared.address.Uaddr.TheVariants.{V4, V6}
use Rattle.rb_uaddr.specs.Uaddr.{IsBytes, any_host, any_host6, port_of, port_bytes, text_of, dot, ipv4_of_parts, parts_of, parse_ipv4, parse_ipv6, ipv6_host_text, merged_host, merged_host6, merged_address}
use Rattle.rb_uaddr.specs.Grammar.{SpellsV4, SpellsV6}
use Rattle.rb_uaddr.proofs.GrammarLaws.{four_bytes, read_spells, spelled_reads, printed_is_spelled, read_is_address, high_byte_fits, low_byte_fits, port_is_its_bytes}
use Rattle.rb_uaddr.proofs.Ipv6Laws.{read_spells_v6, spelled_reads_v6}
use Rattle.rb_uaddr.proofs.Printed.{host_is_printed}
use Rattle.rb_address.specs.declared.host.Host.{Host}
use Rattle.rb_address.specs.declared.host.Host.TheVariants as hosts
use Rattle.rb_address.specs.declared.netid.Netid.{Netid}
use Rattle.rb_address.specs.declared.netid.Netid.TheVariants.{Tcp, Udp, Tcp6, Udp6, Local}
use Rattle.rb_address.specs.Hosts.{IsBytesOf}
use Rattle.rb_registry.specs.declared.row.Row.{Row}
use Rattle.rb_answers.specs.declared.listener.Announced.{Announced}
use Rattle.rb_answers.specs.declared.context.Context.{Context}
use Rattle.rb_answers.specs.Callers.{who_of, hosts_told, hosts_in}
use Rattle.rb_answers.specs.Netids.{address_in}
use Rattle.rb_answers.specs.Answers.{shown_address, shown_port, addr_told, addr_found}
use Rattle.rb_promises.specs.Addresses.{IsAddressOfV4, IsAddressOn}
use Rattle.rb_promises.specs.LookUps.{AsksForNone, StandsIn, StandsInV4, StandsInV6, TellsV4, PrintsV6, TellsV6, SpellsNone, TellsRow, TellsText, HasPort, HasHosts}
use Rattle.rb_promises.specs.LookUps.StandsIn.{TheAsked, TheAnnounced, EveryHost}
use Rattle.rb_promises.specs.LookUps.TellsRow.{AsV4, AsV6, AsItStands}
use Rattle.rb_promises.specs.LookUps.HasPort.{Spelled, Without}
use Rattle.rb_promises.proofs.Addresses.{spelled_v4, read_no_v4}

-- ---- the hosts that stand in

-- the announced host, or every host
abbrev or_every : Option (List ℕ) → List ℕ → List ℕ
or_every announced every = option_map_or (λ host. host) announced every

module _ (of : List ℕ → Host) (every : List ℕ) where
  -- no host of the family is asked
  announced_stands : (announced : Option (List ℕ)) (asked : Host) → AsksForNone of every asked
      → StandsIn of every announced asked (or_every announced every)
  announced_stands None asked none = EveryHost none refl refl
  announced_stands (Some host) asked none = TheAnnounced none refl

  -- a host of the family is asked
  asked_stands : ((a b : List ℕ) → of a ≡ of b → a ≡ b) → (announced : Option (List ℕ)) (asked : List ℕ) (b : Bool) → bytes_eq asked every ≡ b
      → StandsIn of every announced (of asked) (cond b (or_every announced every) asked)
  asked_stands exact announced asked true e =
      announced_stands announced (of asked) (λ host same. sym (exact asked host same) ∙ (bytes_eq-Decides asked every).0 e)
  asked_stands exact announced asked false e =
      TheAsked refl (λ same. true≢false (sym ((bytes_eq-Decides asked every).1 same) ∙ e))

same_v4 : (a b : List ℕ) → hosts.V4 a ≡ hosts.V4 b → a ≡ b
same_v4 a b e = cc

same_v6 : (a b : List ℕ) → hosts.V6 a ≡ hosts.V6 b → a ≡ b
same_v6 a b e = cc

no_v6 : (asked : List ℕ) → AsksForNone hosts.V4 any_host (hosts.V6 asked)
no_v6 asked host e = absurd cc

no_v4 : (asked : List ℕ) → AsksForNone hosts.V6 any_host6 (hosts.V4 asked)
no_v4 asked host e = absurd cc

stands_v4 : (announced : Announced) (asked : Host) → StandsIn hosts.V4 any_host announced.inet asked (hosts_told announced asked).inet
unfolding hosts_told merged_host
stands_v4 announced (hosts.V4 asked) = asked_stands hosts.V4 any_host same_v4 announced.inet asked (bytes_eq asked any_host) refl
stands_v4 announced (hosts.V6 asked) = announced_stands hosts.V4 any_host announced.inet (hosts.V6 asked) (no_v6 asked)

stands_v6 : (announced : Announced) (asked : Host) → StandsIn hosts.V6 any_host6 announced.inet6 asked (hosts_told announced asked).inet6
unfolding hosts_told merged_host6
stands_v6 announced (hosts.V6 asked) = asked_stands hosts.V6 any_host6 same_v6 announced.inet6 asked (bytes_eq asked any_host6) refl
stands_v6 announced (hosts.V4 asked) = announced_stands hosts.V6 any_host6 announced.inet6 (hosts.V4 asked) (no_v4 asked)

pub every_v4 : IsBytes 4 any_host
every_v4 = let zero : 0 < 256 = omega arith in four_bytes 0 0 0 0 zero zero zero zero

pub every_v6 : IsBytes 16 any_host6
every_v6 = record { count = refl; small = All-replicate (λ b. b < 256) 16 0 (omega arith) }

-- it is of this many bytes, as the announced one and the one that was asked are
host_fits : (of : List ℕ → Host) (every : List ℕ) (n : ℕ) (announced : Option (List ℕ)) (asked : Host) (host : List ℕ)
    → IsBytes n every → ((own : List ℕ) → announced ≡ Some own → IsBytes n own) → ((own : List ℕ) → asked ≡ of own → IsBytes n own)
    → StandsIn of every announced asked host → IsBytes n host
host_fits of every n announced asked host any own others (TheAsked is some) = others host is
host_fits of every n announced asked host any own others (TheAnnounced none is) = own host is
host_fits of every n announced asked host any own others (EveryHost none is same) = rw same any

pub prints_v6 : (host : List ℕ) (port : ℕ) → IsBytes 16 host → port < 2 ^ 16 → PrintsV6 host port (text_of (V6 host port))
unfolding text_of port_bytes
prints_v6 host port fits small = record {
  host_text = ipv6_host_text host;
  p1 = port / 256;
  p2 = port % 256;
  printed = host_is_printed host fits;
  p1_fits = high_byte_fits port small;
  p2_fits = low_byte_fits port;
  port_is = port_is_its_bytes port;
  text_is = refl;
}

module _ (context : Context) (h : HasHosts context) where
  stand_in_v4 : StandsInV4 context (hosts_in context).inet
  stand_in_v4 = stands_v4 context.announced (who_of context.caller).asked

  pub stand_in_v6 : StandsInV6 context (hosts_in context).inet6
  stand_in_v6 = stands_v6 context.announced (who_of context.caller).asked

  v4_fits : IsBytes 4 (hosts_in context).inet
  v4_fits = host_fits hosts.V4 any_host 4 context.announced.inet (who_of context.caller).asked (hosts_in context).inet every_v4 h.inet
      (λ own is. subst IsBytesOf is h.asked) stand_in_v4

  pub v6_fits : IsBytes 16 (hosts_in context).inet6
  v6_fits = host_fits hosts.V6 any_host6 16 context.announced.inet6 (who_of context.caller).asked (hosts_in context).inet6 every_v6 h.inet6
      (λ own is. subst IsBytesOf is h.asked) stand_in_v6

  -- ---- addresses

  pub tells_v4 : (addr own : List ℕ) (port : ℕ) → SpellsV4 own port addr → TellsV4 context addr (text_of (merged_address (hosts_in context) (V4 own port)))
  unfolding merged_address merged_host
  tells_v4 addr own port s =
      let (own_fits, port_fits) = read_is_address addr (V4 own port) (spelled_reads addr (V4 own port) s) in
      by_test own_fits port_fits (bytes_eq own any_host) refl
    where
      by_test : IsBytes 4 own → port < 2 ^ 16 → (b : Bool) → bytes_eq own any_host ≡ b → TellsV4 context addr (text_of (V4 (cond b (hosts_in context).inet own) port))
      by_test fits small true e = record {
        own = own;
        host = (hosts_in context).inet;
        port = port;
        was_set = s;
        host_is = inl ((bytes_eq-Decides own any_host).0 e, stand_in_v4);
        is_told = printed_is_spelled (V4 (hosts_in context).inet port) (v4_fits, small);
      }
      by_test fits small false e = record {
        own = own;
        host = own;
        port = port;
        was_set = s;
        host_is = inr (λ same. true≢false (sym ((bytes_eq-Decides own any_host).1 same) ∙ e), refl);
        is_told = printed_is_spelled (V4 own port) (fits, small);
      }

  tells_v6 : (addr own : List ℕ) (port : ℕ) → SpellsV6 own port addr → TellsV6 context addr (text_of (merged_address (hosts_in context) (V6 own port)))
  unfolding merged_address merged_host6
  tells_v6 addr own port s =
      let (own_fits, port_fits) = read_is_address addr (V6 own port) (spelled_reads addr (V6 own port) s) in
      by_test own_fits port_fits (bytes_eq own any_host6) refl
    where
      by_test : IsBytes 16 own → port < 2 ^ 16 → (b : Bool) → bytes_eq own any_host6 ≡ b → TellsV6 context addr (text_of (V6 (cond b (hosts_in context).inet6 own) port))
      by_test fits small true e = record {
        own = own;
        host = (hosts_in context).inet6;
        port = port;
        was_set = s;
        host_is = inl ((bytes_eq-Decides own any_host6).0 e, stand_in_v6);
        is_told = prints_v6 (hosts_in context).inet6 port v6_fits small;
      }
      by_test fits small false e = record {
        own = own;
        host = own;
        port = port;
        was_set = s;
        host_is = inr (λ same. true≢false (sym ((bytes_eq-Decides own any_host6).1 same) ∙ e), refl);
        is_told = prints_v6 own port fits small;
      }

  -- ---- rows

  module _ (row : Row) where
    abbrev text_at : Option Uaddr → List ℕ
    text_at address = option_map_or text_of (option_map (merged_address (hosts_in context)) address) row.addr

    at_v4 : (o : Option Uaddr) → parse_ipv4 row.addr ≡ o → ((row.netid ≡ Tcp) ⊎ (row.netid ≡ Udp)) → TellsRow context row (text_at o)
    at_v4 None none on = AsItStands (none_spelled on) refl
      where
        none_here : (host : List ℕ) (port : ℕ) → SpellsV4 host port row.addr → ⊥
        none_here host port s = none-some (V4 host port) (sym none ∙ spelled_v4 row.addr host port s)

        none_spelled : ((row.netid ≡ Tcp) ⊎ (row.netid ≡ Udp)) → SpellsNone row.netid row.addr
        none_spelled (inl e) = rw e none_here
        none_spelled (inr e) = rw e none_here
    at_v4 (Some (V4 own port)) some on = AsV4 on (tells_v4 row.addr own port (read_spells row.addr (V4 own port) some))
    at_v4 (Some (V6 own port)) some on = absurd (read_spells row.addr (V6 own port) some)

    at_v6 : (o : Option Uaddr) → parse_ipv6 row.addr ≡ o → ((row.netid ≡ Tcp6) ⊎ (row.netid ≡ Udp6)) → TellsRow context row (text_at o)
    at_v6 None none on = AsItStands (none_spelled on) refl
      where
        none_here : (host : List ℕ) (port : ℕ) → SpellsV6 host port row.addr → ⊥
        none_here host port s = none-some (V6 host port) (sym none ∙ spelled_reads_v6 row.addr host port s)

        none_spelled : ((row.netid ≡ Tcp6) ⊎ (row.netid ≡ Udp6)) → SpellsNone row.netid row.addr
        none_spelled (inl e) = rw e none_here
        none_spelled (inr e) = rw e none_here
    at_v6 (Some (V6 own port)) some on = AsV6 on (tells_v6 row.addr own port (read_spells_v6 row.addr (V6 own port) some))
    at_v6 (Some (V4 own port)) some on = absurd (read_no_v4 row.addr own port some)

    on_netid : (netid : Netid) → row.netid ≡ netid → TellsRow context row (text_at (address_in netid row.addr))
    unfolding address_in
    on_netid Tcp is = at_v4 (parse_ipv4 row.addr) refl (inl is)
    on_netid Udp is = at_v4 (parse_ipv4 row.addr) refl (inr is)
    on_netid Tcp6 is = at_v6 (parse_ipv6 row.addr) refl (inl is)
    on_netid Udp6 is = at_v6 (parse_ipv6 row.addr) refl (inr is)
    on_netid Local is = AsItStands (rw is tt) refl

    row_is_told : TellsRow context row (addr_told (hosts_in context) row)
    unfolding shown_address
    row_is_told = on_netid row.netid refl

  pub text_is_told : (found : Option Row) → TellsText context found (addr_found (hosts_in context) found)
  text_is_told None = refl
  text_is_told (Some row) = row_is_told row

-- ---- what is not empty

joined_some : (first second : List ℕ) (more : List (List ℕ)) → [] ≡ join_with_byte dot (first ∷ second ∷ more) → ⊥
joined_some [] second more e = absurd cc
joined_some (c ∷ first) second more e = absurd cc

empty_spells_none : (host : List ℕ) (port : ℕ) → SpellsV4 host port [] → ⊥
unfolding parse_ipv4 ipv4_of_parts parts_of
empty_spells_none host port s = none-some (V4 host port) (spelled_v4 [] host port s)

-- a row at an address that may be set is told
pub told_some : (context : Context) (row : Row) (text : List ℕ) → IsAddressOn row.netid row.addr → TellsRow context row text → text ≡ [] → ⊥
told_some context row text a (AsV4 on t) e = empty_spells_none t.host t.port (subst (SpellsV4 t.host t.port) e t.is_told)
told_some context row text a (AsV6 on t) e = joined_some t.is_told.host_text (decimal t.is_told.p1) (decimal t.is_told.p2 ∷ []) (sym e ∙ t.is_told.text_is)
told_some context row text a (AsItStands none same) e = by_netid row.netid a none
  where
    by_netid : (netid : Netid) → IsAddressOn netid row.addr → SpellsNone netid row.addr → ⊥
    by_netid Tcp a none = none a.host a.port a.spelled
    by_netid Udp a none = none a.host a.port a.spelled
    by_netid Tcp6 a none = none a.host a.port a.spelled
    by_netid Udp6 a none = none a.host a.port a.spelled
    by_netid Local a none = let short : length row.addr ≡ 0 = ap (λ (t : List ℕ). length t) (sym same ∙ e) in omega (arith, a.some, short)

-- ---- ports

module _ (row : Row) where
  port_at_v4 : (o : Option Uaddr) → parse_ipv4 row.addr ≡ o → HasPort row (option_map_or port_of o 0)
  unfolding port_of
  port_at_v4 None none = Without (λ host port s. none-some (V4 host port) (sym none ∙ spelled_v4 row.addr host port s)) refl
  port_at_v4 (Some (V4 host port)) some = Spelled host (read_spells row.addr (V4 host port) some)
  port_at_v4 (Some (V6 host port)) some = absurd (read_spells row.addr (V6 host port) some)

  pub port_is_told : ((row.netid ≡ Tcp) ⊎ (row.netid ≡ Udp)) → HasPort row (shown_port row)
  unfolding shown_port address_in
  port_is_told (inl on) = subst (λ (n : Netid). HasPort row (option_map_or port_of (address_in n row.addr) 0)) (sym on) (port_at_v4 (parse_ipv4 row.addr) refl)
  port_is_told (inr on) = subst (λ (n : Netid). HasPort row (option_map_or port_of (address_in n row.addr) 0)) (sym on) (port_at_v4 (parse_ipv4 row.addr) refl)

one_port : (addr host other : List ℕ) (port another : ℕ) → SpellsV4 host port addr → SpellsV4 other another addr → port ≡ another
one_port addr host other port another s t =
    let same : V4 host port ≡ V4 other another = same_Some _ _ (sym (spelled_v4 addr host port s) ∙ spelled_v4 addr other another t) in
    cc

-- a row at an address that may be set has a port
pub port_some : (row : Row) (port : ℕ) → IsAddressOfV4 row.addr → HasPort row port → port ≡ 0 → ⊥
port_some row port a (Spelled host s) e = a.some (one_port row.addr a.host host a.port port a.spelled s ∙ e)
port_some row port a (Without none zero) e = none a.host a.port a.spelled
