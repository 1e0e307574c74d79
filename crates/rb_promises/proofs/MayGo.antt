-- To which hosts a call may go.
use Rattle.std.proofs.Common.{◌≡◌, ◌≢◌, ◌↔◌, ℕ, ◌==◌, Bool, true, false, not, cond, ◌||◌, inl, inr, List, ◌++◌, take, drop, Some, refl, sym, ap, ◌∙◌}
use Rattle.std.proofs.lemmas.Bool.{and_parts, and_from, not-true, or_cases, or_right, eqb-true, ne_eqb, eqb-false, true≢false, false_from_ne_true}
use Rattle.std.proofs.lemmas.List.{take-append-drop}
use Rattle.std.proofs.lemmas.Option.{none-some}
use Rattle.std.proofs.lemmas.Slice.Eq.{bytes_eq-Decides}
use Rattle.rb_uaddr.specs.declared.address.Uaddr.{Uaddr}
use Rattle.rb_uaddr.specs.declared.address.Uaddr.TheVariants as uaddrs
use Rattle.rb_uaddr.specs.Uaddr.{any_host, any_host6, parse_ipv4, parse_ipv6}
use Rattle.rb_uaddr.specs.Grammar.{SpellsV4, SpellsV6}
use Rattle.rb_uaddr.proofs.GrammarLaws.{read_spells}
use Rattle.rb_uaddr.proofs.Ipv6Laws.{read_spells_v6, spelled_reads_v6}
use Rattle.rb_address.specs.declared.host.Host.{Host}
use Rattle.rb_address.specs.declared.host.Host.TheVariants.{V4, V6}
use Rattle.rb_address.specs.declared.netid.Netid.{Netid}
use Rattle.rb_address.specs.declared.netid.Netid.TheVariants.{Tcp, Udp, Tcp6, Udp6, Local}
use Rattle.rb_address.specs.declared.who.Trust.{Trust}
use Rattle.rb_address.specs.declared.who.Trust.TheVariants as trusts
use Rattle.rb_address.specs.Hosts.{mapped_front, is_mapped, plain_host}
use Rattle.rb_address.proofs.HostLaws.{same_host_is, same_host_of}
use Rattle.rb_registry.specs.declared.row.Row.{Row}
use Rattle.rb_arguments.specs.declared.remote.RemoteCall.{RemoteCall}
use Rattle.rb_answers.specs.declared.context.Context.{Context}
use Rattle.rb_answers.specs.declared.listener.Forwarding.{Forwarding}
use Rattle.rb_answers.specs.declared.listener.Forwarding.TheVariants.{Anywhere, ForAll, ForLocal}
use Rattle.rb_answers.specs.Callers.{who_of, is_local, is_of_a_stranger, is_stranger}
use Rattle.rb_answers.specs.Netids.{address_in}
use Rattle.rb_answers.specs.Terms.{goes_by_host, is_any_host, is_this_host, is_harmless, may_go_by, may_go}
use Rattle.rb_answers.specs.Forwarding.{address_of_row, peer_of_address}
use Rattle.rb_promises.specs.Addresses.{IsOverIpv4, IsOverIpv6}
use Rattle.rb_promises.specs.Forwards.{StandsForHost, IsAt, IsEveryHost, IsOfHere, GoesByHost, IsHarmless, MayGo}
use Rattle.rb_promises.specs.Forwards.StandsForHost.{ForV4, ForItself}
use Rattle.rb_promises.specs.Forwards.IsAt.{AtV4, AtV6}
use Rattle.rb_promises.specs.Forwards.MayGo.{GoesAnywhere, GoesForAll, GoesForKnown}
use Rattle.rb_promises.proofs.LocalCallers.{host_is, at_loopback, at_announced}
use Rattle.rb_promises.proofs.Addresses.{spelled_v4, read_no_v4}

-- ---- IPv4 hosts in IPv6's form

mapped_is : (octets : List ℕ) → is_mapped octets ≡ true → octets ≡ mapped_front ++ drop 12 octets
unfolding is_mapped
mapped_is octets e =
    let front = (bytes_eq-Decides (take 12 octets) mapped_front).0 e in
    sym (take-append-drop 12 octets) ∙ ap (λ (f : List ℕ). f ++ drop 12 octets) front

is_mapped_of : (octets rest : List ℕ) → octets ≡ mapped_front ++ rest → is_mapped octets ≡ true
unfolding is_mapped
is_mapped_of octets rest e = rw e refl

pub plain_stands : (octets : List ℕ) → StandsForHost octets (plain_host (V6 octets))
unfolding plain_host
plain_stands octets = by_test (is_mapped octets) refl
  where
    by_test : (b : Bool) → is_mapped octets ≡ b → StandsForHost octets (cond b (V4 (drop 12 octets)) (V6 octets))
    by_test true e = ForV4 (drop 12 octets) (mapped_is octets e) refl
    by_test false e = ForItself (λ rest is. true≢false (sym (is_mapped_of octets rest is) ∙ e)) refl

pub one_plain : (octets : List ℕ) (host : Host) → StandsForHost octets host → plain_host (V6 octets) ≡ host
unfolding plain_host
one_plain octets host (ForV4 rest is same) = rw (is_mapped_of octets rest is, is, same) refl
one_plain octets host (ForItself none same) =
    let other : is_mapped octets ≡ false = false_from_ne_true (is_mapped octets) (λ e. none (drop 12 octets) (mapped_is octets e)) in
    rw (other, same) refl

-- ---- the host of a row

at_v4 : (row : Row) (u : Uaddr) → IsOverIpv4 row.netid → parse_ipv4 row.addr ≡ Some u → IsAt row (peer_of_address u).host
unfolding plain_host
at_v4 row (uaddrs.V4 host port) on is = AtV4 on host port (read_spells row.addr (uaddrs.V4 host port) is) refl
at_v4 row (uaddrs.V6 host port) on is = absurd (read_spells row.addr (uaddrs.V6 host port) is)

at_v6 : (row : Row) (u : Uaddr) → IsOverIpv6 row.netid → parse_ipv6 row.addr ≡ Some u → IsAt row (peer_of_address u).host
at_v6 row (uaddrs.V6 host port) on is = AtV6 on host port (read_spells_v6 row.addr (uaddrs.V6 host port) is) (plain_stands host)
at_v6 row (uaddrs.V4 host port) on is = absurd (read_no_v4 row.addr host port is)

pub registered_at : (row : Row) (u : Uaddr) → address_of_row row ≡ Some u → IsAt row (peer_of_address u).host
unfolding address_in
registered_at row u is = by_netid row.netid refl is
  where
    by_netid : (netid : Netid) → row.netid ≡ netid → address_in netid row.addr ≡ Some u → IsAt row (peer_of_address u).host
    by_netid Tcp on is = at_v4 row u (inl on) is
    by_netid Udp on is = at_v4 row u (inr on) is
    by_netid Tcp6 on is = at_v6 row u (inl on) is
    by_netid Udp6 on is = at_v6 row u (inr on) is
    by_netid Local on is = absurd (none-some u is)

-- the address that is at the host
abbrev HasAddressAt : Row → Host → Type 0
HasAddressAt row host = (u : Uaddr) × (address_of_row row ≡ Some u) × ((peer_of_address u).host ≡ host)

v4_at : (row : Row) (host : Host) (octets : List ℕ) (port : ℕ) → IsOverIpv4 row.netid → SpellsV4 octets port row.addr → host ≡ V4 octets → HasAddressAt row host
unfolding address_in plain_host
v4_at row host octets port (inl on) s same = (uaddrs.V4 octets port, ap (λ (n : Netid). address_in n row.addr) on ∙ spelled_v4 row.addr octets port s, sym same)
v4_at row host octets port (inr on) s same = (uaddrs.V4 octets port, ap (λ (n : Netid). address_in n row.addr) on ∙ spelled_v4 row.addr octets port s, sym same)

v6_at : (row : Row) (host : Host) (octets : List ℕ) (port : ℕ) → IsOverIpv6 row.netid → SpellsV6 octets port row.addr → StandsForHost octets host → HasAddressAt row host
unfolding address_in
v6_at row host octets port (inl on) s stands = (uaddrs.V6 octets port, ap (λ (n : Netid). address_in n row.addr) on ∙ spelled_reads_v6 row.addr octets port s, one_plain octets host stands)
v6_at row host octets port (inr on) s stands = (uaddrs.V6 octets port, ap (λ (n : Netid). address_in n row.addr) on ∙ spelled_reads_v6 row.addr octets port s, one_plain octets host stands)

pub has_address : (row : Row) (host : Host) → IsAt row host → HasAddressAt row host
has_address row host (AtV4 on octets port s same) = v4_at row host octets port on s same
has_address row host (AtV6 on octets port s stands) = v6_at row host octets port on s stands

or_true : (b : Bool) → (b || true) ≡ true
or_true true = refl
or_true false = refl

-- ---- hosts of this machine

every_is : (host : Host) → is_any_host host ≡ true → IsEveryHost host
every_is (V4 octets) e = (bytes_eq-Decides octets any_host).0 e
every_is (V6 octets) e = (bytes_eq-Decides octets any_host6).0 e

is_every : (host : Host) → IsEveryHost host → is_any_host host ≡ true
is_every (V4 octets) e = (bytes_eq-Decides octets any_host).1 e
is_every (V6 octets) e = (bytes_eq-Decides octets any_host6).1 e

of_here : (context : Context) (host : Host) → is_this_host context host ≡ true → IsOfHere context host
unfolding is_this_host
of_here context host e = elim (or_cases _ _ e) [
  | inl two ↦ elim (or_cases _ _ two) [
    | inl every ↦ inl (every_is host every)
    | inr local ↦ elim (host_is context.announced host local) [ inl loop ↦ inr (inl loop) | inr announced ↦ inr (inr (inl announced)) ]
  ]
  | inr asked ↦ inr (inr (inr (same_host_is host (who_of context.caller).asked asked)))
]

is_of_here : (context : Context) (host : Host) → IsOfHere context host → is_this_host context host ≡ true
unfolding is_this_host
is_of_here context host (inl every) = rw (is_every host every) refl
is_of_here context host (inr (inl loop)) = rw (at_loopback context.announced host loop, or_true (is_any_host host)) refl
is_of_here context host (inr (inr (inl announced))) = rw (at_announced context.announced host announced, or_true (is_any_host host)) refl
is_of_here context host (inr (inr (inr asked))) =
    or_right (is_any_host host || is_local context.announced host) _ (same_host_of host (who_of context.caller).asked asked)

-- ---- programs that go by the host of who calls them

by_host_is : (prog proc : ℕ) → goes_by_host prog proc ≡ true → GoesByHost prog proc
unfolding goes_by_host
by_host_is prog proc e = elim (or_cases _ _ e) [
  | inl three ↦ elim (or_cases _ _ three) [
    | inl two ↦ elim (or_cases _ _ two) [
      | inl serv ↦ inl (eqb-true prog 100004 serv)
      | inr bind ↦ inr (inl (eqb-true prog 100007 bind))
    ]
    | inr passwd ↦ inr (inr (inl (eqb-true prog 100009 passwd)))
  ]
  | inr mount ↦
      let (is, other) = and_parts _ _ mount in
      inr (inr (inr (eqb-true prog 100005 is, eqb-false proc 0 (not-true (proc == 0) other))))
]

goes_by : (prog proc : ℕ) → GoesByHost prog proc → goes_by_host prog proc ≡ true
unfolding goes_by_host
goes_by prog proc (inl is) = rw is refl
goes_by prog proc (inr (inl is)) = rw is refl
goes_by prog proc (inr (inr (inl is))) = rw is refl
goes_by prog proc (inr (inr (inr (is, other)))) = rw (is, ne_eqb proc 0 other) refl

-- ---- the terms

harmless_is : (context : Context) (remote : RemoteCall) (host : Host) → is_harmless context remote host ≡ true → IsHarmless context remote host
harmless_is context remote host e =
    let (here, other) = and_parts (is_this_host context host) (not (goes_by_host remote.prog remote.proc)) e in
    record {
      of_here = of_here context host here;
      by_host = λ by. true≢false (sym (goes_by remote.prog remote.proc by) ∙ not-true (goes_by_host remote.prog remote.proc) other);
    }

is_harmless_of : (context : Context) (remote : RemoteCall) (host : Host) → IsHarmless context remote host → is_harmless context remote host ≡ true
is_harmless_of context remote host h =
    let other = false_from_ne_true (goes_by_host remote.prog remote.proc) (λ e. h.by_host (by_host_is remote.prog remote.proc e)) in
    rw (is_of_here context host h.of_here, other) refl

no_stranger : (trust : Trust) → not (is_of_a_stranger trust) ≡ true → trust ≢ trusts.Stranger
no_stranger trusts.Claims e same = absurd cc
no_stranger (trusts.Local owner) e same = absurd cc
no_stranger trusts.Stranger e same = absurd cc

is_no_stranger : (trust : Trust) → trust ≢ trusts.Stranger → not (is_of_a_stranger trust) ≡ true
is_no_stranger trusts.Claims other = refl
is_no_stranger (trusts.Local owner) other = refl
is_no_stranger trusts.Stranger other = absurd (other refl)

module _ (context : Context) (remote : RemoteCall) (host : Host) where
  may_is : (terms : Forwarding) → context.terms.forwarding ≡ terms → may_go_by terms context remote host ≡ true → MayGo context remote host
  may_is Anywhere is e = GoesAnywhere is
  may_is ForAll is e = GoesForAll is (harmless_is context remote host e)
  may_is ForLocal is e =
      let (harmless, known) = and_parts (is_harmless context remote host) (not (is_stranger (who_of context.caller))) e in
      GoesForKnown is (no_stranger (who_of context.caller).trust known) (harmless_is context remote host harmless)

  by_terms : (terms : Forwarding) → context.terms.forwarding ≡ terms → may_go_by terms context remote host ≡ true → may_go context remote host ≡ true
  unfolding may_go
  by_terms terms is may = ap (λ (f : Forwarding). may_go_by f context remote host) is ∙ may

  is_may : MayGo context remote host → may_go context remote host ≡ true
  is_may (GoesAnywhere is) = by_terms Anywhere is refl
  is_may (GoesForAll is harmless) = by_terms ForAll is (is_harmless_of context remote host harmless)
  is_may (GoesForKnown is known harmless) =
      by_terms ForLocal is
      (and_from _ _ (is_harmless_of context remote host harmless) (is_no_stranger (who_of context.caller).trust known))

  pub may_exactly : (may_go context remote host ≡ true) ↔ MayGo context remote host
  unfolding may_go
  may_exactly = (may_is context.terms.forwarding refl, is_may)
