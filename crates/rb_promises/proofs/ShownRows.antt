-- The items of the lists of rows.
use Rattle.std.proofs.Common.{◌≡◌, ◌↔◌, ℕ, ◌^◌, ◌<◌, ◌==◌, Bool, true, false, not, cond, ◌&&◌, inl, inr, List, [], ◌∷◌, map, filter, Option, Some, None, bytes_eq, refl, sym, subst, ◌∙◌}
use Rattle.std.specs.Prelude.{codes, decimal}
use Rattle.std.proofs.lemmas.Bool.{and_parts, eqb-true, eq-eqb, eqb-false, true≢false}
use Rattle.std.proofs.lemmas.Option.{none-some}
use Rattle.std.proofs.lemmas.Slice.Eq.{bytes_eq-Decides}
use Rattle.rb_uaddr.specs.declared.address.Uaddr.{Uaddr}
use Rattle.rb_uaddr.specs.declared.address.Uaddr.TheVariants.{V4, V6}
use Rattle.rb_uaddr.specs.Uaddr.{any_host6, text_of, parse_ipv4, parse_ipv6}
use Rattle.rb_uaddr.specs.Grammar.{SpellsV4, SpellsV6}
use Rattle.rb_uaddr.proofs.GrammarLaws.{read_spells, spelled_reads, read_is_address}
use Rattle.rb_uaddr.proofs.Ipv6Laws.{read_spells_v6, spelled_reads_v6}
use Rattle.rb_address.specs.declared.netid.Netid.{Netid}
use Rattle.rb_address.specs.declared.netid.Netid.TheVariants.{Tcp, Udp, Tcp6, Udp6, Local}
use Rattle.rb_address.specs.declared.who.Owner.{Owner}
use Rattle.rb_address.specs.declared.who.Owner.TheVariants.{Unknown, Uid}
use Rattle.rb_registry.specs.declared.row.Row.{Row}
use Rattle.rb_answers.specs.declared.context.Context.{Context}
use Rattle.rb_registry.specs.Items.{owner_text}
use Rattle.rb_answers.specs.Callers.{hosts_in}
use Rattle.rb_answers.specs.Ledger.{rows_in}
use Rattle.rb_registry.specs.Items.{prot_on}
use Rattle.rb_answers.specs.Netids.{semantics_of, family_text, proto_text, address_in}
use Rattle.rb_answers.specs.Answers.{told_text, shown_text}
use Rattle.rb_registry.specs.Rows.{is_of_version}
use Rattle.rb_answers.specs.Results.{is_inet, mapping_of, rpcb_of, entry_of, result_bytes}
use Rattle.rb_promises.specs.Addresses.{IsOverIpv4, IsOverIpv6}
use Rattle.rb_promises.specs.Sets.{IsByProtocol}
use Rattle.rb_promises.specs.LookUps.{SpellsNone, HasHosts}
use Rattle.rb_promises.specs.ListedRows.{AreItems, IsMappingOf, NamesOwner, IsRpcbOf, IsAny, ListsAddress, IsDescribed, IsEntryOf, IsOfVersion, PmapDumpLists, DumpLists, GetaddrlistLists}
use Rattle.rb_promises.specs.ListedRows.AreItems.{NoMore, Listed, Passed}
use Rattle.rb_promises.specs.ListedRows.ListsAddress.{ListsV4, IsReplaced, IsNotReplaced, IsNoAddress}
use Rattle.rb_promises.proofs.Addresses.{spelled_v4, read_no_v4}
use Rattle.rb_promises.proofs.AcceptedUnsets.{among_ipv4, ipv4_among}
use Rattle.rb_promises.proofs.Told.{stand_in_v6, v6_fits, prints_v6, tells_v4, port_is_told}

-- ---- one item for each row

module _ {Item : Type 0} (test : Row → Bool) (item_of : Row → Item) (IsListed : Row → Type 0) (IsItemOf : Row → Item → Type 0)
    (exact : (row : Row) → (test row ≡ true) ↔ IsListed row) (is : (row : Row) → IsListed row → IsItemOf row (item_of row)) where
  listed : (rows : List Row) → AreItems IsListed IsItemOf rows (map item_of (filter test rows))
  listed [] = NoMore
  listed (row ∷ rows) = by_test (test row) refl (listed rows)
    where
      by_test : (b : Bool) → test row ≡ b → AreItems IsListed IsItemOf rows (map item_of (filter test rows))
          → AreItems IsListed IsItemOf (row ∷ rows) (map item_of (cond b (row ∷ filter test rows) (filter test rows)))
      by_test true e further =
          let there = (exact row).0 e in
          Listed row (item_of row) rows (map item_of (filter test rows)) there (is row there) further
      by_test false e further =
          Passed row rows (map item_of (filter test rows)) (λ there. true≢false (sym ((exact row).1 there) ∙ e)) further

-- ---- DUMP of version 2

pub inet_exactly : (row : Row) → (is_inet row ≡ true) ↔ IsOverIpv4 row.netid
inet_exactly row = (among_ipv4 row.netid, ipv4_among row.netid)

pub protocol_on : (netid : Netid) → IsOverIpv4 netid → IsByProtocol (prot_on netid) netid
protocol_on netid (inl on) = rw on (inl (refl, refl))
protocol_on netid (inr on) = rw on (inr (refl, refl))

is_mapping : (row : Row) → IsOverIpv4 row.netid → IsMappingOf row (mapping_of row)
is_mapping row on = record { prog = refl; vers = refl; prot = protocol_on row.netid on; port = port_is_told row on }

pub pmap_dump_lists : PmapDumpLists
unfolding result_bytes
pmap_dump_lists context head arguments l = record {
  given = _;
  is_given = refl;
  items = map mapping_of (filter is_inet (rows_in l));
  are_items = listed is_inet mapping_of (λ row. IsOverIpv4 row.netid) IsMappingOf inet_exactly is_mapping (rows_in l);
  bytes = refl;
}

-- ---- DUMP of versions 3 and 4

pub owner_named : (owner : Owner) → NamesOwner owner (owner_text owner)
unfolding owner_text
owner_named Unknown = refl
owner_named (Uid uid) = by_test (uid == 0) refl
  where
    by_test : (b : Bool) → (uid == 0) ≡ b → NamesOwner (Uid uid) (cond b (codes "superuser") (decimal uid))
    by_test true root = inl (eqb-true uid 0 root, refl)
    by_test false other = inr (eqb-false uid 0 other, refl)

all_listed : (rows : List Row) → AreItems IsAny IsRpcbOf rows (map rpcb_of rows)
all_listed [] = NoMore
all_listed (row ∷ rows) =
    Listed row (rpcb_of row) rows (map rpcb_of rows) tt
    (record { prog = refl; vers = refl; netid = refl; addr = refl; owner = owner_named row.owner })
    (all_listed rows)

pub dump_lists : DumpLists
unfolding result_bytes
dump_lists context head arguments l =
    record { given = _; is_given = refl; items = map rpcb_of (rows_in l); are_items = all_listed (rows_in l); bytes = refl }

-- ---- GETADDRLIST

pub version_exactly : (prog vers : ℕ) (row : Row) → (is_of_version prog vers row ≡ true) ↔ IsOfVersion prog vers row
version_exactly prog vers row = (
  λ e. let (same, version) = and_parts (row.prog == prog) (row.vers == vers) e in (eqb-true row.prog prog same, eqb-true row.vers vers version),
  λ is. rw (eq-eqb row.prog prog is.0, eq-eqb row.vers vers is.1) refl,
)

pub described : (netid : Netid) → IsDescribed netid (semantics_of netid) (family_text netid) (proto_text netid)
described Tcp = (refl, refl, refl)
described Udp = (refl, refl, refl)
described Tcp6 = (refl, refl, refl)
described Udp6 = (refl, refl, refl)
described Local = (refl, refl, refl)

module _ (context : Context) (h : HasHosts context) (row : Row) where
  at_v4 : (o : Option Uaddr) → parse_ipv4 row.addr ≡ o → IsOverIpv4 row.netid → ListsAddress context row (told_text (hosts_in context) row o)
  at_v4 None none on = IsNoAddress (none_spelled on) refl
    where
      none_here : (host : List ℕ) (port : ℕ) → SpellsV4 host port row.addr → ⊥
      none_here host port s = none-some (V4 host port) (sym none ∙ spelled_v4 row.addr host port s)

      none_spelled : IsOverIpv4 row.netid → SpellsNone row.netid row.addr
      none_spelled (inl e) = rw e none_here
      none_spelled (inr e) = rw e none_here
  at_v4 (Some (V4 own port)) some on = ListsV4 on (tells_v4 context h row.addr own port (read_spells row.addr (V4 own port) some))
  at_v4 (Some (V6 own port)) some on = absurd (read_spells row.addr (V6 own port) some)

  v6_is_listed : (own : List ℕ) (port : ℕ) → SpellsV6 own port row.addr → IsOverIpv6 row.netid → ListsAddress context row (told_text (hosts_in context) row (Some (V6 own port)))
  v6_is_listed own port s on =
      let (own_fits, port_fits) = read_is_address row.addr (V6 own port) (spelled_reads row.addr (V6 own port) s) in
      by_tests port_fits (bytes_eq own any_host6) refl (bytes_eq (hosts_in context).inet6 any_host6) refl
    where
      by_tests : port < 2 ^ 16 → (a : Bool) → bytes_eq own any_host6 ≡ a → (b : Bool) → bytes_eq (hosts_in context).inet6 any_host6 ≡ b
          → ListsAddress context row (cond (a && not b) (text_of (V6 (hosts_in context).inet6 port)) row.addr)
      by_tests small true every true e =
          IsNotReplaced own (hosts_in context).inet6 port on s (stand_in_v6 context h) (inr ((bytes_eq-Decides (hosts_in context).inet6 any_host6).0 e)) refl
      by_tests small true every false e =
          IsReplaced (hosts_in context).inet6 port on
          (subst (λ (host : List ℕ). SpellsV6 host port row.addr) ((bytes_eq-Decides own any_host6).0 every) s)
          (stand_in_v6 context h)
          (λ same. true≢false (sym ((bytes_eq-Decides (hosts_in context).inet6 any_host6).1 same) ∙ e))
          (prints_v6 (hosts_in context).inet6 port (v6_fits context h) small)
      by_tests small false other b e =
          IsNotReplaced own (hosts_in context).inet6 port on s (stand_in_v6 context h)
          (inl (λ same. true≢false (sym ((bytes_eq-Decides own any_host6).1 same) ∙ other))) refl

  at_v6 : (o : Option Uaddr) → parse_ipv6 row.addr ≡ o → IsOverIpv6 row.netid → ListsAddress context row (told_text (hosts_in context) row o)
  at_v6 None none on = IsNoAddress (none_spelled on) refl
    where
      none_here : (host : List ℕ) (port : ℕ) → SpellsV6 host port row.addr → ⊥
      none_here host port s = none-some (V6 host port) (sym none ∙ spelled_reads_v6 row.addr host port s)

      none_spelled : IsOverIpv6 row.netid → SpellsNone row.netid row.addr
      none_spelled (inl e) = rw e none_here
      none_spelled (inr e) = rw e none_here
  at_v6 (Some (V6 own port)) some on = v6_is_listed own port (read_spells_v6 row.addr (V6 own port) some) on
  at_v6 (Some (V4 own port)) some on = absurd (read_no_v4 row.addr own port some)

  on_netid : (netid : Netid) → row.netid ≡ netid → ListsAddress context row (told_text (hosts_in context) row (address_in netid row.addr))
  unfolding address_in
  on_netid Tcp is = at_v4 (parse_ipv4 row.addr) refl (inl is)
  on_netid Udp is = at_v4 (parse_ipv4 row.addr) refl (inr is)
  on_netid Tcp6 is = at_v6 (parse_ipv6 row.addr) refl (inl is)
  on_netid Udp6 is = at_v6 (parse_ipv6 row.addr) refl (inr is)
  on_netid Local is = IsNoAddress (rw is tt) refl

  pub is_entry : IsEntryOf context row (entry_of (hosts_in context) row)
  unfolding shown_text
  is_entry = record { maddr = on_netid row.netid refl; netid = refl; described = described row.netid }

pub getaddrlist_lists : GetaddrlistLists
unfolding result_bytes
getaddrlist_lists context head r arguments l h = record {
  given = _;
  is_given = refl;
  items = map (entry_of (hosts_in context)) (filter (is_of_version r.prog r.vers) (rows_in l));
  are_items = listed (is_of_version r.prog r.vers) (entry_of (hosts_in context)) (IsOfVersion r.prog r.vers) (IsEntryOf context)
      (version_exactly r.prog r.vers) (λ row _. is_entry context h row) (rows_in l);
  bytes = refl;
}
