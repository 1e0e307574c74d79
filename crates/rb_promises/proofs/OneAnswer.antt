-- What the page of answers says of a call is one thing: each of its relations gives one netid, one row, one text, one number.
use Rattle.std.proofs.Common.{◌≡◌, ◌≢◌, ◌↔◌, ℕ, ◌+◌, ◌*◌, ◌^◌, ◌<◌, ◌≤◌, ◌⊎◌, inl, inr, List, [], ◌∷◌, ◌++◌, length, map, Option, Some, None, refl, sym, ap, subst, ◌∙◌, arith}
use Rattle.std.specs.Prelude.{Contains, codes, decimal}
use Rattle.std.specs.List.{join_with_byte}
use Rattle.std.proofs.lemmas.Option.{none-some, same_Some}
use Rattle.rb_uaddr.specs.declared.address.Uaddr.{Uaddr}
use Rattle.rb_uaddr.specs.declared.address.Uaddr.TheVariants.{V4, V6}
use Rattle.rb_uaddr.specs.Uaddr.{any_host, any_host6, dot, text_of, parse}
use Rattle.rb_uaddr.specs.Grammar.{SpellsV4, SpellsV6, Spells, IsTransportOf}
use Rattle.rb_uaddr.proofs.GrammarLaws.{read_is_spelled, spelled_reads, one_spelling}
use Rattle.rb_uaddr.proofs.Ipv6Laws.{spelled_reads_v6}
use Rattle.rb_uaddr.proofs.Printed.{one_printed}
use Rattle.rb_uaddr.proofs.TransportLaws.{transport_is_exact}
use Rattle.rb_address.specs.declared.host.Host.{Host}
use Rattle.rb_address.specs.declared.host.Host.TheVariants as hosts
use Rattle.rb_address.specs.declared.netid.Netid.{Netid}
use Rattle.rb_address.specs.declared.netid.Netid.TheVariants.{Tcp, Udp, Tcp6, Udp6, Local}
use Rattle.rb_address.specs.declared.who.Owner.{Owner}
use Rattle.rb_address.specs.declared.who.Owner.TheVariants.{Unknown, Uid}
use Rattle.rb_address.specs.declared.who.Source.{Source}
use Rattle.rb_address.specs.declared.who.Source.TheVariants as sources
use Rattle.rb_address.specs.declared.caller.Caller.{Caller}
use Rattle.rb_address.specs.declared.caller.Caller.TheVariants as callers
use Rattle.rb_registry.specs.declared.row.Row.{Row}
use Rattle.rb_answers.specs.declared.context.Context.{Context}
use Rattle.rb_answers.specs.Callers.{who_of}
use Rattle.rb_promises.specs.Addresses.{IsOverIpv4, IsOverIpv6}
use Rattle.rb_promises.specs.Sets.{IsByProtocol, HasSameKey}
use Rattle.rb_promises.specs.LookUps.{IsOn, IsOf, IsFound, IsFoundExactly, IsOver, CameBy, AsksForNone, StandsIn, TellsV4, TellsV6, PrintsV6, SpellsNone, TellsRow, TellsText, HasPort, TellsPort}
use Rattle.rb_promises.specs.LookUps.IsFound.{ThatVersion, GreatestVersion, NoVersion}
use Rattle.rb_promises.specs.LookUps.IsFoundExactly.{ThatRow, NoRow}
use Rattle.rb_promises.specs.LookUps.StandsIn.{TheAsked, TheAnnounced, EveryHost}
use Rattle.rb_promises.specs.LookUps.TellsRow.{AsV4, AsV6, AsItStands}
use Rattle.rb_promises.specs.LookUps.HasPort.{Spelled, Without}
use Rattle.rb_promises.specs.ListedRows.{NamesOwner, ListsAddress}
use Rattle.rb_promises.specs.ListedRows.ListsAddress.{ListsV4, IsReplaced, IsNotReplaced, IsNoAddress}
use Rattle.rb_promises.specs.ReachedRows.{HaveKeysOfTheirOwn}
use Rattle.rb_promises.specs.Forwards.{GoesBy}
use Rattle.rb_promises.specs.TurnedAddresses.{IsWritten, IsWrittenOf, TurnsText, Prints, TurnsBytes, AreSeconds}
use Rattle.rb_promises.specs.TurnedAddresses.TurnsText.{AsSpelled, AsNone}
use Rattle.rb_promises.specs.TurnedAddresses.TurnsBytes.{AsForm, AsNoForm}
use Rattle.rb_promises.specs.TurnedAddresses.AreSeconds.{Whole, TheMost}
use Rattle.rb_promises.proofs.Addresses.{spelled_v4}
use Rattle.rb_promises.proofs.AcceptedSets.{on_protocol}

-- ---- one netid

pub one_protocol : (protocol : ℕ) (a b : Netid) → IsByProtocol protocol a → IsByProtocol protocol b → a ≡ b
one_protocol protocol a b x y = same_Some a b (sym (on_protocol protocol a x) ∙ on_protocol protocol b y)

one_over : (source : Source) (v4 v6 a b : Netid) → IsOver source v4 v6 a → IsOver source v4 v6 b → a ≡ b
one_over (sources.Inet peer) v4 v6 a b (inl (f, x)) (inl (g, y)) = x ∙ sym y
one_over (sources.Inet peer) v4 v6 a b (inl (f, x)) (inr (g, y)) = absurd cc
one_over (sources.Inet peer) v4 v6 a b (inr (f, x)) (inl (g, y)) = absurd cc
one_over (sources.Inet peer) v4 v6 a b (inr (f, x)) (inr (g, y)) = x ∙ sym y
one_over sources.Local v4 v6 a b x y = x ∙ sym y

pub one_netid : (caller : Caller) (a b : Netid) → CameBy caller a → CameBy caller b → a ≡ b
one_netid (callers.Tcp id who) a b x y = one_over who.source Tcp Tcp6 a b x y
one_netid (callers.Udp who longest) a b x y = one_over who.source Udp Udp6 a b x y

pub one_way : (source : Source) (a b : Netid) → GoesBy source a → GoesBy source b → a ≡ b
one_way (sources.Inet peer) a b (inl (f, x)) (inl (g, y)) = x ∙ sym y
one_way (sources.Inet peer) a b (inl (f, x)) (inr (g, y)) = absurd cc
one_way (sources.Inet peer) a b (inr (f, x)) (inl (g, y)) = absurd cc
one_way (sources.Inet peer) a b (inr (f, x)) (inr (g, y)) = x ∙ sym y
one_way sources.Local a b x y = x ∙ sym y

-- ---- one row

module _ (prog vers : ℕ) (netid : Netid) (rows : List Row) (keys : HaveKeysOfTheirOwn rows) where
  one_row : (a b : Row) → IsOn prog netid rows a → IsOn prog netid rows b → a.vers ≡ b.vers → a ≡ b
  one_row a b x y same =
      keys a b x.live y.live (record { prog = y.prog_is ∙ sym x.prog_is; vers = sym same; netid = y.netid_is ∙ sym x.netid_is })

  pub one_found : (a b : Option Row) → IsFound prog vers netid rows a → IsFound prog vers netid rows b → a ≡ b
  one_found _ _ (ThatVersion a x) (ThatVersion b y) =
      ap (λ (row : Row). Some row) (one_row a b x.on y.on (x.vers_is ∙ sym y.vers_is))
  one_found _ _ (ThatVersion a x) (GreatestVersion b none on greatest) = absurd (none a x)
  one_found _ _ (ThatVersion a x) (NoVersion none) = absurd (none a x.on)
  one_found _ _ (GreatestVersion a none on greatest) (ThatVersion b y) = absurd (none b y)
  one_found _ _ (GreatestVersion a none on greatest) (GreatestVersion b none2 on2 greatest2) =
      let below = greatest2 a on in
      let above = greatest b on2 in
      ap (λ (row : Row). Some row) (one_row a b on on2 (omega (arith, below, above)))
  one_found _ _ (GreatestVersion a none on greatest) (NoVersion nothing) = absurd (nothing a on)
  one_found _ _ (NoVersion none) (ThatVersion b y) = absurd (none b y.on)
  one_found _ _ (NoVersion none) (GreatestVersion b none2 on greatest) = absurd (none b on)
  one_found _ _ (NoVersion none) (NoVersion nothing) = refl

  pub one_found_exactly : (a b : Option Row) → IsFoundExactly prog vers netid rows a → IsFoundExactly prog vers netid rows b → a ≡ b
  one_found_exactly _ _ (ThatRow a x) (ThatRow b y) =
      ap (λ (row : Row). Some row) (one_row a b x.on y.on (x.vers_is ∙ sym y.vers_is))
  one_found_exactly _ _ (ThatRow a x) (NoRow none) = absurd (none a x)
  one_found_exactly _ _ (NoRow none) (ThatRow b y) = absurd (none b y)
  one_found_exactly _ _ (NoRow none) (NoRow nothing) = refl

-- ---- one spelling

pub one_port : (addr host other : List ℕ) (port another : ℕ) → SpellsV4 host port addr → SpellsV4 other another addr → port ≡ another
one_port addr host other port another x y =
    let same : V4 host port ≡ V4 other another = same_Some _ _ (sym (spelled_v4 addr host port x) ∙ spelled_v4 addr other another y) in
    cc

one_host : (addr host other : List ℕ) (port another : ℕ) → SpellsV4 host port addr → SpellsV4 other another addr → host ≡ other
one_host addr host other port another x y =
    let same : V4 host port ≡ V4 other another = same_Some _ _ (sym (spelled_v4 addr host port x) ∙ spelled_v4 addr other another y) in
    cc

pub one_port6 : (addr host other : List ℕ) (port another : ℕ) → SpellsV6 host port addr → SpellsV6 other another addr → port ≡ another
one_port6 addr host other port another x y =
    let same : V6 host port ≡ V6 other another = same_Some _ _ (sym (spelled_reads_v6 addr host port x) ∙ spelled_reads_v6 addr other another y) in
    cc

one_host6 : (addr host other : List ℕ) (port another : ℕ) → SpellsV6 host port addr → SpellsV6 other another addr → host ≡ other
one_host6 addr host other port another x y =
    let same : V6 host port ≡ V6 other another = same_Some _ _ (sym (spelled_reads_v6 addr host port x) ∙ spelled_reads_v6 addr other another y) in
    cc

one_text : (host : List ℕ) (port : ℕ) (a b : List ℕ) → SpellsV4 host port a → SpellsV4 host port b → a ≡ b
one_text host port a b x y =
    sym (one_spelling a host port (spelled_reads a (V4 host port) x)) ∙ one_spelling b host port (spelled_reads b (V4 host port) y)

pub one_print : (host : List ℕ) (port : ℕ) (a b : List ℕ) → PrintsV6 host port a → PrintsV6 host port b → a ≡ b
one_print host port a b x y =
    let text : x.host_text ≡ y.host_text = one_printed host x.host_text y.host_text x.printed y.printed in
    let high : x.p1 ≡ y.p1 = omega (arith, x.port_is, y.port_is, x.p1_fits, x.p2_fits, y.p1_fits, y.p2_fits) in
    let low : x.p2 ≡ y.p2 = omega (arith, x.port_is, y.port_is, x.p1_fits, x.p2_fits, y.p1_fits, y.p2_fits) in
    x.text_is ∙ parts x.host_text y.host_text x.p1 y.p1 x.p2 y.p2 text high low ∙ sym y.text_is
  where
    parts : (s t : List ℕ) (p q m n : ℕ) → s ≡ t → p ≡ q → m ≡ n
        → join_with_byte dot (s ∷ decimal p ∷ decimal m ∷ []) ≡ join_with_byte dot (t ∷ decimal q ∷ decimal n ∷ [])
    parts s t p q m n e f g = rw (e, f, g) refl

-- ---- one address that is told

module _ (of : List ℕ → Host) (exact : (a b : List ℕ) → of a ≡ of b → a ≡ b) (every : List ℕ) (announced : Option (List ℕ)) (asked : Host) where
  one_stands_in : (a b : List ℕ) → StandsIn of every announced asked a → StandsIn of every announced asked b → a ≡ b
  one_stands_in a b (TheAsked x some) (TheAsked y other) = exact a b (sym x ∙ y)
  one_stands_in a b (TheAsked x some) (TheAnnounced none is) = absurd (some (none a x))
  one_stands_in a b (TheAsked x some) (EveryHost none nobody same) = absurd (some (none a x))
  one_stands_in a b (TheAnnounced none is) (TheAsked y some) = absurd (some (none b y))
  one_stands_in a b (TheAnnounced none is) (TheAnnounced none2 is2) = same_Some a b (sym is ∙ is2)
  one_stands_in a b (TheAnnounced none is) (EveryHost none2 nobody same) = absurd (none-some a (sym nobody ∙ is))
  one_stands_in a b (EveryHost none nobody same) (TheAsked y some) = absurd (some (none b y))
  one_stands_in a b (EveryHost none nobody same) (TheAnnounced none2 is) = absurd (none-some b (sym nobody ∙ is))
  one_stands_in a b (EveryHost none nobody same) (EveryHost none2 nobody2 same2) = same ∙ sym same2

-- the host of an address that was set, or the one that stands in
one_told : (every own own2 host host2 : List ℕ) (InPlace : List ℕ → Type 0) → ((a b : List ℕ) → InPlace a → InPlace b → a ≡ b) → own ≡ own2
    → ((own ≡ every) × InPlace host) ⊎ ((own ≢ every) × (host ≡ own))
    → ((own2 ≡ every) × InPlace host2) ⊎ ((own2 ≢ every) × (host2 ≡ own2)) → host ≡ host2
one_told every own own2 host host2 InPlace one same (inl (e, x)) (inl (f, y)) = one host host2 x y
one_told every own own2 host host2 InPlace one same (inl (e, x)) (inr (f, y)) = absurd (f (sym same ∙ e))
one_told every own own2 host host2 InPlace one same (inr (e, x)) (inl (f, y)) = absurd (e (same ∙ f))
one_told every own own2 host host2 InPlace one same (inr (e, x)) (inr (f, y)) = x ∙ same ∙ sym y

same_v4 : (a b : List ℕ) → hosts.V4 a ≡ hosts.V4 b → a ≡ b
same_v4 a b e = cc

same_v6 : (a b : List ℕ) → hosts.V6 a ≡ hosts.V6 b → a ≡ b
same_v6 a b e = cc

module _ (context : Context) where
  abbrev asked : Host
  asked = (who_of context.caller).asked

  pub one_host_in6 : (a b : List ℕ) → StandsIn hosts.V6 any_host6 context.announced.inet6 asked a
      → StandsIn hosts.V6 any_host6 context.announced.inet6 asked b → a ≡ b
  one_host_in6 a b x y = one_stands_in hosts.V6 same_v6 any_host6 context.announced.inet6 asked a b x y

  pub one_v4 : (addr a b : List ℕ) → TellsV4 context addr a → TellsV4 context addr b → a ≡ b
  one_v4 addr a b x y =
      let own = one_host addr x.own y.own x.port y.port x.was_set y.was_set in
      let port = one_port addr x.own y.own x.port y.port x.was_set y.was_set in
      let host = one_told any_host x.own y.own x.host y.host (StandsIn hosts.V4 any_host context.announced.inet asked)
      (one_stands_in hosts.V4 same_v4 any_host context.announced.inet asked) own x.host_is y.host_is in
      one_text y.host y.port a b (subst (λ (p : ℕ). SpellsV4 y.host p a) port (subst (λ (h : List ℕ). SpellsV4 h x.port a) host x.is_told)) y.is_told

  one_v6 : (addr a b : List ℕ) → TellsV6 context addr a → TellsV6 context addr b → a ≡ b
  one_v6 addr a b x y =
      let own = one_host6 addr x.own y.own x.port y.port x.was_set y.was_set in
      let port = one_port6 addr x.own y.own x.port y.port x.was_set y.was_set in
      let host = one_told any_host6 x.own y.own x.host y.host (StandsIn hosts.V6 any_host6 context.announced.inet6 asked)
      one_host_in6 own x.host_is y.host_is in
      one_print y.host y.port a b (subst (λ (p : ℕ). PrintsV6 y.host p a) port (subst (λ (h : List ℕ). PrintsV6 h x.port a) host x.is_told)) y.is_told

  -- ---- rows

  not_both : (netid : Netid) → IsOverIpv4 netid → IsOverIpv6 netid → ⊥
  not_both netid (inl e) (inl f) = absurd cc
  not_both netid (inl e) (inr f) = absurd cc
  not_both netid (inr e) (inl f) = absurd cc
  not_both netid (inr e) (inr f) = absurd cc

  spells_some_v4 : (row : Row) (host : List ℕ) (port : ℕ) → IsOverIpv4 row.netid → SpellsV4 host port row.addr → SpellsNone row.netid row.addr → ⊥
  spells_some_v4 row host port (inl on) s none = subst (λ (n : Netid). SpellsNone n row.addr) on none host port s
  spells_some_v4 row host port (inr on) s none = subst (λ (n : Netid). SpellsNone n row.addr) on none host port s

  spells_some_v6 : (row : Row) (host : List ℕ) (port : ℕ) → IsOverIpv6 row.netid → SpellsV6 host port row.addr → SpellsNone row.netid row.addr → ⊥
  spells_some_v6 row host port (inl on) s none = subst (λ (n : Netid). SpellsNone n row.addr) on none host port s
  spells_some_v6 row host port (inr on) s none = subst (λ (n : Netid). SpellsNone n row.addr) on none host port s

  one_row_told : (row : Row) (a b : List ℕ) → TellsRow context row a → TellsRow context row b → a ≡ b
  one_row_told row a b (AsV4 on x) (AsV4 on2 y) = one_v4 row.addr a b x y
  one_row_told row a b (AsV4 on x) (AsV6 on2 y) = absurd (not_both row.netid on on2)
  one_row_told row a b (AsV4 on x) (AsItStands none same) = absurd (spells_some_v4 row x.own x.port on x.was_set none)
  one_row_told row a b (AsV6 on x) (AsV4 on2 y) = absurd (not_both row.netid on2 on)
  one_row_told row a b (AsV6 on x) (AsV6 on2 y) = one_v6 row.addr a b x y
  one_row_told row a b (AsV6 on x) (AsItStands none same) = absurd (spells_some_v6 row x.own x.port on x.was_set none)
  one_row_told row a b (AsItStands none same) (AsV4 on y) = absurd (spells_some_v4 row y.own y.port on y.was_set none)
  one_row_told row a b (AsItStands none same) (AsV6 on y) = absurd (spells_some_v6 row y.own y.port on y.was_set none)
  one_row_told row a b (AsItStands none same) (AsItStands none2 same2) = same ∙ sym same2

  pub one_text_told : (found : Option Row) (a b : List ℕ) → TellsText context found a → TellsText context found b → a ≡ b
  one_text_told None a b x y = x ∙ sym y
  one_text_told (Some row) a b x y = one_row_told row a b x y

  -- ---- items of GETADDRLIST

  pub one_listed : (row : Row) (a b : List ℕ) → ListsAddress context row a → ListsAddress context row b → a ≡ b
  one_listed row a b (ListsV4 on x) (ListsV4 on2 y) = one_v4 row.addr a b x y
  one_listed row a b (ListsV4 on x) (IsReplaced host port on2 s stands some p) = absurd (not_both row.netid on on2)
  one_listed row a b (ListsV4 on x) (IsNotReplaced own host port on2 s stands which same) = absurd (not_both row.netid on on2)
  one_listed row a b (ListsV4 on x) (IsNoAddress none same) = absurd (spells_some_v4 row x.own x.port on x.was_set none)
  one_listed row a b (IsReplaced host port on s stands some p) (ListsV4 on2 y) = absurd (not_both row.netid on2 on)
  one_listed row a b (IsReplaced host port on s stands some p) (IsReplaced host2 port2 on2 s2 stands2 some2 p2) =
      let same = one_host_in6 host host2 stands stands2 in
      let at = one_port6 row.addr any_host6 any_host6 port port2 s s2 in
      one_print host2 port2 a b (subst (λ (q : ℕ). PrintsV6 host2 q a) at (subst (λ (h : List ℕ). PrintsV6 h port a) same p)) p2
  one_listed row a b (IsReplaced host port on s stands some p) (IsNotReplaced own host2 port2 on2 s2 stands2 which same) =
      absurd (elim which [
        | inl other ↦ other (one_host6 row.addr own any_host6 port2 port s2 s)
        | inr every ↦ some (one_host_in6 host host2 stands stands2 ∙ every)
      ])
  one_listed row a b (IsReplaced host port on s stands some p) (IsNoAddress none same) = absurd (spells_some_v6 row any_host6 port on s none)
  one_listed row a b (IsNotReplaced own host port on s stands which same) (ListsV4 on2 y) = absurd (not_both row.netid on2 on)
  one_listed row a b (IsNotReplaced own host port on s stands which same) (IsReplaced host2 port2 on2 s2 stands2 some p) =
      absurd (elim which [
        | inl other ↦ other (one_host6 row.addr own any_host6 port port2 s s2)
        | inr every ↦ some (one_host_in6 host2 host stands2 stands ∙ every)
      ])
  one_listed row a b (IsNotReplaced own host port on s stands which same) (IsNotReplaced own2 host2 port2 on2 s2 stands2 which2 same2) = same ∙ sym same2
  one_listed row a b (IsNotReplaced own host port on s stands which same) (IsNoAddress none same2) = same ∙ sym same2
  one_listed row a b (IsNoAddress none same) (ListsV4 on y) = absurd (spells_some_v4 row y.own y.port on y.was_set none)
  one_listed row a b (IsNoAddress none same) (IsReplaced host port on s stands some p) = absurd (spells_some_v6 row any_host6 port on s none)
  one_listed row a b (IsNoAddress none same) (IsNotReplaced own host port on s stands which same2) = same ∙ sym same2
  one_listed row a b (IsNoAddress none same) (IsNoAddress none2 same2) = same ∙ sym same2

-- ---- one port that is told

pub one_port_told : (found : Option Row) (a b : ℕ) → TellsPort found a → TellsPort found b → a ≡ b
one_port_told None a b x y = x ∙ sym y
one_port_told (Some row) a b x y = at_row a b x y
  where
    at_row : (a b : ℕ) → HasPort row a → HasPort row b → a ≡ b
    at_row a b (Spelled host x) (Spelled host2 y) = one_port row.addr host host2 a b x y
    at_row a b (Spelled host x) (Without none zero) = absurd (none host a x)
    at_row a b (Without none zero) (Spelled host y) = absurd (none host b y)
    at_row a b (Without none zero) (Without none2 zero2) = zero ∙ sym zero2

-- ---- one owner's name

pub one_name : (owner : Owner) (a b : List ℕ) → NamesOwner owner a → NamesOwner owner b → a ≡ b
one_name Unknown a b x y = x ∙ sym y
one_name (Uid uid) a b (inl (root, x)) (inl (root2, y)) = x ∙ sym y
one_name (Uid uid) a b (inl (root, x)) (inr (other, y)) = absurd (other root)
one_name (Uid uid) a b (inr (other, x)) (inl (root, y)) = absurd (other root)
one_name (Uid uid) a b (inr (other, x)) (inr (other2, y)) = x ∙ sym y

-- ---- one number of seconds

pub one_second : (milliseconds a b : ℕ) → AreSeconds milliseconds a → AreSeconds milliseconds b → a ≡ b
one_second milliseconds a b (Whole few from to) (Whole few2 from2 to2) = omega (arith, from, to, from2, to2)
one_second milliseconds a b (Whole few from to) (TheMost after most) = absurd (omega (arith, few, to, after))
one_second milliseconds a b (TheMost after most) (Whole few from to) = absurd (omega (arith, few, to, after))
one_second milliseconds a b (TheMost after most) (TheMost after2 most2) = most ∙ sym most2

-- ---- one form

one_written : (family port : ℕ) (rest a b : List ℕ) → IsWritten family port rest a → IsWritten family port rest b → a ≡ b
one_written family port rest a b x y =
    let high : x.p1 ≡ y.p1 = omega (arith, x.port_is, y.port_is, x.p1_fits, x.p2_fits, y.p1_fits, y.p2_fits) in
    let low : x.p2 ≡ y.p2 = omega (arith, x.port_is, y.port_is, x.p1_fits, x.p2_fits, y.p1_fits, y.p2_fits) in
    x.form_is ∙ parts x.p1 y.p1 x.p2 y.p2 high low ∙ sym y.form_is
  where
    parts : (p q m n : ℕ) → p ≡ q → m ≡ n → family ∷ 0 ∷ p ∷ m ∷ rest ≡ family ∷ 0 ∷ q ∷ n ∷ rest
    parts p q m n e f = rw (e, f) refl

one_written_of : (u : Uaddr) (a b : List ℕ) → IsWrittenOf u a → IsWrittenOf u b → a ≡ b
one_written_of (V4 host port) a b x y = one_written 2 port _ a b x y
one_written_of (V6 host port) a b x y = one_written 10 port _ a b x y

pub one_form : (text a b : List ℕ) → TurnsText text a → TurnsText text b → a ≡ b
one_form text a b (AsSpelled u s x) (AsSpelled v t y) =
    let same : u ≡ v = same_Some u v (sym ((read_is_spelled text u).1 s) ∙ (read_is_spelled text v).1 t) in
    one_written_of v a b (subst (λ (w : Uaddr). IsWrittenOf w a) same x) y
one_form text a b (AsSpelled u s x) (AsNone none same) = absurd (none u s)
one_form text a b (AsNone none same) (AsSpelled v t y) = absurd (none v t)
one_form text a b (AsNone none same) (AsNone none2 same2) = same ∙ sym same2

one_prints : (u : Uaddr) (a b : List ℕ) → Prints u a → Prints u b → a ≡ b
one_prints (V4 host port) a b x y = one_text host port a b x y
one_prints (V6 host port) a b x y = one_print host port a b x y

pub one_turned : (form a b : List ℕ) → TurnsBytes form a → TurnsBytes form b → a ≡ b
one_turned form a b (AsForm u s x) (AsForm v t y) =
    let same : u ≡ v = same_Some u v (sym ((transport_is_exact form u).1 s) ∙ (transport_is_exact form v).1 t) in
    one_prints v a b (subst (λ (w : Uaddr). Prints w a) same x) y
one_turned form a b (AsForm u s x) (AsNoForm none same) = absurd (none u s)
one_turned form a b (AsNoForm none same) (AsForm v t y) = absurd (none v t)
one_turned form a b (AsNoForm none same) (AsNoForm none2 same2) = same ∙ sym same2
