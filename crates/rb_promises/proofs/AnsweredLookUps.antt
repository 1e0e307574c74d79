-- GETADDR, GETVERSADDR and GETPORT tell what is found.
use Rattle.std.proofs.Common.{◌≡◌, ◌↔◌, ℕ, ◌⊎◌, inl, inr, List, [], Option, Some, None, option_map, refl, sym, ap, subst, ◌∙◌}
use Rattle.std.specs.Prelude.{Contains}
use Rattle.std.proofs.lemmas.Option.{none-some, same_Some}
use Rattle.rb_address.specs.declared.netid.Netid.{Netid}
use Rattle.rb_address.specs.declared.netid.Netid.TheVariants.{Tcp, Udp}
use Rattle.rb_address.specs.declared.netid.Transport.{Transport}
use Rattle.rb_address.specs.declared.netid.Transport.TheVariants as transports
use Rattle.rb_address.specs.declared.host.Host.{Host}
use Rattle.rb_address.specs.declared.host.Host.TheVariants.{V4, V6}
use Rattle.rb_address.specs.declared.host.Family.TheVariants.{Inet, Inet6}
use Rattle.rb_address.specs.declared.who.Source.{Source}
use Rattle.rb_address.specs.declared.who.Source.TheVariants as sources
use Rattle.rb_address.specs.Hosts.{family_of}
use Rattle.rb_address.specs.Callers.{netid_from}
use Rattle.rb_address.specs.declared.caller.Caller.{Caller}
use Rattle.rb_address.specs.declared.caller.Caller.TheVariants as callers
use Rattle.rb_address.specs.Netids.{netid_on, netid_of, transport_of_protocol}
use Rattle.rb_rpc.specs.declared.call.CallHead.{CallHead}
use Rattle.rb_registry.specs.declared.row.Row.{Row}
use Rattle.rb_registry.specs.Rows.{find_exact, find_row}
use Rattle.rb_arguments.specs.declared.mapping.Mapping.{Mapping}
use Rattle.rb_arguments.specs.declared.rpcb.Rpcb.{Rpcb}
use Rattle.rb_arguments.specs.declared.procedure.MappingProcedure.TheVariants as mappings
use Rattle.rb_arguments.specs.declared.request.Request.TheVariants as requests
use Rattle.rb_answers.specs.declared.answers.Answer.TheVariants as answers
use Rattle.rb_answers.specs.declared.answers.Results.TheVariants as results
use Rattle.rb_answers.specs.declared.answers.Value.TheVariants as values
use Rattle.rb_answers.specs.declared.answers.Answer.{Answer}
use Rattle.rb_answers.specs.declared.context.Context.{Context}
use Rattle.rb_answers.specs.Callers.{netid_of_caller, hosts_in}
use Rattle.rb_answers.specs.Ledger.{Ledger, rows_in}
use Rattle.rb_answers.specs.Answers.{netid_asked, addr_found, text_found, shown_port, port_found, port_told, port_on, getaddr, getversaddr, getport, answer_to, tell_done}
use Rattle.rb_promises.specs.Addresses.{IsAddressOfV4, IsAddressOn}
use Rattle.rb_promises.specs.LookUps.{IsOver, CameBy, IsFound, IsFoundExactly, TellsPort, LeavesRows, HasHosts, AreAtAddresses, told_text, TellsAddress, GetaddrAnswers, GetversaddrAnswers, TellsPortOn, AnswersGetport, GetportAnswers}
use Rattle.rb_promises.proofs.Found.{row_is_found, row_is_found_exactly, found_live, found_netid, exactly_live, found_none, exactly_none}
use Rattle.rb_promises.proofs.Told.{text_is_told, told_some, port_is_told, port_some}
use Rattle.rb_promises.proofs.AcceptedSets.{by_protocol, on_protocol}

-- the text that is told
abbrev text_in : Answer → List ℕ
text_in (answers.Results (results.Value (values.Text text))) = text
text_in _ = []

module _ (context : Context) (head : CallHead) (r : Rpcb) (l : Ledger) (h : HasHosts context) where
  abbrev told_of : Option Row → Answer × Ledger
  told_of found = tell_done values.Text (text_found context head r found l)

  tells : (Finds : Option Row → Type 0) (found : Option Row) → Finds found → TellsAddress context Finds l (told_of found)
  tells Finds found is = record {
    found = found;
    is_found = is;
    text = addr_found (hosts_in context) found;
    is_told = refl;
    tells = text_is_told context h found;
    leaves = record { own = refl; changes = refl; forwards = refl };
  }

  -- an empty text is told exactly if nothing is found
  empty_exactly : (found : Option Row) → ((row : Row) → found ≡ Some row → Contains (rows_in l) row) → AreAtAddresses (rows_in l)
      → ((told_of found).0 ≡ told_text []) ↔ (found ≡ None)
  empty_exactly None live at = (λ _. refl, λ _. refl)
  empty_exactly (Some row) live at = (
    λ e. absurd (told_some context row _ (at row (live row refl)) (text_is_told context h (Some row)) (ap text_in e)),
    λ e. absurd (none-some row (sym e)),
  )

over_v4_or_v6 : (t : Transport) (host : Host) → ((family_of host ≡ Inet) × (netid_on t (family_of host) ≡ netid_on t Inet)) ⊎ ((family_of host ≡ Inet6) × (netid_on t (family_of host) ≡ netid_on t Inet6))
over_v4_or_v6 t (V4 octets) = inl (refl, refl)
over_v4_or_v6 t (V6 octets) = inr (refl, refl)

is_over : (t : Transport) (source : Source) → IsOver source (netid_on t Inet) (netid_on t Inet6) (netid_from t source)
is_over t (sources.Inet peer) = over_v4_or_v6 t peer.host
is_over t sources.Local = refl

came_by : (caller : Caller) → CameBy caller (netid_of_caller caller)
came_by (callers.Tcp id who) = is_over transports.Tcp who.source
came_by (callers.Udp who longest) = is_over transports.Udp who.source

both_ways : {A B C : Type 0} → A ↔ B → B ↔ C → A ↔ C
both_ways f g = (λ a. g.0 (f.0 a), λ c. f.1 (g.1 c))

pub getaddr_answers : GetaddrAnswers
unfolding getaddr
getaddr_answers context head r arguments l h =
    let found = find_row r.prog r.vers (netid_asked context) (rows_in l) in
    let is = row_is_found r.prog r.vers (netid_asked context) (rows_in l) in
    record {
      netid = netid_asked context;
      came = came_by context.caller;
      tells = tells context head r l h (IsFound r.prog r.vers (netid_asked context) (rows_in l)) found is;
      is_empty = λ at. both_ways
          (empty_exactly context head r l h found (λ row some. found_live r.prog r.vers (netid_asked context) (rows_in l) row found is some) at)
          (found_none r.prog r.vers (netid_asked context) (rows_in l) found is);
    }

pub getversaddr_answers : GetversaddrAnswers
unfolding getversaddr
getversaddr_answers context head r arguments l h =
    let found = find_exact r.prog r.vers (netid_asked context) (rows_in l) in
    let is = row_is_found_exactly r.prog r.vers (netid_asked context) (rows_in l) in
    record {
      netid = netid_asked context;
      came = came_by context.caller;
      tells = tells context head r l h (IsFoundExactly r.prog r.vers (netid_asked context) (rows_in l)) found is;
      is_empty = λ at. both_ways
          (empty_exactly context head r l h found (λ row some. exactly_live r.prog r.vers (netid_asked context) (rows_in l) row found is some) at)
          (exactly_none r.prog r.vers (netid_asked context) (rows_in l) found is);
    }

-- ---- GETPORT

at_ipv4 : (row : Row) → ((row.netid ≡ Tcp) ⊎ (row.netid ≡ Udp)) → IsAddressOn row.netid row.addr → IsAddressOfV4 row.addr
at_ipv4 row (inl on) a = subst (λ (n : Netid). IsAddressOn n row.addr) on a
at_ipv4 row (inr on) a = subst (λ (n : Netid). IsAddressOn n row.addr) on a

over_ipv4 : (t : Transport) → (netid_of t ≡ Tcp) ⊎ (netid_of t ≡ Udp)
over_ipv4 transports.Tcp = inl refl
over_ipv4 transports.Udp = inr refl

module _ (context : Context) (head : CallHead) (m : Mapping) (arguments : List ℕ) (l : Ledger) where
  abbrev ported : Answer × Ledger
  ported = answer_to context head (requests.Mapping mappings.Getport m) arguments l

  module _ (netid : Netid) (on : (netid ≡ Tcp) ⊎ (netid ≡ Udp))
      (done : ported ≡ tell_done values.Number (port_told context head (record { prog = m.prog; vers = m.vers; netid = netid }) (find_row m.prog m.vers netid (rows_in l)) l)) where
    abbrev found : Option Row
    found = find_row m.prog m.vers netid (rows_in l)

    is_found : IsFound m.prog m.vers netid (rows_in l) found
    is_found = row_is_found m.prog m.vers netid (rows_in l)

    over : (row : Row) → IsFound m.prog m.vers netid (rows_in l) (Some row) → (row.netid ≡ Tcp) ⊎ (row.netid ≡ Udp)
    over row is =
        let at = found_netid m.prog m.vers netid (rows_in l) row (Some row) is refl in
        elim on [ inl e ↦ inl (at ∙ e) | inr e ↦ inr (at ∙ e) ]

    port_tells : (o : Option Row) → IsFound m.prog m.vers netid (rows_in l) o → TellsPort o (port_found o)
    port_tells None is = refl
    port_tells (Some row) is = port_is_told row (over row is)

    zero_exactly : (o : Option Row) → IsFound m.prog m.vers netid (rows_in l) o → AreAtAddresses (rows_in l) → (port_found o ≡ 0) ↔ (o ≡ None)
    zero_exactly None is at = (λ _. refl, λ _. refl)
    zero_exactly (Some row) is at = (
      λ e. absurd (port_some row (shown_port row) (at_ipv4 row (over row is) (at row (found_live m.prog m.vers netid (rows_in l) row (Some row) is refl))) (port_is_told row (over row is)) e),
      λ e. absurd (none-some row (sym e)),
    )

    pub tells_port : TellsPortOn m netid l ported
    tells_port = record {
      found = found;
      is_found = is_found;
      port = port_found found;
      is_told = ap (λ (p : Answer × Ledger). p.0) done;
      tells = port_tells found is_found;
      leaves = subst (λ (p : Answer × Ledger). LeavesRows l p.1) (sym done) (record { own = refl; changes = refl; forwards = refl });
      is_zero = λ at. both_ways (zero_exactly found is_found at) (found_none m.prog m.vers netid (rows_in l) found is_found);
    }

  answered : (o : Option Transport) → transport_of_protocol m.prot ≡ o → ported ≡ tell_done values.Number (port_on context head m o l)
  unfolding getport
  answered o is = ap (λ (t : Option Transport). tell_done values.Number (port_on context head m t l)) is

  by_transport : (o : Option Transport) → transport_of_protocol m.prot ≡ o → AnswersGetport context head m arguments l
  by_transport None none = record {
    on = λ netid by. absurd (none-some netid (sym (ap (λ (o : Option Transport). option_map netid_of o) none) ∙ on_protocol m.prot netid by));
    other = λ _. answered None none;
  }
  by_transport (Some t) some = record {
    on = λ netid by.
        let same : netid_of t ≡ netid = same_Some (netid_of t) netid (sym (ap (λ (o : Option Transport). option_map netid_of o) some) ∙ on_protocol m.prot netid by) in
        subst (λ (n : Netid). TellsPortOn m n l ported) same (tells_port (netid_of t) (over_ipv4 t) (answered (Some t) some));
    other = λ none. absurd (none (netid_of t) (by_protocol m.prot t some));
  }

pub getport_answers : GetportAnswers
getport_answers context head m arguments l = by_transport context head m arguments l (transport_of_protocol m.prot) refl
