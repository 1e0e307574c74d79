-- The results that a call is answered with are those that the page of answers gives, and no others.
use Rattle.std.proofs.Common.{◌≡◌, ◌↔◌, ℕ, ◌<◌, ◌==◌, Bool, true, false, cond, ◌⊎◌, inl, inr, List, [], ◌∷◌, ◌++◌, length, map, filter, Option, Some, None, option_map, refl, sym, ap, subst, ◌∙◌, All}
use Rattle.std.proofs.lemmas.Option.{none-some}
use Rattle.std.proofs.lemmas.List.Elements.{All-from_get_or}
use Rattle.rb_xdr.specs.Xdr.{AreBytes, boolean, number, opaque, linked_list}
use Rattle.rb_address.specs.declared.netid.Netid.{Netid}
use Rattle.rb_address.specs.declared.netid.Netid.TheVariants.{Tcp, Udp, Tcp6, Udp6, Local}
use Rattle.rb_address.specs.declared.netid.Transport.{Transport}
use Rattle.rb_address.specs.Netids.{netid_of, netid_text, transport_of_protocol}
use Rattle.rb_rpc.specs.declared.call.CallHead.{CallHead}
use Rattle.rb_registry.specs.declared.row.Row.{Row}
use Rattle.rb_arguments.specs.declared.entry.Entry.{Entry}
use Rattle.rb_arguments.specs.declared.mapping.Mapping.{Mapping}
use Rattle.rb_arguments.specs.declared.netbuf.Netbuf.{Netbuf}
use Rattle.rb_arguments.specs.declared.rpcb.Rpcb.{Rpcb}
use Rattle.rb_arguments.specs.declared.procedure.MappingProcedure.TheVariants as mappings
use Rattle.rb_arguments.specs.declared.procedure.RpcbProcedure.TheVariants as rpcbs
use Rattle.rb_arguments.specs.declared.procedure.VoidProcedure.TheVariants as voids
use Rattle.rb_arguments.specs.declared.request.Request.{Request}
use Rattle.rb_arguments.specs.declared.request.Request.TheVariants as requests
use Rattle.rb_arguments.specs.Types.{netbuf_spelling}
use Rattle.rb_answers.specs.declared.answers.Answer.{Answer}
use Rattle.rb_answers.specs.declared.answers.Answer.TheVariants as answers
use Rattle.rb_answers.specs.declared.context.Context.{Context}
use Rattle.rb_registry.specs.Items.{owner_text}
use Rattle.rb_answers.specs.Callers.{hosts_in}
use Rattle.rb_answers.specs.Ledger.{Ledger, rows_in}
use Rattle.rb_registry.specs.Items.{prot_on}
use Rattle.rb_answers.specs.Netids.{semantics_of, family_text, proto_text}
use Rattle.rb_answers.specs.Answers.{shown_text, shown_port, answer_to}
use Rattle.rb_registry.specs.Rows.{is_of_version}
use Rattle.rb_answers.specs.Results.{is_inet, mapping_of, rpcb_of, entry_of, shown_of, result_bytes}
use Rattle.rb_promises.specs.Addresses.{IsOverIpv4}
use Rattle.rb_promises.specs.Sets.{IsByProtocol, told, AnswersSet}
use Rattle.rb_promises.specs.Unsets.{AnswersUnset}
use Rattle.rb_promises.specs.LookUps.{IsFound, IsFoundExactly, CameBy, TellsText, TellsPort, HasHosts, told_number, TellsAddress, AnswersGetport}
use Rattle.rb_promises.specs.ListedRows.{AreItems, IsMappingOf, IsRpcbOf, IsAny, IsDescribed, IsEntryOf, IsOfVersion, ListsItems}
use Rattle.rb_promises.specs.ListedRows.AreItems.{NoMore, Listed, Passed}
use Rattle.rb_promises.specs.TurnedAddresses.{TellsNetbuf, TellsForm, TellsTime}
use Rattle.rb_promises.specs.ReachedRows.{HaveKeysOfTheirOwn}
use Rattle.rb_promises.specs.Answers.{IsWhether, IsPortFound, GivesPort, GivesAddress, GivesList, GivesTime, GivesForm, GivesText, Gives}
use Rattle.rb_promises.specs.Answers.IsWhether.{Yes, No}
use Rattle.rb_promises.specs.Answers.GivesPort.{ByProtocol, ByNone}
use Rattle.rb_promises.proofs.OneAnswer.{one_protocol, one_netid, one_found, one_found_exactly, one_text_told, one_listed, one_port_told, one_name, one_second, one_form, one_turned}
use Rattle.rb_promises.proofs.Told.{port_is_told}
use Rattle.rb_promises.proofs.ShownRows.{inet_exactly, protocol_on, owner_named, version_exactly, described, is_entry, pmap_dump_lists, dump_lists, getaddrlist_lists}
use Rattle.rb_promises.proofs.AcceptedSets.{by_protocol, on_protocol, sets_are_accepted_exactly}
use Rattle.rb_promises.proofs.AcceptedUnsets.{unsets_are_accepted_exactly}
use Rattle.rb_promises.proofs.AnsweredLookUps.{getaddr_answers, getversaddr_answers, getport_answers}
use Rattle.rb_promises.proofs.OtherForms.{texts_are_turned, forms_are_turned, times_are_told}

-- the bytes of an answer's results, as they show what is remembered then; none of an answer without
abbrev pub bytes_of : Answer → Ledger → List ℕ
bytes_of (answers.Results given) after = result_bytes (shown_of after) given
bytes_of (answers.Refused status) after = []
bytes_of answers.Forwarded after = []
bytes_of answers.Silent after = []

abbrev pub results_of : Answer × Ledger → List ℕ
results_of answered = bytes_of answered.0 answered.1

-- ---- SET and UNSET

told_both : told true ≡ told false → ⊥
told_both e = absurd cc

module _ (IsSo : Type 0) (answered : Answer × Ledger) (one : (answered.0 ≡ told true) ⊎ (answered.0 ≡ told false))
    (exactly : (answered.0 ≡ told true) ↔ IsSo) (results : List ℕ) where
  whether_bytes : (value : Bool) → answered.0 ≡ told value → results_of answered ≡ boolean value
  unfolding result_bytes
  whether_bytes value e = ap (λ (a : Answer). bytes_of a answered.1) e

  whether_is : IsWhether IsSo results → results ≡ results_of answered
  whether_is (Yes so e) = e ∙ sym (whether_bytes true (exactly.1 so))
  whether_is (No not e) = elim one [
    | inl so ↦ absurd (not (exactly.0 so))
    | inr isnt ↦ e ∙ sym (whether_bytes false isnt)
  ]

  is_whether : results ≡ results_of answered → IsWhether IsSo results
  is_whether e = elim one [
    | inl so ↦ Yes (exactly.0 so) (e ∙ whether_bytes true so)
    | inr isnt ↦ No (λ so. told_both (sym (exactly.1 so) ∙ isnt)) (e ∙ whether_bytes false isnt)
  ]

-- ---- look-ups

module _ (context : Context) (head : CallHead) (m : Mapping) (arguments : List ℕ) (l : Ledger) (keys : HaveKeysOfTheirOwn (rows_in l)) (results : List ℕ) where
  abbrev ported : Answer × Ledger
  ported = answer_to context head (requests.Mapping mappings.Getport m) arguments l

  port_law : AnswersGetport context head m arguments l
  port_law = getport_answers context head m arguments l

  port_bytes : (port : ℕ) → ported.0 ≡ told_number port → results_of ported ≡ number port
  unfolding result_bytes
  port_bytes port e = ap (λ (a : Answer). bytes_of a ported.1) e

  port_is : GivesPort m (rows_in l) results → results ≡ results_of ported
  port_is (ByProtocol f) =
      let t = port_law.on f.netid f.by in
      let same = one_found m.prog m.vers f.netid (rows_in l) keys f.found t.found f.is_found t.is_found in
      let at = one_port_told t.found f.port t.port (subst (λ (o : Option Row). TellsPort o f.port) same f.tells) t.tells in
      f.spelled ∙ ap number at ∙ sym (port_bytes t.port t.is_told)
  port_is (ByNone none e) = e ∙ sym (port_bytes 0 (ap (λ (p : Answer × Ledger). p.0) (port_law.other none)))

  port_by : (o : Option Transport) → transport_of_protocol m.prot ≡ o → results ≡ results_of ported → GivesPort m (rows_in l) results
  port_by None none e =
      let nothing : (netid : Netid) → IsByProtocol m.prot netid → ⊥ =
      λ netid by. none-some netid (sym (ap (λ (o : Option Transport). option_map netid_of o) none) ∙ on_protocol m.prot netid by) in
      ByNone nothing (e ∙ port_bytes 0 (ap (λ (p : Answer × Ledger). p.0) (port_law.other nothing)))
  port_by (Some t) some e =
      let by = by_protocol m.prot t some in
      let found = port_law.on (netid_of t) by in
      ByProtocol (record {
        netid = netid_of t;
        by = by;
        found = found.found;
        is_found = found.is_found;
        port = found.port;
        tells = found.tells;
        spelled = e ∙ port_bytes found.port found.is_told;
      })

module _ (context : Context) (l : Ledger) (Finds : Netid → Option Row → Type 0)
    (one : (netid : Netid) (a b : Option Row) → Finds netid a → Finds netid b → a ≡ b)
    (netid : Netid) (came : CameBy context.caller netid) (answered : Answer × Ledger) (law : TellsAddress context (Finds netid) l answered)
    (results : List ℕ) where
  address_bytes : results_of answered ≡ opaque law.text
  unfolding result_bytes
  address_bytes = ap (λ (a : Answer). bytes_of a answered.1) law.is_told

  address_is : GivesAddress context Finds results → results ≡ results_of answered
  address_is g =
      let at = one_netid context.caller g.netid netid g.came came in
      let same = one netid g.found law.found (subst (λ (n : Netid). Finds n g.found) at g.is_found) law.is_found in
      let text = one_text_told context law.found g.text law.text (subst (λ (o : Option Row). TellsText context o g.text) same g.tells) law.tells in
      g.spelled ∙ ap opaque text ∙ sym address_bytes

  is_address : results ≡ results_of answered → GivesAddress context Finds results
  is_address e = record {
    netid = netid;
    came = came;
    found = law.found;
    is_found = law.is_found;
    text = law.text;
    tells = law.tells;
    spelled = e ∙ address_bytes;
  }

-- ---- lists

module _ {Item : Type 0} (test : Row → Bool) (item_of : Row → Item) (IsListed : Row → Type 0) (IsItemOf : Row → Item → Type 0)
    (exact : (row : Row) → (test row ≡ true) ↔ IsListed row) (one : (row : Row) (item : Item) → IsListed row → IsItemOf row item → item ≡ item_of row) where
  listed : (row : Row) (item : Item) (rows : List Row) (items : List Item) (b : Bool) → b ≡ true → item ≡ item_of row
      → items ≡ map item_of (filter test rows) → item ∷ items ≡ map item_of (cond b (row ∷ filter test rows) (filter test rows))
  listed row item rows items true e same rest = cc
  listed row item rows items false e same rest = absurd cc

  passed : (row : Row) (rows : List Row) (items : List Item) (b : Bool) → (b ≡ true → ⊥)
      → items ≡ map item_of (filter test rows) → items ≡ map item_of (cond b (row ∷ filter test rows) (filter test rows))
  passed row rows items true unlisted rest = absurd (unlisted refl)
  passed row rows items false unlisted rest = rest

  items_are : (rows : List Row) (items : List Item) → AreItems IsListed IsItemOf rows items → items ≡ map item_of (filter test rows)
  items_are _ _ NoMore = refl
  items_are _ _ (Listed row item rows items there is more) =
      listed row item rows items (test row) ((exact row).1 there) (one row item there is) (items_are rows items more)
  items_are _ _ (Passed row rows items unlisted more) =
      passed row rows items (test row) (λ e. unlisted ((exact row).0 e)) (items_are rows items more)

module _ {Item : Type 0} (spelling : Item → List ℕ) (IsListed : Row → Type 0) (IsItemOf : Row → Item → Type 0) (l : Ledger)
    (answered : Answer × Ledger) (law : ListsItems spelling IsListed IsItemOf l answered) (items_of : List Row → List Item)
    (are : (rows : List Row) (items : List Item) → AreItems IsListed IsItemOf rows items → items ≡ items_of rows) (results : List ℕ) where
  list_bytes_are : results_of answered ≡ linked_list spelling law.items
  list_bytes_are = ap results_of law.is_given ∙ law.bytes

  list_is : GivesList spelling IsListed IsItemOf (rows_in l) results → results ≡ results_of answered
  list_is g =
      let same = are (rows_in l) g.items g.are_items ∙ sym (are (rows_in l) law.items law.are_items) in
      g.spelled ∙ ap (linked_list spelling) same ∙ sym list_bytes_are

  is_list : results ≡ results_of answered → GivesList spelling IsListed IsItemOf (rows_in l) results
  is_list e = record { items = law.items; are_items = law.are_items; spelled = e ∙ list_bytes_are }

mapping_parts : (prog vers prot port prog2 vers2 prot2 port2 : ℕ) → prog ≡ prog2 → vers ≡ vers2 → prot ≡ prot2 → port ≡ port2
    → let a : Mapping = record { prog = prog; vers = vers; prot = prot; port = port } in
    let b : Mapping = record { prog = prog2; vers = vers2; prot = prot2; port = port2 } in
    a ≡ b
mapping_parts prog vers prot port prog2 vers2 prot2 port2 a b c d = rw (a, b, c, d) refl

one_prot : (prot : ℕ) (netid : Netid) → IsByProtocol prot netid → prot ≡ prot_on netid
one_prot prot netid (inl (is, on)) = rw (is, on) refl
one_prot prot netid (inr (is, on)) = rw (is, on) refl

one_mapping : (row : Row) (m : Mapping) → IsOverIpv4 row.netid → IsMappingOf row m → m ≡ mapping_of row
one_mapping row m on is =
    mapping_parts m.prog m.vers m.prot m.port row.prog row.vers (prot_on row.netid) (shown_port row)
    is.prog is.vers (one_prot m.prot row.netid is.prot)
    (one_port_told (Some row) m.port (shown_port row) is.port (port_is_told row on))

rpcb_parts : (prog vers : ℕ) (netid addr owner : List ℕ) (prog2 vers2 : ℕ) (netid2 addr2 owner2 : List ℕ) → prog ≡ prog2 → vers ≡ vers2
    → netid ≡ netid2 → addr ≡ addr2 → owner ≡ owner2
    → let a : Rpcb = record { prog = prog; vers = vers; netid = netid; addr = addr; owner = owner } in
    let b : Rpcb = record { prog = prog2; vers = vers2; netid = netid2; addr = addr2; owner = owner2 } in
    a ≡ b
rpcb_parts prog vers netid addr owner prog2 vers2 netid2 addr2 owner2 a b c d e = rw (a, b, c, d, e) refl

one_rpcb : (row : Row) (r : Rpcb) → IsAny row → IsRpcbOf row r → r ≡ rpcb_of row
one_rpcb row r any is =
    rpcb_parts r.prog r.vers r.netid r.addr r.owner row.prog row.vers (netid_text row.netid) row.addr (owner_text row.owner)
    is.prog is.vers is.netid is.addr (one_name row.owner r.owner (owner_text row.owner) is.owner (owner_named row.owner))

one_description : (netid : Netid) (semantics : ℕ) (family proto : List ℕ) → IsDescribed netid semantics family proto
    → (semantics ≡ semantics_of netid) × (family ≡ family_text netid) × (proto ≡ proto_text netid)
one_description Tcp semantics family proto is = is
one_description Udp semantics family proto is = is
one_description Tcp6 semantics family proto is = is
one_description Udp6 semantics family proto is = is
one_description Local semantics family proto is = is

entry_parts : (maddr netid : List ℕ) (semantics : ℕ) (family proto maddr2 netid2 : List ℕ) (semantics2 : ℕ) (family2 proto2 : List ℕ)
    → maddr ≡ maddr2 → netid ≡ netid2 → semantics ≡ semantics2 → family ≡ family2 → proto ≡ proto2
    → let a : Entry = record { maddr = maddr; netid = netid; semantics = semantics; protofmly = family; proto = proto } in
    let b : Entry = record { maddr = maddr2; netid = netid2; semantics = semantics2; protofmly = family2; proto = proto2 } in
    a ≡ b
entry_parts maddr netid semantics family proto maddr2 netid2 semantics2 family2 proto2 a b c d e = rw (a, b, c, d, e) refl

module _ (context : Context) (h : HasHosts context) where
  one_entry : (row : Row) (e : Entry) → IsEntryOf context row e → e ≡ entry_of (hosts_in context) row
  one_entry row e is =
      let (semantics, family, proto) = one_description row.netid e.semantics e.protofmly e.proto is.described in
      entry_parts e.maddr e.netid e.semantics e.protofmly e.proto
      (shown_text (hosts_in context) row) (netid_text row.netid) (semantics_of row.netid) (family_text row.netid) (proto_text row.netid)
      (one_listed context row e.maddr (shown_text (hosts_in context) row) is.maddr (is_entry context h row).maddr)
      is.netid semantics family proto

any_listed : (row : Row) → (true ≡ true) ↔ IsAny row
any_listed row = (λ _. tt, λ _. refl)

-- ---- the rest

time_is : (context : Context) (l : Ledger) (answered : Answer × Ledger) → TellsTime context l answered → (results : List ℕ)
    → GivesTime context.clock results ↔ (results ≡ results_of answered)
unfolding result_bytes
time_is context l answered law results =
    let bytes : results_of answered ≡ number law.number = ap results_of law.is_told in (
      λ g. g.spelled ∙ ap number (one_second context.clock g.seconds law.number g.are law.seconds) ∙ sym bytes,
      λ e. record { seconds = law.number; are = law.seconds; spelled = e ∙ bytes },
    )

netbuf_parts : (maxlen maxlen2 : ℕ) (buf buf2 : List ℕ) → maxlen ≡ maxlen2 → buf ≡ buf2 → number maxlen ++ opaque buf ≡ number maxlen2 ++ opaque buf2
netbuf_parts maxlen maxlen2 buf buf2 a b = rw (a, b) refl

form_is : (text : List ℕ) (l : Ledger) (answered : Answer × Ledger) → TellsNetbuf text l answered → (results : List ℕ)
    → GivesForm text results ↔ (results ≡ results_of answered)
unfolding result_bytes
form_is text l answered law results =
    let bytes : results_of answered ≡ netbuf_spelling law.netbuf = ap results_of law.is_told in (
      λ g.
          let buf = one_form text g.netbuf.buf law.netbuf.buf g.turned law.turned in
          let maxlen = g.maxlen ∙ ap (λ (b : List ℕ). length b) buf ∙ sym law.maxlen in
          g.spelled ∙ netbuf_parts g.netbuf.maxlen law.netbuf.maxlen g.netbuf.buf law.netbuf.buf maxlen buf ∙ sym bytes,
      λ e. record { netbuf = law.netbuf; turned = law.turned; maxlen = law.maxlen; spelled = e ∙ bytes },
    )

text_is : (netbuf : Netbuf) (l : Ledger) (answered : Answer × Ledger) → TellsForm netbuf l answered → (results : List ℕ)
    → GivesText netbuf.buf results ↔ (results ≡ results_of answered)
unfolding result_bytes
text_is netbuf l answered law results =
    let bytes : results_of answered ≡ opaque law.text = ap results_of law.is_told in (
      λ g. g.spelled ∙ ap opaque (one_turned netbuf.buf g.text law.text g.turned law.turned) ∙ sym bytes,
      λ e. record { text = law.text; turned = law.turned; spelled = e ∙ bytes },
    )

-- ---- all of them

-- it has results of its own: it is not forwarded
abbrev pub IsOwn : Request → Type 0
IsOwn (requests.Forward kind remote) = ⊥
IsOwn _ = Unit {0}

-- a netbuf has bytes
abbrev pub HasBytes : Request → Type 0
HasBytes (requests.Taddr2uaddr netbuf) = AreBytes netbuf.buf
HasBytes _ = Unit {0}

all_bytes : (bytes : List ℕ) → AreBytes bytes → All (λ b. b < 256) bytes
all_bytes bytes are = All-from_get_or (λ b. b < 256) bytes 0 (λ i low. are i)

module _ (context : Context) (head : CallHead) (arguments : List ℕ) (l : Ledger) (hosts : HasHosts context) (keys : HaveKeysOfTheirOwn (rows_in l)) (results : List ℕ) where
  pub results_are : (request : Request) → IsOwn request → HasBytes request
      → Gives context head l request results ↔ (results ≡ results_of (answer_to context head request arguments l))
  unfolding result_bytes
  results_are (requests.Void voids.Null) own bytes = (λ e. e, λ e. e)
  results_are (requests.Void voids.PmapDump) own bytes =
      let law = pmap_dump_lists context head arguments l in
      let are = items_are is_inet mapping_of (λ row. IsOverIpv4 row.netid) IsMappingOf inet_exactly one_mapping in
      (list_is _ (λ row. IsOverIpv4 row.netid) IsMappingOf l _ law _ are results, is_list _ (λ row. IsOverIpv4 row.netid) IsMappingOf l _ law _ are results)
  results_are (requests.Void voids.Dump) own bytes =
      let law = dump_lists context head arguments l in
      let are = items_are (λ row. true) rpcb_of IsAny IsRpcbOf any_listed one_rpcb in
      (list_is _ IsAny IsRpcbOf l _ law _ are results, is_list _ IsAny IsRpcbOf l _ law _ are results)
  results_are (requests.Void voids.Gettime) own bytes = time_is context l _ (times_are_told context head arguments l) results
  results_are (requests.Void voids.Getstat) own bytes = (λ e. e, λ e. e)
  results_are (requests.Mapping mappings.Set m) own bytes =
      let law = sets_are_accepted_exactly context head (requests.Mapping mappings.Set m) arguments l tt in
      let given = answer_to context head (requests.Mapping mappings.Set m) arguments l in
      (whether_is _ given law.one_of law.exactly results, is_whether _ given law.one_of law.exactly results)
  results_are (requests.Mapping mappings.Unset m) own bytes =
      let law = unsets_are_accepted_exactly context head (requests.Mapping mappings.Unset m) arguments l tt in
      let given = answer_to context head (requests.Mapping mappings.Unset m) arguments l in
      (whether_is _ given law.one_of law.exactly results, is_whether _ given law.one_of law.exactly results)
  results_are (requests.Mapping mappings.Getport m) own bytes =
      (port_is context head m arguments l keys results, port_by context head m arguments l keys results (transport_of_protocol m.prot) refl)
  results_are (requests.Rpcb rpcbs.Set r) own bytes =
      let law = sets_are_accepted_exactly context head (requests.Rpcb rpcbs.Set r) arguments l tt in
      let given = answer_to context head (requests.Rpcb rpcbs.Set r) arguments l in
      (whether_is _ given law.one_of law.exactly results, is_whether _ given law.one_of law.exactly results)
  results_are (requests.Rpcb rpcbs.Unset r) own bytes =
      let law = unsets_are_accepted_exactly context head (requests.Rpcb rpcbs.Unset r) arguments l tt in
      let given = answer_to context head (requests.Rpcb rpcbs.Unset r) arguments l in
      (whether_is _ given law.one_of law.exactly results, is_whether _ given law.one_of law.exactly results)
  results_are (requests.Rpcb rpcbs.Getaddr r) own bytes =
      let law = getaddr_answers context head r arguments l hosts in
      let one = λ (netid : Netid). one_found r.prog r.vers netid (rows_in l) keys in
      let Finds = λ (netid : Netid). IsFound r.prog r.vers netid (rows_in l) in
      (address_is context l Finds one law.netid law.came _ law.tells results, is_address context l Finds one law.netid law.came _ law.tells results)
  results_are (requests.Rpcb rpcbs.Getversaddr r) own bytes =
      let law = getversaddr_answers context head r arguments l hosts in
      let one = λ (netid : Netid). one_found_exactly r.prog r.vers netid (rows_in l) keys in
      let Finds = λ (netid : Netid). IsFoundExactly r.prog r.vers netid (rows_in l) in
      (address_is context l Finds one law.netid law.came _ law.tells results, is_address context l Finds one law.netid law.came _ law.tells results)
  results_are (requests.Rpcb rpcbs.Getaddrlist r) own bytes =
      let law = getaddrlist_lists context head r arguments l hosts in
      let are = items_are (is_of_version r.prog r.vers) (entry_of (hosts_in context)) (IsOfVersion r.prog r.vers) (IsEntryOf context)
      (version_exactly r.prog r.vers) (λ row e _. one_entry context hosts row e) in
      (list_is _ (IsOfVersion r.prog r.vers) (IsEntryOf context) l _ law _ are results, is_list _ (IsOfVersion r.prog r.vers) (IsEntryOf context) l _ law _ are results)
  results_are (requests.Uaddr2taddr text) own bytes = form_is text l _ (texts_are_turned context head text arguments l) results
  results_are (requests.Taddr2uaddr netbuf) own bytes = text_is netbuf l _ (forms_are_turned context head netbuf arguments l (all_bytes netbuf.buf bytes)) results
  results_are (requests.Forward kind remote) own bytes = absurd own
