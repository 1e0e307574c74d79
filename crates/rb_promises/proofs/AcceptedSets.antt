-- SET is answered TRUE exactly if the row that it asks for is accepted.
use Rattle.std.proofs.Common.{◌≡◌, ◌≢◌, ℕ, ◌-◌, ◌/◌, ◌^◌, ◌<◌, ◌≤◌, ◌==◌, nat_le, Bool, true, false, cond, inl, inr, List, length, Option, Some, None, option_map, refl, sym, ap, subst, ◌∙◌, arith}
use Rattle.std.specs.List.{list_any}
use Rattle.std.proofs.lemmas.Bool.{and_parts, not-true, eqb-true, eqb-false, ne_eqb, lt-ltb, ltb-true, le-leb, leb-true, true≢false, false≢true}
use Rattle.std.proofs.lemmas.Option.{none-some, same_Some}
use Rattle.rb_uaddr.specs.Uaddr.{any_host, text_of}
use Rattle.rb_uaddr.specs.declared.address.Uaddr.TheVariants.{V4}
use Rattle.rb_uaddr.specs.Grammar.{SpellsV4}
use Rattle.rb_uaddr.proofs.GrammarLaws.{four_bytes, spelled_reads, printed_is_spelled, one_spelling}
use Rattle.rb_address.specs.declared.netid.Netid.{Netid}
use Rattle.rb_address.specs.declared.netid.Transport.{Transport}
use Rattle.rb_address.specs.declared.netid.Transport.TheVariants as transports
use Rattle.rb_address.specs.declared.who.Owner.{Owner}
use Rattle.rb_address.specs.declared.who.Owner.TheVariants.{Unknown, Uid}
use Rattle.rb_address.specs.declared.who.Trust.{Trust}
use Rattle.rb_address.specs.declared.who.Trust.TheVariants as trusts
use Rattle.rb_address.specs.Netids.{netid_of, netid_named, transport_of_protocol}
use Rattle.rb_address.proofs.NameLaws.{names_are_exact, protocols_are_exact}
use Rattle.rb_rpc.specs.declared.call.CallHead.{CallHead}
use Rattle.rb_registry.specs.declared.row.Row.{Row}
use Rattle.rb_registry.specs.Rows.{is_of_key, is_change_left, has_place}
use Rattle.rb_registry.proofs.RowLaws.{set_appends}
use Rattle.rb_arguments.specs.declared.mapping.Mapping.{Mapping}
use Rattle.rb_arguments.specs.declared.rpcb.Rpcb.{Rpcb}
use Rattle.rb_arguments.specs.declared.procedure.MappingProcedure.TheVariants as mappings
use Rattle.rb_arguments.specs.declared.procedure.RpcbProcedure.TheVariants as rpcbs
use Rattle.rb_arguments.specs.declared.request.Request.{Request}
use Rattle.rb_arguments.specs.declared.request.Request.TheVariants as requests
use Rattle.rb_answers.specs.declared.answers.Answer.{Answer}
use Rattle.rb_answers.specs.declared.context.Context.{Context}
use Rattle.rb_answers.specs.Callers.{who_of, is_superuser, share_by}
use Rattle.rb_answers.specs.Ledger.{Ledger, rows_in, version_of}
use Rattle.rb_answers.specs.Answers.{owner_in, comes_from_here, can_be_set, has_share, accepts_row, row_of_mapping, row_of_rpcb, row_asked, set_row, answer_to, tell_done}
use Rattle.rb_answers.specs.declared.answers.Answer.TheVariants as answers
use Rattle.rb_answers.specs.declared.answers.Results.TheVariants as results
use Rattle.rb_answers.specs.declared.answers.Value.TheVariants as values
use Rattle.rb_promises.specs.LocalCallers.{CallsAs}
use Rattle.rb_promises.proofs.Owned.{owned_is, owned_of}
use Rattle.rb_promises.specs.Sets.{IsByProtocol, IsOfMapping, IsOfRpcb, AsksToSet, LeavesAQuarter, IsAccepted, IsAddedTo, IsSetRequest, told, SetsARow, AnswersSet, SetsAreAcceptedExactly}
use Rattle.rb_promises.proofs.LocalCallers.{local_exactly, owner_exactly}
use Rattle.rb_promises.proofs.Addresses.{address_exactly}
use Rattle.rb_promises.proofs.Keys.{no_key, is_no_key}
use Rattle.rb_promises.proofs.Versions.{version_is}

-- ---- which row is asked for

pub by_protocol : (protocol : ℕ) (t : Transport) → transport_of_protocol protocol ≡ Some t → IsByProtocol protocol (netid_of t)
by_protocol protocol transports.Tcp e = inl ((protocols_are_exact protocol transports.Tcp).0 e, refl)
by_protocol protocol transports.Udp e = inr ((protocols_are_exact protocol transports.Udp).0 e, refl)

pub on_protocol : (protocol : ℕ) (netid : Netid) → IsByProtocol protocol netid → option_map netid_of (transport_of_protocol protocol) ≡ Some netid
on_protocol protocol netid (inl (is, on)) = rw ((protocols_are_exact protocol transports.Tcp).1 is, on) refl
on_protocol protocol netid (inr (is, on)) = rw ((protocols_are_exact protocol transports.Udp).1 is, on) refl

spelled_any : (port : ℕ) → port ≤ 65535 → SpellsV4 any_host port (text_of (V4 any_host port))
spelled_any port few =
    let zero : 0 < 256 = omega arith in
    printed_is_spelled (V4 any_host port) (four_bytes 0 0 0 0 zero zero zero zero, omega (arith, few))

module _ (owner : Owner) (m : Mapping) where
  abbrev mapped_on : Netid → Row
  mapped_on netid = record { prog = m.prog; vers = m.vers; netid = netid; owner = owner; addr = text_of (V4 any_host m.port) }

  mapping_asks : (row : Row) → row_of_mapping owner m ≡ Some row → IsOfMapping owner m row
  unfolding row_of_mapping
  mapping_asks row e = by_port (nat_le m.port 65535) refl e
    where
      by_transport : (o : Option Transport) → transport_of_protocol m.prot ≡ o → nat_le m.port 65535 ≡ true
          → option_map (λ t. mapped_on (netid_of t)) o ≡ Some row → IsOfMapping owner m row
      by_transport None is few e = absurd (none-some row e)
      by_transport (Some t) is few e = subst (IsOfMapping owner m) (same_Some (mapped_on (netid_of t)) row e) (record {
        prog = refl;
        vers = refl;
        netid = by_protocol m.prot t is;
        owner = refl;
        addr = spelled_any m.port (leb-true m.port 65535 few);
      })

      by_port : (b : Bool) → nat_le m.port 65535 ≡ b → cond b (option_map (λ t. mapped_on (netid_of t)) (transport_of_protocol m.prot)) None ≡ Some row
          → IsOfMapping owner m row
      by_port true few e = by_transport (transport_of_protocol m.prot) refl few e
      by_port false many e = absurd (none-some row e)

  mapping_is : (row : Row) → IsOfMapping owner m row → row_of_mapping owner m ≡ Some row
  unfolding row_of_mapping
  mapping_is row h =
      let few : nat_le m.port 65535 ≡ true = le-leb m.port 65535 (omega (arith, h.addr.port_is, h.addr.p1_fits, h.addr.p2_fits)) in
      let text : text_of (V4 any_host m.port) ≡ row.addr = one_spelling row.addr any_host m.port (spelled_reads row.addr (V4 any_host m.port) h.addr) in
      rw few (on_it (transport_of_protocol m.prot) (on_protocol m.prot row.netid h.netid) text)
    where
      on_it : (o : Option Transport) → option_map netid_of o ≡ Some row.netid → text_of (V4 any_host m.port) ≡ row.addr
          → option_map (λ t. mapped_on (netid_of t)) o ≡ Some row
      on_it None e text = absurd (none-some row.netid e)
      on_it (Some t) e text = rw (← h.prog, ← h.vers, ← h.owner, same_Some (netid_of t) row.netid e, text) refl

module _ (owner : Owner) (r : Rpcb) where
  abbrev named_on : Netid → Row
  named_on netid = record { prog = r.prog; vers = r.vers; netid = netid; owner = owner; addr = r.addr }

  rpcb_asks : (row : Row) → row_of_rpcb owner r ≡ Some row → IsOfRpcb owner r row
  unfolding row_of_rpcb
  rpcb_asks row e = by_netid (netid_named r.netid) refl e
    where
      by_netid : (o : Option Netid) → netid_named r.netid ≡ o → option_map named_on o ≡ Some row → IsOfRpcb owner r row
      by_netid None is e = absurd (none-some row e)
      by_netid (Some netid) is e = subst (IsOfRpcb owner r) (same_Some (named_on netid) row e) (record {
        prog = refl;
        vers = refl;
        netid = (names_are_exact r.netid netid).0 is;
        owner = refl;
        addr = refl;
      })

  rpcb_is : (row : Row) → IsOfRpcb owner r row → row_of_rpcb owner r ≡ Some row
  unfolding row_of_rpcb
  rpcb_is row h = rw ((names_are_exact r.netid row.netid).1 h.netid, ← h.prog, ← h.vers, ← h.owner, ← h.addr) refl

module _ (context : Context) (head : CallHead) where
  own_name : CallsAs context head (owner_in context head)
  own_name = (owner_exactly (who_of context.caller).trust head.cred (owner_in context head)).0 refl

  named_so : (owner : Owner) → CallsAs context head owner → owner_in context head ≡ owner
  named_so owner = (owner_exactly (who_of context.caller).trust head.cred owner).1

  pub row_is_asked : (request : Request) (row : Row) → IsSetRequest request → row_asked context head request ≡ Some row → AsksToSet context head request row
  row_is_asked (requests.Mapping mappings.Set m) row set e =
      record { caller = owner_in context head; named = own_name; asked = mapping_asks (owner_in context head) m row e }
  row_is_asked (requests.Rpcb rpcbs.Set r) row set e =
      record { caller = owner_in context head; named = own_name; asked = rpcb_asks (owner_in context head) r row e }
  row_is_asked _ row set e = absurd set

  pub asked_is_row : (request : Request) (row : Row) → IsSetRequest request → AsksToSet context head request row → row_asked context head request ≡ Some row
  asked_is_row (requests.Mapping mappings.Set m) row set a = rw (named_so a.caller a.named) (mapping_is a.caller m row a.asked)
  asked_is_row (requests.Rpcb rpcbs.Set r) row set a = rw (named_so a.caller a.named) (rpcb_is a.caller r row a.asked)
  asked_is_row _ row set a = absurd set

-- ---- which row is accepted

not_superuser : (owner : Owner) → owner ≢ Uid 0 → is_superuser owner ≡ false
not_superuser Unknown other = refl
not_superuser (Uid uid) other = ne_eqb uid 0 (λ e. other (ap (λ (n : ℕ). Uid n) e))

superuser_is : (owner : Owner) → is_superuser owner ≡ true → owner ≡ Uid 0
superuser_is Unknown e = absurd cc
superuser_is (Uid uid) e = ap (λ (n : ℕ). Uid n) (eqb-true uid 0 e)

module _ (context : Context) (rows : List Row) where
  quarter_is_left : has_share context rows ≡ true → LeavesAQuarter context rows
  unfolding has_share
  quarter_is_left share owner known other =
      let share_is : share_by (who_of context.caller).trust context.limit ≡ context.limit - context.limit / 4 = rw (known, not_superuser owner other) refl in
      let few = ltb-true (length rows) (share_by (who_of context.caller).trust context.limit) share in
      omega (arith, few, share_is)

  share_is_left : LeavesAQuarter context rows → length rows < context.limit → has_share context rows ≡ true
  unfolding has_share
  share_is_left leaves fits = lt-ltb _ _ (by_trust (who_of context.caller).trust refl)
    where
      by_test : (owner : Owner) (b : Bool) → (who_of context.caller).trust ≡ trusts.Local owner → is_superuser owner ≡ b
          → length rows < cond b context.limit (context.limit - context.limit / 4)
      by_test owner true known is = fits
      by_test owner false known is =
          let few = leaves owner known (λ e. true≢false (sym (ap is_superuser e) ∙ is)) in
          omega (arith, few)

      by_trust : (trust : Trust) → (who_of context.caller).trust ≡ trust → length rows < share_by trust context.limit
      by_trust trusts.Claims is = fits
      by_trust (trusts.Local owner) is = by_test owner (is_superuser owner) is refl
      by_trust trusts.Stranger is = fits

module _ (context : Context) (l : Ledger) (row : Row) where
  pub accepted_is : accepts_row context l row ≡ true → IsAccepted context l row
  unfolding accepts_row comes_from_here can_be_set has_place is_change_left
  accepted_is e =
      let (three, place) = and_parts _ _ e in
      let (two, share) = and_parts _ _ three in
      let (one, owned) = and_parts _ _ two in
      let (here, can) = and_parts _ _ one in
      let (foreign, address) = and_parts _ _ can in
      let (there, left) = and_parts _ _ place in
      let (none, room) = and_parts _ _ there in
      record {
        local = (local_exactly context.announced (who_of context.caller)).0 here;
        foreign = eqb-false row.prog 100000 (not-true (row.prog == 100000) foreign);
        address = (address_exactly row.netid row.addr).0 address;
        owned = owned_is context.reserved row owned;
        is_new = no_key row (rows_in l) (not-true (list_any (is_of_key row) (rows_in l)) none);
        fits = ltb-true (length (rows_in l)) context.limit room;
        quarter = quarter_is_left context (rows_in l) share;
        numbered = ltb-true (length l.changes) (2 ^ 64 - 1) left;
      }

  pub is_accepted : IsAccepted context l row → accepts_row context l row ≡ true
  unfolding accepts_row comes_from_here can_be_set has_place is_change_left
  is_accepted a =
      let here = (local_exactly context.announced (who_of context.caller)).1 a.local in
      let foreign = ne_eqb row.prog 100000 a.foreign in
      let address = (address_exactly row.netid row.addr).1 a.address in
      let none = is_no_key row (rows_in l) a.is_new in
      let share = share_is_left context (rows_in l) a.quarter a.fits in
      let room = lt-ltb (length (rows_in l)) context.limit a.fits in
      let left = lt-ltb (length l.changes) (2 ^ 64 - 1) a.numbered in
      let owned = owned_of context.reserved row a.owned in
      rw (here, foreign, address, owned, share, none, room, left) refl

-- ---- what it is answered

module _ (context : Context) (head : CallHead) (row : Row) (l : Ledger) where
  set_adds : accepts_row context l row ≡ true → IsAddedTo head row l (set_row context head (Some row) l).1
  unfolding set_row
  set_adds e = rw e (record { live = set_appends l.own l.changes row; own = refl; changes = refl; history = (version_of head.vers, version_is head.vers, refl); forwards = refl })

  set_keeps : accepts_row context l row ≡ false → (set_row context head (Some row) l).1 ≡ l
  unfolding set_row
  set_keeps e = rw e refl

  set_told : (set_row context head (Some row) l).0 ≡ accepts_row context l row
  unfolding set_row
  set_told = refl

-- what is told is the truth value
abbrev pub value_in : Answer → Bool
value_in (answers.Results (results.Value (values.Bool value))) = value
value_in _ = false

module _ (context : Context) (head : CallHead) (request : Request) (arguments : List ℕ) (l : Ledger) (set : IsSetRequest request) where
  abbrev done : Bool × Ledger
  done = set_row context head (row_asked context head request) l

  is_done : answer_to context head request arguments l ≡ tell_done values.Bool done
  is_done = by_request request set
    where
      by_request : (r : Request) → IsSetRequest r → answer_to context head r arguments l ≡ tell_done values.Bool (set_row context head (row_asked context head r) l)
      by_request (requests.Mapping mappings.Set m) s = refl
      by_request (requests.Rpcb rpcbs.Set r) s = refl
      by_request _ s = absurd s

  answered_is : (asked : Option Row) → row_asked context head request ≡ asked
      → answer_to context head request arguments l ≡ tell_done values.Bool (set_row context head asked l)
  answered_is asked is = is_done ∙ ap (λ (o : Option Row). tell_done values.Bool (set_row context head o l)) is

  told_apart : (answer : Answer) → answer ≡ told true → answer ≡ told false → ⊥
  told_apart answer is_true is_false = true≢false (sym (ap value_in is_true) ∙ ap value_in is_false)

  no_row : tell_done values.Bool (set_row context head None l) ≡ (told false, l)
  unfolding set_row
  no_row = refl

  none_is_set : row_asked context head request ≡ None → AnswersSet context head request arguments l
  none_is_set none = record {
    one_of = inr is_false;
    exactly = (λ is_true. absurd (told_apart _ is_true is_false), λ s. absurd (none-some s.row (sym none ∙ asked_is_row context head request s.row set s.asked)));
    adds = λ is_true row asked. absurd (told_apart _ is_true is_false);
    keeps = λ _. stays;
  }
    where
      whole : answer_to context head request arguments l ≡ (told false, l)
      whole = answered_is None none ∙ no_row

      is_false : (answer_to context head request arguments l).0 ≡ told false
      is_false = ap (λ (p : Answer × Ledger). p.0) whole

      stays : (answer_to context head request arguments l).1 ≡ l
      stays = ap (λ (p : Answer × Ledger). p.1) whole

  module _ (row : Row) (some : row_asked context head request ≡ Some row) where
    pub one_row : (other : Row) → AsksToSet context head request other → row ≡ other
    one_row other asked = same_Some row other (sym some ∙ asked_is_row context head request other set asked)

    said : (answer_to context head request arguments l).0 ≡ told (accepts_row context l row)
    said = ap (λ (p : Answer × Ledger). p.0) (answered_is (Some row) some) ∙ ap told (set_told context head row l)

    left : (answer_to context head request arguments l).1 ≡ (set_row context head (Some row) l).1
    left = ap (λ (p : Answer × Ledger). p.1) (answered_is (Some row) some)

    row_is_set : accepts_row context l row ≡ true → AnswersSet context head request arguments l
    row_is_set accepted = record {
      one_of = inl is_true;
      exactly = (
        λ _. record { row = row; asked = row_is_asked context head request row set some; accepted = accepted_is context l row accepted },
        λ _. is_true,
      );
      adds = λ _ other asked. subst (λ (r : Row). IsAddedTo head r l (answer_to context head request arguments l).1) (one_row other asked)
          (rw left (set_adds context head row l accepted));
      keeps = λ is_false. absurd (told_apart _ is_true is_false);
    }
      where
        is_true : (answer_to context head request arguments l).0 ≡ told true
        is_true = said ∙ ap told accepted

    row_is_refused : accepts_row context l row ≡ false → AnswersSet context head request arguments l
    row_is_refused refused = record {
      one_of = inr is_false;
      exactly = (λ is_true. absurd (told_apart _ is_true is_false), λ s. absurd (is_not s));
      adds = λ is_true other asked. absurd (told_apart _ is_true is_false);
      keeps = λ _. left ∙ set_keeps context head row l refused;
    }
      where
        is_false : (answer_to context head request arguments l).0 ≡ told false
        is_false = said ∙ ap told refused

        is_not : SetsARow context head request l → ⊥
        is_not s =
            let accepted = subst (λ (r : Row). IsAccepted context l r) (sym (one_row s.row s.asked)) s.accepted in
            false≢true (sym refused ∙ is_accepted context l row accepted)

  by_row : (o : Option Row) → row_asked context head request ≡ o → AnswersSet context head request arguments l
  by_row None none = none_is_set none
  by_row (Some row) some = by_test (accepts_row context l row) refl
    where
      by_test : (b : Bool) → accepts_row context l row ≡ b → AnswersSet context head request arguments l
      by_test true accepted = row_is_set row some accepted
      by_test false refused = row_is_refused row some refused

  pub answers_set : AnswersSet context head request arguments l
  answers_set = by_row (row_asked context head request) refl

pub sets_are_accepted_exactly : SetsAreAcceptedExactly
sets_are_accepted_exactly context head request arguments l set = answers_set context head request arguments l set
