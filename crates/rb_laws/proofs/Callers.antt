-- What calls of strangers, and of callers that are known, leave of the rows.
use Rattle.std.specs.Prelude.{nat_le}
use Rattle.std.proofs.Common.{◌≡◌, ℕ, ◌==◌, Bool, true, false, cond, not, ◌||◌, Option, Some, None, List, [], ◌∷◌, ◌++◌, filter, option_map, refl, sym, ap, subst, ◌∙◌, append-nil}
use Rattle.std.proofs.lemmas.Bool.{and_parts, eq-eqb}
use Rattle.std.proofs.lemmas.Option.{same_Some}
use Rattle.std.proofs.lemmas.List.Elements.{filter-append}
use Rattle.rb_address.specs.declared.netid.Netid.{Netid}
use Rattle.rb_address.specs.declared.netid.Transport.{Transport}
use Rattle.rb_address.specs.declared.who.Owner.{Owner}
use Rattle.rb_address.specs.declared.who.Owner.TheVariants.{Unknown, Uid}
use Rattle.rb_address.specs.declared.who.Trust.{Trust}
use Rattle.rb_address.specs.declared.who.Trust.TheVariants.{Local, Stranger}
use Rattle.rb_address.specs.declared.who.Who.{Who}
use Rattle.rb_address.specs.Netids.{netid_of, netid_named, transport_of_protocol}
use Rattle.rb_uaddr.specs.declared.address.Uaddr.TheVariants.{V4}
use Rattle.rb_uaddr.specs.Uaddr.{any_host, text_of}
use Rattle.rb_registry.specs.declared.row.Row.{Row}
use Rattle.rb_registry.specs.declared.row.Which.{Which}
use Rattle.rb_registry.specs.Registry.{AreOwn}
use Rattle.rb_registry.specs.Rows.{Change, may_remove, covers, live}
use Rattle.rb_registry.specs.Rows.Change.{Added, Removed}
use Rattle.rb_registry.proofs.RowLaws.{set_appends, unset_filters}
use Rattle.rb_arguments.specs.declared.mapping.Mapping.{Mapping}
use Rattle.rb_arguments.specs.declared.rpcb.Rpcb.{Rpcb}
use Rattle.rb_arguments.specs.declared.procedure.MappingProcedure.TheVariants as mappings
use Rattle.rb_arguments.specs.declared.procedure.RpcbProcedure.TheVariants as rpcbs
use Rattle.rb_arguments.specs.declared.request.Request.{Request}
use Rattle.rb_arguments.specs.declared.request.Request.TheVariants as requests
use Rattle.rb_answers.specs.declared.listener.Announced.{Announced}
use Rattle.rb_answers.specs.Callers.{who_of, is_trusted, may_register, owner_of, is_superuser}
use Rattle.rb_answers.specs.Netids.{which_of}
use Rattle.rb_answers.specs.Answers.{row_of_mapping, row_of_rpcb}
use Rattle.rb_model.specs.State.{State}
use Rattle.rb_model.specs.Step.{Event, step}
use Rattle.rb_model.specs.ChangeLaws.{change_for, Brought, ChangesAtMostOnce, Accepts}
use Rattle.rb_model.specs.ChangeLaws.ChangesAtMostOnce.{Same, OneMore}
use Rattle.rb_address.specs.Callers.{is_same_owner}
use Rattle.rb_model.specs.CallerLaws.{BringsFrom, StrangersChangeNothing, rows_of_others, LocalOwnersKeepTheirs}
use Rattle.rb_laws.proofs.Changes.{at-most-once}
use Rattle.rb_laws.proofs.Ledgers.{are-own, step-own, ledgers_are_well_kept}

-- what is known of the caller whose change is accepted
trust-is : (s : State) (event : Event) (trust : Trust) (b : BringsFrom s event trust) (change : Change) (a : Accepts s event change) → (who_of a.asked.message.caller).trust ≡ trust
trust-is s event trust b change a =
    let same : a.asked.message ≡ b.message = same_Some a.asked.message b.message (sym a.asked.brings ∙ b.brings) in
    ap (λ (m : Brought). (who_of m.caller).trust) same ∙ b.trusts

-- ---- strangers

pub no-stranger : (announced : Announced) (who : Who) → who.trust ≡ Stranger → may_register announced who ≡ true → ⊥
no-stranger announced who e registers =
    let no : false ≡ true = ap (is_trusted announced who.source) (sym e) ∙ registers in
    absurd cc

pub strangers_change_nothing : StrangersChangeNothing
strangers_change_nothing s event b = by_change (at-most-once s event)
  where
    by_change : ChangesAtMostOnce s event → (step s event).1.ledger.changes ≡ s.ledger.changes
    by_change (Same e) = e
    by_change (OneMore change a) =
        absurd (no-stranger s.setting.listener.announced (who_of a.asked.message.caller) (trust-is s event Stranger b change a) a.registers)

-- ---- known owners

-- the row that it adds is the owner's, or it removes in the name of the owner
abbrev IsOf : Owner → Change → Type 0
IsOf owner (Added row) = row.owner ≡ owner
IsOf owner (Removed prog vers which by) = by ≡ owner

mapping-of : (owner : Owner) (m : Mapping) (change : Change) → option_map Added (row_of_mapping owner m) ≡ Some change → IsOf owner change
unfolding row_of_mapping
mapping-of owner m change e = by_test (nat_le m.port 65535) e
  where
    on : Transport → Row
    on transport = record { prog = m.prog; vers = m.vers; netid = netid_of transport; owner = owner; addr = text_of (V4 any_host m.port) }

    by_transport : (o : Option Transport) → option_map Added (option_map on o) ≡ Some change → IsOf owner change
    by_transport None e = absurd cc
    by_transport (Some transport) e = subst (IsOf owner) (same_Some (Added (on transport)) change e) refl

    by_test : (b : Bool) → option_map Added (cond b (option_map on (transport_of_protocol m.prot)) None) ≡ Some change → IsOf owner change
    by_test true e = by_transport (transport_of_protocol m.prot) e
    by_test false e = absurd cc

rpcb-of : (owner : Owner) (r : Rpcb) (change : Change) → option_map Added (row_of_rpcb owner r) ≡ Some change → IsOf owner change
unfolding row_of_rpcb
rpcb-of owner r change e = by_netid (netid_named r.netid) e
  where
    on : Netid → Row
    on netid = record { prog = r.prog; vers = r.vers; netid = netid; owner = owner; addr = r.addr }

    by_netid : (o : Option Netid) → option_map Added (option_map on o) ≡ Some change → IsOf owner change
    by_netid None e = absurd cc
    by_netid (Some netid) e = subst (IsOf owner) (same_Some (Added (on netid)) change e) refl

removal-of : (owner : Owner) (prog vers : ℕ) (o : Option Which) (change : Change) → option_map (λ which. Removed prog vers which owner) o ≡ Some change → IsOf owner change
removal-of owner prog vers None change e = absurd cc
removal-of owner prog vers (Some which) change e = subst (IsOf owner) (same_Some (Removed prog vers which owner) change e) refl

change-of : (owner : Owner) (request : Request) (change : Change) → change_for owner request ≡ Some change → IsOf owner change
change-of owner (requests.Mapping mappings.Set m) change e = mapping-of owner m change e
change-of owner (requests.Mapping mappings.Unset m) change e = removal-of owner m.prog m.vers (Some _) change e
change-of owner (requests.Mapping mappings.Getport m) change e = absurd cc
change-of owner (requests.Rpcb rpcbs.Set r) change e = rpcb-of owner r change e
change-of owner (requests.Rpcb rpcbs.Unset r) change e = removal-of owner r.prog r.vers (which_of r.netid) change e
change-of owner (requests.Rpcb rpcbs.Getaddr r) change e = absurd cc
change-of owner (requests.Rpcb rpcbs.Getversaddr r) change e = absurd cc
change-of owner (requests.Rpcb rpcbs.Getaddrlist r) change e = absurd cc
change-of owner (requests.Void procedure) change e = absurd cc
change-of owner (requests.Uaddr2taddr text) change e = absurd cc
change-of owner (requests.Taddr2uaddr netbuf) change e = absurd cc
change-of owner (requests.Forward kind remote) change e = absurd cc

same-owner : (owner : Owner) → is_same_owner owner owner ≡ true
same-owner Unknown = refl
same-owner (Uid uid) = eq-eqb uid uid refl

-- an owner other than uid 0 may remove its own rows alone
may-same : (owner own : Owner) → is_superuser owner ≡ false → may_remove owner own ≡ true → is_same_owner owner own ≡ true
unfolding may_remove
may-same Unknown Unknown ordinary may = refl
may-same Unknown (Uid own) ordinary may = absurd cc
may-same (Uid uid) Unknown ordinary may = let no : true ≡ false = sym may ∙ ordinary in absurd cc
may-same (Uid uid) (Uid own) ordinary may = ap (λ (b : Bool). b || uid == own) (sym ordinary) ∙ may

covered-same : (owner : Owner) (prog vers : ℕ) (which : Which) (row : Row) → is_superuser owner ≡ false → covers row (Removed prog vers which owner) ≡ true → is_same_owner owner row.owner ≡ true
unfolding covers
covered-same owner prog vers which row ordinary covered = may-same owner row.owner ordinary (and_parts _ (may_remove owner row.owner) covered).1

-- so a removal leaves the rows of others
others-left : (owner : Owner) (prog vers : ℕ) (which : Which) (rows : List Row) → is_superuser owner ≡ false
    → rows_of_others owner (filter (λ row. not (covers row (Removed prog vers which owner))) rows) ≡ rows_of_others owner rows
others-left owner prog vers which [] ordinary = refl
others-left owner prog vers which (row ∷ rows) ordinary =
    by_test (covers row (Removed prog vers which owner)) refl (others-left owner prog vers which rows ordinary)
  where
    left : List Row
    left = filter (λ row. not (covers row (Removed prog vers which owner))) rows

    by_test : (b : Bool) → covers row (Removed prog vers which owner) ≡ b → rows_of_others owner left ≡ rows_of_others owner rows
        → rows_of_others owner (cond (not b) (row ∷ left) left) ≡ rows_of_others owner (row ∷ rows)
    by_test true e rest = rw (covered-same owner prog vers which row ordinary e) rest
    by_test false e rest = ap (λ (xs : List Row). cond (not (is_same_owner owner row.owner)) (row ∷ xs) xs) rest

others-same : (owner : Owner) (own : List Row) (changes : List Change) (change : Change) → is_superuser owner ≡ false → AreOwn own → IsOf owner change
    → rows_of_others owner (live own (changes ++ change ∷ [])) ≡ rows_of_others owner (live own changes)
others-same owner own changes (Added row) ordinary are is =
    ap (rows_of_others owner) (set_appends own changes row)
    ∙ filter-append (λ (r : Row). not (is_same_owner owner r.owner)) (live own changes) (row ∷ [])
    ∙ rw (is, same-owner owner) (append-nil (rows_of_others owner (live own changes)))
others-same owner own changes (Removed prog vers which by) ordinary are is =
    rw is (ap (rows_of_others owner) (unset_filters own changes prog vers which owner are) ∙ others-left owner prog vers which (live own changes) ordinary)

pub local_owners_keep_theirs : LocalOwnersKeepTheirs
local_owners_keep_theirs s r event owner ordinary b =
    ap (λ (own : List Row). rows_of_others owner (live own (step s event).1.ledger.changes)) (step-own s event) ∙ by_change (at-most-once s event)
  where
    are : AreOwn s.ledger.own
    are = subst AreOwn (sym (ledgers_are_well_kept s r).own) (are-own s.setting.listener)

    by_change : ChangesAtMostOnce s event → rows_of_others owner (live s.ledger.own (step s event).1.ledger.changes) ≡ rows_of_others owner (live s.ledger.own s.ledger.changes)
    by_change (Same e) = ap (λ (changes : List Change). rows_of_others owner (live s.ledger.own changes)) e
    by_change (OneMore change a) =
        let known : owner_of (who_of a.asked.message.caller).trust a.asked.call.head.cred ≡ owner = ap (λ (trust : Trust). owner_of trust a.asked.call.head.cred) (trust-is s event (Local owner) b change a) in
        let asks : change_for owner a.asked.call.request ≡ Some change = ap (λ (o : Owner). change_for o a.asked.call.request) (sym known) ∙ a.asked.asks in
        ap (λ (changes : List Change). rows_of_others owner (live s.ledger.own changes)) a.appends
        ∙ others-same owner s.ledger.own s.ledger.changes change ordinary are (change-of owner a.asked.call.request change asks)
