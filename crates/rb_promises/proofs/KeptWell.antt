-- The rows of a state that a run reaches.
use Rattle.std.proofs.Common.{◌≡◌, ℕ, ◌==◌, true, not, inl, inr, List, [], ◌∷◌, ◌++◌, All, Option, Some, None, refl, sym, subst, ◌∙◌, arith}
use Rattle.std.specs.Prelude.{Contains}
use Rattle.std.specs.List.{list_any, list_all}
use Rattle.std.proofs.lemmas.Bool.{and_parts, not-true, eqb-true}
use Rattle.std.proofs.lemmas.List.Elements.{All-nil, All-from_recursion, All-append, All-contains, Contains-append_cases}
use Rattle.rb_uaddr.specs.declared.address.Uaddr.TheVariants.{V4, V6}
use Rattle.rb_uaddr.specs.Uaddr.{any_host, any_host6, text_of}
use Rattle.rb_uaddr.proofs.GrammarLaws.{printed_is_spelled}
use Rattle.rb_registry.specs.declared.row.Row.{Row}
use Rattle.rb_registry.specs.Registry.{AreOwn}
use Rattle.rb_registry.specs.Rows.{rpcb_prog, left_by, is_of_key, are_distinct}
use Rattle.rb_registry.proofs.RowLaws.{head_or_tail}
use Rattle.rb_answers.specs.declared.listener.Listener.{Listener}
use Rattle.rb_answers.specs.Callers.{own_inet6, own_inet, own_local, own_rows}
use Rattle.rb_answers.specs.Ledger.{rows_in}
use Rattle.rb_answers.specs.Answers.{can_be_set}
use Rattle.rb_model.specs.State.{State}
use Rattle.rb_model.specs.Step.{IsReached}
use Rattle.rb_laws.proofs.Ledgers.{are-own, ledgers_are_well_kept}
use Rattle.rb_laws.proofs.Restoring.{rows_can_be_set}
use Rattle.rb_lines.specs.Starts.{IsAtAddresses}
use Rattle.rb_promises.specs.Addresses.{IsAddressOfV4, IsAddressOfV6, IsAddressOn}
use Rattle.rb_promises.specs.Sets.{HasSameKey}
use Rattle.rb_promises.specs.Unsets.{AreThePortmappers}
use Rattle.rb_promises.specs.LookUps.{AreAtAddresses}
use Rattle.rb_promises.specs.ReachedRows.{HaveKeysOfTheirOwn, RowsAreWellKept}
use Rattle.rb_promises.proofs.Addresses.{address_exactly}
use Rattle.rb_promises.proofs.Keys.{no_key}
use Rattle.rb_promises.proofs.Told.{every_v4, every_v6}

-- ---- own rows

are_portmappers : (rows : List Row) → AreOwn rows → AreThePortmappers rows
are_portmappers [] own row there = absurd (omega (arith, there.1))
are_portmappers (first ∷ rows) own row there =
    let (here, later) = and_parts (first.prog == rpcb_prog) (list_all (λ (r : Row). r.prog == rpcb_prog) rows) own in
    elim (head_or_tail first rows row there.0 there.1 there.2) [
      | inl same ↦ subst (λ (r : Row). r.prog ≡ 100000) same (eqb-true first.prog 100000 here)
      | inr behind ↦ are_portmappers rows later row behind
    ]

-- ---- keys

turned : (row other : Row) → HasSameKey row other → HasSameKey other row
turned row other h = record { prog = sym h.prog; vers = sym h.vers; netid = sym h.netid }

keys_apart : (rows : List Row) → are_distinct rows ≡ true → HaveKeysOfTheirOwn rows
keys_apart [] distinct row other there here same = absurd (omega (arith, there.1))
keys_apart (first ∷ rows) distinct row other there here same =
    let (alone, later) = and_parts (not (list_any (is_of_key first) rows)) (are_distinct rows) distinct in
    let none = no_key first rows (not-true (list_any (is_of_key first) rows) alone) in
    elim (head_or_tail first rows row there.0 there.1 there.2) [
      | inl is ↦ elim (head_or_tail first rows other here.0 here.1 here.2) [
        | inl is_too ↦ sym is ∙ is_too
        | inr behind ↦ absurd (none other behind (subst (λ (r : Row). HasSameKey r other) (sym is) same))
      ]
      | inr before ↦ elim (head_or_tail first rows other here.0 here.1 here.2) [
        | inl is_too ↦ absurd (none row before (turned row first (subst (HasSameKey row) (sym is_too) same)))
        | inr behind ↦ keys_apart rows later row other before behind same
      ]
    ]

-- ---- addresses

abbrev AtAddress : Row → Type 0
AtAddress row = IsAddressOn row.netid row.addr

module _ (listener : Listener) (h : IsAtAddresses listener) where
  at_any_v4 : IsAddressOfV4 (text_of (V4 any_host listener.port))
  at_any_v4 = record { host = any_host; port = listener.port; spelled = printed_is_spelled (V4 any_host listener.port) (every_v4, h.few); some = h.some }

  at_any_v6 : IsAddressOfV6 (text_of (V6 any_host6 listener.port))
  at_any_v6 = record { host = any_host6; port = listener.port; spelled = printed_is_spelled (V6 any_host6 listener.port) (every_v6, h.few); some = h.some }

  inet6_at : (o : Option (List ℕ)) → All AtAddress (own_inet6 listener.port o)
  inet6_at None = All-nil AtAddress
  inet6_at (Some host) =
      All-from_recursion AtAddress (own_inet6 listener.port (Some host)) (at_any_v6, (at_any_v6, (at_any_v6, (at_any_v6, tt))))

  inet_at : (o : Option (List ℕ)) → All AtAddress (own_inet listener.port o)
  inet_at None = All-nil AtAddress
  inet_at (Some host) =
      All-from_recursion AtAddress (own_inet listener.port (Some host))
      (at_any_v4, (at_any_v4, (at_any_v4, (at_any_v4, (at_any_v4, (at_any_v4, tt))))))

  local_at : (o : Option (List ℕ)) → listener.local ≡ o → All AtAddress (own_local o)
  local_at None is = All-nil AtAddress
  local_at (Some path) is = All-from_recursion AtAddress (own_local (Some path)) (h.local path is, (h.local path is, tt))

  own_at : All AtAddress (own_rows listener)
  unfolding own_rows
  own_at =
      let v6 = listener.announced.inet6 in
      let v4 = listener.announced.inet in
      All-append AtAddress (own_inet6 listener.port v6 ++ own_inet listener.port v4) (own_local listener.local)
      (All-append AtAddress (own_inet6 listener.port v6) (own_inet listener.port v4) (inet6_at v6) (inet_at v4))
      (local_at listener.local refl)

set_at : (row : Row) → can_be_set row ≡ true → AtAddress row
unfolding can_be_set
set_at row e = (address_exactly row.netid row.addr).0 (and_parts _ _ e).1

-- ---- in each state that a run reaches

at_addresses : (s : State) → IsReached s → IsAtAddresses s.setting.listener → AreAtAddresses (rows_in s.ledger)
at_addresses s r h row live =
    let k = ledgers_are_well_kept s r in
    elim (Contains-append_cases s.ledger.own (left_by s.ledger.changes) row live) [
      | inl own ↦ All-contains AtAddress (own_rows s.setting.listener) row (own_at s.setting.listener h)
          (subst (λ (rows : List Row). Contains rows row) k.own own)
      | inr left ↦ set_at row (All-contains (λ (other : Row). can_be_set other ≡ true) (left_by s.ledger.changes) row (rows_can_be_set s r) left)
    ]

pub rows_are_well_kept : RowsAreWellKept
rows_are_well_kept s r =
    let k = ledgers_are_well_kept s r in
    record {
      own = subst AreThePortmappers (sym k.own) (are_portmappers (own_rows s.setting.listener) (are-own s.setting.listener));
      keys = keys_apart (rows_in s.ledger) k.distinct;
      addresses = at_addresses s r;
    }
