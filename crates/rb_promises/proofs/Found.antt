-- Which row is found.
use Rattle.std.proofs.Common.{◌≡◌, ◌↔◌, ℕ, true, false, inl, inr, List, Option, Some, None, refl, sym, subst, ◌∙◌}
use Rattle.std.specs.Prelude.{Contains, find}
use Rattle.std.specs.List.{list_any}
use Rattle.std.proofs.lemmas.Bool.{true≢false}
use Rattle.std.proofs.lemmas.Option.{none-some, same_Some}
use Rattle.rb_address.specs.declared.netid.Netid.{Netid}
use Rattle.rb_registry.specs.declared.row.Row.{Row}
use Rattle.rb_registry.specs.Rows.{is_on, is_row, find_exact, find_row}
use Rattle.rb_registry.specs.Laws as laws
use Rattle.rb_registry.proofs.FoundLaws.{found, not_found, any_passes, version_is_found}
use Rattle.rb_promises.specs.LookUps.{IsOn, NoneIsOn, NoneIsOf, IsFound, IsFoundExactly}
use Rattle.rb_promises.specs.LookUps.IsFound.{ThatVersion, GreatestVersion, NoVersion}
use Rattle.rb_promises.specs.LookUps.IsFoundExactly.{ThatRow, NoRow}
use Rattle.rb_promises.proofs.Keys.{on_is, is_on_of, row_is, is_row_of}

module _ (prog vers : ℕ) (netid : Netid) (rows : List Row) where
  is_there : (row : Row) → Contains rows row → is_on prog netid row ≡ true → IsOn prog netid rows row
  is_there row live on = let (same, at) = on_is prog netid row on in record { live = live; prog_is = same; netid_is = at }

  none_on : list_any (is_on prog netid) rows ≡ false → NoneIsOn prog netid rows
  none_on none row on =
      true≢false (sym (any_passes (is_on prog netid) rows row on.live (is_on_of prog netid row on.prog_is on.netid_is)) ∙ none)

  none_of : list_any (is_row prog vers netid) rows ≡ false → NoneIsOf prog vers netid rows
  none_of none row h =
      let on = is_on_of prog netid row h.on.prog_is h.on.netid_is in
      true≢false (sym (any_passes (is_row prog vers netid) rows row h.on.live (is_row_of prog vers netid row on h.vers_is)) ∙ none)

  as_found : (o : Option Row) → laws.IsFound prog vers netid rows o → IsFound prog vers netid rows o
  as_found None none = NoVersion (none_on none)
  as_found (Some row) (live, on, version) = elim version [
    | inl same ↦ ThatVersion row (record { on = is_there row live on; vers_is = same })
    | inr greatest ↦ GreatestVersion row (none_of greatest.0) (is_there row live on)
        (λ other there. greatest.1 other there.live (is_on_of prog netid other there.prog_is there.netid_is))
  ]

  pub row_is_found : IsFound prog vers netid rows (find_row prog vers netid rows)
  row_is_found = as_found (find_row prog vers netid rows) (version_is_found prog vers netid rows)

  exactly : (o : Option Row) → find (is_row prog vers netid) rows ≡ o → IsFoundExactly prog vers netid rows o
  exactly None none = NoRow (none_of (not_found (is_row prog vers netid) rows none))
  exactly (Some row) some =
      let (live, is) = found (is_row prog vers netid) rows row some in
      let (on, version) = row_is prog vers netid row is in
      ThatRow row (record { on = is_there row live on; vers_is = version })

  pub row_is_found_exactly : IsFoundExactly prog vers netid rows (find_exact prog vers netid rows)
  unfolding find_exact
  row_is_found_exactly = exactly (find (is_row prog vers netid) rows) refl

  -- a row that is found is one of the rows
  pub found_live : (row : Row) (o : Option Row) → IsFound prog vers netid rows o → o ≡ Some row → Contains rows row
  found_live row _ (ThatVersion one h) e = subst (Contains rows) (same_Some one row e) h.on.live
  found_live row _ (GreatestVersion one none on greatest) e = subst (Contains rows) (same_Some one row e) on.live
  found_live row _ (NoVersion none) e = absurd (none-some row e)

  pub exactly_live : (row : Row) (o : Option Row) → IsFoundExactly prog vers netid rows o → o ≡ Some row → Contains rows row
  exactly_live row _ (ThatRow one h) e = subst (Contains rows) (same_Some one row e) h.on.live
  exactly_live row _ (NoRow none) e = absurd (none-some row e)

  -- nothing is found exactly if there is none
  pub found_none : (o : Option Row) → IsFound prog vers netid rows o → (o ≡ None) ↔ NoneIsOn prog netid rows
  found_none _ (ThatVersion one h) = (λ e. absurd (none-some one (sym e)), λ none. absurd (none one h.on))
  found_none _ (GreatestVersion one none on greatest) = (λ e. absurd (none-some one (sym e)), λ nothing. absurd (nothing one on))
  found_none _ (NoVersion none) = (λ _. none, λ _. refl)

  pub exactly_none : (o : Option Row) → IsFoundExactly prog vers netid rows o → (o ≡ None) ↔ NoneIsOf prog vers netid rows
  exactly_none _ (ThatRow one h) = (λ e. absurd (none-some one (sym e)), λ none. absurd (none one h))
  exactly_none _ (NoRow none) = (λ _. none, λ _. refl)

  pub found_netid : (row : Row) (o : Option Row) → IsFound prog vers netid rows o → o ≡ Some row → row.netid ≡ netid
  found_netid row _ (ThatVersion one h) e = subst (λ (r : Row). r.netid ≡ netid) (same_Some one row e) h.on.netid_is
  found_netid row _ (GreatestVersion one none on greatest) e = subst (λ (r : Row). r.netid ≡ netid) (same_Some one row e) on.netid_is
  found_netid row _ (NoVersion none) e = absurd (none-some row e)
