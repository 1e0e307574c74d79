-- The row that a search of the table finds.
use Rattle.std.proofs.Common.{◌≡◌, ℕ, Bool, true, false, cond, eqb, List, [], ◌∷◌, Option, Some, None, refl, sym, ap, ◌∙◌, eq-eqb, is_some}
use Rattle.std.specs.Prelude.{find, option_map, ◌&&◌}
use Rattle.std.specs.Map.{values_of}
use Rattle.std.proofs.lemmas.Bool.{eqb-true}
use Rattle.rb_xdr.specs.Pool.{value_at, HasDistinctKeys}
use Rattle.rb_xdr.specs.Search.{key_of}
use Rattle.rb_registry.specs.declared.row.Row.{Row}
use Rattle.rb_address.specs.declared.netid.Netid.{Netid}
use Rattle.rb_registry.specs.declared.slot.Slot.{Slot}
use Rattle.rb_registry.specs.Rows.{find_exact, is_row}
use Rattle.rb_registry.specs.Slots.{is_live_at}
use Rattle.rb_registry.specs.Registry.{table_at, live_at}

-- the row of the program's version on a netid, live after n changes
unfoldable pub is_live_row : ℕ → ℕ → ℕ → Netid → Slot → Bool
is_live_row n prog vers netid slot = is_row prog vers netid slot.row && is_live_at n slot

-- a key that was found has a value
has_value : {T : Type 0} (p : T → Bool) (entries : List (ℕ × T)) (key : ℕ) → Some key ≡ key_of p entries → is_some (value_at entries key) ≡ true
has_value p [] key h = absurd cc
has_value {T} p (e ∷ rest) key h = by_tests (p e.1) refl (eqb e.0 key) refl (has_value p rest key)
  where
    by_tests : (b : Bool) → p e.1 ≡ b → (t : Bool) → eqb e.0 key ≡ t → (Some key ≡ key_of p rest → is_some (value_at rest key) ≡ true) → is_some (value_at (e ∷ rest) key) ≡ true
    by_tests b is true same further = rw same refl
    by_tests true is false other further =
        let found : Some key ≡ Some e.0 = rw is at h in
        let same : e.0 ≡ key = cc found in
        let clash : true ≡ false = sym (eq-eqb e.0 key same) ∙ other in
        absurd cc
    by_tests false is false other further = rw other (further (rw is at h))

module _ (n prog vers : ℕ) (netid : Netid) where
  -- one entry more in front of a table
  live_step : (e : ℕ × Slot) (rest : List (ℕ × Slot))
      → find_exact prog vers netid (live_at n (e ∷ rest)) ≡ cond (is_live_row n prog vers netid e.1) (Some e.1.row) (find_exact prog vers netid (live_at n rest))
  unfolding find_exact is_live_row
  live_step e rest = by_tests (is_live_at n e.1) (is_row prog vers netid e.1.row) refl
    where
      left : List (ℕ × Row)
      left = table_at n rest

      by_tests : (b c : Bool) → is_row prog vers netid e.1.row ≡ c
          → find (is_row prog vers netid) (values_of (cond b ((e.0, e.1.row) ∷ left) left)) ≡ cond (c && b) (Some e.1.row) (find (is_row prog vers netid) (values_of left))
      by_tests true true t = rw t refl
      by_tests true false t = rw t refl
      by_tests false true t = refl
      by_tests false false t = refl

  pub none_found : (entries : List (ℕ × Slot)) → None ≡ key_of (is_live_row n prog vers netid) entries → None ≡ find_exact prog vers netid (live_at n entries)
  unfolding find_exact
  none_found [] h = refl
  none_found (e ∷ rest) h = by_test (is_live_row n prog vers netid e.1) refl (none_found rest)
    where
      by_test : (b : Bool) → is_live_row n prog vers netid e.1 ≡ b
          → (None ≡ key_of (is_live_row n prog vers netid) rest → None ≡ find_exact prog vers netid (live_at n rest)) → None ≡ find_exact prog vers netid (live_at n (e ∷ rest))
      by_test true t further = let clash : None ≡ Some e.0 = rw t at h in absurd cc
      by_test false t further = further (rw t at h) ∙ sym (live_step e rest ∙ rw t refl)

  -- the row under the key that is found is the first that is looked for
  pub row_found : (entries : List (ℕ × Slot)) (key : ℕ) → HasDistinctKeys entries → Some key ≡ key_of (is_live_row n prog vers netid) entries
      → option_map (λ slot. slot.row) (value_at entries key) ≡ find_exact prog vers netid (live_at n entries)
  row_found [] key d h = absurd cc
  row_found (e ∷ rest) key d h = by_test (is_live_row n prog vers netid e.1) refl (row_found rest key d.1)
    where
      apart : (t : Bool) → eqb e.0 key ≡ t → is_some (value_at rest key) ≡ true → t ≡ false
      apart false is some = refl
      apart true is some =
          let same : e.0 ≡ key = eqb-true e.0 key is in
          let none : value_at rest key ≡ None = rw same at d.0 in
          let clash : false ≡ true = ap (λ (o : Option Slot). is_some o) (sym none) ∙ some in
          absurd cc

      by_test : (b : Bool) → is_live_row n prog vers netid e.1 ≡ b
          → (Some key ≡ key_of (is_live_row n prog vers netid) rest → option_map (λ slot. slot.row) (value_at rest key) ≡ find_exact prog vers netid (live_at n rest))
          → option_map (λ slot. slot.row) (value_at (e ∷ rest) key) ≡ find_exact prog vers netid (live_at n (e ∷ rest))
      by_test true t further =
          let found : Some key ≡ Some e.0 = rw t at h in
          let same : e.0 ≡ key = cc found in
          let here : eqb e.0 key ≡ true = eq-eqb e.0 key same in
          rw here (sym (live_step e rest ∙ rw t refl))
      by_test false t further =
          let found = rw t at h in
          let other : eqb e.0 key ≡ false = apart (eqb e.0 key) refl (has_value (is_live_row n prog vers netid) rest key found) in
          rw other (further found ∙ sym (live_step e rest ∙ rw t refl))
