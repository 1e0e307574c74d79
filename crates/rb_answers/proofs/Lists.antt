-- Lists of rows, put row by row.
use Rattle.std.proofs.Common.{◌≡◌, ◌+◌, ℕ, Bool, true, false, cond, List, [], ◌∷◌, ◌++◌, length, take, Some, Option, refl, ap, ◌∙◌, append-nil}
use Rattle.std.specs.Prelude.{◌-◌, filter, map, slice_get}
use Rattle.std.specs.List.{flat_map}
use Rattle.std.proofs.lemmas.Grind.{flat_map-append}
use Rattle.std.proofs.lemmas.List.{take_more}
use Rattle.std.proofs.lemmas.Option.{slice_get_within, get_or_from_slice_get}
use Rattle.rb_xdr.specs.Xdr.{boolean, linked_list}
use Rattle.rb_registry.specs.declared.row.Row.{Row}
use Rattle.rb_registry.specs.Registry.{Registry, rows_at, rows_passed}
use Rattle.rb_registry.specs.Cursors.{StandsIn}
use Rattle.rb_answers.specs.declared.answers.Results.{Results}
use Rattle.rb_answers.specs.declared.answers.Results.TheVariants.{Rows}
use Rattle.rb_answers.specs.declared.answers.Listing.{Listing}
use Rattle.rb_answers.specs.declared.answers.Listing.TheVariants.{Mappings, Rpcbs, Entries}
use Rattle.rb_arguments.specs.Types.{mapping_spelling, rpcb_spelling, entry_spelling}
use Rattle.rb_registry.specs.Rows.{is_of_version}
use Rattle.rb_answers.specs.Results.{is_inet, mapping_of, rpcb_of, entry_of, list_bytes, row_bytes, rows_bytes, Shown, result_bytes}

-- ---- a list is what its rows add

module _ {A : Type 0} (spelling : A → List ℕ) (item : Row → A) where
  abbrev added : Bool → Row → List ℕ
  added b row = cond b (boolean true ++ spelling (item row)) []

  shown_rows : (test : Row → Bool) (rows : List Row)
      → flat_map (λ x. boolean true ++ spelling x) (map item (filter test rows)) ≡ flat_map (λ row. added (test row) row) rows
  shown_rows test [] = refl
  shown_rows test (row ∷ rows) = by_test (test row) (shown_rows test rows)
    where
      by_test : (b : Bool) → flat_map (λ x. boolean true ++ spelling x) (map item (filter test rows)) ≡ flat_map (λ r. added (test r) r) rows
          → flat_map (λ x. boolean true ++ spelling x) (map item (cond b (row ∷ filter test rows) (filter test rows))) ≡ added b row ++ flat_map (λ r. added (test r) r) rows
      by_test true later = ap (λ (xs : List ℕ). (boolean true ++ spelling (item row)) ++ xs) later
      by_test false later = later

  all_rows : (rows : List Row) → flat_map (λ x. boolean true ++ spelling x) (map item rows) ≡ flat_map (λ row. boolean true ++ spelling (item row)) rows
  all_rows [] = refl
  all_rows (row ∷ rows) = ap (λ (xs : List ℕ). (boolean true ++ spelling (item row)) ++ xs) (all_rows rows)

pub list-rows : (rows : List Row) (list : Listing) → list_bytes rows list ≡ rows_bytes rows list
unfolding linked_list row_bytes
list-rows rows Mappings = ap (λ (xs : List ℕ). xs ++ boolean false) (shown_rows mapping_spelling mapping_of is_inet rows)
list-rows rows Rpcbs = ap (λ (xs : List ℕ). xs ++ boolean false) (all_rows rpcb_spelling rpcb_of rows)
list-rows rows (Entries prog vers host) = ap (λ (xs : List ℕ). xs ++ boolean false) (shown_rows entry_spelling (entry_of host) (is_of_version prog vers) rows)

pub rows_result : (shown : Shown) (list : Listing) (results : Results) → results ≡ Rows list → result_bytes shown results ≡ rows_bytes shown.rows list
unfolding result_bytes
rows_result shown list results is = ap (λ (a : Results). result_bytes shown a) is ∙ list-rows shown.rows list

-- ---- one row more

module _ (f : Row → List ℕ) (rows : List Row) (n : ℕ) (row : Row) (here : slice_get rows n ≡ Some row) where
  pub one_more : flat_map f (take (n + 1) rows) ≡ flat_map f (take n rows) ++ f row
  one_more =
      ap (flat_map f) (take_more rows n row (slice_get_within rows n row here) ∙ ap (λ (r : Row). take n rows ++ r ∷ []) (get_or_from_slice_get rows n row row here))
      ∙ flat_map-append f (take n rows) (row ∷ [])
      ∙ ap (λ (xs : List ℕ). flat_map f (take n rows) ++ xs) (append-nil (f row))

-- ---- the walks

-- the number of rows that are yet to be looked at
abbrev pub left : Registry → ℕ → Option ℕ → ℕ
left kept stamp cursor = length (rows_at kept stamp) - rows_passed kept stamp cursor

-- the cursor passes one more row
pub record Passes (kept : Registry) (stamp : ℕ) (cursor : Option ℕ) (row : Row) (next : Option ℕ) : Type 0 where
  pub here : slice_get (rows_at kept stamp) (rows_passed kept stamp cursor) ≡ Some row
  pub place : StandsIn kept stamp next
  pub passed : rows_passed kept stamp next ≡ rows_passed kept stamp cursor + 1

-- what the rows add that the cursor has passed
abbrev pub passed_bytes : (Row → List ℕ) → Registry → ℕ → Option ℕ → List ℕ
passed_bytes f kept stamp cursor = flat_map f (take (rows_passed kept stamp cursor) (rows_at kept stamp))

module _ (f : Row → List ℕ) (kept : Registry) (stamp : ℕ) where
  pub none_passed : (cursor : Option ℕ) → rows_passed kept stamp cursor ≡ 0 → passed_bytes f kept stamp cursor ≡ []
  none_passed cursor none = ap (λ (n : ℕ). flat_map f (take n (rows_at kept stamp))) none

  module _ (cursor : Option ℕ) (row : Row) (next : Option ℕ) (passes : Passes kept stamp cursor row next) where
    pub one_passed : passed_bytes f kept stamp next ≡ passed_bytes f kept stamp cursor ++ f row
    one_passed =
        ap (λ (n : ℕ). flat_map f (take n (rows_at kept stamp))) passes.passed ∙ one_more f (rows_at kept stamp) (rows_passed kept stamp cursor) row passes.here
