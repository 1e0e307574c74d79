-- Rows that fit beside the own ones are set one after another.
use Rattle.std.proofs.Common.{◌≡◌, ℕ, ◌+◌, ◌-◌, ◌<◌, ◌≤◌, true, false, List, [], ◌∷◌, ◌++◌, length, map, refl, sym, ap, ◌∙◌, subst, append_assoc, append-nil, length-append, arith}
use Rattle.std.specs.Prelude.{◌^◌, nat_lt}
use Rattle.std.specs.List.{list_any}
use Rattle.std.proofs.lemmas.Bool.{and_parts, or_parts, not-true, lt-ltb}
use Rattle.std.proofs.lemmas.List.Folds.{list_any-append}
use Rattle.rb_registry.specs.declared.row.Row.{Row}
use Rattle.rb_registry.specs.Rows.{Change, covers, left_by, live, are_distinct, has_place, is_of_key, is_change_left}
use Rattle.rb_registry.specs.Rows.Change.{Added}
use Rattle.rb_registry.specs.Laws.{RowsAreSetAgain, are_accepted}
use Rattle.rb_registry.proofs.RowLaws.{is_of_key-sym, set_appends}

-- no SET takes a row away
none_covers : (row : Row) (rows : List Row) → list_any (covers row) (map Added rows) ≡ false
unfolding covers
none_covers row [] = refl
none_covers row (other ∷ rows) = none_covers row rows

pub all_left : (rows : List Row) → left_by (map Added rows) ≡ rows
all_left [] = refl
all_left (row ∷ rows) = rw (none_covers row rows) (ap (λ (more : List Row). row ∷ more) (all_left rows))

-- no row before it has its key
free_before : (before rows : List Row) (row : Row) → are_distinct (before ++ row ∷ rows) ≡ true → list_any (is_of_key row) before ≡ false
free_before [] rows row e = refl
free_before (first ∷ before) rows row e =
    let parts = and_parts _ (are_distinct (before ++ row ∷ rows)) e in
    let apart = or_parts (list_any (is_of_key first) before) _ (sym (list_any-append (is_of_key first) before (row ∷ rows)) ∙ not-true _ parts.0) in
    let other : is_of_key row first ≡ false = is_of_key-sym row first ∙ (or_parts (is_of_key first row) _ apart.1).0 in
    rw (other, free_before before rows row parts.1) refl

place_for : (limit count : ℕ) (before rows : List Row) (row : Row) → are_distinct (before ++ row ∷ rows) ≡ true → length (before ++ row ∷ rows) ≤ limit → count + length (row ∷ rows) < 2 ^ 64 → has_place limit before count row ≡ true
unfolding has_place is_change_left
place_for limit count before rows row distinct few left =
    let room : nat_lt (length before) limit ≡ true = lt-ltb (length before) limit (omega (arith, few, length-append before (row ∷ rows))) in
    let number : nat_lt count (2 ^ 64 - 1) ≡ true = lt-ltb count (2 ^ 64 - 1) (omega (arith, left)) in
    rw (free_before before rows row distinct, room, number) refl

accepted_again : (limit : ℕ) (own : List Row) (before : List Change) (rows : List Row) → are_distinct (live own before ++ rows) ≡ true → length (live own before ++ rows) ≤ limit → length before + length rows < 2 ^ 64
    → are_accepted limit own before (map Added rows) ≡ true
accepted_again limit own before [] distinct few left = refl
accepted_again limit own before (row ∷ rows) distinct few left =
    let same : live own (before ++ Added row ∷ []) ++ rows ≡ live own before ++ row ∷ rows = ap (λ (xs : List Row). xs ++ rows) (set_appends own before row) ∙ append_assoc (live own before) (row ∷ []) rows in
    let here : has_place limit (live own before) (length before) row ≡ true = place_for limit (length before) (live own before) rows row distinct few left in
    rw (here) (accepted_again limit own (before ++ Added row ∷ []) rows (ap are_distinct same ∙ distinct) (subst (λ (xs : List Row). length xs ≤ limit) (sym same) few)
    (omega (arith, left, length-append before (Added row ∷ []))))

pub rows_are_set_again : RowsAreSetAgain
rows_are_set_again limit own rows distinct few small = (
  accepted_again limit own [] rows
      (ap (λ (xs : List Row). are_distinct (xs ++ rows)) (append-nil own) ∙ distinct)
      (subst (λ (xs : List Row). length (xs ++ rows) ≤ limit) (sym (append-nil own)) few)
      (omega (arith, few, small, length-append own rows)),
  all_left rows,
)
