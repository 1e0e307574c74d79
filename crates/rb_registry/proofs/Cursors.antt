-- A cursor and the rows that it has passed.
use Rattle.std.proofs.Common.{◌≡◌, ℕ, ◌+◌, ◌<◌, ◌≤◌, Bool, true, false, cond, eqb, List, [], ◌∷◌, ◌++◌, length, Option, Some, None, refl, sym, ap, ◌∙◌, subst, arith, append-nil}
use Rattle.std.specs.Prelude.{option_map, slice_get, IsSome, IfSome, unwrap_or}
use Rattle.std.specs.Map.{values_of}
use Rattle.std.proofs.lemmas.Option.{slice_get_within}
use Rattle.std.proofs.lemmas.Map.Entries.{length-values_of}
use Rattle.rb_xdr.specs.Pool.{value_at, first_key, HasDistinctKeys}
use Rattle.rb_registry.specs.declared.row.Row.{Row}
use Rattle.rb_xdr.specs.Places.{behind, count_to, to_come, count_passed}
use Rattle.rb_registry.specs.Registry.{Registry, table_of, rows_at, rows_passed, table_at}
use Rattle.rb_registry.specs.Cursors.{StandsIn}
use Rattle.rb_xdr.proofs.Walks.{step, up_to, passed}
use Rattle.rb_registry.proofs.Removing.{passed-to_come}
use Rattle.rb_registry.proofs.Tables.{distinct_at, to_come_at, holds_at}

module _ {T : Type 0} where
  length-up_to : (entries : List (ℕ × T)) (key n : ℕ) → count_to entries key ≡ Some n → length (up_to entries key) ≡ n
  length-up_to [] key n h = absurd cc
  length-up_to (e ∷ rest) key n h = by_test (eqb e.0 key) h (length-up_to rest key)
    where
      counted : (o : Option ℕ) → option_map (λ m. m + 1) o ≡ Some n → ((m : ℕ) → o ≡ Some m → length (up_to rest key) ≡ m) → length (e ∷ up_to rest key) ≡ n
      counted None h further = absurd cc
      counted (Some m) h further = let e : m + 1 ≡ n = cc in let f : length (up_to rest key) ≡ m = further m refl in omega (arith, e, f)

      by_test : (b : Bool) → cond b (Some 1) (option_map (λ m. m + 1) (count_to rest key)) ≡ Some n → ((m : ℕ) → count_to rest key ≡ Some m → length (up_to rest key) ≡ m)
          → length (cond b (e ∷ []) (e ∷ up_to rest key)) ≡ n
      by_test true h further = let e : 1 ≡ n = cc in e
      by_test false h further = counted (count_to rest key) h further

  pub length-passed : (entries : List (ℕ × T)) (place : Option ℕ) (n : ℕ) → count_passed entries place ≡ Some n → length (passed entries place) ≡ n
  length-passed entries None n h = let e : 0 ≡ n = cc in e
  length-passed entries (Some key) n h = length-up_to entries key n h

  at_length : (front : List (ℕ × T)) (key : ℕ) (value : T) (rest : List (ℕ × T)) → slice_get (values_of (front ++ (key, value) ∷ rest)) (length front) ≡ Some value
  at_length [] key value rest = refl
  at_length (e ∷ front) key value rest = at_length front key value rest

  pub all_counted : (entries : List (ℕ × T)) (place : Option ℕ) (n : ℕ) → count_passed entries place ≡ Some n → to_come entries place ≡ [] → n ≡ length (values_of entries)
  all_counted entries place n h last =
      let split : passed entries place ++ to_come entries place ≡ entries = passed-to_come entries place in
      let whole : passed entries place ++ [] ≡ entries = rw last at split in
      let all : passed entries place ≡ entries = sym (append-nil (passed entries place)) ∙ whole in
      sym (length-passed entries place n h) ∙ ap (λ (es : List (ℕ × T)). length es) all ∙ sym (length-values_of entries)

  module _ (entries : List (ℕ × T)) (place : Option ℕ) (n key : ℕ) (value : T) (d : HasDistinctKeys entries) (h : count_passed entries place ≡ Some n) (next : to_come entries place ≡ (key, value) ∷ behind entries key) where
    pub row_counted : slice_get (values_of entries) n ≡ Some value
    row_counted =
        let split : passed entries place ++ to_come entries place ≡ entries = passed-to_come entries place in
        let whole : passed entries place ++ (key, value) ∷ behind entries key ≡ entries = rw next at split in
        let here = at_length (passed entries place) key value (behind entries key) in
        let there : slice_get (values_of entries) (length (passed entries place)) ≡ Some value = rw whole at here in
        rw (← length-passed entries place n h) there

    pub one_more : count_to entries key ≡ Some (n + 1)
    one_more =
        let s = step entries place key d (ap (λ (es : List (ℕ × T)). first_key es) next) in
        s.count ∙ ap (λ (o : Option ℕ). option_map (λ m. m + 1) o) h

-- ---- the rows that a cursor passes

pub counted : (o : Option ℕ) → IsSome o → o ≡ Some (unwrap_or o 0)
counted None h = absurd cc
counted (Some n) h = refl

-- `inside` are the fields of the registry, and `place` the cursor's
module _ (kept inside : Registry) (stamp : ℕ) (cursor place : Option ℕ) (same : inside ≡ kept) (at : place ≡ cursor) (distinct : HasDistinctKeys inside.entries) (h : StandsIn kept stamp cursor) where
  d : HasDistinctKeys kept.entries
  d = subst (λ (r : Registry). HasDistinctKeys r.entries) same distinct

  here : count_passed (table_of kept stamp) cursor ≡ Some (rows_passed kept stamp cursor)
  here = counted (count_passed (table_of kept stamp) cursor) h.place

  -- what is after the cursor now and was live then, is what was after it then
  come : table_at stamp (to_come inside.entries place) ≡ to_come (table_of kept stamp) cursor
  come =
      let there : table_at stamp (to_come kept.entries cursor) ≡ to_come (table_of kept stamp) cursor = to_come_at stamp cursor kept.entries d h.place in
      rw (same, at) there

  pub stands_at_row : IfSome place (λ key. IsSome (value_at inside.entries key))
  stands_at_row = rw (same, at) (holds_at stamp cursor kept.entries h.place)

  pub no_row_left : table_at stamp (to_come inside.entries place) ≡ [] → rows_passed kept stamp cursor ≡ length (rows_at kept stamp)
  no_row_left last = all_counted (table_of kept stamp) cursor (rows_passed kept stamp cursor) here (sym come ∙ last)

  module _ (key : ℕ) (row : Row) (found : table_at stamp (to_come inside.entries place) ≡ (key, row) ∷ table_at stamp (behind inside.entries key)) (behind_it : Option ℕ) (is_key : behind_it ≡ Some key) where
    abbrev first_value : Row → List (ℕ × Row) → Row
    first_value other [] = other
    first_value other (e ∷ es) = e.1

    next : to_come (table_of kept stamp) cursor ≡ (key, row) ∷ behind (table_of kept stamp) key
    next =
        let come_now : to_come (table_of kept stamp) cursor ≡ (key, row) ∷ table_at stamp (behind inside.entries key) = sym come ∙ found in
        let s = step (table_of kept stamp) cursor key (distinct_at stamp kept.entries d) (ap (λ (es : List (ℕ × Row)). first_key es) come_now) in
        let same_row : s.value ≡ row = ap (λ (es : List (ℕ × Row)). first_value row es) (sym s.come ∙ come_now) in
        rw (← same_row) s.come

    pub row_given : slice_get (rows_at kept stamp) (rows_passed kept stamp cursor) ≡ Some row
    row_given = row_counted (table_of kept stamp) cursor (rows_passed kept stamp cursor) key row (distinct_at stamp kept.entries d) here next

    passed_next : count_to (table_of kept stamp) key ≡ Some (rows_passed kept stamp cursor + 1)
    passed_next = one_more (table_of kept stamp) cursor (rows_passed kept stamp cursor) key row (distinct_at stamp kept.entries d) here next

    pub one_passed : rows_passed kept stamp behind_it ≡ rows_passed kept stamp cursor + 1
    one_passed = rw (is_key, passed_next) refl

    pub stands_next : StandsIn kept stamp behind_it
    stands_next = record { reached = h.reached; place = rw (is_key, passed_next) refl }

    pub within_rows : rows_passed kept stamp behind_it ≤ length (rows_at kept stamp)
    within_rows =
        let before : rows_passed kept stamp cursor < length (rows_at kept stamp) = slice_get_within (rows_at kept stamp) (rows_passed kept stamp cursor) row row_given in
        omega (arith, before, one_passed)
