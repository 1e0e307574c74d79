-- What is told of a list that is spelled.
use Rattle.std.specs.Prelude.{All}
use Rattle.std.proofs.Common.{◌≡◌, ◌<◌, ◌≤◌, ◌+◌, ℕ, zero, suc, Bool, true, false, List, [], ◌∷◌, ◌++◌, length, map, take, Option, Some, None, refl, sym, ap, ◌∙◌, append_assoc, append-nil, arith}
use Rattle.std.proofs.lemmas.List.{drop_at}
use Rattle.std.proofs.lemmas.List.Elements.{All-head, All-tail}
use Rattle.rb_xdr.specs.Xdr.{Reading, Reader, boolean, linked_list, read_bool}
use Rattle.rb_xdr.specs.XdrTypes.{optional, read_optional}
use Rattle.rb_xdr.specs.XdrLaws.{IsComplete, anything, if_there}
use Rattle.rb_xdr.proofs.Types.{bool_complete, optional_complete}
use Rattle.rb_show.specs.declared.fault.InfoFault.{InfoFault}
use Rattle.rb_show.specs.declared.fault.InfoFault.TheVariants.{TooMany}
use Rattle.rb_show.specs.Telling.{Told, take_one, told_by, add_lines, tell_on, ◌>>=◌}
use Rattle.rb_show.specs.Telling.Told.{Done, Stop}
use Rattle.rb_show.specs.Lists.{tell_items, tell_item, tell_end, greatest_list}
use Rattle.rb_show.specs.WholeLists.{take_items, take_end, next_item}
use Rattle.rb_show.specs.ListLaws.{ListsAreShown, LongerListsStop, ListsAreTaken}

-- after no lines
no_lines : {A : Type 0} (told : Told A) → add_lines [] told ≡ told
no_lines (Done more x left) = refl
no_lines (Stop more fault) = refl

-- a value in front of data is taken, and what stands after it is left
pub takes-value : {A : Type 0} (is_value : A → Type 0) (spelling : A → List ℕ) (reads : Reader A) → IsComplete is_value spelling reads
    → (x : A) (rest : List ℕ) (end : InfoFault) → is_value x → take_one reads end (spelling x ++ rest) ≡ Done [] x rest
unfolding take_one
takes-value {A} is_value spelling reads complete x rest end is =
    ap (λ (r : Reading A). told_by end r (spelling x ++ rest)) (complete x rest is)
    ∙ ap (λ (xs : List ℕ). Done [] x xs) (drop_at (spelling x) rest (length (spelling x)) refl)

takes-flag : (b : Bool) (rest : List ℕ) (end : InfoFault) → take_one read_bool end (boolean b ++ rest) ≡ Done [] b rest
takes-flag b rest end = takes-value anything boolean read_bool bool_complete b rest end tt

module _ {A : Type 0} (is_value : A → Type 0) (spelling : A → List ℕ) (reads : Reader A) (complete : IsComplete is_value spelling reads) where
  -- ---- items

  takes-none : (rest : List ℕ) (end : InfoFault) → take_one (read_optional reads) end (boolean false ++ rest) ≡ Done [] None rest
  unfolding optional
  takes-none rest end = takes-value (if_there is_value) (optional spelling) (read_optional reads) (optional_complete is_value spelling reads complete) None rest end tt

  takes-some : (x : A) (rest : List ℕ) (end : InfoFault) → is_value x → take_one (read_optional reads) end ((boolean true ++ spelling x) ++ rest) ≡ Done [] (Some x) rest
  unfolding optional
  takes-some x rest end is = takes-value (if_there is_value) (optional spelling) (read_optional reads) (optional_complete is_value spelling reads complete) (Some x) rest end is

  list-none : (rest : List ℕ) → linked_list spelling [] ++ rest ≡ boolean false ++ rest
  unfolding linked_list
  list-none rest = refl

  list-more : (x : A) (items : List A) (rest : List ℕ) → linked_list spelling (x ∷ items) ++ rest ≡ (boolean true ++ spelling x) ++ (linked_list spelling items ++ rest)
  unfolding linked_list
  list-more x items rest = simp append_assoc

  -- ---- lines

  module _ (line : A → List ℕ) (end : InfoFault) where
    -- what is told of this many items at most, after those that were shown
    abbrev tells : ℕ → ℕ → List ℕ → Told ℕ
    tells k shown content = tell_items reads line k shown end content

    none-told : (k shown : ℕ) (rest : List ℕ) → tells (suc k) shown (boolean false ++ rest) ≡ Done [] shown rest
    unfolding tell_items ◌>>=◌
    none-told k shown rest = ap (λ (t : Told (Option A)). tell_on t (λ o. tell_item line shown (tell_items reads line k (shown + 1)) o end)) (takes-none rest end)

    one-told : (k shown : ℕ) (x : A) (rest : List ℕ) → is_value x → tells (suc k) shown ((boolean true ++ spelling x) ++ rest) ≡ add_lines (line x ∷ []) (tells k (shown + 1) rest)
    unfolding tell_items ◌>>=◌
    one-told k shown x rest is =
        ap (λ (t : Told (Option A)). tell_on t (λ o. tell_item line shown (tell_items reads line k (shown + 1)) o end)) (takes-some x rest end is)
        ∙ no_lines (add_lines (line x ∷ []) (tells k (shown + 1) rest))

    end-told : (shown : ℕ) (rest : List ℕ) → tells zero shown (boolean false ++ rest) ≡ Done [] shown rest
    unfolding tell_items ◌>>=◌
    end-told shown rest = ap (λ (t : Told Bool). tell_on t (λ more. tell_end shown more end)) (takes-flag false rest end)

    excess-told : (shown : ℕ) (rest : List ℕ) → tells zero shown (boolean true ++ rest) ≡ Stop [] TooMany
    unfolding tell_items ◌>>=◌
    excess-told shown rest = ap (λ (t : Told Bool). tell_on t (λ more. tell_end shown more end)) (takes-flag true rest end)

    all-told : (k : ℕ) (items : List A) (shown : ℕ) (rest : List ℕ) → All is_value items → length items ≤ k → tells k shown (linked_list spelling items ++ rest) ≡ Done (map line items) (shown + length items) rest
    all-told zero [] shown rest are few = ap (tells zero shown) (list-none rest) ∙ end-told shown rest ∙ ap (λ (n : ℕ). Done [] n rest) (omega arith)
    all-told zero (x ∷ items) shown rest are few = absurd (omega (arith, few))
    all-told (suc k) [] shown rest are few = ap (tells (suc k) shown) (list-none rest) ∙ none-told k shown rest ∙ ap (λ (n : ℕ). Done [] n rest) (omega arith)
    all-told (suc k) (x ∷ items) shown rest are few =
        ap (tells (suc k) shown) (list-more x items rest)
        ∙ one-told k shown x (linked_list spelling items ++ rest) (All-head is_value x items are)
        ∙ ap (add_lines (line x ∷ [])) (all-told k items (shown + 1) rest (All-tail is_value x items are) (omega (arith, few)))
        ∙ ap (λ (n : ℕ). Done (line x ∷ map line items) n rest) (omega arith)

    too-many-told : (k : ℕ) (items : List A) (shown : ℕ) (rest : List ℕ) → All is_value items → k < length items → tells k shown (linked_list spelling items ++ rest) ≡ Stop (map line (take k items)) TooMany
    too-many-told k [] shown rest are more = absurd (omega (arith, more))
    too-many-told zero (x ∷ items) shown rest are more =
        ap (tells zero shown) (list-more x items rest ∙ append_assoc (boolean true) (spelling x) (linked_list spelling items ++ rest))
        ∙ excess-told shown (spelling x ++ (linked_list spelling items ++ rest))
    too-many-told (suc k) (x ∷ items) shown rest are more =
        ap (tells (suc k) shown) (list-more x items rest)
        ∙ one-told k shown x (linked_list spelling items ++ rest) (All-head is_value x items are)
        ∙ ap (add_lines (line x ∷ [])) (too-many-told k items (shown + 1) rest (All-tail is_value x items are) (omega (arith, more)))

  -- ---- lists that are taken whole

  module _ (end : InfoFault) where
    -- what is taken of this many items at most, after those that were taken
    abbrev takes : ℕ → List A → List ℕ → Told (List A)
    takes k taken content = take_items reads k taken end content

    none-taken : (k : ℕ) (taken : List A) (rest : List ℕ) → takes (suc k) taken (boolean false ++ rest) ≡ Done [] taken rest
    unfolding take_items ◌>>=◌
    none-taken k taken rest = ap (λ (t : Told (Option A)). tell_on t (λ o. next_item taken (take_items reads k) o end)) (takes-none rest end)

    one-taken : (k : ℕ) (taken : List A) (x : A) (rest : List ℕ) → is_value x → takes (suc k) taken ((boolean true ++ spelling x) ++ rest) ≡ takes k (taken ++ x ∷ []) rest
    unfolding take_items ◌>>=◌
    one-taken k taken x rest is =
        ap (λ (t : Told (Option A)). tell_on t (λ o. next_item taken (take_items reads k) o end)) (takes-some x rest end is) ∙ no_lines (takes k (taken ++ x ∷ []) rest)

    end-taken : (taken : List A) (rest : List ℕ) → takes zero taken (boolean false ++ rest) ≡ Done [] taken rest
    unfolding take_items ◌>>=◌
    end-taken taken rest = ap (λ (t : Told Bool). tell_on t (λ more. take_end taken more end)) (takes-flag false rest end)

    all-taken : (k : ℕ) (items taken : List A) (rest : List ℕ) → All is_value items → length items ≤ k → takes k taken (linked_list spelling items ++ rest) ≡ Done [] (taken ++ items) rest
    all-taken zero [] taken rest are few = ap (takes zero taken) (list-none rest) ∙ end-taken taken rest ∙ ap (λ (xs : List A). Done [] xs rest) (sym (append-nil taken))
    all-taken zero (x ∷ items) taken rest are few = absurd (omega (arith, few))
    all-taken (suc k) [] taken rest are few = ap (takes (suc k) taken) (list-none rest) ∙ none-taken k taken rest ∙ ap (λ (xs : List A). Done [] xs rest) (sym (append-nil taken))
    all-taken (suc k) (x ∷ items) taken rest are few =
        ap (takes (suc k) taken) (list-more x items rest)
        ∙ one-taken k taken x (linked_list spelling items ++ rest) (All-head is_value x items are)
        ∙ all-taken k items (taken ++ x ∷ []) rest (All-tail is_value x items are) (omega (arith, few))
        ∙ ap (λ (xs : List A). Done [] xs rest) (append_assoc taken (x ∷ []) items)

  -- ---- the laws

  pub lists_are_shown : ListsAreShown is_value spelling reads
  lists_are_shown line items rest end are few = all-told line end greatest_list items 0 rest are few ∙ ap (λ (n : ℕ). Done (map line items) n rest) (omega arith)

  pub longer_lists_stop : LongerListsStop is_value spelling reads
  longer_lists_stop line items rest end are more = too-many-told line end greatest_list items 0 rest are more

  pub lists_are_taken : ListsAreTaken is_value spelling reads
  lists_are_taken items rest end are few = all-taken end greatest_list items [] rest are few
