-- Rows of a summary, one after the other.
use Rattle.std.proofs.Common.{◌≡◌, ◌<◌, ◌+◌, ℕ, List, [], ◌∷◌, ◌++◌, Bool, Option, Some, None, inl, inr, length, take, get_or, refl, sym, ap, ◌∙◌}
use Rattle.std.specs.Prelude.{nat_eq, ◌||◌}
use Rattle.std.specs.List.{find, fold, list_any}
use Rattle.std.specs.Borrow.{Bor}
use Rattle.std.specs.Str.{bytes_eq}
use Rattle.std.specs.String.{string_bytes}
use Rattle.std.proofs.lemmas.Bool.{cases_Bool}
use Rattle.std.proofs.lemmas.List.{map-append, take_more}
use Rattle.std.proofs.lemmas.List.Sums.{fold-append}
use Rattle.rb_show.specs.declared.summary.Row.{Row}
use Rattle.rb_show.specs.Summary.{ShownRow, shown_row, shown_rows, borrowed_texts, owner_of}

-- one more row
pub fold_more : {B : Type 0} (step : B → ShownRow → B) (first : B) (rows : List Row) (i : ℕ) (row : Row) → i < length rows → row ≡ get_or rows i row
    → fold step first (shown_rows (take (i + 1) rows)) ≡ step (fold step first (shown_rows (take i rows))) (shown_row row)
fold_more step first rows i row within is =
    let one : take (i + 1) rows ≡ take i rows ++ row ∷ [] = take_more rows i row within ∙ ap (λ (x : Row). take i rows ++ x ∷ []) (sym is) in
    ap (λ (xs : List Row). fold step first (shown_rows xs)) one ∙ ap (fold step first) (map-append shown_row (take i rows) (row ∷ [])) ∙ fold-append step first (shown_rows (take i rows)) (shown_row row ∷ [])

abbrev owner_at : Option Row → List ℕ
owner_at (Some row) = string_bytes row.owner
owner_at None = []

-- the first row of a program, among the rows in memory
pub owner_found : (rows : List Row) (prog : ℕ) (found : Option Row) → found ≡ find (λ row. nat_eq row.prog prog) rows → owner_at found ≡ owner_of (shown_rows rows) prog
owner_found [] prog found e = rw e refl
owner_found (row ∷ rows) prog found e =
    elim (cases_Bool (nat_eq row.prog prog)) [
      | inl same ↦ rw (e, same) refl
      | inr other ↦ rw other (owner_found rows prog found (e ∙ rw other refl))
    ]

-- a text is among those after their borrows
pub any_at : (text : List ℕ) (texts : List (Bor (List ℕ))) → list_any (λ (one : Bor (List ℕ)). bytes_eq one.now text) texts ≡ list_any (λ (one : List ℕ). bytes_eq one text) (borrowed_texts texts)
any_at text [] = refl
any_at text (one ∷ texts) = ap (λ (rest : Bool). bytes_eq one.now text || rest) (any_at text texts)
