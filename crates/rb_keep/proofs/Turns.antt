-- Lines of kept rows, one after another.
use Rattle.std.proofs.Common.{◌≡◌, ◌<◌, ◌≤◌, ◌+◌, ℕ, List, [], ◌∷◌, ◌++◌, length, get_or, drop, Result, Ok, Err, refl, sym, ap, ◌∙◌}
use Rattle.std.specs.Borrow.{Bor}
use Rattle.std.proofs.lemmas.List.{drop_more, drop_all, length_push}
use Rattle.rb_registry.specs.declared.row.Row.{Row}
use Rattle.rb_lines.proofs.Reading.{IsAt}
use Rattle.rb_keep.specs.declared.fault.KeepFault.{KeepFault}
use Rattle.rb_keep.specs.declared.fault.KeepFault.TheVariants.{BadLine, NotKept, TooMany, TooLong, NoMemory}
use Rattle.rb_keep.specs.Reading.{kept_line, with_line, rows_from, Gives}

-- the lines from a place on are the line there and the lines after it
taken : (i : ℕ) (texts : List (List ℕ)) (text : List ℕ) (rows : List Row) → i < length texts → text ≡ get_or texts i text
    → rows_from (i + 1) (drop i texts) (Ok rows) ≡ rows_from (i + 1 + 1) (drop (i + 1) texts) (with_line (i + 1) rows (kept_line text))
unfolding rows_from
taken i texts text rows lt is =
    let here : drop i texts ≡ text ∷ drop (i + 1) texts = drop_more texts i text lt ∙ ap (λ (t : List ℕ). t ∷ drop (i + 1) texts) (sym is) in
    ap (λ (ts : List (List ℕ)). rows_from (i + 1) ts (Ok rows)) here

pub failed : (k : ℕ) (texts : List (List ℕ)) (fault : KeepFault) → rows_from k texts (Err fault) ≡ Err fault
unfolding rows_from
failed k [] fault = refl
failed k (text ∷ texts) fault = refl

pub turn : (rows more : List Row) (xs : List (ℕ × Bor (List ℕ))) (lines : List (List ℕ)) (i : ℕ) (text : Bor (List ℕ)) (all : Result (List Row) KeepFault) → IsAt lines (length xs) i text.now
    → with_line (i + 1) rows (kept_line text.now) ≡ Ok more
    → rows_from (length xs + 1) (drop (length xs) lines) (Ok rows) ≡ all
    → rows_from (length (xs ++ (i, text) ∷ []) + 1) (drop (length (xs ++ (i, text) ∷ [])) lines) (Ok more) ≡ all
turn rows more xs lines i text all at adds h =
    let n : length (xs ++ (i, text) ∷ []) ≡ length xs + 1 = length_push xs (i, text) in
    let adds' = rw at.place at adds in
    rw (n, ← adds') (sym (taken (length xs) lines text.now rows at.before at.line) ∙ h)

pub ends : (rows : List Row) (n : ℕ) (texts : List (List ℕ)) (all : Result (List Row) KeepFault) → length texts ≤ n → rows_from (n + 1) (drop n texts) (Ok rows) ≡ all → all ≡ Ok rows
unfolding rows_from
ends rows n texts all le h = sym h ∙ ap (λ (ts : List (List ℕ)). rows_from (n + 1) ts (Ok rows)) (drop_all n texts le)

at_fault : (rows : List Row) (n i : ℕ) (lines : List (List ℕ)) (text : List ℕ) (fault : KeepFault) (all : Result (List Row) KeepFault) → IsAt lines n i text → with_line (i + 1) rows (kept_line text) ≡ Err fault
    → rows_from (n + 1) (drop n lines) (Ok rows) ≡ all → all ≡ Err fault
at_fault rows n i lines text fault all at is kept =
    let is' = rw at.place at is in
    sym kept ∙ taken n lines text rows at.before at.line ∙ ap (rows_from (n + 1 + 1) (drop (n + 1) lines)) is' ∙ failed (n + 1 + 1) (drop (n + 1) lines) fault

pub fault_at : (rows : List Row) (n i : ℕ) (lines : List (List ℕ)) (text : List ℕ) (fault : KeepFault) (all : Result (List Row) KeepFault) → IsAt lines n i text → Gives {X = List Row} (Err fault) (with_line (i + 1) rows (kept_line text))
    → rows_from (n + 1) (drop n lines) (Ok rows) ≡ all → Gives {X = List Row} (Err fault) all
fault_at rows n i lines text NoMemory all at is kept = tt
fault_at rows n i lines text (BadLine k) all at is kept = at_fault rows n i lines text (BadLine k) all at is kept
fault_at rows n i lines text (NotKept k) all at is kept = at_fault rows n i lines text (NotKept k) all at is kept
fault_at rows n i lines text (TooMany k) all at is kept = at_fault rows n i lines text (TooMany k) all at is kept
fault_at rows n i lines text TooLong all at is kept = at_fault rows n i lines text TooLong all at is kept
