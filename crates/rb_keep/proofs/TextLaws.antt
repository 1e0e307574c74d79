-- What a text says, by what each of its lines keeps.
use Rattle.std.specs.Prelude.{fold}
use Rattle.std.specs.List.{list_any}
use Rattle.std.proofs.Common.{◌≡◌, ℕ, ◌+◌, ◌<◌, ◌≤◌, ◌&&◌, nat_lt, Bool, true, false, cond, List, [], ◌∷◌, ◌++◌, length, map, Result, Ok, Err, refl, sym, ap, ◌∙◌, inl, inr, arith}
use Rattle.std.proofs.lemmas.Bool.{and_parts, cases_lt, lt-ltb, le-ltb}
use Rattle.rb_registry.specs.declared.row.Row.{Row}
use Rattle.rb_lines.specs.Lines.{lines_of, longest_input}
use Rattle.rb_keep.specs.declared.reading.KeptLine.{KeptLine}
use Rattle.rb_keep.specs.declared.reading.KeptLine.TheVariants.{Skipped, Keeps, Removes, NotKept, Bad}
use Rattle.rb_keep.specs.declared.fault.KeepFault.{KeepFault}
use Rattle.rb_keep.specs.declared.fault.KeepFault.TheVariants as faults
use Rattle.rb_keep.specs.Reading.{kept_line, without, most_rows, with_line, rows_from, whole_part, read}
use Rattle.rb_keep.specs.KeptLaws.{is_wrong, rows_after, are_few, ReadsTheRows}
use Rattle.rb_keep.proofs.Turns.{failed}

err_is_not_ok : (fault : KeepFault) (rows : List Row) → Err fault ≡ Ok rows → ⊥
err_is_not_ok fault rows h = cc h

same_Ok : (a b : List Row) → ◌≡◌ {A = Result (List Row) KeepFault} (Ok a) (Ok b) → a ≡ b
same_Ok a b h = cc h

-- ---- what was read

-- no line is wrong, there was room for each row, and the rows are those that the lines leave of those in front
record Reads (kept : List KeptLine) (front rows : List Row) : Type 0 where
  good : list_any is_wrong kept ≡ false
  few : are_few front kept ≡ true
  are : rows ≡ fold rows_after front kept

-- so it is from here on
abbrev Reading : ℕ → List (List ℕ) → List Row → Type 0
Reading k texts rows = (front : List Row) → rows_from k texts (Ok front) ≡ Ok rows → Reads (map kept_line texts) front rows

reads : (k : ℕ) (texts : List (List ℕ)) (rows : List Row) → Reading k texts rows
unfolding rows_from
reads k [] rows front h = record { good = refl; few = refl; are = sym (same_Ok front rows h) }
reads k (text ∷ texts) rows front h = by_said (reads (k + 1) texts rows) (kept_line text) h
  where
    by_room : Reading (k + 1) texts rows → (row : Row) (b : Bool) → nat_lt (length front) most_rows ≡ b → rows_from (k + 1) texts (cond b (Ok (front ++ row ∷ [])) (Err (faults.TooMany k))) ≡ Ok rows → Reads (Keeps row ∷ map kept_line texts) front rows
    by_room rest row true room h =
        let r = rest (front ++ row ∷ []) h in
        record { good = r.good; few = ap (λ (b : Bool). b && are_few (front ++ row ∷ []) (map kept_line texts)) room ∙ r.few; are = r.are }
    by_room rest row false room h = absurd (err_is_not_ok _ rows (sym (failed (k + 1) texts (faults.TooMany k)) ∙ h))

    by_said : Reading (k + 1) texts rows → (said : KeptLine) → rows_from (k + 1) texts (with_line k front said) ≡ Ok rows → Reads (said ∷ map kept_line texts) front rows
    by_said rest Skipped h = let r = rest front h in record { good = r.good; few = r.few; are = r.are }
    by_said rest (Keeps row) h = by_room rest row (nat_lt (length front) most_rows) refl h
    by_said rest (Removes row) h = let r = rest (without row front) h in record { good = r.good; few = r.few; are = r.are }
    by_said rest NotKept h = absurd (err_is_not_ok _ rows (sym (failed (k + 1) texts (faults.NotKept k)) ∙ h))
    by_said rest Bad h = absurd (err_is_not_ok _ rows (sym (failed (k + 1) texts (faults.BadLine k)) ∙ h))

-- ---- what is read

abbrev IsRead : ℕ → List (List ℕ) → Type 0
IsRead k texts =
    (front : List Row) → list_any is_wrong (map kept_line texts) ≡ false → are_few front (map kept_line texts) ≡ true
    → rows_from k texts (Ok front) ≡ Ok (fold rows_after front (map kept_line texts))

is_read : (k : ℕ) (texts : List (List ℕ)) → IsRead k texts
unfolding rows_from
is_read k [] front good few = refl
is_read k (text ∷ texts) front good few = by_said (is_read (k + 1) texts) (kept_line text) good few
  where
    by_said : IsRead (k + 1) texts → (said : KeptLine) → list_any is_wrong (said ∷ map kept_line texts) ≡ false → are_few front (said ∷ map kept_line texts) ≡ true
        → rows_from (k + 1) texts (with_line k front said) ≡ Ok (fold rows_after front (said ∷ map kept_line texts))
    by_said rest Skipped good few = rest front good few
    by_said rest (Keeps row) good few =
        let parts = and_parts (nat_lt (length front) most_rows) (are_few (front ++ row ∷ []) (map kept_line texts)) few in
        ap (λ (b : Bool). rows_from (k + 1) texts (cond b (Ok (front ++ row ∷ [])) (Err (faults.TooMany k)))) parts.0
        ∙ rest (front ++ row ∷ []) good parts.1
    by_said rest (Removes row) good few = rest (without row front) good few
    by_said rest NotKept good few = cc
    by_said rest Bad good few = cc

-- ---- texts

long_is_refused : (text : List ℕ) → longest_input < length text → read text ≡ Err faults.TooLong
unfolding read
long_is_refused text long = rw (lt-ltb longest_input (length text) long) refl

pub short_reads : (text : List ℕ) → length text ≤ longest_input → read text ≡ rows_from 1 (lines_of (whole_part text)) (Ok [])
unfolding read
short_reads text short = rw (le-ltb longest_input (length text) short) refl

pub reads_the_rows : ReadsTheRows
reads_the_rows text rows = (
  λ h. elim (cases_lt longest_input (length text)) [
    | inl long ↦ absurd (err_is_not_ok _ rows (sym (long_is_refused text long) ∙ h))
    | inr short ↦ let r = reads 1 (lines_of (whole_part text)) rows [] (sym (short_reads text short) ∙ h) in (short, r.good, r.few, r.are)
  ],
  λ (short, good, few, are). short_reads text short ∙ is_read 1 (lines_of (whole_part text)) [] good few ∙ ap Ok (sym are),
)
