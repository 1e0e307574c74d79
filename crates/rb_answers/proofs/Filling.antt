-- Parts of a list, made row by row.
use Rattle.std.proofs.Common.{◌≡◌, ℕ, suc, ◌≤◌, ◌<◌, ◌+◌, ◌*◌, true, false, cond, List, [], ◌∷◌, ◌++◌, length, take, drop, Option, Some, None, refl, sym, ap, ◌∙◌, append_assoc, length-append, arith}
use Rattle.std.specs.Prelude.{◌==◌, ◌-◌, IfSome, IfNone}
use Rattle.std.proofs.Math.Seq.{take-length, take-append_seam, drop-append_seam}
use Rattle.std.proofs.lemmas.Map.Entries.{length-values_of}
use Rattle.rb_xdr.specs.Xdr.{boolean}
use Rattle.rb_xdr.proofs.Types.{length-boolean}
use Rattle.rb_xdr.specs.Kept.{Kept}
use Rattle.rb_xdr.specs.Meter.{Meter, PaysAtMost}
use Rattle.rb_xdr.specs.Places.{behind, to_come}
use Rattle.rb_registry.specs.declared.row.Row.{Row}
use Rattle.rb_registry.specs.declared.slot.Slot.{Slot}
use Rattle.rb_registry.specs.Slots.{is_live_at}
use Rattle.rb_registry.specs.Registry.{table_at, Registry, slots_of}
use Rattle.rb_registry.specs.declared.versions.Version.{Version}
use Rattle.rb_registry.specs.Cursors.{StandsIn, slots_left}
use Rattle.rb_answers.specs.declared.list_reply.ListReply.{ListReply}
use Rattle.rb_answers.specs.Results.{row_bytes, rows_bytes}
use Rattle.rb_answers.specs.ListReplies.{longest_row, head_unless, rows_behind, bytes_behind}
use Rattle.rb_answers.specs.ListParts.{Fills, IsShort}
use Rattle.rb_answers.specs.Searching.{IsSought, rows_left, sought_cost, steps_left, PassesRow}
use Rattle.rb_answers.proofs.Lists.{left}
use Rattle.rb_answers.proofs.Searching.{bytes_left, row_adds, none_adds, few_steps, sought_few}

-- ---- filling

-- The buffer has what stands before the cursor, and it is paid for.
pub record Filling (sought : Option Version) (kept : Registry) (old now : ListReply) (most base : ℕ) (began out : Kept) (first meter : Meter) : Type 0 where
  pub moved : now ≡ record old { cursor = now.cursor }
  pub place : StandsIn kept now.stamp now.cursor
  pub is : IsSought now.list kept now.stamp sought
  pub shows : out.bytes ++ rows_bytes (rows_behind kept now.stamp now.cursor) now.list ≡ bytes_behind kept old
  pub base_is : base ≡ length out.bytes
  pub before : base ≤ most
  pub cap : out.cap ≡ began.cap
  pub out_tie : out.tie ≡ began.tie
  pub tie : meter.tie ≡ first.tie
  pub rises : first.steps ≤ meter.steps
  pub steps : meter.steps + steps_left sought kept now.cursor ≤ first.steps + 2 * length (slots_of kept) + length out.bytes + 4

-- That was so before this look for the next row, whatever of it is given.
pub record Looking {X : Type 0} (row_of : X → Row) (sought : Option Version) (kept : Registry) (old now : ListReply) (most base : ℕ) (began out : Kept) (first meter : Meter) (found : Option (Option ℕ × X)) : Type 0 where
  pub before : Meter
  pub filling : Filling sought kept old now most base began out first before
  pub cost : PaysAtMost before meter (steps_left sought kept now.cursor + 1)
  pub row : IfSome found (λ n. PassesRow sought kept now.stamp now.cursor (row_of n.1) n.0)
  pub end : IfNone found (rows_left sought kept now.stamp now.cursor ≡ [])
  pub cost_row : IfSome found (λ n. meter.steps + steps_left sought kept n.0 ≤ before.steps + steps_left sought kept now.cursor)

-- ---- bytes that the buffer has later, and that are paid for then

-- the buffer once it has the first of these bytes
abbrev pub with_made : Kept → List ℕ → ℕ → Kept
with_made out made count = record out { bytes = out.bytes ++ take count made }

-- the meter once this many are paid for
abbrev pub paid_later : Meter → ℕ → Meter
paid_later meter count = record meter { steps = meter.steps + count }

pub later : (count : ℕ) (old new : Meter) (cost : ℕ) → PaysAtMost old new cost → PaysAtMost (paid_later old count) (paid_later new count) cost
later count old new cost paid = record { rises = omega (arith, paid.rises); steps = omega (arith, paid.steps); tie = paid.tie }

pub later_row : {X : Type 0} (count : ℕ) (kept : Registry) (cursor : Option ℕ) (old new : Meter) (found : Option (Option ℕ × X)) → IfSome found (λ n. new.steps + steps_left None kept n.0 ≤ old.steps + steps_left None kept cursor)
    → IfSome found (λ n. new.steps + count + steps_left None kept n.0 ≤ old.steps + count + steps_left None kept cursor)
later_row count kept cursor old new None paid = tt
later_row count kept cursor old new (Some n) paid = omega (arith, paid)

-- a part that begins was paid for, and a row's bytes will be
pub paid_first : (first meter : Meter) (bytes made : List ℕ) → bytes ≡ made → PaysAtMost first meter (length made + 3) → PaysAtMost first (paid_later meter 0) (length bytes + 0 + 4)
paid_first first meter bytes made is paid = let size = ap length is in record { rises = omega (arith, paid.rises); steps = omega (arith, paid.steps, size); tie = paid.tie }

pub paid_row : (meter : Meter) (count more : ℕ) (row : List ℕ) → more ≡ length row → PaysAtMost (paid_later meter count) (paid_later meter (count + more)) (length row)
paid_row meter count more row is = record { rises = omega arith; steps = omega (arith, is); tie = refl }

-- a row's bytes come behind it
pub made_longer : (out : Kept) (made now : List ℕ) (count more : ℕ) (row : List ℕ) → take (count + more) now ≡ take count made ++ row → with_made out now (count + more) ≡ record (with_made out made count) { bytes = (with_made out made count).bytes ++ row }
made_longer out made now count more row put =
    ap (λ (bytes : List ℕ). record out { bytes = bytes }) (ap (λ (bytes : List ℕ). out.bytes ++ bytes) put ∙ sym (append_assoc out.bytes (take count made) row))

-- ---- how many slots and rows are still to come

module _ {T : Type 0} where
  behind_fits : (entries : List (ℕ × T)) (key : ℕ) → length (behind entries key) ≤ length entries
  behind_fits [] key = omega arith
  behind_fits (e ∷ rest) key =
      let later = behind_fits rest key in
      elim (e.0 == key) as (λ b. length (cond b rest (behind rest key)) ≤ suc (length rest)) [ true ↦ omega arith | false ↦ omega (arith, later) ]

  to_come_fits : (entries : List (ℕ × T)) (place : Option ℕ) → length (to_come entries place) ≤ length entries
  to_come_fits entries None = omega arith
  to_come_fits entries (Some key) = behind_fits entries key

table_fits : (n : ℕ) (entries : List (ℕ × Slot)) → length (table_at n entries) ≤ length entries
table_fits n [] = omega arith
table_fits n (e ∷ rest) =
    let later = table_fits n rest in
    elim (is_live_at n e.1) as (λ b. length (cond b ((e.0, e.1.row) ∷ table_at n rest) (table_at n rest)) ≤ suc (length rest)) [ true ↦ omega (arith, later) | false ↦ omega (arith, later) ]

slots_left_fit : (kept : Registry) (cursor : Option ℕ) → slots_left kept cursor ≤ length (slots_of kept)
slots_left_fit kept cursor = omega (arith, to_come_fits kept.entries cursor, length-values_of kept.entries)

rows_left_fit : (kept : Registry) (stamp : ℕ) (cursor : Option ℕ) → left kept stamp cursor ≤ length (slots_of kept)
rows_left_fit kept stamp cursor = omega (arith, table_fits stamp kept.entries, length-values_of (table_at stamp kept.entries), length-values_of kept.entries)

-- ---- its begin, its steps and its ends

-- the head stands before the first row, and nothing before a later one
pub filling_begins : (sought : Option Version) (kept : Registry) (r : ListReply) (most base : ℕ) (began out : Kept) (first meter : Meter) → StandsIn kept r.stamp r.cursor → IsSought r.list kept r.stamp sought
    → out.bytes ≡ head_unless r.begun r.xid → out.cap ≡ began.cap → out.tie ≡ began.tie → base ≡ length out.bytes → base ≤ most → PaysAtMost first meter (length out.bytes + sought_cost sought kept + 4)
    → Filling sought kept r r most base began out first meter
filling_begins sought kept r most base began out first meter place is head cap out_tie base_is before cost = record {
  moved = refl;
  place = place;
  is = is;
  shows = rw head refl;
  base_is = base_is;
  before = before;
  cap = cap;
  out_tie = out_tie;
  tie = cost.tie;
  rises = cost.rises;
  steps = omega (arith, cost.steps, few_steps r.list kept r.stamp sought is r.cursor (slots_left_fit kept r.cursor), sought_few r.list kept r.stamp sought is);
}

module _ (sought : Option Version) (kept : Registry) (old now : ListReply) (most base : ℕ) (began out : Kept) (first meter : Meter) (f : Filling sought kept old now most base began out first meter) where
  -- what stands at the cursor is after what is shown
  at_cursor : drop base (bytes_behind kept old) ≡ rows_bytes (rows_behind kept now.stamp now.cursor) now.list
  at_cursor =
      rw (f.base_is, ← f.shows) (drop-append_seam out.bytes (rows_bytes (rows_behind kept now.stamp now.cursor) now.list))

  module _ (row : Row) (next : Option ℕ) (passes : PassesRow sought kept now.stamp now.cursor row next) (more : Kept) (added : more ≡ record out { bytes = out.bytes ++ row_bytes now.list row }) where
    -- what is shown with the row, and what stands after it
    shows_row : more.bytes ++ rows_bytes (rows_behind kept now.stamp next) now.list ≡ bytes_behind kept old
    shows_row =
        let adds = row_adds now.list kept now.stamp sought f.is now.cursor row next passes in
        rw (ap (λ (k : Kept). k.bytes) added)
        (append_assoc out.bytes (row_bytes now.list row) (bytes_left now.list kept now.stamp next ++ boolean false)
        ∙ ap (λ (bytes : List ℕ). out.bytes ++ bytes) (sym (append_assoc (row_bytes now.list row) (bytes_left now.list kept now.stamp next) (boolean false)) ∙ ap (λ (bytes : List ℕ). bytes ++ boolean false) (sym adds))
        ∙ f.shows)

    longer : length more.bytes ≡ length out.bytes + length (row_bytes now.list row)
    longer = ap (λ (k : Kept). length k.bytes) added ∙ length-append out.bytes (row_bytes now.list row)

    -- the row is within this many bytes, and the cursor goes on
    pub row_passed : (asked wrote : Meter) (count cost : ℕ) → PaysAtMost meter asked cost → asked.steps + steps_left sought kept next ≤ meter.steps + steps_left sought kept now.cursor → PaysAtMost asked wrote (length (row_bytes now.list row))
        → count ≡ length (row_bytes now.list row) → count ≤ most - base → Filling sought kept old (record now { cursor = next }) most (base + count) began more first wrote
    row_passed asked wrote count cost looked passed writes count_is within = record {
      moved = ap (λ (r : ListReply). record r { cursor = next }) f.moved;
      place = passes.place;
      is = f.is;
      shows = shows_row;
      base_is = omega (arith, f.base_is, count_is, longer);
      before = omega (arith, f.before, within);
      cap = ap (λ (k : Kept). k.cap) added ∙ f.cap;
      out_tie = ap (λ (k : Kept). k.tie) added ∙ f.out_tie;
      tie = writes.tie ∙ looked.tie ∙ f.tie;
      rises = omega (arith, f.rises, looked.rises, writes.rises);
      steps = omega (arith, f.steps, passed, writes.steps, longer);
    }

    -- the row goes past this many bytes
    pub row_crosses : IsShort (row_bytes now.list row) → (count : ℕ) → count ≡ length (row_bytes now.list row) → most - base < count → Fills kept old now most more.bytes base
    row_crosses short count count_is past = record {
      moved = f.moved;
      place = f.place;
      front = sym (ap (λ (bytes : List ℕ). take (length more.bytes) bytes) (sym shows_row) ∙ take-append_seam more.bytes (rows_bytes (rows_behind kept now.stamp next) now.list));
      all = λ within. absurd (omega (arith, within, f.base_is, longer, count_is, past));
      behind = at_cursor;
      before = f.before;
      within = omega (arith, f.base_is, longer);
      short = omega (arith, f.base_is, longer, short);
    }

  -- the end of the list has room
  pub end_fits : most + longest_row ≤ began.cap → length out.bytes + length (boolean false) ≤ out.cap
  end_fits room = omega (arith, f.base_is, f.before, f.cap, room, length-boolean false)

  -- there is no row after the cursor
  module _ (more : Kept) (end : rows_left sought kept now.stamp now.cursor ≡ []) (added : more ≡ record out { bytes = out.bytes ++ boolean false }) where
    shows_end : more.bytes ≡ bytes_behind kept old
    shows_end =
        ap (λ (k : Kept). k.bytes) added
        ∙ ap (λ (bytes : List ℕ). out.bytes ++ bytes) (sym (ap (λ (xs : List ℕ). xs ++ boolean false) (none_adds now.list kept now.stamp sought f.is now.cursor end))) ∙ f.shows

    longer_by_end : length more.bytes ≡ length out.bytes + length (boolean false)
    longer_by_end = ap (λ (k : Kept). length k.bytes) added ∙ length-append out.bytes (boolean false)

    pub list_ends : Fills kept old now most more.bytes base
    list_ends = record {
      moved = f.moved;
      place = f.place;
      front = rw (← shows_end) (sym (take-length more.bytes));
      all = λ within. shows_end;
      behind = at_cursor;
      before = f.before;
      within = omega (arith, f.base_is, longer_by_end);
      short = omega (arith, f.base_is, longer_by_end, length-boolean false);
    }
