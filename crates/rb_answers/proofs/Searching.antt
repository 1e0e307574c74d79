-- The rows of a list one after another, and what they add.
use Rattle.std.proofs.Common.{◌≡◌, ◌≤◌, ◌<◌, ◌+◌, ◌-◌, ◌*◌, ℕ, suc, Bool, true, false, cond, List, [], ◌∷◌, ◌++◌, length, drop, Option, Some, None, refl, sym, ap, ◌∙◌, append_assoc, length-append, append-nil, add-one, arith}
use Rattle.std.specs.Prelude.{filter, slice_get, IfSome}
use Rattle.std.specs.List.{flat_map}
use Rattle.std.specs.Borrow.{Bor}
use Rattle.std.proofs.Math.Nat.{mul-le-mul_left}
use Rattle.std.proofs.Math.Seq.{drop-cons, drop-length}
use Rattle.std.proofs.lemmas.Option.{slice_get_within, get_or_from_slice_get}
use Rattle.rb_xdr.specs.Kept.{Kept}
use Rattle.rb_xdr.specs.Meter.{Meter, PaysAtMost}
use Rattle.rb_xdr.specs.Puts.{Leaves}
use Rattle.rb_registry.specs.declared.row.Row.{Row}
use Rattle.rb_registry.specs.Rows.{is_of_version}
use Rattle.rb_registry.specs.Registry.{Registry, rows_at, slots_of, rows_passed}
use Rattle.rb_registry.specs.Table.{PaysFor}
use Rattle.rb_registry.specs.Cursors.{StandsIn, slots_left}
use Rattle.rb_registry.specs.declared.versions.Version.{Version}
use Rattle.rb_registry.specs.Versions.{rows_after, next_cost, IsFoundIn, PassesMore}
use Rattle.rb_answers.specs.declared.answers.Listing.{Listing}
use Rattle.rb_answers.specs.Results.{is_shown, row_bytes}
use Rattle.rb_answers.specs.ListReplies.{rows_behind}
use Rattle.rb_answers.specs.Searching.{IsSought, rows_left, sought_cost, walk_cost, steps_left, PassesRow}

-- what the rows after a cursor add to a list
abbrev pub bytes_left : Listing → Registry → ℕ → Option ℕ → List ℕ
bytes_left list kept stamp cursor = flat_map (row_bytes list) (rows_behind kept stamp cursor)

-- ---- one step

pub walked : (kept : Registry) (stamp : ℕ) (cursor : Option ℕ) (row : Row) (next : Option ℕ) → slice_get (rows_at kept stamp) (rows_passed kept stamp cursor) ≡ Some row → StandsIn kept stamp next
    → rows_passed kept stamp next ≡ rows_passed kept stamp cursor + 1 → rows_passed kept stamp next ≤ length (rows_at kept stamp) → PassesRow None kept stamp cursor row next
walked kept stamp cursor row next here place passed within =
    let rows = rows_at kept stamp in
    let n = rows_passed kept stamp cursor in
    let first : drop (rows_passed kept stamp cursor) (rows_at kept stamp) ≡ row ∷ drop (rows_passed kept stamp cursor + 1) (rows_at kept stamp) =
    rw (add-one n) (drop-cons rows n row (slice_get_within rows n row here) ∙ ap (λ (r : Row). r ∷ drop (suc n) rows) (get_or_from_slice_get rows n row row here)) in
    record {
      place = place;
      first = first ∙ ap (λ (k : ℕ). row ∷ drop k (rows_at kept stamp)) (sym passed);
      passed = omega (arith, passed);
      within = within;
    }

pub walked_all : (kept : Registry) (stamp : ℕ) (cursor : Option ℕ) → rows_passed kept stamp cursor ≡ length (rows_at kept stamp) → rows_left None kept stamp cursor ≡ []
walked_all kept stamp cursor end = rw (end, drop-length (rows_at kept stamp)) refl

pub found : (kept : Registry) (stamp : ℕ) (version : Version) (cursor : Option ℕ) (row : Row) (next : Option ℕ) → stamp ≡ kept.stamp → rows_after version kept cursor ≡ row ∷ rows_after version kept next
    → StandsIn kept kept.stamp next → PassesMore kept cursor next → rows_passed kept kept.stamp next ≤ length (rows_at kept kept.stamp) → PassesRow (Some version) kept stamp cursor row next
found kept stamp version cursor row next now first place passed within = rw now (record { place = place; first = first; passed = passed; within = within })

pub found_all : (kept : Registry) (stamp : ℕ) (version : Version) (cursor : Option ℕ) → stamp ≡ kept.stamp → rows_after version kept cursor ≡ [] → rows_left (Some version) kept stamp cursor ≡ []
found_all kept stamp version cursor now end = rw now end

pub walked_cost : (kept : Registry) (cursor next : Option ℕ) (old new : Meter) → PaysFor kept.entries cursor next old new → new.steps + steps_left None kept next ≤ old.steps + steps_left None kept cursor
unfolding steps_left
walked_cost kept cursor next old new paid = paid

pub walked_most : (kept : Registry) (cursor : Option ℕ) (old new : Meter) → PaysAtMost old new (2 * slots_left kept cursor + 1) → PaysAtMost old new (steps_left None kept cursor + 1)
unfolding steps_left
walked_most kept cursor old new paid = paid

searches : (cost left old new : ℕ) → new ≤ old + cost → new + (cost * left + (cost - 1)) ≤ old + (cost * (left + 1) + (cost - 1))
searches cost left old new le = omega (arith, le)

pub found_cost : (kept : Registry) (version : Version) (cursor next : Option ℕ) (row : Row) (old new : Meter) → rows_after version kept cursor ≡ row ∷ rows_after version kept next
    → PaysAtMost old new next_cost → new.steps + steps_left (Some version) kept next ≤ old.steps + steps_left (Some version) kept cursor
unfolding steps_left
found_cost kept version cursor next row old new first paid =
    let longer : length (rows_after version kept cursor) ≡ length (rows_after version kept next) + 1 = ap (λ (rows : List Row). length rows) first ∙ sym (add-one (length (rows_after version kept next))) in
    rw longer (searches next_cost (length (rows_after version kept next)) old.steps new.steps paid.steps)

more_searches : (cost left : ℕ) → 0 < cost → cost ≤ cost * left + (cost - 1) + 1
more_searches cost left some = omega (arith, some)

pub found_most : (kept : Registry) (version : Version) (cursor : Option ℕ) (old new : Meter) → PaysAtMost old new next_cost → PaysAtMost old new (steps_left (Some version) kept cursor + 1)
unfolding steps_left
found_most kept version cursor old new paid =
    let most = more_searches next_cost (length (rows_after version kept cursor)) (omega arith) in
    record { rises = paid.rises; steps = omega (arith, paid.steps, most); tie = paid.tie }

-- ---- the step that is taken, if there is one

-- whatever of the row is given
module _ {X : Type 0} (row_of : X → Row) where
  pub walked_row : (kept : Registry) (stamp : ℕ) (cursor : Option ℕ) (result : Option (Option ℕ × X)) → IfSome result (λ n. slice_get (rows_at kept stamp) (rows_passed kept stamp cursor) ≡ Some (row_of n.1))
      → IfSome result (λ n. StandsIn kept stamp n.0) → IfSome result (λ n. rows_passed kept stamp n.0 ≡ rows_passed kept stamp cursor + 1) → IfSome result (λ n. rows_passed kept stamp n.0 ≤ length (rows_at kept stamp))
      → IfSome result (λ n. PassesRow None kept stamp cursor (row_of n.1) n.0)
  walked_row kept stamp cursor None here place passed within = tt
  walked_row kept stamp cursor (Some n) here place passed within = walked kept stamp cursor (row_of n.1) n.0 here place passed within

pub walked_costs : {X : Type 0} (kept : Registry) (cursor : Option ℕ) (result : Option (Option ℕ × X)) (old new : Meter) → IfSome result (λ n. PaysFor kept.entries cursor n.0 old new)
    → IfSome result (λ n. new.steps + steps_left None kept n.0 ≤ old.steps + steps_left None kept cursor)
walked_costs kept cursor None old new paid = tt
walked_costs kept cursor (Some n) old new paid = walked_cost kept cursor n.0 old new paid

pub found_costs : (kept : Registry) (version : Version) (cursor : Option ℕ) (result : Option (Option ℕ × Bor Row)) (old new : Meter) → IfSome result (λ n. rows_after version kept cursor ≡ n.1.now ∷ rows_after version kept n.0)
    → PaysAtMost old new next_cost → IfSome result (λ n. new.steps + steps_left (Some version) kept n.0 ≤ old.steps + steps_left (Some version) kept cursor)
found_costs kept version cursor None old new first paid = tt
found_costs kept version cursor (Some n) old new first paid = found_cost kept version cursor n.0 n.1.now old new first paid

-- ---- what the rows add

only_shown : (list : Listing) (prog vers : ℕ) → ((row : Row) → is_shown list row ≡ is_of_version prog vers row) → (rows : List Row)
    → flat_map (row_bytes list) (filter (is_of_version prog vers) rows) ≡ flat_map (row_bytes list) rows
unfolding row_bytes
only_shown list prog vers shows [] = refl
only_shown list prog vers shows (row ∷ rows) = by_test (is_of_version prog vers row) refl (only_shown list prog vers shows rows)
  where
    by_test : (b : Bool) → is_of_version prog vers row ≡ b → flat_map (row_bytes list) (filter (is_of_version prog vers) rows) ≡ flat_map (row_bytes list) rows
        → flat_map (row_bytes list) (cond b (row ∷ filter (is_of_version prog vers) rows) (filter (is_of_version prog vers) rows)) ≡ row_bytes list row ++ flat_map (row_bytes list) rows
    by_test true t further = ap (λ (xs : List ℕ). row_bytes list row ++ xs) further
    by_test false t further = let hidden : is_shown list row ≡ false = shows row ∙ t in rw hidden further

few_searches : (cost left : ℕ) → left ≤ 5 → cost * left + (cost - 1) ≤ 6 * cost
few_searches cost left few = let product = mul-le-mul_left cost few in omega (arith, product)

module _ (list : Listing) (kept : Registry) (stamp : ℕ) (sought : Option Version) (is : IsSought list kept stamp sought) where
  bytes_sought : (cursor : Option ℕ) → flat_map (row_bytes list) (rows_left sought kept stamp cursor) ≡ bytes_left list kept stamp cursor
  bytes_sought cursor = by_sought sought is
    where
      by_sought : (o : Option Version) → IsSought list kept stamp o → flat_map (row_bytes list) (rows_left o kept stamp cursor) ≡ bytes_left list kept stamp cursor
      by_sought None is = refl
      by_sought (Some version) is = only_shown list version.prog version.vers is.shows (rows_behind kept stamp cursor)

  pub row_adds : (cursor : Option ℕ) (row : Row) (next : Option ℕ) → PassesRow sought kept stamp cursor row next → bytes_left list kept stamp cursor ≡ row_bytes list row ++ bytes_left list kept stamp next
  row_adds cursor row next passes =
      sym (bytes_sought cursor) ∙ ap (flat_map (row_bytes list)) passes.first ∙ ap (λ (xs : List ℕ). row_bytes list row ++ xs) (bytes_sought next)

  pub none_adds : (cursor : Option ℕ) → rows_left sought kept stamp cursor ≡ [] → bytes_left list kept stamp cursor ≡ []
  none_adds cursor end = sym (bytes_sought cursor) ∙ ap (flat_map (row_bytes list)) end

  -- to come to the rows after a cursor costs no more than to come to all of them
  pub few_steps : (cursor : Option ℕ) → slots_left kept cursor ≤ length (slots_of kept) → steps_left sought kept cursor ≤ walk_cost sought kept
  unfolding steps_left
  few_steps cursor fits = by_sought sought is
    where
      by_sought : (o : Option Version) → IsSought list kept stamp o → steps_left o kept cursor ≤ walk_cost o kept
      by_sought None is = omega (arith, fits)
      by_sought (Some version) is = few_searches next_cost (length (rows_after version kept cursor)) (is.few version.prog version.vers cursor is.found.small)

-- and with what it costs to find them no more than a walk over all rows
pub sought_few : (list : Listing) (kept : Registry) (stamp : ℕ) (sought : Option Version) → IsSought list kept stamp sought → sought_cost sought kept + walk_cost sought kept ≤ 2 * length (slots_of kept)
sought_few list kept stamp None is = omega arith
sought_few list kept stamp (Some version) is = is.long

pub sought_found : (list : Listing) (kept : Registry) (stamp : ℕ) (sought : Option Version) → IsSought list kept stamp sought → IfSome sought (λ version. IsFoundIn kept version)
sought_found list kept stamp None is = tt
sought_found list kept stamp (Some version) is = is.found

pub sought_now : (list : Listing) (kept : Registry) (stamp : ℕ) (sought : Option Version) → IsSought list kept stamp sought → IfSome sought (λ version. stamp ≡ kept.stamp)
sought_now list kept stamp None is = tt
sought_now list kept stamp (Some version) is = is.now

-- ---- the walk for the room

-- what the rows after the cursor add fits, if this much room is left after the others, and these are paid for
pub record Measuring (list : Listing) (sought : Option Version) (kept : Registry) (stamp : ℕ) (cursor : Option ℕ) (room behind : ℕ) (first meter : Meter) : Type 0 where
  pub place : StandsIn kept stamp cursor
  pub fits : behind + length (flat_map (row_bytes list) (rows_at kept stamp)) ≡ room + length (bytes_left list kept stamp cursor)
  pub tie : meter.tie ≡ first.tie
  pub rises : first.steps ≤ meter.steps
  pub steps : meter.steps + steps_left sought kept cursor ≤ first.steps + walk_cost sought kept

all_left : (list : Listing) (kept : Registry) (stamp : ℕ) (cursor : Option ℕ) → rows_passed kept stamp cursor ≡ 0 → bytes_left list kept stamp cursor ≡ flat_map (row_bytes list) (rows_at kept stamp)
all_left list kept stamp cursor none = ap (λ (n : ℕ). flat_map (row_bytes list) (drop n (rows_at kept stamp))) none

module _ (list : Listing) (sought : Option Version) (kept : Registry) (stamp : ℕ) (is : IsSought list kept stamp sought) (cursor : Option ℕ) where
  pub nothing_measured : (room : ℕ) (first : Meter) → StandsIn kept stamp cursor → rows_passed kept stamp cursor ≡ 0 → slots_left kept cursor ≡ length (slots_of kept) → Measuring list sought kept stamp cursor room room first first
  nothing_measured room first place none all = record {
    place = place;
    fits = omega (arith, ap (λ (xs : List ℕ). length xs) (all_left list kept stamp cursor none));
    tie = refl;
    rises = omega arith;
    steps = omega (arith, few_steps list kept stamp sought is cursor (omega (arith, all)));
  }

  module _ (room behind : ℕ) (first meter : Meter) (m : Measuring list sought kept stamp cursor room behind first meter) where
    module _ (row : Row) (next : Option ℕ) (passes : PassesRow sought kept stamp cursor row next) where
      fewer : length (bytes_left list kept stamp cursor) ≡ length (row_bytes list row) + length (bytes_left list kept stamp next)
      fewer = ap (λ (xs : List ℕ). length xs) (row_adds list kept stamp sought is cursor row next passes) ∙ length-append (row_bytes list row) (bytes_left list kept stamp next)

      pub row_measured : (more : ℕ) (paid : Meter) → more + length (row_bytes list row) ≡ behind → (most : ℕ) → PaysAtMost meter paid most
          → paid.steps + steps_left sought kept next ≤ meter.steps + steps_left sought kept cursor → Measuring list sought kept stamp next room more first paid
      row_measured more paid fits most cost passed = record {
        place = passes.place;
        fits = omega (arith, fits, m.fits, fewer);
        tie = cost.tie ∙ m.tie;
        rises = omega (arith, m.rises, cost.rises);
        steps = omega (arith, m.steps, passed);
      }

      -- no room for the row is none for the list
      pub no_room : (end : List ℕ) → behind < length (row_bytes list row) → room < length (flat_map (row_bytes list) (rows_at kept stamp) ++ end)
      no_room end full = omega (arith, full, m.fits, fewer, length-append (flat_map (row_bytes list) (rows_at kept stamp)) end)

    all_measured : rows_left sought kept stamp cursor ≡ [] → behind + length (flat_map (row_bytes list) (rows_at kept stamp)) ≡ room
    all_measured end = omega (arith, m.fits, ap (λ (xs : List ℕ). length xs) (none_adds list kept stamp sought is cursor end))

    -- the room after the rows and the end of the list
    pub room_measured : (end : List ℕ) (result : Option ℕ) → rows_left sought kept stamp cursor ≡ [] → Leaves end behind result → Leaves (flat_map (row_bytes list) (rows_at kept stamp) ++ end) room result
    room_measured end None last full = omega (arith, full, all_measured last, length-append (flat_map (row_bytes list) (rows_at kept stamp)) end)
    room_measured end (Some more) last fits = omega (arith, fits, all_measured last, length-append (flat_map (row_bytes list) (rows_at kept stamp)) end)

-- ---- the walk that writes

-- what the rows before the cursor add is written and paid for
pub record Writing (list : Listing) (sought : Option Version) (kept : Registry) (stamp : ℕ) (cursor : Option ℕ) (began out : Kept) (first meter : Meter) : Type 0 where
  pub place : StandsIn kept stamp cursor
  pub same : out ≡ record began { bytes = out.bytes }
  pub written : out.bytes ++ bytes_left list kept stamp cursor ≡ began.bytes ++ flat_map (row_bytes list) (rows_at kept stamp)
  pub tie : meter.tie ≡ first.tie
  pub rises : first.steps ≤ meter.steps
  pub steps : meter.steps + steps_left sought kept cursor + length began.bytes ≤ first.steps + walk_cost sought kept + length out.bytes

module _ (list : Listing) (sought : Option Version) (kept : Registry) (stamp : ℕ) (is : IsSought list kept stamp sought) (cursor : Option ℕ) where
  pub nothing_written : (began : Kept) (first : Meter) → StandsIn kept stamp cursor → rows_passed kept stamp cursor ≡ 0 → slots_left kept cursor ≡ length (slots_of kept) → Writing list sought kept stamp cursor began began first first
  nothing_written began first place none all = record {
    place = place;
    same = refl;
    written = ap (λ (xs : List ℕ). began.bytes ++ xs) (all_left list kept stamp cursor none);
    tie = refl;
    rises = omega arith;
    steps = omega (arith, few_steps list kept stamp sought is cursor (omega (arith, all)));
  }

  module _ (began out : Kept) (first meter : Meter) (w : Writing list sought kept stamp cursor began out first meter) where
    size : length out.bytes + length (bytes_left list kept stamp cursor) ≡ length began.bytes + length (flat_map (row_bytes list) (rows_at kept stamp))
    size =
        sym (length-append out.bytes (bytes_left list kept stamp cursor)) ∙ ap (λ (xs : List ℕ). length xs) w.written ∙ length-append began.bytes (flat_map (row_bytes list) (rows_at kept stamp))

    cap : out.cap ≡ began.cap
    cap = ap (λ (k : Kept). k.cap) w.same

    module _ (row : Row) (next : Option ℕ) (passes : PassesRow sought kept stamp cursor row next) where
      adds : bytes_left list kept stamp cursor ≡ row_bytes list row ++ bytes_left list kept stamp next
      adds = row_adds list kept stamp sought is cursor row next passes

      pub row_written : (more : Kept) (asked paid : Meter) → more ≡ record out { bytes = out.bytes ++ row_bytes list row } → (most : ℕ) → PaysAtMost meter asked most
          → asked.steps + steps_left sought kept next ≤ meter.steps + steps_left sought kept cursor → PaysAtMost asked paid (length (row_bytes list row)) → Writing list sought kept stamp next began more first paid
      row_written more asked paid added most looked passed cost =
          let bytes : more.bytes ≡ out.bytes ++ row_bytes list row = ap (λ (k : Kept). k.bytes) added in
          let longer : length more.bytes ≡ length out.bytes + length (row_bytes list row) = ap (λ (xs : List ℕ). length xs) bytes ∙ length-append out.bytes (row_bytes list row) in
          record {
            place = passes.place;
            same = added ∙ ap (λ (k : Kept). record k { bytes = out.bytes ++ row_bytes list row }) w.same ∙ ap (λ (xs : List ℕ). record began { bytes = xs }) (sym bytes);
            written = ap (λ (xs : List ℕ). xs ++ bytes_left list kept stamp next) bytes ∙ append_assoc out.bytes (row_bytes list row) (bytes_left list kept stamp next)
                ∙ ap (λ (xs : List ℕ). out.bytes ++ xs) (sym adds) ∙ w.written;
            tie = cost.tie ∙ looked.tie ∙ w.tie;
            rises = omega (arith, w.rises, looked.rises, cost.rises);
            steps = omega (arith, w.steps, passed, cost.steps, longer);
          }

      -- room for the list is room for the row
      pub row_fits : (end : List ℕ) → length began.bytes + length (flat_map (row_bytes list) (rows_at kept stamp) ++ end) ≤ began.cap → length out.bytes + length (row_bytes list row) ≤ out.cap
      row_fits end room =
          omega (arith, room, cap, size, ap (λ (xs : List ℕ). length xs) adds, length-append (row_bytes list row) (bytes_left list kept stamp next), length-append (flat_map (row_bytes list) (rows_at kept stamp)) end)

    -- and for its end
    pub end_fits : (end : List ℕ) → length began.bytes + length (flat_map (row_bytes list) (rows_at kept stamp) ++ end) ≤ began.cap → length out.bytes + length end ≤ out.cap
    end_fits end room = omega (arith, room, cap, size, length-append (flat_map (row_bytes list) (rows_at kept stamp)) end)

    pub all_written : (end : List ℕ) (more : Kept) → rows_left sought kept stamp cursor ≡ [] → more ≡ record out { bytes = out.bytes ++ end }
        → more ≡ record began { bytes = began.bytes ++ (flat_map (row_bytes list) (rows_at kept stamp) ++ end) }
    all_written end more last added =
        let whole : out.bytes ≡ began.bytes ++ flat_map (row_bytes list) (rows_at kept stamp) =
        sym (append-nil out.bytes) ∙ ap (λ (xs : List ℕ). out.bytes ++ xs) (sym (none_adds list kept stamp sought is cursor last)) ∙ w.written in
        added ∙ ap (λ (k : Kept). record k { bytes = out.bytes ++ end }) w.same
        ∙ ap (λ (xs : List ℕ). record began { bytes = xs ++ end }) whole
        ∙ ap (λ (xs : List ℕ). record began { bytes = xs }) (append_assoc began.bytes (flat_map (row_bytes list) (rows_at kept stamp)) end)
