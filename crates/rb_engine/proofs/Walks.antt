-- The walk that writes the lines of rows.
use Rattle.std.proofs.Common.{◌≡◌, ◌≤◌, ◌+◌, ◌*◌, ◌==◌, ℕ, true, false, List, [], ◌∷◌, ◌++◌, length, map, take, Some, Option, refl, sym, ap, subst, ◌∙◌, arith}
use Rattle.std.specs.Prelude.{All, not}
use Rattle.std.specs.List.{flat_map, list_all}
use Rattle.std.specs.Borrow.{Bor}
use Rattle.std.specs.Io.KnownBytes.{Appends}
use Rattle.std.proofs.KnownBytes.{Appends-nil, Appends-trans}
use Rattle.std.proofs.lemmas.Bool.{and_parts, not-true}
use Rattle.std.proofs.lemmas.List.{take_all}
use Rattle.std.proofs.lemmas.List.Elements.{All-head, All-tail}
use Rattle.rb_xdr.specs.Meter.{Meter, PaysAtMost}
use Rattle.rb_registry.specs.declared.row.Row.{Row}
use Rattle.rb_registry.specs.Registry.{AreOwn}
use Rattle.rb_registry.specs.Rows.{rpcb_prog}
use Rattle.rb_answers.specs.Answers.{can_be_set}
use Rattle.rb_answers.proofs.Lists.{Passes, passed_bytes, none_passed, one_passed}
use Rattle.rb_model.specs.State.{State}
use Rattle.rb_model.specs.Step.{IsReached}
use Rattle.rb_model.specs.ChangeLaws.{set_rows}
use Rattle.rb_laws.proofs.Restoring.{rows_can_be_set}
use Rattle.rb_core.specs.StandsFor.{CoreView, StandsFor}
use Rattle.rb_core.specs.Looks.{rows_held, rows_shown, StandsAmong, IsAtStart, IsAtEnd, row_behind, PassesOne, slots_behind, slot_count, PaysForRow}
use Rattle.rb_core.specs.Metered.{Metered}
use Rattle.rb_core.specs.Lending.{HasLentRow}
use Rattle.rb_keep.specs.Kept.{row_line, rows_text, kept_text}
use Rattle.rb_keep.proofs.Leads.{kept_lines}
use Rattle.rb_engine.specs.Writing.{line_where_set}

-- what the rows add that a cursor has passed
abbrev pub passed_lines : CoreView → Option ℕ → List ℕ
passed_lines core cursor = passed_bytes (line_where_set core.clock) (rows_held core) (rows_held core).stamp cursor

-- they are written, and paid for
pub record Writing (first core : Metered) (cursor : Option ℕ) (began written : Option (List ℕ)) : Type 0 where
  pub stays : core.core ≡ first.core
  pub place : StandsAmong core.core cursor
  pub lines : Appends began written (passed_lines core.core cursor)
  pub tie : core.meter.tie ≡ first.meter.tie
  pub rises : first.meter.steps ≤ core.meter.steps
  pub steps : core.meter.steps + 2 * slots_behind core.core cursor ≤ first.meter.steps + 2 * slot_count core.core

pub nothing_written : (core : Metered) (cursor : Option ℕ) (began : Option (List ℕ))
    → StandsAmong core.core cursor → IsAtStart core.core cursor → slots_behind core.core cursor ≡ slot_count core.core → Writing core core cursor began began
nothing_written core cursor began place none all = record {
  stays = refl;
  place = place;
  lines = subst (Appends began began) (sym (none_passed (line_where_set core.core.clock) (rows_held core.core) (rows_held core.core).stamp cursor none)) (Appends-nil began);
  tie = refl;
  rises = omega arith;
  steps = omega (arith, all);
}

module _ (first core : Metered) (cursor : Option ℕ) (began written : Option (List ℕ)) (w : Writing first core cursor began written) where
  -- over the core itself, with what the meter showed after the look
  row_written_on : (row : Row) (next : Option ℕ) → row_behind core.core cursor ≡ Some row → StandsAmong core.core next → PassesOne core.core cursor next
      → (more : Option (List ℕ)) (paid : Meter) → Appends written more (line_where_set core.core.clock row) → (most : ℕ) → PaysAtMost core.meter paid most → PaysForRow core.core cursor next core.meter paid
      → Writing first (record { core = core.core; meter = paid }) next began more
  row_written_on row next here place passed more paid added most cost far =
      let passes : Passes (rows_held core.core) (rows_held core.core).stamp cursor row next = record { here = here; place = place; passed = passed } in
      record {
        stays = w.stays;
        place = place;
        lines =
            subst (Appends began more) (sym (one_passed (line_where_set core.core.clock) (rows_held core.core) (rows_held core.core).stamp cursor row next passes))
            (Appends-trans began written more (passed_lines core.core cursor) (line_where_set core.core.clock row) w.lines added);
        tie = cost.tie ∙ w.tie;
        rises = omega (arith, w.rises, cost.rises);
        steps = omega (arith, w.steps, far);
      }

  pub row_written : (row : Row) (next : Option ℕ) → row_behind core.core cursor ≡ Some row → StandsAmong core.core next → PassesOne core.core cursor next
      → (more : Option (List ℕ)) (now : ℕ) → now ≡ first.core.clock → Appends written more (line_where_set now row) → (lent : Bor Row) (paid : Metered) → HasLentRow cursor next (Some lent) core paid
      → Writing first paid next began more
  row_written row next here place passed more now is added lent paid looked =
      let line : Appends written more (line_where_set core.core.clock row) = subst (λ (n : ℕ). Appends written more (line_where_set n row)) (is ∙ sym (ap (λ (held : CoreView). held.clock) w.stays)) added in
      subst (λ (held : CoreView). Writing first (record { core = held; meter = paid.meter }) next began more) (sym looked.stays)
      (row_written_on row next here place passed more paid.meter line (2 * slots_behind core.core cursor + 1) looked.cost looked.cost_row)

-- ---- the lines of all rows

-- own rows have none
own_lines : (now : ℕ) (own rows : List Row) → AreOwn own → flat_map (line_where_set now) (own ++ rows) ≡ flat_map (line_where_set now) rows
own_lines now [] rows are = refl
own_lines now (row ∷ own) rows are =
    let parts = and_parts (row.prog == rpcb_prog) (list_all (λ (r : Row). r.prog == rpcb_prog) own) are in
    rw parts.0 (own_lines now own rows parts.1)

-- rows that may be set have theirs
set_lines : (now : ℕ) (rows : List Row) → All (λ row. can_be_set row ≡ true) rows → flat_map (line_where_set now) rows ≡ rows_text now rows
unfolding can_be_set
set_lines now [] may = refl
set_lines now (row ∷ rows) may =
    let another : (row.prog == rpcb_prog) ≡ false = not-true (row.prog == rpcb_prog) (and_parts (not (row.prog == rpcb_prog)) _ (All-head (λ r. can_be_set r ≡ true) row rows may)).0 in
    rw another (ap (λ (xs : List ℕ). row_line now row ++ xs) (set_lines now rows (All-tail (λ r. can_be_set r ≡ true) row rows may)))

-- all that a core shows are those of a state that it stands for
all_lines : (core : CoreView) (s : State) → StandsFor core s → IsReached s → flat_map (line_where_set core.clock) (rows_shown core) ≡ kept_text s
all_lines core s h r =
    ap (flat_map (line_where_set core.clock)) h.ledger.registry.rows
    ∙ own_lines core.clock s.ledger.own (set_rows s) h.ledger.registry.are_own
    ∙ set_lines core.clock (set_rows s) (rows_can_be_set s r)
    ∙ ap (λ (now : ℕ). rows_text now (set_rows s)) h.clock
    ∙ sym (kept_lines s.clock (set_rows s))

pub all_written : (first core : Metered) (cursor next : Option ℕ) (began written : Option (List ℕ)) → Writing first core cursor began written → next ≡ cursor → IsAtEnd core.core next
    → (s : State) → StandsFor first.core s → IsReached s → Appends began written (kept_text s)
all_written first core cursor next began written w same end s h r =
    let held : StandsFor core.core s = subst (λ (held : CoreView). StandsFor held s) (sym w.stays) h in
    let ended : IsAtEnd core.core cursor = subst (IsAtEnd core.core) same end in
    subst (Appends began written)
    (ap (λ (n : ℕ). flat_map (line_where_set core.core.clock) (take n (rows_shown core.core))) ended ∙ ap (flat_map (line_where_set core.core.clock)) (take_all (length (rows_shown core.core)) (rows_shown core.core) (omega arith)) ∙ all_lines core.core s held r)
    w.lines
