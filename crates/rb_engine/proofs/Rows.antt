-- The rows of a core are counted one after another.
use Rattle.std.proofs.Common.{◌≡◌, ◌<◌, ◌≤◌, ◌+◌, ◌-◌, ◌*◌, ℕ, true, length, Some, Option, refl, sym, ap, subst, ◌∙◌, arith}
use Rattle.std.specs.Borrow.{Bor}
use Rattle.std.proofs.Math.Bridge.{le_prop}
use Rattle.std.proofs.Math.Logic.{∥∥₁_elim}
use Rattle.std.proofs.lemmas.Option.{slice_get_within}
use Rattle.rb_registry.specs.declared.row.Row.{Row}
use Rattle.rb_registry.specs.Registry.{rows_passed}
use Rattle.rb_answers.specs.declared.listener.Listener.{Listener}
use Rattle.rb_model.specs.declared.types.Limits.{Limits}
use Rattle.rb_model.specs.State.{are_good}
use Rattle.rb_lines.specs.Tapes.{Tape}
use Rattle.rb_core.specs.StandsFor.{CoreView}
use Rattle.rb_core.specs.Looks.{rows_held, rows_shown, StandsAmong, IsAtStart, IsAtEnd, row_behind, PassesOne, slots_behind, slot_count}
use Rattle.rb_core.specs.Metered.{Metered}
use Rattle.rb_core.specs.Lending.{HasLentRow}
use Rattle.rb_engine.specs.Served.{IsServed}

abbrev pub passed : CoreView → Option ℕ → ℕ
passed core cursor = rows_passed (rows_held core) (rows_held core).stamp cursor

-- those that a cursor has passed are counted, and paid for
pub record Counting (first core : Metered) (cursor : Option ℕ) (count : ℕ) : Type 0 where
  pub stays : core.core ≡ first.core
  pub place : StandsAmong core.core cursor
  pub is : count ≡ passed core.core cursor
  pub tie : core.meter.tie ≡ first.meter.tie
  pub rises : first.meter.steps ≤ core.meter.steps
  pub steps : core.meter.steps + 2 * slots_behind core.core cursor ≤ first.meter.steps + 2 * slot_count core.core

pub none_counted : (core : Metered) (cursor : Option ℕ) → StandsAmong core.core cursor → IsAtStart core.core cursor → slots_behind core.core cursor ≡ slot_count core.core → Counting core core cursor 0
none_counted core cursor place start all = record { stays = refl; place = place; is = sym start; tie = refl; rises = omega arith; steps = omega (arith, all) }

module _ (first core : Metered) (cursor : Option ℕ) (count : ℕ) (k : Counting first core cursor count) (row : Row) (here : row_behind core.core cursor ≡ Some row) where
  pub one_there : count < length (rows_shown first.core)
  one_there =
      subst (λ (held : CoreView). count < length (rows_shown held)) k.stays
      (omega (arith, k.is, slice_get_within (rows_shown core.core) (passed core.core cursor) row here))

  module _ (next : Option ℕ) (place : StandsAmong core.core next) (one : PassesOne core.core cursor next) (lent : Bor Row) (paid : Metered) (looked : HasLentRow cursor next (Some lent) core paid) where
    pub one_more : Counting first paid next (count + 1)
    one_more = record {
      stays = looked.stays ∙ k.stays;
      place = subst (λ (held : CoreView). StandsAmong held next) (sym looked.stays) place;
      is = ap (λ (n : ℕ). n + 1) k.is ∙ sym one ∙ ap (λ (held : CoreView). passed held next) (sym looked.stays);
      tie = looked.cost.tie ∙ k.tie;
      rises = omega (arith, k.rises, looked.cost.rises);
      steps =
          subst (λ (held : CoreView). paid.meter.steps + 2 * slots_behind held next ≤ first.meter.steps + 2 * slot_count held) (sym looked.stays)
          (omega (arith, k.steps, looked.cost_row));
    }

    pub fewer_left : length (rows_shown paid.core) - passed paid.core next < length (rows_shown core.core) - passed core.core cursor
    fewer_left =
        subst (λ (held : CoreView). length (rows_shown held) - passed held next < length (rows_shown core.core) - passed core.core cursor) (sym looked.stays)
        (omega (arith, one, slice_get_within (rows_shown core.core) (passed core.core cursor) row here))

pub all_counted : (first core : Metered) (cursor next : Option ℕ) (count : ℕ) → Counting first core cursor count → next ≡ cursor → IsAtEnd core.core next → count ≡ length (rows_shown first.core)
all_counted first core cursor next count k same end =
    k.is ∙ subst (IsAtEnd core.core) same end ∙ ap (λ (held : CoreView). length (rows_shown held)) k.stays

-- ---- no more than a number of 64 bits

good_limit : (limits : Limits) (listener : Listener) → are_good limits listener ≡ true → limits.rows ≤ 4096
good_limit limits listener good = grind arith

pub few_of : (core : CoreView) (tape : Tape) → IsServed core tape → length (rows_shown core) ≤ 4096
few_of core tape h =
    let registry = h.stands.ledger.registry in
    omega (arith, registry.counted, registry.within, h.stands.limit, good_limit h.state.setting.limits h.state.setting.listener h.good)

pub few_rows : (core : CoreView) (tape : Tape) → ∥ IsServed core tape ∥₁ → length (rows_shown core) ≤ 4096
few_rows core tape served = ∥∥₁_elim served le_prop (few_of core tape)
