-- Kept rows are set again, one after another.
use Rattle.std.proofs.Common.{◌≡◌, ◌<◌, ◌≤◌, ◌+◌, ◌==◌, ℕ, Bool, true, false, List, [], ◌∷◌, length, get_or, drop, refl, sym, ap, subst, ◌∙◌, arith}
use Rattle.std.proofs.lemmas.List.{drop_more, drop_all}
use Rattle.std.proofs.lemmas.Bool.{ne_eqb}
use mathlib.Core.Bool.{true≢false}
use Rattle.rb_registry.specs.declared.row.Row.{Row}
use Rattle.rb_model.specs.State.{State}
use Rattle.rb_model.specs.Calls.{Outcome, Outcome as outcomes}
use Rattle.rb_model.specs.Step.{Event, datagram, show_outcome, zero_stats, step, after}
use Rattle.rb_model.specs.ChangeLaws.{this_machine, set_bytes, set_call, set_calls}
use Rattle.rb_core.specs.StandsFor.{CoreView, StandsFor}
use Rattle.rb_engine.specs.declared.engine.Engine.{Engine}
use Rattle.rb_engine.specs.Served.{set_again, with_rows_again}
use Rattle.rb_engine.specs.Moves.{Moves, ActsNow}
use Rattle.rb_engine.specs.Keeping.{SameEngine}

shown_leaves : (r : Outcome × State) → (show_outcome r).1 ≡ r.1
shown_leaves (outcomes.NoCall, s) = refl
shown_leaves (outcomes.Reply reply stamp, s) = refl
shown_leaves (outcomes.Forwarded, s) = refl
shown_leaves (outcomes.Silent, s) = refl

pub one_again : (before mid last : Engine) (row : Row) {is_set : Bool} → ActsNow (set_again row) before mid is_set → SameEngine mid last → Moves (λ s now. after s (set_call now row ∷ [])) before last
unfolding step datagram
one_again before mid last row acts same = λ s h.
    subst (λ (x : CoreView). StandsFor x (after s (set_call before.moment row ∷ []))) (sym same.core)
    (subst (λ (t : State). StandsFor mid.core.core t) (sym (shown_leaves (datagram s before.moment this_machine (set_bytes row)))) (acts.stands s h))

-- events from here lead there
pub record Leads (core : CoreView) (events : List Event) (end : State) : Type 0 where
  pub state : State
  pub stands : StandsFor core state
  pub leads : after state events ≡ end

-- the rows before this place were set again: the others lead where all do
pub record AreAgain (rows : List Row) (i : ℕ) (start cur : Engine) : Type 0 where
  pub moment : cur.moment ≡ start.moment
  pub rest : (s : State) → StandsFor start.core.core s → Leads cur.core.core (set_calls start.moment (drop i rows)) (after s (set_calls start.moment rows))

pub none_again : (rows : List Row) (start : Engine) → AreAgain rows 0 start start
none_again rows start = record { moment = refl; rest = λ s h. record { state = s; stands = h; leads = refl } }

pub more_again : (rows : List Row) (i : ℕ) (row : Row) (start cur next : Engine) → i < length rows → row ≡ get_or rows i row → AreAgain rows i start cur → Moves (λ s now. after s (set_call now row ∷ [])) cur next → next.moment ≡ cur.moment → AreAgain rows (i + 1) start next
more_again rows i row start cur next here is so moves same = record {
  moment = same ∙ so.moment;
  rest = λ s h. record {
    state = after (so.rest s h).state (set_call start.moment row ∷ []);
    stands = subst (λ (m : ℕ). StandsFor next.core.core (after (so.rest s h).state (set_call m row ∷ []))) so.moment (moves (so.rest s h).state (so.rest s h).stands);
    leads =
        sym (ap (λ (all : List Row). after (so.rest s h).state (set_calls start.moment all)) (drop_more rows i row here ∙ ap (λ (r : Row). r ∷ drop (i + 1) rows) (sym is)))
        ∙ (so.rest s h).leads;
  };
}

pub all_again : (rows : List Row) (i : ℕ) (start cur : Engine) → length rows ≤ i → AreAgain rows i start cur → Moves (λ s now. after s (set_calls now rows)) start cur
all_again rows i start cur over so = λ s h.
    subst (λ (x : State). StandsFor cur.core.core x)
    (sym (ap (λ (all : List Row). after (so.rest s h).state (set_calls start.moment all)) (drop_all i rows over)) ∙ (so.rest s h).leads)
    (so.rest s h).stands

-- ---- and then statistics begin anew

pub zeroed : (rows : List Row) (start mid last : Engine) (is_empty : Bool) → is_empty ≡ (length rows == 0) → is_empty ≡ false → Moves (λ s now. after s (set_calls now rows)) start mid → Moves (λ s now. zero_stats s) mid last → Moves (with_rows_again rows) start last
zeroed [] start mid last is_empty is some moves zero = absurd (true≢false (sym is ∙ some))
zeroed (row ∷ rows) start mid last is_empty is some moves zero = λ s h. zero (after s (set_calls start.moment (row ∷ rows))) (moves s h)

pub left_alone : (rows : List Row) (start mid : Engine) (is_empty : Bool) → is_empty ≡ (length rows == 0) → is_empty ≡ true → Moves (λ s now. after s (set_calls now rows)) start mid → Moves (with_rows_again rows) start mid
left_alone [] start mid is_empty is none moves = moves
left_alone (row ∷ rows) start mid is_empty is none moves =
    let some : (length (row ∷ rows) == 0) ≡ false = ne_eqb (length (row ∷ rows)) 0 (λ same. absurd (omega (arith, same))) in
    absurd (true≢false (sym none ∙ is ∙ some))
