use Rattle.std.proofs.Common.{ℕ, List, [], ◌∷◌, refl, ◌∙◌, ap, sym}
use Rattle.rb_evidence.proofs.Cuts.{field_here, no_field_here, last_field, no_fields, some_long, none_long}
use Rattle.rb_evidence.proofs.fields.first_field.Goals as goal

pub returns-then-not-is_empty-clause-some : goal.returns-then-not-is_empty-clause-some
returns-then-not-is_empty-clause-some c =
    c.loop-front.invariant ∙ field_here c.in-Some.front.now c.in-Some.back.now c.loop-front.rest.now c.in-Some.ensures.some (some_long _ c.if-not-is_empty.ensures)

pub loop-front-preserved : goal.loop-front-preserved
loop-front-preserved c =
    c.loop-front.invariant ∙ no_field_here c.in-Some.front.now c.in-Some.back.now c.loop-front.rest.now c.in-Some.ensures.some (none_long _ c.if-not-is_empty.ensures)

pub returns-then-is_empty-clause-none : goal.returns-then-is_empty-clause-none
returns-then-is_empty-clause-none c = c.loop-front.invariant ∙ no_fields c.loop-front.rest.now (none_long _ c.if-is_empty.ensures)

pub returns-clause-some : goal.returns-clause-some
returns-clause-some c = c.loop-front.invariant ∙ last_field c.loop-front.rest.now c.in_default.ensures.none (some_long _ c.if-is_empty.ensures) ∙ ap (λ (fields : List (List ℕ)). c.loop-front.rest.now ∷ fields) (sym (no_fields [] refl))
