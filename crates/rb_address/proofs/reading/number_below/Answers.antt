use Rattle.std.specs.Char.{digit_value}
use Rattle.std.proofs.Common.{arith, ◌≡◌, ◌<◌, ◌+◌, ◌*◌, ◌∙◌, ℕ, get_or, ap, subst}
use Rattle.rb_address.proofs.Digits.{goes_on, too_large, whole, not_below}
use Rattle.rb_address.proofs.reading.number_below.Goals as goal

pub returns-in_default-with_digit : goal.returns-in_default-with_digit
returns-in_default-with_digit c =
    let digit_is : c.in-Some.digit ≡ digit_value (get_or c.args.text.now c.loop-b.b-index 0) = c.in-Some.ensures.value.1 ∙ ap digit_value c.from.ensures in
    too_large c.args.text.now c.loop-b.b-index c.loop-b.n c.loop-b-test.true c.loop-b.invariant.1 (not_below c.loop-b.n c.in-Some.digit _ c.in_default-with_digit.ensures digit_is)

pub loop-b-preserved : goal.loop-b-preserved
loop-b-preserved c =
    let digit_is : c.in-Some.digit ≡ digit_value (get_or c.args.text.now c.loop-b.b-index 0) = c.in-Some.ensures.value.1 ∙ ap digit_value c.from.ensures in
    let kept = goes_on c.args.text.now c.loop-b.b-index c.loop-b.n c.in-Some-with_digit.more c.loop-b-test.true c.loop-b.invariant.0 c.loop-b.invariant.1
    (subst (λ (b : ℕ). digit_value b < 10) c.from.ensures c.in-Some.ensures.value.0)
    (c.in-Some-with_digit.ensures.1 ∙ ap (λ (d : ℕ). c.loop-b.n * 10 + d) digit_is) in
    (kept.0, kept.1, omega (arith, c.in-Some-with_digit.ensures.0, c.in-Some-with_digit.ensures.1))

pub returns : goal.returns
returns c = whole c.args.text.now c.loop-b.b-index c.loop-b.n c.loop-b-test.false c.if-is_empty.ensures c.loop-b.invariant.2 c.loop-b.invariant.0 c.loop-b.invariant.1
