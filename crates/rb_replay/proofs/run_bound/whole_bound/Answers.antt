use Rattle.std.specs.Prelude.{min}
use Rattle.std.proofs.Common.{◌≡◌, ◌<◌, ◌+◌, ◌*◌, ℕ, zero, suc, List, [], ◌∷◌, length, get_or, take, refl, sym, ap, ◌∙◌, arith}
use Rattle.std.proofs.lemmas.List.{length-map}
use Rattle.rb_model.specs.Bounds.{bytes_in}
use Rattle.rb_model.specs.Plain.{OwnedEvent, OwnedOutput, event_of, output_of, events_of, outputs_of}
use Rattle.rb_model.specs.Step.{Event, Output}
use Rattle.rb_model.specs.WholeRuns.{total_of, total_in, total_out, bytes_reported, event_allowance}
use Rattle.rb_core.specs.Events.{greatest_count}
use Rattle.rb_replay.proofs.run_bound.whole_bound.Goals as goal

pair : (x y : OwnedEvent) (s t : OwnedOutput) → x ≡ y → s ≡ t → ◌≡◌ {A = OwnedEvent × OwnedOutput} (x, s) (y, t)
pair x y s t e f = rw (e, f) refl

module _ (count : Event → Output → ℕ) where
  -- one event more
  next : (es : List OwnedEvent) (os : List OwnedOutput) (i : ℕ) (e : OwnedEvent) (o : OwnedOutput) → i < length es → i < length os → e ≡ get_or es i e → o ≡ get_or os i o
      → total_of count (take (suc i) (events_of es)) (take (suc i) (outputs_of os)) ≡ total_of count (take i (events_of es)) (take i (outputs_of os)) + count (event_of e) (output_of o)
  next [] os i e o a b is so = absurd (omega (arith, a))
  next (x ∷ es) [] i e o a b is so = absurd (omega (arith, b))
  next (x ∷ es) (y ∷ os) zero e o a b is so = ap (λ (p : OwnedEvent × OwnedOutput). count (event_of p.0) (output_of p.1) + 0) (pair x e y o (sym is) (sym so)) ∙ omega arith
  next (x ∷ es) (y ∷ os) (suc i) e o a b is so = let rest = next es os i e o (omega (arith, a)) (omega (arith, b)) is so in omega (arith, rest)

  more : (es : List OwnedEvent) (os : List OwnedOutput) (i : ℕ) (e : OwnedEvent) (o : OwnedOutput) → i < length es → i < length os → e ≡ get_or es i e → o ≡ get_or os i o
      → total_of count (take (i + 1) (events_of es)) (take (i + 1) (outputs_of os)) ≡ total_of count (take i (events_of es)) (take i (outputs_of os)) + count (event_of e) (output_of o)
  more es os i e o a b is so =
      let one : i + 1 ≡ suc i = omega arith in
      ap (λ (k : ℕ). total_of count (take k (events_of es)) (take k (outputs_of os))) one ∙ next es os i e o a b is so

  -- all of them
  whole : (es : List Event) (os : List Output) (n : ℕ) → n ≡ min (length es) (length os) → total_of count (take n es) (take n os) ≡ total_of count es os
  whole [] os zero is = refl
  whole [] os (suc n) is = refl
  whole (e ∷ es) [] zero is = refl
  whole (e ∷ es) [] (suc n) is = refl
  whole (e ∷ es) (o ∷ os) zero is = absurd (omega (arith, is))
  whole (e ∷ es) (o ∷ os) (suc n) is = ap (λ (k : ℕ). count e o + k) (whole es os n (omega (arith, is)))

pub loop-i-preserved : goal.loop-i-preserved
loop-i-preserved c =
    let i : ℕ = c.loop-i.i in
    let es = c.args.events.now in
    let os = c.args.outputs.now in
    let few : i < length es = omega (arith, c.loop-i-test.true, c.min-count.ensures) in
    let few_more : i < length os = omega (arith, c.loop-i-test.true, c.min-count.ensures) in
    let taken = more bytes_in es os i _ _ few few_more c.index-events-i.is c.index-outputs-i.is in
    let told = more bytes_reported es os i _ _ few few_more c.index-events-i-in-loop-i.is c.index-outputs-i-in-loop-i.is in
    omega (arith, taken, told, c.loop-i.invariant, c.saturating_add-bytes.ensures, c.bytes_in-taken.ensures, c.bytes_reported-reported.ensures)

pub returns : goal.returns
returns c =
    let es = events_of c.args.events.now in
    let os = outputs_of c.args.outputs.now in
    let end : c.loop-i.i ≡ min (length c.args.events.now) (length c.args.outputs.now) = omega (arith, c.loop-i-test.false, c.loop-i.auto.i-end, c.min-count.ensures) in
    let count : c.loop-i.i ≡ min (length es) (length os) = omega (arith, end, length-map c.args.events.now event_of, length-map c.args.outputs.now output_of) in
    let taken = whole bytes_in es os c.loop-i.i count in
    let told = whole bytes_reported es os c.loop-i.i count in
    let all : length c.args.events.now * c.event_allowance-allowance.result ≡ length es * event_allowance c.args.limits.now =
    ap (λ (n : ℕ). n * c.event_allowance-allowance.result) (sym (length-map c.args.events.now event_of)) ∙ ap (λ (n : ℕ). length es * n) c.event_allowance-allowance.ensures in
    summed (total_in es os) (total_out es os) _ _ _ _ _ _ (c.loop-i.invariant ∙ ap (λ (n : ℕ). min n greatest_count) (both _ _ _ _ taken told)) c.saturating_mul.ensures c.saturating_mul-all.ensures c.saturating_add.ensures all
  where
    both : (a b x y : ℕ) → a ≡ x → b ≡ y → a + b ≡ x + y
    both a b x y e f = rw (e, f) refl

    summed : (a b bytes mul result product more all : ℕ) → bytes ≡ min (a + b) greatest_count → mul ≡ min (bytes * 16) greatest_count → more ≡ min product greatest_count → result ≡ min (mul + more) greatest_count → product ≡ all
        → result ≡ min (16 * (a + b + 0) + all) greatest_count
    summed a b bytes mul result product more all e f d g h = omega (arith, e, f, d, g, h)
