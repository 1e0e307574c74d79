use Rattle.std.specs.Map.{values_of}
use Rattle.std.proofs.Common.{◌≡◌, ◌+◌, arith, refl, ap, ◌∙◌}
use Rattle.std.proofs.lemmas.Fn.{says_at}
use Rattle.rb_xdr.specs.Meter.{Meter}
use Rattle.rb_forward.proofs.Soonest.{soonest_found}
use Rattle.rb_forward.proofs.deadlines.soonest_in.Goals as goal

pub values-preserved : goal.values-preserved
values-preserved g c =
    let paid = rw c.in-Some.ensures.next at c.values.invariant.steps in
    let looked : c.entry_after.new.meter.steps ≡ c.values.meter.steps + 2 = ap (λ (m : Meter). m.steps) c.in-Some.ensures.cost in
    record {
      soonest = λ m tells.
          let says = says_at g.F.Fn c.moment-told.ensures refl in
          rw (c.sooner-soonest.ensures, tells _ _ says) (rw c.in-Some.ensures.next at c.values.invariant.soonest m tells);
      tie = ap (λ (m : Meter). m.tie) c.in-Some.ensures.cost ∙ c.values.invariant.tie;
      rises = omega (arith, looked, c.values.invariant.rises);
      steps = omega (arith, looked, paid);
    }

pub returns-clause-soonest : goal.returns-clause-soonest
returns-clause-soonest g c = λ m tells. soonest_found m (values_of c.args.table.now.entries) _ (rw c.in_default.ensures.next at c.values.invariant.soonest m tells)
