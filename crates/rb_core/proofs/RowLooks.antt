-- What a look for a row pays is within the bound on the steps of an event.
use Rattle.std.proofs.Common.{◌≡◌, ◌+◌, ap, arith}
use Rattle.rb_xdr.specs.Meter.{Meter, PaysAtMost}
use Rattle.rb_xdr.specs.Ordered.{looks}
use Rattle.rb_model.specs.State.{Setting}
use Rattle.rb_model.proofs.CostBounds.{looks_few}
use Rattle.rb_core.specs.StandsFor.{CoreView}
use Rattle.rb_core.proofs.CallBounds.{StaysWithinSteps}
use Rattle.rb_core.proofs.Spending.{at_most}

pub row_within : (core : CoreView) (a b : Meter) → PaysAtMost a b (looks core.books.registry.limit + 1) → StaysWithinSteps core 0 0 a b
row_within core a b pays = λ s h reached.
    let same : core.setting.limits.rows ≡ s.setting.limits.rows = ap (λ (x : Setting). x.limits.rows) h.setting in
    at_most a b (looks core.books.registry.limit + 1) _ (omega (arith, same, h.limit, looks_few core.books.registry.limit)) pays
