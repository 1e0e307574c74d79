use Rattle.std.proofs.lemmas.Result.{err_from_is_err_and}
use Rattle.std.proofs.Common.{◌<◌, length, take, arith}
use Rattle.std.proofs.lemmas.List.{length-take}
use Rattle.rb_core.specs.contracts.holding.Core.{the_view}
use Rattle.rb_core.proofs.WritesInto.{into_done, into_none, into_refused}
use Rattle.rb_core.proofs.Begun.{with_steps_before, acts_begun}
use Rattle.rb_core.proofs.holding.Core.write_into.Goals as goal

pub returns-in_err-given-clause-acts : goal.returns-in_err-given-clause-acts
returns-in_err-given-clause-acts c =
    let p = err_from_is_err_and c.from_residual.result c.from_residual.ensures.1 in
    rw (p.1, p.2, c.in_err-given.ensures.refused) (
    acts_begun _ (the_view c.self.inside) c.args.self.now _ c.count-self-inside.result _ c.self.view_is
    (into_refused (with_steps_before (the_view c.self.inside) c.count-self-inside.result) c.args.now c.max-clock.result c.max-clock.ensures c.write_into.new.self c.args.id (length c.write_into.new.room) _ c.in_err-given.ensures.acts))

pub returns-then-given-eq0-clause-acts : goal.returns-then-given-eq0-clause-acts
returns-then-given-eq0-clause-acts c =
    acts_begun _ (the_view c.self.inside) c.args.self.now _ c.count-self-inside.result _ c.self.view_is
    (into_none (with_steps_before (the_view c.self.inside) c.count-self-inside.result) c.args.now c.max-clock.result c.max-clock.ensures c.write_into.new.self c.args.id (length c.write_into.new.room)
    c.in_ok-given.given.count c.write_into.new.room c.if-given-eq0.true (c.in_ok-given.ensures.nothing c.if-given-eq0.true) c.in_ok-given.ensures.acts)

pub returns-clause-acts : goal.returns-clause-acts
returns-clause-acts c =
    let some : 0 < length (take c.in_ok-given.given.count c.write_into.new.room) = omega (arith, c.if-given-eq0.false, c.in_ok-given.ensures.within, length-take c.in_ok-given.given.count c.write_into.new.room) in
    acts_begun _ (the_view c.self.inside) c.args.self.now _ c.count-self-inside.result _ c.self.view_is
    (into_done (with_steps_before (the_view c.self.inside) c.count-self-inside.result) c.args.now c.max-clock.result c.max-clock.ensures c.write_into.new.self c.args.id (length c.write_into.new.room) _ some c.in_ok-given.ensures.stays c.in_ok-given.ensures.acts)
