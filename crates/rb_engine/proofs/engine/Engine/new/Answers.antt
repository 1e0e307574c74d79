use Rattle.std.proofs.Common.{refl}
use Rattle.rb_engine.proofs.Reached.{good_from}
use Rattle.rb_engine.proofs.Paying.{new_paid}
use Rattle.rb_engine.proofs.engine.Engine.new.Goals as goal

pub invariant_of-result : goal.invariant_of-result
invariant_of-result c = record { paid = new_paid _ c.args.limits c.args.listener _ c.args.moment _ _ _ c.in_ok-tape.tape refl c.in_ok-tape.ensures.begun c.in_ok-core.ensures.made (good_from _ _ c.in_ok-core.ensures.bad.1) c.check_listener.ensures c.requires c.in_ok-core.ensures.cost; fits = c.ranges.moment.fits }
