use Rattle.std.proofs.Common.{Some, refl, subst}
use Rattle.rb_connections.specs.Giving.{GoesOn}
use Rattle.rb_connections.proofs.slot.Slot.write_rest.Goals as goal

pub returns-in-Some-clause-goes_on : goal.returns-in-Some-clause-goes_on
returns-in-Some-clause-goes_on c =
    let w = c.write_fragments-count in
    record {
      giving = Some c.in-Some.giving;
      is = (
        subst (λ next. GoesOn c.args.registry.now c.args.self.now.buffer.bytes c.args.rest c.args.self.now.window w.new.window w.result.0 next) c.in-Some.is w.ensures.goes_on,
        refl,
      );
    }
