use Rattle.std.proofs.Common.{◌∙◌, sym}
use Rattle.rb_inside.proofs.Openings.{opened_as}
use Rattle.rb_inside.proofs.opening.open_at.Goals as goal

pub returns : goal.returns
returns c = λ told. record {
  arrival = c.in-Some.arrival;
  came = sym c.arrival.ensures ∙ c.in-Some.is;
  id = c.in-Ok.id;
  acts = opened_as c.args.engine.now c.open.new.self c.of.ensures c.in-Ok.is c.open.ensures.acts;
  number = c.open-2.ensures.number c.if-not-open.false;
}
