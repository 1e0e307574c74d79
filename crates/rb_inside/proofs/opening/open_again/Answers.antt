use Rattle.std.proofs.Common.{◌∙◌, sym}
use Rattle.rb_inside.proofs.Openings.{opened_as, opened_behind}
use Rattle.rb_inside.proofs.opening.open_again.Goals as goal

pub returns : goal.returns
returns c = λ told. record {
  arrival = c.in-Some.arrival;
  came = sym c.arrival.ensures ∙ c.in-Some.is;
  closed = c.in-Some-take_id.id;
  was = sym c.take_id.ensures.taken ∙ c.in-Some-take_id.is;
  id = c.in-Ok.id;
  acts = opened_behind c.args.engine.now c.closed.new.self c.open.new.self c.in-Some-take_id.id _ c.closed.ensures.acts c.closed.ensures.moment (opened_as c.closed.new.self c.open.new.self c.of.ensures c.in-Ok.is c.open.ensures.acts);
  is = c.renumber.ensures.number told;
}
