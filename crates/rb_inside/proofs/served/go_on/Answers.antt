use Rattle.std.proofs.Common.{◌∙◌}
use Rattle.rb_inside.proofs.GoingOn.{others_stay}
use Rattle.rb_inside.proofs.served.go_on.Goals as goal

pub returns : goal.returns
returns g c = record {
  none = record { served = c.note_served.ensures.none.served; count = c.note_served.ensures.none.count };
  others = λ other apart. c.note_served.ensures.others other apart ∙ others_stay c.args.places.now.links.items c.args.held.now.key c.serve_kept-progress.new.link other apart;
}
