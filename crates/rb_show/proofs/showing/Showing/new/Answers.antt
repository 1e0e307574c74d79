use Rattle.std.proofs.Common.{refl}
use Rattle.rb_show.proofs.Showings.{nothing_came}
use Rattle.rb_show.proofs.showing.Showing.new.Goals as goal

pub returns : goal.returns
returns c = nothing_came c.args.ask.now c.args.form c.args.xid _ c.new-2.ensures.stream c.new.ensures c.new-3.ensures.items refl
