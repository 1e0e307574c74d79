use Rattle.std.proofs.Common.{◌≡◌, Err, rules}
use Rattle.rb_xdr.specs.XdrLaws.{BeginsWith}
use Rattle.rb_show.proofs.Fronts.{takes_value, lacks_value}
use Rattle.rb_show.proofs.Uses.{value_uses}
use Rattle.rb_show.proofs.take.take.Goals as goal

pub returns-in-Ok-clause-takes : goal.returns-in-Ok-clause-takes
returns-in-Ok-clause-takes g c =
    let begins : BeginsWith g.T.Xdr.is_value g.T.Xdr.spelling c.args.bytes.now c.in-Ok.taken = search rules in
    takes_value g.T.Xdr.is_value g.T.Xdr.spelling g.T.Xdr.reads c.laws.ensures.complete c.args.bytes.now c.in-Ok.taken.0 c.in-Ok.taken.1 begins

pub returns-in-Ok-clause-some : goal.returns-in-Ok-clause-some
returns-in-Ok-clause-some g c = value_uses g.T.Xdr.reads g.T.Xdr.form c.laws.ensures.faults c.args.bytes.now c.in-Ok.taken.0 c.in-Ok.taken.1 (search rules)

pub returns-in-Err-clause-takes : goal.returns-in-Err-clause-takes
returns-in-Err-clause-takes g c =
    let read : g.T.Xdr.reads c.args.bytes.now ≡ Err c.in-Err.fault = search rules in
    rw c.pause_of.ensures (lacks_value g.T.Xdr.is_value g.T.Xdr.spelling g.T.Xdr.reads g.T.Xdr.form c.laws.ensures.faults c.args.bytes.now c.in-Err.fault read)
