use Rattle.rb_laws.proofs.OneThing.{expire_does_one_thing}
use Rattle.rb_laws.proofs.laws.expire_does_one_thing.Goals as goal

pub returns : goal.returns
returns c = expire_does_one_thing
