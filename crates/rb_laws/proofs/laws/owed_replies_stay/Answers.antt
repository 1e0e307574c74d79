use Rattle.rb_laws.proofs.OwedStay.{owed_replies_stay}
use Rattle.rb_laws.proofs.laws.owed_replies_stay.Goals as goal

pub returns : goal.returns
returns c = owed_replies_stay
