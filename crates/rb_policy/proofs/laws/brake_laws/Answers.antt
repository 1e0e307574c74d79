use Rattle.std.proofs.Common.{refl}
use Rattle.rb_policy.specs.Brake.{admits, admit}
use Rattle.rb_policy.proofs.BrakeLaws.{never_more, never_held_back, have_one_place, are_networks, strangers_count}
use Rattle.rb_policy.proofs.laws.brake_laws.Goals as goal

pub returns-clause-more : goal.returns-clause-more
returns-clause-more c = never_more

pub returns-clause-back : goal.returns-clause-back
returns-clause-back c = never_held_back

pub returns-clause-places : goal.returns-clause-places
returns-clause-places c = have_one_place

pub returns-clause-networks : goal.returns-clause-networks
returns-clause-networks c = are_networks

pub returns-clause-example : goal.returns-clause-example
unfolding admits admit
returns-clause-example c = refl

pub returns-clause-strangers : goal.returns-clause-strangers
returns-clause-strangers c = strangers_count
