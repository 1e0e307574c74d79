use Rattle.rb_promises.proofs.MetLaws.{settings_meet_laws}
use Rattle.rb_promises.proofs.options.settings_meet_laws.Goals as goal

pub returns : goal.returns
returns c = settings_meet_laws
