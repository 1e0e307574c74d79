use Rattle.rb_address.proofs.CallerWords.{callers_are_spelled}
use Rattle.rb_address.proofs.laws.caller_laws.Goals as goal

pub returns : goal.returns
returns c = record { callers_are_spelled = callers_are_spelled }
