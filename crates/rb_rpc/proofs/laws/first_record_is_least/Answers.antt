use Rattle.rb_rpc.proofs.Markings.{first_is_least, none_where_no_front}
use Rattle.rb_rpc.proofs.laws.first_record_is_least.Goals as goal

pub returns-clause-least : goal.returns-clause-least
returns-clause-least c = first_is_least

pub returns-clause-none : goal.returns-clause-none
returns-clause-none c = none_where_no_front
