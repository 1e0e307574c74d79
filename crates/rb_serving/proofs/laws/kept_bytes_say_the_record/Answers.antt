use Rattle.rb_serving.proofs.MessageFronts.{kept_says}
use Rattle.rb_serving.proofs.laws.kept_bytes_say_the_record.Goals as goal

pub returns : goal.returns
returns c = kept_says
