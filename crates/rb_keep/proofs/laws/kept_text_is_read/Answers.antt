use Rattle.rb_keep.proofs.Leads.{kept_text_is_read}
use Rattle.rb_keep.proofs.laws.kept_text_is_read.Goals as goal

pub returns : goal.returns
returns c = kept_text_is_read
