use Rattle.rb_show.proofs.HeadReads.{heads_read, heads_stay, no_head_comes}
use Rattle.rb_show.proofs.laws.heads_are_read.Goals as goal

pub returns-clause-read : goal.returns-clause-read
returns-clause-read c = heads_read

pub returns-clause-stay : goal.returns-clause-stay
returns-clause-stay c = heads_stay

pub returns-clause-none : goal.returns-clause-none
returns-clause-none c = no_head_comes
