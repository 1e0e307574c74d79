use Rattle.std.proofs.Common.{sym, ◌∙◌}
use Rattle.rb_show.proofs.HeadReads.{takes_read, head_ends, lacks_words, is_no_head}
use Rattle.rb_show.proofs.head.take_head.Goals as goal

pub returns-in-Ok-clause-takes : goal.returns-in-Ok-clause-takes
returns-in-Ok-clause-takes c = takes_read c.args.bytes.now c.in-Ok.read (sym c.in-Ok.ensures.read) c.in-Ok.ensures.within

pub returns-in-Ok-clause-some : goal.returns-in-Ok-clause-some
returns-in-Ok-clause-some c = (head_ends c.args.bytes.now c.in-Ok.read (sym c.in-Ok.ensures.read)).0

pub returns-then-may_begin-clause-takes : goal.returns-then-may_begin-clause-takes
returns-then-may_begin-clause-takes c = lacks_words c.args.bytes.now (sym c.in-Err.ensures.read) (sym c.may_begin.ensures ∙ c.if-may_begin.true)

pub returns-else-may_begin-clause-takes : goal.returns-else-may_begin-clause-takes
returns-else-may_begin-clause-takes c = is_no_head c.args.bytes.now (sym c.may_begin.ensures ∙ c.if-may_begin.false)
