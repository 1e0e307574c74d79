use Rattle.std.proofs.Common.{sym, ◌∙◌}
use Rattle.rb_xdr.proofs.Ordering.{found_none, found_here, found_other}
use Rattle.rb_xdr.proofs.ordered.Ordered.find.Goals as goal

pub returns-in-Some-clause-key : goal.returns-in-Some-clause-key
returns-in-Some-clause-key c = found_here c.args.number c.args.self.now.entries c.last_upto.ensures.rising (c.in-Some.last, c.in-Some.key) (sym c.in-Some.is ∙ c.last_upto.ensures.last) c.if-last-number.true

pub returns-in_default-clause-key : goal.returns-in_default-clause-key
returns-in_default-clause-key c = found_other c.args.number c.args.self.now.entries c.last_upto.ensures.rising (c.in-Some.last, c.in-Some.key) (sym c.in-Some.is ∙ c.last_upto.ensures.last) c.if-last-number.false

pub returns-in_default-2-clause-key : goal.returns-in_default-2-clause-key
returns-in_default-2-clause-key c = found_none c.args.number c.args.self.now.entries c.last_upto.ensures.rising (sym c.in_default.is ∙ c.last_upto.ensures.last)
