use Rattle.rb_engine.proofs.Noting.{Noting}
use Rattle.rb_engine.proofs.writing.write_on_each.Given as goal

abbrev pub invariant-loop-netid : goal.invariant-loop-netid
invariant-loop-netid g l = Noting l.fn.core l.core l.now l.prog l.vers l.netids l.netid-index l.fn.owners l.owners (g.W.Write.contents l.fn.writer) (g.W.Write.contents l.writer)
