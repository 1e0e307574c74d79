use Rattle.rb_rpc.proofs.Markings.{one_begins}
use Rattle.rb_rpc.proofs.marks.one_fragment.Goals as goal

pub returns-clause-content : goal.returns-clause-content
returns-clause-content c = one_begins c.args.bytes.now c.number_at-header.result c.number_at-header.ensures c.if-header-lt-LAST.false c.if-bytes-end.false
