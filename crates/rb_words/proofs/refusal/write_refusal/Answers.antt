use Rattle.std.proofs.Common.{codes}
use Rattle.rb_words.specs.Refusals.{named_line}
use Rattle.rb_words.proofs.Written.{both}
use Rattle.rb_words.proofs.refusal.write_refusal.Goals as goal

pub returns : goal.returns
returns g c = both c.write_named.result _ (g.W.Write.contents c.writeln.new.self) _ (codes "rpcinfo: the words can't be read; see --help\n") (named_line c.args.shape.now c.args.refusal) c.in_ok-writeln.ensures.bytes c.write_named.ensures
