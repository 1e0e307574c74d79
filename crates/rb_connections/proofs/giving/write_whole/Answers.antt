use Rattle.std.proofs.Common.{arith}
use Rattle.rb_connections.proofs.Fragments.{written_whole}
use Rattle.rb_connections.proofs.giving.write_whole.Goals as goal

pub returns-clause-whole : goal.returns-clause-whole
returns-clause-whole c = λ some. record {
  some = c.requires.some;
  few = omega (arith, c.if-len-gt-FRAGMENT_SIZE.false, c.len-len.ensures.len);
  is_marked =
      written_whole c.args.reply.now.bytes c.lend.result.now _ c.len-len.result
      (omega (arith, c.if-len-gt-FRAGMENT_SIZE.false, c.len-len.ensures.len)) c.len-len.ensures.len c.lend.ensures.bytes
      (c.write_fragment-count.ensures.written some);
  is_empty = c.clear.ensures.empty;
}
