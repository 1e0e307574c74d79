use Rattle.rb_xdr.specs.Xdr.{number}
use Rattle.rb_keep.proofs.Calls.{words_more, word_fits, words_count}
use Rattle.rb_keep.proofs.call.put_words.Goals as goal

pub put_bytes-requires : goal.put_bytes-requires
unfolding number
put_bytes-requires c = word_fits c.args.call.now.items c.loop-number.call.items c.args.numbers.now c.to_be_bytes.result c.loop-number.number-index _ c.loop-number-test.true c.loop-number.invariant c.to_be_bytes.ensures c.requires

pub loop-number-preserved : goal.loop-number-preserved
unfolding number
loop-number-preserved c = words_more c.args.call.now.items c.loop-number.call.items c.put_bytes.new.call.items c.args.numbers.now c.loop-number.number-index c.loop-number-test.true c.loop-number.invariant (rw c.to_be_bytes.ensures at c.put_bytes.ensures)

pub returns-clause-count : goal.returns-clause-count
returns-clause-count c = words_count c.args.call.now.items c.loop-number.call.items c.args.numbers.now c.loop-number.number-index c.loop-number-test.false c.loop-number.invariant
