use Rattle.std.proofs.Common.{◌≡◌, ◌++◌, take}
use Rattle.rb_xdr.specs.Xdr.{words}
use Rattle.rb_keep.proofs.call.put_words.Given as goal

-- the numbers so far are put
abbrev pub invariant-loop-number : goal.invariant-loop-number
invariant-loop-number l = l.call.items ≡ l.fn.call.items ++ words (take l.number-index l.numbers)
