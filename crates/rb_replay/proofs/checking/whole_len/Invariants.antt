use Rattle.std.proofs.Common.{◌≡◌, ◌≤◌, length}
use Rattle.rb_replay.specs.Checking.{whole_len}
use Rattle.rb_replay.proofs.checking.whole_len.Given as goal

abbrev pub invariant-loop-len : goal.invariant-loop-len
invariant-loop-len l = record {
  within : l.len ≤ length l.text;
  same : whole_len l.text (length l.text) ≡ whole_len l.text l.len;
}

abbrev pub decreases-loop-len : goal.decreases-loop-len
decreases-loop-len l = l.len
