use Rattle.std.proofs.Common.{◌≡◌}
use Rattle.std.specs.VecDeque.{deque_len, deque_capacity}
use Rattle.rb_policy.proofs.recent.memory_for.Given as goal

-- as many as rounds, in memory for all
abbrev pub invariant-moments : goal.invariant-moments
invariant-moments l = record {
  len : deque_len l.moments ≡ l._i;
  memory : deque_capacity l.moments ≡ l.fn.most;
}
