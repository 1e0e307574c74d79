use Rattle.std.proofs.Common.{◌≡◌}
use Rattle.std.specs.Prelude.{vec_len, vec_capacity}
use Rattle.rb_xdr.proofs.kept.zeros.Given as goal

-- as many zeros as rounds, in memory for all
abbrev pub invariant-zeros : goal.invariant-zeros
invariant-zeros l = record {
  len : vec_len l.memory ≡ l._i;
  memory : vec_capacity l.memory ≡ l.fn.len;
}
