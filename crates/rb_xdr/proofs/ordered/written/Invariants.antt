use Rattle.std.proofs.Common.{◌≡◌}
use Rattle.std.specs.Prelude.{vec_len, vec_capacity}
use Rattle.rb_xdr.proofs.ordered.written.Given as goal

-- as many blanks as rounds, in memory for all
abbrev pub invariant-blanks : goal.invariant-blanks
invariant-blanks l = record {
  len : vec_len l.entries ≡ l._i;
  memory : vec_capacity l.entries ≡ l.fn.cap;
}
