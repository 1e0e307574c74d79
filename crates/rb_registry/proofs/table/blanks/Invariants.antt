use Rattle.std.proofs.Common.{◌≡◌, ◌≤◌}
use Rattle.std.specs.Prelude.{vec_len, vec_capacity}
use Rattle.rb_registry.proofs.table.blanks.Given as goal

-- as many blanks as rounds, in memory for all
abbrev pub invariant-blanks : goal.invariant-blanks
invariant-blanks l = record {
  len : vec_len l.made ≡ l._i;
  memory : l.fn.count ≤ vec_capacity l.made;
}
