use Rattle.std.proofs.Common.{◌≡◌, ◌≤◌}
use Rattle.slab.specs.Slab.{slab_len}
use Rattle.rb_xdr.proofs.pool.Pool.written.Given as goal

-- as many blanks as rounds, with room for all
abbrev pub invariant-blanks : goal.invariant-blanks
invariant-blanks g l = record {
  len : slab_len l.values ≡ l._i;
  room : l.fn.cap ≤ l.values.capacity;
}
