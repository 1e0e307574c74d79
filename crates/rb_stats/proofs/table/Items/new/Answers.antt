use Rattle.std.proofs.Common.{length, sym, ap}
use Rattle.rb_stats.proofs.Entries.{empty_table}
use Rattle.rb_stats.proofs.table.Items.new.Goals as goal

pub invariant_of-result : goal.invariant_of-result
invariant_of-result c = (empty_table c.in_ok-written.field-0 c.in_ok-written.ensures.empty c.in_ok-written.ensures.cap, sym (ap (λ es. length es) c.in_ok-written.ensures.empty))
