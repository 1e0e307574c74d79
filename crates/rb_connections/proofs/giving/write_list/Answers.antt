use Rattle.std.proofs.Common.{ℕ, Some, ap, ◌∙◌}
use Rattle.rb_connections.specs.declared.giving.Rest.TheVariants.{Listed}
use Rattle.rb_connections.proofs.WrittenParts.{writes_next}
use Rattle.rb_connections.proofs.giving.write_list.Goals as goal

pub returns-clause-writes : goal.returns-clause-writes
returns-clause-writes c = λ buffer.
    let p = c.next_part-part.ensures in
    writes_next c.args.registry.now buffer (Listed c.args.list.now) _ c.lend-data.result.now _ c.write_part-next.new.room _ _
    (c.lend-data.ensures.bytes ∙ p.part) p.last p.rest (ap (λ (n : ℕ). Some n) p.stamp) p.told
    c.write_part-next.result c.write_part-next.ensures.writes
