use Rattle.std.proofs.Common.{◌-◌, ℕ, List, leb, refl, sym, ap, ◌∙◌}
use Rattle.std.proofs.lemmas.List.{length-drop}
use Rattle.rb_connections.specs.declared.giving.Rest.TheVariants.{Held}
use Rattle.rb_connections.proofs.Fragments.{held_part}
use Rattle.rb_connections.proofs.WrittenParts.{writes_next}
use Rattle.rb_connections.proofs.giving.write_held.Goals as goal

pub returns-clause-writes : goal.returns-clause-writes
returns-clause-writes c = λ registry.
    let buffer : List ℕ = c.args.buffer.now.bytes in
    let left = ap (λ (n : ℕ). n - c.args.start.now) c.len.ensures.len in
    let last = ap (λ (n : ℕ). leb n 1024) (left ∙ sym (length-drop c.args.start.now buffer)) in
    let p = held_part buffer c.args.start.now _ c.min.result _ left c.min.ensures refl in
    writes_next registry buffer (Held c.args.start.now) _ c.lend-data.result.now _ c.write_part.new.room _ _
    (c.lend-data.ensures.bytes ∙ p.0) last p.1 refl tt c.write_part.result c.write_part.ensures.writes
