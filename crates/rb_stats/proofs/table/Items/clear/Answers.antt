use Rattle.std.proofs.Common.{◌≡◌, [], length, refl, sym, ap, ◌∙◌, arith}
use Rattle.std.proofs.lemmas.Map.Entries.{length-values_of}
use Rattle.rb_xdr.specs.Pool.{Pool}
use Rattle.rb_stats.specs.declared.item.Item.{Item}
use Rattle.rb_stats.specs.Table.{Table}
use Rattle.rb_stats.proofs.Entries.{empty_table, most_items}
use Rattle.rb_stats.proofs.table.Items.clear.Goals as goal

pub invariant_of-self : goal.invariant_of-self
invariant_of-self c =
    let is = c.remove_all.ensures.items in
    let none : c.remove_all.new.items.entries ≡ [] = ap (λ (p : Pool Item). p.entries) is in
    let cap : c.remove_all.new.items.cap ≡ 192 = ap (λ (p : Pool Item). p.cap) is ∙ c.self.invariant.0.cap in
    (empty_table c.remove_all.new.items none cap, rw none refl)

pub returns-clause-few : goal.returns-clause-few
returns-clause-few c =
    let all : length c.args.self.now.all ≡ length c.self.inside.items.entries = ap (λ (t : Table). length t.all) (sym c.self.view_is) ∙ length-values_of c.self.inside.items.entries in
    omega (arith, all, most_items c.self.inside.items c.self.invariant.0)
