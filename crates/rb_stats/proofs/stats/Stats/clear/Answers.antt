use Rattle.std.proofs.Common.{◌≡◌, length, sym, ap, ◌∙◌, arith}
use Rattle.rb_stats.specs.Stats.{key_count}
use Rattle.rb_stats.proofs.Entries.{in_six}
use Rattle.rb_stats.proofs.Histories.{fresh}
use Rattle.rb_stats.proofs.stats.Stats.clear.Goals as goal

pub returns-clause-cleared : goal.returns-clause-cleared
returns-clause-cleared c =
    let left = c.clear.new.self in
    fresh c.new-self-inside.result c.new-self-inside-2.result c.new-self-inside-3.result left.all left.memory left.tie c.new-self-inside.ensures c.new-self-inside-2.ensures c.new-self-inside-3.ensures c.clear.ensures.empty

pub returns-clause-cost : goal.returns-clause-cost
returns-clause-cost c =
    let keys : key_count c.args.self.now ≡ length c.self.inside.items.all = ap key_count (sym c.self.view_is) ∙ omega (arith, in_six c.self.inside.items.all) in
    rw keys c.clear.ensures.cost

pub returns-clause-few : goal.returns-clause-few
returns-clause-few c =
    let keys : key_count c.args.self.now ≡ length c.self.inside.items.all = ap key_count (sym c.self.view_is) ∙ omega (arith, in_six c.self.inside.items.all) in
    omega (arith, keys, c.clear.ensures.few)
