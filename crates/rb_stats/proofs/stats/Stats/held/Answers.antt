use Rattle.std.proofs.Common.{◌≡◌, length, sym, ap, ◌∙◌, arith}
use Rattle.rb_stats.specs.Stats.{key_count}
use Rattle.rb_stats.proofs.Entries.{in_six}
use Rattle.rb_stats.proofs.stats.Stats.held.Goals as goal

pub returns-clause-held : goal.returns-clause-held
returns-clause-held c =
    let keys : key_count c.args.self.now ≡ length c.self.inside.items.all = ap key_count (sym c.self.view_is) ∙ omega (arith, in_six c.self.inside.items.all) in
    omega (arith, keys, c.len.ensures.len)
