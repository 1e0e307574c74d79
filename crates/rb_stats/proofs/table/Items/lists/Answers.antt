use Rattle.std.proofs.Common.{◌≡◌, length, sym, ap, ◌∙◌, arith}
use Rattle.std.proofs.lemmas.Map.Entries.{length-values_of}
use Rattle.rb_stats.specs.Table.{Table}
use Rattle.rb_stats.proofs.Entries.{most_items}
use Rattle.rb_stats.specs.declared.key.Info.TheVariants.{Addr, Rmt}
use Rattle.rb_stats.proofs.table.Items.lists.Goals as goal

pub lists_of-requires-clause-addrinfo : goal.lists_of-requires-clause-addrinfo
lists_of-requires-clause-addrinfo c = c.self.invariant.0.few c.args.version Addr

pub lists_of-requires-clause-rmtinfo : goal.lists_of-requires-clause-rmtinfo
lists_of-requires-clause-rmtinfo c = c.self.invariant.0.few c.args.version Rmt

pub returns-clause-few : goal.returns-clause-few
returns-clause-few c =
    let all : length c.args.self.now.all ≡ length c.self.inside.items.entries = ap (λ (t : Table). length t.all) (sym c.self.view_is) ∙ length-values_of c.self.inside.items.entries in
    omega (arith, all, most_items c.self.inside.items c.self.invariant.0)
