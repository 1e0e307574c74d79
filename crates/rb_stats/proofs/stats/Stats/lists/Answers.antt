use Rattle.std.proofs.Common.{◌≡◌, length, refl, sym, ap, ◌∙◌, arith}
use Rattle.rb_stats.specs.Stats.{Stats, key_count}
use Rattle.rb_stats.specs.Counting.{spelling}
use Rattle.rb_stats.specs.Table.{stat_in}
use Rattle.rb_stats.specs.declared.key.Version.TheVariants.{Two, Three, Four}
use Rattle.rb_stats.proofs.Entries.{in_six}
use Rattle.rb_stats.proofs.Histories.{kept_in}
use Rattle.rb_stats.proofs.Sizes.{length-spelling, length-stat}
use Rattle.rb_stats.proofs.stats.Stats.lists.Goals as goal

pub returns-clause-cost : goal.returns-clause-cost
returns-clause-cost c =
    let keys : key_count c.args.self.now ≡ length c.self.inside.items.all = ap key_count (sym c.self.view_is) ∙ omega (arith, in_six c.self.inside.items.all) in
    record {
      rises = omega (arith, c.lists.ensures.cost.rises, c.lists-2.ensures.cost.rises, c.lists-3.ensures.cost.rises);
      steps = omega (arith, keys, c.lists.ensures.cost.steps, c.lists-2.ensures.cost.steps, c.lists-3.ensures.cost.steps);
      tie = c.lists-3.ensures.cost.tie ∙ c.lists-2.ensures.cost.tie ∙ c.lists.ensures.cost.tie;
    }

pub returns-clause-size : goal.returns-clause-size
returns-clause-size c =
    let s = c.self.inside in
    let is : length (spelling (kept_in s.two s.three s.four s.items.all s.items.memory s.items.tie)) ≡ _ =
    length-spelling (kept_in s.two s.three s.four s.items.all s.items.memory s.items.tie) _ _ _ _ _ _ (length-stat (stat_in Two s.two s.items.all) c.self.invariant.0) (length-stat (stat_in Three s.three s.items.all) c.self.invariant.1) (length-stat (stat_in Four s.four s.items.all) c.self.invariant.2) in
    ap (λ (kept : Stats). length (spelling kept)) (sym c.self.view_is) ∙ is
    ∙ rw (c.lists.ensures.addrinfo, c.lists.ensures.rmtinfo, c.lists-2.ensures.addrinfo, c.lists-2.ensures.rmtinfo, c.lists-3.ensures.addrinfo, c.lists-3.ensures.rmtinfo) refl

pub returns-clause-few : goal.returns-clause-few
returns-clause-few c =
    let keys : key_count c.args.self.now ≡ length c.self.inside.items.all = ap key_count (sym c.self.view_is) ∙ omega (arith, in_six c.self.inside.items.all) in
    omega (arith, keys, c.lists.ensures.few)
