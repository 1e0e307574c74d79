use Rattle.std.proofs.Common.{sym, subst}
use Rattle.rb_stats.specs.Statistics.Note.{WasUnset}
use Rattle.rb_stats.specs.Stats.{Stats, StandsForHistory}
use Rattle.rb_stats.proofs.Histories.{unsetting, noted_two, noted_three, noted_four}
use Rattle.rb_stats.proofs.stats.Stats.note_unset.Goals as goal

pub returns-in-Two-clause-history : goal.returns-in-Two-clause-history
returns-in-Two-clause-history c = λ notes h.
    let s = c.self.inside in
    noted_two s.two s.three s.four s.items.all s.items.memory s.items.tie notes (subst (λ (kept : Stats). StandsForHistory kept notes) (sym c.self.view_is) h) (λ version. WasUnset version) _ (unsetting notes) c.args.version
    c.count_unset.new.self c.in-Two.is c.count_unset.ensures

pub returns-in-Three-clause-history : goal.returns-in-Three-clause-history
returns-in-Three-clause-history c = λ notes h.
    let s = c.self.inside in
    noted_three s.two s.three s.four s.items.all s.items.memory s.items.tie notes (subst (λ (kept : Stats). StandsForHistory kept notes) (sym c.self.view_is) h) (λ version. WasUnset version) _ (unsetting notes) c.args.version
    c.count_unset-in-Three.new.self c.in-Three.is c.count_unset-in-Three.ensures

pub returns-in-Four-clause-history : goal.returns-in-Four-clause-history
returns-in-Four-clause-history c = λ notes h.
    let s = c.self.inside in
    noted_four s.two s.three s.four s.items.all s.items.memory s.items.tie notes (subst (λ (kept : Stats). StandsForHistory kept notes) (sym c.self.view_is) h) (λ version. WasUnset version) _ (unsetting notes) c.args.version
    c.count_unset-in-Four.new.self c.in-Four.is c.count_unset-in-Four.ensures
