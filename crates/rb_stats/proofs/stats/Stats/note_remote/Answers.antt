use Rattle.std.proofs.Common.{◌≡◌, length, Some, sym, subst, ap, ◌∙◌, arith}
use Rattle.std.specs.Prelude.{filter_map}
use Rattle.rb_stats.specs.Statistics.{Count, count_of}
use Rattle.rb_stats.specs.Statistics.Note.{Forwarded}
use Rattle.rb_stats.specs.Stats.{Stats, StandsForHistory, key_count}
use Rattle.rb_stats.proofs.Entries.{in_six}
use Rattle.rb_stats.proofs.Histories.{holds, after_count, stat-forwarded}
use Rattle.rb_stats.proofs.stats.Stats.note_remote.Goals as goal

pub returns-clause-history : goal.returns-clause-history
returns-clause-history c = λ notes h.
    let s = c.self.inside in
    let before : StandsForHistory _ notes = subst (λ (kept : Stats). StandsForHistory kept notes) (sym c.self.view_is) h in
    let one : Count = record { key = record { version = c.args.version; target = c.args.target; proc = Some c.args.proc }; passed = c.args.passed; indirect = c.args.indirect } in
    let held = holds s.two s.three s.four s.items.all s.items.memory s.items.tie notes before in
    let stands = after_count s.two s.three s.four s.items.all s.items.memory s.items.tie notes before c.count.new.self.all (Forwarded c.args.version c.args.target c.args.proc c.args.passed c.args.indirect) one
    (c.count.ensures.holds (filter_map count_of notes) held) (λ version. stat-forwarded version notes c.args.version c.args.target c.args.proc c.args.passed c.args.indirect) in
    rw (c.count.ensures.memory, c.count.ensures.tie) stands

pub returns-clause-cost : goal.returns-clause-cost
returns-clause-cost c =
    let keys : key_count c.args.self.now ≡ length c.self.inside.items.all = ap key_count (sym c.self.view_is) ∙ omega (arith, in_six c.self.inside.items.all) in
    record { rises = c.count.ensures.cost.rises; steps = omega (arith, keys, c.count.ensures.cost.steps); tie = c.count.ensures.cost.tie }

pub returns-clause-few : goal.returns-clause-few
returns-clause-few c =
    let keys : key_count c.args.self.now ≡ length c.self.inside.items.all = ap key_count (sym c.self.view_is) ∙ omega (arith, in_six c.self.inside.items.all) in
    omega (arith, keys, c.count.ensures.few)
