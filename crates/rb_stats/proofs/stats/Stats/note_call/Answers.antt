use Rattle.std.proofs.Common.{◌≡◌, ℕ, List, sym, subst, ap, ◌∙◌}
use Rattle.std.specs.Prelude.{slice_index}
use Rattle.rb_stats.specs.declared.counts.Counts.{Counts}
use Rattle.rb_stats.specs.Statistics.{greatest_int}
use Rattle.rb_stats.specs.Statistics.Note.{Called}
use Rattle.rb_stats.specs.Stats.{Stats, StandsForHistory}
use Rattle.rb_stats.specs.Counting.{stat_at}
use Rattle.rb_stats.proofs.Histories.{calling, kept_in, full_call, noted_two, noted_three, noted_four}
use Rattle.rb_stats.proofs.stats.Stats.note_call.Goals as goal

pub returns-in-Two-clause-history : goal.returns-in-Two-clause-history
returns-in-Two-clause-history c = λ notes h.
    let s = c.self.inside in
    noted_two s.two s.three s.four s.items.all s.items.memory s.items.tie notes (subst (λ (kept : Stats). StandsForHistory kept notes) (sym c.self.view_is) h) (λ version. Called version c.args.proc) _ (calling notes c.args.proc) c.args.version
    c.count_call.new.self c.in-Two.is c.count_call.ensures.info

pub returns-in-Three-clause-history : goal.returns-in-Three-clause-history
returns-in-Three-clause-history c = λ notes h.
    let s = c.self.inside in
    noted_three s.two s.three s.four s.items.all s.items.memory s.items.tie notes (subst (λ (kept : Stats). StandsForHistory kept notes) (sym c.self.view_is) h) (λ version. Called version c.args.proc) _ (calling notes c.args.proc) c.args.version
    c.count_call-in-Three.new.self c.in-Three.is c.count_call-in-Three.ensures.info

pub returns-in-Four-clause-history : goal.returns-in-Four-clause-history
returns-in-Four-clause-history c = λ notes h.
    let s = c.self.inside in
    noted_four s.two s.three s.four s.items.all s.items.memory s.items.tie notes (subst (λ (kept : Stats). StandsForHistory kept notes) (sym c.self.view_is) h) (λ version. Called version c.args.proc) _ (calling notes c.args.proc) c.args.version
    c.count_call-in-Four.new.self c.in-Four.is c.count_call-in-Four.ensures.info

pub returns-in-Two-clause-full : goal.returns-in-Two-clause-full
returns-in-Two-clause-full c = λ full.
    let s = c.self.inside in
    let here = subst (λ v. slice_index (stat_at v c.args.self.now).info c.args.proc ≡ greatest_int) c.in-Two.is full in
    let inside : slice_index s.two.info c.args.proc ≡ greatest_int = subst (λ (kept : Stats). slice_index kept.two.info c.args.proc ≡ greatest_int) (sym c.self.view_is) here in
    ap (λ (counts : Counts). kept_in counts s.three s.four s.items.all s.items.memory s.items.tie) (c.count_call.ensures.info ∙ ap (λ (info : List ℕ). record s.two { info = info }) (full_call c.args.proc s.two.info inside))
    ∙ c.self.view_is

pub returns-in-Three-clause-full : goal.returns-in-Three-clause-full
returns-in-Three-clause-full c = λ full.
    let s = c.self.inside in
    let here = subst (λ v. slice_index (stat_at v c.args.self.now).info c.args.proc ≡ greatest_int) c.in-Three.is full in
    let inside : slice_index s.three.info c.args.proc ≡ greatest_int = subst (λ (kept : Stats). slice_index kept.three.info c.args.proc ≡ greatest_int) (sym c.self.view_is) here in
    ap (λ (counts : Counts). kept_in s.two counts s.four s.items.all s.items.memory s.items.tie) (c.count_call-in-Three.ensures.info ∙ ap (λ (info : List ℕ). record s.three { info = info }) (full_call c.args.proc s.three.info inside))
    ∙ c.self.view_is

pub returns-in-Four-clause-full : goal.returns-in-Four-clause-full
returns-in-Four-clause-full c = λ full.
    let s = c.self.inside in
    let here = subst (λ v. slice_index (stat_at v c.args.self.now).info c.args.proc ≡ greatest_int) c.in-Four.is full in
    let inside : slice_index s.four.info c.args.proc ≡ greatest_int = subst (λ (kept : Stats). slice_index kept.four.info c.args.proc ≡ greatest_int) (sym c.self.view_is) here in
    ap (λ (counts : Counts). kept_in s.two s.three counts s.items.all s.items.memory s.items.tie) (c.count_call-in-Four.ensures.info ∙ ap (λ (info : List ℕ). record s.four { info = info }) (full_call c.args.proc s.four.info inside))
    ∙ c.self.view_is
