use Rattle.std.proofs.Common.{◌≡◌, ◌++◌, refl, inl, rules}
use Rattle.std.proofs.lemmas.Result.{err_from_is_err_and}
use Rattle.rb_show.specs.Statistics.{VersionFields, version_stat, read_version}
use Rattle.rb_show.specs.Counts.{count_lines, tell_lists, tell_version}
use Rattle.rb_show.specs.Telling.{◌>>=◌, take_one, tell, lines_text}
use Rattle.rb_show.specs.Stages.{version_of, after_version}
use Rattle.rb_show.proofs.Fronts.{pauses_then}
use Rattle.rb_show.proofs.Stages.{numbers_next}
use Rattle.rb_show.proofs.statistics.next_numbers.Goals as goal

pub returns-in_err-numbers : goal.returns-in_err-numbers
unfolding tell_version
returns-in_err-numbers c = λ rows mappings.
    let p = err_from_is_err_and c.from_residual.result c.from_residual.ensures.1 in
    rw (p.1, p.2) (
      refl,
      pauses_then (tell_version c.args.form (version_of c.args.counted)) (after_version c.args.form c.args.counted) c.args.bytes.now _
          (pauses_then (take_one read_version) (λ (v : VersionFields). tell (count_lines c.args.form (version_of c.args.counted) (version_stat v)) >>= λ _. tell_lists c.args.form (version_of c.args.counted)) c.args.bytes.now _ c.in_err-numbers.ensures.takes),
    )

pub returns-in_err-add_lines : goal.returns-in_err-add_lines
returns-in_err-add_lines c = λ rows mappings.
    let p = err_from_is_err_and c.from_residual-in_err-add_lines.result c.from_residual-in_err-add_lines.ensures.1 in
    rw (p.1, p.2, c.in_err-add_lines.ensures.1) (c.in_err-add_lines.ensures.0, inl refl)

pub returns : goal.returns
returns c = λ rows mappings.
    let added : c.add_lines.new.text.items ≡ c.args.text.now.items ++ lines_text (count_lines c.args.form (version_of c.args.counted) (version_stat c.in_ok-numbers.numbers)) = search rules in
    numbers_next c.args.form rows mappings c.args.bytes.now c.in_ok-numbers.used c.args.text.now.items c.add_lines.new.text.items c.args.counted c.in_ok-numbers.numbers c.in_ok-numbers.ensures.some c.in_ok-numbers.ensures.takes added
