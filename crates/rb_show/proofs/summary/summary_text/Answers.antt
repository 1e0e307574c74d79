use Rattle.std.proofs.Common.{◌≡◌, ◌<◌, ◌++◌, length, get_or, rules, ap, ◌∙◌, arith}
use Rattle.std.specs.String.{string_bytes}
use Rattle.rb_show.specs.Summary.{shown_rows, summary_heading, summary_line}
use Rattle.rb_show.proofs.GrowingTexts.{one_more}
use Rattle.rb_show.proofs.summary.summary_text.Goals as goal

pub loop-prog-preserved : goal.loop-prog-preserved
loop-prog-preserved c =
    let line = summary_line c.args.form (shown_rows c.args.rows.now) in
    let programs = c.deref-prog-items.result.now in
    let within : c.loop-prog.prog-index < length programs = omega arith in
    let pushed : string_bytes c.push_str.new.self ≡ string_bytes c.loop-prog.text ++ line (get_or programs c.loop-prog.prog-index 0) = search rules in
    pushed ∙ ap (λ xs. xs ++ line (get_or programs c.loop-prog.prog-index 0)) c.loop-prog.invariant
    ∙ one_more line summary_heading programs c.loop-prog.prog-index 0 within
