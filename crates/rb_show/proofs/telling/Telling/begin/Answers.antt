use Rattle.std.proofs.Common.{◌≡◌, ◌++◌, Ok, Err, refl, rules}
use Rattle.std.proofs.lemmas.Result.{err_from_is_err_and}
use Rattle.rb_show.specs.Heads.{take_head}
use Rattle.rb_show.specs.Telling.{lines_text}
use Rattle.rb_show.specs.Replies.{by_head, tell_reply}
use Rattle.rb_show.specs.Stages.{check_head, first_lines}
use Rattle.rb_show.proofs.Fronts.{pauses_then}
use Rattle.rb_show.proofs.Tellings.{head_stops, head_tells}
use Rattle.rb_show.proofs.telling.Telling.begin.Goals as goal

pub returns-in_err-head : goal.returns-in_err-head
unfolding tell_reply
returns-in_err-head c =
    let p = err_from_is_err_and c.from_residual.result c.from_residual.ensures.1 in
    rw (p.1, p.2, c.requires) (refl, refl, pauses_then take_head (by_head c.args.self.now.form c.args.self.now.ask.question c.args.self.now.xid) c.args.bytes.now _ c.in_err-head.ensures.takes)

pub returns-in-Err : goal.returns-in-Err
returns-in-Err c =
    let refused : check_head c.in_ok-head.head c.args.self.now.xid ≡ Err c.in-Err.fault = search rules in
    rw c.requires (refl, refl, head_stops c.args.self.now.ask c.args.self.now.form c.args.self.now.xid c.args.bytes.now c.in_ok-head.head c.in_ok-head.used c.in_ok-head.ensures.takes c.in-Err.fault refused)

pub returns : goal.returns
returns c =
    let follows : check_head c.in_ok-head.head c.args.self.now.xid ≡ Ok tt = search rules in
    let added : c.add_lines.new.text.items ≡ c.args.text.now.items ++ lines_text (first_lines c.args.self.now.form c.args.self.now.ask.question) = search rules in
    rw (c.requires, c.clear.ensures.items, c.clear-2.ensures.items, c.first_stage.ensures)
    (head_tells c.args.self.now.ask c.args.self.now.form c.args.self.now.xid c.args.bytes.now c.in_ok-head.head c.in_ok-head.used c.in_ok-head.ensures.takes c.args.text.now.items c.add_lines.new.text.items c.in_ok-head.ensures.some
    follows added)
