use Rattle.std.proofs.Common.{Err, rules, refl}
use Rattle.std.proofs.lemmas.Result.{err_from_is_err_and}
use Rattle.rb_plans.proofs.Inputs.{told_of_input, told_stop, told_reply, cut_input}
use Rattle.rb_plans.proofs.input.show_input.Goals as goal

pub returns-in_err-text : goal.returns-in_err-text
returns-in_err-text g c =
    let p = err_from_is_err_and c.from_residual.result c.from_residual.ensures.1 in
    rw (p.1, p.2) (cut_input (g.I.Read.remaining c.args.input.now) c.args.ask.now c.args.form (g.O.Write.contents c.args.output.now) _ c.in_err-text.ensures.err)

pub returns-in_err-bytes : goal.returns-in_err-bytes
returns-in_err-bytes g c =
    let p = err_from_is_err_and c.from_residual-in_err-bytes.result c.from_residual-in_err-bytes.ensures.1 in
    rw (p.1, p.2) (told_of_input (g.I.Read.remaining c.args.input.now) c.in_ok-text.text.items c.args.ask.now c.args.form (g.O.Write.contents c.args.output.now) (g.O.Write.contents c.args.output.now) (Err _) c.in_ok-text.ensures.bytes
    (told_stop c.args.ask.now c.args.form c.in_ok-text.text.items (g.O.Write.contents c.args.output.now) _ c.in_err-bytes.ensures.err))

pub returns : goal.returns
returns g c =
    told_of_input (g.I.Read.remaining c.args.input.now) c.in_ok-text.text.items c.args.ask.now c.args.form (g.O.Write.contents c.args.output.now) (g.O.Write.contents c.show_reply.new.writer) c.show_reply.result c.in_ok-text.ensures.bytes
    (told_reply c.args.ask.now c.args.form c.in_ok-text.text.items c.in_ok-bytes.bytes.items (g.O.Write.contents c.args.output.now) (g.O.Write.contents c.show_reply.new.writer) c.show_reply.result c.in_ok-bytes.ensures.ok (rw c.deref.ensures.value at c.show_reply.ensures))
