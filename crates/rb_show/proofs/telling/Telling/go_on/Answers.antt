use Rattle.std.proofs.Common.{refl}
use Rattle.std.proofs.lemmas.Result.{err_from_is_err_and}
use Rattle.rb_show.proofs.telling.Telling.go_on.Goals as goal

pub returns-in_err-next-in_default : goal.returns-in_err-next-in_default
returns-in_err-next-in_default c =
    let p = err_from_is_err_and c.from_residual-in_err-next-in_default.result c.from_residual-in_err-next-in_default.ensures.1 in
    let paused = c.in_err-next-in_default.ensures c.args.self.now.rows.items c.args.self.now.mappings.items in
    rw (p.1, p.2, c.requires.at) (refl, paused.0, paused.1)
