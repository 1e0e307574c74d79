use Rattle.std.proofs.Common.{refl}
use Rattle.std.proofs.lemmas.Result.{err_from_is_err_and}
use Rattle.rb_xdr.specs.Xdr.{read_number}
use Rattle.rb_show.specs.declared.show.Shown.TheVariants.{Port}
use Rattle.rb_show.specs.Telling.{take_one, give}
use Rattle.rb_show.specs.Replies.{tell_port}
use Rattle.rb_show.proofs.Fronts.{pauses_then, takes_give}
use Rattle.rb_show.proofs.telling.take_port.Goals as goal

pub returns-in_err-port-clause-takes : goal.returns-in_err-port-clause-takes
unfolding tell_port
returns-in_err-port-clause-takes c =
    let p = err_from_is_err_and c.from_residual.result c.from_residual.ensures.1 in
    rw (p.1, p.2) (pauses_then (take_one read_number) (λ port. give (Port port)) c.args.bytes.now _ c.in_err-port.ensures.takes)

pub returns-clause-takes : goal.returns-clause-takes
unfolding tell_port
returns-clause-takes c =
    takes_give (take_one read_number) (λ port. give (Port port)) c.args.bytes.now c.in_ok-port.port c.in_ok-port.used (Port c.in_ok-port.port) c.in_ok-port.ensures.takes (λ end content. refl)
