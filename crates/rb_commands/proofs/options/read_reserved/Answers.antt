use Rattle.std.proofs.Common.{rules, ◌≡◌, [], ◌∷◌, ◌++◌, sym}
use Rattle.std.proofs.lemmas.Result.{err_from_is_err_and}
use Rattle.rb_commands.specs.Options.{reserve_at}
use Rattle.rb_commands.proofs.Binds.{goes_on, stops, ends}
use Rattle.rb_commands.proofs.options.read_reserved.Goals as goal

pub returns-in_err-reservation : goal.returns-in_err-reservation
returns-in_err-reservation c =
    let p = err_from_is_err_and c.from_residual.result c.from_residual.ensures.1 in
    rw (p.1, p.2) (sym (stops reserve_at c.loop-text.reserved c.in_err-reservation.field-0.0 c.loop-text.text-index c.args.texts.now _ _ c.loop-text-test.true c.len.result c.len.ensures c.in_err-reservation.ensures.reservation c.loop-text.invariant))

pub loop-text-preserved : goal.loop-text-preserved
loop-text-preserved c =
    let grown : c.push.new.self ≡ c.loop-text.reserved ++ c.in_ok-reservation.reservation ∷ [] = search rules in
    rw grown (goes_on reserve_at c.loop-text.reserved c.in_ok-reservation.reservation c.loop-text.text-index c.args.texts.now _ _ c.loop-text-test.true c.len.result c.len.ensures c.in_ok-reservation.ensures.reservation c.loop-text.invariant)

pub returns : goal.returns
returns c = sym (ends reserve_at c.loop-text.reserved c.loop-text.text-index c.args.texts.now _ c.loop-text-test.false c.loop-text.invariant)
