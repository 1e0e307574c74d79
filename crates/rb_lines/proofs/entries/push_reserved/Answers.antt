use Rattle.std.proofs.Common.{arith}
use Rattle.rb_answers.specs.declared.reserved.Reservation.{Reservation}
use Rattle.rb_lines.proofs.Reserves.{one_more}
use Rattle.rb_lines.proofs.entries.push_reserved.Goals as goal

pub loop-reservation-preserved : goal.loop-reservation-preserved
loop-reservation-preserved c =
    let none : Reservation = record { first = 0; last = 0; uid = 0 } in
    let short = c.push_reservation.ensures.short in
    let few = c.loop-reservation.invariant.1 in (
      one_more _ _ _ c.args.all.now c.loop-reservation.reservation-index none c.loop-reservation-test.true c.loop-reservation.invariant.0 c.push_reservation.ensures.text,
      omega (arith, short, few),
    )
