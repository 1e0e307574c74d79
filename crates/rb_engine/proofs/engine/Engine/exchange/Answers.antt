use Rattle.std.proofs.Common.{take, length, arith}
use Rattle.std.proofs.lemmas.List.{length-take}
use Rattle.rb_model.specs.Exchanges.{count_given, taken_in}
use Rattle.rb_engine.specs.Recording.{exchange_events}
use Rattle.rb_engine.proofs.Reached.{bytes_are, within_limit}
use Rattle.rb_engine.proofs.Exchanges.{Exchanged, exchange_records, exchange_goes}
use Rattle.rb_engine.proofs.Paying.{served_of, paid_on, exchange_paid}
use Rattle.rb_engine.proofs.engine.Engine.exchange.Goals as goal

pub invariant_of-self : goal.invariant_of-self
invariant_of-self c =
    let now = c.args.self.now in
    let done = c.exchange-done in
    let n = count_given done.result in
    let given = take n done.new.room in
    let h : Exchanged now.moment c.args.id (length done.new.room) n c.args.piece.now given (taken_in done.result) now.core.core done.new.self.core =
    record {
      count = omega (arith, c.exchange-done.ensures.fits, length-take n done.new.room);
      at_once = rw c.exchange-done.auto.room c.exchange-done.ensures.count;
      acts = c.exchange-done.ensures.acts;
    } in
    record {
      paid = paid_on now.core done.new.self now.tape c.record_exchange.new.tape now.looks.steps 0 (λ s. exchange_events now.moment c.args.id c.args.piece.now n) now.looks.steps
          (exchange_goes now.moment c.args.id (length done.new.room) n c.args.piece.now given (taken_in done.result) now.core.core done.new.self.core h now.tape c.record_exchange.new.tape
          (rw c.count_given.ensures at c.record_exchange.ensures) c.args.self.now.fits c.ranges.id.fits (bytes_are c.args.piece.now (λ i. (c.type_inv.piece i).fits)) (omega (arith, c.count_fits.ensures, c.exchange-done.auto.room, c.exchange-done.ensures.fits)))
          (omega arith)
          (exchange_paid now.moment c.args.id (length done.new.room) n c.args.piece.now given (taken_in done.result) now.core.core done.new.self.core h _ now.core.meter done.new.self.meter c.exchange-done.ensures.priced)
          c.args.self.now.paid;
      fits = c.args.self.now.fits;
    }

pub record_exchange-requires : goal.record_exchange-requires
record_exchange-requires c = record { within = within_limit _ _ (served_of _ _ _ c.args.self.now.paid) }

pub returns-clause-recorded : goal.returns-clause-recorded
returns-clause-recorded c =
    exchange_records c.args.self.now.moment c.args.id (length c.exchange-done.new.room) (count_given c.exchange-done.result) c.args.piece.now (take (count_given c.exchange-done.result) c.exchange-done.new.room) (taken_in c.exchange-done.result) c.args.self.now.core.core c.exchange-done.new.self.core
    (record {
      count = omega (arith, c.exchange-done.ensures.fits, length-take (count_given c.exchange-done.result) c.exchange-done.new.room);
      at_once = rw c.exchange-done.auto.room c.exchange-done.ensures.count;
      acts = c.exchange-done.ensures.acts;
    })
    c.args.self.now.tape c.record_exchange.new.tape (rw c.count_given.ensures at c.record_exchange.ensures)
