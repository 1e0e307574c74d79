use Rattle.std.proofs.lemmas.Result.{err_from_is_err_and}
use Rattle.std.proofs.Common.{Ok, Err, ◌∙◌, sym, subst, arith}
use Rattle.rb_core.specs.Core.{TakesBytes}
use Rattle.rb_core.specs.Metered.{Metered}
use Rattle.rb_core.proofs.AtOnce.{alone}
use Rattle.rb_core.proofs.CallBounds.{exchange_within}
use Rattle.rb_core.proofs.Metering.{bounded, bytes_priced, bytes_quiet}
use Rattle.rb_core.proofs.Reached.{exchanged_reached}
use Rattle.rb_core.proofs.metered.Metered.bytes.Goals as goal

pub invariant_of-self : goal.invariant_of-self
invariant_of-self c = record {
  tie = c.exchange.ensures.same_meter ∙ c.self.invariant.tie ∙ sym c.exchange.ensures.tie;
  reached = exchanged_reached _ _ c.self.invariant.reached c.args.now c.args.id _ c.args.piece.now _ c.exchange.ensures.acts;
}

pub invariant_of-self-2 : goal.invariant_of-self-2
invariant_of-self-2 c = record {
  tie = c.exchange.ensures.same_meter ∙ c.self.invariant.tie ∙ sym c.exchange.ensures.tie;
  reached = exchanged_reached _ _ c.self.invariant.reached c.args.now c.args.id _ c.args.piece.now _ c.exchange.ensures.acts;
}

-- ---- a connection that is not there

pub returns-in_err-taken-clause-priced : goal.returns-in_err-taken-clause-priced
returns-in_err-taken-clause-priced c = bytes_priced _ c.args.self.now c.self.view_is (record { core = c.exchange.new.self; meter = c.exchange.new.meter }) c.args.now c.args.id _ c.args.piece.now _ c.exchange.ensures.acts c.exchange.ensures.cost

pub returns-in_err-taken-clause-bound : goal.returns-in_err-taken-clause-bound
returns-in_err-taken-clause-bound c =
    let p = err_from_is_err_and c.from_residual.result c.from_residual.ensures.1 in
    rw (p.1) (
    bounded _ c.args.self.now c.self.view_is (record { core = c.exchange.new.self; meter = c.exchange.new.meter }) 0 0 c.self.invariant.reached
    (exchange_within _ _ _ c.args.now c.args.id c.args.piece.now c.exchange.new.self _ 0 0 (Err c.in_err-taken.field-0.0) _ c.in_err-taken.ensures.acts (omega arith) c.in_err-taken.ensures.cost))

pub returns-in_err-taken-clause-quiet : goal.returns-in_err-taken-clause-quiet
returns-in_err-taken-clause-quiet c =
    let p = err_from_is_err_and c.from_residual.result c.from_residual.ensures.1 in
    rw (p.1) (
    bytes_quiet _ c.args.self.now c.self.view_is (record { core = c.exchange.new.self; meter = c.exchange.new.meter }) c.args.now c.args.id c.args.piece.now (Err c.in_err-taken.field-0.0) c.self.invariant.reached
    (alone c.args.now c.args.id c.args.piece.now _ _ _ _ _ c.exchange.auto.room c.in_err-taken.ensures.acts) c.in_err-taken.ensures.cost)

-- ---- bytes that were taken

pub returns-clause-acts : goal.returns-clause-acts
returns-clause-acts c =
    subst (λ (m : Metered). TakesBytes c.args.now c.args.id c.args.piece.now m.core c.exchange.new.self (Ok (c.in_ok-taken.field-0.taken, c.in_ok-taken.field-0.standing))) c.self.view_is
    (alone c.args.now c.args.id c.args.piece.now _ _ _ _ _ c.exchange.auto.room c.in_ok-taken.ensures.acts)

pub returns-clause-priced : goal.returns-clause-priced
returns-clause-priced c = bytes_priced _ c.args.self.now c.self.view_is (record { core = c.exchange.new.self; meter = c.exchange.new.meter }) c.args.now c.args.id _ c.args.piece.now _ c.exchange.ensures.acts c.exchange.ensures.cost

pub returns-clause-bound : goal.returns-clause-bound
returns-clause-bound c =
    bounded _ c.args.self.now c.self.view_is (record { core = c.exchange.new.self; meter = c.exchange.new.meter }) c.in_ok-taken.field-0.taken.count 0 c.self.invariant.reached
    (exchange_within _ _ _ c.args.now c.args.id c.args.piece.now c.exchange.new.self _ 0 0 (Ok c.in_ok-taken.field-0.taken) _ c.in_ok-taken.ensures.acts (omega arith) c.in_ok-taken.ensures.cost)

pub returns-clause-quiet : goal.returns-clause-quiet
returns-clause-quiet c =
    bytes_quiet _ c.args.self.now c.self.view_is (record { core = c.exchange.new.self; meter = c.exchange.new.meter }) c.args.now c.args.id c.args.piece.now (Ok (c.in_ok-taken.field-0.taken, c.in_ok-taken.field-0.standing)) c.self.invariant.reached
    (alone c.args.now c.args.id c.args.piece.now _ _ _ _ _ c.exchange.auto.room c.in_ok-taken.ensures.acts) c.in_ok-taken.ensures.cost
