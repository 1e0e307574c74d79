use Rattle.std.proofs.Common.{sym, ◌∙◌, arith}
use Rattle.rb_rpc.proofs.CallsStay.{end_at_the_place}
use Rattle.rb_rpc.proofs.CallFeeds.{byte_fed, rest_fed}
use Rattle.rb_rpc.proofs.WholeHeads.{head_fed}
use Rattle.rb_rpc.proofs.feed.CallFeed.feed.Goals.{in-Xid, in_default}
use Rattle.rb_rpc.proofs.feed.CallFeed.feed.Goals as goal

pub overflow_cast-self : goal.overflow_cast-self
overflow_cast-self c = record { fits = omega (arith, (end_at_the_place c.args.bytes.now (λ i. (c.type_inv.bytes i).fits) c.in-Call.head c.in-Call.place (sym c.read_call.ensures.verdict ∙ c.in-Call.is)).short) }

pub returns-in-Call-clause-after : goal.returns-in-Call-clause-after
returns-in-Call-clause-after c =
    elim c.match-matches.branch [
      | in-Xid w ↦ (head_fed c.args.self.now c.args.bytes.now c.in-Call.head c.in-Call.place (λ i. (c.type_inv.bytes i).fits) (omega (arith, c.if-self-eq0.true)) w.in-Xid.is (sym c.read_call.ensures.verdict ∙ c.in-Call.is)).stands
      | in_default w ↦ absurd cc
    ]

pub returns-in-Call-clause-arguments : goal.returns-in-Call-clause-arguments
returns-in-Call-clause-arguments c =
    elim c.match-matches.branch [
      | in-Xid w ↦ (head_fed c.args.self.now c.args.bytes.now c.in-Call.head c.in-Call.place (λ i. (c.type_inv.bytes i).fits) (omega (arith, c.if-self-eq0.true)) w.in-Xid.is (sym c.read_call.ensures.verdict ∙ c.in-Call.is)).arguments_are
      | in_default w ↦ absurd cc
    ]

pub head-preserved : goal.head-preserved
head-preserved c = record {
  within = omega (arith, c.head-test.true);
  fed = byte_fed c.args.self.now c.head.self c.feed_byte.new.self c.args.bytes.now c.head.count c.head-test.true c.head.invariant.fed c.feed_byte.ensures.after c.feed_byte.ensures.none;
}

pub returns-else-not-is_call-clause-after : goal.returns-else-not-is_call-clause-after
returns-else-not-is_call-clause-after c = (rest_fed c.args.self.now c.head.self c.args.bytes.now c.head.count c.head.invariant.fed (sym c.is_call.ensures ∙ c.if-not-is_call.false)).stands

pub returns-else-not-is_call-clause-arguments : goal.returns-else-not-is_call-clause-arguments
returns-else-not-is_call-clause-arguments c = (rest_fed c.args.self.now c.head.self c.args.bytes.now c.head.count c.head.invariant.fed (sym c.is_call.ensures ∙ c.if-not-is_call.false)).arguments_are
