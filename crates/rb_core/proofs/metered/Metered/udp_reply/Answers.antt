use Rattle.std.proofs.Common.{◌+◌, length, List, ℕ, refl, ◌∙◌, sym, ap, subst}
use Rattle.rb_xdr.specs.Meter.{Meter, Pays}
use Rattle.rb_model.specs.State.{State}
use Rattle.rb_core.specs.Events.{count_shown}
use Rattle.rb_core.specs.StandsFor.{CoreView}
use Rattle.rb_core.proofs.Begun.{same_tie}
use Rattle.rb_core.proofs.Lent.{begins_old, shown_before}
use Rattle.rb_core.proofs.Metering.{bounded, reply_within, reply_paid, pays_exactly}
use Rattle.rb_core.proofs.Reached.{begun_reached}
use Rattle.rb_core.proofs.metered.Metered.udp_reply.Goals as goal

pub invariant_of-self : goal.invariant_of-self
invariant_of-self c = record {
  tie = ap (λ (m : Meter). m.tie) c.lend_reply.ensures.cost ∙ c.self.invariant.tie ∙ sym (same_tie c.self.inside.core c.begin.new.self (count_shown c.self.inside.meter) c.begin.ensures);
  reached = begun_reached c.self.inside.core c.begin.new.self (count_shown c.self.inside.meter) c.begin.ensures c.self.invariant.reached;
}

pub returns : goal.returns
returns c =
    let cost = pays_exactly _ _ _ (subst (λ (held : CoreView). Pays c.self.inside.meter c.lend_reply.new.meter (1 + length held.reply)) c.begin.ensures c.lend_reply.ensures.cost) in
    let same = c.lend_reply.ensures.held ∙ ap (λ (held : CoreView). held.reply) c.begin.ensures in (
      (
        refl,
        λ metered. tt,
        record {
          begun = begins_old _ c.args.self.now c.self.view_is c.begin.new.self c.begin.ensures;
          paid = reply_paid _ c.args.self.now c.self.view_is (record { core = c.begin.new.self; meter = c.lend_reply.new.meter }) cost;
          bound = bounded _ c.args.self.now c.self.view_is (record { core = c.begin.new.self; meter = c.lend_reply.new.meter }) 0 (length c.lend_reply.result.now) c.self.invariant.reached (reply_within _ _ _ (length c.lend_reply.result.now) (ap (λ (xs : List ℕ). length xs) same) cost);
        },
      ),
      record {
        begun = tt;
        held = same ∙ ap (λ (m : _). m.core.reply) c.self.view_is;
        reply = shown_before _ c.args.self.now c.self.view_is c.begin.new.self c.begin.ensures (λ (s : State). s.reply) _ c.lend_reply.ensures.reply;
      },
    )
