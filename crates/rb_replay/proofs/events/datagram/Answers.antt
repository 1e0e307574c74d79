use Rattle.std.proofs.Common.{◌≡◌, ◌⊎◌, inl, inr, ℕ, List, refl, ap, ◌∙◌, rules}
use Rattle.rb_model.specs.Step.{step, datagram}
use Rattle.rb_model.specs.Step.Event.{Datagram}
use Rattle.rb_model.specs.Step.Output.{Silent, Replied}
use Rattle.rb_model.specs.declared.served.Response.{Response as Written}
use Rattle.rb_model.specs.declared.served.Response.TheVariants as outcomes
use Rattle.rb_model.specs.Served.{outcome_with}
use Rattle.rb_core.proofs.Outputs.{datagram_shown, shown_of}
use Rattle.rb_core.proofs.Begun.{stands_begun}
use Rattle.rb_core.specs.MeteredCalls.{reply_look}
use Rattle.rb_core.proofs.WithLooks.{no_look, then_look}
use Rattle.rb_replay.proofs.events.datagram.Goals as goal

is_silent : (given : Written) (reply : List ℕ) → (given ≡ outcomes.NoCall) ⊎ (given ≡ outcomes.Silent) → Silent ≡ shown_of (outcome_with given reply)
is_silent given reply (inl e) = rw e refl
is_silent given reply (inr e) = rw e refl

pub returns-in-NoCall-clause-ok : goal.returns-in-NoCall-clause-ok
unfolding step
returns-in-NoCall-clause-ok c = record {
  step = λ s h.
      let d = datagram_shown c.args.core.now.core c.datagram.new.self.core (λ t. datagram t c.args.now c.args.who c.args.content.now) _ c.datagram.ensures.acts s h in
      (is_silent c.datagram.result c.datagram.new.self.core.reply c.in-NoCall.is ∙ d.0, d.1);
  cost = no_look (Datagram c.args.now c.args.who c.args.content.now) (reply_look c.datagram.new.self) c.args.core.now c.datagram.new.self c.datagram.ensures.bound.rises c.datagram.ensures.priced;
}

pub returns-in-Forwarded-clause-ok : goal.returns-in-Forwarded-clause-ok
unfolding step
returns-in-Forwarded-clause-ok c = record {
  step = λ s h.
      let d = datagram_shown c.args.core.now.core c.datagram.new.self.core (λ t. datagram t c.args.now c.args.who c.args.content.now) _ c.datagram.ensures.acts s h in
      (rw c.in-Forwarded.is at d.0, d.1);
  cost = no_look (Datagram c.args.now c.args.who c.args.content.now) (reply_look c.datagram.new.self) c.args.core.now c.datagram.new.self c.datagram.ensures.bound.rises c.datagram.ensures.priced;
}

pub returns-in-Reply-clause-ok : goal.returns-in-Reply-clause-ok
unfolding step
returns-in-Reply-clause-ok c = record {
  step = λ s h.
      let d = datagram_shown c.args.core.now.core c.datagram.new.self.core (λ t. datagram t c.args.now c.args.who c.args.content.now) _ c.datagram.ensures.acts s h in
      (ap Replied (search rules) ∙ (rw c.in-Reply.is at d.0), stands_begun c.datagram.new.self.core _ _ c.udp_reply.follows.holds-at-none.begun _ d.1);
  cost = then_look (Datagram c.args.now c.args.who c.args.content.now) (reply_look c.datagram.new.self) c.args.core.now c.datagram.new.self _ c.datagram.ensures.bound.rises c.datagram.ensures.priced c.udp_reply.follows.holds-at-none.paid;
}
