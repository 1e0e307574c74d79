use Rattle.std.proofs.Common.{refl}
use Rattle.rb_model.specs.declared.served.Response.TheVariants.{Reply, Forwarded}
use Rattle.rb_model.specs.Step.Event.{Datagram}
use Rattle.rb_core.specs.MeteredCalls.{reply_look}
use Rattle.rb_core.proofs.WithLooks.{no_look, then_look}
use Rattle.rb_engine.proofs.Reached.{bytes_are, within_limit, datagram_records, datagram_goes, silent_records, silent_goes}
use Rattle.rb_engine.proofs.Paying.{served_of, paid_event}
use Rattle.rb_engine.proofs.engine.Engine.answer.Goals as goal

pub invariant_of-self : goal.invariant_of-self
invariant_of-self c = record { paid = paid_event (Datagram c.args.self.now.moment c.args.caller.who c.args.content.now) c.args.self.now.core _ _ _ c.args.self.now.looks.steps (datagram_goes _ c.datagram.new.self.core _ _ c.args.self.now.moment c.args.caller.who _ Reply _ _ c.udp_reply-reply.follows.holds-at-none.begun c.in-Reply.ensures.acts (rw c.udp_reply-reply.ensures.held at c.record_datagram.ensures) c.args.self.now.fits c.args.caller.is_who (bytes_are c.args.content.now (λ i. (c.type_inv.content i).fits))) (then_look (Datagram c.args.self.now.moment c.args.caller.who c.args.content.now) (reply_look c.datagram.new.self) c.args.self.now.core c.datagram.new.self _ c.datagram.ensures.bound.rises c.datagram.ensures.priced c.udp_reply-reply.follows.holds-at-none.paid) c.args.self.now.paid; fits = c.args.self.now.fits }

pub invariant_of-self-in-Forwarded : goal.invariant_of-self-in-Forwarded
invariant_of-self-in-Forwarded c = record { paid = paid_event (Datagram c.args.self.now.moment c.args.caller.who c.args.content.now) c.args.self.now.core _ _ _ c.args.self.now.looks.steps (datagram_goes _ c.datagram.new.self.core _ c.datagram.new.self.core.steps_before c.args.self.now.moment c.args.caller.who _ Forwarded _ _ refl c.in-Forwarded.ensures.acts c.record_datagram-in-Forwarded.ensures c.args.self.now.fits c.args.caller.is_who (bytes_are c.args.content.now (λ i. (c.type_inv.content i).fits))) (no_look (Datagram c.args.self.now.moment c.args.caller.who c.args.content.now) (reply_look c.datagram.new.self) c.args.self.now.core c.datagram.new.self c.datagram.ensures.bound.rises c.datagram.ensures.priced) c.args.self.now.paid; fits = c.args.self.now.fits }

pub invariant_of-self-in-NoCall : goal.invariant_of-self-in-NoCall
invariant_of-self-in-NoCall c = record { paid = paid_event (Datagram c.args.self.now.moment c.args.caller.who c.args.content.now) c.args.self.now.core _ _ _ c.args.self.now.looks.steps (silent_goes _ c.datagram.new.self.core c.args.self.now.moment c.args.caller.who _ c.datagram.result _ _ c.in-NoCall.is c.datagram.ensures.acts c.record_datagram-in-NoCall.ensures c.args.self.now.fits c.args.caller.is_who (bytes_are c.args.content.now (λ i. (c.type_inv.content i).fits))) (no_look (Datagram c.args.self.now.moment c.args.caller.who c.args.content.now) (reply_look c.datagram.new.self) c.args.self.now.core c.datagram.new.self c.datagram.ensures.bound.rises c.datagram.ensures.priced) c.args.self.now.paid; fits = c.args.self.now.fits }

pub returns-in-Reply-clause-recorded : goal.returns-in-Reply-clause-recorded
returns-in-Reply-clause-recorded c = datagram_records _ c.datagram.new.self.core c.args.self.now.moment c.args.caller.who _ Reply _ _ c.in-Reply.ensures.acts (rw c.udp_reply-reply.ensures.held at c.record_datagram.ensures)

pub returns-in-Forwarded-clause-recorded : goal.returns-in-Forwarded-clause-recorded
returns-in-Forwarded-clause-recorded c = datagram_records _ c.datagram.new.self.core c.args.self.now.moment c.args.caller.who _ Forwarded _ _ c.in-Forwarded.ensures.acts c.record_datagram-in-Forwarded.ensures

pub returns-in-NoCall-clause-recorded : goal.returns-in-NoCall-clause-recorded
returns-in-NoCall-clause-recorded c = silent_records _ c.datagram.new.self.core c.args.self.now.moment c.args.caller.who _ c.datagram.result _ _ c.in-NoCall.is c.datagram.ensures.acts c.record_datagram-in-NoCall.ensures

pub returns-in-Reply-clause-priced : goal.returns-in-Reply-clause-priced
returns-in-Reply-clause-priced c = then_look (Datagram c.args.self.now.moment c.args.caller.who c.args.content.now) (reply_look c.datagram.new.self) c.args.self.now.core c.datagram.new.self _ c.datagram.ensures.bound.rises c.datagram.ensures.priced c.udp_reply-reply.follows.holds-at-none.paid

pub returns-in-Forwarded-clause-priced : goal.returns-in-Forwarded-clause-priced
returns-in-Forwarded-clause-priced c = no_look (Datagram c.args.self.now.moment c.args.caller.who c.args.content.now) (reply_look c.datagram.new.self) c.args.self.now.core c.datagram.new.self c.datagram.ensures.bound.rises c.datagram.ensures.priced

pub returns-in-NoCall-clause-priced : goal.returns-in-NoCall-clause-priced
returns-in-NoCall-clause-priced c = no_look (Datagram c.args.self.now.moment c.args.caller.who c.args.content.now) (reply_look c.datagram.new.self) c.args.self.now.core c.datagram.new.self c.datagram.ensures.bound.rises c.datagram.ensures.priced

pub record_datagram-requires : goal.record_datagram-requires
record_datagram-requires c = record { within = within_limit _ _ (served_of _ _ _ c.args.self.now.paid) }

pub record_datagram-requires-in-Forwarded : goal.record_datagram-requires-in-Forwarded
record_datagram-requires-in-Forwarded c = record { within = within_limit _ _ (served_of _ _ _ c.args.self.now.paid) }

pub record_datagram-requires-in-NoCall : goal.record_datagram-requires-in-NoCall
record_datagram-requires-in-NoCall c = record { within = within_limit _ _ (served_of _ _ _ c.args.self.now.paid) }
