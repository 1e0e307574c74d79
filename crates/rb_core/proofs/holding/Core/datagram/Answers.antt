use Rattle.std.proofs.Common.{◌≡◌, List, ℕ, length, refl, ap, subst, rules}
use Rattle.rb_rpc.specs.declared.call.Verdict.{Verdict}
use Rattle.rb_rpc.specs.Verdict.{verdict}
use Rattle.rb_address.specs.declared.caller.Caller.TheVariants.{Udp}
use Rattle.rb_rpc.specs.Feeds.{arguments_of}
use Rattle.rb_forward.specs.StandsFor.{slots_of}
use Rattle.rb_forward.specs.Table.{OnlyWaitsAnew}
use Rattle.rb_proto.specs.declared.books.Books.{Books}
use Rattle.rb_answers.specs.declared.context.Context.{Context}
use Rattle.rb_model.specs.declared.message.Message.{Message}
use Rattle.rb_model.specs.Calls.{Outcome, message_with, message_of, reply_in}
use Rattle.rb_model.specs.Served.{outcome_with, IsWritten}
use Rattle.rb_connections.specs.StandsFor.{Table}
use Rattle.rb_model.specs.declared.served.Served.TheVariants.{Answered}
use Rattle.rb_model.specs.declared.served.Response.{Response as Written}
use Rattle.rb_model.specs.declared.served.Response.TheVariants as outcomes
use Rattle.rb_core.specs.Awaits.{AreAwaited}
use Rattle.rb_core.specs.contracts.holding.Core.{the_view}
use Rattle.rb_core.specs.StandsFor.{CoreView}
use Rattle.rb_model.specs.Step.{longest_to}
use Rattle.rb_core.specs.Core.{context_of}
use Rattle.rb_core.specs.Eviction.{ServesInRoom}
use Rattle.rb_core.proofs.Awaited.{awaited_by_udp}
use Rattle.rb_core.proofs.Answering.{served_by}
use Rattle.rb_core.proofs.Steps.{datagram_acts}
use Rattle.rb_core.proofs.Begun.{with_steps_before, acts_begun}
use Rattle.rb_xdr.specs.Meter.{PaysAtMost}
use Rattle.rb_model.specs.Costs.{sizes_for, datagram_cost}
use Rattle.rb_core.specs.CallCosts.{may_register_in, sizes}
use Rattle.rb_core.proofs.Spending.{registers_as, datagram_pays}
use Rattle.rb_core.proofs.Cores.{core_changed}
use Rattle.rb_core.proofs.holding.Core.datagram.Goals as goal

says_so : (v : Verdict) (arguments content : List ℕ) → v ≡ verdict content → arguments ≡ arguments_of content → message_with v arguments ≡ message_of content
unfolding message_of
says_so v arguments content is behind = rw (is, behind) refl

-- what was done with the message that the content is
of_content : (context : Context) (said : Message) (arguments content : List ℕ) (before after : Table) (old new : Books) (given : Outcome) → said ≡ message_of content → arguments ≡ arguments_of content
    → ServesInRoom context said arguments before old after new given → ServesInRoom context (message_of content) (arguments_of content) before old after new given
of_content context said arguments content before after old new given says behind acts =
    subst (λ (xs : List ℕ). ServesInRoom context (message_of content) xs before old after new given) behind
    (subst (λ (m : Message). ServesInRoom context m arguments before old after new given) says acts)

written_is : (given : Written) (reply : List ℕ) → IsWritten (Answered given) reply → reply ≡ reply_in (outcome_with given reply)
written_is outcomes.NoCall reply none = none
written_is outcomes.Reply reply some = refl
written_is outcomes.Forwarded reply none = none
written_is outcomes.Silent reply none = none

pub returns-clause-acts : goal.returns-clause-acts
returns-clause-acts c =
    let content = c.args.content.now in
    let old : CoreView = record (with_steps_before (the_view c.self.inside) c.count-self-inside.result) { clock = c.max-self-inside.result } in
    let v = c.read_call-verdict.result in
    let arguments = c.arguments_behind-arguments.result.now in
    let says = says_so v arguments content c.read_call-verdict.ensures.verdict c.arguments_behind-arguments.ensures.arguments in
    let table = c.serve_verdict-served.new.connections in
    let books = c.serve_verdict-served.new.books in
    let reply = c.serve_verdict-served.new.out.bytes in
    let given : Outcome = outcome_with c.in-Answered.outcome reply in
    let longest : ℕ = longest_to old.setting.listener.terms c.args.who (length content) in
    let context : Context = context_of old (Udp c.args.who c.longest_to-longest.result) in
    let is_context : context ≡ context_of old (Udp c.args.who longest) = ap (λ (n : ℕ). context_of old (Udp c.args.who n)) c.longest_to-longest.ensures in
    let acts : ServesInRoom context (message_with v arguments) arguments old.connections old.books table books given = rw c.in-Answered.is at c.serve_verdict-served.ensures.acts in
    acts_begun _ (the_view c.self.inside) c.args.self.now _ c.count-self-inside.result _ c.self.view_is
    (datagram_acts (with_steps_before (the_view c.self.inside) c.count-self-inside.result) c.args.now c.max-self-inside.result c.args.who content table books reply c.serve_verdict-served.new.out.tie c.max-self-inside.ensures c.serve_verdict-served.ensures.leaves.reply.short
    given
    (served_by old (Udp c.args.who longest) context is_context (message_of content) (arguments_of content) table books given
    (of_content context (message_with v arguments) arguments content old.connections table old.books books given says c.arguments_behind-arguments.ensures.arguments acts)
    c.serve_verdict-served.ensures.leaves.frame c.serve_verdict-served.ensures.open.stays)
    (written_is c.in-Answered.outcome reply (rw c.in-Answered.is at c.serve_verdict-served.ensures.leaves.written)))

pub returns-clause-cost : goal.returns-clause-cost
returns-clause-cost c =
    let v = c.read_call-verdict.result in
    let lent = c.arguments_behind-arguments in
    let served = c.serve_verdict-served in
    let content : List ℕ = c.args.content.now in
    let old : CoreView = record (with_steps_before (the_view c.self.inside) c.count-self-inside.result) { clock = c.max-self-inside.result } in
    let says = says_so v lent.result.now content c.read_call-verdict.ensures.verdict lent.ensures.arguments in
    subst (λ (held : CoreView). PaysAtMost c.args.meter.now c.len.new.meter (datagram_cost (sizes_for (may_register_in held c.args.who) (message_of content) (sizes held.connections held.books served.new.books)) (length content) (length served.new.out.bytes))) c.self.view_is
    (datagram_pays (context_of old (Udp c.args.who c.longest_to-longest.result)) _ (registers_as _ old (Udp c.args.who c.longest_to-longest.result) refl) c.self.inside.connections c.self.inside.books served.new.books v lent.result.now content served.new.out c.args.meter.now c.clear.new.meter served.new.meter c.len.new.meter says lent.ensures.few
    c.clear.ensures.cost served.ensures.cost c.len.ensures.cost)

pub invariant_of-self : goal.invariant_of-self
invariant_of-self c =
    let old : CoreView = record (with_steps_before (the_view c.self.inside) c.count-self-inside.result) { clock = c.max-self-inside.result } in
    let table = c.serve_verdict-served.new.connections in
    let books = c.serve_verdict-served.new.books in
    let awaited : AreAwaited old.books.forwards table = λ number waits. c.serve_verdict-served.ensures.open.free number (c.self.invariant.awaited number waits) in
    let anew : OnlyWaitsAnew (Udp c.args.who c.longest_to-longest.result) (slots_of old.books.forwards) (slots_of books.forwards) = c.serve_verdict-served.ensures.leaves.waiting in
    core_changed _ _ _ _ _ _ _ _ _ _ _ _ _ c.self.invariant c.serve_verdict-served.ensures.open.stays
    c.serve_verdict-served.ensures.leaves.frame (search rules) (search rules) c.len.ensures.len c.serve_verdict-served.ensures.leaves.reply.short
    (awaited_by_udp old.books.forwards books.forwards c.args.who c.longest_to-longest.result table awaited anew)
    c.serve_verdict-served.ensures.lists
    (search rules) (search rules) (search rules)
