use Rattle.std.proofs.Common.{◌∙◌, ap, refl, Ok, Err}
use Rattle.rb_policy.specs.Outcomes.{outcome_of_count, after_write}
use Rattle.rb_links.specs.Outgoing.{Outgoing}
use Rattle.rb_links.proofs.Rests.{rest_is}
use Rattle.rb_links.proofs.link.Link.write.Goals as goal
use Rattle.rb_links.proofs.link.Link.write.Goals.{in-Ok, in_default-came}

pub returns-clause-rest : goal.returns-clause-rest
returns-clause-rest c =
    let rest = rest_is c.send-came.result c.args.self.now.outbox c.send-came.new.self c.send-came.ensures.left c.send-came.ensures.kept in
    elim c.match-came.branch [
      | in-Ok w ↦ rw w.self-is rest
      | in_default-came w ↦ rw w.self-is rest
    ]

pub returns-clause-wrote : goal.returns-clause-wrote
returns-clause-wrote c = λ taken. elim c.match-came.branch [
  | in-Ok w ↦ record {
    came = Ok w.in-Ok.n;
    bytes = rw w.self-is w.in-Ok.ensures.left;
    after = rw (w.self-is, w.saturating_add-self.ensures) refl;
    next_is = c.after_write.ensures ∙ ap after_write (c.outcome_of_count.ensures ∙ ap outcome_of_count w.came-is);
  }
  | in_default-came w ↦ record {
    came = Err w.in_default-came.field-0;
    bytes = rw w.self-is (ap (λ (o : Outgoing). o.bytes) w.in_default-came.ensures.kept);
    after = rw w.self-is refl;
    next_is = c.after_write.ensures ∙ ap after_write (c.outcome_of_count.ensures ∙ ap outcome_of_count (w.came-is ∙ w.in_default-came.is));
  }
]
