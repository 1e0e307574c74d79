use Rattle.std.proofs.Common.{rules, [], ◌∙◌, ap, refl, Ok, Err}
use Rattle.rb_policy.specs.Outcomes.{outcome_of_count, after_read}
use Rattle.rb_links.proofs.link.Link.read.Goals as goal
use Rattle.rb_links.proofs.link.Link.read.Goals.{in-Ok, in_default-came}

pub returns-clause-inbox : goal.returns-clause-inbox
returns-clause-inbox c = elim c.match-came.branch [
  | in-Ok w ↦ rw w.self-is (w.in-Ok.ensures.read.slice, w.in-Ok.ensures.read.behind)
  | in_default-came w ↦ rw w.self-is ([], w.in_default-came.ensures.none ∙ search rules)
]

pub returns-clause-read : goal.returns-clause-read
returns-clause-read c = λ taken. elim c.match-came.branch [
  | in-Ok w ↦ record {
    came = Ok w.in-Ok.n;
    bytes = rw w.self-is w.in-Ok.ensures.read;
    after = rw (w.self-is, w.reads_on.ensures, c.room-room.ensures) refl;
    next_is = c.after_read.ensures ∙ ap (λ o. after_read o c.awaits_answer-waits.result) (c.outcome_of_count.ensures ∙ ap outcome_of_count w.came-is) ∙ ap (after_read _) c.awaits_answer-waits.ensures;
  }
  | in_default-came w ↦ record {
    came = Err w.in_default-came.field-0;
    bytes = rw w.self-is w.in_default-came.ensures.none;
    after = rw w.self-is refl;
    next_is = c.after_read.ensures ∙ ap (λ o. after_read o c.awaits_answer-waits.result) (c.outcome_of_count.ensures ∙ ap outcome_of_count (w.came-is ∙ w.in_default-came.is)) ∙ ap (after_read _) c.awaits_answer-waits.ensures;
  }
]
