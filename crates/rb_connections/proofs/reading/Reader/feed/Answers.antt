use Rattle.std.proofs.Common.{refl, ◌∙◌, ◌++◌, take, arith}
use Rattle.rb_connections.proofs.Feeding.{run_fed, read_on, ended_in, none_in, length_of_rest}
use Rattle.rb_connections.proofs.reading.Reader.feed.Goals as goal

pub runs-preserved : goal.runs-preserved
runs-preserved c = record {
  within = omega (arith, c.feed_run-run.ensures.within, length_of_rest c.args.piece.now c.runs.count, c.runs.invariant.within);
  behind = record {
    inside = λ fed h.
        read_on c.feed_run-run.new.marks c.feed_run-run.new.self c.feed_run-run.new.kept fed c.args.piece.now c.runs.count c.feed_run-run.result.count c.feed_run-run.result.ended c.if-run.false
        (run_fed c.runs.self.marks c.runs.intake c.runs.kept _ _ _ c.feed_run-run.result.ended (fed ++ take c.runs.count c.args.piece.now) _ (c.runs.invariant.behind.inside fed h)
        c.feed_run-run.ensures.ends c.feed_run-run.ensures.after c.feed_run-run.ensures.data);
    cap = c.feed_run-run.ensures.cap ∙ c.runs.invariant.behind.cap;
    tie = c.feed_run-run.ensures.tie ∙ c.runs.invariant.behind.tie;
  };
  paid = record {
    rises = omega (arith, c.runs.invariant.paid.rises, c.feed_run-run.ensures.cost.rises);
    steps = omega (arith, c.runs.invariant.paid.steps, c.feed_run-run.ensures.cost.steps);
    tie = c.feed_run-run.ensures.cost.tie ∙ c.runs.invariant.paid.tie;
  };
}

pub returns-then-run-clause-taken : goal.returns-then-run-clause-taken
returns-then-run-clause-taken c = λ fed h.
    (ended_in (record { marks = c.feed_run-run.new.marks; head = c.runs.self.head }) c.feed_run-run.new.self c.feed_run-run.new.kept fed c.args.piece.now c.runs.count c.feed_run-run.result.count c.feed_run-run.result.ended c.end.result
    (omega (arith, c.feed_run-run.ensures.within, length_of_rest c.args.piece.now c.runs.count, c.runs.invariant.within)) c.if-run.true
    (run_fed c.runs.self.marks c.runs.intake c.runs.kept _ _ _ c.feed_run-run.result.ended (fed ++ take c.runs.count c.args.piece.now) _ (c.runs.invariant.behind.inside fed h)
    c.feed_run-run.ensures.ends c.feed_run-run.ensures.after c.feed_run-run.ensures.data)
    c.end.ensures.verdict).taken

pub returns-then-run-clause-after : goal.returns-then-run-clause-after
returns-then-run-clause-after c = λ fed h.
    (ended_in (record { marks = c.feed_run-run.new.marks; head = c.runs.self.head }) c.feed_run-run.new.self c.feed_run-run.new.kept fed c.args.piece.now c.runs.count c.feed_run-run.result.count c.feed_run-run.result.ended c.end.result
    (omega (arith, c.feed_run-run.ensures.within, length_of_rest c.args.piece.now c.runs.count, c.runs.invariant.within)) c.if-run.true
    (run_fed c.runs.self.marks c.runs.intake c.runs.kept _ _ _ c.feed_run-run.result.ended (fed ++ take c.runs.count c.args.piece.now) _ (c.runs.invariant.behind.inside fed h)
    c.feed_run-run.ensures.ends c.feed_run-run.ensures.after c.feed_run-run.ensures.data)
    c.end.ensures.verdict).after

pub returns-clause-taken : goal.returns-clause-taken
returns-clause-taken c = λ fed h.
    (none_in (record { marks = c.runs.self.marks; head = c.runs.intake.head }) c.runs.intake c.runs.kept fed c.args.piece.now c.runs.count (omega (arith, c.runs-test.false, c.runs.invariant.within)) (c.runs.invariant.behind.inside fed h) refl).taken

pub returns-clause-after : goal.returns-clause-after
returns-clause-after c = λ fed h.
    (none_in (record { marks = c.runs.self.marks; head = c.runs.intake.head }) c.runs.intake c.runs.kept fed c.args.piece.now c.runs.count (omega (arith, c.runs-test.false, c.runs.invariant.within)) (c.runs.invariant.behind.inside fed h) refl).after
