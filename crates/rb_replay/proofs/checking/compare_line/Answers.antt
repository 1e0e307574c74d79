use Rattle.std.proofs.Common.{◌≡◌, true, false, refl, sym, ◌∙◌}
use Rattle.rb_replay.proofs.Comparing.{no_output, other_output, same_output}
use Rattle.rb_replay.proofs.checking.compare_line.Goals as goal

pub returns-in_default-get-clause-err : goal.returns-in_default-get-clause-err
returns-in_default-get-clause-err c = (refl, no_output c.args.outputs.now c.args.next.now c.args.line.now _ c.in-Some.ensures c.in_default-get.ensures.lookup.3)

pub returns-then-not-branch-clause-err : goal.returns-then-not-branch-clause-err
returns-then-not-branch-clause-err c =
    let at = c.in-Some-get.ensures.lookup in
    (refl, other_output c.args.outputs.now c.args.next.now c.args.line.now _ c.in-Some-get.output.now c.in-Some.ensures at.3.0 at.1 (λ same. let clash : false ≡ true = sym c.if-not-branch.true ∙ c.in_ok-is_printed_as.ensures.same.1 same in absurd cc))

pub returns-clause-ok : goal.returns-clause-ok
returns-clause-ok c =
    let at = c.in-Some-get.ensures.lookup in
    same_output c.args.outputs.now c.args.next.now c.args.line.now _ c.in-Some-get.output.now c.in-Some.ensures at.3.0 at.1 (c.in_ok-is_printed_as.ensures.same.0 c.if-not-branch.false)
