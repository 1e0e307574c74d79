use Rattle.std.proofs.Common.{sym, ap, ◌∙◌}
use Rattle.rb_evidence.specs.Table.{lines_of}
use Rattle.rb_evidence.proofs.Cuts.{cut_pieces, one_piece}
use Rattle.rb_policy.specs.Machine.{named}
use Rattle.rb_sockets.specs.Machine.{after_lines}
use Rattle.rb_sockets.proofs.machine.Search.take.Goals as goal

pub loop-line-preserved : goal.loop-line-preserved
loop-line-preserved c =
    ap (λ s. after_lines c.args.listing (named c.args.name) s (lines_of c.in-Some.back.now)) c.take_line.ensures
    ∙ ap (after_lines c.args.listing (named c.args.name) c.loop-line.self) (sym (cut_pieces 10 c.in-Some.line.now c.in-Some.back.now c.loop-line.rest.now c.in-Some.ensures.some))
    ∙ c.loop-line.invariant

pub returns : goal.returns
returns c =
    c.take_line-2.ensures
    ∙ ap (after_lines c.args.listing (named c.args.name) c.loop-line.self) (sym (one_piece 10 c.loop-line.rest.now c.in_default.ensures.none))
    ∙ c.loop-line.invariant
