use Rattle.std.proofs.Common.{arith, ◌∙◌, ap, take, length, ℕ}
use Rattle.std.proofs.lemmas.List.{length-take}
use Rattle.rb_replay.proofs.Comparing.{lines_where_long, lines_where_short, whole_len_le}
use Rattle.rb_replay.proofs.checking.whole_lines.Goals as goal

pub returns-then-text-longest_input : goal.returns-then-text-longest_input
returns-then-text-longest_input c = lines_where_long c.args.text.now (rw c.longest_input.ensures.value at c.if-text-longest_input.true)

pub slice_bounds-result-end : goal.slice_bounds-result-end
slice_bounds-result-end c = omega (arith, c.whole_len.ensures, whole_len_le c.args.text.now (length c.args.text.now), length-take c.whole_len.result c.args.text.now)

pub returns : goal.returns
returns c =
    ap (λ (n : ℕ). take n c.args.text.now) c.whole_len.ensures ∙ lines_where_short c.args.text.now (rw c.longest_input.ensures.value at c.if-text-longest_input.false)
