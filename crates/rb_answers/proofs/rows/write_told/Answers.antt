use Rattle.std.proofs.Common.{ℕ, ◌+◌, true, List, length, length-append, ap, ◌∙◌, arith}
use Rattle.rb_xdr.specs.Meter.{Meter}
use Rattle.rb_xdr.specs.Xdr.{boolean, number}
use Rattle.rb_xdr.proofs.Types.{length-boolean}
use Rattle.rb_xdr.proofs.Words.{length-number}
use Rattle.rb_answers.proofs.RowLengths.{entry_is_short, entry_written, pieces_size}
use Rattle.rb_answers.proofs.rows.write_told.Goals as goal

pub returns-clause-short : goal.returns-clause-short
returns-clause-short c = entry_is_short c.args.text.now c.args.netid c.requires.content

pub returns-clause-written : goal.returns-clause-written
returns-clause-written c =
    entry_written c.args.text.now c.args.netid c.requires.content c.args.out.now c.requires.room c.extend.new.self c.extend-2.new.self c.extend-3.new.self _ _ _
    (rw c.entry_head.ensures at c.extend.ensures.puts) c.extend-2.ensures.puts (rw (c.entry_end-end.ensures.end, c.residue.ensures) at c.extend-3.ensures.puts)

pub returns-clause-cost : goal.returns-clause-cost
returns-clause-cost c =
    let before = ap (λ (xs : List ℕ). length xs) c.entry_head.ensures in
    let behind = ap (λ (xs : List ℕ). length xs) (rw c.residue.ensures at c.entry_end-end.ensures.end) in
    let size = pieces_size c.args.text.now c.args.netid in
    c.extend-3.ensures.cost
    ∙ ap (λ (m : Meter). record m { steps = m.steps + length c.entry_end-end.result.now })
    (c.extend-2.ensures.cost ∙ ap (λ (m : Meter). record m { steps = m.steps + length c.args.text.now }) c.extend.ensures.cost)
    ∙ ap (λ (n : ℕ). record c.args.meter.now { steps = n }) (omega (arith, before, behind, size))

pub returns-clause-count : goal.returns-clause-count
returns-clause-count c =
    let behind = ap (λ (xs : List ℕ). length xs) (rw c.residue.ensures at c.entry_end-end.ensures.end) in
    let head = length-append (boolean true) (number (length c.args.text.now)) in
    omega (arith, behind, head, length-boolean true, length-number (length c.args.text.now), pieces_size c.args.text.now c.args.netid)
