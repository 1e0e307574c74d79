use Rattle.std.proofs.Common.{◌≡◌, ◌∙◌, ℕ, List, length, ap, subst, arith, Err}
use Rattle.rb_lines.specs.Lines.{read}
use Rattle.std.specs.Prelude.{nat_lt, vec_len, option_map}
use Rattle.rb_replay.specs.Checking.{whole_lines, is_cut, OfRun, AgreesWith}
use Rattle.rb_replay.proofs.Comparing.{agreed_as_read, refused_as_read, why_as_read, whole_as_read, not_read}
use Rattle.rb_replay.proofs.checking.check_all.Goals as goal

pub returns-in-Ok-check_lines-clause-ok : goal.returns-in-Ok-check_lines-clause-ok
returns-in-Ok-check_lines-clause-ok g c =
    let count : vec_len c.in-Ok.text ≡ length c.in-Ok.text.items = omega (arith, c.deref.ensures.len, ap (λ (xs : List ℕ). length xs) c.deref.ensures.value) in
    let cut : nat_lt (length c.whole_lines-whole.result.now) c.len.result ≡ is_cut c.in-Ok.text.items =
    rw c.len.ensures (rw c.whole_lines-whole.ensures (rw c.deref.ensures.value (ap (λ (n : ℕ). nat_lt (length (whole_lines c.in-Ok.text.items)) n) count))) in
    agreed_as_read c.args.beginning.now (g.R.Read.remaining c.args.reader.now) c.in-Ok.text.items _ c.in-Ok-check_lines.count c.in-Ok.ensures.bytes cut (subst (λ (t : List ℕ). OfRun c.args.beginning.now (AgreesWith t (nat_lt (length c.whole_lines-whole.result.now) c.len.result) c.in-Ok-check_lines.count) (read t)) (c.whole_lines-whole.ensures ∙ ap whole_lines c.deref.ensures.value) c.in-Ok-check_lines.ensures.ok)

pub returns-clause-refused : goal.returns-clause-refused
returns-clause-refused g c =
    refused_as_read {A = ℕ} c.args.beginning.now _ _ (Err c.in-Err-check_lines.fault) (whole_as_read _ _ c.in-Ok.ensures.bytes) (rw c.deref.ensures.value at (rw c.whole_lines-whole.ensures at c.in-Err-check_lines.ensures.err))

pub returns-clause-why : goal.returns-clause-why
returns-clause-why g c =
    why_as_read {A = ℕ} c.args.beginning.now _ _ (Err c.in-Err-check_lines.fault) (whole_as_read _ _ c.in-Ok.ensures.bytes) (rw c.deref.ensures.value at (rw c.whole_lines-whole.ensures at c.in-Err-check_lines.ensures.err))

pub returns-in-Err-clause-why : goal.returns-in-Err-clause-why
returns-in-Err-clause-why g c = not_read c.args.beginning.now (option_map whole_lines (g.R.Read.remaining c.args.reader.now)) _ c.in-Err.ensures.err
