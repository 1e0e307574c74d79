use Rattle.std.proofs.Common.{◌≡◌, ℕ, length, take, ap, ◌∙◌, arith, rules}
use Rattle.std.specs.Prelude.{min}
use Rattle.rb_show.proofs.Showings.{few_taken, feeds}
use Rattle.rb_show.proofs.showing.Showing.feed.Goals as goal

pub returns : goal.returns
returns g c =
    let count : c.min-count.result ≡ min (length c.args.bytes.now) c.args.self.now.allowed = search rules in
    let piece : take c.min-count.result c.args.bytes.now ≡ take c.args.self.now.allowed c.args.bytes.now = ap (λ (n : ℕ). take n c.args.bytes.now) count ∙ few_taken c.args.bytes.now c.args.self.now.allowed in
    rw c.after_piece.ensures (feeds g.W.Write.contents c.args.writer.now c.written.new.writer c.args.self.now _ c.args.bytes.now (take c.min-count.result c.args.bytes.now) c.unmark.new.held c.new-text.result c.tell-used.new.text
    c.in-Ok.ended c.tell-used.result c.written.result piece c.in-Ok.ensures c.new-text.ensures.items (omega arith) c.drop_front.ensures (rw c.deref.ensures.value at c.tell-used.ensures.tells) (rw c.deref-2.ensures.value at c.written.ensures))
