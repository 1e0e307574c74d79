use Rattle.rb_keep.proofs.Calls.{opaque_put}
use Rattle.rb_keep.proofs.call.put_opaque.Goals as goal

pub returns-clause-opaque : goal.returns-clause-opaque
returns-clause-opaque c =
    opaque_put c.args.call.now.items c.put_words.new.call.items c.put_bytes.new.call.items c.put_bytes-2.new.call.items c.args.content.now c.put_words.ensures.words c.put_bytes.ensures (rw c.residue.ensures at c.put_bytes-2.ensures)
