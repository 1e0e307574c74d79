use Rattle.std.proofs.Common.{◌+◌, ◌++◌, length, take, drop, ap, ◌∙◌, arith}
use borrow.Rule.Slice.PartMut.{Post-is}
use Rattle.std.proofs.NetLemmas.SockAddrs.{in_storage-append}
use Rattle.rb_descriptors.proofs.put.Goals as goal

pub returns : goal.returns
returns c = λ front long stored.
    let at = c.args.at in
    let raw = c.args.raw.now in
    let bytes = c.args.bytes.now in
    let after = Post-is at (at + length bytes) raw (omega arith) in
    (λ i. take at raw ++ (c.copy_from_slice.ensures.after i ++ after i))
    ∙ ap (λ l. take at l ++ (bytes ++ drop (at + length bytes) l)) stored
    ∙ in_storage-append front bytes at long
