use Rattle.std.proofs.Common.{◌∙◌}
use Rattle.rb_xdr.specs.Xdr.{IsContent, opaque, read_opaque}
use Rattle.rb_xdr.proofs.Types.{opaque_is_type}
use Rattle.rb_xdr.specs.XdrLends.{reading_of}
use Rattle.rb_xdr.proofs.Taking.{what_is_read, none_is_lent}
use Rattle.rb_xdr.proofs.opaque.take_opaque.Goals as goal

pub returns-clause-found : goal.returns-clause-found
returns-clause-found c =
    let limit = c.args.limit in
    what_is_read (IsContent limit) opaque (read_opaque limit) (opaque_is_type limit).exact c.args.bytes.now (λ i. (c.type_inv.bytes i).fits) (reading_of c.lend_opaque.result) c.lend_opaque.ensures

pub returns-clause-only : goal.returns-clause-only
returns-clause-only c = λ content n begins.
    c.lend_opaque.ensures ∙ ((opaque_is_type c.args.limit).exact c.args.bytes.now (λ i. (c.type_inv.bytes i).fits) content n).1 begins

pub returns-clause-none : goal.returns-clause-none
returns-clause-none c =
    let limit = c.args.limit in
    none_is_lent (IsContent limit) opaque (read_opaque limit) (opaque_is_type limit).exact c.args.bytes.now (λ i. (c.type_inv.bytes i).fits) c.lend_opaque.result c.lend_opaque.ensures
