use Rattle.std.proofs.Common.{◌∙◌}
use Rattle.rb_xdr.proofs.Types.{exact_from}
use Rattle.rb_xdr.proofs.FormLaws.{first_fault}
use Rattle.rb_xdr.proofs.Taking.{what_is_read, none_is_spelled}
use Rattle.rb_xdr.proofs.xdr.Xdr.take.Goals as goal

pub returns-clause-found : goal.returns-clause-found
returns-clause-found g c =
    let exact = exact_from g.Self.Xdr.is_value g.Self.Xdr.spelling g.Self.Xdr.reads c.laws.ensures.sound c.laws.ensures.complete in
    what_is_read g.Self.Xdr.is_value g.Self.Xdr.spelling g.Self.Xdr.reads exact c.args.bytes.now (λ i. (c.type_inv.bytes i).fits) c.read.result c.read.ensures.exact

pub returns-clause-only : goal.returns-clause-only
returns-clause-only g c = λ v n begins.
    let exact = exact_from g.Self.Xdr.is_value g.Self.Xdr.spelling g.Self.Xdr.reads c.laws.ensures.sound c.laws.ensures.complete in
    c.read.ensures.exact ∙ (exact c.args.bytes.now (λ i. (c.type_inv.bytes i).fits) v n).1 begins

pub returns-clause-none : goal.returns-clause-none
returns-clause-none g c =
    let exact = exact_from g.Self.Xdr.is_value g.Self.Xdr.spelling g.Self.Xdr.reads c.laws.ensures.sound c.laws.ensures.complete in
    none_is_spelled g.Self.Xdr.is_value g.Self.Xdr.spelling g.Self.Xdr.reads exact c.args.bytes.now (λ i. (c.type_inv.bytes i).fits) c.read.result c.read.ensures.exact

pub returns-clause-fault : goal.returns-clause-fault
returns-clause-fault g c = first_fault g.Self.Xdr.form g.Self.Xdr.reads c.laws.ensures.faults c.args.bytes.now c.read.result c.read.ensures.exact
