use Rattle.std.proofs.Common.{◌≡◌, ◌<◌, None, ap, sym, ◌∙◌, arith}
use Rattle.std.specs.Prelude.{vec_len, vec_capacity}
use Rattle.std.specs.List.{insert}
use Rattle.rb_xdr.specs.Pool.{value_at}
use Rattle.rb_xdr.specs.Ordered.{Ordered, count_upto, with_number}
use Rattle.rb_xdr.proofs.Ordering.{insert_place, rising_with}
use Rattle.rb_xdr.proofs.ordered.Ordered.insert.Goals as goal
use Rattle.rb_xdr.proofs.ordered.Ordered.insert.Goals.{In-Ok}

-- the vector with one more at that place is the list with one more number
is_with : (c : In-Ok) → c.insert.new.self.items ≡ with_number c.self.inside.entries.items c.args.number c.args.key
is_with c =
    let place : c.place-place.result ≡ count_upto c.args.number c.self.inside.entries.items = c.place-place.ensures.count ∙ ap (λ (o : Ordered). count_upto c.args.number o.entries) (sym c.self.view_is) in
    c.in-Ok.ensures.items ∙ ap (λ i. insert c.self.inside.entries.items i (c.args.number, c.args.key)) place ∙ insert_place c.args.number c.args.key c.self.inside.entries.items

pub invariant_of-self : goal.invariant_of-self
invariant_of-self c =
    let absent : value_at c.self.inside.entries.items c.args.number ≡ None = ap (λ (o : Ordered). value_at o.entries c.args.number) c.self.view_is ∙ c.requires.absent in
    rw (is_with c) (rising_with c.args.number c.args.key 0 c.self.inside.entries.items c.self.invariant (omega arith) absent)

pub returns-clause-ok : goal.returns-clause-ok
returns-clause-ok c =
    let room : vec_len c.self.inside.entries < vec_capacity c.self.inside.entries = omega (arith, c.if-len-capacity.false, c.len-2.ensures, c.capacity.ensures) in
    rw (is_with c, (c.in-Ok.ensures.in_place room).1.0) (ap (λ (o : Ordered). record o { entries = with_number o.entries c.args.number c.args.key }) c.self.view_is)
