use Rattle.std.proofs.Common.{arith}
use Rattle.rb_core.proofs.Parts.{parts_fit}
use Rattle.rb_core.proofs.holding.Core.held.Goals as goal

pub overflow_add-result : goal.overflow_add-result
overflow_add-result c =
    let whole = parts_fit c.held.result c.held-2.result 0 0 0 c.self.inside.connections.conns c.self.inside.books.registry.limit c.self.inside.books.forwards.cap
    c.held.ensures.bound (rw c.self.invariant.conns c.self.invariant.few_conns) c.held-2.ensures.bound (rw c.self.invariant.limit c.self.invariant.few_rows)
    (omega arith) (omega arith) (rw c.self.invariant.forwards c.self.invariant.few) (omega arith) in
    omega (arith, whole)

pub overflow_add-result-2 : goal.overflow_add-result-2
overflow_add-result-2 c =
    let whole = parts_fit c.held.result c.held-2.result c.held-3.result 0 0 c.self.inside.connections.conns c.self.inside.books.registry.limit c.self.inside.books.forwards.cap
    c.held.ensures.bound (rw c.self.invariant.conns c.self.invariant.few_conns) c.held-2.ensures.bound (rw c.self.invariant.limit c.self.invariant.few_rows)
    c.held-3.ensures.within (omega arith) (rw c.self.invariant.forwards c.self.invariant.few) (omega arith) in
    omega (arith, whole)

pub overflow_add-result-3 : goal.overflow_add-result-3
overflow_add-result-3 c =
    let whole = parts_fit c.held.result c.held-2.result c.held-3.result c.held-4.result 0 c.self.inside.connections.conns c.self.inside.books.registry.limit c.self.inside.books.forwards.cap
    c.held.ensures.bound (rw c.self.invariant.conns c.self.invariant.few_conns) c.held-2.ensures.bound (rw c.self.invariant.limit c.self.invariant.few_rows)
    c.held-3.ensures.within c.held-4.ensures.bound (rw c.self.invariant.forwards c.self.invariant.few) (omega arith) in
    omega (arith, whole)

pub overflow_add-result-4 : goal.overflow_add-result-4
overflow_add-result-4 c =
    let whole = parts_fit c.held.result c.held-2.result c.held-3.result c.held-4.result c.self.inside.reply_len c.self.inside.connections.conns c.self.inside.books.registry.limit c.self.inside.books.forwards.cap
    c.held.ensures.bound (rw c.self.invariant.conns c.self.invariant.few_conns) c.held-2.ensures.bound (rw c.self.invariant.limit c.self.invariant.few_rows)
    c.held-3.ensures.within c.held-4.ensures.bound (rw c.self.invariant.forwards c.self.invariant.few) (rw c.self.invariant.len c.self.invariant.short) in
    omega (arith, whole)
