use Rattle.std.proofs.Common.{Some, sym, rules}
use Rattle.std.proofs.lemmas.Fn.{says_at}
use Rattle.rb_xdr.specs.Places.{to_come}
use Rattle.rb_xdr.proofs.Searches.{found_here, found_behind}
use Rattle.rb_xdr.proofs.pool.Pool.find_key.Goals as goal

pub returns-then-test-clause-key : goal.returns-then-test-clause-key
returns-then-test-clause-key g c = λ p t.
    let says = says_at g.F.Fn c.test.ensures c.if-test.true in
    found_here p c.args.self.now.entries (to_come c.args.self.now.entries c.entries.place) (to_come c.args.self.now.entries (Some c.in-Some.key)) c.in-Some.key c.in-Some.value.now (c.entries.invariant.found p t) c.in-Some.ensures.next (sym (t _ _ says))

pub entries-preserved : goal.entries-preserved
entries-preserved g c = record {
  found = λ p t.
      let says = says_at g.F.Fn c.test.ensures c.if-test.false in
      found_behind p c.args.self.now.entries (to_come c.args.self.now.entries c.entries.place) (to_come c.args.self.now.entries (Some c.in-Some.key)) c.in-Some.key c.in-Some.value.now (c.entries.invariant.found p t) c.in-Some.ensures.next (sym (t _ _ says));
  there = c.in-Some.ensures.there;
  tie = search rules;
  rises = search rules;
  steps = search rules;
}
