use Rattle.std.proofs.Common.{◌≡◌, ◌+◌, ◌≤◌, length, false, true, refl, arith}
use Rattle.rb_stats.specs.Counting.{spelling}
use Rattle.rb_stats.proofs.Sizes.{spelled}
use Rattle.rb_stats.proofs.stats.Stats.put.Goals as goal

pub returns-clause-history : goal.returns-clause-history
returns-clause-history c = spelled c.args.self.now

pub returns-then-saturating_sub-size-clause-history : goal.returns-then-saturating_sub-size-clause-history
returns-then-saturating_sub-size-clause-history c = spelled c.args.self.now

pub write-requires-clause-room : goal.write-requires-clause-room
write-requires-clause-room c = omega (arith, c.lists-lists.ensures.size, c.size.ensures, c.saturating_sub.ensures, c.len.ensures.len, c.requires.limit)

pub returns-then-saturating_sub-size-clause-room : goal.returns-then-saturating_sub-size-clause-room
returns-then-saturating_sub-size-clause-room c =
    let full : length c.args.out.now.bytes + length (spelling c.args.self.now) ≤ c.args.limit → ⊥ = λ fits. omega (arith, fits, c.lists-lists.ensures.size, c.size.ensures, c.saturating_sub.ensures, c.len.ensures.len) in
    (λ no_room. let clash : false ≡ true = no_room in absurd cc, λ fits. absurd (full fits))

pub returns-clause-room : goal.returns-clause-room
returns-clause-room c = (λ _. omega (arith, c.lists-lists.ensures.size, c.size.ensures, c.saturating_sub.ensures, c.len.ensures.len), λ _. refl)
