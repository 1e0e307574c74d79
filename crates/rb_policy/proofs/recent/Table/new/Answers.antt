use Rattle.std.proofs.Common.{◌≡◌, ℕ, replicate, ◌∙◌, ap, arith}
use Rattle.rb_policy.specs.declared.recent.TheConstants.{PLACES}
use Rattle.rb_policy.specs.Recents.{nothing_of}
use Rattle.rb_policy.proofs.recent.Table.new.Goals as goal

pub returns : goal.returns
returns c =
    let all : c.places._i ≡ PLACES = omega arith in
    c.places.invariant.places ∙ ap (λ (n : ℕ). replicate n (nothing_of c.args.most)) all
