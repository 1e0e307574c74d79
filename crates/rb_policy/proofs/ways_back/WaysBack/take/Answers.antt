use Rattle.std.proofs.Common.{◌≡◌, arith, rules}
use Rattle.std.specs.Prelude.{filter, not}
use Rattle.std.proofs.lemmas.Fn.{filter_same}
use Rattle.rb_policy.specs.WaysBack.{is_of}
use Rattle.rb_policy.proofs.ways_back.WaysBack.take.Goals as goal

pub returns-clause-rest : goal.returns-clause-rest
returns-clause-rest c =
    let kept : c.retain.new.self.items ≡ filter (λ w. not (is_of c.args.number w)) c.self.inside.all.items =
    filter_same _ _ _ (λ x b f' k. search rules) _ _ c.retain.ensures.filtered in
    let room = c.retain.ensures.capacity in
    grind (arith, kept, room, c.self.view_is)
