use Rattle.std.proofs.Common.{Some, set, sym, ap, ◌∙◌}
use Rattle.rb_policy.specs.declared.caller_rate.Count.{Count}
use Rattle.rb_policy.specs.declared.caller_rate.CallerRate.{CallerRate}
use Rattle.rb_policy.specs.CallerRates.{gets, counted}
use Rattle.rb_policy.proofs.CallerRates.{count_found, rate_found, count_missed, rate_missed}
use Rattle.rb_policy.proofs.caller_rate.CallerRate.ask_of.Goals as goal

pub returns-in_default-clause-gets : goal.returns-in_default-clause-gets
returns-in_default-clause-gets c =
    let missed = count_missed c.args.self.now c.args.caller (sym c.in_default.is ∙ c.place_of.ensures.place) in
    c.ask.ensures.gets ∙ ap (λ (k : Count). gets k c.args.has_room) (sym missed)

pub returns-in_default-clause-after : goal.returns-in_default-clause-after
returns-in_default-clause-after c =
    let missed = rate_missed c.args.self.now c.args.caller (sym c.in_default.is ∙ c.place_of.ensures.place) c.args.has_room in
    ap (λ (k : Count). let r : CallerRate = record c.args.self.now { others = k } in r) c.ask.ensures.counted ∙ sym missed

pub returns-clause-gets : goal.returns-clause-gets
returns-clause-gets c =
    let found = count_found c.args.self.now c.args.caller c.in-Some.place (sym c.in-Some.is ∙ c.place_of.ensures.place) in
    c.ask-gets.ensures.gets ∙ ap (λ (k : Count). gets k c.args.has_room) (c.count_in-count.ensures ∙ sym found)

pub returns-clause-after : goal.returns-clause-after
returns-clause-after c =
    let found = rate_found c.args.self.now c.args.caller c.in-Some.place (sym c.in-Some.is ∙ c.place_of.ensures.place) c.args.has_room in
    ap (λ (k : Count). let r : CallerRate = record c.args.self.now { places = set c.args.self.now.places c.in-Some.place (Some (record { caller = c.args.caller; count = k })) } in r)
    (c.ask-gets.ensures.counted ∙ ap (λ (k : Count). counted k c.args.has_room) c.count_in-count.ensures)
    ∙ sym found
