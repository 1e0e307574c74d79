use Rattle.std.proofs.Common.{◌≡◌, false, true, max, set, get_or, ◌∙◌, sym, ap, subst}
use Rattle.rb_policy.specs.Recents.{noted}
use Rattle.rb_policy.specs.Brake.{BrakeTables, Datagram, StandsForServed, admits, admit}
use Rattle.rb_policy.specs.Places.{network_place, host_place}
use Rattle.rb_policy.proofs.Brakes.{decides, stands_where_dropped, stands_where_served}
use Rattle.rb_policy.proofs.brake.Brake.admit.Goals as goal

-- what the tables say is what the function says
served_is : (c : goal.After-self-1) → (served : mathlib.Core.List.List Datagram) → StandsForServed c.args.self.now served → true ≡ admits c.args.self.now.key c.args.self.now.rate served c.args.now c.args.host
served_is c served stands =
    sym c.if-not-has_room.false
    ∙ decides c.args.self.now served stands c.args.now c.args.host _ _ _
    (c.max-now.ensures ∙ ap (λ (b : BrakeTables). max c.args.now b.latest) c.self.view_is)
    (c.network_place-network.ensures.place ∙ ap (λ (b : BrakeTables). network_place b.key c.args.host) c.self.view_is)
    (c.host_place-place.ensures.place ∙ ap (λ (b : BrakeTables). host_place b.key c.args.host) c.self.view_is)
    c.network_place-network.ensures.below c.host_place-place.ensures.below
    _ c.has_room.ensures

dropped_is : (c : goal.Then-not-has_room) → (served : mathlib.Core.List.List Datagram) → StandsForServed c.args.self.now served → false ≡ admits c.args.self.now.key c.args.self.now.rate served c.args.now c.args.host
dropped_is c served stands =
    sym c.if-not-has_room.true
    ∙ decides c.args.self.now served stands c.args.now c.args.host _ _ _
    (c.max-now.ensures ∙ ap (λ (b : BrakeTables). max c.args.now b.latest) c.self.view_is)
    (c.network_place-network.ensures.place ∙ ap (λ (b : BrakeTables). network_place b.key c.args.host) c.self.view_is)
    (c.host_place-place.ensures.place ∙ ap (λ (b : BrakeTables). host_place b.key c.args.host) c.self.view_is)
    c.network_place-network.ensures.below c.host_place-place.ensures.below
    _ c.has_room.ensures

pub returns-clause-admits : goal.returns-clause-admits
returns-clause-admits c = λ served stands. served_is c served stands

pub returns-then-not-has_room-clause-admits : goal.returns-then-not-has_room-clause-admits
returns-then-not-has_room-clause-admits c = λ served stands. dropped_is c served stands

pub returns-then-not-has_room-clause-stands : goal.returns-then-not-has_room-clause-stands
returns-then-not-has_room-clause-stands c = λ served stands.
    stands_where_dropped c.args.self.now served stands c.args.now c.args.host c.max-now.result c.network_place-network.result c.host_place-place.result
    (c.max-now.ensures ∙ ap (λ (b : BrakeTables). max c.args.now b.latest) c.self.view_is)
    (c.network_place-network.ensures.place ∙ ap (λ (b : BrakeTables). network_place b.key c.args.host) c.self.view_is)
    (c.host_place-place.ensures.place ∙ ap (λ (b : BrakeTables). host_place b.key c.args.host) c.self.view_is)
    c.network_place-network.ensures.below c.host_place-place.ensures.below
    (dropped_is c served stands)

pub returns-clause-stands : goal.returns-clause-stands
returns-clause-stands c = λ served stands.
    let old = c.args.self.now in
    let n = c.network_place-network.result in
    let h = c.host_place-place.result in
    let m = c.max-now.result in
    subst
    (λ (b : BrakeTables). let after : BrakeTables = record { key = b.key; rate = b.rate; networks = c.note.new.self; hosts = c.note-2.new.self; latest = m } in StandsForServed after (admit old.key old.rate served c.args.now c.args.host))
    (sym c.self.view_is)
    (stands_where_served old served stands c.args.now c.args.host m n h
    (c.max-now.ensures ∙ ap (λ (b : BrakeTables). max c.args.now b.latest) c.self.view_is)
    (c.network_place-network.ensures.place ∙ ap (λ (b : BrakeTables). network_place b.key c.args.host) c.self.view_is)
    (c.host_place-place.ensures.place ∙ ap (λ (b : BrakeTables). host_place b.key c.args.host) c.self.view_is)
    c.network_place-network.ensures.below c.host_place-place.ensures.below
    c.note.new.self c.note-2.new.self
    (λ d. c.note.ensures d ∙ ap (λ (b : BrakeTables). set b.networks n (noted (get_or b.networks n d) m)) c.self.view_is)
    (λ d. c.note-2.ensures d ∙ ap (λ (b : BrakeTables). set b.hosts h (noted (get_or b.hosts h d) m)) c.self.view_is)
    (served_is c served stands))
