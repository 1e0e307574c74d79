use Rattle.std.proofs.Common.{◌≡◌, ◌-◌, ℕ, drop, take, sym, ap, ◌∙◌, arith}
use Rattle.std.proofs.lemmas.List.{take_rest}
use Rattle.rb_connections.proofs.Fragments.{place_inside}
use Rattle.rb_connections.proofs.OneSlot.{giving_phase}
use Rattle.rb_connections.proofs.Progress.{pending_is}
use Rattle.rb_connections.proofs.slot.Slot.pending.Goals as goal

pub returns-in-Owing-clause-pending : goal.returns-in-Owing-clause-pending
returns-in-Owing-clause-pending c = λ registry x h.
    let window = c.args.self.now.window in
    let place : ℕ = c.in-Owing.giving.place in
    let w = giving_phase registry c.in-Owing.giving _ _ _ x.phase c.in-Owing.is h.phase in
    let inside = place_inside w.2.reply window w.0 w.2.shows in
    let start_is : c.min.result ≡ place = omega (arith, inside, w.2.place) in
    rw w.1 (c.lend.ensures.bytes
    ∙ ap (λ (n : ℕ). take (c.len-end.result - n) (drop n window.bytes)) start_is
    ∙ ap (λ (n : ℕ). take (n - place) (drop place window.bytes)) c.len-end.ensures.len
    ∙ take_rest window.bytes place
    ∙ sym (pending_is registry c.in-Owing.giving _ window w.0 w.2))
