-- The reservations in the options of a replay, one after the other.
use Rattle.std.proofs.Common.{◌≡◌, ◌<◌, ◌+◌, ◌++◌, length, take, get_or, ℕ, List, ap, sym, ◌∙◌}
use Rattle.std.proofs.lemmas.List.{take_more, flat_map_more}
use Rattle.rb_answers.specs.declared.reserved.Reservation.{Reservation}
use Rattle.rb_lines.specs.Entries.{reserve_text, reserved_text}

pub one_more : (old front text : List ℕ) (all : List Reservation) (i : ℕ) (d : Reservation) → i < length all → front ≡ old ++ reserved_text (take i all) → text ≡ front ++ reserve_text (get_or all i d)
    → text ≡ old ++ reserved_text (take (i + 1) all)
one_more old front text all i d low before is =
    is ∙ ap (λ (t : List ℕ). t ++ reserve_text (get_or all i d)) before ∙ flat_map_more reserve_text old (take i all) (get_or all i d)
    ∙ ap (λ (rs : List Reservation). old ++ reserved_text rs) (sym (take_more all i d low))
