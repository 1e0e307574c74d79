use Rattle.std.proofs.Common.{List, ℕ, take, ap, Some}
use Rattle.std.proofs.lemmas.List.{drop-drop}
use Rattle.rb_address.specs.Reading.{cut}
use Rattle.rb_address.proofs.reading.cut.Goals as goal

pub returns : goal.returns
unfolding cut
returns c =
    rw (← c.in_ok-i.ensures, c.split_at.ensures.front, c.split_at-2.ensures.back, c.split_at.ensures.back)
    (ap (λ (back : List ℕ). Some (take c.in_ok-i.i c.args.text.now, back)) (drop-drop 1 c.in_ok-i.i c.args.text.now))
