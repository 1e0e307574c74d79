-- The last round of a turn serves one connection after another.
use Rattle.std.specs.Prelude.{slice_get}
use Rattle.std.proofs.Common.{◌≡◌, ◌<◌, ◌≤◌, ◌+◌, ℕ, List, [], ◌∷◌, length, refl, ◌∙◌, arith}
use Rattle.rb_policy.specs.Rounds.{StayBut}
use Rattle.rb_policy.specs.Turns.{last_round}
use Rattle.rb_links.specs.declared.places.Places.{Places}
use Rattle.rb_links.specs.Rounds.{IsNoneOf, ServesFew}

-- so many since the first as are counted
pub record ServesCounted (first now : Places) : Type 0 where
  pub keys : List ℕ
  pub counted : length keys ≤ now.rounds.count
  pub few : now.rounds.count ≤ last_round
  pub others : (key : ℕ) → IsNoneOf keys key → slice_get now.rounds.served.items key ≡ slice_get first.rounds.served.items key

pub none_yet : (first now : Places) → now.rounds.count ≡ 0 → now.rounds.served ≡ first.rounds.served → ServesCounted first now
none_yet first now none same = record {
  keys = [];
  counted = omega arith;
  few = omega (arith, none);
  others = λ key no. rw same refl;
}

pub one_more : (first before mid now : Places) (key : ℕ) → ServesCounted first before → before.rounds.count < last_round → mid.rounds.count ≡ before.rounds.count + 1 → mid.rounds.served ≡ before.rounds.served
    → now.rounds.count ≡ mid.rounds.count → StayBut key mid.rounds.served.items now.rounds.served.items → ServesCounted first now
one_more first before mid now key s less counts same stays others = record {
  keys = key ∷ s.keys;
  counted = omega (arith, s.counted, counts, stays);
  few = omega (arith, less, counts, stays);
  others = λ k no. others k no.0 ∙ (rw same (s.others k no.1));
}

pub none_more : (first before now : Places) → ServesCounted first before → now.rounds.count ≡ before.rounds.count → now.rounds.served ≡ before.rounds.served → ServesCounted first now
none_more first before now s counts same = record {
  keys = s.keys;
  counted = omega (arith, s.counted, counts);
  few = omega (arith, s.few, counts);
  others = λ k no. rw same (s.others k no);
}

pub no_more : (first before now : Places) → ServesCounted first before → now.rounds.served ≡ before.rounds.served → ServesFew first.rounds.served.items now.rounds.served.items
no_more first before now s same = record { keys = s.keys; few = omega (arith, s.counted, s.few); others = λ k no. rw same (s.others k no) }

pub none_at_all : (first now : Places) → now.rounds.served ≡ first.rounds.served → ServesFew first.rounds.served.items now.rounds.served.items
none_at_all first now same = record { keys = []; few = omega arith; others = λ k no. rw same refl }
