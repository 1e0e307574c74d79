-- The part of a list that a front of it shows.
use Rattle.std.proofs.Common.{◌≡◌, ℕ, ◌≤◌, ◌<◌, ◌+◌, true, ◌⊎◌, List, ◌++◌, length, take, drop, sym, ap, ◌∙◌, append-nil, arith, inl, inr}
use Rattle.std.specs.Prelude.{◌-◌, min, nat_le, slice_range}
use Rattle.std.proofs.Math.ListN.{drop_of_length-le}
use Rattle.std.proofs.lemmas.Bool.{cases_lt, le-leb, lt-leb}
use Rattle.std.proofs.lemmas.List.{drop-drop, drop-take, take-take, take-append-drop, length-take, length-drop}
use Rattle.rb_registry.specs.Registry.{Registry}
use Rattle.rb_answers.specs.declared.list_reply.ListReply.{ListReply}
use Rattle.rb_rpc.specs.Records.{fragment_size}
use Rattle.rb_answers.specs.ListReplies.{bytes_behind, rest_of}
use Rattle.rb_answers.specs.ListParts.{Fills}

take_enough : (n : ℕ) (xs : List ℕ) → length xs ≤ n → take n xs ≡ xs
take_enough n xs fits = sym (append-nil (take n xs)) ∙ ap (λ (ys : List ℕ). take n xs ++ ys) (sym (drop_of_length-le xs fits)) ∙ take-append-drop n xs

-- Of a list a front is shown, or all if it ends that early: a part of it begins after `given` and has `most` at most.
module _ (all shown : List ℕ) (given most end : ℕ) (front : shown ≡ take (length shown) all) (whole : length shown ≤ given + most → shown ≡ all) (end_is : end ≡ min (length shown) (given + most)) where
  cases : (given + most < length shown) ⊎ (length shown ≤ given + most)
  cases = cases_lt (given + most) (length shown)

  all_longer : length shown ≤ length all
  all_longer = omega (arith, ap (λ (xs : List ℕ). length xs) front, length-take (length shown) all)

  part_later : given + most < length shown → take (end - min given end) (drop (min given end) shown) ≡ take most (drop given all)
  part_later more =
      let begin : min given end ≡ given = omega (arith, end_is, more) in
      let count : end - given ≡ most = omega (arith, end_is, more) in
      let size : length shown ≡ given + (length shown - given) = omega (arith, more) in
      let enough : most ≤ length shown - given = omega (arith, more) in
      let left : drop given shown ≡ take (length shown - given) (drop given all) = ap (λ (xs : List ℕ). drop given xs) (front ∙ ap (λ (n : ℕ). take n all) size) ∙ drop-take given (length shown - given) all in
      rw (begin, count, left) (take-take most (length shown - given) (drop given all) enough)

  part_last : length shown ≤ given + most → take (end - min given end) (drop (min given end) shown) ≡ take most (drop given all)
  part_last few =
      let size : length all ≡ length shown = ap (λ (xs : List ℕ). length xs) (sym (whole few)) in
      let bound : length (drop (min given end) all) ≤ end - min given end = omega (arith, length-drop (min given end) all, end_is, few, size) in
      let bound_all : length (drop given all) ≤ most = omega (arith, length-drop given all, few, size) in
      rw (whole few) (take_enough (end - min given end) (drop (min given end) all) bound ∙ same_left few size (cases_lt end given) ∙ sym (take_enough most (drop given all) bound_all))
    where
      same_left : length shown ≤ given + most → length all ≡ length shown → (end < given) ⊎ (given ≤ end) → drop (min given end) all ≡ drop given all
      same_left few size (inl past) = drop_of_length-le all (omega (arith, end_is, few, size, past)) ∙ sym (drop_of_length-le all (omega (arith, end_is, few, size, past)))
      same_left few size (inr within) = ap (λ (n : ℕ). drop n all) (omega (arith, within))

  pub part_shown : slice_range shown (min given end) end ≡ take most (drop given all)
  part_shown = elim cases [ inl more ↦ part_later more | inr few ↦ part_last few ]

  dropped_later : given + most < length shown → drop end all ≡ drop most (drop given all)
  dropped_later more = ap (λ (n : ℕ). drop n all) (omega (arith, end_is, more)) ∙ sym (drop-drop most given all)

  dropped_last : length shown ≤ given + most → drop end all ≡ drop most (drop given all)
  dropped_last few =
      let size : length all ≡ length shown = ap (λ (xs : List ℕ). length xs) (sym (whole few)) in
      drop_of_length-le all (omega (arith, end_is, few, size)) ∙ sym (drop_of_length-le all (omega (arith, few, size))) ∙ sym (drop-drop most given all)

  pub rest_shown : drop end all ≡ drop most (drop given all)
  rest_shown = elim cases [ inl more ↦ dropped_later more | inr few ↦ dropped_last few ]

  last_later : given + most < length shown → nat_le (length shown) (given + most) ≡ nat_le (length (drop given all)) most
  last_later more = lt-leb _ _ more ∙ sym (lt-leb _ _ (omega (arith, length-drop given all, all_longer, more)))

  last_last : length shown ≤ given + most → nat_le (length shown) (given + most) ≡ nat_le (length (drop given all)) most
  last_last few =
      let size : length all ≡ length shown = ap (λ (xs : List ℕ). length xs) (sym (whole few)) in
      le-leb _ _ few ∙ sym (le-leb _ _ (omega (arith, length-drop given all, few, size)))

  pub last_shown : nat_le (length shown) (given + most) ≡ nat_le (length (drop given all)) most
  last_shown = elim cases [ inl more ↦ last_later more | inr few ↦ last_last few ]

-- ---- of a reply

module _ (kept : Registry) (old moved : ListReply) (shown : List ℕ) (base : ℕ) (f : Fills kept old moved (old.given + fragment_size) shown base) (end : ℕ) (end_is : end ≡ min (length shown) (old.given + fragment_size)) where
  pub part_is : slice_range shown (min moved.given end) end ≡ take fragment_size (rest_of kept old)
  unfolding rest_of
  part_is =
      let given : moved.given ≡ old.given = ap (λ (r : ListReply). r.given) f.moved in
      rw given (part_shown (bytes_behind kept old) shown old.given fragment_size end f.front f.all end_is)

  pub rest_is : rest_of kept (record moved { given = end - base; begun = true }) ≡ drop fragment_size (rest_of kept old)
  unfolding rest_of
  rest_is =
      let count : base + (end - base) ≡ end = omega (arith, end_is, f.before, f.within) in
      ap (λ (bytes : List ℕ). drop (end - base) bytes) (sym f.behind)
      ∙ drop-drop (end - base) base (bytes_behind kept old)
      ∙ ap (λ (n : ℕ). drop n (bytes_behind kept old)) count
      ∙ rest_shown (bytes_behind kept old) shown old.given fragment_size end f.front f.all end_is

  pub last_is : nat_le (length shown) (old.given + fragment_size) ≡ nat_le (length (rest_of kept old)) fragment_size
  unfolding rest_of
  last_is = last_shown (bytes_behind kept old) shown old.given fragment_size end f.front f.all end_is
