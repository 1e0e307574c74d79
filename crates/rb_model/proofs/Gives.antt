-- Which bytes of a reply fit into a room: what is pending, and what fits after it.
use Rattle.std.proofs.Common.{◌≡◌, ◌<◌, ◌≤◌, ◌+◌, ◌-◌, ◌*◌, ◌/◌, ℕ, nat_le, Bool, true, false, cond, List, [], ◌++◌, length, take, drop, min, refl, sym, ap, ◌∙◌, inl, inr, arith}
use Rattle.std.proofs.lemmas.List.{length-take, length-drop, take_all, drop_all, drop-drop, drop-take, take-append-drop, drop-append-le, take-take}
use Rattle.std.proofs.lemmas.Bool.{le-leb, lt-leb, cond-true, cond-false, cases_lt}
use Rattle.rb_model.specs.State.{Owed}
use Rattle.rb_model.specs.Connections.{longest_fragment, pending_of}
use Rattle.rb_model.specs.Gives.{end_within, fitting_of}

-- the end of the fragment that is pending
abbrev pub front_end : Owed → ℕ
front_end o = longest_fragment * (o.given / longest_fragment + 1)

pub count_pending : (o : Owed) → length (pending_of o) ≡ min (front_end o) (length o.marked) - o.given
unfolding pending_of
count_pending o = length-drop o.given (take (front_end o) o.marked) ∙ ap (λ (n : ℕ). n - o.given) (length-take (front_end o) o.marked)

-- the end by how far the room goes
abbrev end_at : ℕ → List ℕ → ℕ
end_at n marked = cond (nat_le (length marked) n) (length marked) (longest_fragment * (n / longest_fragment))

-- the whole rest fits
pub all_end : (room : ℕ) (o : Owed) → length o.marked ≤ o.given + room → end_within room o ≡ length o.marked
all_end room o fits = cond-true _ _ _ (le-leb (length o.marked) (o.given + room) fits)

-- it does not
pub some_end : (room : ℕ) (o : Owed) → o.given + room < length o.marked → end_within room o ≡ longest_fragment * ((o.given + room) / longest_fragment)
some_end room o less = cond-false _ _ _ (lt-leb (length o.marked) (o.given + room) less)

module _ (room : ℕ) (o : Owed) where
  -- what is pending does not fit
  pub fits_none : room < length (pending_of o) → fitting_of room o ≡ []
  unfolding fitting_of longest_fragment
  fits_none less =
      let count = count_pending o in
      let at : end_within room o ≡ longest_fragment * ((o.given + room) / longest_fragment) = some_end room o (omega (arith, count, less)) in
      let low : longest_fragment * ((o.given + room) / longest_fragment) ≤ o.given = omega (arith, count, less) in
      drop_all o.given (take (end_within room o) o.marked) (omega (arith, at, low, length-take (end_within room o) o.marked))

  -- it fits, and is the last fragment
  pub fits_last : length (pending_of o) ≤ room → length o.marked ≤ front_end o → fitting_of room o ≡ pending_of o
  unfolding fitting_of pending_of
  fits_last fits last =
      let count = count_pending o in
      let at : end_within room o ≡ length o.marked = all_end room o (omega (arith, count, fits, last)) in
      ap (λ (n : ℕ). drop o.given (take n o.marked)) at
      ∙ ap (λ (xs : List ℕ). drop o.given xs) (take_all (length o.marked) o.marked (omega arith) ∙ sym (take_all (front_end o) o.marked last))

  -- it fits, and there is another fragment after it
  pub fits_more : length (pending_of o) ≤ room → front_end o < length o.marked
      → fitting_of room o ≡ pending_of o ++ fitting_of (room - length (pending_of o)) (record o { given = o.given + length (pending_of o) })
  unfolding fitting_of pending_of longest_fragment
  fits_more fits more =
      let count = count_pending o in
      let p : ℕ = length (pending_of o) in
      let e : ℕ = end_within room o in
      let at : front_end o ≡ o.given + p = omega (arith, count, more) in
      let sum : o.given + room ≡ (o.given + p) + (room - p) = omega (arith, fits) in
      let inside : front_end o ≤ e = elim (cases_lt (o.given + room) (length o.marked)) [
        | inl less ↦ omega (arith, some_end room o less, at, fits)
        | inr all ↦ omega (arith, all_end room o all, more)
      ] in
      let whole : front_end o ≤ length (take e o.marked) = omega (arith, length-take e o.marked, inside, more) in
      let starts : o.given ≤ length (take (front_end o) (take e o.marked)) = omega (arith, length-take (front_end o) (take e o.marked), whole) in
      ap (λ (xs : List ℕ). drop o.given xs) (sym (take-append-drop (front_end o) (take e o.marked)))
      ∙ drop-append-le o.given (take (front_end o) (take e o.marked)) (drop (front_end o) (take e o.marked)) starts
      ∙ ap (λ (xs : List ℕ). drop o.given xs ++ drop (front_end o) (take e o.marked)) (take-take (front_end o) e o.marked inside)
      ∙ ap (λ (n : ℕ). pending_of o ++ drop n (take e o.marked)) at
      ∙ ap (λ (n : ℕ). pending_of o ++ drop (o.given + p) (take (end_at n o.marked) o.marked)) sum
