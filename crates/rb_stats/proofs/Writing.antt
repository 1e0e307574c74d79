-- A list that is written item by item.
use Rattle.std.proofs.Common.{◌≡◌, ◌≤◌, ◌<◌, ◌+◌, ℕ, true, List, [], ◌∷◌, ◌++◌, length, take, get_or, sym, ap, ◌∙◌, append-nil, length-append, arith}
use Rattle.std.specs.List.{flat_map}
use Rattle.std.proofs.lemmas.Grind.{flat_map-append}
use Rattle.std.proofs.lemmas.List.{take_more}
use Rattle.std.proofs.lemmas.List.Folds.{length-flat_map-take}
use Rattle.rb_xdr.specs.Xdr.{boolean}
use Rattle.rb_xdr.specs.Kept.{Kept}
use Rattle.rb_xdr.specs.Meter.{Meter}

abbrev pub behind_true : {T : Type 0} → (T → List ℕ) → T → List ℕ
behind_true spelling x = boolean true ++ spelling x

-- the first n are written and paid for
pub record Writing {T : Type 0} (f : T → List ℕ) (items : List T) (n : ℕ) (began out : Kept) (first meter : Meter) : Type 0 where
  pub written : out ≡ record began { bytes = began.bytes ++ flat_map f (take n items) }
  pub paid : meter ≡ record first { steps = first.steps + length (flat_map f (take n items)) }

pub nothing_written : {T : Type 0} (f : T → List ℕ) (items : List T) (began : Kept) (first : Meter) → Writing f items 0 began began first first
nothing_written f items began first = record {
  written = ap (λ (xs : List ℕ). record began { bytes = xs }) (sym (append-nil began.bytes));
  paid = ap (λ (n : ℕ). record first { steps = n }) (omega arith);
}

module _ {T : Type 0} (f : T → List ℕ) (items : List T) (n : ℕ) (began out : Kept) (first meter : Meter) (w : Writing f items n began out first meter) where
  abbrev so_far : List ℕ
  so_far = flat_map f (take n items)

  module _ (other : T) (within : n < length items) where
    abbrev x : T
    x = get_or items n other

    one_more : flat_map f (take (n + 1) items) ≡ so_far ++ f x
    one_more =
        ap (flat_map f) (take_more items n other within)
        ∙ flat_map-append f (take n items) (x ∷ []) ∙ ap (λ (xs : List ℕ). so_far ++ xs) (append-nil (f x))

    no_longer : length so_far + length (f x) ≤ length (flat_map f items)
    no_longer = length-flat_map-take f items n other within

    -- room for the list is room for the item
    pub item_fits : (end : List ℕ) → length began.bytes + length (flat_map f items ++ end) ≤ began.cap → length out.bytes + length (f x) ≤ out.cap
    item_fits end room =
        let cap : out.cap ≡ began.cap = ap (λ (k : Kept). k.cap) w.written in
        let size : length out.bytes ≡ length began.bytes + length so_far = ap (λ (k : Kept). length k.bytes) w.written ∙ length-append began.bytes so_far in
        omega (arith, room, cap, size, no_longer, length-append (flat_map f items) end)
