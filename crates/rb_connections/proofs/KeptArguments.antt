-- The arguments that are kept.
use Rattle.std.specs.Prelude.{min}
use Rattle.std.proofs.Common.{◌≡◌, ◌≤◌, ◌+◌, ◌-◌, ℕ, zero, suc, List, [], ◌∷◌, ◌++◌, length, take, refl, ap, Result, length-append, arith}
use Rattle.std.proofs.lemmas.List.{length-take-le}
use Rattle.std.proofs.lemmas.Grind.{common_steps}
use Rattle.rb_xdr.specs.Kept.{Kept}
use Rattle.rb_xdr.specs.Puts.{Puts, Appends}
use Rattle.rb_model.specs.Calls.{longest_kept}
use Rattle.rb_connections.specs.StandsFor.{buffer_size}
use Rattle.rb_connections.specs.Reading.{AreKept}

-- what fits is there after the others
appended : {A E : Type 0} (bytes : List ℕ) (old new : Kept) (r : Result A E) → Puts bytes old.cap old new r → length old.bytes + length bytes ≤ old.cap → Appends bytes old new
appended bytes old new r p fits = grind arith

take_on : (n m : ℕ) (xs ys : List ℕ) → m + length (take n xs) ≡ n → take n (xs ++ ys) ≡ take n xs ++ take m ys
take_on zero m xs ys e = let none : m ≡ zero = omega (arith, e) in rw none refl
take_on (suc n) m [] ys e = let all : m ≡ suc n = omega (arith, e) in rw all refl
take_on (suc n) m (x ∷ xs) ys e = ap (λ (zs : List ℕ). x ∷ zs) (take_on n m xs ys (omega (arith, e)))

least : (m : ℕ) (ys : List ℕ) → take (min m (length ys)) ys ≡ take m ys
least m ys = grind (arith, common_steps)

has_room : (cap : ℕ) → cap ≡ buffer_size → longest_kept ≤ cap
unfolding buffer_size
has_room cap is = omega (arith, is)

-- as many of more bytes are added as there is room for
pub kept_more : {A E : Type 0} (old new : Kept) (room count : ℕ) (bytes more : List ℕ) (r : Result A E) → count ≡ min room (length more) → AreKept old room bytes → Puts (take count more) old.cap old new r
    → AreKept new (room - count) (bytes ++ more)
kept_more old new room count bytes more r is h puts = grind (arith, common_steps, length-take-le, has_room, appended, least, take_on, length-append)
