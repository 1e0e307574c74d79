-- The bits of hosts, byte by byte.
use Rattle.std.specs.Prelude.{bytes_eq}
use Rattle.std.proofs.Common.{◌≡◌, ◌<◌, ◌≤◌, ◌-◌, ◌*◌, ◌/◌, ◌%◌, ◌^◌, ℕ, zero, suc, Bool, true, false, true≢false, nat_eq, eqb, min, ◌&&◌, List, [], ◌∷◌, ◌++◌, length, take, drop, get_or, refl, sym, ap, ◌∙◌, arith}
use Rattle.std.proofs.lemmas.Bool.Decides.{nat_tests}
use Rattle.std.proofs.lemmas.List.{take_min, drop_min, length-take, take_all, length-drop}
use Rattle.std.proofs.lemmas.List.Folds.{list_all-append}
use Rattle.rb_address.specs.Networks.{octet_bits, bits_of, is_same_octet, is_octet_clear, is_same_front, is_clear_behind}

-- ---- one byte

-- what holds of each of nine numbers
up_to_8 : (P : ℕ → Type 0) → P 0 → P 1 → P 2 → P 3 → P 4 → P 5 → P 6 → P 7 → P 8 → (k : ℕ) → k ≤ 8 → P k
up_to_8 P a b c d e f g h i zero le = a
up_to_8 P a b c d e f g h i (suc zero) le = b
up_to_8 P a b c d e f g h i (suc (suc zero)) le = c
up_to_8 P a b c d e f g h i (suc (suc (suc zero))) le = d
up_to_8 P a b c d e f g h i (suc (suc (suc (suc zero)))) le = e
up_to_8 P a b c d e f g h i (suc (suc (suc (suc (suc zero))))) le = f
up_to_8 P a b c d e f g h i (suc (suc (suc (suc (suc (suc zero)))))) le = g
up_to_8 P a b c d e f g h i (suc (suc (suc (suc (suc (suc (suc zero))))))) le = h
up_to_8 P a b c d e f g h i (suc (suc (suc (suc (suc (suc (suc (suc zero)))))))) le = i
up_to_8 P a b c d e f g h i (suc (suc (suc (suc (suc (suc (suc (suc (suc k))))))))) le = absurd (omega (arith, le))

module _ (x y : ℕ) (small_x : x < 256) (small_y : y < 256) where
  same_0 : nat_eq (x / 256) (y / 256) ≡ is_same_octet 0 x y
  same_0 = grind (arith, nat_tests, small_x, small_y)

  same_1 : nat_eq (x / 128) (y / 128) ≡ is_same_octet 1 x y
  same_1 = grind (arith, nat_tests, small_x, small_y)

  same_2 : nat_eq (x / 64) (y / 64) ≡ is_same_octet 2 x y
  same_2 = grind (arith, nat_tests, small_x, small_y)

  same_3 : nat_eq (x / 32) (y / 32) ≡ is_same_octet 3 x y
  same_3 = grind (arith, nat_tests, small_x, small_y)

  same_4 : nat_eq (x / 16) (y / 16) ≡ is_same_octet 4 x y
  same_4 = grind (arith, nat_tests, small_x, small_y)

  same_5 : nat_eq (x / 8) (y / 8) ≡ is_same_octet 5 x y
  same_5 = grind (arith, nat_tests, small_x, small_y)

  same_6 : nat_eq (x / 4) (y / 4) ≡ is_same_octet 6 x y
  same_6 = grind (arith, nat_tests, small_x, small_y)

  same_7 : nat_eq (x / 2) (y / 2) ≡ is_same_octet 7 x y
  same_7 = grind (arith, nat_tests, small_x, small_y)

  same_8 : nat_eq (x / 1) (y / 1) ≡ is_same_octet 8 x y
  same_8 = grind (arith, nat_tests, small_x, small_y)

  pub same_octet : (k : ℕ) → k ≤ 8 → nat_eq (x / 2 ^ (8 - k)) (y / 2 ^ (8 - k)) ≡ is_same_octet k x y
  same_octet = up_to_8 (λ k. nat_eq (x / 2 ^ (8 - k)) (y / 2 ^ (8 - k)) ≡ is_same_octet k x y) same_0 same_1 same_2 same_3 same_4 same_5 same_6 same_7 same_8

module _ (x : ℕ) (small : x < 256) where
  clear_0 : nat_eq (x * 1 % 4294967296 % 256) 0 ≡ is_octet_clear 0 x
  clear_0 = grind (arith, nat_tests, small)

  clear_1 : nat_eq (x * 2 % 4294967296 % 256) 0 ≡ is_octet_clear 1 x
  clear_1 = grind (arith, nat_tests, small)

  clear_2 : nat_eq (x * 4 % 4294967296 % 256) 0 ≡ is_octet_clear 2 x
  clear_2 = grind (arith, nat_tests, small)

  clear_3 : nat_eq (x * 8 % 4294967296 % 256) 0 ≡ is_octet_clear 3 x
  clear_3 = grind (arith, nat_tests, small)

  clear_4 : nat_eq (x * 16 % 4294967296 % 256) 0 ≡ is_octet_clear 4 x
  clear_4 = grind (arith, nat_tests, small)

  clear_5 : nat_eq (x * 32 % 4294967296 % 256) 0 ≡ is_octet_clear 5 x
  clear_5 = grind (arith, nat_tests, small)

  clear_6 : nat_eq (x * 64 % 4294967296 % 256) 0 ≡ is_octet_clear 6 x
  clear_6 = grind (arith, nat_tests, small)

  clear_7 : nat_eq (x * 128 % 4294967296 % 256) 0 ≡ is_octet_clear 7 x
  clear_7 = grind (arith, nat_tests, small)

  clear_8 : nat_eq (x * 256 % 4294967296 % 256) 0 ≡ is_octet_clear 8 x
  clear_8 = grind (arith, nat_tests, small)

  pub octet_clear : (k : ℕ) → k ≤ 8 → nat_eq (x * 2 ^ k % 4294967296 % 256) 0 ≡ is_octet_clear k x
  octet_clear = up_to_8 (λ k. nat_eq (x * 2 ^ k % 4294967296 % 256) 0 ≡ is_octet_clear k x) clear_0 clear_1 clear_2 clear_3 clear_4 clear_5 clear_6 clear_7 clear_8

-- ---- one byte, and the others

all_left : (n : ℕ) → n - 0 ≡ n
all_left n = omega arith

sub_none : (m : ℕ) → 0 - m ≡ 0
sub_none m = omega arith

less_one : (n m : ℕ) → suc n - suc m ≡ n - m
less_one n m = omega arith

take_append : (n : ℕ) (xs ys : List ℕ) → take n (xs ++ ys) ≡ take n xs ++ take (n - length xs) ys
take_append zero [] ys = refl
take_append zero (x ∷ xs) ys = rw (sub_none (suc (length xs))) refl
take_append (suc n) [] ys = rw (all_left (suc n)) refl
take_append (suc n) (x ∷ xs) ys = rw (less_one n (length xs)) (ap (λ (l : List ℕ). x ∷ l) (take_append n xs ys))

drop_append : (n : ℕ) (xs ys : List ℕ) → drop n (xs ++ ys) ≡ drop n xs ++ drop (n - length xs) ys
drop_append zero [] ys = refl
drop_append zero (x ∷ xs) ys = rw (sub_none (suc (length xs))) refl
drop_append (suc n) [] ys = rw (all_left (suc n)) refl
drop_append (suc n) (x ∷ xs) ys = rw (less_one n (length xs)) (drop_append n xs ys)

and_assoc : (a b c : Bool) → (a && (b && c)) ≡ ((a && b) && c)
and_assoc true b c = refl
and_assoc false b c = refl

same_parts : (a b c d : List ℕ) → length a ≡ length b → bytes_eq (a ++ c) (b ++ d) ≡ (bytes_eq a b && bytes_eq c d)
same_parts [] [] c d same = refl
same_parts [] (y ∷ b) c d same = absurd (omega (arith, same))
same_parts (x ∷ a) [] c d same = absurd (omega (arith, same))
same_parts (x ∷ a) (y ∷ b) c d same = ap (λ (e : Bool). nat_eq x y && e) (same_parts a b c d (omega (arith, same))) ∙ and_assoc (nat_eq x y) (bytes_eq a b) (bytes_eq c d)

front : (n x y : ℕ) (xs ys : List ℕ) → (is_same_octet (min n 8) x y && is_same_front (n - 8) xs ys) ≡ is_same_front n (x ∷ xs) (y ∷ ys)
front n x y xs ys =
    let same : length (take n (octet_bits x)) ≡ length (take n (octet_bits y)) = length-take n (octet_bits x) ∙ sym (length-take n (octet_bits y)) in
    rw (take_min n (octet_bits x), take_min n (octet_bits y), take_append n (octet_bits x) (bits_of xs), take_append n (octet_bits y) (bits_of ys))
    (sym (same_parts (take n (octet_bits x)) (take n (octet_bits y)) (take (n - 8) (bits_of xs)) (take (n - 8) (bits_of ys)) same))

behind : (n x : ℕ) (xs : List ℕ) → (is_octet_clear (min n 8) x && is_clear_behind (n - 8) xs) ≡ is_clear_behind n (x ∷ xs)
behind n x xs =
    rw (drop_min n (octet_bits x), drop_append n (octet_bits x) (bits_of xs))
    (sym (list_all-append (λ (bit : ℕ). eqb bit 0) (drop n (octet_bits x)) (drop (n - 8) (bits_of xs))))

-- ---- as the code goes over them

rest_is : (a : List ℕ) → take (length a - 1) (drop 1 a) ≡ drop 1 a
rest_is a = take_all (length a - 1) (drop 1 a) (omega (arith, length-drop 1 a))

front_of : (n : ℕ) (a b : List ℕ) → 1 ≤ length a → 1 ≤ length b
    → (is_same_octet (min n 8) (get_or a 0 0) (get_or b 0 0) && is_same_front (n - 8) (take (length a - 1) (drop 1 a)) (take (length b - 1) (drop 1 b))) ≡ is_same_front n a b
front_of n [] b some_a some_b = absurd (omega (arith, some_a))
front_of n (x ∷ xs) [] some_a some_b = absurd (omega (arith, some_b))
front_of n (x ∷ xs) (y ∷ ys) some_a some_b = rw (rest_is (x ∷ xs), rest_is (y ∷ ys)) (front n x y xs ys)

behind_of : (n : ℕ) (a : List ℕ) → 1 ≤ length a → (is_octet_clear (min n 8) (get_or a 0 0) && is_clear_behind (n - 8) (take (length a - 1) (drop 1 a))) ≡ is_clear_behind n a
behind_of n [] some = absurd (omega (arith, some))
behind_of n (x ∷ xs) some = rw (rest_is (x ∷ xs)) (behind n x xs)

goes_on : (p q r x y : Bool) → (p && q) ≡ r → x ≡ p → y ≡ q → x ≡ true → y ≡ r
goes_on true q r x y whole x_is y_is holds = y_is ∙ whole
goes_on false q r x y whole x_is y_is holds = absurd (true≢false (sym holds ∙ x_is))

stops : (p q r x : Bool) → (p && q) ≡ r → x ≡ p → x ≡ false → x ≡ r
stops true q r x whole x_is fails = absurd (true≢false (sym x_is ∙ fails))
stops false q r x whole x_is fails = x_is ∙ whole

module _ (n m : ℕ) (m_is : m ≡ min n 8) where
  module _ (a b : List ℕ) (first : Bool) (some_a : 1 ≤ length a) (some_b : 1 ≤ length b) (first_is : first ≡ is_same_octet m (get_or a 0 0) (get_or b 0 0)) where
    first_same : first ≡ is_same_octet (min n 8) (get_or a 0 0) (get_or b 0 0)
    first_same = first_is ∙ ap (λ (k : ℕ). is_same_octet k (get_or a 0 0) (get_or b 0 0)) m_is

    pub front_goes_on : (l : ℕ) (others : Bool) → l ≡ n - 8 → others ≡ is_same_front l (take (length a - 1) (drop 1 a)) (take (length b - 1) (drop 1 b)) → first ≡ true → others ≡ is_same_front n a b
    front_goes_on l others l_is others_is =
        goes_on _ _ _ first others (front_of n a b some_a some_b) first_same (others_is ∙ ap (λ (k : ℕ). is_same_front k (take (length a - 1) (drop 1 a)) (take (length b - 1) (drop 1 b))) l_is)

    pub front_differs : first ≡ false → first ≡ is_same_front n a b
    front_differs = stops _ _ _ first (front_of n a b some_a some_b) first_same

  module _ (a : List ℕ) (first : Bool) (some : 1 ≤ length a) (first_is : first ≡ is_octet_clear m (get_or a 0 0)) where
    first_clear : first ≡ is_octet_clear (min n 8) (get_or a 0 0)
    first_clear = first_is ∙ ap (λ (k : ℕ). is_octet_clear k (get_or a 0 0)) m_is

    pub behind_goes_on : (l : ℕ) (others : Bool) → l ≡ n - 8 → others ≡ is_clear_behind l (take (length a - 1) (drop 1 a)) → first ≡ true → others ≡ is_clear_behind n a
    behind_goes_on l others l_is others_is =
        goes_on _ _ _ first others (behind_of n a some) first_clear (others_is ∙ ap (λ (k : ℕ). is_clear_behind k (take (length a - 1) (drop 1 a))) l_is)

    pub behind_is_set : first ≡ false → first ≡ is_clear_behind n a
    behind_is_set = stops _ _ _ first (behind_of n a some) first_clear
