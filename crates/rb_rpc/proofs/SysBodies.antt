-- The uid of an AUTH_SYS body, field by field.
use Rattle.std.proofs.Common.{◌≡◌, ◌≤◌, ◌-◌, ◌*◌, ℕ, zero, suc, Bool, true, false, not, cond, ltb, leb, List, ◌∷◌, length, drop, Some, None, Result, Ok, Err, refl, sym, ap, ◌∙◌, arith}
use Rattle.std.specs.Prelude.{IsErr, is_ok, ◌&&◌}
use Rattle.std.specs.Result.{result_ok}
use Rattle.std.proofs.lemmas.List.{length-drop}
use Rattle.std.proofs.lemmas.Bool.{ltb-false, ltb-true, le-leb, lt-leb}
use Rattle.std.proofs.lemmas.Bool.Decides.{nat_tests}
use Rattle.rb_xdr.specs.Xdr.{Reading, Reader, behind, read_on, ◌>>=◌, give, refuse, number_at, read_number, read_numbers, read_array}
use Rattle.rb_xdr.specs.declared.fault.XdrFault.{XdrFault}
use Rattle.rb_xdr.specs.declared.fault.XdrFault.TheVariants.{Short, TooLong}
use Rattle.rb_rpc.specs.Messages.{SysBody, max_gids, body_of_sys, uid_of}
use Rattle.rb_rpc.proofs.Auths.{with_gids, after_gid, after_stamp}

-- ---- one field after the other

uid-behind : (used : ℕ) (r : Reading SysBody) → uid_of (behind used r) ≡ uid_of r
uid-behind used (Ok x) = refl
uid-behind used (Err d) = refl

pub next_field : {A : Type 0} (reads : Reader A) (next : A → Reader SysBody) (bytes rest : List ℕ) (a : A) (used : ℕ) → Ok (a, used) ≡ reads bytes → rest ≡ drop used bytes
    → uid_of ((reads >>= next) bytes) ≡ uid_of (next a rest)
next_field reads next bytes rest a used e left =
    ap (λ (r : Reading _). uid_of (read_on r next bytes)) (sym e) ∙ uid-behind used (next a (drop used bytes)) ∙ ap (λ (xs : List ℕ). uid_of (next a xs)) (sym left)

pub no_field : {A : Type 0} (reads : Reader A) (next : A → Reader SysBody) (bytes : List ℕ) (d : XdrFault) → Err d ≡ reads bytes → uid_of ((reads >>= next) bytes) ≡ None
no_field reads next bytes d e = ap (λ (r : Reading _). uid_of (read_on r next bytes)) (sym e)

pub begins : (body : List ℕ) → uid_of (body_of_sys body) ≡ uid_of ((read_number >>= after_stamp) body)
unfolding body_of_sys
begins body = refl

pub ends : (s : ℕ) (m : List ℕ) (u g : ℕ) (rest : List ℕ) → uid_of (after_gid s m u g rest) ≡ cond (is_ok (read_array max_gids rest)) (Some u) None
ends s m u g rest = by_value (read_array max_gids rest)
  where
    by_value : (r : Reading (List ℕ)) → uid_of (read_on r (with_gids s m u g) rest) ≡ cond (is_ok r) (Some u) None
    by_value (Ok x) = refl
    by_value (Err d) = refl

pub no_uid : (r : Result ℕ XdrFault) → IsErr r → result_ok r ≡ None
no_uid (Ok x) is = absurd cc
no_uid (Err d) is = refl

-- ---- the gids

ok-behind : {A : Type 0} (used : ℕ) (r : Reading A) → is_ok (behind used r) ≡ is_ok r
ok-behind used (Ok x) = refl
ok-behind used (Err d) = refl

-- a step that can't fail
ok-given : {A B : Type 0} (r : Reading A) (f : A → B) (bytes : List ℕ) → is_ok (read_on r (λ a. give (f a)) bytes) ≡ is_ok r
ok-given (Ok x) f bytes = refl
ok-given (Err d) f bytes = refl

same_test : (a b c d : ℕ) → (a ≤ b → c ≤ d) → (c ≤ d → a ≤ b) → leb a b ≡ leb c d
same_test a b c d there back = grind (arith, nat_tests)

numbers_there : (k : ℕ) (bytes : List ℕ) → is_ok (read_numbers k bytes) ≡ leb (4 * k) (length bytes)
unfolding read_number
numbers_there zero bytes = sym (le-leb 0 (length bytes) (omega arith))
numbers_there (suc k) bytes = by_test (ltb (length bytes) 4) refl (numbers_there k (drop 4 bytes))
  where
    one_more : 4 ≤ length bytes → leb (4 * k) (length (drop 4 bytes)) ≡ leb (4 * suc k) (length bytes)
    one_more long =
        same_test (4 * k) (length (drop 4 bytes)) (4 * suc k) (length bytes)
        (λ h. omega (arith, long, h, length-drop 4 bytes)) (λ h. omega (arith, long, h, length-drop 4 bytes))

    by_test : (b : Bool) → ltb (length bytes) 4 ≡ b → is_ok (read_numbers k (drop 4 bytes)) ≡ leb (4 * k) (length (drop 4 bytes))
        → is_ok (read_on (cond b (Err Short) (Ok (number_at 0 bytes, 4))) (λ n. read_numbers k >>= λ more. give (n ∷ more)) bytes) ≡ leb (4 * suc k) (length bytes)
    by_test true short later = sym (lt-leb (4 * suc k) (length bytes) (omega (arith, ltb-true _ _ short)))
    by_test false long later =
        ok-behind 4 (read_on (read_numbers k (drop 4 bytes)) (λ more. give (number_at 0 bytes ∷ more)) (drop 4 bytes))
        ∙ ok-given (read_numbers k (drop 4 bytes)) (λ more. number_at 0 bytes ∷ more) (drop 4 bytes)
        ∙ later ∙ one_more (ltb-false _ _ long)

pub gids_there : (bytes : List ℕ) (count used : ℕ) → used ≤ length bytes → Ok (count, used) ≡ read_number bytes → is_ok (read_array max_gids bytes) ≡ (not (ltb max_gids count) && leb (4 * count) (length bytes - used))
unfolding read_array
gids_there bytes count used within e =
    ap (λ (r : Reading ℕ). is_ok (read_on r (λ n. cond (ltb max_gids n) (refuse TooLong) (read_numbers n)) bytes)) (sym e)
    ∙ ok-behind used ((cond (ltb max_gids count) (refuse TooLong) (read_numbers count)) (drop used bytes))
    ∙ by_test (ltb max_gids count)
  where
    by_test : (b : Bool) → is_ok ((cond b (refuse TooLong) (read_numbers count)) (drop used bytes)) ≡ (not b && leb (4 * count) (length bytes - used))
    by_test true = refl
    by_test false = numbers_there count (drop used bytes) ∙ ap (λ (n : ℕ). leb (4 * count) n) (length-drop used bytes)

pub no_gids : (bytes : List ℕ) (d : XdrFault) → Err d ≡ read_number bytes → is_ok (read_array max_gids bytes) ≡ false
unfolding read_array
no_gids bytes d e = ap (λ (r : Reading ℕ). is_ok (read_on r (λ n. cond (ltb max_gids n) (refuse TooLong) (read_numbers n)) bytes)) (sym e)
