-- A value that is read has a byte at least.
use Rattle.std.proofs.Common.{◌≡◌, ◌<◌, ◌+◌, ℕ, Bool, cond, eqb, ltb, true, false, List, length, Ok, Err, refl, sym, ap, ◌∙◌, arith}
use Rattle.std.specs.Prelude.{⊤}
use Rattle.rb_xdr.specs.Xdr.{Reading, Reader, ◌>>=◌, read_number, read_bool, read_opaque, read_content, number_at, give, refuse}
use Rattle.rb_xdr.specs.Forms.{Form, extent, extent_of, HasForm}
use Rattle.rb_xdr.specs.Forms.Form.{Number, Flag, Content, Then, Optional}
use Rattle.rb_xdr.specs.declared.fault.XdrFault.TheVariants.{Short, TooLong, BadBool}
use Rattle.rb_xdr.proofs.Readers.{ok_is, bind_ok}

abbrev Uses : {A : Type 0} → Reader A → Type 0
Uses {A} reads = (bytes : List ℕ) (x : A) (used : ℕ) → reads bytes ≡ Ok (x, used) → 0 < used

bind_uses : {A B : Type 0} (first : Reader A) (next : A → Reader B) → Uses first → Uses (first >>= next)
bind_uses first next uses bytes y used e =
    let s = bind_ok first next bytes y used e in
    let some : 0 < s.used = uses bytes s.x s.used s.was in
    let sum : s.used + s.more ≡ used = s.sum in
    omega (arith, some, sum)

extent_uses : {A : Type 0} (reads : Reader A) → Uses reads → Uses (λ bytes. extent (reads bytes))
extent_uses {A} reads uses bytes x used e = by_value (reads bytes) refl e
  where
    by_value : (r : Reading A) → reads bytes ≡ r → extent r ≡ Ok (x, used) → 0 < used
    by_value (Ok y) was is =
        let same : y.1 ≡ used = ap (λ (p : ⊤ × ℕ). p.1) (ok_is (tt, y.1) (x, used) is) in
        let some : 0 < y.1 = uses bytes y.0 y.1 was in
        omega (arith, same, some)
    by_value (Err fault) was is = absurd cc

number_uses : Uses read_number
unfolding read_number
number_uses bytes x used e = by_test (ltb (length bytes) 4) e
  where
    by_test : (b : Bool) → cond {A = Reading ℕ} b (Err Short) (Ok (number_at 0 bytes, 4)) ≡ Ok (x, used) → 0 < used
    by_test true is = absurd cc
    by_test false is =
        let same : 4 ≡ used = ap (λ (p : ℕ × ℕ). p.1) (ok_is (number_at 0 bytes, 4) (x, used) is) in
        omega (arith, same)

bool_uses : Uses read_bool
unfolding read_bool
bool_uses = bind_uses read_number (λ n. cond (eqb n 0) (give false) (cond (eqb n 1) (give true) (refuse BadBool))) number_uses

opaque_uses : (limit : ℕ) → Uses (read_opaque limit)
unfolding read_opaque
opaque_uses limit = bind_uses read_number (λ count. cond (ltb limit count) (refuse TooLong) (read_content count)) number_uses

form_uses : (form : Form) → Uses (extent_of form)
form_uses Number = extent_uses read_number number_uses
form_uses Flag = extent_uses read_bool bool_uses
form_uses (Content limit) = extent_uses (read_opaque limit) (opaque_uses limit)
form_uses (Then first rest) = bind_uses (extent_of first) (λ _. extent_of rest) (form_uses first)
form_uses (Optional item) = bind_uses read_bool (λ there. cond there (extent_of item) (give tt)) bool_uses

pub value_uses : {A : Type 0} (reads : Reader A) (form : Form) → HasForm form reads → (bytes : List ℕ) (x : A) (used : ℕ) → reads bytes ≡ Ok (x, used) → 0 < used
value_uses reads form has bytes x used e = form_uses form bytes tt used (sym (has bytes) ∙ ap extent e)
