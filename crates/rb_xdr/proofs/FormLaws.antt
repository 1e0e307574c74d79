-- Readers have their forms.
use Rattle.std.proofs.Common.{◌≡◌, ℕ, Bool, true, false, cond, List, drop, Ok, Err, refl, sym, ap, ◌∙◌, arith, Some}
use Rattle.std.specs.Prelude.{⊤, IfErr}
use Rattle.std.specs.Int.{cast_signed, w32}
use Rattle.rb_xdr.specs.Xdr.{Reading, Reader, behind, read_on, ◌>>=◌, give, read_number, read_bool}
use Rattle.rb_xdr.specs.XdrTypes.{read_signed, read_pair, read_item, read_optional}
use Rattle.rb_xdr.specs.Forms.{Form, extent, extent_of, FirstFault, HasForm}
use Rattle.rb_xdr.specs.Forms.Form.{Number, Then, Optional}

extent-behind : {A : Type 0} (used : ℕ) (r : Reading A) → extent (behind used r) ≡ behind used (extent r)
extent-behind used (Ok x) = refl
extent-behind used (Err fault) = refl

-- one after the other
pub then_form : {A B : Type 0} (first : Reader A) (f : Form) (next : A → Reader B) (g : Form) → HasForm f first → ((x : A) → HasForm g (next x)) → HasForm (Then f g) (first >>= next)
then_form {A} first f next g has_f has_g bytes = by_value (first bytes) ∙ ap (λ (r : Reading ⊤). read_on r (λ _. extent_of g) bytes) (has_f bytes)
  where
    by_value : (r : Reading A) → extent (read_on r next bytes) ≡ read_on (extent r) (λ _. extent_of g) bytes
    by_value (Ok x) = extent-behind x.1 (next x.0 (drop x.1 bytes)) ∙ ap (behind x.1) (has_g x.0 (drop x.1 bytes))
    by_value (Err fault) = refl

-- what is made of a value has the value's form
pub given_form : {A B : Type 0} (reads : Reader A) (f : Form) (made : A → B) → HasForm f reads → HasForm f (reads >>= λ x. give (made x))
given_form {A} reads f made has bytes = by_value (reads bytes) ∙ has bytes
  where
    by_value : (r : Reading A) → extent (read_on r (λ x. give (made x)) bytes) ≡ extent r
    by_value (Ok x) = ap (λ (n : ℕ). Ok (tt, n)) (omega arith)
    by_value (Err fault) = refl

pub signed_form : HasForm Number read_signed
unfolding read_signed
signed_form = given_form read_number Number (cast_signed w32) (λ bytes. refl)

pub pair_form : {A B : Type 0} (first : Reader A) (f : Form) (second : Reader B) (g : Form) → HasForm f first → HasForm g second → HasForm (Then f g) (read_pair first second)
unfolding read_pair
pair_form {A} {B} first f second g has_f has_g = then_form first f (λ a. second >>= λ b. give (a, b)) g has_f (λ a. given_form second g (λ b. (a, b)) has_g)

pub optional_form : {A : Type 0} (reads : Reader A) (f : Form) → HasForm f reads → HasForm (Optional f) (read_optional reads)
unfolding read_optional
optional_form {A} reads f has bytes = by_flag (read_bool bytes)
  where
    by_flag : (r : Reading Bool) → extent (read_on r (read_item reads) bytes) ≡ read_on r (λ there. cond there (extent_of f) (give tt)) bytes
    by_flag (Ok (true, n)) = extent-behind n (read_item reads true (drop n bytes)) ∙ ap (behind n) (given_form reads f Some has (drop n bytes))
    by_flag (Ok (false, n)) = refl
    by_flag (Err fault) = refl

-- if a reading failed, the fault is the first of its form
pub first_fault : {A : Type 0} (form : Form) (reads : Reader A) → HasForm form reads → (bytes : List ℕ) (r : Reading A) → r ≡ reads bytes → IfErr r (FirstFault form bytes)
first_fault form reads has bytes (Ok x) e = tt
first_fault form reads has bytes (Err fault) e = sym (has bytes) ∙ ap extent (sym e)
