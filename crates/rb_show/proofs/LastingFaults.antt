-- A fault of a value that more bytes can't mend stays whatever follows.
use Rattle.std.proofs.Common.{◌≡◌, ℕ, List, [], ◌++◌, Ok, Err, refl, sym, ap, ◌∙◌}
use Rattle.std.specs.Prelude.{⊤}
use Rattle.rb_xdr.specs.declared.fault.XdrFault.{XdrFault}
use Rattle.rb_xdr.specs.declared.fault.XdrFault.TheVariants.{Short, TooLong, BadBool, BadPadding}
use Rattle.rb_xdr.specs.Xdr.{Reading, Reader}
use Rattle.rb_xdr.specs.Forms.{Form, extent, extent_of, HasForm}
use Rattle.rb_show.specs.declared.fault.InfoFault.{InfoFault}
use Rattle.rb_show.specs.declared.fault.InfoFault.TheVariants.{Unreadable}
use Rattle.rb_show.specs.Telling.{take_one, told_by}
use Rattle.rb_show.specs.Telling.Told.{Stop}
use Rattle.rb_show.specs.FaultLaws.{FaultsStay, UnreadableStays}
use Rattle.rb_show.proofs.Settles.{form_settles}

pub faults_stay : {A : Type 0} (reads : Reader A) (form : Form) → HasForm form reads → FaultsStay reads
faults_stay {A} reads form has bytes more fault e other =
    let known : (◌≡◌ {A = Reading ⊤} (Err fault) (Err Short)) → ⊥ = λ short. other cc in
    let refused : extent_of form (bytes ++ more) ≡ Err fault = (form_settles form).keeps bytes more (Err fault) (sym (has bytes) ∙ ap extent e) known in
    by_value (reads (bytes ++ more)) (has (bytes ++ more) ∙ refused)
  where
    by_value : (r : Reading A) → extent r ≡ Err fault → r ≡ Err fault
    by_value (Ok x) is = absurd cc
    by_value (Err f) is = let same : f ≡ fault = cc in ap (λ (g : XdrFault). Err g) same

unreadable : {A : Type 0} (end : InfoFault) (content : List ℕ) (fault : XdrFault) → (fault ≡ Short → ⊥) → told_by {A = A} end (Err fault) content ≡ Stop [] Unreadable
unreadable end content Short other = absurd (other refl)
unreadable end content TooLong other = refl
unreadable end content BadBool other = refl
unreadable end content BadPadding other = refl

pub unreadable_stays : {A : Type 0} (reads : Reader A) (form : Form) → HasForm form reads → UnreadableStays reads
unfolding take_one
unreadable_stays {A} reads form has bytes more fault e other end =
    ap (λ (r : Reading A). told_by end r (bytes ++ more)) (faults_stay reads form has bytes more fault e other)
    ∙ unreadable {A = A} end (bytes ++ more) fault other
