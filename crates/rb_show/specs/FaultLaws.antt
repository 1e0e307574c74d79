-- A fault of a value stays whatever follows, but for the one that more bytes could mend.
use Rattle.std.specs.Prelude.{◌≡◌, ℕ, List, [], ◌++◌, Err}
use Rattle.rb_xdr.specs.declared.fault.XdrFault.{XdrFault}
use Rattle.rb_xdr.specs.declared.fault.XdrFault.TheVariants.{Short}
use Rattle.rb_xdr.specs.Xdr.{Reader}
use Rattle.rb_show.specs.declared.fault.InfoFault.{InfoFault}
use Rattle.rb_show.specs.declared.fault.InfoFault.TheVariants.{Unreadable}
use Rattle.rb_show.specs.Telling.{take_one}
use Rattle.rb_show.specs.Telling.Told.{Stop}

-- Bytes with another fault than that they are too short have it whatever follows them.
abbrev pub FaultsStay : {A : Type 0} → Reader A → Type 0
FaultsStay reads =
    (bytes more : List ℕ) (fault : XdrFault) → reads bytes ≡ Err fault → (fault ≡ Short → ⊥)
    → reads (bytes ++ more) ≡ Err fault

-- So data that begins with such bytes is Unreadable, whatever is wrong at its end.
abbrev pub UnreadableStays : {A : Type 0} → Reader A → Type 0
UnreadableStays reads =
    (bytes more : List ℕ) (fault : XdrFault) → reads bytes ≡ Err fault → (fault ≡ Short → ⊥)
    → (end : InfoFault) → take_one reads end (bytes ++ more) ≡ Stop [] Unreadable
