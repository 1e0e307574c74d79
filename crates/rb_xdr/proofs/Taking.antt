-- What is read is a value whose spelling stands in front.
use Rattle.std.proofs.Common.{◌≡◌, ℕ, List, Ok, Err, Result, sym, ◌∙◌}
use Rattle.std.specs.Prelude.{IfOk, OnErr}
use Rattle.std.specs.Borrow.{Bor}
use Rattle.rb_xdr.specs.Xdr.{XdrFault, Reading, Reader, AreBytes}
use Rattle.rb_xdr.specs.XdrLaws.{BeginsWith}
use Rattle.rb_xdr.specs.XdrLaws.{ReadsExactly}
use Rattle.rb_xdr.specs.XdrLends.{reading_of}

pub what_is_read : {T : Type 0} (is_value : T → Type 0) (spelling : T → List ℕ) (reads : Reader T) → ReadsExactly is_value spelling reads
    → (bytes : List ℕ) → AreBytes bytes → (r : Reading T) → r ≡ reads bytes → IfOk r (BeginsWith is_value spelling bytes)
what_is_read is_value spelling reads exact bytes are (Ok x) e = (exact bytes are x.0 x.1).0 (sym e)
what_is_read is_value spelling reads exact bytes are (Err fault) e = tt

-- if a reading failed, no front spells a value
pub none_is_spelled : {T : Type 0} (is_value : T → Type 0) (spelling : T → List ℕ) (reads : Reader T) → ReadsExactly is_value spelling reads
    → (bytes : List ℕ) → AreBytes bytes → (r : Reading T) → r ≡ reads bytes → OnErr r ((x : T) (n : ℕ) → ¬ BeginsWith is_value spelling bytes (x, n))
none_is_spelled {T} is_value spelling reads exact bytes are (Ok x) e = tt
none_is_spelled {T} is_value spelling reads exact bytes are (Err fault) e = λ x n begins. let read : ◌≡◌ {A = Reading T} (Err fault) (Ok (x, n)) = e ∙ (exact bytes are x n).1 begins in absurd cc

pub none_is_lent : (is_value : List ℕ → Type 0) (spelling : List ℕ → List ℕ) (reads : Reader (List ℕ)) → ReadsExactly is_value spelling reads
    → (bytes : List ℕ) → AreBytes bytes → (r : Result (Bor (List ℕ) × ℕ) XdrFault) → reading_of r ≡ reads bytes → OnErr r ((x : List ℕ) (n : ℕ) → ¬ BeginsWith is_value spelling bytes (x, n))
none_is_lent is_value spelling reads exact bytes are (Ok x) e = tt
none_is_lent is_value spelling reads exact bytes are (Err fault) e = λ x n begins. let read : ◌≡◌ {A = Reading (List ℕ)} (Err fault) (Ok (x, n)) = e ∙ (exact bytes are x n).1 begins in absurd cc
