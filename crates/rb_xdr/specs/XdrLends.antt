-- A reading whose content is lent.
use Rattle.std.specs.Prelude.{ℕ, List, Result, Ok, Err}
use Rattle.std.specs.Borrow.{Bor}
use Rattle.rb_xdr.specs.Xdr.{XdrFault, Reading}

-- what a reading that lends its content has read
abbrev pub reading_of : Result (Bor (List ℕ) × ℕ) XdrFault → Reading (List ℕ)
reading_of (Ok read) = Ok (read.0.now, read.1)
reading_of (Err fault) = Err fault
