-- What spellings are made of, which says which fault of bytes comes first.
use Rattle.std.specs.Prelude.{◌≡◌, ℕ, if◌then◌else◌, List, Ok, Err, ⊤}
use Rattle.rb_xdr.specs.Xdr.{XdrFault, Reading, Reader, ◌>>=◌, give, read_number, read_bool, read_opaque}

-- A number is four bytes, and so is a bool. Opaque data and strings have a limit. A struct is one field and then the
-- others. Optional data is a bool, and the item if it is TRUE.
pub data Form : Type 0 where
  Number : Form
  Flag : Form
  Content : ℕ → Form
  Then : Form → Form → Form
  Optional : Form → Form

-- a reading without its value: the length of the spelling, or the first fault
abbrev pub extent : {A : Type 0} → Reading A → Reading ⊤
extent (Ok read) = Ok (tt, read.1)
extent (Err fault) = Err fault

-- What is read of a form, without its value. Short comes for fewer than four bytes of a number or a bool, BadBool for a
-- bool above 1; of opaque data Short for the count, then TooLong, then Short for content and residual bytes, then
-- BadPadding. Of fields the first with a fault decides.
-- XDR-4: The first fault from the left is the one that is named. Of opaque data a missing count
-- comes first, then a count over the limit, then missing content or residual bytes, then a residual
-- byte that is not zero.
abbrev pub extent_of : Form → Reader ⊤
extent_of Number = λ bytes. extent (read_number bytes)
extent_of Flag = λ bytes. extent (read_bool bytes)
extent_of (Content limit) = λ bytes. extent (read_opaque limit bytes)
extent_of (Then first rest) = extent_of first >>= λ _. extent_of rest
extent_of (Optional item) = read_bool >>= λ there. if there then extent_of item else give tt

-- the first fault of bytes that do not begin with a spelling of this form
abbrev pub FirstFault : Form → List ℕ → XdrFault → Type 0
FirstFault form bytes fault = extent_of form bytes ≡ Err fault

-- a reader takes and refuses what its form does
abbrev pub HasForm : {A : Type 0} → Form → Reader A → Type 0
HasForm form reads = (bytes : List ℕ) → extent (reads bytes) ≡ extent_of form bytes
