-- What is wrong with bytes that begin with no variable-length opaque data (RFC 4506 section 4.10).
use Rattle.std.specs.Prelude.{◌≡◌, ◌↔◌, ◌<◌, ◌≤◌, ℕ, ◌+◌, ◌%◌, ◌^◌, List, ◌++◌, length, Any, Err}
use Rattle.rb_xdr.specs.declared.fault.XdrFault.{XdrFault}
use Rattle.rb_xdr.specs.declared.fault.XdrFault.TheVariants.{Short, TooLong, BadBool, BadPadding}
use Rattle.rb_xdr.specs.Xdr.{AreBytes, number, read_opaque}

-- The bytes begin with this count, an unsigned int of four bytes, and these stand after it.
pub record Counts (bytes : List ℕ) (count : ℕ) (rest : List ℕ) : Type 0 where
  pub fits : count < 2 ^ 32
  pub text : bytes ≡ number count ++ rest

-- This many residual bytes, 0 to 3, make the total with this much content a multiple of four.
pub record Completes (count residual : ℕ) : Type 0 where
  pub few : residual < 4
  pub whole : (count + residual) % 4 ≡ 0

-- There are too few bytes for the count; or for the content, if it is within the limit, and its residual bytes.
pub data IsShort (limit : ℕ) (bytes : List ℕ) : Type 0 where
  ShortCount : length bytes < 4 → IsShort limit bytes
  ShortContent : (count residual : ℕ) (rest : List ℕ) → Counts bytes count rest → count ≤ limit
      → Completes count residual → length rest < count + residual → IsShort limit bytes

-- the count is above the limit
pub record IsTooLong (limit : ℕ) (bytes : List ℕ) : Type 0 where
  pub count : ℕ
  pub rest : List ℕ
  pub counts : Counts bytes count rest
  pub above : limit < count

-- The content, which is within the limit, and its residual bytes are there, and one of these is not zero.
pub record IsBadPadding (limit : ℕ) (bytes : List ℕ) : Type 0 where
  pub content : List ℕ
  pub residual : List ℕ
  pub rest : List ℕ
  pub counts : Counts bytes (length content) (content ++ (residual ++ rest))
  pub within : length content ≤ limit
  pub completes : Completes (length content) (length residual)
  pub wrong : Any (λ byte. byte ≡ 0 → ⊥) residual

-- what is wrong with the bytes as opaque data of at most this many bytes
abbrev pub HasFault : ℕ → List ℕ → XdrFault → Type 0
HasFault limit bytes Short = IsShort limit bytes
HasFault limit bytes TooLong = IsTooLong limit bytes
HasFault limit bytes BadPadding = IsBadPadding limit bytes
HasFault limit bytes BadBool = ⊥

abbrev pub ContentsFaultExactly : Type 0
ContentsFaultExactly =
    (limit : ℕ) (bytes : List ℕ) → AreBytes bytes → (fault : XdrFault)
    → (read_opaque limit bytes ≡ Err fault) ↔ HasFault limit bytes fault
