-- What reading has to do with spelling.
use Rattle.std.specs.Prelude.{◌≡◌, ℕ, ◌≤◌, ◌↔◌, List, [], ◌++◌, length, take, drop, Option, IfSome, Ok, ⊤, FitsSigned}
use Rattle.std.specs.Int.{w32}
use Rattle.rb_xdr.specs.Xdr.{Reading, Reader, AreBytes, IsNumber, IsContent, number, boolean, opaque, read_number, read_bool, read_opaque, max_number, max_opaque}
use Rattle.rb_xdr.specs.XdrTypes.{signed, read_signed}

-- The text is a spelling of the value.
abbrev pub Spells : {A : Type 0} → (A → Type 0) → (A → List ℕ) → A → List ℕ → Type 0
Spells is_value spelling x text = is_value x × (text ≡ spelling x)

-- the bytes begin with a spelling of the value, of this many bytes
abbrev pub BeginsWith : {A : Type 0} → (A → Type 0) → (A → List ℕ) → List ℕ → A × ℕ → Type 0
BeginsWith is_value spelling bytes read = (read.1 ≤ length bytes) × Spells is_value spelling read.0 (take read.1 bytes)

-- what the bytes begin with is what was read
abbrev pub IsOnlyRead : {A : Type 0} → (A → Type 0) → (A → List ℕ) → List ℕ → Reading A → Type 0
IsOnlyRead {A} is_value spelling bytes result = (x : A) (n : ℕ) → BeginsWith is_value spelling bytes (x, n) → result ≡ Ok (x, n)

-- no front of the bytes is a spelling
abbrev pub BeginsWithNone : {A : Type 0} → (A → Type 0) → (A → List ℕ) → List ℕ → Type 0
BeginsWithNone {A} is_value spelling bytes = (x : A) (n : ℕ) → ¬ BeginsWith is_value spelling bytes (x, n)

-- a value is read of one whole text alone
abbrev pub IsReadOfOneText : {A : Type 0} → Reader A → Type 0
IsReadOfOneText {A} reads =
    (x : A) (a b : List ℕ) → AreBytes a → AreBytes b → reads a ≡ Ok (x, length a) → reads b ≡ Ok (x, length b) → a ≡ b

-- a text spells one value
abbrev pub SpellsOneValue : {A : Type 0} → (A → Type 0) → (A → List ℕ) → Type 0
SpellsOneValue {A} is_value spelling = (x y : A) (text : List ℕ) → Spells is_value spelling x text → Spells is_value spelling y text → x ≡ y

-- no spelling is longer than the greatest
abbrev pub NoneIsLonger : {A : Type 0} → (A → Type 0) → (A → List ℕ) → ℕ → Type 0
NoneIsLonger {A} is_value spelling max = (x : A) (text : List ℕ) → Spells is_value spelling x text → length text ≤ max

-- what is read is a value whose spelling stands in front of what is left
abbrev pub IsSound : {A : Type 0} → (A → Type 0) → (A → List ℕ) → Reader A → Type 0
IsSound {A} is_value spelling reads = (bytes : List ℕ) (x : A) (n : ℕ) → AreBytes bytes → reads bytes ≡ Ok (x, n) → is_value x × (n ≡ length (spelling x)) × (bytes ≡ spelling x ++ drop n bytes)

-- the spelling of a value is read as that value, whatever follows it
abbrev pub IsComplete : {A : Type 0} → (A → Type 0) → (A → List ℕ) → Reader A → Type 0
IsComplete {A} is_value spelling reads = (x : A) (rest : List ℕ) → is_value x → reads (spelling x ++ rest) ≡ Ok (x, length (spelling x))

-- A value and n are read exactly if the first n bytes spell the value.
abbrev pub ReadsExactly : {A : Type 0} → (A → Type 0) → (A → List ℕ) → Reader A → Type 0
ReadsExactly {A} is_value spelling reads =
    (bytes : List ℕ) → AreBytes bytes → (x : A) (n : ℕ)
    → (reads bytes ≡ Ok (x, n)) ↔ ((n ≤ length bytes) × Spells is_value spelling x (take n bytes))

-- No spelling begins another, and each spells one value.
abbrev pub IsPrefixFree : {A : Type 0} → (A → Type 0) → (A → List ℕ) → Type 0
IsPrefixFree {A} is_value spelling = (x y : A) (more : List ℕ) → is_value x → is_value y → spelling x ++ more ≡ spelling y → (x ≡ y) × (more ≡ [])

-- No spelling is a proper front of another.
abbrev pub IsNoFront : {A : Type 0} → (A → Type 0) → (A → List ℕ) → List ℕ → List ℕ → Type 0
IsNoFront {A} is_value spelling text more = (x y : A) → Spells is_value spelling x text → Spells is_value spelling y (text ++ more) → more ≡ []

abbrev pub IsBounded : {A : Type 0} → (A → Type 0) → (A → List ℕ) → ℕ → Type 0
IsBounded {A} is_value spelling max = (x : A) → is_value x → length (spelling x) ≤ max

-- all that is promised of a type
pub record IsType {A : Type 0} (is_value : A → Type 0) (spelling : A → List ℕ) (reads : Reader A) (max : ℕ) : Type 0 where
  pub exact : ReadsExactly is_value spelling reads
  pub prefix_free : IsPrefixFree is_value spelling
  pub bounded : IsBounded is_value spelling max

abbrev pub anything : {A : Type 0} → A → Type 0
anything x = ⊤

abbrev pub both : {A B : Type 0} → (A → Type 0) → (B → Type 0) → A × B → Type 0
both is_first is_second p = is_first p.0 × is_second p.1

abbrev pub pair : {A B : Type 0} → (A → List ℕ) → (B → List ℕ) → A × B → List ℕ
pair first second p = first p.0 ++ second p.1

abbrev pub if_there : {A : Type 0} → (A → Type 0) → Option A → Type 0
if_there is_value o = IfSome o is_value

abbrev pub NumberIsType : Type 0
NumberIsType = IsType IsNumber number read_number max_number

abbrev pub SignedIsType : Type 0
SignedIsType = IsType (λ z. FitsSigned w32 z) signed read_signed max_number

abbrev pub BooleanIsType : Type 0
BooleanIsType = IsType anything boolean read_bool max_number

abbrev pub OpaqueIsType : Type 0
OpaqueIsType = (limit : ℕ) → IsType (IsContent limit) opaque (read_opaque limit) (max_opaque limit)
