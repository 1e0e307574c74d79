-- Where a reader of marked records stands after the bytes that it was fed (RFC 5531 section 11).
use Rattle.std.specs.Prelude.{◌≡◌, ℕ, ◌+◌, ◌*◌, ◌^◌, ◌<◌, Bool, false, List, [], ◌∷◌, ◌++◌, length, fold, ⊤}
use Rattle.rb_xdr.specs.Xdr.{AreBytes}
use Rattle.rb_rpc.specs.Records.{Fragment, fragment_header, markings}
use Rattle.rb_rpc.specs.declared.marks.Place.TheVariants.{Header, Data}
pub use Rattle.rb_rpc.specs.declared.marks.Part.{Part}
pub use Rattle.rb_rpc.specs.declared.marks.Place.{Place}
pub use Rattle.rb_rpc.specs.declared.marks.Marks.{Marks}

-- ---- the bytes since the last record's end

-- fragments that ended, none of them the last of the record
abbrev pub AreOpen : List Fragment → Type 0
AreOpen [] = ⊤
AreOpen (f ∷ more) = (length f.content < 2 ^ 31) × (f.last ≡ false) × AreOpen more

-- the number that the bytes of a header spell, as far as they go
abbrev pub number_so_far : List ℕ → ℕ
number_so_far bytes = fold (λ n b. n * 256 + b) 0 bytes

-- the bytes of a header as far as it goes
pub record IsInHeader (seen number : ℕ) (front : List ℕ) : Type 0 where
  pub seen_is : seen ≡ length front
  pub few : length front < 4
  pub bytes : AreBytes front
  pub number_is : number ≡ number_so_far front

-- a header, and the fragment's data but for this many bytes
pub record IsInData (left : ℕ) (last : Bool) (front : List ℕ) : Type 0 where
  pub content : List ℕ
  pub some_left : 0 < left
  pub fits : length content + left < 2 ^ 31
  pub front_is : front ≡ fragment_header (length content + left) last ++ content

abbrev pub IsAt : Place → List ℕ → Type 0
IsAt (Header seen number) front = IsInHeader seen number front
IsAt (Data left last) front = IsInData left last front

-- The reader was fed these bytes since the last record's end: fragments that ended, and the front of one that did not.
pub record StandsForFed (marks : Marks) (fed : List ℕ) : Type 0 where
  pub fragments : List Fragment
  pub front : List ℕ
  pub open_still : AreOpen fragments
  pub fed_is : fed ≡ markings fragments ++ front
  pub place : IsAt marks.place front
