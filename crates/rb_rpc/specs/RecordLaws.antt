-- What records of bytes are, in terms of the fragments.
use Rattle.std.specs.Prelude.{◌≡◌, ◌↔◌, ◌<◌, ◌≤◌, ⊤, ℕ, ◌^◌, Bool, true, false, List, [], ◌∷◌, ◌++◌, length, take, drop, All, Some, None}
use Rattle.std.specs.List.{flat_map}
use Rattle.rb_xdr.specs.Xdr.{AreBytes}
use Rattle.rb_rpc.specs.Records.{Fragment, markings, first_record, data_of, fragment_size, reply_fragments, marked_reply}

-- ---- the relation

abbrev pub is_empty : {A : Type 0} → List A → Bool
is_empty [] = true
is_empty (x ∷ xs) = false

-- a fragment has the flag exactly if none follows it
abbrev pub AreFragments : List Fragment → Type 0
AreFragments [] = ⊤
AreFragments (f ∷ more) = (length f.content < 2 ^ 31) × (f.last ≡ is_empty more) × AreFragments more

-- RECORD-2
abbrev pub joined_data : List Fragment → List ℕ
joined_data fragments = flat_map (λ f. f.content) fragments

-- The bytes are a marked record of these fragments.
pub record IsMarkedAs (fragments : List Fragment) (bytes : List ℕ) : Type 0 where
  pub some : is_empty fragments ≡ false
  pub fragmented : AreFragments fragments
  pub spelled : bytes ≡ markings fragments

-- The bytes are a marked record of the data `content`.
-- RECORD-1
pub record IsMarked (bytes content : List ℕ) : Type 0 where
  pub fragments : List Fragment
  pub marked : IsMarkedAs fragments bytes
  pub content_is : content ≡ joined_data fragments

-- ---- the first record of bytes

-- The first n bytes are a marked record, and no shorter front is one.
pub record IsFirstRecord (n : ℕ) (bytes : List ℕ) : Type 0 where
  pub content : List ℕ
  pub within : n ≤ length bytes
  pub is_marked : IsMarked (take n bytes) content
  pub least : (m : ℕ) (other : List ℕ) → m < n → IsMarked (take m bytes) other → ⊥

abbrev pub FirstRecordIsLeast : Type 0
FirstRecordIsLeast = (bytes : List ℕ) → AreBytes bytes → (n : ℕ) → (first_record bytes ≡ Some n) ↔ IsFirstRecord n bytes

abbrev pub NoneWhereNoFrontIsOne : Type 0
NoneWhereNoFrontIsOne =
    (bytes : List ℕ) → AreBytes bytes
    → (first_record bytes ≡ None) ↔ ((n : ℕ) (content : List ℕ) → n ≤ length bytes → IsMarked (take n bytes) content → ⊥)

-- the data is the fragments' bytes joined, whatever follows the record
abbrev pub DataIsJoined : Type 0
DataIsJoined = (bytes content rest : List ℕ) → IsMarked bytes content → data_of (bytes ++ rest) ≡ content

abbrev pub NoRecordBeginsAnother : Type 0
NoRecordBeginsAnother = (bytes more one other : List ℕ) → IsMarked bytes one → IsMarked (bytes ++ more) other → more ≡ []

-- The first record of bytes is that of more bytes.
abbrev pub RecordsStay : Type 0
RecordsStay = (bytes more : List ℕ) (n : ℕ) → first_record bytes ≡ Some n → first_record (bytes ++ more) ≡ Some n

-- If none ends in the bytes, the first of more bytes is longer than they are.
abbrev pub RecordsEndLater : Type 0
RecordsEndLater = (bytes more : List ℕ) (n : ℕ) → first_record bytes ≡ None → first_record (bytes ++ more) ≡ Some n → length bytes < n

-- ---- the records of a byte stream

-- each text is a marked record of the data beside it
abbrev pub AreMarked : List (List ℕ) → List (List ℕ) → Type 0
AreMarked [] [] = ⊤
AreMarked (text ∷ texts) (content ∷ contents) = IsMarked text content × AreMarked texts contents
AreMarked [] (content ∷ contents) = ⊥
AreMarked (text ∷ texts) [] = ⊥

-- No front of the bytes is a marked record.
abbrev pub HasNoRecord : List ℕ → Type 0
HasNoRecord bytes = (n : ℕ) (content : List ℕ) → n ≤ length bytes → IsMarked (take n bytes) content → ⊥

-- The bytes are marked records of these data, joined, and then the rest, of which no front is a marked record.
-- RECORD-3
pub record Records (bytes : List ℕ) (contents : List (List ℕ)) (rest : List ℕ) : Type 0 where
  pub texts : List (List ℕ)
  pub are_marked : AreMarked texts contents
  pub whole : bytes ≡ flat_map (λ text. text) texts ++ rest
  pub none_more : HasNoRecord rest

-- They are found one after the other,
abbrev pub RecordsAreFirstOnes : Type 0
RecordsAreFirstOnes =
    (bytes : List ℕ) (n : ℕ) (contents : List (List ℕ)) (rest : List ℕ) → AreBytes bytes → first_record bytes ≡ Some n
    → Records (drop n bytes) contents rest → Records bytes (data_of bytes ∷ contents) rest

-- until there is none,
abbrev pub RecordsEnd : Type 0
RecordsEnd = (bytes : List ℕ) → AreBytes bytes → first_record bytes ≡ None → Records bytes [] bytes

-- and there are no others.
abbrev pub RecordsAreUnique : Type 0
RecordsAreUnique =
    (bytes : List ℕ) (contents others : List (List ℕ)) (rest left : List ℕ) → Records bytes contents rest → Records bytes others left → (contents ≡ others) × (rest ≡ left)

-- a fragment of a reply has 1,024 bytes, the last 1 to 1,024
pub record IsReplyFragment (f : Fragment) : Type 0 where
  pub full : f.last ≡ false → length f.content ≡ fragment_size
  pub not_empty : 0 < length f.content
  pub at_most : length f.content ≤ fragment_size

-- FRAGMENT-1
pub record AreReplyFragments (fragments : List Fragment) (reply bytes : List ℕ) : Type 0 where
  pub sizes : All IsReplyFragment fragments
  pub is_marked : IsMarkedAs fragments bytes
  pub content : reply ≡ joined_data fragments

abbrev pub RepliesAreMarked : Type 0
RepliesAreMarked = (reply : List ℕ) → 0 < length reply → AreReplyFragments (reply_fragments reply) reply (marked_reply reply)
