-- The records of a byte stream.
use Rattle.std.proofs.Common.{◌≡◌, ℕ, List, [], ◌∷◌, ◌++◌, length, take, drop, Some, refl, sym, ap, subst, ◌∙◌, append_assoc, append-nil, arith, length-append}
use Rattle.std.specs.List.{flat_map}
use Rattle.std.proofs.lemmas.List.{take-append-drop, take_at, drop_at}
use Rattle.std.proofs.lemmas.List.Concat.{flat_map-append}
use Rattle.rb_rpc.specs.RecordLaws.{IsMarked, AreMarked, HasNoRecord, Records, RecordsAreFirstOnes, RecordsEnd, RecordsAreUnique}
use Rattle.rb_rpc.specs.Records.{first_record, data_of}
use Rattle.rb_rpc.proofs.Markings.{some_is, record_again, data_again, first_is_least, has_none, none_where_no_front}

abbrev all_of : List (List ℕ) → List ℕ
all_of texts = flat_map (λ text. text) texts

-- a marked record in front of bytes is their first
first_text : (text content more : List ℕ) → IsMarked text content → first_record (text ++ more) ≡ Some (length text)
first_text text content more is = record_again is.fragments text more is.marked

-- bytes that begin with one have one
begins_with_none : (text content more : List ℕ) → IsMarked text content → HasNoRecord (text ++ more) → ⊥
begins_with_none text content more is none =
    none (length text) content (omega (arith, length-append text more)) (subst (λ (xs : List ℕ). IsMarked xs content) (sym (take_at text more (length text) refl)) is)

same_data : (text other content data_too : List ℕ) → text ≡ other → IsMarked text content → IsMarked other data_too → content ≡ data_too
same_data text other content data_too e is is_too = sym (data_again text content [] is) ∙ ap (λ (xs : List ℕ). data_of (xs ++ [])) e ∙ data_again other data_too [] is_too

unique : (texts contents others_of others : List (List ℕ)) (rest left : List ℕ) → AreMarked texts contents → AreMarked others_of others → HasNoRecord rest → HasNoRecord left
    → all_of texts ++ rest ≡ all_of others_of ++ left → (contents ≡ others) × (rest ≡ left)
unique [] [] [] [] rest left are are_too none none_too e = (refl, e)
unique [] [] (t ∷ ts) (c ∷ cs) rest left are are_too none none_too e =
    absurd (begins_with_none t c (all_of ts ++ left) are_too.0 (subst HasNoRecord (e ∙ append_assoc t (all_of ts) left) none))
unique (t ∷ ts) (c ∷ cs) [] [] rest left are are_too none none_too e =
    absurd (begins_with_none t c (all_of ts ++ rest) are.0 (subst HasNoRecord (sym e ∙ append_assoc t (all_of ts) rest) none_too))
unique (t ∷ ts) (c ∷ cs) (u ∷ us) (d ∷ ds) rest left are are_too none none_too e =
    let x : List ℕ = all_of ts ++ rest in
    let y : List ℕ = all_of us ++ left in
    let same : t ++ x ≡ u ++ y = sym (append_assoc t (all_of ts) rest) ∙ e ∙ append_assoc u (all_of us) left in
    let len : length t ≡ length u = some_is _ _ (sym (first_text t c x are.0) ∙ ap first_record same ∙ first_text u d y are_too.0) in
    let text : t ≡ u = sym (take_at t x (length t) refl) ∙ ap (λ (xs : List ℕ). take (length t) xs) same ∙ take_at u y (length t) (sym len) in
    let more : x ≡ y = sym (drop_at t x (length t) refl) ∙ ap (λ (xs : List ℕ). drop (length t) xs) same ∙ drop_at u y (length t) (sym len) in
    let later = unique ts cs us ds rest left are.1 are_too.1 none none_too more in
    (joined_up (same_data t u c d text are.0 are_too.0) later.0, later.1)
  where
    joined_up : {a b : List ℕ} {more others : List (List ℕ)} → a ≡ b → more ≡ others → a ∷ more ≡ b ∷ others
    joined_up e f = rw (e, f) refl
unique [] (c ∷ cs) us ds rest left are are_too none none_too e = absurd are
unique (t ∷ ts) [] us ds rest left are are_too none none_too e = absurd are
unique [] [] [] (d ∷ ds) rest left are are_too none none_too e = absurd are_too
unique [] [] (u ∷ us) [] rest left are are_too none none_too e = absurd are_too
unique (t ∷ ts) (c ∷ cs) [] (d ∷ ds) rest left are are_too none none_too e = absurd are_too
unique (t ∷ ts) (c ∷ cs) (u ∷ us) [] rest left are are_too none none_too e = absurd are_too

pub are_unique : RecordsAreUnique
are_unique bytes contents others rest left r s =
    unique r.texts contents s.texts others rest left r.are_marked s.are_marked r.none_more s.none_more (sym r.whole ∙ s.whole)

pub they_end : RecordsEnd
they_end bytes are none = record { texts = []; are_marked = tt; whole = refl; none_more = (none_where_no_front bytes are).0 none }

pub are_first_ones : RecordsAreFirstOnes
are_first_ones bytes n contents rest are is later =
    let f = (first_is_least bytes are n).0 is in
    let content_is : data_of bytes ≡ f.content = ap data_of (sym (take-append-drop n bytes)) ∙ data_again (take n bytes) f.content (drop n bytes) f.is_marked in
    record {
      texts = take n bytes ∷ later.texts;
      are_marked = (subst (λ (xs : List ℕ). IsMarked (take n bytes) xs) (sym content_is) f.is_marked, later.are_marked);
      whole = sym (take-append-drop n bytes) ∙ ap (λ (xs : List ℕ). take n bytes ++ xs) later.whole ∙ sym (append_assoc (take n bytes) (all_of later.texts) rest);
      none_more = later.none_more;
    }

-- ---- more bytes

marked_more : (texts contents : List (List ℕ)) (text content : List ℕ) → AreMarked texts contents → IsMarked text content → AreMarked (texts ++ text ∷ []) (contents ++ content ∷ [])
marked_more [] [] text content are is = (is, tt)
marked_more (t ∷ ts) (c ∷ cs) text content are is = (are.0, marked_more ts cs text content are.1 is)
marked_more [] (c ∷ cs) text content are is = absurd are
marked_more (t ∷ ts) [] text content are is = absurd are

none_in_none : HasNoRecord []
unfolding first_record
none_in_none = has_none [] refl

pub no_bytes : Records [] [] []
no_bytes = record { texts = []; are_marked = tt; whole = refl; none_more = none_in_none }

-- with the last of them a record ends
pub one_more : (bytes run rest content : List ℕ) (contents : List (List ℕ)) → Records bytes contents rest → IsMarked (rest ++ run) content → Records (bytes ++ run) (contents ++ content ∷ []) []
one_more bytes run rest content contents r is = record {
  texts = r.texts ++ (rest ++ run) ∷ [];
  are_marked = marked_more r.texts contents (rest ++ run) content r.are_marked is;
  whole =
      ap (λ (xs : List ℕ). xs ++ run) r.whole ∙ append_assoc (all_of r.texts) rest run
      ∙ ap (λ (xs : List ℕ). all_of r.texts ++ xs) (sym (append-nil (rest ++ run)))
      ∙ sym (flat_map-append (λ text. text) r.texts ((rest ++ run) ∷ [])) ∙ sym (append-nil (all_of (r.texts ++ (rest ++ run) ∷ [])));
  none_more = none_in_none;
}

-- no record ends
pub goes_on : (bytes run rest : List ℕ) (contents : List (List ℕ)) → Records bytes contents rest → HasNoRecord (rest ++ run) → Records (bytes ++ run) contents (rest ++ run)
goes_on bytes run rest contents r none = record {
  texts = r.texts;
  are_marked = r.are_marked;
  whole = ap (λ (xs : List ℕ). xs ++ run) r.whole ∙ append_assoc (all_of r.texts) rest run;
  none_more = none;
}
