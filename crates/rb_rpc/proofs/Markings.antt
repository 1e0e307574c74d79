-- First records and fragments agree.
use Rattle.std.proofs.Common.{◌≡◌, ◌<◌, ◌≤◌, ◌+◌, ◌-◌, ◌%◌, ◌^◌, ℕ, zero, suc, Bool, true, false, not, cond, ltb, List, [], ◌∷◌, ◌++◌, length, take, drop, Option, Some, None, refl, sym, ap, subst, ◌∙◌, append_assoc, append-nil, arith, inl, inr, ◌⊎◌, length-append}
use Rattle.std.specs.Prelude.{option_map, slice_range, nat_lt}
use Rattle.std.specs.Int.{w32, from_be_bytes}
use Rattle.std.proofs.lemmas.List.{take-append-drop, take-take, drop-take, length-take, length-drop, take_at, drop_at, nil_from_length}
use Rattle.std.proofs.lemmas.Bool.{ltb-false, ltb-true, le-ltb, lt-ltb, cond-true, cond-false}
use Rattle.std.proofs.lemmas.List.Elements.{All-cons, All-nil}
use Rattle.std.proofs.Math.Seq.{take-add}
use Rattle.rb_xdr.specs.Xdr.{AreBytes, number, number_at}
use Rattle.rb_rpc.specs.Records.{Fragment, fragment_header, marking, markings, is_last, fragment_end, is_cut, record_of, first_record, data_in, data_of, BeginsWithRecord, fragment_size, cut_up, reply_fragments, marked_reply}
use Rattle.rb_rpc.specs.RecordLaws.{joined_data, is_empty, AreFragments, IsMarked, IsMarkedAs, HasNoRecord, FirstRecordIsLeast, NoneWhereNoFrontIsOne, DataIsJoined, NoRecordBeginsAnother, IsReplyFragment, AreReplyFragments, RepliesAreMarked}
use Rattle.rb_xdr.proofs.Words.{AreBytes-drop, length-number, number_at-number, number-number_at, number_at_small}

pub length-header : (len : ℕ) (last : Bool) → length (fragment_header len last) ≡ 4
unfolding fragment_header
length-header len last = length-number _

length-marking : (f : Fragment) → length (marking f) ≡ 4 + length f.content
length-marking f = omega (arith, length-append (fragment_header (length f.content) f.last) f.content, length-header (length f.content) f.last)

-- what a header says
pub header_says : (len : ℕ) (last : Bool) (rest : List ℕ) → len < 2 ^ 31 → (fragment_end (fragment_header len last ++ rest) ≡ 4 + len) × (is_last (fragment_header len last ++ rest) ≡ last)
unfolding fragment_header
header_says len true rest small =
    rw (number_at-number (2 ^ 31 + len) rest (omega (arith, small))) (omega (arith, small), ap not (le-ltb (2 ^ 31 + len) (2 ^ 31) (omega arith)))
header_says len false rest small = rw (number_at-number len rest (omega (arith, small))) (omega (arith, small), ap not (lt-ltb len (2 ^ 31) small))

by_tests : {A : Type 0} (cut last : Bool) (f_last : Bool) (x y z : A) → cut ≡ false → last ≡ f_last → cond cut x (cond last y z) ≡ cond f_last y z
by_tests cut last f_last x y z c l = rw (c, l) refl

-- one fragment in front
pub record_step : (k : ℕ) (f : Fragment) (rest : List ℕ) → length f.content < 2 ^ 31
    → record_of (suc k) (marking f ++ rest) ≡ cond f.last (Some (length (marking f))) (option_map (λ n. length (marking f) + n) (record_of k rest))
record_step k f rest small =
    let bytes : List ℕ = marking f ++ rest in
    let whole : bytes ≡ fragment_header (length f.content) f.last ++ (f.content ++ rest) = append_assoc (fragment_header (length f.content) f.last) f.content rest in
    let says = header_says (length f.content) f.last (f.content ++ rest) small in
    let end_is : fragment_end bytes ≡ length (marking f) = ap fragment_end whole ∙ says.0 ∙ sym (length-marking f) in
    let last_is : is_last bytes ≡ f.last = ap is_last whole ∙ says.1 in
    let uncut : is_cut bytes ≡ false = le-ltb _ _ (omega (arith, end_is, length-append (marking f) rest)) in
    by_tests (is_cut bytes) (is_last bytes) f.last None (Some (fragment_end bytes)) (option_map (λ n. fragment_end bytes + n) (record_of k (drop (fragment_end bytes) bytes))) uncut last_is
    ∙ rw (end_is, drop_at (marking f) rest (length (marking f)) refl) refl

-- the fuel is enough if it is at least the number of fragments
record_walk : (k : ℕ) (fragments : List Fragment) (rest : List ℕ) → is_empty fragments ≡ false → AreFragments fragments → length fragments ≤ k
    → record_of k (markings fragments ++ rest) ≡ Some (length (markings fragments))
record_walk k [] rest some are enough = absurd cc
record_walk zero (f ∷ more) rest some are enough = absurd (omega (arith, enough))
record_walk (suc k) (f ∷ []) rest some are enough =
    ap (λ (xs : List ℕ). record_of (suc k) (xs ++ rest)) (append-nil (marking f))
    ∙ record_step k f rest are.0 ∙ cond-true _ _ _ are.1 ∙ ap (λ (xs : List ℕ). Some (length xs)) (sym (append-nil (marking f)))
record_walk (suc k) (f ∷ g ∷ more) rest some are enough =
    let behind = markings (g ∷ more) in
    ap (λ (xs : List ℕ). record_of (suc k) xs) (append_assoc (marking f) behind rest)
    ∙ record_step k f (behind ++ rest) are.0
    ∙ cond-false _ _ _ are.1
    ∙ ap (λ (x : Option ℕ). option_map (λ n. length (marking f) + n) x) (record_walk k (g ∷ more) rest refl are.2 (omega (arith, enough)))
    ∙ ap (λ (n : ℕ). Some n) (sym (length-append (marking f) behind))

pub at_least : (fragments : List Fragment) → length fragments ≤ length (markings fragments)
at_least [] = omega arith
at_least (f ∷ more) = omega (arith, at_least more, length-append (marking f) (markings more), length-marking f)

pub record_again : (fragments : List Fragment) (bytes rest : List ℕ) → IsMarkedAs fragments bytes → first_record (bytes ++ rest) ≡ Some (length bytes)
unfolding first_record
record_again fragments bytes rest m =
    rw m.spelled (record_walk (length (markings fragments ++ rest)) fragments rest m.some m.fragmented (omega (arith, at_least fragments, length-append (markings fragments) rest)))

-- ---- data

pub data_step : (k : ℕ) (f : Fragment) (rest : List ℕ) → length f.content < 2 ^ 31
    → data_in (suc k) (marking f ++ rest) ≡ cond f.last f.content (f.content ++ data_in k rest)
data_step k f rest small =
    let header : List ℕ = fragment_header (length f.content) f.last in
    let bytes : List ℕ = marking f ++ rest in
    let whole : bytes ≡ header ++ (f.content ++ rest) = append_assoc header f.content rest in
    let says = header_says (length f.content) f.last (f.content ++ rest) small in
    let end_is : fragment_end bytes ≡ 4 + length f.content = ap fragment_end whole ∙ says.0 in
    let last_is : is_last bytes ≡ f.last = ap is_last whole ∙ says.1 in
    let size : 4 + length f.content - 4 ≡ length f.content = omega arith in
    let content_is : slice_range bytes 4 (fragment_end bytes) ≡ f.content =
    rw (end_is, size, ap (λ (xs : List ℕ). drop 4 xs) whole, drop_at header (f.content ++ rest) 4 (length-header (length f.content) f.last)) (take_at f.content rest (length f.content) refl) in
    let behind : drop (fragment_end bytes) bytes ≡ rest = rw end_is (drop_at (marking f) rest (4 + length f.content) (length-marking f)) in
    rw (last_is, content_is, behind) refl

data_walk : (k : ℕ) (fragments : List Fragment) (rest : List ℕ) → is_empty fragments ≡ false → AreFragments fragments → length fragments ≤ k
    → data_in k (markings fragments ++ rest) ≡ joined_data fragments
data_walk k [] rest some are enough = absurd cc
data_walk zero (f ∷ more) rest some are enough = absurd (omega (arith, enough))
data_walk (suc k) (f ∷ []) rest some are enough =
    ap (λ (xs : List ℕ). data_in (suc k) (xs ++ rest)) (append-nil (marking f))
    ∙ data_step k f rest are.0 ∙ rw (are.1, append-nil f.content) refl
data_walk (suc k) (f ∷ g ∷ more) rest some are enough =
    let behind = markings (g ∷ more) in
    ap (λ (xs : List ℕ). data_in (suc k) xs) (append_assoc (marking f) behind rest)
    ∙ data_step k f (behind ++ rest) are.0
    ∙ rw (are.1, data_walk k (g ∷ more) rest refl are.2 (omega (arith, enough))) refl

pub data_again : (bytes content rest : List ℕ) → IsMarked bytes content → data_of (bytes ++ rest) ≡ content
unfolding data_of
data_again bytes content rest m =
    rw (m.marked.spelled, m.content_is) (data_walk (length (markings m.fragments ++ rest)) m.fragments rest m.marked.some m.marked.fragmented (omega (arith, at_least m.fragments, length-append (markings m.fragments) rest)))

-- ---- one fragment

end_of_one : (k : ℕ) (bytes : List ℕ) → 0 < k → is_cut bytes ≡ false → is_last bytes ≡ true → record_of k bytes ≡ Some (fragment_end bytes)
end_of_one zero bytes some cut last = absurd (omega (arith, some))
end_of_one (suc k) bytes some cut last = rw (cut, last) refl

data_of_one : (k : ℕ) (bytes : List ℕ) → 0 < k → is_last bytes ≡ true → data_in k bytes ≡ slice_range bytes 4 (fragment_end bytes)
data_of_one zero bytes some last = absurd (omega (arith, some))
data_of_one (suc k) bytes some last = rw last refl

-- the first word of a front
front_word : (n : ℕ) (bytes : List ℕ) → number_at 0 (take (4 + n) bytes) ≡ number_at 0 bytes
unfolding number_at
front_word n bytes = ap (λ (xs : List ℕ). from_be_bytes w32 xs) (take-take 4 (4 + n) bytes (omega arith))

pub one_begins : (bytes : List ℕ) (n : ℕ) → n ≡ number_at 0 bytes → 2 ^ 31 ≤ n → 4 + n % 2 ^ 31 ≤ length bytes → BeginsWithRecord (take (4 + n % 2 ^ 31 - 4) (drop 4 bytes)) bytes
unfolding first_record data_of
one_begins bytes n is last whole =
    let end : ℕ = 4 + n % 2 ^ 31 in
    let content : List ℕ = take (end - 4) (drop 4 bytes) in
    let size : length content ≡ end - 4 = omega (arith, length-take (end - 4) (drop 4 bytes), length-drop 4 bytes, whole) in
    let front : List ℕ = take (4 + length content) bytes in
    let end_is : fragment_end bytes ≡ end = ap (λ (k : ℕ). 4 + k % 2 ^ 31) (sym is) in
    let flag : is_last bytes ≡ true = ap not (le-ltb (number_at 0 bytes) (2 ^ 31) (omega (arith, is, last))) in
    let word : number_at 0 front ≡ number_at 0 bytes = front_word (length content) bytes in
    let front_end : fragment_end front ≡ end = ap (λ (k : ℕ). 4 + k % 2 ^ 31) (word ∙ sym is) in
    let front_flag : is_last front ≡ true = ap (λ (k : ℕ). not (nat_lt k (2 ^ 31))) word ∙ flag in
    record {
      ends =
          end_of_one (length bytes) bytes (omega (arith, whole)) (le-ltb (length bytes) (fragment_end bytes) (omega (arith, end_is, whole))) flag
          ∙ ap (λ (k : ℕ). Some k) (omega (arith, end_is, size));
      content_is =
          data_of_one (length front) front (omega (arith, length-take (4 + length content) bytes, whole)) front_flag
          ∙ ap (λ (k : ℕ). take (k - 4) (drop 4 front)) front_end
          ∙ ap (λ (xs : List ℕ). take (end - 4) xs) (drop-take 4 (length content) bytes)
          ∙ take-take (end - 4) (length content) (drop 4 bytes) (omega (arith, size));
    }

-- ---- from the bytes to the fragments

record Found (n : ℕ) (bytes : List ℕ) : Type 0 where
  fragments : List Fragment
  within : n ≤ length bytes
  is_marked : IsMarkedAs fragments (take n bytes)

abbrev one_of : (bytes : List ℕ) → Fragment
one_of bytes = record { last = is_last bytes; content = slice_range bytes 4 (fragment_end bytes) }

-- a whole fragment in front is spelled by its marking
fragment_front : (bytes : List ℕ) → AreBytes bytes → fragment_end bytes ≤ length bytes
    → (length (one_of bytes).content < 2 ^ 31) × (take (fragment_end bytes) bytes ≡ marking (one_of bytes))
unfolding fragment_header
fragment_front bytes are long =
    let n : ℕ = number_at 0 bytes in
    let len : ℕ = n % 2 ^ 31 in
    let small : n < 2 ^ 32 = number_at_small 0 bytes are in
    let low : len < 2 ^ 31 = omega arith in
    let size : 4 + len - 4 ≡ len = omega arith in
    let content : List ℕ = slice_range bytes 4 (4 + len) in
    let content_is : content ≡ take len (drop 4 bytes) = ap (λ (k : ℕ). take k (drop 4 bytes)) size in
    let content_len : length content ≡ len = ap length content_is ∙ omega (arith, length-take len (drop 4 bytes), length-drop 4 bytes, long) in
    let value : cond (not (ltb n (2 ^ 31))) (2 ^ 31 + len) len ≡ n = by_bit (ltb n (2 ^ 31)) refl in
    let header : number (cond (not (ltb n (2 ^ 31))) (2 ^ 31 + length content) (length content)) ≡ take 4 bytes = rw (content_len, value) (number-number_at 0 bytes are (omega (arith, long))) in
    (rw content_len low, take-add 4 len bytes ∙ rw (← header, ← content_is) refl)
  where
    by_bit : (b : Bool) → ltb (number_at 0 bytes) (2 ^ 31) ≡ b → cond (not b) (2 ^ 31 + number_at 0 bytes % 2 ^ 31) (number_at 0 bytes % 2 ^ 31) ≡ number_at 0 bytes
    by_bit true e = omega (arith, ltb-true _ _ e)
    by_bit false e = omega (arith, ltb-false _ _ e, number_at_small 0 bytes are)

pub not_cut : (b : Bool) (x : Option ℕ) (n : ℕ) → cond b None x ≡ Some n → (b ≡ false) × (x ≡ Some n)
not_cut true x n e = absurd cc
not_cut false x n e = (refl, e)

pub some_is : (a b : ℕ) → Some a ≡ Some b → a ≡ b
some_is a b e = cc

pub mapped : (d n : ℕ) (x : Option ℕ) → option_map (λ k. d + k) x ≡ Some n → (m : ℕ) × (x ≡ Some m) × (d + m ≡ n)
mapped d n None e = absurd cc
mapped d n (Some m) e = (m, refl, some_is _ _ e)

chosen : (b : Bool) (u v w : Option ℕ) → cond b u v ≡ w → ((b ≡ true) × (u ≡ w)) ⊎ ((b ≡ false) × (v ≡ w))
chosen true u v w e = inl (refl, e)
chosen false u v w e = inr (refl, e)

-- one more fragment in front
found_more : (e m : ℕ) (f : Fragment) (bytes : List ℕ) → e ≤ length bytes → length f.content < 2 ^ 31 → f.last ≡ false → take e bytes ≡ marking f → Found m (drop e bytes) → Found (e + m) bytes
found_more e m f bytes long small last front more = record {
  fragments = f ∷ more.fragments;
  within = omega (arith, long, more.within, length-drop e bytes);
  is_marked = record {
    some = refl;
    fragmented = (small, last ∙ sym more.is_marked.some, more.is_marked.fragmented);
    spelled = take-add e m bytes ∙ rw (front, more.is_marked.spelled) refl;
  };
}

found : (k : ℕ) (bytes : List ℕ) (n : ℕ) → AreBytes bytes → record_of k bytes ≡ Some n → Found n bytes
found zero bytes n are e = absurd cc
found (suc k) bytes n are e =
    let a = not_cut (is_cut bytes) _ n e in
    let long : fragment_end bytes ≤ length bytes = ltb-false _ _ a.0 in
    let front = fragment_front bytes are long in
    elim (chosen (is_last bytes) _ _ _ a.1) [
      | inl last ↦
          let end_is : fragment_end bytes ≡ n = some_is _ _ last.1 in
          record {
            fragments = one_of bytes ∷ [];
            within = omega (arith, long, end_is);
            is_marked = record {
              some = refl;
              fragmented = (front.0, last.0, tt);
              spelled = ap (λ (i : ℕ). take i bytes) (sym end_is) ∙ front.1 ∙ sym (append-nil (marking (one_of bytes)));
            };
          }
      | inr more ↦
          let m = mapped (fragment_end bytes) n _ more.1 in
          subst (λ (i : ℕ). Found i bytes) m.2
          (found_more (fragment_end bytes) m.0 (one_of bytes) bytes long front.0 (more.0) front.1 (found k (drop (fragment_end bytes) bytes) m.0 (AreBytes-drop (fragment_end bytes) bytes are) m.1))
    ]

-- ---- the laws

whole_again : (m : ℕ) (bytes content : List ℕ) → m ≤ length bytes → IsMarked (take m bytes) content → first_record bytes ≡ Some m
whole_again m bytes content within is =
    ap first_record (sym (take-append-drop m bytes)) ∙ record_again is.fragments (take m bytes) (drop m bytes) is.marked ∙ ap (λ (n : ℕ). Some n) (omega (arith, length-take m bytes, within))

found_first : (bytes : List ℕ) (n : ℕ) → AreBytes bytes → first_record bytes ≡ Some n → Found n bytes
unfolding first_record
found_first bytes n are e = found (length bytes) bytes n are e

pub first_is_least : FirstRecordIsLeast
first_is_least bytes are n = (
  λ e.
      let f = found_first bytes n are e in
      record {
        content = joined_data f.fragments;
        within = f.within;
        is_marked = record { fragments = f.fragments; marked = f.is_marked; content_is = refl };
        least = λ m other lt is. absurd (omega (arith, lt, some_is m n (sym (whole_again m bytes other (omega (arith, lt, f.within)) is) ∙ e)));
      },
  λ f. whole_again n bytes f.content f.within f.is_marked,
)

no_some : (n : ℕ) → Some n ≡ None → ⊥
no_some n e = cc

-- if the first record isn't there, none is
pub has_none : (bytes : List ℕ) → first_record bytes ≡ None → HasNoRecord bytes
has_none bytes e n content within is = no_some n (sym (whole_again n bytes content within is) ∙ e)

pub none_where_no_front : NoneWhereNoFrontIsOne
none_where_no_front bytes are = (
  λ e. has_none bytes e,
  λ h. by_value (first_record bytes) refl h,
)
  where
    by_value : (found : Option ℕ) → first_record bytes ≡ found → ((n : ℕ) (content : List ℕ) → n ≤ length bytes → IsMarked (take n bytes) content → ⊥) → first_record bytes ≡ None
    by_value None e h = e
    by_value (Some n) e h =
        let f = found_first bytes n are e in
        absurd (h n (joined_data f.fragments) f.within (record { fragments = f.fragments; marked = f.is_marked; content_is = refl }))

pub data_is_joined : DataIsJoined
data_is_joined = data_again

pub none_begins_another : NoRecordBeginsAnother
none_begins_another bytes more one other m o =
    let a = record_again m.fragments bytes more m.marked in
    let b = record_again o.fragments (bytes ++ more) [] o.marked in
    let same : length bytes ≡ length (bytes ++ more) = some_is _ _ (sym a ∙ ap first_record (sym (append-nil (bytes ++ more))) ∙ b) in
    nil_from_length more (omega (arith, same, length-append bytes more))

-- ---- replies

with_front : (f : Fragment) (fragments : List Fragment) (reply : List ℕ) → f.last ≡ false → length f.content ≡ fragment_size
    → AreReplyFragments fragments reply (markings fragments) → AreReplyFragments (f ∷ fragments) (f.content ++ reply) (markings (f ∷ fragments))
with_front f fragments reply last full are = record {
  sizes = All-cons IsReplyFragment f fragments (record { full = λ e. full; not_empty = omega (arith, full); at_most = omega (arith, full) }) are.sizes;
  is_marked = record { some = refl; fragmented = (omega (arith, full), last ∙ sym are.is_marked.some, are.is_marked.fragmented); spelled = refl };
  content = ap (λ (xs : List ℕ). f.content ++ xs) are.content;
}

alone : (reply : List ℕ) → 0 < length reply → length reply ≤ fragment_size
    → AreReplyFragments (record { last = true; content = reply } ∷ []) reply (markings (record { last = true; content = reply } ∷ []))
alone reply some few = record {
  sizes = All-cons IsReplyFragment (record { last = true; content = reply }) [] (record { full = λ e. absurd cc; not_empty = some; at_most = few }) (All-nil IsReplyFragment);
  is_marked = record { some = refl; fragmented = (omega (arith, few), refl, tt); spelled = refl };
  content = sym (append-nil reply);
}

abbrev front_of : List ℕ → Fragment
front_of reply = record { last = false; content = take fragment_size reply }

abbrev only : List ℕ → List Fragment
only reply = record { last = true; content = reply } ∷ []

cut_up_are : (k : ℕ) (reply : List ℕ) → 0 < length reply → length reply ≤ k → AreReplyFragments (cut_up k reply) reply (markings (cut_up k reply))
cut_up_are zero reply some enough = absurd (omega (arith, some, enough))
cut_up_are (suc k) reply some enough =
    by_test (ltb fragment_size (length reply)) (cut_up k (drop fragment_size reply)) refl (λ long. cut_up_are k (drop fragment_size reply) (omega (arith, long, length-drop fragment_size reply)) (omega (arith, long, enough, length-drop fragment_size reply)))
  where
    by_test : (b : Bool) (behind : List Fragment) → ltb fragment_size (length reply) ≡ b → (fragment_size < length reply → AreReplyFragments behind (drop fragment_size reply) (markings behind))
        → AreReplyFragments (cond b (front_of reply ∷ behind) (only reply)) reply (markings (cond b (front_of reply ∷ behind) (only reply)))
    by_test true behind e are =
        let long : fragment_size < length reply = ltb-true _ _ e in
        subst (λ (r : List ℕ). AreReplyFragments (front_of reply ∷ behind) r (markings (front_of reply ∷ behind))) (take-append-drop fragment_size reply)
        (with_front (front_of reply) behind (drop fragment_size reply) refl (omega (arith, long, length-take fragment_size reply)) (are long))
    by_test false behind e are = alone reply some (ltb-false _ _ e)

pub replies_are_marked : RepliesAreMarked
unfolding reply_fragments marked_reply
replies_are_marked reply some = cut_up_are (length reply) reply some (omega arith)
