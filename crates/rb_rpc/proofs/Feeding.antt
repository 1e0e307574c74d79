-- What a reader of records makes of the bytes that it is fed.
use Rattle.std.proofs.Common.{◌≡◌, ◌<◌, ◌≤◌, ◌+◌, ◌-◌, ◌*◌, ◌%◌, ◌^◌, ℕ, zero, suc, Bool, true, false, not, cond, eqb, ltb, List, [], ◌∷◌, ◌++◌, length, take, drop, Option, Some, None, refl, sym, ap, subst, ◌∙◌, append_assoc, append-nil, zero-add, arith, length-append}
use Rattle.std.specs.Prelude.{option_map, slice_range}
use Rattle.std.proofs.lemmas.List.{length-take, length-drop, drop_at, take_all, nil_from_length}
use Rattle.std.proofs.lemmas.List.Concat.{flat_map-append}
use Rattle.std.proofs.lemmas.List.Sums.{fold-append}
use Rattle.std.proofs.lemmas.Bool.{eqb-true, ltb-false, ltb-true, lt-ltb, cond-true, cond-false}
use Rattle.rb_xdr.specs.Xdr.{AreBytes, number, number_at}
use Rattle.rb_xdr.proofs.Words.{number-number_at, number_at_small}
use Rattle.rb_rpc.specs.Records.{Fragment, fragment_header, marking, markings, is_last, fragment_end, is_cut, record_of, first_record, data_in, data_of}
use Rattle.rb_rpc.specs.RecordLaws.{joined_data, is_empty, AreFragments, IsMarked, IsMarkedAs, Records}
use Rattle.rb_rpc.specs.Marks.{Marks, Place, Part, AreOpen, number_so_far, IsInHeader, IsAt, StandsForFed}
use Rattle.rb_rpc.specs.Streams.{StandsForStream, RecordEnds, ArePart, StandsForMore, StreamGoesOn, RecordData, no_data, more_data, data_among, behind, behind_header, NoRecordEnded}
use Rattle.rb_rpc.specs.declared.marks.Place.TheVariants.{Header, Data}
use Rattle.rb_rpc.specs.declared.marks.Part.TheVariants as parts
use Rattle.rb_rpc.proofs.Markings.{header_says, length-header, record_step, record_again, data_again, data_step, at_least, has_none}
use Rattle.rb_rpc.proofs.Streams.{no_bytes, one_more, goes_on}

-- ---- fragments that ended, in front of other bytes

option_zero : (x : Option ℕ) → option_map (λ n. 0 + n) x ≡ x
option_zero None = refl
option_zero (Some n) = ap (λ (k : ℕ). Some k) (zero-add n)

option_twice : (a b : ℕ) (x : Option ℕ) → option_map (λ n. a + n) (option_map (λ n. b + n) x) ≡ option_map (λ n. a + b + n) x
option_twice a b None = refl
option_twice a b (Some n) = ap (λ (k : ℕ). Some k) (omega arith)

open_record : (k j : ℕ) (fragments : List Fragment) (rest : List ℕ) → AreOpen fragments → k ≡ length fragments + j
    → record_of k (markings fragments ++ rest) ≡ option_map (λ n. length (markings fragments) + n) (record_of j rest)
open_record k j [] rest are e = ap (λ (i : ℕ). record_of i rest) (e ∙ zero-add j) ∙ sym (option_zero (record_of j rest))
open_record zero j (f ∷ more) rest are e = absurd (omega (arith, e))
open_record (suc k) j (f ∷ more) rest are e =
    ap (λ (xs : List ℕ). record_of (suc k) xs) (append_assoc (marking f) (markings more) rest)
    ∙ record_step k f (markings more ++ rest) are.0
    ∙ cond-false _ _ _ are.1
    ∙ ap (λ (x : Option ℕ). option_map (λ n. length (marking f) + n) x) (open_record k j more rest are.2 (omega (arith, e)))
    ∙ option_twice (length (marking f)) (length (markings more)) (record_of j rest)
    ∙ ap (λ (i : ℕ). option_map (λ n. i + n) (record_of j rest)) (sym (length-append (marking f) (markings more)))

none_cut : (j : ℕ) (rest : List ℕ) → is_cut rest ≡ true → record_of j rest ≡ None
none_cut zero rest cut = refl
none_cut (suc j) rest cut = cond-true _ _ _ cut

first_open : (fragments : List Fragment) (rest : List ℕ) → AreOpen fragments → is_cut rest ≡ true → first_record (markings fragments ++ rest) ≡ None
unfolding first_record
first_open fragments rest are cut =
    let j : ℕ = length (markings fragments ++ rest) - length fragments in
    open_record (length (markings fragments ++ rest)) j fragments rest are (omega (arith, at_least fragments, length-append (markings fragments) rest))
    ∙ ap (λ (x : Option ℕ). option_map (λ n. length (markings fragments) + n) x) (none_cut j rest cut)

open_data : (k j : ℕ) (fragments : List Fragment) (rest : List ℕ) → AreOpen fragments → k ≡ length fragments + j
    → data_in k (markings fragments ++ rest) ≡ joined_data fragments ++ data_in j rest
open_data k j [] rest are e = ap (λ (i : ℕ). data_in i rest) (e ∙ zero-add j)
open_data zero j (f ∷ more) rest are e = absurd (omega (arith, e))
open_data (suc k) j (f ∷ more) rest are e =
    ap (λ (xs : List ℕ). data_in (suc k) xs) (append_assoc (marking f) (markings more) rest)
    ∙ data_step k f (markings more ++ rest) are.0
    ∙ cond-false _ _ _ are.1
    ∙ ap (λ (xs : List ℕ). f.content ++ xs) (open_data k j more rest are.2 (omega (arith, e)))
    ∙ sym (append_assoc f.content (joined_data more) (data_in j rest))

-- ---- the data of what is no whole fragment

-- a header at most has none
none_yet : (j : ℕ) (rest : List ℕ) → length rest ≤ 4 → data_in j rest ≡ []
none_yet zero rest short = refl
none_yet (suc j) rest short =
    by_test (is_last rest) (nil_from_length (slice_range rest 4 (fragment_end rest)) (omega (arith, short, length-drop 4 rest, length-take (fragment_end rest - 4) (drop 4 rest))))
    (none_yet j (drop (fragment_end rest) rest) (omega (arith, short, length-drop (fragment_end rest) rest)))
  where
    by_test : {s t : List ℕ} (b : Bool) → s ≡ [] → t ≡ [] → cond b s (s ++ t) ≡ []
    by_test true e f = e
    by_test false e f = rw (e, f) refl

header_data : (fragments : List Fragment) (front : List ℕ) → AreOpen fragments → length front ≤ 4 → data_of (markings fragments ++ front) ≡ joined_data fragments
unfolding data_of
header_data fragments front are short =
    let j : ℕ = length (markings fragments ++ front) - length fragments in
    open_data (length (markings fragments ++ front)) j fragments front are (omega (arith, at_least fragments, length-append (markings fragments) front))
    ∙ ap (λ (xs : List ℕ). joined_data fragments ++ xs) (none_yet j front short) ∙ append-nil (joined_data fragments)

-- after a header, the data as far as it goes
some_data : (j len : ℕ) (last : Bool) (content : List ℕ) → length content ≤ len → len < 2 ^ 31 → data_in (suc j) (fragment_header len last ++ content) ≡ content
some_data j len last content few small =
    let header : List ℕ = fragment_header len last in
    let bytes : List ℕ = header ++ content in
    let says = header_says len last content small in
    let size : 4 + len - 4 ≡ len = omega arith in
    let content_is : slice_range bytes 4 (fragment_end bytes) ≡ content =
    ap (λ (k : ℕ). slice_range bytes 4 k) says.0 ∙ ap (λ (k : ℕ). take k (drop 4 bytes)) size ∙ ap (λ (xs : List ℕ). take len xs) (drop_at header content 4 (length-header len last)) ∙ take_all len content few in
    let nothing : drop (fragment_end bytes) bytes ≡ [] = nil_from_length (drop (fragment_end bytes) bytes) (omega (arith, says.0, few, length-drop (fragment_end bytes) bytes, length-append header content, length-header len last)) in
    rw (content_is, nothing, none_yet j [] (omega arith)) (by_flag (is_last bytes))
  where
    by_flag : (b : Bool) → cond b content (content ++ []) ≡ content
    by_flag true = refl
    by_flag false = append-nil content

fragment_data : (fragments : List Fragment) (len : ℕ) (last : Bool) (content : List ℕ) → AreOpen fragments → length content ≤ len → len < 2 ^ 31
    → data_of (markings fragments ++ (fragment_header len last ++ content)) ≡ joined_data fragments ++ content
unfolding data_of
fragment_data fragments len last content are few small =
    let front : List ℕ = fragment_header len last ++ content in
    let j : ℕ = length (markings fragments ++ front) - length fragments - 1 in
    open_data (length (markings fragments ++ front)) (suc j) fragments front are (omega (arith, at_least fragments, length-append (markings fragments) front, length-append (fragment_header len last) content, length-header len last))
    ∙ ap (λ (xs : List ℕ). joined_data fragments ++ xs) (some_data j len last content few small)

-- ---- one fragment more

markings_more : (fragments : List Fragment) (f : Fragment) → markings (fragments ++ f ∷ []) ≡ markings fragments ++ marking f
markings_more fragments f = flat_map-append marking fragments (f ∷ []) ∙ ap (λ (xs : List ℕ). markings fragments ++ xs) (append-nil (marking f))

open_more : (fragments : List Fragment) (f : Fragment) → AreOpen fragments → length f.content < 2 ^ 31 → f.last ≡ false → AreOpen (fragments ++ f ∷ [])
open_more [] f are small last = (small, last, tt)
open_more (g ∷ more) f are small last = (are.0, are.1, open_more more f are.2 small last)

not_empty : (fragments : List Fragment) (f : Fragment) → is_empty (fragments ++ f ∷ []) ≡ false
not_empty [] f = refl
not_empty (g ∷ more) f = refl

closed : (fragments : List Fragment) (f : Fragment) → AreOpen fragments → length f.content < 2 ^ 31 → f.last ≡ true → AreFragments (fragments ++ f ∷ [])
closed [] f are small last = (small, last, tt)
closed (g ∷ more) f are small last = (are.0, are.1 ∙ sym (not_empty more f), closed more f are.2 small last)

-- ---- where the reader stands, and whether the record ended

pub record Reached (reached : Place × Bool) (fed : List ℕ) : Type 0 where
  ends : first_record fed ≡ cond reached.1 (Some (length fed)) None
  is_record : reached.1 ≡ true → IsMarked fed (data_of fed)
  stands : StandsForFed (record { place = reached.0 }) (cond reached.1 [] fed)

at_start : IsInHeader 0 0 []
at_start = record { seen_is = refl; few = omega arith; bytes = λ i. omega arith; number_is = refl }

cut_short : (rest : List ℕ) → length rest < 4 → is_cut rest ≡ true
cut_short rest short = lt-ltb _ _ (omega (arith, short))

-- after the last byte of a fragment
at_end : (fragments : List Fragment) (last : Bool) (content : List ℕ) → AreOpen fragments → length content < 2 ^ 31 → Reached (Header 0 0, last) (markings fragments ++ (fragment_header (length content) last ++ content))
at_end fragments true content are small =
    let f : Fragment = record { last = true; content = content } in
    let all : List Fragment = fragments ++ f ∷ [] in
    let bytes : List ℕ = markings fragments ++ marking f in
    let is : IsMarkedAs all bytes = record { some = not_empty fragments f; fragmented = closed fragments f are small refl; spelled = sym (markings_more fragments f) } in
    record {
      ends = ap first_record (sym (append-nil bytes)) ∙ record_again all bytes [] is;
      is_record = λ e. record {
        fragments = all;
        marked = is;
        content_is = ap data_of (sym (append-nil bytes)) ∙ data_again bytes (joined_data all) [] (record { fragments = all; marked = is; content_is = refl });
      };
      stands = record { fragments = []; front = []; open_still = tt; fed_is = refl; place = at_start };
    }
at_end fragments false content are small =
    let f : Fragment = record { last = false; content = content } in
    let all : List Fragment = fragments ++ f ∷ [] in
    let are_all : AreOpen all = open_more fragments f are small refl in
    let text : markings fragments ++ marking f ≡ markings all ++ [] = sym (markings_more fragments f) ∙ sym (append-nil (markings all)) in
    record {
      ends = ap first_record text ∙ first_open all [] are_all (cut_short [] (omega arith));
      is_record = λ e. absurd cc;
      stands = record { fragments = all; front = []; open_still = are_all; fed_is = text; place = at_start };
    }

pub at_data : (fragments : List Fragment) (left : ℕ) (last : Bool) (content : List ℕ) → AreOpen fragments → length content + left < 2 ^ 31
    → Reached (behind left last) (markings fragments ++ (fragment_header (length content + left) last ++ content))
unfolding behind
at_data fragments left last content are small = by_test (eqb left 0) refl
  where
    fed : ℕ → List ℕ
    fed len = markings fragments ++ (fragment_header len last ++ content)

    cut : 0 < left → is_cut (fragment_header (length content + left) last ++ content) ≡ true
    cut some = lt-ltb _ _ (omega (arith, some, (header_says (length content + left) last content small).0, length-append (fragment_header (length content + left) last) content, length-header (length content + left) last))

    by_test : (b : Bool) → eqb left 0 ≡ b → Reached (cond b (Header 0 0, last) (Data left last, false)) (markings fragments ++ (fragment_header (length content + left) last ++ content))
    by_test true e =
        let len : length content ≡ length content + left = omega (arith, eqb-true _ _ e) in
        subst (λ (k : ℕ). Reached (Header 0 0, last) (markings fragments ++ (fragment_header k last ++ content))) len (at_end fragments last content are (omega (arith, small)))
    by_test false e =
        let some : 0 < left = grind (arith, e) in
        record {
          ends = first_open fragments (fragment_header (length content + left) last ++ content) are (cut some);
          is_record = λ ended. absurd cc;
          stands = record {
            fragments = fragments;
            front = fragment_header (length content + left) last ++ content;
            open_still = are;
            fed_is = refl;
            place = record { content = content; some_left = some; fits = small; front_is = refl };
          };
        }

-- ---- a header

pub AreBytes-more : (xs : List ℕ) (b : ℕ) → AreBytes xs → b < 256 → AreBytes (xs ++ b ∷ [])
AreBytes-more [] b are small zero = small
AreBytes-more [] b are small (suc i) = omega arith
AreBytes-more (x ∷ xs) b are small zero = are zero
AreBytes-more (x ∷ xs) b are small (suc i) = AreBytes-more xs b (λ j. are (suc j)) small i

-- three bytes spell a number below 2^24
few_small : (xs : List ℕ) → AreBytes xs → length xs < 4 → number_so_far xs < 2 ^ 24
few_small [] are few = omega arith
few_small (a ∷ []) are few = let a0 = are 0 in omega (arith, a0)
few_small (a ∷ b ∷ []) are few = let a0 = are 0 in let b0 = are 1 in omega (arith, a0, b0)
few_small (a ∷ b ∷ c ∷ []) are few = let a0 = are 0 in let b0 = are 1 in let c0 = are 2 in omega (arith, a0, b0, c0)
few_small (a ∷ b ∷ c ∷ d ∷ more) are few = absurd (omega (arith, few))

-- four bytes spell the number of a header
pub four_are : (xs : List ℕ) → length xs ≡ 4 → number_so_far xs ≡ number_at 0 xs
unfolding number_at
four_are [] e = absurd (omega (arith, e))
four_are (a ∷ []) e = absurd (omega (arith, e))
four_are (a ∷ b ∷ []) e = absurd (omega (arith, e))
four_are (a ∷ b ∷ c ∷ []) e = absurd (omega (arith, e))
four_are (a ∷ b ∷ c ∷ d ∷ []) e = omega arith
four_are (a ∷ b ∷ c ∷ d ∷ x ∷ more) e = absurd (omega (arith, e))

-- one byte more
pub so_far_more : (xs : List ℕ) (b : ℕ) → AreBytes xs → length xs < 4 → number_so_far xs * 256 % 2 ^ 32 + b ≡ number_so_far (xs ++ b ∷ [])
so_far_more xs b are few = omega (arith, few_small xs are few) ∙ sym (fold-append (λ n b. n * 256 + b) 0 xs (b ∷ []))

header_of : (n : ℕ) → n < 2 ^ 32 → fragment_header (n % 2 ^ 31) (not (ltb n (2 ^ 31))) ≡ number n
unfolding fragment_header
header_of n small = ap number (by_bit (ltb n (2 ^ 31)) refl)
  where
    by_bit : (b : Bool) → ltb n (2 ^ 31) ≡ b → cond (not b) (2 ^ 31 + n % 2 ^ 31) (n % 2 ^ 31) ≡ n
    by_bit true e = omega (arith, ltb-true _ _ e)
    by_bit false e = omega (arith, ltb-false _ _ e, small)

-- a whole header
whole_header : (xs : List ℕ) → AreBytes xs → length xs ≡ 4 → xs ≡ fragment_header (number_so_far xs % 2 ^ 31) (not (ltb (number_so_far xs) (2 ^ 31))) ++ []
whole_header xs are len =
    let n : ℕ = number_at 0 xs in
    let long : 0 + 4 ≤ length xs = omega (arith, len) in
    let is : number n ≡ xs = number-number_at 0 xs are long ∙ take_all 4 xs (omega (arith, len)) in
    sym is ∙ sym (header_of n (number_at_small 0 xs are)) ∙ ap (λ (k : ℕ). fragment_header (k % 2 ^ 31) (not (ltb k (2 ^ 31)))) (sym (four_are xs len)) ∙ sym (append-nil _)

-- after the last byte of a header
at_header : (fragments : List Fragment) (left : ℕ) (last : Bool) → AreOpen fragments → left < 2 ^ 31 → Reached (behind left last) (markings fragments ++ (fragment_header left last ++ []))
at_header fragments left last are small =
    subst (λ (k : ℕ). Reached (behind left last) (markings fragments ++ (fragment_header k last ++ []))) (zero-add left) (at_data fragments left last [] are (omega (arith, small)))

-- ---- what bytes are, and where they lead

-- whatever was fed before
pub record Ran (old : Marks) (reached : Place × Bool) (part : Part) (run : List ℕ) : Type 0 where
  pub ends : RecordEnds old run reached.1
  pub content : ArePart old part run
  pub stands : StandsForMore old run reached.1 (record { place = reached.0 })
  pub stream : StreamGoesOn old part run reached.1 (record { place = reached.0 })

abbrev Step : Place × Bool → Part → List ℕ → List ℕ → Type 0
Step reached part run fed = Reached reached (fed ++ run) × (data_of (fed ++ run) ≡ data_of fed ++ data_among part run)

streamed : (old : Marks) (place : Place) (ended : Bool) (part : Part) (bytes run : List ℕ) (read : RecordData) (h : StandsForStream old bytes read) → Step (place, ended) part run h.rest
    → StandsForStream (record { place = place }) (bytes ++ run) (more_data (data_among part run) ended read)
unfolding data_of
streamed old place true part bytes run read h step = record {
  rest = [];
  records =
      subst (λ (xs : List ℕ). Records (bytes ++ run) (read.contents ++ xs ∷ []) []) (step.1 ∙ ap (λ (xs : List ℕ). xs ++ data_among part run) (sym h.unfinished_is))
      (one_more bytes run h.rest (data_of (h.rest ++ run)) read.contents h.records (step.0.is_record refl));
  unfinished_is = refl;
  stands = step.0.stands;
}
streamed old place false part bytes run read h step = record {
  rest = h.rest ++ run;
  records = goes_on bytes run h.rest read.contents h.records (has_none (h.rest ++ run) step.0.ends);
  unfinished_is = ap (λ (xs : List ℕ). xs ++ data_among part run) h.unfinished_is ∙ sym step.1;
  stands = step.0.stands;
}

ran : (old : Marks) (reached : Place × Bool) (part : Part) (run : List ℕ) → ((fed : List ℕ) → StandsForFed old fed → Step reached part run fed) → Ran old reached part run
ran old reached part run step = record {
  ends = λ fed h. (step fed h).0.ends ∙ ap (λ (k : ℕ). cond reached.1 (Some k) None) (length-append fed run);
  content = λ fed h. (step fed h).1;
  stands = λ fed h. (step fed h).0.stands;
  stream = λ bytes read h. streamed old reached.0 reached.1 part bytes run read h (step h.rest h.stands);
}

header_step : (seen number byte : ℕ) (fed : List ℕ) → byte < 256 → StandsForFed (record { place = Header seen number }) fed → Step (behind_header seen number byte) parts.Header (byte ∷ []) fed
unfolding behind_header
header_step seen number byte fed small h =
    let front : List ℕ = h.front ++ byte ∷ [] in
    let few : length h.front < 4 = h.place.few in
    let len : length front ≡ length h.front + 1 = length-append h.front (byte ∷ []) in
    let are : AreBytes front = AreBytes-more h.front byte h.place.bytes small in
    let text : fed ++ byte ∷ [] ≡ markings h.fragments ++ front = ap (λ (xs : List ℕ). xs ++ byte ∷ []) h.fed_is ∙ append_assoc (markings h.fragments) h.front (byte ∷ []) in
    let next : number * 256 % 2 ^ 32 + byte ≡ number_so_far front = ap (λ (k : ℕ). k * 256 % 2 ^ 32 + byte) h.place.number_is ∙ so_far_more h.front byte h.place.bytes few in
    let seen_is : seen ≡ length h.front = h.place.seen_is in (
      subst (λ (p : ℕ × List ℕ). Reached (cond (ltb seen 3) (Header (seen + 1) p.0, false) (behind (p.0 % 2 ^ 31) (not (ltb p.0 (2 ^ 31))))) p.1) (pair_is _ _ _ _ (sym next) (sym text))
          (by_test (ltb seen 3) refl seen_is len few are),
      ap data_of text ∙ header_data h.fragments front h.open_still (omega (arith, len, few))
          ∙ sym (append-nil (joined_data h.fragments)) ∙ ap (λ (xs : List ℕ). xs ++ []) (sym (ap data_of h.fed_is ∙ header_data h.fragments h.front h.open_still (omega (arith, few)))),
    )
  where
    pair_is : (a b : ℕ) (x y : List ℕ) → a ≡ b → x ≡ y → ◌≡◌ {A = ℕ × List ℕ} (a, x) (b, y)
    pair_is a b x y e f = rw (e, f) refl

    by_test : (b : Bool) → ltb seen 3 ≡ b → seen ≡ length h.front → length (h.front ++ byte ∷ []) ≡ length h.front + 1 → length h.front < 4 → AreBytes (h.front ++ byte ∷ [])
        → Reached (cond b (Header (seen + 1) (number_so_far (h.front ++ byte ∷ [])), false) (behind (number_so_far (h.front ++ byte ∷ []) % 2 ^ 31) (not (ltb (number_so_far (h.front ++ byte ∷ [])) (2 ^ 31))))) (markings h.fragments ++ (h.front ++ byte ∷ []))
    by_test true e seen_is len few are =
        let short : length (h.front ++ byte ∷ []) < 4 = omega (arith, len, seen_is, ltb-true _ _ e) in
        record {
          ends = first_open h.fragments (h.front ++ byte ∷ []) h.open_still (cut_short (h.front ++ byte ∷ []) short);
          is_record = λ ended. absurd cc;
          stands = record {
            fragments = h.fragments;
            front = h.front ++ byte ∷ [];
            open_still = h.open_still;
            fed_is = refl;
            place = record { seen_is = omega (arith, len, seen_is); few = short; bytes = are; number_is = refl };
          };
        }
    by_test false e seen_is len few are =
        let four : length (h.front ++ byte ∷ []) ≡ 4 = omega (arith, len, seen_is, few, ltb-false _ _ e) in
        let n : ℕ = number_so_far (h.front ++ byte ∷ []) in
        subst (λ (xs : List ℕ). Reached (behind (n % 2 ^ 31) (not (ltb n (2 ^ 31)))) (markings h.fragments ++ xs)) (sym (whole_header (h.front ++ byte ∷ []) are four))
        (at_header h.fragments (n % 2 ^ 31) (not (ltb n (2 ^ 31))) h.open_still (omega arith))

pub header_ran : (old : Marks) (reached : Place × Bool) (seen number byte : ℕ) → byte < 256 → old.place ≡ Header seen number → reached ≡ behind_header seen number byte → Ran old reached parts.Header (byte ∷ [])
header_ran old reached seen number byte small is reached_is =
    subst (λ (r : Place × Bool). Ran old r parts.Header (byte ∷ [])) (sym reached_is)
    (ran old (behind_header seen number byte) parts.Header (byte ∷ [])
    (λ fed h. header_step seen number byte fed small (subst (λ (p : Place). StandsForFed (record { place = p }) fed) is h)))

-- ---- data

data_steps : (left : ℕ) (last : Bool) (run fed : List ℕ) → length run ≤ left → StandsForFed (record { place = Data left last }) fed → Step (behind (left - length run) last) parts.Data run fed
data_steps left last run fed few h =
    let content : List ℕ = h.place.content in
    let len : ℕ = length content + left in
    let header : List ℕ = fragment_header len last in
    let more : List ℕ = content ++ run in
    let more_len : length more ≡ length content + length run = length-append content run in
    let small : len < 2 ^ 31 = h.place.fits in
    let before : fed ≡ markings h.fragments ++ (header ++ content) = h.fed_is ∙ ap (λ (xs : List ℕ). markings h.fragments ++ xs) h.place.front_is in
    let text : fed ++ run ≡ markings h.fragments ++ (header ++ more) =
    ap (λ (xs : List ℕ). xs ++ run) before ∙ append_assoc (markings h.fragments) (header ++ content) run ∙ ap (λ (xs : List ℕ). markings h.fragments ++ xs) (append_assoc header content run) in
    let sum : length more + (left - length run) ≡ len = omega (arith, more_len, few) in
    let reached : Reached (behind (left - length run) last) (markings h.fragments ++ (fragment_header (length more + (left - length run)) last ++ more)) =
    at_data h.fragments (left - length run) last more h.open_still (omega (arith, sum, small)) in (
      subst (λ (xs : List ℕ). Reached (behind (left - length run) last) xs) (ap (λ (k : ℕ). markings h.fragments ++ (fragment_header k last ++ more)) sum ∙ sym text) reached,
      ap data_of text ∙ fragment_data h.fragments len last more h.open_still (omega (arith, more_len, few)) small ∙ sym (append_assoc (joined_data h.fragments) content run)
          ∙ ap (λ (xs : List ℕ). xs ++ run) (sym (ap data_of before ∙ fragment_data h.fragments len last content h.open_still (omega arith) small)),
    )

pub data_ran : (old : Marks) (reached : Place × Bool) (left rest count : ℕ) (last : Bool) (run : List ℕ) → length run ≡ count → (0 < left → count ≤ left)
    → old.place ≡ Data left last → rest ≡ left - count → reached ≡ behind rest last → Ran old reached parts.Data run
data_ran old reached left rest count last run len few is rest_is reached_is =
    subst (λ (r : Place × Bool). Ran old r parts.Data run) (ap (λ (k : ℕ). behind (left - k) last) len ∙ ap (λ (k : ℕ). behind k last) (sym rest_is) ∙ sym reached_is)
    (ran old (behind (left - length run) last) parts.Data run
    (λ fed h.
    let at : StandsForFed (record { place = Data left last }) fed = subst (λ (p : Place). StandsForFed (record { place = p }) fed) is h in
    data_steps left last run fed (omega (arith, len, few at.place.some_left)) at))

-- ---- nothing ended

pub none_ended : NoRecordEnded
none_ended marks fed h = ap first_record h.fed_is ∙ first_open h.fragments h.front h.open_still (by_place marks.place h.place)
  where
    by_place : (p : Place) → IsAt p h.front → is_cut h.front ≡ true
    by_place (Header seen number) is = cut_short h.front is.few
    by_place (Data left last) is =
        ap is_cut is.front_is
        ∙ lt-ltb _ _ (omega (arith, is.some_left, (header_says (length is.content + left) last is.content is.fits).0, length-append (fragment_header (length is.content + left) last) is.content, length-header (length is.content + left) last))

-- ---- before the first byte

pub stream_begins : StandsForStream (record { place = Header 0 0 }) [] no_data
unfolding data_of
stream_begins = record {
  rest = [];
  records = no_bytes;
  unfinished_is = refl;
  stands = record { fragments = []; front = []; open_still = tt; fed_is = refl; place = at_start };
}
