-- A marked reply that is shown piece by piece.
use Rattle.std.specs.Global.{Vec}
use Rattle.std.specs.Io.KnownBytes.{Appends}
use Rattle.std.specs.Prelude.{min, is_some}
use Rattle.std.specs.List.{flat_map}
use Rattle.std.proofs.Common.{◌≡◌, ◌⊎◌, ◌<◌, ◌≤◌, ◌+◌, ℕ, zero, suc, Bool, true, false, nat_eq, ltb, cond, ◌||◌, List, [], ◌∷◌, ◌++◌, length, take, drop, Option, Some, None, Result, Ok, Err, refl, sym, ap, ◌∙◌, subst, append_assoc, append-nil, length-append, arith, inl, inr}
use Rattle.std.proofs.lemmas.Bool.{cases_lt, lt-ltb, le-ltb}
use Rattle.std.proofs.lemmas.Bool.Decides.{nat_tests}
use Rattle.std.proofs.lemmas.List.{take_all}
use Rattle.rb_rpc.specs.Records.{data_of}
use Rattle.rb_rpc.specs.RecordLaws.{AreMarked}
use Rattle.rb_rpc.specs.declared.marks.Marks.{Marks}
use Rattle.rb_rpc.specs.declared.marks.Part.{Part}
use Rattle.rb_rpc.specs.Streams.{StandsForStream, StreamGoesOn, data_among, no_data}
use Rattle.rb_rpc.proofs.Markings.{data_again, record_again}
use Rattle.rb_rpc.proofs.Feeding.{none_ended}
use Rattle.rb_show.specs.declared.fault.InfoFault.{InfoFault}
use Rattle.rb_show.specs.declared.fault.InfoFault.TheVariants.{CutOff, TooLong}
use Rattle.rb_show.specs.declared.ask.Ask.{Ask}
use Rattle.rb_show.specs.declared.form.Form.{Form}
use Rattle.rb_show.specs.declared.show.Shown.{Shown}
use Rattle.rb_show.specs.declared.showing.Showing.{Showing}
use Rattle.rb_show.specs.declared.telling.Telling.{Telling}
use Rattle.rb_show.specs.Data.{longest_record, front_of, is_whole, end_of}
use Rattle.rb_show.specs.Telling.{Teller, add_lines, give, lines_text, EndsIn, IsNotShown, Outcome}
use Rattle.rb_show.specs.Telling.Told.{Done, Stop}
use Rattle.rb_show.specs.Fronts.{GoesOn, Lacks}
use Rattle.rb_show.specs.Tellings.{rest_of, UpTo, TellsAll, TellsAllOr}
use Rattle.rb_show.specs.Replies.{tell_reply, tell_bytes, tell_datagram}
use Rattle.rb_show.specs.Showings.{unfinished, StandsAfter, ComesTo, ShowsFurther, Keeps, BeginsWithRecord, EndsRecord, Unmarks, IsWritten, lack_of, after_piece, as_whole, Feeds}
use Rattle.std.proofs.Math.Seq.{take-nil}
use Rattle.rb_rpc.specs.ReadReplies.{read_reply}
use Rattle.rb_show.specs.Heads.{may_begin, take_head}
use Rattle.rb_show.specs.Telling.{◌>>=◌}
use Rattle.rb_show.proofs.Fronts.{add_add, no_lines}

-- ---- records

same_bytes : (marks : Marks) (bytes content : List ℕ) (s : StandsForStream marks bytes (unfinished content)) → bytes ≡ s.rest
same_bytes marks bytes content s = by_texts s.records.texts s.records.are_marked s.records.whole
  where
    by_texts : (texts : List (List ℕ)) → AreMarked texts [] → bytes ≡ flat_map (λ (text : List ℕ). text) texts ++ s.rest → bytes ≡ s.rest
    by_texts [] are whole = whole
    by_texts (text ∷ texts) are whole = absurd are

pub data_is : (marks : Marks) (bytes content : List ℕ) → StandsForStream marks bytes (unfinished content) → data_of bytes ≡ content
data_is marks bytes content s = ap data_of (same_bytes marks bytes content s) ∙ sym s.unfinished_is

no_record : (marks : Marks) (bytes content : List ℕ) → StandsForStream marks bytes (unfinished content) → is_whole bytes ≡ false
no_record marks bytes content s =
    ap is_whole (same_bytes marks bytes content s) ∙ ap is_some (none_ended marks s.rest s.stands)

record_data : (bytes content : List ℕ) → BeginsWithRecord bytes content → data_of bytes ≡ content
record_data bytes content r = ap data_of r.whole ∙ data_again r.text content r.rest r.marked

record_whole : (bytes content : List ℕ) → BeginsWithRecord bytes content → is_whole bytes ≡ true
record_whole bytes content r = ap is_whole r.whole ∙ ap is_some (record_again r.marked.fragments r.text r.rest r.marked.marked)

-- a record that ended
pub has_ended : (marks : Marks) (bytes content : List ℕ) → StandsForStream marks bytes (record { contents = content ∷ []; unfinished = [] }) → BeginsWithRecord bytes content
has_ended marks bytes content s = by_texts s.records.texts s.records.are_marked s.records.whole
  where
    by_texts : (texts : List (List ℕ)) → AreMarked texts (content ∷ []) → bytes ≡ flat_map (λ (text : List ℕ). text) texts ++ s.rest → BeginsWithRecord bytes content
    by_texts [] are whole = absurd are
    by_texts (text ∷ []) are whole = record { text = text; rest = s.rest; marked = are.0; whole = whole ∙ ap (λ (xs : List ℕ). xs ++ s.rest) (append-nil text) }
    by_texts (text ∷ other ∷ texts) are whole = absurd are.1

pub stays_ended : (bytes more content : List ℕ) → BeginsWithRecord bytes content → BeginsWithRecord (bytes ++ more) content
stays_ended bytes more content r = record {
  text = r.text;
  rest = r.rest ++ more;
  marked = r.marked;
  whole = ap (λ (xs : List ℕ). xs ++ more) r.whole ∙ append_assoc r.text r.rest more;
}

-- ---- byte by byte

-- this data was kept of the bytes so far
abbrev pub Kept : Marks → Marks → List ℕ → List ℕ → List ℕ → Type 0
Kept old now bytes held held' =
    (before content : List ℕ) → StandsForStream old before (unfinished content)
    → (found : List ℕ) × (held' ≡ held ++ found) × StandsForStream now (before ++ bytes) (unfinished (content ++ found))

pub none_kept : (marks : Marks) (held : List ℕ) → Kept marks marks [] held held
none_kept marks held before content s = (
  [],
  sym (append-nil held),
  subst (λ (xs : List ℕ). StandsForStream marks xs (unfinished (content ++ []))) (sym (append-nil before)) (subst (λ (xs : List ℕ). StandsForStream marks before (unfinished xs)) (sym (append-nil content)) s),
)

module _ (old now new : Marks) (bytes held held' held'' : List ℕ) (part : Part) (byte : ℕ) where
  pub one_kept : Kept old now bytes held held' → StreamGoesOn now part (byte ∷ []) false new → Keeps part byte held' held'' → Kept old new (bytes ++ byte ∷ []) held held''
  one_kept kept goes adds before content s =
      let k = kept before content s in (
        k.0 ++ data_among part (byte ∷ []),
        adds ∙ ap (λ (xs : List ℕ). xs ++ data_among part (byte ∷ [])) k.1 ∙ append_assoc held k.0 (data_among part (byte ∷ [])),
        subst (λ (xs : List ℕ). StandsForStream new xs (unfinished (content ++ (k.0 ++ data_among part (byte ∷ []))))) (append_assoc before bytes (byte ∷ []))
            (subst (λ (xs : List ℕ). StandsForStream new ((before ++ bytes) ++ byte ∷ []) (unfinished xs)) (append_assoc content k.0 (data_among part (byte ∷ [])))
            (goes (before ++ bytes) (unfinished (content ++ k.0)) k.2)),
      )

  -- the record ends with it, whatever follows
  pub ends_kept : Kept old now bytes held held' → StreamGoesOn now part (byte ∷ []) true new → Keeps part byte held' held'' → (all rest : List ℕ) → all ≡ (bytes ++ byte ∷ []) ++ rest
      → (before content : List ℕ) → StandsForStream old before (unfinished content) → Unmarks new (before ++ all) content held held'' true
  ends_kept kept goes adds all rest whole before content s =
      let k = kept before content s in
      let ended : BeginsWithRecord ((before ++ bytes) ++ byte ∷ []) ((content ++ k.0) ++ data_among part (byte ∷ [])) = has_ended new _ _ (goes (before ++ bytes) (unfinished (content ++ k.0)) k.2) in
      let text : ((before ++ bytes) ++ byte ∷ []) ++ rest ≡ before ++ all =
      ap (λ (xs : List ℕ). xs ++ rest) (append_assoc before bytes (byte ∷ [])) ∙ append_assoc before (bytes ++ byte ∷ []) rest ∙ ap (λ (xs : List ℕ). before ++ xs) (sym whole) in
      record {
        found = k.0 ++ data_among part (byte ∷ []);
        held_is = adds ∙ ap (λ (xs : List ℕ). xs ++ data_among part (byte ∷ [])) k.1 ∙ append_assoc held k.0 (data_among part (byte ∷ []));
        ends = subst (λ (xs : List ℕ). BeginsWithRecord xs (content ++ (k.0 ++ data_among part (byte ∷ [])))) text
            (subst (BeginsWithRecord (((before ++ bytes) ++ byte ∷ []) ++ rest)) (append_assoc content k.0 (data_among part (byte ∷ []))) (stays_ended _ rest _ ended));
      }

pub all_kept : (old new : Marks) (bytes held held' : List ℕ) → Kept old new bytes held held' → (before content : List ℕ) → StandsForStream old before (unfinished content)
    → Unmarks new (before ++ bytes) content held held' false
all_kept old new bytes held held' kept before content s =
    let k = kept before content s in
    record { found = k.0; held_is = k.1; ends = k.2 }

-- ---- as far as may be read

take_more : (n k : ℕ) (front rest : List ℕ) → n ≡ length front + k → take n (front ++ rest) ≡ front ++ take k rest
take_more n k [] rest e = ap (λ (m : ℕ). take m rest) (omega (arith, e))
take_more n k (b ∷ front) rest e =
    ap (λ (m : ℕ). take m (b ∷ (front ++ rest))) {y = suc (length front + k)} (omega (arith, e)) ∙ ap (λ (xs : List ℕ). b ∷ xs) (take_more (length front + k) k front rest refl)

front_is : (before bytes : List ℕ) (allowed : ℕ) → length before + allowed ≡ longest_record → front_of (before ++ bytes) ≡ before ++ take allowed bytes
unfolding front_of
front_is before bytes allowed e = by_limit longest_record e
  where
    by_limit : (n : ℕ) → length before + allowed ≡ n → take n (before ++ bytes) ≡ before ++ take allowed bytes
    by_limit n is = take_more n allowed before bytes (sym is)

pub few_taken : (bytes : List ℕ) (allowed : ℕ) → take (min (length bytes) allowed) bytes ≡ take allowed bytes
few_taken bytes allowed =
    elim (cases_lt allowed (length bytes)) [
      | inl long ↦ let same : min (length bytes) allowed ≡ allowed = omega (arith, long) in ap (λ (n : ℕ). take n bytes) same
      | inr short ↦ let same : min (length bytes) allowed ≡ length bytes = omega (arith, short) in
          ap (λ (n : ℕ). take n bytes) same ∙ take_all (length bytes) bytes (omega arith) ∙ sym (take_all allowed bytes short)
    ]

-- ---- how bytes end that need more

either : (a : Bool) → cond (a || true) CutOff TooLong ≡ CutOff
either true = refl
either false = refl

whole_ends : (bytes : List ℕ) → is_whole (front_of bytes) ≡ true → end_of bytes ≡ CutOff
unfolding end_of
whole_ends bytes e = rw e (either (ltb (length bytes) longest_record))

short_ends : (bytes : List ℕ) → length bytes < longest_record → end_of bytes ≡ CutOff
unfolding end_of
short_ends bytes short = rw (lt-ltb (length bytes) longest_record short) refl

long_ends : (bytes : List ℕ) → longest_record ≤ length bytes → is_whole (front_of bytes) ≡ false → end_of bytes ≡ TooLong
unfolding end_of
long_ends bytes long e = rw (le-ltb (length bytes) longest_record long, e) refl

-- ---- a piece

not_zero : (k : ℕ) → nat_eq (suc k) 0 ≡ false
not_zero k = grind (arith, nat_tests)

module _ (ask : Ask) (form : Form) (xid : ℕ) (old new : Showing) (before bytes held : List ℕ) (lines : List (List ℕ)) (ended : Bool) (used : ℕ)
    (stands : StandsAfter ask form xid old before lines) (kept : Unmarks new.marks (before ++ take old.allowed bytes) (data_of before) old.held.items held ended) where
  piece_data : data_of (before ++ take old.allowed bytes) ≡ data_of before ++ kept.found
  piece_data = by_end ended kept.ends
    where
      by_end : (b : Bool) → EndsRecord new.marks (before ++ take old.allowed bytes) (data_of before ++ kept.found) b → data_of (before ++ take old.allowed bytes) ≡ data_of before ++ kept.found
      by_end true ends = record_data _ _ ends
      by_end false ends = data_is new.marks _ _ ends

  -- what is told of all the bytes
  told_of : tell_bytes ask form xid (before ++ bytes) ≡ tell_reply ask form xid (end_of (before ++ bytes)) (data_of before ++ kept.found)
  told_of = ap (tell_reply ask form xid (end_of (before ++ bytes))) (ap data_of (front_is before bytes old.allowed stands.counted) ∙ piece_data)

  -- from the data that was not used
  from_held : (end : InfoFault) (more : List ℕ) → tell_reply ask form xid end ((data_of before ++ kept.found) ++ more) ≡ add_lines lines (rest_of old.telling end (held ++ more))
  from_held end more =
      ap (tell_reply ask form xid end) (append_assoc (data_of before) kept.found more)
      ∙ stands.goes_on end (kept.found ++ more)
      ∙ ap (λ (xs : List ℕ). add_lines lines (rest_of old.telling end xs)) (sym (append_assoc old.held.items kept.found more) ∙ ap (λ (xs : List ℕ). xs ++ more) (sym kept.held_is))

  reaches : (more_lines : List (List ℕ)) (last : Teller Shown) → GoesOn (rest_of old.telling) held more_lines used last
      → (end : InfoFault) (more : List ℕ) → tell_reply ask form xid end ((data_of before ++ kept.found) ++ more) ≡ add_lines (lines ++ more_lines) (last end (drop used held ++ more))
  reaches more_lines last goes end more =
      from_held end more ∙ ap (add_lines lines) (goes end more) ∙ add_add lines more_lines (last end (drop used held ++ more))

  shown_ends : (more_lines : List (List ℕ)) (what : Shown) → GoesOn (rest_of old.telling) held more_lines used (give what) → EndsIn (tell_bytes ask form xid (before ++ bytes)) (lines ++ more_lines) (Ok what)
  shown_ends more_lines what goes = (
    drop used held ++ [],
    told_of ∙ ap (tell_reply ask form xid (end_of (before ++ bytes))) (sym (append-nil (data_of before ++ kept.found)))
        ∙ reaches more_lines (give what) goes (end_of (before ++ bytes)) []
        ∙ ap (λ (xs : List (List ℕ)). Done xs what (drop used held ++ [])) (append-nil (lines ++ more_lines)),
  )

  fault_ends : (more_lines : List (List ℕ)) (fault : InfoFault) → ((end : InfoFault) (more : List ℕ) → rest_of old.telling end (held ++ more) ≡ Stop more_lines fault)
      → EndsIn {A = Shown} (tell_bytes ask form xid (before ++ bytes)) (lines ++ more_lines) (Err fault)
  fault_ends more_lines fault stops =
      told_of ∙ ap (tell_reply ask form xid (end_of (before ++ bytes))) (sym (append-nil (data_of before ++ kept.found)))
      ∙ from_held (end_of (before ++ bytes)) []
      ∙ ap (add_lines lines) (stops (end_of (before ++ bytes)) [])

  module _ (more_lines : List (List ℕ)) (goes : GoesOn (rest_of old.telling) held more_lines used (rest_of new.telling)) (lacks : Lacks (rest_of new.telling) (drop used held)) where
    -- if no more bytes come
    needs_more : (end : InfoFault) → end_of (before ++ bytes) ≡ end → tell_bytes ask form xid (before ++ bytes) ≡ Stop (lines ++ more_lines) end
    needs_more end is =
        told_of ∙ ap (λ (e : InfoFault). tell_reply ask form xid e (data_of before ++ kept.found)) is
        ∙ ap (tell_reply ask form xid end) (sym (append-nil (data_of before ++ kept.found)))
        ∙ reaches more_lines (rest_of new.telling) goes end []
        ∙ ap (λ (xs : List ℕ). add_lines (lines ++ more_lines) (rest_of new.telling end xs)) (append-nil (drop used held))
        ∙ ap (add_lines (lines ++ more_lines)) (lacks end)
        ∙ ap (λ (xs : List (List ℕ)). Stop xs end) (append-nil (lines ++ more_lines))

    comes_to : (n : ℕ) → new.allowed ≡ n → new.allowed + min (length bytes) old.allowed ≡ old.allowed → new.held.items ≡ drop used held
        → ComesTo ask form xid new (before ++ bytes) (lines ++ more_lines) (lack_of ended n)
    comes_to n is counts rest = by_end ended kept.ends n is
      where
        front : front_of (before ++ bytes) ≡ before ++ take old.allowed bytes
        front = front_is before bytes old.allowed stands.counted

        by_end : (b : Bool) → EndsRecord new.marks (before ++ take old.allowed bytes) (data_of before ++ kept.found) b → (n : ℕ) → new.allowed ≡ n → ComesTo ask form xid new (before ++ bytes) (lines ++ more_lines) (lack_of b n)
        by_end true ends n is = needs_more CutOff (whole_ends (before ++ bytes) (ap is_whole front ∙ record_whole _ _ ends))
        by_end false ends zero is =
            let long : longest_record ≤ length (before ++ bytes) = omega (arith, is, counts, stands.counted, length-append before bytes) in
            needs_more TooLong (long_ends (before ++ bytes) long (ap is_whole front ∙ no_record new.marks _ _ ends))
        by_end false ends (suc k) is =
            let few : length bytes < old.allowed = omega (arith, is, counts) in
            let all : take old.allowed bytes ≡ bytes = take_all old.allowed bytes (omega (arith, few)) in
            let content : data_of before ++ kept.found ≡ data_of (before ++ bytes) = sym piece_data ∙ ap (λ (xs : List ℕ). data_of (before ++ xs)) all in
            let size : length (before ++ bytes) < longest_record = omega (arith, few, stands.counted, length-append before bytes) in
            let fed : StandsForStream new.marks (before ++ take old.allowed bytes) (unfinished (data_of before ++ kept.found)) = ends in
            rw (not_zero k) (record {
              so_far = needs_more CutOff (short_ends (before ++ bytes) size);
              fed = subst (λ (c : List ℕ). StandsForStream new.marks (before ++ bytes) (unfinished c)) content
                  (subst (λ (xs : List ℕ). StandsForStream new.marks (before ++ xs) (unfinished (data_of before ++ kept.found))) all fed);
              counted = omega (arith, few, counts, stands.counted, length-append before bytes);
              open_still = omega (arith, is);
              goes_on = λ end more.
                  ap (λ (c : List ℕ). tell_reply ask form xid end (c ++ more)) (sym content)
                  ∙ reaches more_lines (rest_of new.telling) goes end more
                  ∙ ap (λ (xs : List ℕ). add_lines (lines ++ more_lines) (rest_of new.telling end (xs ++ more))) (sym rest);
            })

  module _ (text : List ℕ) (held_by held_by' : Option (List ℕ)) (told : Result (Option Shown) InfoFault) (tells : TellsAll old.telling new.telling held [] text used told) (written : Appends held_by held_by' text) where
    lines_written : Appends held_by held_by' (lines_text tells.lines)
    lines_written = subst (Appends held_by held_by') tells.written written

    -- more bytes are needed
    pub further : (n : ℕ) → told ≡ Ok None → new.allowed ≡ n → new.allowed + min (length bytes) old.allowed ≡ old.allowed → new.held.items ≡ drop used held
        → ShowsFurther ask form xid new (before ++ bytes) lines held_by held_by' (lack_of ended n)
    further n none is counts rest =
        let up : UpTo old.telling new.telling held tells.lines used (Ok None) = subst (UpTo old.telling new.telling held tells.lines used) none tells.up_to in
        record { more = tells.lines; written = lines_written; comes_to = comes_to tells.lines up.0 up.1 n is counts rest }

    by_told : (r : Result (Option Shown) InfoFault) → (r ≡ Ok None → ⊥) → UpTo old.telling new.telling held tells.lines used r → ComesTo ask form xid new (before ++ bytes) (lines ++ tells.lines) r
    by_told (Ok None) some up = absurd (some refl)
    by_told (Ok (Some what)) some up = shown_ends tells.lines what up
    by_told (Err fault) some up = fault_ends tells.lines fault up

    -- something was shown, or nothing more is told
    pub at_end : (told ≡ Ok None → ⊥) → ShowsFurther ask form xid new (before ++ bytes) lines held_by held_by' told
    at_end some = record { more = tells.lines; written = lines_written; comes_to = by_told told some tells.up_to }

-- ---- before the first byte

pub nothing_came : (ask : Ask) (form : Form) (xid : ℕ) (s : Showing) → StandsForStream s.marks [] no_data → rest_of s.telling ≡ tell_reply ask form xid → s.held.items ≡ [] → s.allowed ≡ longest_record
    → StandsAfter ask form xid s [] []
unfolding data_of front_of tell_reply take_head may_begin read_reply ◌>>=◌
nothing_came ask form xid s stream rest none all = record {
  so_far = ap (λ (e : InfoFault). tell_reply ask form xid e (data_of (front_of []))) (short_ends [] (omega arith)) ∙ ap (λ (xs : List ℕ). tell_reply ask form xid CutOff (data_of xs)) (take-nil {A = ℕ} longest_record);
  fed = stream;
  counted = omega (arith, all);
  open_still = omega (arith, all);
  goes_on = λ end more.
      ap (λ (t : Teller Shown). t end more) (sym rest) ∙ sym (no_lines (rest_of s.telling end more))
      ∙ ap (λ (xs : List ℕ). add_lines [] (rest_of s.telling end (xs ++ more))) (sym none);
}

-- ---- a call

module _ {W : Type 0} (contents : W → Option (List ℕ)) (writer writer' : W) where
  abbrev Came : Result (Option Shown) InfoFault → Type 0
  Came r = IsNotShown (contents writer) (contents writer') r

  came_after : (told : Result (Option Shown) InfoFault) (ended : Bool) (n : ℕ) → Came told → Came (after_piece told ended n)
  came_after told ended n (inl e) = inl (ap (λ (r : Result (Option Shown) InfoFault). after_piece r ended n) e)
  came_after told ended n (inr e) = inr (ap (λ (r : Result (Option Shown) InfoFault). after_piece r ended n) e.0, e.1)

  came_whole : (told : Result (Option Shown) InfoFault) → Came told → IsNotShown (contents writer) (contents writer') (as_whole told)
  came_whole told (inl e) = inl (ap as_whole e)
  came_whole told (inr e) = inr (ap as_whole e.0, e.1)

  module _ (old new : Showing) (bytes piece : List ℕ) (held text text' : Vec ℕ) (ended : Bool) (told : ℕ × Result (Option Shown) InfoFault) (outcome : Result (Option Shown) InfoFault) (piece_is : piece ≡ take old.allowed bytes)
      (unmarks : (before content : List ℕ) → StandsForStream old.marks before (unfinished content) → Unmarks new.marks (before ++ piece) content old.held.items held.items ended)
      (empty : text.items ≡ []) (counts : new.allowed + min (length bytes) old.allowed ≡ old.allowed) (rest : new.held.items ≡ drop told.0 held.items) where
    pub feeds : TellsAllOr old.telling new.telling held.items text text' told → IsWritten told.1 text'.items contents writer writer' outcome
        → Feeds old new bytes contents writer writer' (after_piece outcome ended new.allowed)
    feeds all (inl came) = λ ask form xid before lines stands. inl (came_after outcome ended new.allowed came)
    feeds (inl none) (inr w) = absurd (w.1 none)
    feeds (inr all) (inr w) = λ ask form xid before lines stands.
        let kept : Unmarks new.marks (before ++ take old.allowed bytes) (data_of before) old.held.items held.items ended =
        subst (λ (xs : List ℕ). Unmarks new.marks (before ++ xs) (data_of before) old.held.items held.items ended) piece_is (unmarks before (data_of before) stands.fed) in
        let tells : TellsAll old.telling new.telling held.items [] text'.items told.0 told.1 = subst (λ (xs : List ℕ). TellsAll old.telling new.telling held.items xs text'.items told.0 told.1) empty all in
        inr (subst (λ (r : Result (Option Shown) InfoFault). ShowsFurther ask form xid new (before ++ bytes) lines (contents writer) (contents writer') (after_piece r ended new.allowed)) (sym w.0)
        (by_told ask form xid before lines stands kept tells w.2 told.1 refl))
      where
        by_told : (ask : Ask) (form : Form) (xid : ℕ) (before : List ℕ) (lines : List (List ℕ)) (stands : StandsAfter ask form xid old before lines)
            (kept : Unmarks new.marks (before ++ take old.allowed bytes) (data_of before) old.held.items held.items ended) (tells : TellsAll old.telling new.telling held.items [] text'.items told.0 told.1)
            → Appends (contents writer) (contents writer') text'.items → (r : Result (Option Shown) InfoFault) → told.1 ≡ r
            → ShowsFurther ask form xid new (before ++ bytes) lines (contents writer) (contents writer') (after_piece r ended new.allowed)
        by_told ask form xid before lines stands kept tells written (Ok None) is =
            further ask form xid old new before bytes held.items lines ended told.0 stands kept text'.items (contents writer) (contents writer') told.1 tells written new.allowed is refl counts rest
        by_told ask form xid before lines stands kept tells written (Ok (Some what)) is =
            subst (ShowsFurther ask form xid new (before ++ bytes) lines (contents writer) (contents writer')) is
            (at_end ask form xid old new before bytes held.items lines ended told.0 stands kept text'.items (contents writer) (contents writer') told.1 tells written (λ none. absurd (let never = sym is ∙ none in cc)))
        by_told ask form xid before lines stands kept tells written (Err fault) is =
            subst (ShowsFurther ask form xid new (before ++ bytes) lines (contents writer) (contents writer')) is
            (at_end ask form xid old new before bytes held.items lines ended told.0 stands kept text'.items (contents writer) (contents writer') told.1 tells written (λ none. absurd (let never = sym is ∙ none in cc)))

  -- all bytes at once
  pub reply_shown : (ask : Ask) (form : Form) (xid : ℕ) (old new : Showing) (bytes : List ℕ) (r : Result (Option Shown) InfoFault) → StandsAfter ask form xid old [] [] → Feeds old new bytes contents writer writer' r
      → Outcome (tell_bytes ask form xid bytes) (contents writer) (contents writer') (as_whole r)
  reply_shown ask form xid old new bytes r stands feed = by_case (feed ask form xid [] [] stands)
    where
      by_result : (q : Result (Option Shown) InfoFault) (lines : List (List ℕ)) → ComesTo ask form xid new bytes lines q → EndsIn (tell_bytes ask form xid bytes) lines (as_whole q)
      by_result (Ok None) lines comes = comes.so_far
      by_result (Ok (Some what)) lines comes = comes
      by_result (Err fault) lines comes = comes

      by_case : Came r ⊎ ShowsFurther ask form xid new bytes [] (contents writer) (contents writer') r → Outcome (tell_bytes ask form xid bytes) (contents writer) (contents writer') (as_whole r)
      by_case (inl came) = inl (came_whole r came)
      by_case (inr s) = inr (record { lines = s.more; ends = by_result r s.more s.comes_to; written = s.written })

  pub datagram_shown : (ask : Ask) (form : Form) (xid : ℕ) (old new : Telling) (bytes : List ℕ) (text text' : Vec ℕ) (told : ℕ × Result (Option Shown) InfoFault) (outcome : Result (Option Shown) InfoFault)
      → rest_of old ≡ tell_reply ask form xid → text.items ≡ [] → TellsAllOr old new bytes text text' told → IsWritten told.1 text'.items contents writer writer' outcome
      → Outcome (tell_datagram ask form xid bytes) (contents writer) (contents writer') (as_whole outcome)
  datagram_shown ask form xid old new bytes text text' told outcome is empty all (inl came) = inl (came_whole outcome came)
  datagram_shown ask form xid old new bytes text text' told outcome is empty (inl none) (inr w) = absurd (w.1 none)
  datagram_shown ask form xid old new bytes text text' told outcome is empty (inr all) (inr w) = inr (record {
    lines = all.lines;
    ends = subst (λ (r : Result (Option Shown) InfoFault). EndsIn (tell_datagram ask form xid bytes) all.lines (as_whole r)) (sym w.0) (by_told told.1 all.up_to);
    written = subst (Appends (contents writer) (contents writer')) (all.written ∙ ap (λ (xs : List ℕ). xs ++ lines_text all.lines) empty) w.2;
  })
    where
      at_all : tell_datagram ask form xid bytes ≡ rest_of old CutOff (bytes ++ [])
      at_all = ap (tell_reply ask form xid CutOff) (sym (append-nil bytes)) ∙ ap (λ (t : Teller Shown). t CutOff (bytes ++ [])) (sym is)

      by_told : (r : Result (Option Shown) InfoFault) → UpTo old new bytes all.lines told.0 r → EndsIn (tell_datagram ask form xid bytes) all.lines (as_whole r)
      by_told (Ok None) up =
          at_all ∙ up.0 CutOff [] ∙ ap (λ (xs : List ℕ). add_lines all.lines (rest_of new CutOff xs)) (append-nil (drop told.0 bytes)) ∙ ap (add_lines all.lines) (up.1 CutOff)
          ∙ ap (λ (xs : List (List ℕ)). Stop xs CutOff) (append-nil all.lines)
      by_told (Ok (Some what)) up = (drop told.0 bytes ++ [], at_all ∙ up CutOff [] ∙ ap (λ (xs : List (List ℕ)). Done xs what (drop told.0 bytes ++ [])) (append-nil all.lines))
      by_told (Err fault) up = at_all ∙ up CutOff []
