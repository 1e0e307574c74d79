-- What one more call does to the statistics of a history.
use Rattle.std.proofs.Common.{◌≡◌, ℕ, ◌+◌, ◌<◌, ◌≤◌, ◌≢◌, zero, suc, Bool, true, false, cond, eqb, ◌&&◌, List, [], ◌∷◌, ◌++◌, map, Some, None, refl, sym, ap, subst, ◌∙◌, arith, eq-eqb, append-nil}
use Rattle.std.specs.Prelude.{filter_map, nat_lt, slice_index, slice_set, replicate}
use Rattle.std.proofs.lemmas.Bool.{eqb-true, ltb-true, ltb-false}
use Rattle.std.proofs.lemmas.List.{set-get_or}
use Rattle.std.proofs.lemmas.List.Elements.{filter_map-append}
use Rattle.rb_stats.specs.declared.key.Version.{Version}
use Rattle.rb_stats.specs.declared.key.Version.TheVariants.{Two, Three, Four}
use Rattle.rb_stats.specs.declared.key.Info.TheVariants.{Addr, Rmt}
use Rattle.rb_stats.specs.declared.key.Target.{Target}
use Rattle.rb_stats.specs.declared.item.Item.{Item}
use Rattle.rb_stats.specs.declared.counts.Counts.{Counts}
use Rattle.rb_stats.specs.Statistics.{Note, Count, Stat, is_version, is_call, is_set, is_unset, number_of, one_more, greatest_int, count_of, counts_in, items_of, keys_of, procedures, stat}
use Rattle.rb_stats.specs.Statistics.Note.{Called, WasSet, WasUnset, LookedUp, Forwarded}
use Rattle.rb_stats.specs.Stats.{Stats, StandsForHistory}
use Rattle.rb_stats.specs.Table.{Holds, items_in, with_call, stat_of, stat_in}
use Rattle.rb_stats.proofs.Keys.{by_test}
use Rattle.rb_stats.proofs.Items.{number_of-push}

-- ---- the numbers of the procedures

-- this many numbers from one on
abbrev numbers_from : ℕ → ℕ → List ℕ
numbers_from first zero = []
numbers_from first (suc more) = first ∷ numbers_from (first + 1) more

not_equal : (a b : ℕ) → a ≢ b → eqb a b ≡ false
not_equal a b differ = by_test (λ t. t ≡ false) (eqb a b) (λ same. absurd (differ (eqb-true a b same))) (λ other. refl)

map_same : {A B : Type 0} (f g : A → B) → ((x : A) → f x ≡ g x) → (xs : List A) → map f xs ≡ map g xs
map_same f g same [] = refl
map_same {A} {B} f g same (x ∷ xs) = ap (λ (y : B). y ∷ map f xs) (same x) ∙ ap (λ (ys : List B). g x ∷ ys) (map_same f g same xs)

-- a write at one place
set_at : (f : ℕ → ℕ) (v first count place : ℕ) → place < count
    → slice_set (map f (numbers_from first count)) place v ≡ map (λ n. cond (eqb n (first + place)) v (f n)) (numbers_from first count)
set_at f v first zero place within = absurd (omega arith)
set_at f v first (suc count) zero within =
    let here : eqb first (first + 0) ≡ true = eq-eqb first (first + 0) (omega arith) in
    rw here (ap (λ (ns : List ℕ). v ∷ ns) (stays (first + 1) count (omega arith)))
  where
    stays : (from : ℕ) (count : ℕ) → first < from → map f (numbers_from from count) ≡ map (λ n. cond (eqb n (first + 0)) v (f n)) (numbers_from from count)
    stays from zero later = refl
    stays from (suc count) later =
        let other : eqb from (first + 0) ≡ false = not_equal from (first + 0) (omega arith) in
        rw other (ap (λ (ns : List ℕ). f from ∷ ns) (stays (from + 1) count (omega arith)))
set_at f v first (suc count) (suc place) within =
    let other : eqb first (first + suc place) ≡ false = not_equal first (first + suc place) (omega arith) in
    let same : (first + 1) + place ≡ first + suc place = omega arith in
    rw other (ap (λ (ns : List ℕ). f first ∷ ns) (set_at f v (first + 1) count place (omega arith) ∙ ap (λ k. map (λ n. cond (eqb n k) v (f n)) (numbers_from (first + 1) count)) same))

index_at : (f : ℕ → ℕ) (first count place : ℕ) → place < count → slice_index (map f (numbers_from first count)) place ≡ f (first + place)
index_at f first zero place within = absurd (omega arith)
index_at f first (suc count) zero within = ap f (omega arith)
index_at f first (suc count) (suc place) within = index_at f (first + 1) count place (omega arith) ∙ ap f (omega arith)

-- no number from one on is a greater one
none_at : (f v : ℕ → ℕ) (first count place : ℕ) → first + count ≤ place → map (λ n. cond (eqb place n) (v n) (f n)) (numbers_from first count) ≡ map f (numbers_from first count)
none_at f v first zero place past = refl
none_at f v first (suc count) place past =
    let other : eqb place first ≡ false = not_equal place first (omega arith) in
    rw other (ap (λ (ns : List ℕ). f first ∷ ns) (none_at f v (first + 1) count place (omega arith)))

-- the call of a procedure is counted at its number, if it has one
module _ (f : ℕ → ℕ) (proc : ℕ) where
  abbrev called_once : ℕ → ℕ
  called_once n = cond (eqb proc n) (one_more (f n)) (f n)

  counted_call : with_call proc (map f procedures) ≡ map called_once procedures
  counted_call =
      by_test (λ b. cond b (slice_set (map f procedures) proc (one_more (slice_index (map f procedures) proc))) (map f procedures) ≡ map called_once procedures) (nat_lt proc 13)
      (λ below. within (ltb-true proc 13 below))
      (λ above. sym (none_at f (λ n. one_more (f n)) 0 13 proc (ltb-false proc 13 above)))
    where
      differs : (n : ℕ) → eqb proc n ≡ false → n ≢ 0 + proc
      differs n other e = let t : eqb proc n ≡ true = eq-eqb proc n (omega arith) in let clash : true ≡ false = sym t ∙ other in cc

      same : (n : ℕ) → cond (eqb n (0 + proc)) (one_more (f proc)) (f n) ≡ called_once n
      same n =
          by_test (λ b. cond (eqb n (0 + proc)) (one_more (f proc)) (f n) ≡ cond b (one_more (f n)) (f n)) (eqb proc n)
          (λ is. let e : proc ≡ n = eqb-true proc n is in let t : eqb n (0 + proc) ≡ true = eq-eqb n (0 + proc) (omega arith) in rw t (ap (λ (k : ℕ). one_more (f k)) e))
          (λ other. let t : eqb n (0 + proc) ≡ false = not_equal n (0 + proc) (differs n other) in rw t refl)

      within : proc < 13 → slice_set (map f procedures) proc (one_more (slice_index (map f procedures) proc)) ≡ map called_once procedures
      within below =
          let index : slice_index (map f procedures) proc ≡ f proc = index_at f 0 13 proc below ∙ ap f (omega arith) in
          ap (λ (v : ℕ). slice_set (map f procedures) proc (one_more v)) index
          ∙ set_at f (one_more (f proc)) 0 13 proc below
          ∙ map_same (λ n. cond (eqb n (0 + proc)) (one_more (f proc)) (f n)) called_once same procedures

-- at the greatest int nothing changes
pub full_call : (proc : ℕ) (info : List ℕ) → slice_index info proc ≡ greatest_int → with_call proc info ≡ info
full_call proc info full =
    let same : slice_set info proc (one_more (slice_index info proc)) ≡ info = ap (λ (n : ℕ). slice_set info proc (one_more n)) full ∙ ap (λ (n : ℕ). slice_set info proc n) (sym full) ∙ set-get_or info proc 0 in
    elim (nat_lt proc 13) as (λ b. cond b (slice_set info proc (one_more (slice_index info proc))) info ≡ info) [ true ↦ same | false ↦ refl ]

-- ---- one more note

module _ (version : Version) (notes : List Note) where
  abbrev calls : ℕ → ℕ
  calls proc = number_of (is_call version proc) notes

  pushed : (note : Note) → stat version (notes ++ note ∷ []) ≡ record {
    info = map (λ proc. cond (is_call version proc note) (one_more (calls proc)) (calls proc)) procedures;
    setinfo = cond (is_set version note) (one_more (number_of (is_set version) notes)) (number_of (is_set version) notes);
    unsetinfo = cond (is_unset version note) (one_more (number_of (is_unset version) notes)) (number_of (is_unset version) notes);
    addrinfo = items_of (counts_in version Addr (filter_map count_of notes ++ filter_map count_of (note ∷ [])));
    rmtinfo = items_of (counts_in version Rmt (filter_map count_of notes ++ filter_map count_of (note ∷ [])));
  }
  unfolding stat
  pushed note =
      ap (λ (counts : List Count). record (stat version (notes ++ note ∷ [])) { addrinfo = items_of (counts_in version Addr counts); rmtinfo = items_of (counts_in version Rmt counts) }) (filter_map-append count_of notes (note ∷ []))
      ∙ ap (λ (info : List ℕ). with_info info (number_of (is_set version) (notes ++ note ∷ [])) (number_of (is_unset version) (notes ++ note ∷ [])))
      (map_same (λ proc. number_of (is_call version proc) (notes ++ note ∷ [])) (λ proc. cond (is_call version proc note) (one_more (calls proc)) (calls proc)) (λ proc. number_of-push (is_call version proc) notes note) procedures)
      ∙ ap (λ (n : ℕ). with_info after n (number_of (is_unset version) (notes ++ note ∷ []))) (number_of-push (is_set version) notes note)
      ∙ ap (λ (n : ℕ). with_info after (cond (is_set version note) (one_more (number_of (is_set version) notes)) (number_of (is_set version) notes)) n) (number_of-push (is_unset version) notes note)
    where
      after : List ℕ
      after = map (λ proc. cond (is_call version proc note) (one_more (calls proc)) (calls proc)) procedures

      with_info : List ℕ → ℕ → ℕ → Stat
      with_info info set unset = record {
        info = info;
        setinfo = set;
        unsetinfo = unset;
        addrinfo = items_of (counts_in version Addr (filter_map count_of notes ++ filter_map count_of (note ∷ [])));
        rmtinfo = items_of (counts_in version Rmt (filter_map count_of notes ++ filter_map count_of (note ∷ [])));
      }

  abbrev all_counts : List Count
  all_counts = filter_map count_of notes

  -- a note without a key
  keyless : (info : List ℕ) (set unset : ℕ) → record {
    info = info;
    setinfo = set;
    unsetinfo = unset;
    addrinfo = items_of (counts_in version Addr (all_counts ++ []));
    rmtinfo = items_of (counts_in version Rmt (all_counts ++ []));
  } ≡ record (stat version notes) { info = info; setinfo = set; unsetinfo = unset }
  unfolding stat
  keyless info set unset = ap (λ (counts : List Count). record { info = info; setinfo = set; unsetinfo = unset; addrinfo = items_of (counts_in version Addr counts); rmtinfo = items_of (counts_in version Rmt counts) }) (append-nil all_counts)

  pub stat-called : (called : Version) (proc : ℕ)
      → stat version (notes ++ Called called proc ∷ []) ≡ cond (is_version called version) (record (stat version notes) { info = with_call proc (stat version notes).info }) (stat version notes)
  unfolding stat
  stat-called called proc =
      pushed (Called called proc)
      ∙ keyless (map (λ p. cond (is_version called version && eqb proc p) (one_more (calls p)) (calls p)) procedures) (number_of (is_set version) notes) (number_of (is_unset version) notes)
      ∙ elim (is_version called version) as (λ b. record (stat version notes) { info = map (λ p. cond (b && eqb proc p) (one_more (calls p)) (calls p)) procedures } ≡ cond b (record (stat version notes) { info = with_call proc (map calls procedures) }) (stat version notes))
      [ true ↦ ap (λ (info : List ℕ). record (stat version notes) { info = info }) (sym (counted_call calls proc)) | false ↦ refl ]

  pub stat-set : (called : Version)
      → stat version (notes ++ WasSet called ∷ []) ≡ cond (is_version called version) (record (stat version notes) { setinfo = one_more (stat version notes).setinfo }) (stat version notes)
  unfolding stat
  stat-set called =
      pushed (WasSet called)
      ∙ keyless (map calls procedures) (cond (is_version called version) (one_more (number_of (is_set version) notes)) (number_of (is_set version) notes)) (number_of (is_unset version) notes)
      ∙ elim (is_version called version) as (λ b. record (stat version notes) { setinfo = cond b (one_more (number_of (is_set version) notes)) (number_of (is_set version) notes) } ≡ cond b (record (stat version notes) { setinfo = one_more (number_of (is_set version) notes) }) (stat version notes))
      [ true ↦ refl | false ↦ refl ]

  pub stat-unset : (called : Version)
      → stat version (notes ++ WasUnset called ∷ []) ≡ cond (is_version called version) (record (stat version notes) { unsetinfo = one_more (stat version notes).unsetinfo }) (stat version notes)
  unfolding stat
  stat-unset called =
      pushed (WasUnset called)
      ∙ keyless (map calls procedures) (number_of (is_set version) notes) (cond (is_version called version) (one_more (number_of (is_unset version) notes)) (number_of (is_unset version) notes))
      ∙ elim (is_version called version) as (λ b. record (stat version notes) { unsetinfo = cond b (one_more (number_of (is_unset version) notes)) (number_of (is_unset version) notes) } ≡ cond b (record (stat version notes) { unsetinfo = one_more (number_of (is_unset version) notes) }) (stat version notes))
      [ true ↦ refl | false ↦ refl ]

  -- a note of a key
  abbrev with_lists : List Count → Stat → Stat
  with_lists counts s = record s { addrinfo = items_of (counts_in version Addr counts); rmtinfo = items_of (counts_in version Rmt counts) }

  pub stat-looked_up : (called : Version) (target : Target) (found : Bool)
      → stat version (notes ++ LookedUp called target found ∷ []) ≡ with_lists (all_counts ++ record { key = record { version = called; target = target; proc = None }; passed = found; indirect = false } ∷ []) (stat version notes)
  unfolding stat
  stat-looked_up called target found = pushed (LookedUp called target found)

  pub stat-forwarded : (called : Version) (target : Target) (proc : ℕ) (passed indirect : Bool)
      → stat version (notes ++ Forwarded called target proc passed indirect ∷ [])
      ≡ with_lists (all_counts ++ record { key = record { version = called; target = target; proc = Some proc }; passed = passed; indirect = indirect } ∷ []) (stat version notes)
  unfolding stat
  stat-forwarded called target proc passed indirect = pushed (Forwarded called target proc passed indirect)

-- ---- what statistics stand for

pub after : (kept new : Stats) (notes : List Note) (note : Note) (change : Version → Stat → Stat) → StandsForHistory kept notes
    → ((version : Version) → stat version (notes ++ note ∷ []) ≡ change version (stat version notes))
    → new.two ≡ change Two kept.two → new.three ≡ change Three kept.three → new.four ≡ change Four kept.four → StandsForHistory new (notes ++ note ∷ [])
after kept new notes note change h is two three four = record {
  two = two ∙ ap (change Two) h.two ∙ sym (is Two);
  three = three ∙ ap (change Three) h.three ∙ sym (is Three);
  four = four ∙ ap (change Four) h.four ∙ sym (is Four);
}

abbrev pub kept_in : Counts → Counts → Counts → List Item → ℕ × ℕ → ℕ → Stats
kept_in two three four items memory tie = record { two = stat_in Two two items; three = stat_in Three three items; four = stat_in Four four items; memory = memory; tie = tie }

module _ (two three four : Counts) (items : List Item) (memory : ℕ × ℕ) (tie : ℕ) (notes : List Note) (h : StandsForHistory (kept_in two three four items memory tie) notes) where
  pub holds : Holds items (filter_map count_of notes)
  unfolding stat
  holds Two Addr = ap (λ (s : Stat). s.addrinfo) h.two
  holds Two Rmt = ap (λ (s : Stat). s.rmtinfo) h.two
  holds Three Addr = ap (λ (s : Stat). s.addrinfo) h.three
  holds Three Rmt = ap (λ (s : Stat). s.rmtinfo) h.three
  holds Four Addr = ap (λ (s : Stat). s.addrinfo) h.four
  holds Four Rmt = ap (λ (s : Stat). s.rmtinfo) h.four

  pub after_count : (more : List Item) (note : Note) (c : Count) → Holds more (filter_map count_of notes ++ c ∷ [])
      → ((version : Version) → stat version (notes ++ note ∷ []) ≡ with_lists version notes (filter_map count_of notes ++ c ∷ []) (stat version notes))
      → StandsForHistory (kept_in two three four more memory tie) (notes ++ note ∷ [])
  after_count more note c held is =
      after (kept_in two three four items memory tie) (kept_in two three four more memory tie) notes note (λ version. with_lists version notes (filter_map count_of notes ++ c ∷ [])) h is
      (lists Two two) (lists Three three) (lists Four four)
    where
      lists : (version : Version) (counts : Counts) → stat_in version counts more ≡ with_lists version notes (filter_map count_of notes ++ c ∷ []) (stat_in version counts items)
      lists version counts =
          ap (λ (xs : List Item). stat_of counts xs (items_in version Rmt more)) (held version Addr)
          ∙ ap (λ (xs : List Item). stat_of counts (items_of (counts_in version Addr (filter_map count_of notes ++ c ∷ []))) xs) (held version Rmt)

-- a note that changes the numbers of one version
pub record Noting (notes : List Note) (note : Version → Note) (change : Counts → Counts) : Type 0 where
  pub changed : Stat → Stat
  pub fits : (version : Version) (counts : Counts) (items : List Item) → stat_in version (change counts) items ≡ changed (stat_in version counts items)
  pub is : (version called : Version) → stat version (notes ++ note called ∷ []) ≡ cond (is_version called version) (changed (stat version notes)) (stat version notes)

pub calling : (notes : List Note) (proc : ℕ) → Noting notes (λ version. Called version proc) (λ counts. record counts { info = with_call proc counts.info })
calling notes proc = record {
  changed = λ s. record s { info = with_call proc s.info };
  fits = λ version counts items. refl;
  is = λ version called. stat-called version notes called proc;
}

pub setting : (notes : List Note) → Noting notes (λ version. WasSet version) (λ counts. record counts { setinfo = one_more counts.setinfo })
setting notes = record {
  changed = λ s. record s { setinfo = one_more s.setinfo };
  fits = λ version counts items. refl;
  is = λ version called. stat-set version notes called;
}

pub unsetting : (notes : List Note) → Noting notes (λ version. WasUnset version) (λ counts. record counts { unsetinfo = one_more counts.unsetinfo })
unsetting notes = record {
  changed = λ s. record s { unsetinfo = one_more s.unsetinfo };
  fits = λ version counts items. refl;
  is = λ version called. stat-unset version notes called;
}

module _ (two three four : Counts) (items : List Item) (memory : ℕ × ℕ) (tie : ℕ) (notes : List Note) (h : StandsForHistory (kept_in two three four items memory tie) notes) (note : Version → Note) (change : Counts → Counts) (n : Noting notes note change) (version : Version) (new : Counts) where
  abbrev change_at : Version → Version → Stat → Stat
  change_at called version s = cond (is_version called version) (n.changed s) s

  abbrev at_version : Stats → Version → Type 0
  at_version kept called = StandsForHistory kept (notes ++ note called ∷ [])

  pub noted_two : version ≡ Two → new ≡ change two → StandsForHistory (kept_in new three four items memory tie) (notes ++ note version ∷ [])
  noted_two called is =
      subst (at_version (kept_in new three four items memory tie)) (sym called)
      (after (kept_in two three four items memory tie) (kept_in new three four items memory tie) notes (note Two) (change_at Two) h (λ v. n.is v Two)
      (ap (λ (counts : Counts). stat_in Two counts items) is ∙ n.fits Two two items) refl refl)

  pub noted_three : version ≡ Three → new ≡ change three → StandsForHistory (kept_in two new four items memory tie) (notes ++ note version ∷ [])
  noted_three called is =
      subst (at_version (kept_in two new four items memory tie)) (sym called)
      (after (kept_in two three four items memory tie) (kept_in two new four items memory tie) notes (note Three) (change_at Three) h (λ v. n.is v Three)
      refl (ap (λ (counts : Counts). stat_in Three counts items) is ∙ n.fits Three three items) refl)

  pub noted_four : version ≡ Four → new ≡ change four → StandsForHistory (kept_in two three new items memory tie) (notes ++ note version ∷ [])
  noted_four called is =
      subst (at_version (kept_in two three new items memory tie)) (sym called)
      (after (kept_in two three four items memory tie) (kept_in two three new items memory tie) notes (note Four) (change_at Four) h (λ v. n.is v Four)
      refl refl (ap (λ (counts : Counts). stat_in Four counts items) is ∙ n.fits Four four items))

abbrev pub zeros : Counts
zeros = record { info = replicate 13 0; setinfo = 0; unsetinfo = 0 }

fresh_stat : (version : Version) → stat_in version zeros [] ≡ stat version []
unfolding stat items_in number_of items_of keys_of
fresh_stat version = refl

-- nothing was called
pub fresh : (two three four : Counts) (items : List Item) (memory : ℕ × ℕ) (tie : ℕ) → two ≡ zeros → three ≡ zeros → four ≡ zeros → items ≡ [] → StandsForHistory (kept_in two three four items memory tie) []
fresh two three four items memory tie e2 e3 e4 none_in = record {
  two = ap (λ (counts : Counts). stat_in Two counts items) e2 ∙ ap (λ (is : List Item). stat_in Two zeros is) none_in ∙ fresh_stat Two;
  three = ap (λ (counts : Counts). stat_in Three counts items) e3 ∙ ap (λ (is : List Item). stat_in Three zeros is) none_in ∙ fresh_stat Three;
  four = ap (λ (counts : Counts). stat_in Four counts items) e4 ∙ ap (λ (is : List Item). stat_in Four zeros is) none_in ∙ fresh_stat Four;
}
