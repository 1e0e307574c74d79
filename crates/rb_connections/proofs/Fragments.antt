-- The fragments of a marked reply, and where the giving of it stands.
use Rattle.std.specs.Prelude.{slice_range}
use Rattle.std.proofs.Common.{Option, ◌≡◌, ◌<◌, ◌≤◌, ◌+◌, ◌-◌, ◌*◌, ◌/◌, ◌%◌, ℕ, zero, suc, Bool, true, false, leb, List, ◌++◌, length, take, drop, min, refl, sym, ap, ◌∙◌, arith, inl, inr, ◌⊎◌, length-append}
use Rattle.std.proofs.lemmas.Slice.{take-put_mid}
use Rattle.std.proofs.lemmas.List.{length-take, length-drop, take_at, drop_at, take_all, take_min, drop-drop, drop_all, drop-take}
use Rattle.std.proofs.lemmas.Bool.{cases_lt, le-leb, lt-leb}
use Rattle.std.proofs.lemmas.Grind.{common_steps}
use Rattle.rb_xdr.specs.Kept.{Kept}
use Rattle.rb_rpc.specs.Records.{fragment_header, fragment_size, marked_reply}
use Rattle.rb_rpc.proofs.Markings.{length-header}
use Rattle.rb_model.specs.State.{Owed}
use Rattle.rb_model.specs.Connections.{longest_fragment, pending_of, owed_of}
use Rattle.rb_model.proofs.Fragments.{length-front, length-long, length-short, longest_is, marked-long, marked-short, some-marked}
use Rattle.rb_connections.specs.StandsFor.{window, IsShown}
use borrow.Rule.Slice.PartMut.{put_mid}

-- ---- its fragments

-- after k whole fragments stands what follows their data, marked
pub behind : (k a b : ℕ) (reply : List ℕ) → a ≡ 1028 * k → b ≡ 1024 * k → a < length (marked_reply reply)
    → (drop a (marked_reply reply) ≡ marked_reply (drop b reply)) × (b ≤ length reply)
behind zero a b reply is_a is_b within = grind arith
behind (suc k) a b reply is_a is_b within =
    elim (cases_lt fragment_size (length reply)) [
      | inl long ↦
          let front : List ℕ = fragment_header fragment_size false ++ take fragment_size reply in
          let more : List ℕ = marked_reply (drop fragment_size reply) in
          let a_is : a ≡ 1028 + 1028 * k = omega (arith, is_a) in
          let b_is : b ≡ fragment_size + 1024 * k = omega (arith, is_b) in
          let rest = behind k (1028 * k) (1024 * k) (drop fragment_size reply) refl refl (omega (arith, a_is, within, length-long reply long)) in (
            ap (λ (n : ℕ). drop n (marked_reply reply)) a_is
                ∙ sym (drop-drop (1028 * k) 1028 (marked_reply reply))
                ∙ ap (λ (xs : List ℕ). drop (1028 * k) (drop 1028 xs)) (marked-long reply long)
                ∙ ap (λ (xs : List ℕ). drop (1028 * k) xs) (drop_at front more 1028 (length-front reply long))
                ∙ rest.0
                ∙ ap (λ (xs : List ℕ). marked_reply xs) (drop-drop (1024 * k) fragment_size reply)
                ∙ ap (λ (n : ℕ). marked_reply (drop n reply)) (sym b_is),
            omega (arith, rest.1, b_is, long, length-drop fragment_size reply),
          )
      | inr few ↦ absurd (omega (arith, is_a, within, few, length-short reply few))
    ]

-- a fragment with this data is the first one of what is not shown yet, if it has the first 1,024 bytes of that
pub part_shown : (rest part : List ℕ) (last : Bool) → part ≡ take 1024 rest → last ≡ leb (length rest) 1024
    → fragment_header (length part) last ++ part ≡ take longest_fragment (marked_reply rest)
part_shown rest part last is last_is =
    elim (cases_lt fragment_size (length rest)) [
      | inl long ↦
          let full : length part ≡ fragment_size = omega (arith, ap (λ (xs : List ℕ). length xs) is, length-take 1024 rest, long) in
          let flag : last ≡ false = last_is ∙ lt-leb (length rest) 1024 (omega (arith, long)) in
          rw (full, flag)
          (ap (λ (xs : List ℕ). fragment_header fragment_size false ++ xs) is
          ∙ sym (ap (λ (xs : List ℕ). take longest_fragment xs) (marked-long rest long) ∙ take_at (fragment_header fragment_size false ++ take fragment_size rest) (marked_reply (drop fragment_size rest)) longest_fragment (length-front rest long ∙ sym longest_is)))
      | inr few ↦
          let whole : part ≡ rest = is ∙ take_all 1024 rest (omega (arith, few)) in
          let flag : last ≡ true = last_is ∙ le-leb (length rest) 1024 (omega (arith, few)) in
          rw (flag, whole)
          (sym (marked-short rest few)
          ∙ sym (take_all longest_fragment (marked_reply rest) (omega (arith, longest_is, few, length-short rest few))))
    ]

-- so the data that begins at a place of a buffer, and so what is after it
pub held_part : (buffer : List ℕ) (start left count end : ℕ) → left ≡ length buffer - start → count ≡ min left 1024 → end ≡ start + count
    → (slice_range buffer start end ≡ take 1024 (drop start buffer)) × (drop end buffer ≡ drop 1024 (drop start buffer))
held_part buffer start left count end left_is count_is end_is =
    let size : length (drop start buffer) ≡ left = length-drop start buffer ∙ sym left_is in (
      ap (λ (n : ℕ). take n (drop start buffer)) (omega (arith, size, count_is, end_is)) ∙ take_min 1024 (drop start buffer),
      rest_behind size,
    )
  where
    rest_behind : length (drop start buffer) ≡ left → drop end buffer ≡ drop 1024 (drop start buffer)
    rest_behind size = elim (cases_lt 1024 left) [
      | inl long ↦ ap (λ (n : ℕ). drop n buffer) (omega (arith, long, count_is, end_is)) ∙ sym (drop-drop 1024 start buffer)
      | inr few ↦
          drop_all end buffer (omega (arith, few, count_is, end_is, left_is))
          ∙ sym (drop_all 1024 (drop start buffer) (omega (arith, few, size)))
    ]

-- ---- where the giving stands

pub window_at : (reply : List ℕ) (o : Owed) → o.marked ≡ marked_reply reply → o.given < length o.marked
    → window o ≡ take longest_fragment (marked_reply (drop (1024 * (o.given / 1028)) reply))
unfolding window
window_at reply o is within =
    let k : ℕ = o.given / 1028 in
    let same : length o.marked ≡ length (marked_reply reply) = ap (λ (xs : List ℕ). length xs) is in
    ap (λ (n : ℕ). take longest_fragment (drop (n * (o.given / n)) o.marked)) longest_is
    ∙ ap (λ (xs : List ℕ). take longest_fragment (drop (1028 * k) xs)) is
    ∙ ap (λ (xs : List ℕ). take longest_fragment xs) (behind k (1028 * k) (1024 * k) reply refl refl (omega (arith, within, same))).0

-- the fragment in which the giving stands: it begins within the reply and has this many bytes, and there is one after it or not
record Place (reply shown : List ℕ) (given : ℕ) : Type 0 where
  begins : 1024 * (given / 1028) ≤ length reply
  inside : given % 1028 < length shown
  few : length shown ≤ 1028
  ends : ((1024 * (given / 1028) + 1024 < length reply) × (length shown ≡ 1028) × (1028 * (given / 1028) + 1028 < length (marked_reply reply)))
      ⊎ ((length reply ≤ 1024 * (given / 1028) + 1024) × (length (marked_reply reply) ≡ 1028 * (given / 1028) + length shown))

place_of : (reply : List ℕ) (shown : Kept) (o : Owed) → IsShown reply shown o → Place reply shown.bytes o.given
place_of reply shown o g =
    let k : ℕ = o.given / 1028 in
    let rest : List ℕ = drop (1024 * k) reply in
    let same : length o.marked ≡ length (marked_reply reply) = ap (λ (xs : List ℕ). length xs) g.marked in
    let within : o.given < length (marked_reply reply) = omega (arith, g.owes, same) in
    let at = behind k (1028 * k) (1024 * k) reply refl refl (omega (arith, within)) in
    let left : length (marked_reply reply) - 1028 * k ≡ length (marked_reply rest) = sym (length-drop (1028 * k) (marked_reply reply)) ∙ ap (λ (xs : List ℕ). length xs) at.0 in
    let shown_at : shown.bytes ≡ take longest_fragment (marked_reply rest) =
    g.shown_is ∙ window_at reply o g.marked g.owes in
    let size : length shown.bytes ≡ min 1028 (length (marked_reply rest)) = ap (λ (xs : List ℕ). length xs) shown_at ∙ length-take longest_fragment (marked_reply rest) ∙ ap (λ (n : ℕ). min n (length (marked_reply rest))) longest_is in
    let rest_size : length rest ≡ length reply - 1024 * k = length-drop (1024 * k) reply in
    let begins : 1024 * k ≤ length reply = at.1 in
    elim (cases_lt fragment_size (length rest)) [
      | inl long ↦
          let marked_size = length-long rest long in
          let more = some-marked (drop fragment_size rest) in
          record {
            begins = begins;
            inside = omega (arith, size, marked_size);
            few = omega (arith, size);
            ends = inl (omega (arith, long, rest_size, begins), omega (arith, size, marked_size), omega (arith, left, marked_size, more));
          }
      | inr few ↦
          let marked_size = length-short rest few in
          record {
            begins = begins;
            inside = omega (arith, size, marked_size, left, within);
            few = omega (arith, size);
            ends = inr (omega (arith, few, rest_size), omega (arith, left, marked_size, size, few, within));
          }
    ]

-- what is left of the window is pending
pub pending_shown : (reply : List ℕ) (shown : Kept) (o : Owed) → IsShown reply shown o
    → pending_of o ≡ drop (o.given % longest_fragment) shown.bytes
unfolding pending_of window
pending_shown reply shown o g =
    let at : ℕ = longest_fragment * (o.given / longest_fragment) in
    let place : at + o.given % longest_fragment ≡ o.given = omega arith in
    let end : longest_fragment * (o.given / longest_fragment + 1) ≡ at + longest_fragment = omega arith in
    ap (λ (n : ℕ). drop o.given (take n o.marked)) end
    ∙ ap (λ (n : ℕ). drop n (take (at + longest_fragment) o.marked)) (sym place)
    ∙ sym (drop-drop (o.given % longest_fragment) at (take (at + longest_fragment) o.marked))
    ∙ ap (λ (xs : List ℕ). drop (o.given % longest_fragment) xs) (drop-take at longest_fragment o.marked ∙ sym g.shown_is)

-- ---- the giving begins, stays in its fragment, moves to the next one, ends

pub giving_begins : (reply : List ℕ) (shown : Kept) (began : Option ℕ) → shown.bytes ≡ take longest_fragment (marked_reply (drop 0 reply)) → shown.cap ≡ longest_fragment → IsShown reply shown (owed_of reply began 0)
giving_begins reply shown began is cap = grind (arith, common_steps, some-marked reply, window_at reply (owed_of reply began 0) refl)

pub giving_stays : (reply : List ℕ) (shown : Kept) (n : ℕ) (o : Owed) → IsShown reply shown o → o.given % longest_fragment + n < length shown.bytes
    → IsShown reply shown (record o { given = o.given + n })
giving_stays reply shown n o g less = grind (arith, common_steps, longest_is, place_of reply shown o g, window_at reply o, window_at reply)

pub giving_moves : (reply : List ℕ) (shown next : Kept) (n : ℕ) (o : Owed) → IsShown reply shown o → o.given % longest_fragment + n ≡ length shown.bytes
    → (o.given / longest_fragment + 1) * 1024 < length reply
    → next.bytes ≡ take longest_fragment (marked_reply (drop ((o.given / longest_fragment + 1) * 1024) reply)) → next.cap ≡ longest_fragment
    → IsShown reply next (record o { given = o.given + n })
giving_moves reply shown next n o g full more is cap = grind (arith, common_steps, longest_is, place_of reply shown o g, window_at reply)

pub giving_ends : (reply : List ℕ) (shown : Kept) (n : ℕ) (o : Owed) → IsShown reply shown o → o.given % longest_fragment + n ≡ length shown.bytes
    → length reply ≤ (o.given / longest_fragment + 1) * 1024
    → o.given + n ≡ length (marked_reply reply)
giving_ends reply shown n o g full none = grind (arith, common_steps, place_of, longest_is)

-- ---- for the callers

pub place_inside : (reply : List ℕ) (shown : Kept) (o : Owed) → IsShown reply shown o → o.given % longest_fragment < length shown.bytes
place_inside reply shown o g = omega (arith, (place_of reply shown o g).inside, ap (λ (m : ℕ). o.given % m) longest_is)

pub pending_count : (reply : List ℕ) (shown : Kept) (o : Owed) → IsShown reply shown o → o.given % longest_fragment + length (pending_of o) ≡ length shown.bytes
pending_count reply shown o g = grind (arith, common_steps, length-drop, place_inside reply shown o g, pending_shown reply shown o g)

-- the fragment is no longer than a whole one, and it is whole if more follows
pub fragment_few : (reply : List ℕ) (shown : Kept) (o : Owed) → IsShown reply shown o → length shown.bytes ≤ longest_fragment
fragment_few reply shown o g = omega (arith, (place_of reply shown o g).few, longest_is)

pub fragment_full : (reply : List ℕ) (shown : Kept) (o : Owed) → IsShown reply shown o → 1024 * (o.given / 1028) + 1024 < length reply → length shown.bytes ≡ 1028
fragment_full reply shown o g more = grind (arith, common_steps, place_of reply shown o g)

-- and then there are bytes after it
pub fragment_behind : (reply : List ℕ) (shown : Kept) (o : Owed) → IsShown reply shown o → 1024 * (o.given / 1028) + 1024 < length reply → 1028 * (o.given / 1028) + 1028 < length (marked_reply reply)
fragment_behind reply shown o g more = grind (arith, common_steps, place_of reply shown o g)

-- this many whole fragments are within the marked reply, if their data is within the reply
pub more_marked : (k : ℕ) (reply : List ℕ) → 1024 * k < length reply → 1028 * k < length (marked_reply reply)
more_marked zero reply more = omega (arith, some-marked reply)
more_marked (suc k) reply more =
    let long : fragment_size < length reply = omega (arith, more) in
    let rest = more_marked k (drop fragment_size reply) (omega (arith, more, length-drop fragment_size reply)) in
    omega (arith, rest, length-long reply long)

-- the header and the data of a fragment that are written one after the other
pub written_fragment : (part header lent room : List ℕ) (last : Bool) → header ≡ fragment_header (length part) last → lent ≡ part → 4 ≤ length room
    → take (4 + length part) (put_mid 4 (4 + length part - 4) (header ++ drop 4 room) lent) ≡ fragment_header (length part) last ++ part
written_fragment part header lent room last is_header is_part fits =
    let four : length header ≡ 4 = ap (λ (xs : List ℕ). length xs) is_header ∙ length-header (length part) last in
    take-put_mid 4 (4 + length part - 4) (header ++ drop 4 room) lent (4 + length part) (omega (arith, ap (λ (xs : List ℕ). length xs) is_part)) (omega (arith, four, length-append header (drop 4 room)))
    ∙ ap (λ (xs : List ℕ). xs ++ lent) (take_at header (drop 4 room) 4 four ∙ is_header)
    ∙ ap (λ (xs : List ℕ). fragment_header (length part) last ++ xs) is_part

-- the bytes of a reply of one fragment that are written so
pub written_whole : (reply lent written : List ℕ) (n : ℕ) → length reply ≤ fragment_size → n ≡ length reply → lent ≡ slice_range reply 0 n
    → written ≡ fragment_header (length lent) true ++ lent → written ≡ marked_reply reply
written_whole reply lent written n few all is_lent is_written =
    let whole : lent ≡ reply = is_lent ∙ ap (λ (k : ℕ). take k reply) (omega (arith, all)) ∙ take_all (length reply) reply (omega arith) in
    is_written
    ∙ ap (λ (xs : List ℕ). fragment_header (length xs) true ++ xs) whole
    ∙ sym (marked-short reply few)
