-- Bytes that an outbox takes over stand after those that it held.
use Rattle.std.proofs.Common.{◌≡◌, ◌≤◌, ◌+◌, ◌-◌, ℕ, List, ◌++◌, length, take, drop, arith, sym, ap, ◌∙◌}
use Rattle.std.proofs.lemmas.List.{length-append, length-drop, length-take, length-take-le, take-take, take_at, drop_at, drop-append-le, take-append-le, take-append-drop, drop-take}
use borrow.Rule.Slice.PartMut.{post_of}

-- what stands in front of a place and after it, if the bytes after it are new
front_and_new : (end n : ℕ) (front more : List ℕ) → length front ≡ end → take (end + n) (front ++ more) ≡ front ++ take n more
front_and_new end n front more len =
    sym (take-append-drop end (take (end + n) (front ++ more)))
    ∙ ap (λ (xs : List ℕ). xs ++ drop end (take (end + n) (front ++ more))) (take-take end (end + n) (front ++ more) (omega arith) ∙ take_at front more end len)
    ∙ ap (λ (xs : List ℕ). front ++ xs) (drop-take end n (front ++ more) ∙ ap (λ (xs : List ℕ). take n xs) (drop_at front more end len))

-- the bytes that wait, and n more of those that are written after them
pub waits_more : (sent end n : ℕ) (held room behind : List ℕ) → sent ≤ end → end ≤ length held → n ≤ length room
    → drop sent (take (end + n) (take end held ++ (room ++ behind))) ≡ drop sent (take end held) ++ take n room
waits_more sent end n held room behind before fits few =
    let len : length (take end held) ≡ end = length-take-le end held fits in
    ap (λ (xs : List ℕ). drop sent xs) (front_and_new end n (take end held) (room ++ behind) len)
    ∙ drop-append-le sent (take end held) (take n (room ++ behind)) (omega (arith, len, before))
    ∙ ap (λ (xs : List ℕ). drop sent (take end held) ++ xs) (take-append-le n room behind few)

-- an outbox keeps its room if this many bytes of it are written
pub room_stays : (end k : ℕ) (held new : List ℕ) → end ≤ length held → length new ≡ length (take k (drop end held)) → length (take end held ++ (new ++ post_of end k held)) ≡ length held
room_stays end k held new fits as_many =
    let all = length-append (take end held) (new ++ post_of end k held) in
    let behind = length-append new (post_of end k held) in
    let rest = length-drop k (drop end held) in
    let part = length-take k (drop end held) in
    omega (arith, all, behind, rest, part, length-take-le end held fits, length-drop end held, fits, as_many)

-- what is handed in as room is all that is free
pub all_is_free : (end free : ℕ) (held shown new : List ℕ) → shown ≡ held → end ≤ length held → length new ≡ length (take (length shown - end) (drop end shown)) → length held - end ≡ free → length new ≡ free
all_is_free end free held shown new same fits as_many is =
    let part = length-take (length shown - end) (drop end shown) in
    let rest = length-drop end shown in
    omega (arith, part, rest, ap (λ (xs : List ℕ). length xs) same, fits, as_many, is)

-- what is written to a socket are the bytes that wait
pub waits : (sent end : ℕ) (held shown now : List ℕ) → shown ≡ held → drop sent (take end held) ≡ now → sent ≤ end → take (end - sent) (drop sent shown) ≡ now
waits sent end held shown now same is before =
    ap (λ (xs : List ℕ). take (end - sent) (drop sent xs)) same
    ∙ sym (drop-take sent (end - sent) held)
    ∙ ap (λ (n : ℕ). drop sent (take n held)) (omega (arith, before))
    ∙ is
