-- What an inbox has after a read, beside what it had: the first of the bytes that were written to its room.
use Rattle.std.proofs.Common.{◌≡◌, ◌≤◌, ◌+◌, ℕ, List, ◌++◌, length, take, drop, refl, sym, ap, ◌∙◌, arith}
use Rattle.std.proofs.lemmas.List.{length-take-le, take-append-le, drop-append-le, drop_at}
use Rattle.std.proofs.Math.Seq.{take-append-add}

pub came : (old items buffer rest : List ℕ) (s e n : ℕ) → drop s (take e items) ≡ old → s ≤ e → e ≤ length items → n ≤ length buffer
    → take n buffer ≡ drop (length old) (drop s (take (e + n) (take e items ++ (buffer ++ rest))))
came old items buffer rest s e n is before within few =
    let front : length (take e items) ≡ e = length-take-le e items within in
    let behind : drop s (take (e + n) (take e items ++ (buffer ++ rest))) ≡ old ++ take n buffer =
    ap (λ (m : ℕ). drop s (take (m + n) (take e items ++ (buffer ++ rest)))) (sym front)
    ∙ ap (drop s) (take-append-add (take e items) (buffer ++ rest) n)
    ∙ ap (λ (t : List ℕ). drop s (take e items ++ t)) (take-append-le n buffer rest few)
    ∙ drop-append-le s (take e items) (take n buffer) (omega (arith, front, before))
    ∙ ap (λ (t : List ℕ). t ++ take n buffer) is in
    sym (ap (λ (t : List ℕ). drop (length old) t) behind ∙ drop_at old (take n buffer) (length old) refl)
