use Rattle.std.proofs.Common.{◌≡◌, ℕ, ◌+◌, ◌≤◌, List, ◌++◌, length, take, ap, sym, ◌∙◌, length-append, arith}
use Rattle.std.proofs.lemmas.List.{take-take, length-take-le}
use Rattle.std.proofs.Math.Seq.{take-append-add}
use Rattle.rb_xdr.specs.Kept.{Kept}
use Rattle.rb_xdr.proofs.kept.Kept.append_block.Goals as goal

front_of : (old bytes : List ℕ) (block len : ℕ) → len ≤ block → take (length old + len) (old ++ take block bytes) ≡ old ++ take len bytes
front_of old bytes block len few = take-append-add old (take block bytes) len ∙ ap (λ (xs : List ℕ). old ++ xs) (take-take len block bytes few)

-- the bytes that count are as many as the view shows
count_of : (memory bytes : List ℕ) (len : ℕ) → take len memory ≡ bytes → len ≤ length memory → length bytes ≡ len
count_of memory bytes len shown within = sym (ap (λ (xs : List ℕ). length xs) shown) ∙ length-take-le len memory within

pub truncate-requires : goal.truncate-requires
truncate-requires c =
    let count = count_of c.self.inside.memory.items c.args.self.now.bytes c.self.inside.len (ap (λ (k : Kept). k.bytes) c.self.view_is) c.self.invariant.within in
    let whole = ap (λ (k : Kept). length k.bytes) c.append.ensures ∙ length-append c.args.self.now.bytes (take 64 c.args.bytes.now) in
    omega (arith, count, whole, length-take-le 64 c.args.bytes.now c.requires.block, c.requires.len)

pub returns : goal.returns
returns c =
    let count = count_of c.self.inside.memory.items c.args.self.now.bytes c.self.inside.len (ap (λ (k : Kept). k.bytes) c.self.view_is) c.self.invariant.within in
    let front = front_of c.args.self.now.bytes c.args.bytes.now 64 c.args.len c.requires.len in
    c.truncate.ensures
    ∙ ap (λ (k : Kept). record k { bytes = take (c.self.inside.len + c.args.len) k.bytes }) c.append.ensures
    ∙ ap (λ (xs : List ℕ). record c.args.self.now { bytes = xs }) (rw count at front)
