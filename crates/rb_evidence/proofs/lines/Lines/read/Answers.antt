use Rattle.std.proofs.Common.{ℕ, List, ◌≤◌, ◌+◌, ◌-◌, take, drop, length, refl, sym, ap, ◌∙◌, arith}
use Rattle.std.proofs.lemmas.List.{with_items_is, drop_at}
use Rattle.rb_evidence.proofs.WalkLaws.{came_behind, read_behind, whole_stays}
use Rattle.rb_evidence.proofs.lines.Lines.read.Goals as goal
use borrow.Rule.Slice.PartMut.{post_of}

pub returns-clause-read : goal.returns-clause-read
returns-clause-read g c =
    let s = c.self.inside.start in
    let e = c.self.inside.end in
    let count = c.in_ok-count.count in
    let room = c.as_mut_slice.result.now in
    let buffer = c.read.new.buf in
    let rest = post_of e (length room - e) room in
    let within : e ≤ length room = omega (arith, c.self.invariant.1, ap (λ (items : List ℕ). length items) c.as_mut_slice.ensures.value) in
    let old = ap (λ (items : List ℕ). drop s (take e items)) c.as_mut_slice.ensures.value ∙ c.self.view_is ∙ c.move_to_front.ensures in
    let behind = read_behind c.args.self.now room buffer rest s e count old c.self.invariant.0 within c.in_ok-count.ensures.bound.0 in
    record {
      slice = behind.slice;
      count_is = behind.count_is;
      behind =
          ap (λ (items : List ℕ). drop s (take (e + count) items))
          (with_items_is c.self.inside.room _ (whole_stays e (length room - e) room buffer within c.read.auto.buf ∙ c.as_mut_slice.ensures.len))
          ∙ behind.behind;
    }

pub returns-clause-came : goal.returns-clause-came
returns-clause-came g c =
    let s = c.self.inside.start in
    let e = c.self.inside.end in
    let count = c.in_ok-count.count in
    let room = c.as_mut_slice.result.now in
    let buffer = c.read.new.buf in
    let rest = post_of e (length room - e) room in
    let within : e ≤ length room = omega (arith, c.self.invariant.1, ap (λ (items : List ℕ). length items) c.as_mut_slice.ensures.value) in
    let old = ap (λ (items : List ℕ). drop s (take e items)) c.as_mut_slice.ensures.value ∙ c.self.view_is ∙ c.move_to_front.ensures in
    let behind = came_behind c.args.self.now room buffer rest s e count old c.self.invariant.0 within c.in_ok-count.ensures.bound.0 in
    let is =
    ap (λ (items : List ℕ). drop s (take (e + count) items))
    (with_items_is c.self.inside.room _ (whole_stays e (length room - e) room buffer within c.read.auto.buf ∙ c.as_mut_slice.ensures.len))
    ∙ behind in
    rw (← sym (ap (drop (length c.args.self.now)) is ∙ drop_at c.args.self.now (take count buffer) (length c.args.self.now) refl)) c.in_ok-count.ensures.bytes.0
