use Rattle.std.proofs.Common.{◌≡◌, ap, sym, ◌∙◌, arith, rules}
use Rattle.rb_xdr.specs.Kept.{Kept}
use Rattle.rb_answers.specs.declared.answers.Listing.{Listing}
use Rattle.rb_answers.specs.declared.list_reply.ListReply.{ListReply}
use Rattle.rb_answers.proofs.Filling.{filling_begins, row_passed, row_crosses, end_fits, list_ends}
use Rattle.rb_answers.proofs.list_reply.ListReply.fill_with.Goals as goal

-- the reply lists the same whatever its cursor
list_of : (list : Listing) (old now : ListReply) → list ≡ old.list → now ≡ record old { cursor = now.cursor } → list ≡ now.list
list_of list old now is moved = is ∙ sym (ap (λ (r : ListReply). r.list) moved)

pub rows-init : goal.rows-init
rows-init c =
    let written = rw c.clear.ensures.empty at c.put_head.ensures.written in
    record {
      before = c.seek_version.new.meter;
      filling = filling_begins _ _ _ _ _ _ _ _ _ c.requires.place (rw c.requires.list at c.seek_version.ensures.sought) (ap (λ (k : Kept). k.bytes) written) (ap (λ (k : Kept). k.cap) written) (ap (λ (k : Kept). k.tie) written) c.len-base.ensures.len
          (omega (arith, c.len-base.ensures.len, c.put_head.ensures.short, c.requires.most)) (search rules);
      cost = c.next_row-found.ensures.cost;
      row = c.next_row-found.ensures.row;
      end = c.next_row-found.ensures.end;
      cost_row = c.next_row-found.ensures.cost_row;
    }

pub returns-then-most-base-clause-fills : goal.returns-then-most-base-clause-fills
returns-then-most-base-clause-fills c =
    let f = c.rows.invariant.filling in
    let same = list_of c.args.list c.args.self.now _ c.requires.list f.moved in
    row_crosses _ _ _ _ _ _ _ _ _ _ f c.in-Some.passed.1.now c.in-Some.passed.0 (rw c.in-Some.is at c.rows.invariant.row)
    c.write_row-more.new.out (rw same at c.write_row-more.ensures.written) (rw same at c.write_row-more.ensures.short) c.write_row-more.result (rw same at c.write_row-more.ensures.count) c.if-most-base.true

pub rows-preserved : goal.rows-preserved
rows-preserved c =
    let f = c.rows.invariant.filling in
    let same = list_of c.args.list c.args.self.now _ c.requires.list f.moved in
    record {
      before = c.write_row-more.new.meter;
      filling = row_passed _ _ _ _ _ _ _ _ _ _ f c.in-Some.passed.1.now c.in-Some.passed.0 (rw c.in-Some.is at c.rows.invariant.row)
          c.write_row-more.new.out (rw same at c.write_row-more.ensures.written) _ c.write_row-more.new.meter c.write_row-more.result _ c.rows.invariant.cost (rw c.in-Some.is at c.rows.invariant.cost_row) (rw same at c.write_row-more.ensures.cost)
          (rw same at c.write_row-more.ensures.count) c.if-most-base.false;
      cost = c.next_row-found-in-Some.ensures.cost;
      row = c.next_row-found-in-Some.ensures.row;
      end = c.next_row-found-in-Some.ensures.end;
      cost_row = c.next_row-found-in-Some.ensures.cost_row;
    }

pub write-requires-clause-room : goal.write-requires-clause-room
write-requires-clause-room c = end_fits _ _ _ _ _ _ _ _ _ _ c.rows.invariant.filling c.requires.room

pub returns-clause-fills : goal.returns-clause-fills
returns-clause-fills c = list_ends _ _ _ _ _ _ _ _ _ _ c.rows.invariant.filling c.write.new.out (rw c.in_default.is at c.rows.invariant.end) c.write.ensures.written
