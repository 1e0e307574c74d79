use Rattle.std.proofs.Common.{◌≡◌, ◌+◌, None, refl, append-nil, length, length-take-le, ap, sym, ◌∙◌, arith}
use Rattle.rb_xdr.specs.Kept.{Kept}
use Rattle.rb_xdr.specs.Meter.{Meter, PaysAtMost}
use Rattle.rb_answers.specs.declared.answers.Listing.TheVariants.{Mappings}
use Rattle.rb_answers.specs.declared.list_reply.ListReply.{ListReply}
use Rattle.rb_answers.proofs.Filling.{filling_begins, row_passed, row_crosses, end_fits, list_ends, with_made, paid_later, later, later_row, made_longer, paid_first, paid_row}
use Rattle.rb_answers.proofs.list_reply.ListReply.fill_mappings.Goals as goal
use Rattle.rb_answers.proofs.list_reply.ListReply.fill_mappings.Goals.{After-next_mapped-found}

-- the reply lists the same whatever its cursor
list_of : (old now : ListReply) → old.list ≡ Mappings → now ≡ record old { cursor = now.cursor } → Mappings ≡ now.list
list_of old now is moved = sym is ∙ sym (ap (λ (r : ListReply). r.list) moved)

began : (c : After-next_mapped-found) → PaysAtMost c.args.meter.now c.len-base.new.meter (length c.put_head.new.out.bytes + 3)
began c =
    let cleared : c.clear.new.meter.steps ≡ c.args.meter.now.steps + 1 = ap (λ (m : Meter). m.steps) c.clear.ensures.cost in
    let asked : c.len-base.new.meter.steps ≡ c.put_head.new.meter.steps + 1 = ap (λ (m : Meter). m.steps) c.len-base.ensures.cost in
    let head = c.put_head.ensures.cost in
    record {
      rises = omega (arith, cleared, asked, head.rises);
      steps = omega (arith, cleared, asked, head.steps);
      tie = ap (λ (m : Meter). m.tie) c.len-base.ensures.cost ∙ head.tie ∙ ap (λ (m : Meter). m.tie) c.clear.ensures.cost;
    }

pub rows-init : goal.rows-init
rows-init c =
    let written = rw c.clear.ensures.empty at c.put_head.ensures.written in
    let none = append-nil c.put_head.new.out.bytes in
    record {
      looking = record {
        before = paid_later c.len-base.new.meter 0;
        filling = filling_begins None _ _ _ _ _ _ _ _ c.requires.place tt (none ∙ ap (λ (k : Kept). k.bytes) written) (ap (λ (k : Kept). k.cap) written) (ap (λ (k : Kept). k.tie) written) (c.len-base.ensures.len ∙ sym (ap length none))
            (omega (arith, c.len-base.ensures.len, c.put_head.ensures.short, c.requires.most))
            (paid_first c.args.meter.now c.len-base.new.meter _ _ none (began c));
        cost = later 0 c.len-base.new.meter c.next_mapped-found.new.meter _ c.next_mapped-found.ensures.cost;
        row = c.next_mapped-found.ensures.row;
        end = c.next_mapped-found.ensures.end;
        cost_row = later_row 0 c.args.registry.now c.args.self.now.cursor c.len-base.new.meter c.next_mapped-found.new.meter _ c.next_mapped-found.ensures.cost_row;
      };
      within = omega arith;
      stays = refl;
    }

pub rows-preserved : goal.rows-preserved
rows-preserved c =
    let f = c.rows.invariant.looking.filling in
    let same = list_of c.args.self.now _ c.requires.list f.moved in
    let longer = made_longer c.rows.out _ c.put_mapping-more.new.made c.rows.count c.put_mapping-more.result _ (rw same at c.put_mapping-more.ensures.written) in
    record {
      looking = record {
        before = paid_later c.rows.meter (c.rows.count + c.put_mapping-more.result);
        filling = row_passed _ _ _ _ _ _ _ _ _ _ f c.in-Some.passed.1.now.row c.in-Some.passed.0 (rw c.in-Some.is at c.rows.invariant.looking.row)
            _ longer _ _ c.put_mapping-more.result _ c.rows.invariant.looking.cost (rw c.in-Some.is at c.rows.invariant.looking.cost_row)
            (paid_row c.rows.meter c.rows.count c.put_mapping-more.result _ (rw same at c.put_mapping-more.ensures.count))
            (rw same at c.put_mapping-more.ensures.count) c.if-most-base.false;
        cost = later (c.rows.count + c.put_mapping-more.result) c.rows.meter c.next_mapped-found-in-Some.new.meter _ c.next_mapped-found-in-Some.ensures.cost;
        row = c.next_mapped-found-in-Some.ensures.row;
        end = c.next_mapped-found-in-Some.ensures.end;
        cost_row = later_row (c.rows.count + c.put_mapping-more.result) c.args.registry.now c.in-Some.passed.0 c.rows.meter c.next_mapped-found-in-Some.new.meter _ c.next_mapped-found-in-Some.ensures.cost_row;
      };
      within = let before = c.rows.invariant.within in omega (arith, before);
      stays = c.rows.invariant.stays;
    }

pub slice_bounds-made-end : goal.slice_bounds-made-end
slice_bounds-made-end c =
    let within = c.rows.invariant.within in
    let before = c.rows.invariant.looking.filling.before in
    omega (arith, within, before, c.requires.few, c.put_mapping-more.ensures.few, c.put_mapping-more.array_long)

pub slice_bounds-put-end : goal.slice_bounds-put-end
slice_bounds-put-end c =
    let within = c.rows.invariant.within in
    let before = c.rows.invariant.looking.filling.before in
    sym (length-take-le (c.rows.count + c.put_mapping-more.result) c.put_mapping-more.new.made (omega (arith, within, before, c.requires.few, c.put_mapping-more.ensures.few, c.put_mapping-more.array_long)))

pub returns-then-most-base-clause-fills : goal.returns-then-most-base-clause-fills
returns-then-most-base-clause-fills c =
    let f = c.rows.invariant.looking.filling in
    let same = list_of c.args.self.now _ c.requires.list f.moved in
    rw (c.rows.invariant.stays, c.put.ensures.written)
    (row_crosses _ _ _ _ _ _ _ _ _ _ f c.in-Some.passed.1.now.row c.in-Some.passed.0 (rw c.in-Some.is at c.rows.invariant.looking.row)
    (with_made c.rows.out c.put_mapping-more.new.made (c.rows.count + c.put_mapping-more.result))
    (made_longer c.rows.out c.rows.made c.put_mapping-more.new.made c.rows.count c.put_mapping-more.result _ (rw same at c.put_mapping-more.ensures.written))
    (rw same at c.put_mapping-more.ensures.short) c.put_mapping-more.result (rw same at c.put_mapping-more.ensures.count) c.if-most-base.true)

pub write-requires-clause-room : goal.write-requires-clause-room
write-requires-clause-room c = rw c.put-2.ensures.written (end_fits _ _ _ _ _ _ _ _ _ _ c.rows.invariant.looking.filling c.requires.room)

pub returns-clause-fills : goal.returns-clause-fills
returns-clause-fills c =
    rw c.rows.invariant.stays (list_ends _ _ _ _ _ _ _ _ _ _ c.rows.invariant.looking.filling c.write.new.out (rw c.in_default.is at c.rows.invariant.looking.end) (rw c.put-2.ensures.written at c.write.ensures.written))
