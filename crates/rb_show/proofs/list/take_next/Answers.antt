use Rattle.std.proofs.Common.{◌≡◌, ◌+◌, ◌-◌, ◌++◌, ◌∷◌, [], List, length, Bool, true, false, Option, Some, None, refl, sym, subst, length-append, arith, rules}
use Rattle.std.proofs.lemmas.Result.{err_from_is_err_and}
use Rattle.rb_xdr.specs.Xdr.{read_bool}
use Rattle.rb_xdr.specs.XdrTypes.{read_optional}
use Rattle.rb_show.specs.Telling.{take_one}
use Rattle.rb_show.specs.Fronts.{GoesOn, Takes, rest_items}
use Rattle.rb_show.proofs.Items.{item_pause, item_none, item_some, end_pause, end_none, end_more}
use Rattle.rb_show.proofs.list.take_next.Goals as goal

pub returns-in_err-more : goal.returns-in_err-more
returns-in_err-more g c =
    let p = err_from_is_err_and c.from_residual.result c.from_residual.ensures.1 in
    rw (p.1, p.2) (refl, end_pause g.T.Xdr.reads c.args.bytes.now (4096 - length c.args.items.now.items) c.args.items.now.items (omega arith) _ c.in_err-more.ensures.takes)

pub returns-then-more : goal.returns-then-more
returns-then-more g c =
    let is : c.in_ok-more.more ≡ true = search rules in
    let takes : Takes (take_one read_bool) c.args.bytes.now true c.in_ok-more.used = subst (λ (b : Bool). Takes (take_one read_bool) c.args.bytes.now b c.in_ok-more.used) is c.in_ok-more.ensures.takes in
    (refl, end_more g.T.Xdr.reads c.args.bytes.now (4096 - length c.args.items.now.items) c.args.items.now.items (omega arith) c.in_ok-more.used takes)

pub returns-else-more : goal.returns-else-more
returns-else-more g c =
    let is : c.in_ok-more.more ≡ false = search rules in
    let takes : Takes (take_one read_bool) c.args.bytes.now false c.in_ok-more.used = subst (λ (b : Bool). Takes (take_one read_bool) c.args.bytes.now b c.in_ok-more.used) is c.in_ok-more.ensures.takes in
    record {
      some = c.in_ok-more.ensures.some;
      within = takes.within;
      kept = λ e. refl;
      goes_on = end_none g.T.Xdr.reads c.args.bytes.now (4096 - length c.args.items.now.items) c.args.items.now.items (omega arith) c.in_ok-more.used takes;
    }

pub returns-in_err-next : goal.returns-in_err-next
returns-in_err-next g c =
    let p = err_from_is_err_and c.from_residual-in_err-next.result c.from_residual-in_err-next.ensures.1 in
    rw (p.1, p.2) (refl, item_pause g.T.Xdr.reads c.args.bytes.now (4096 - length c.args.items.now.items) (4096 - (length c.args.items.now.items + 1)) c.args.items.now.items (omega arith) _ c.in_err-next.ensures.takes)

pub returns-in-None : goal.returns-in-None
returns-in-None g c =
    let is : c.in_ok-next.next ≡ None = search rules in
    let takes : Takes (take_one (read_optional g.T.Xdr.reads)) c.args.bytes.now None c.in_ok-next.used = subst (λ (item : Option g.row.T.Denot). Takes (take_one (read_optional g.T.Xdr.reads)) c.args.bytes.now item c.in_ok-next.used) is c.in_ok-next.ensures.takes in
    record {
      some = c.in_ok-next.ensures.some;
      within = takes.within;
      kept = λ e. refl;
      goes_on = item_none g.T.Xdr.reads c.args.bytes.now (4096 - length c.args.items.now.items) (4096 - (length c.args.items.now.items + 1)) c.args.items.now.items (omega arith) c.in_ok-next.used takes;
    }

pub returns-else-is_err : goal.returns-else-is_err
returns-else-is_err g c =
    let is : c.in_ok-next.next ≡ Some c.in-Some.item = search rules in
    let takes : Takes (take_one (read_optional g.T.Xdr.reads)) c.args.bytes.now (Some c.in-Some.item) c.in_ok-next.used = subst (λ (item : Option g.row.T.Denot). Takes (take_one (read_optional g.T.Xdr.reads)) c.args.bytes.now item c.in_ok-next.used) is c.in_ok-next.ensures.takes in
    let pushed : c.push.new.self.items ≡ c.args.items.now.items ++ c.in-Some.item ∷ [] = search rules in
    let longer : length (c.args.items.now.items ++ c.in-Some.item ∷ []) ≡ _ = length-append c.args.items.now.items (c.in-Some.item ∷ []) in
    record {
      some = c.in_ok-next.ensures.some;
      within = takes.within;
      kept = λ e. absurd cc;
      goes_on = subst (λ (items : List g.row.T.Denot). GoesOn (rest_items g.T.Xdr.reads c.args.items.now.items) c.args.bytes.now [] c.in_ok-next.used (rest_items g.T.Xdr.reads items)) (sym pushed)
          (item_some g.T.Xdr.reads c.args.bytes.now (4096 - length c.args.items.now.items) (4096 - length (c.args.items.now.items ++ c.in-Some.item ∷ [])) c.args.items.now.items (omega (arith, longer)) c.in-Some.item c.in_ok-next.used takes);
    }
