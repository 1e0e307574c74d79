use Rattle.std.proofs.Common.{◌≡◌, ◌<◌, ◌≤◌, ◌++◌, ◌∷◌, [], List, length, sym, subst, ap, ◌∙◌, arith}
use Rattle.std.proofs.lemmas.Map.Entries.{length-values_of}
use Rattle.std.specs.Map.{values_of}
use Rattle.rb_stats.specs.declared.item.Item.{Item}
use Rattle.rb_stats.specs.Statistics.{Count, info_of, greatest_list}
use Rattle.rb_stats.specs.Table.{Table, Holds, is_item, items_in}
use Rattle.rb_stats.proofs.Items.{holds-found, holds-new, holds-full}
use Rattle.rb_stats.proofs.Entries.{any-found, none-found, room_left, most_items}
use Rattle.rb_stats.proofs.table.Items.count.Goals as goal

pub overflow_add-self : goal.overflow_add-self
overflow_add-self c =
    let one : Count = record { key = c.args.key; passed = c.args.passed; indirect = c.args.indirect } in
    let own = items_in c.args.key.version (info_of c.args.key.proc) (values_of c.self.inside.items.entries) in
    let few : length own < greatest_list = subst (λ n. n < greatest_list) c.in-Err.ensures.count c.if-count-lt-GREATEST_LIST.true in
    omega (arith, room_left one c.self.inside.items c.self.invariant.0 few, c.self.invariant.0.cap, c.self.invariant.1)

pub returns-in-Ok-clause-holds : goal.returns-in-Ok-clause-holds
returns-in-Ok-clause-holds c = λ counts h.
    let one : Count = record { key = c.args.key; passed = c.args.passed; indirect = c.args.indirect } in
    let entries = c.self.inside.items.entries in
    let before : Holds (values_of entries) counts = subst (λ (t : Table). Holds t.all counts) (sym c.self.view_is) h in
    subst (λ (items : List Item). Holds items (counts ++ one ∷ [])) (sym c.count_at.ensures.items)
    (holds-found one (values_of entries) counts before (any-found (is_item c.args.key) entries c.in-Ok.place c.in-Ok.ensures.found))

pub returns-in-Err-clause-holds : goal.returns-in-Err-clause-holds
returns-in-Err-clause-holds c = λ counts h.
    let one : Count = record { key = c.args.key; passed = c.args.passed; indirect = c.args.indirect } in
    let entries = c.self.inside.items.entries in
    let before : Holds (values_of entries) counts = subst (λ (t : Table). Holds t.all counts) (sym c.self.view_is) h in
    let few : length (items_in c.args.key.version (info_of c.args.key.proc) (values_of entries)) < greatest_list =
    subst (λ n. n < greatest_list) c.in-Err.ensures.count c.if-count-lt-GREATEST_LIST.true in
    subst (λ (items : List Item). Holds items (counts ++ one ∷ [])) (sym c.add_item.ensures.items)
    (holds-new one (values_of entries) counts before (none-found (is_item c.args.key) entries c.in-Err.ensures.missing) few)

pub returns-else-count-lt-GREATEST_LIST-clause-holds : goal.returns-else-count-lt-GREATEST_LIST-clause-holds
returns-else-count-lt-GREATEST_LIST-clause-holds c = λ counts h.
    let one : Count = record { key = c.args.key; passed = c.args.passed; indirect = c.args.indirect } in
    let entries = c.self.inside.items.entries in
    let before : Holds (values_of entries) counts = subst (λ (t : Table). Holds t.all counts) (sym c.self.view_is) h in
    let full : greatest_list ≤ length (items_in c.args.key.version (info_of c.args.key.proc) (values_of entries)) =
    subst (λ n. greatest_list ≤ n) c.in-Err.ensures.count c.if-count-lt-GREATEST_LIST.false in
    subst (λ (t : Table). Holds t.all (counts ++ one ∷ [])) c.self.view_is
    (holds-full one (values_of entries) counts before (none-found (is_item c.args.key) entries c.in-Err.ensures.missing) full)

pub returns-in-Ok-clause-few : goal.returns-in-Ok-clause-few
returns-in-Ok-clause-few c =
    let all : length c.args.self.now.all ≡ length c.self.inside.items.entries = ap (λ (t : Table). length t.all) (sym c.self.view_is) ∙ length-values_of c.self.inside.items.entries in
    omega (arith, all, most_items c.self.inside.items c.self.invariant.0)

pub returns-in-Err-clause-few : goal.returns-in-Err-clause-few
returns-in-Err-clause-few c =
    let all : length c.args.self.now.all ≡ length c.self.inside.items.entries = ap (λ (t : Table). length t.all) (sym c.self.view_is) ∙ length-values_of c.self.inside.items.entries in
    omega (arith, all, most_items c.self.inside.items c.self.invariant.0)

pub returns-else-count-lt-GREATEST_LIST-clause-few : goal.returns-else-count-lt-GREATEST_LIST-clause-few
returns-else-count-lt-GREATEST_LIST-clause-few c =
    let all : length c.args.self.now.all ≡ length c.self.inside.items.entries = ap (λ (t : Table). length t.all) (sym c.self.view_is) ∙ length-values_of c.self.inside.items.entries in
    omega (arith, all, most_items c.self.inside.items c.self.invariant.0)
