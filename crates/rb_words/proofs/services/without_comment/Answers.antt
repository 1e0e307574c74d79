use Rattle.std.proofs.Common.{rules, ◌≡◌, ℕ, List, Some, None, length, sym, ◌∙◌, arith, inl, inr}
use Rattle.std.specs.Prelude.{nat_lt, Bool, if◌then◌else◌}
use Rattle.std.specs.List.{position_or_len, before_first}
use Rattle.std.proofs.lemmas.Bool.{cases_lt}
use Rattle.std.proofs.lemmas.List.{take_all}
use Rattle.std.proofs.lemmas.Iterator.{YieldsList-from_slice}
use Rattle.std.proofs.lemmas.Iterator.Search.{position_from_yields_List}
use Rattle.rb_words.specs.Services.{is_hash}
use Rattle.rb_words.proofs.services.without_comment.Goals as goal

pub returns-in-Some : goal.returns-in-Some
returns-in-Some c =
    let found = position_from_yields_List is_hash _ _ c.position.result c.position.ensures.ran (YieldsList-from_slice c.args.line.now c.iter.ensures.rest) (λ x b q k. search rules) in
    grind (arith, found)

-- if nothing passes, all stands before the first that does
whole : (test : ℕ → Bool) (xs : List ℕ) → None ≡ (if nat_lt (position_or_len test xs) (length xs) then Some (position_or_len test xs) else None) → xs ≡ before_first test xs
whole test xs none =
    elim (cases_lt (position_or_len test xs) (length xs)) [
      | inl less ↦ grind (arith, none, less)
      | inr all ↦ sym (take_all (position_or_len test xs) xs all)
    ]

pub returns-in-None : goal.returns-in-None
returns-in-None c =
    let found = position_from_yields_List is_hash _ _ c.position.result c.position.ensures.ran (YieldsList-from_slice c.args.line.now c.iter.ensures.rest) (λ x b q k. search rules) in
    whole is_hash c.args.line.now (sym c.in-None.is ∙ found)
