-- What is noted of one place after another, for whoever decides who is let in.
use Rattle.std.proofs.Common.{◌≡◌, ◌<◌, ◌≤◌, ◌+◌, ℕ, List, length, Option, sym, subst, ◌∙◌, arith, inl, inr}
use Rattle.std.proofs.lemmas.Bool.{cases_lt}
use Rattle.std.proofs.lemmas.Option.{slice_get_within}
use Rattle.rb_policy.specs.declared.door.Holder.{Holder}
use Rattle.rb_links.specs.declared.link.Link.{Link}
use Rattle.rb_policy.specs.Rounds.{StayBut}
use Rattle.rb_links.specs.Served.{IsNotedAt, AreNoted}

-- at the places before this one
abbrev pub NotedBefore : ℕ → List Link → List (Option Holder) → Type 0
NotedBefore key links holders = (k : ℕ) → k < key → IsNotedAt k links holders

pub noted_next : (key : ℕ) (links : List Link) (old new : List (Option Holder)) → NotedBefore key links old → IsNotedAt key links new → StayBut key old new → NotedBefore (key + 1) links new
noted_next key links old new before here others k less = elim (cases_lt k key) [
  | inl lower ↦ λ link is holder at. before k lower link is holder (sym (others k (λ same. omega (arith, same, lower))) ∙ at)
  | inr upper ↦
      let same : key ≡ k = omega (arith, upper, less) in
      subst (λ (n : ℕ). IsNotedAt n links new) same here
]

pub noted_all : (key : ℕ) (links : List Link) (holders : List (Option Holder)) → NotedBefore key links holders → length links ≤ key → AreNoted links holders
noted_all key links holders before end k link is holder at =
    before k (omega (arith, slice_get_within links k link is, end)) link is holder at
