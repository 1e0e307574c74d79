-- What is looked for, and what was seen, at one place after another.
use Rattle.std.specs.Prelude.{slice_get}
use Rattle.std.proofs.Common.{◌≡◌, ◌<◌, ◌≤◌, ◌+◌, ℕ, Bool, List, length, Option, refl, sym, subst, ◌∙◌, arith, inl, inr}
use Rattle.std.proofs.lemmas.Bool.{cases_lt}
use Rattle.std.proofs.lemmas.Option.{slice_get_within}
use Rattle.rb_address.specs.declared.host.Family.{Family}
use Rattle.rb_evidence.specs.declared.sight.Sight.{Sight}
use Rattle.rb_links.specs.declared.link.Link.{Link}
use Rattle.rb_policy.specs.Rounds.{StayBut}
use Rattle.rb_links.specs.Tables.{IsSoughtAt, AreSoughtIn, HasSeenAt, HaveSeenIn}

-- ---- what is looked for

-- at the places before this one
abbrev pub SoughtBefore : ℕ → Family → List Link → List (Option Sight) → Type 0
SoughtBefore key table links sights = (k : ℕ) → k < key → IsSoughtAt k table links sights

pub sought_next : (key : ℕ) (table : Family) (links : List Link) (old new : List (Option Sight)) → SoughtBefore key table links old → IsSoughtAt key table links new → StayBut key old new → SoughtBefore (key + 1) table links new
sought_next key table links old new before here others k less = elim (cases_lt k key) [
  | inl lower ↦ λ link is sight at. before k lower link is sight (sym (others k (λ same. omega (arith, same, lower))) ∙ at)
  | inr upper ↦
      let same : key ≡ k = omega (arith, upper, less) in
      subst (λ (n : ℕ). IsSoughtAt n table links new) same here
]

pub sought_all : (key : ℕ) (table : Family) (links : List Link) (sights : List (Option Sight)) → SoughtBefore key table links sights → length links ≤ key → AreSoughtIn table links sights
sought_all key table links sights before end k link is sight at =
    before k (omega (arith, slice_get_within links k link is, end)) link is sight at

-- ---- what was seen

-- It is noted at the places before this one, and nothing has changed from this one on.
pub record SeenBefore (key : ℕ) (is_whole : Bool) (first sights : List (Option Sight)) (old new : List Link) : Type 0 where
  pub done : (k : ℕ) → k < key → HasSeenAt k is_whole first old new
  pub links : (k : ℕ) → key ≤ k → slice_get new k ≡ slice_get old k
  pub sights_stay : (k : ℕ) → key ≤ k → slice_get sights k ≡ slice_get first k

pub seen_none : (is_whole : Bool) (first : List (Option Sight)) (old : List Link) → SeenBefore 0 is_whole first first old old
seen_none is_whole first old = record {
  done = λ k less. absurd (omega (arith, less));
  links = λ k more. refl;
  sights_stay = λ k more. refl;
}

pub seen_next : (key : ℕ) (is_whole : Bool) (first before after : List (Option Sight)) (old mid new : List Link) → SeenBefore key is_whole first before old mid
    → HasSeenAt key is_whole before mid new → StayBut key mid new → StayBut key before after → SeenBefore (key + 1) is_whole first after old new
seen_next key is_whole first before after old mid new s here links sights = record {
  done = λ k less. elim (cases_lt k key) [
    | inl lower ↦ λ link is sight at.
        let seen = s.done k lower link is sight at in
        (seen.0, links k (λ same. omega (arith, same, lower)) ∙ seen.1, seen.2)
    | inr upper ↦
        let same : key ≡ k = omega (arith, upper, less) in
        subst (λ (n : ℕ). HasSeenAt n is_whole first old new) same
        (λ link is sight at. here link (s.links key (omega arith) ∙ is) sight (s.sights_stay key (omega arith) ∙ at))
  ];
  links = λ k more. links k (λ same. omega (arith, same, more)) ∙ s.links k (omega (arith, more));
  sights_stay = λ k more. sights k (λ same. omega (arith, same, more)) ∙ s.sights_stay k (omega (arith, more));
}

pub seen_all : (key : ℕ) (is_whole : Bool) (first sights : List (Option Sight)) (old new : List Link) → SeenBefore key is_whole first sights old new → length old ≤ key → HaveSeenIn is_whole first old new
seen_all key is_whole first sights old new s end k link is sight at =
    s.done k (omega (arith, slice_get_within old k link is, end)) link is sight at
