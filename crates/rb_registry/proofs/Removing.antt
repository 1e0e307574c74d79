-- A walk over a table that takes out the values that pass a test.
use Rattle.std.proofs.Common.{◌≡◌, ℕ, ◌+◌, length, arith, Bool, true, false, not, cond, eqb, List, [], ◌∷◌, ◌++◌, Option, Some, None, refl, sym, ap, ◌∙◌, append_assoc}
use Rattle.std.specs.Prelude.{filter}
use Rattle.rb_xdr.specs.Pool.{value_at, without, first_key, HasDistinctKeys}
use Rattle.rb_xdr.specs.Places.{behind, to_come}
use Rattle.rb_xdr.proofs.PoolLemmas.{distinct-without}
use Rattle.rb_xdr.proofs.Walks.{step, up_to, passed, next_found, next_passed}

module _ {T : Type 0} where
  up_to-behind : (entries : List (ℕ × T)) (key : ℕ) → up_to entries key ++ behind entries key ≡ entries
  up_to-behind [] key = refl
  up_to-behind (e ∷ rest) key =
      elim (eqb e.0 key) as (λ b. cond b (e ∷ []) (e ∷ up_to rest key) ++ cond b rest (behind rest key) ≡ e ∷ rest)
      [ true ↦ refl | false ↦ ap (λ (es : List (ℕ × T)). e ∷ es) (up_to-behind rest key) ]

  -- a place splits the entries
  pub passed-to_come : (entries : List (ℕ × T)) (place : Option ℕ) → passed entries place ++ to_come entries place ≡ entries
  passed-to_come entries None = refl
  passed-to_come entries (Some key) = up_to-behind entries key

  -- up to the place only what stays is left, and after it nothing was looked at
  pub record Removing (goes : T → Bool) (before now : List (ℕ × T)) (place : Option ℕ) : Type 0 where
    pub distinct : HasDistinctKeys now
    pub kept : passed now place ++ filter (λ e. not (goes e.1)) (to_come now place) ≡ filter (λ e. not (goes e.1)) before

module _ {T : Type 0} (goes : T → Bool) (before now : List (ℕ × T)) (place : Option ℕ) (h : Removing goes before now place) where
  module _ (key : ℕ) (value : T) (next : to_come now place ≡ (key, value) ∷ behind now key) where
    abbrev is_next : first_key (to_come now place) ≡ Some key
    is_next = ap (λ (es : List (ℕ × T)). first_key es) next

    pub is_there : value_at now key ≡ Some value
    is_there = next_found now place key value h.distinct next

    pub one_fewer : length (to_come (without now key) place) + 1 ≡ length (to_come now place)
    one_fewer =
        let s = step now place key h.distinct is_next in
        let e : length (to_come (without now key) place) ≡ length (behind now key) = ap (λ (es : List (ℕ × T)). length es) s.come_without in
        let f : length (to_come now place) ≡ length ((key, value) ∷ behind now key) = ap (λ (es : List (ℕ × T)). length es) next in
        omega (arith, e, f)

    pub taken_out : goes value ≡ true → Removing goes before (without now key) place
    taken_out gone =
        let s = step now place key h.distinct is_next in
        let kept : passed now place ++ filter (λ e. not (goes e.1)) (behind now key) ≡ filter (λ e. not (goes e.1)) before = rw (next, gone) at h.kept in
        record {
          distinct = distinct-without now key h.distinct;
          kept = rw (s.pass_without, s.come_without) kept;
        }

    pub left_in : goes value ≡ false → Removing goes before now (Some key)
    left_in stays =
        let one : passed now (Some key) ≡ passed now place ++ (key, value) ∷ [] = next_passed now place key value h.distinct next in
        let kept : passed now place ++ ((key, value) ∷ filter (λ e. not (goes e.1)) (behind now key)) ≡ filter (λ e. not (goes e.1)) before = rw (next, stays) at h.kept in
        record {
          distinct = h.distinct;
          kept = rw one (append_assoc (passed now place) ((key, value) ∷ []) (filter (λ e. not (goes e.1)) (behind now key)) ∙ kept);
        }

  pub all_passed : to_come now place ≡ [] → now ≡ filter (λ e. not (goes e.1)) before
  all_passed last =
      let split : passed now place ++ to_come now place ≡ now = passed-to_come now place in
      let whole : passed now place ++ [] ≡ now = rw last at split in
      let kept : passed now place ++ [] ≡ filter (λ e. not (goes e.1)) before = rw last at h.kept in
      sym whole ∙ kept
