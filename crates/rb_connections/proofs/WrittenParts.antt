-- A fragment of a reply that is written into a room, or is shown: by its data.
use Rattle.std.proofs.Common.{◌≡◌, ◌<◌, ◌≤◌, ◌+◌, ℕ, Bool, leb, List, ◌++◌, length, take, drop, refl, sym, ap, ◌∙◌, ◌⊎◌, inl, inr, arith, length-append}
use Rattle.std.proofs.lemmas.Bool.{leb-false, leb-true}
use Rattle.std.proofs.lemmas.List.{length-take, take_all}
use Rattle.rb_xdr.specs.Kept.{Kept}
use Rattle.rb_rpc.specs.Records.{fragment_header, marked_reply}
use Rattle.rb_rpc.proofs.Markings.{length-header}
use Rattle.rb_registry.specs.Registry.{Registry}
use Rattle.rb_model.specs.Connections.{longest_fragment}
use Rattle.rb_model.proofs.Fragments.{length-short, longest_is, some-marked}
use Rattle.rb_connections.specs.declared.giving.Next.{Next}
use Rattle.rb_connections.specs.declared.giving.Next.TheVariants as nexts
use Rattle.rb_connections.specs.declared.giving.Rest.{Rest}
use Rattle.rb_connections.specs.StandsFor.{rest_in, stamp_of_rest}
use Rattle.rb_connections.specs.Giving.{CanMake, WritesPart, WritesNext}
use Rattle.rb_connections.proofs.Fragments.{part_shown}

count_fragment : (part : List ℕ) (last : Bool) → length (fragment_header (length part) last ++ part) ≡ 4 + length part
count_fragment part last = omega (arith, length-append (fragment_header (length part) last) part, length-header (length part) last)

module _ (registry : Registry) (buffer : List ℕ) (rest behind : Rest) (part : List ℕ) (last : Bool) (room : List ℕ) (before after : Kept)
    (part_is : part ≡ take 1024 (rest_in registry buffer rest)) (last_is : last ≡ leb (length (rest_in registry buffer rest)) 1024)
    (behind_is : rest_in registry buffer behind ≡ drop 1024 (rest_in registry buffer rest))
    (stamp : stamp_of_rest behind ≡ stamp_of_rest rest) (made : CanMake registry behind) where
  fragment_is : fragment_header (length part) last ++ part ≡ take longest_fragment (marked_reply (rest_in registry buffer rest))
  fragment_is = part_shown (rest_in registry buffer rest) part last part_is last_is

  size_is : 4 + length part ≡ length (take longest_fragment (marked_reply (rest_in registry buffer rest)))
  size_is = sym (count_fragment part last) ∙ ap (λ (xs : List ℕ). length xs) fragment_is

  pub writes_next : (next : Next) → WritesPart part last room before after next → WritesNext registry buffer rest behind room before after next
  writes_next (nexts.Ended n) w =
      let few : length (rest_in registry buffer rest) ≤ 1024 = leb-true (length (rest_in registry buffer rest)) 1024 (sym last_is ∙ w.0) in
      let whole = take_all longest_fragment (marked_reply (rest_in registry buffer rest)) (omega (arith, longest_is, few, length-short (rest_in registry buffer rest) few)) in
      (record { few = few; fits = w.1; written = w.2 ∙ fragment_is ∙ whole }, w.3)
  writes_next nexts.Behind w =
      let long : 1024 < length (rest_in registry buffer rest) = leb-false (length (rest_in registry buffer rest)) 1024 (sym last_is ∙ w.0) in
      let full : 4 + length part ≡ longest_fragment = omega (arith, longest_is, long, ap (λ (xs : List ℕ). length xs) part_is, length-take 1024 (rest_in registry buffer rest)) in (
        record {
          long = long;
          fits = omega (arith, w.1, full);
          written = ap (λ (n : ℕ). take n room) (sym full) ∙ w.2 ∙ fragment_is;
          rest_is = behind_is;
          stamp = stamp;
          made = made;
        },
        w.3,
      )
  writes_next (nexts.Shown shown) w =
      record {
        long = omega (arith, w.0, size_is);
        shows = record {
          fragment = w.1 ∙ ap (λ (xs : List ℕ). record before { bytes = xs }) fragment_is;
          rest_is = behind_is;
          last = w.2 ∙ last_is;
          place = refl;
          stamp = stamp;
          made = made;
        };
      }

-- without room it is shown
pub no_room : (registry : Registry) (buffer : List ℕ) (rest behind : Rest) (room : List ℕ) (before after : Kept) (next : Next) → length room ≡ 0
    → WritesNext registry buffer rest behind room before after next
    → ((n : ℕ) × (next ≡ nexts.Ended n)) ⊎ (next ≡ nexts.Behind) → ⊥
no_room registry buffer rest behind room before after (nexts.Ended n) none w is =
    let size : length (marked_reply (rest_in registry buffer rest)) ≡ length (take n room) = sym (ap (λ (xs : List ℕ). length xs) w.0.written) in
    omega (arith, size, none, length-take n room, some-marked (rest_in registry buffer rest))
no_room registry buffer rest behind room before after nexts.Behind none w is = omega (arith, w.0.fits, none, longest_is)
no_room registry buffer rest behind room before after (nexts.Shown last) none w (inl h) = absurd cc
no_room registry buffer rest behind room before after (nexts.Shown last) none w (inr h) = absurd cc
