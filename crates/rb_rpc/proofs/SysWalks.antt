-- What a machine makes of the body of AUTH_SYS, word by word.
use Rattle.std.proofs.Common.{◌≡◌, ◌<◌, ◌≤◌, ◌+◌, ◌-◌, ◌*◌, ℕ, Bool, true, false, not, cond, eqb, ltb, leb, List, [], ◌∷◌, ◌++◌, length, take, drop, Option, Some, None, Ok, Err, refl, sym, ap, ◌∙◌, arith, inl, inr, length-append}
use Rattle.std.specs.Prelude.{fold, slice_range, ◌&&◌}
use Rattle.std.proofs.lemmas.List.{drop_at}
use Rattle.std.proofs.lemmas.Bool.{lt-ltb, le-ltb, lt-leb, le-leb, eqb-true, eqb-false, cond-true, cond-false}
use Rattle.std.proofs.lemmas.Bool.Decides.{nat_tests}
use Rattle.rb_xdr.specs.Xdr.{AreNumbers, IsNumber, Reading, Reader, ◌>>=◌, read_on, behind, refuse, number, words, residue, are_zero, read_number, read_content, read_opaque}
use Rattle.rb_xdr.specs.declared.fault.XdrFault.{XdrFault}
use Rattle.rb_xdr.specs.declared.fault.XdrFault.TheVariants.{Short, TooLong, BadPadding}
use Rattle.rb_xdr.proofs.Words.{length-number}
use Rattle.rb_xdr.proofs.Readers.{number_complete}
use Rattle.rb_rpc.specs.Messages.{SysBody, max_machine, max_gids, body_of_sys, uid_of}
use Rattle.rb_rpc.specs.declared.sys_fields.SysField.TheVariants as fields
use Rattle.rb_rpc.specs.SysFields.{SysField, name_before, name_after, gids_before, field_after}
use Rattle.rb_rpc.proofs.Auths.{after_stamp, after_machine, after_uid, after_gid}
use Rattle.rb_rpc.proofs.SysBodies.{begins, next_field, no_field, ends, gids_there, no_gids}
use Rattle.rb_rpc.proofs.Numbers.{length-words}
use Rattle.rb_rpc.proofs.ContentWalks.{Walks, Walked, walked, one_in_front, drop_word, stays_bad}

abbrev pub uid_there : SysField → Option ℕ
uid_there fields.Stamp = None
uid_there fields.NameLength = None
uid_there (fields.Name left) = None
uid_there fields.Uid = None
uid_there (fields.Gid uid) = None
uid_there (fields.GidCount uid) = None
uid_there (fields.Gids uid left) = None
uid_there (fields.Whole uid) = Some uid
uid_there fields.Unreadable = None

-- ---- one field in front

number_there : (w : ℕ) (ws p : List ℕ) → IsNumber w → read_number (words (w ∷ ws) ++ p) ≡ Ok (w, 4)
number_there w ws p fits =
    ap (λ (xs : List ℕ). read_number xs) (one_in_front w ws p) ∙ number_complete w (words ws ++ p) fits ∙ ap (λ (n : ℕ). Ok (w, n)) (length-number w)

behind_number : (w : ℕ) (ws p : List ℕ) → words ws ++ p ≡ drop 4 (words (w ∷ ws) ++ p)
behind_number w ws p = sym (ap (λ (xs : List ℕ). drop 4 xs) (one_in_front w ws p) ∙ drop_at (number w) (words ws ++ p) 4 (length-number w))

no_number : (p : List ℕ) → length p < 4 → read_number p ≡ Err Short
unfolding read_number
no_number p few = cond-true _ _ _ (lt-ltb (length p) 4 few)

field : (next : ℕ → Reader SysBody) (w : ℕ) (ws p : List ℕ) → IsNumber w → uid_of ((read_number >>= next) (words (w ∷ ws) ++ p)) ≡ uid_of (next w (words ws ++ p))
field next w ws p fits = next_field read_number next (words (w ∷ ws) ++ p) (words ws ++ p) w 4 (sym (number_there w ws p fits)) (behind_number w ws p)

field_cut : (next : ℕ → Reader SysBody) (p : List ℕ) → length p < 4 → uid_of ((read_number >>= next) p) ≡ None
field_cut next p few = no_field read_number next p Short (sym (no_number p few))

-- ---- the gids

same_test : (a b c d : ℕ) → (a ≤ b → c ≤ d) → (c ≤ d → a ≤ b) → leb a b ≡ leb c d
same_test a b c d there back = grind (arith, nat_tests)

size_more : (w : ℕ) (ws p : List ℕ) → length (words (w ∷ ws) ++ p) ≡ 4 + length (words ws ++ p)
size_more w ws p = omega (arith, length-append (words (w ∷ ws)) p, length-append (words ws) p, length-words (w ∷ ws), length-words ws)

none_left : (u c : ℕ) → c ≡ 0 → gids_before u c ≡ fields.Whole u
unfolding gids_before
none_left u c e = rw e refl

some_left : (u c : ℕ) → (c ≡ 0 → ⊥) → gids_before u c ≡ fields.Gids u c
unfolding gids_before
some_left u c differs = by_test (eqb c 0) refl
  where
    by_test : (t : Bool) → eqb c 0 ≡ t → cond (eqb c 0) (fields.Whole u) (fields.Gids u c) ≡ fields.Gids u c
    by_test true e = absurd (differs (eqb-true _ _ e))
    by_test false e = cond-false _ _ _ e

stays_read : (u : ℕ) (ws : List ℕ) → fold field_after (fields.Whole u) ws ≡ fields.Whole u
unfolding field_after
stays_read u ws = stays_bad field_after (fields.Whole u) (λ w. refl) ws

stays_unreadable : (ws : List ℕ) → fold field_after fields.Unreadable ws ≡ fields.Unreadable
unfolding field_after
stays_unreadable ws = stays_bad field_after fields.Unreadable (λ w. refl) ws

gids_walked : (u : ℕ) (ws p : List ℕ) (c : ℕ) → length p < 4 → uid_there (fold field_after (gids_before u c) ws) ≡ cond (leb (4 * c) (length (words ws ++ p))) (Some u) None
unfolding field_after
gids_walked u [] p c few = by_test (eqb c 0) refl
  where
    by_test : (t : Bool) → eqb c 0 ≡ t → uid_there (gids_before u c) ≡ cond (leb (4 * c) (length p)) (Some u) None
    by_test true e = ap uid_there (none_left u c (eqb-true _ _ e)) ∙ sym (cond-true _ _ _ (le-leb (4 * c) (length p) (omega (arith, eqb-true _ _ e))))
    by_test false e = ap uid_there (some_left u c (eqb-false _ _ e)) ∙ sym (cond-false _ _ _ (lt-leb (4 * c) (length p) (above c (eqb-false _ _ e))))
      where
        above : (k : ℕ) → (k ≡ 0 → ⊥) → length p < 4 * k
        above k differs = omega (arith, few, differs)
gids_walked u (w ∷ ws) p c few = by_test (eqb c 0) refl (gids_walked u ws p (c - 1) few)
  where
    above : (k : ℕ) → (k ≡ 0 → ⊥) → leb (4 * (k - 1)) (length (words ws ++ p)) ≡ leb (4 * k) (length (words (w ∷ ws) ++ p))
    above k differs = same_test _ _ _ _ (λ h. omega (arith, h, differs, size_more w ws p)) (λ h. omega (arith, h, differs, size_more w ws p))

    by_test : (t : Bool) → eqb c 0 ≡ t → uid_there (fold field_after (gids_before u (c - 1)) ws) ≡ cond (leb (4 * (c - 1)) (length (words ws ++ p))) (Some u) None
        → uid_there (fold field_after (gids_before u c) (w ∷ ws)) ≡ cond (leb (4 * c) (length (words (w ∷ ws) ++ p))) (Some u) None
    by_test true e later =
        ap (λ s. uid_there (fold field_after s (w ∷ ws))) (none_left u c (eqb-true _ _ e)) ∙ ap uid_there (stays_read u (w ∷ ws))
        ∙ sym (cond-true _ _ _ (le-leb (4 * c) (length (words (w ∷ ws) ++ p)) (omega (arith, eqb-true _ _ e))))
    by_test false e later =
        ap (λ s. uid_there (fold field_after s (w ∷ ws))) (some_left u c (eqb-false _ _ e)) ∙ later
        ∙ ap (λ (t : Bool). cond t (Some u) None) (above c (eqb-false _ _ e))

from_count : (s : ℕ) (m : List ℕ) (u g : ℕ) (ws p : List ℕ) → AreNumbers ws → length p < 4 → uid_of (after_gid s m u g (words ws ++ p)) ≡ uid_there (fold field_after (fields.GidCount u) ws)
unfolding field_after
from_count s m u g [] p fit few = ends s m u g p ∙ ap (λ (t : Bool). cond t (Some u) None) (no_gids p Short (sym (no_number p few)))
from_count s m u g (c ∷ ws) p fit few =
    ends s m u g (words (c ∷ ws) ++ p)
    ∙ ap (λ (t : Bool). cond t (Some u) None) (gids_there (words (c ∷ ws) ++ p) c 4 (omega (arith, size_more c ws p)) (sym (number_there c ws p fit.0)))
    ∙ by_test (ltb max_gids c)
  where
    left_is : length (words (c ∷ ws) ++ p) - 4 ≡ length (words ws ++ p)
    left_is = omega (arith, size_more c ws p)

    by_test : (t : Bool) → cond (not t && leb (4 * c) (length (words (c ∷ ws) ++ p) - 4)) (Some u) None ≡ uid_there (fold field_after (cond t fields.Unreadable (gids_before u c)) ws)
    by_test true = sym (ap uid_there (stays_unreadable ws))
    by_test false = ap (λ (n : ℕ). cond (leb (4 * c) n) (Some u) None) left_is ∙ sym (gids_walked u ws p c few)

-- ---- uid and gid

from_gid : (s : ℕ) (m : List ℕ) (u : ℕ) (ws p : List ℕ) → AreNumbers ws → length p < 4 → uid_of (after_uid s m u (words ws ++ p)) ≡ uid_there (fold field_after (fields.Gid u) ws)
unfolding field_after
from_gid s m u [] p fit few = field_cut (after_gid s m u) p few
from_gid s m u (g ∷ ws) p fit few = field (after_gid s m u) g ws p fit.0 ∙ from_count s m u g ws p fit.1 few

from_uid : (s : ℕ) (m : List ℕ) (ws p : List ℕ) → AreNumbers ws → length p < 4 → uid_of (after_machine s m (words ws ++ p)) ≡ uid_there (fold field_after fields.Uid ws)
unfolding field_after
from_uid s m [] p fit few = field_cut (after_uid s m) p few
from_uid s m (u ∷ ws) p fit few = field (after_uid s m) u ws p fit.0 ∙ from_gid s m u ws p fit.1 few

-- ---- the machine's name

abbrev pub name_at : ℕ → ℕ → SysField
name_at left a = fields.Name left

abbrev pub unmoved : ℕ → ℕ → ℕ
unmoved a w = a

abbrev pub behind_name : ℕ → SysField
behind_name a = fields.Uid

name_walks : Walks field_after name_at unmoved behind_name fields.Unreadable
unfolding field_after name_after
name_walks = record { goes = λ left a w. refl; stays = λ w. refl }

opaque_cut : (p : List ℕ) → length p < 4 → read_opaque max_machine p ≡ Err Short
unfolding read_opaque
opaque_cut p few = ap (λ (r : Reading ℕ). read_on r (λ count. cond (ltb max_machine count) (refuse TooLong) (read_content count)) p) (no_number p few)

opaque_there : (n : ℕ) (ws p : List ℕ) → IsNumber n → read_opaque max_machine (words (n ∷ ws) ++ p) ≡ behind 4 (cond (ltb max_machine n) (refuse TooLong) (read_content n) (words ws ++ p))
unfolding read_opaque
opaque_there n ws p fits =
    ap (λ (r : Reading ℕ). read_on r (λ count. cond (ltb max_machine count) (refuse TooLong) (read_content count)) (words (n ∷ ws) ++ p)) (number_there n ws p fits)
    ∙ ap (λ (xs : List ℕ). behind 4 (cond (ltb max_machine n) (refuse TooLong) (read_content n) xs)) (sym (behind_number n ws p))

content_cut : (n : ℕ) (b : List ℕ) → length b < n + residue n → read_content n b ≡ Err Short
unfolding read_content
content_cut n b short = cond-true _ _ _ (lt-ltb _ _ short)

content_spoilt : (n : ℕ) (b : List ℕ) → n + residue n ≤ length b → are_zero (slice_range b n (n + residue n)) ≡ false → read_content n b ≡ Err BadPadding
unfolding read_content
content_spoilt n b long zeros = cond-false _ _ _ (le-ltb _ _ long) ∙ cond-false _ _ _ zeros

content_there : (n : ℕ) (b : List ℕ) → n + residue n ≤ length b → are_zero (slice_range b n (n + residue n)) ≡ true → read_content n b ≡ Ok (take n b, n + residue n)
unfolding read_content
content_there n b long zeros = cond-false _ _ _ (le-ltb _ _ long) ∙ cond-true _ _ _ zeros

from_name : (s : ℕ) (ws p : List ℕ) → AreNumbers ws → length p < 4 → uid_of (after_stamp s (words ws ++ p)) ≡ uid_there (fold field_after fields.NameLength ws)
unfolding field_after name_before name_after
from_name s [] p fit few = no_field (read_opaque max_machine) (after_machine s) p Short (sym (opaque_cut p few))
from_name s (n ∷ ws) p fit few = by_limit (ltb max_machine n) refl
  where
    bytes : List ℕ
    bytes = words (n ∷ ws) ++ p

    refused : (d : XdrFault) → read_opaque max_machine (words (n ∷ ws) ++ p) ≡ Err d → uid_of (after_stamp s (words (n ∷ ws) ++ p)) ≡ None
    refused d e = no_field (read_opaque max_machine) (after_machine s) (words (n ∷ ws) ++ p) d (sym e)

    opaque_is : ltb max_machine n ≡ false → read_opaque max_machine (words (n ∷ ws) ++ p) ≡ behind 4 (read_content n (words ws ++ p))
    opaque_is e = opaque_there n ws p fit.0 ∙ ap (λ (t : Bool). behind 4 (cond t (refuse TooLong) (read_content n) (words ws ++ p))) e

    taken : (k : ℕ) (rest : List ℕ) → ltb max_machine n ≡ false → read_content n (words ws ++ p) ≡ Ok (take n (words ws ++ p), k) → drop k (words ws ++ p) ≡ words rest ++ p → AreNumbers rest
        → uid_of (after_stamp s (words (n ∷ ws) ++ p)) ≡ uid_there (fold field_after fields.Uid rest)
    taken k rest e there rest_is fits =
        next_field (read_opaque max_machine) (after_machine s) (words (n ∷ ws) ++ p) (words rest ++ p) (take n (words ws ++ p)) (4 + k)
        (sym (opaque_is e ∙ ap (λ (r : Reading (List ℕ)). behind 4 r) there))
        (sym (ap (λ (xs : List ℕ). drop (4 + k) xs) (one_in_front n ws p) ∙ drop_word k n (words ws ++ p) ∙ rest_is))
        ∙ from_uid s (take n (words ws ++ p)) rest p fits few

    by_walk : ltb max_machine n ≡ false → Walked field_after name_at unmoved behind_name fields.Unreadable n 0 ws p → uid_of (after_stamp s (words (n ∷ ws) ++ p)) ≡ uid_there (fold field_after (fields.Name n) ws)
    by_walk e (inl cut) = refused Short (opaque_is e ∙ ap (λ (r : Reading (List ℕ)). behind 4 r) (content_cut n (words ws ++ p) cut.short)) ∙ sym (ap uid_there cut.runs)
    by_walk e (inr (inl spoilt)) = refused BadPadding (opaque_is e ∙ ap (λ (r : Reading (List ℕ)). behind 4 r) (content_spoilt n (words ws ++ p) spoilt.long spoilt.zeros)) ∙ sym (ap uid_there spoilt.runs)
    by_walk e (inr (inr passed)) =
        taken (n + residue n) passed.rest e (content_there n (words ws ++ p) passed.long passed.zeros) passed.rest_is passed.rest_fits ∙ sym (ap uid_there passed.runs)

    no_name : ltb max_machine n ≡ false → n ≡ 0 → uid_of (after_stamp s (words (n ∷ ws) ++ p)) ≡ uid_there (fold field_after fields.Uid ws)
    no_name e none =
        let nothing : n + residue n ≡ 0 = omega (arith, none) in
        let zeros : are_zero (slice_range (words ws ++ p) n (n + residue n)) ≡ true = rw none refl in
        taken (n + residue n) ws e (content_there n (words ws ++ p) (omega (arith, nothing)) zeros) (ap (λ (k : ℕ). drop k (words ws ++ p)) nothing) fit.1

    above : (k : ℕ) → (k ≡ 0 → ⊥) → 0 < k
    above k differs = omega (arith, differs)

    by_name : (t : Bool) → ltb max_machine n ≡ false → eqb n 0 ≡ t → uid_of (after_stamp s (words (n ∷ ws) ++ p)) ≡ uid_there (fold field_after (cond t fields.Uid (fields.Name n)) ws)
    by_name true e f = no_name e (eqb-true _ _ f)
    by_name false e f = by_walk e (walked field_after name_at unmoved behind_name fields.Unreadable name_walks ws p n 0 (above n (eqb-false _ _ f)) few fit.1)

    by_limit : (t : Bool) → ltb max_machine n ≡ t → uid_of (after_stamp s (words (n ∷ ws) ++ p)) ≡ uid_there (fold field_after (cond t fields.Unreadable (cond (eqb n 0) fields.Uid (fields.Name n))) ws)
    by_limit true e =
        refused TooLong (opaque_there n ws p fit.0 ∙ ap (λ (t : Bool). behind 4 (cond t (refuse TooLong) (read_content n) (words ws ++ p))) e) ∙ sym (ap uid_there (stays_unreadable ws))
    by_limit false e = by_name (eqb n 0) e refl

-- ---- the body

pub sys_read : (ws p : List ℕ) → AreNumbers ws → length p < 4 → uid_of (body_of_sys (words ws ++ p)) ≡ uid_there (fold field_after fields.Stamp ws)
unfolding field_after
sys_read [] p fit few = begins p ∙ field_cut after_stamp p few
sys_read (s ∷ ws) p fit few = begins (words (s ∷ ws) ++ p) ∙ field after_stamp s ws p fit.0 ∙ from_name s ws p fit.1 few
