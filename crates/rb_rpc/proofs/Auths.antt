-- Credentials and verifiers: at a place, and spelled.
use Rattle.std.proofs.Common.{◌≡◌, ◌<◌, ◌≤◌, ◌+◌, ◌-◌, ◌^◌, ℕ, Bool, true, false, not, ltb, ◌&&◌, ◌||◌, List, ◌++◌, length, take, drop, Some, Ok, Err, refl, sym, ap, subst, ◌∙◌, append_assoc, arith, length-append, inl, inr}
use Rattle.std.specs.Prelude.{replicate, slice_range}
use Rattle.std.proofs.lemmas.List.{drop-drop, length-take, length-drop, take_at, drop_at, length-replicate}
use Rattle.std.proofs.lemmas.Bool.{ltb-false, le-ltb, not-false, and_cases}
use Rattle.rb_xdr.specs.Xdr.{Reading, Reader, ◌>>=◌, give, AreBytes, number, number_at, opaque, array, residue, are_zero, read_number, read_opaque, read_array}
use Rattle.rb_rpc.specs.Messages.{SysBody, auth, max_auth_body, max_machine, max_gids, body_of_sys, uid_of}
use Rattle.rb_rpc.specs.CallBytes.{sys_bytes}
use Rattle.rb_rpc.specs.Verdict.{body_at, body_length, auth_end, is_over_long, is_broken}
use Rattle.rb_rpc.specs.Grammar.{IsAuth, IsSysBody, SaysUid}
use Rattle.rb_xdr.proofs.Words.{AreBytes-drop, AreBytes-take, length-number, number_at-number, number_at-append, number_at_small, split_number}
use Rattle.rb_xdr.proofs.Readers.{ok_is, bind_ok, bind_again, number_sound, number_complete, opaque_is, length-opaque, zeros_there, are_zero-replicate, opaque_sound, opaque_complete, array_sound, array_complete}

-- ---- the body of AUTH_SYS

abbrev pub with_gids : ℕ → List ℕ → ℕ → ℕ → List ℕ → Reader SysBody
with_gids s m u g gs = give (record { stamp = s; machine = m; uid = u; gid = g; gids = gs })

abbrev pub after_gid : ℕ → List ℕ → ℕ → ℕ → Reader SysBody
after_gid s m u g = read_array max_gids >>= with_gids s m u g

abbrev pub after_uid : ℕ → List ℕ → ℕ → Reader SysBody
after_uid s m u = read_number >>= after_gid s m u

abbrev pub after_machine : ℕ → List ℕ → Reader SysBody
after_machine s m = read_number >>= after_uid s m

abbrev pub after_stamp : ℕ → Reader SysBody
after_stamp s = read_opaque max_machine >>= after_machine s

sys_text : (s : ℕ) (m : List ℕ) (u g : ℕ) (gs rest : List ℕ)
    → number s ++ (opaque m ++ (number u ++ (number g ++ (array gs ++ rest)))) ≡ (number s ++ opaque m ++ number u ++ number g ++ array gs) ++ rest
sys_text s m u g gs rest = simp append_assoc refl

five_parts : (body d1 d2 d3 d4 a b c d f rest : List ℕ) → body ≡ a ++ d1 → d1 ≡ b ++ d2 → d2 ≡ c ++ d3 → d3 ≡ d ++ d4 → d4 ≡ f ++ rest → body ≡ a ++ (b ++ (c ++ (d ++ (f ++ rest))))
five_parts body d1 d2 d3 d4 a b c d f rest e1 e2 e3 e4 e5 =
    e1 ∙ ap (λ (xs : List ℕ). a ++ xs) (e2 ∙ ap (λ (xs : List ℕ). b ++ xs) (e3 ∙ ap (λ (xs : List ℕ). c ++ xs) (e4 ∙ ap (λ (xs : List ℕ). d ++ xs) e5)))

sys_sound : (body : List ℕ) (fields : SysBody) (n : ℕ) → AreBytes body → body_of_sys body ≡ Ok (fields, n) → SaysUid fields.uid body
unfolding body_of_sys
sys_sound body fields n are e =
    let a = bind_ok read_number after_stamp body fields n e in
    let d1 = drop a.used body in
    let b = bind_ok (read_opaque max_machine) (after_machine a.x) d1 fields a.more a.then_was in
    let d2 = drop b.used d1 in
    let c = bind_ok read_number (after_uid a.x b.x) d2 fields b.more b.then_was in
    let d3 = drop c.used d2 in
    let d = bind_ok read_number (after_gid a.x b.x c.x) d3 fields c.more c.then_was in
    let d4 = drop d.used d3 in
    let f = bind_ok (read_array max_gids) (with_gids a.x b.x c.x d.x) d4 fields d.more d.then_was in
    let are1 = AreBytes-drop a.used body are in
    let are2 = AreBytes-drop b.used d1 are1 in
    let are3 = AreBytes-drop c.used d2 are2 in
    let are4 = AreBytes-drop d.used d3 are3 in
    let sa = number_sound body a.x a.used are a.was in
    let sb = opaque_sound max_machine d1 b.x b.used are1 b.was in
    let sc = number_sound d2 c.x c.used are2 c.was in
    let sd = number_sound d3 d.x d.used are3 d.was in
    let sf = array_sound max_gids d4 f.x f.used are4 f.was in
    let rest = drop f.used d4 in
    let is : SysBody = record { stamp = a.x; machine = b.x; uid = c.x; gid = d.x; gids = f.x } in
    let fields_is : is ≡ fields = ap (λ (p : SysBody × ℕ). p.0) (ok_is (is, 0) (fields, f.more) f.then_was) in
    let text : body ≡ number a.x ++ (opaque b.x ++ (number c.x ++ (number d.x ++ (array f.x ++ rest)))) =
    five_parts body d1 d2 d3 d4 (number a.x) (opaque b.x) (number c.x) (number d.x) (array f.x) rest sa.2 sb.2 sc.2 sd.2 sf.2 in
    subst (λ (s : SysBody). SaysUid s.uid body) fields_is (record {
      fields = is;
      rest = rest;
      fit = record { stamp = sa.0; machine = sb.0; uid = sc.0; gid = sd.0; gids = sf.1; few_gids = sf.0 };
      uid_is = refl;
      whole = text ∙ sys_text a.x b.x c.x d.x f.x rest;
    })

sys_complete : (fields : SysBody) (rest : List ℕ) → IsSysBody fields → uid_of (body_of_sys (sys_bytes fields ++ rest)) ≡ Some fields.uid
unfolding body_of_sys
sys_complete fields rest fit =
    let s = fields.stamp in let m = fields.machine in let u = fields.uid in let g = fields.gid in let gs = fields.gids in
    let t4 : List ℕ = array gs ++ rest in
    let t3 : List ℕ = number g ++ t4 in
    let t2 : List ℕ = number u ++ t3 in
    let t1 : List ℕ = opaque m ++ t2 in
    let whole : sys_bytes fields ++ rest ≡ number s ++ t1 = sym (sys_text s m u g gs rest) in
    let e4 = bind_again (read_array max_gids) (with_gids s m u g) (array gs) rest gs fields 0 (array_complete max_gids gs rest fit.few_gids (omega (arith, fit.few_gids)) fit.gids) refl in
    let e3 = bind_again read_number (after_gid s m u) (number g) t4 g fields _ (number_complete g t4 fit.gid) e4 in
    let e2 = bind_again read_number (after_uid s m) (number u) t3 u fields _ (number_complete u t3 fit.uid) e3 in
    let e1 = bind_again (read_opaque max_machine) (after_machine s) (opaque m) t2 m fields _ (opaque_complete max_machine m t2 fit.machine) e2 in
    let e0 = bind_again read_number after_stamp (number s) t1 s fields _ (number_complete s t1 fit.stamp) e1 in
    ap (λ (xs : List ℕ). uid_of (body_of_sys xs)) whole ∙ ap uid_of e0

pub sys_there : (body : List ℕ) (uid : ℕ) → AreBytes body → uid_of (body_of_sys body) ≡ Some uid → SaysUid uid body
sys_there body uid are e = by_value (body_of_sys body) refl e
  where
    by_value : (r : Reading SysBody) → body_of_sys body ≡ r → uid_of r ≡ Some uid → SaysUid uid body
    by_value (Ok x) was e =
        let same : x.0.uid ≡ uid = cc in
        subst (λ (u : ℕ). SaysUid u body) same (sys_sound body x.0 x.1 are was)
    by_value (Err d) was e = absurd cc

pub sys_again : (body : List ℕ) (uid : ℕ) → SaysUid uid body → uid_of (body_of_sys body) ≡ Some uid
sys_again body uid s = ap (λ (xs : List ℕ). uid_of (body_of_sys xs)) s.whole ∙ sys_complete s.fields s.rest s.fit ∙ ap (λ (u : ℕ). Some u) s.uid_is

-- ---- at a place

abbrev pub body_of : ℕ → List ℕ → List ℕ
body_of place bytes = take (body_length place bytes) (drop (body_at place) bytes)

pub length-auth : (flavor : ℕ) (body : List ℕ) → length (auth flavor body) ≡ 8 + length body + residue (length body)
length-auth flavor body = omega (arith, length-append (number flavor) (opaque body), length-number flavor, length-opaque body)

pub record AuthThere (place : ℕ) (bytes : List ℕ) : Type 0 where
  pub fits : IsAuth (number_at place bytes) (body_of place bytes)
  pub text : drop place bytes ≡ auth (number_at place bytes) (body_of place bytes) ++ drop (auth_end place bytes) bytes
  pub end_is : auth_end place bytes ≡ place + length (auth (number_at place bytes) (body_of place bytes))
  pub within : auth_end place bytes ≤ length bytes

pub or_parts : (a b : Bool) → (a || b) ≡ false → (a ≡ false) × (b ≡ false)
or_parts true b e = absurd cc
or_parts false b e = (refl, e)

pub or_no : (a b : Bool) → a ≡ false → b ≡ false → (a || b) ≡ false
or_no a b e f = rw (e, f) refl

not_over : (len place n : ℕ) → place + 8 ≤ len → (not (ltb len (place + 8)) && ltb max_auth_body n) ≡ false → n ≤ max_auth_body
not_over len place n long e =
    elim (and_cases (not (ltb len (place + 8))) (ltb max_auth_body n) e) [
      | inl short ↦ absurd (true_false (sym (not-false _ short) ∙ le-ltb len (place + 8) long))
      | inr few ↦ ltb-false _ _ few
    ]
  where
    true_false : true ≡ false → ⊥
    true_false e = cc

pub auth_there : (place : ℕ) (bytes : List ℕ) → AreBytes bytes → is_over_long place bytes ≡ false → is_broken place bytes ≡ false → AuthThere place bytes
unfolding is_over_long is_broken auth_end body_length
auth_there place bytes are not_long not_broken =
    let n : ℕ = number_at (place + 4) bytes in
    let r : ℕ = residue n in
    let parts = or_parts (ltb (length bytes) (place + 8 + n + r)) _ not_broken in
    let within : place + 8 + n + r ≤ length bytes = ltb-false _ _ parts.0 in
    let few : n ≤ max_auth_body = not_over (length bytes) place n (omega (arith, within)) not_long in
    let behind_head : List ℕ = drop (place + 8) bytes in
    let size_a : place + 8 + n + r - (place + 8 + n) ≡ r = omega arith in
    let size_b : n + r - n ≡ r = omega arith in
    let same : slice_range bytes (place + 8 + n) (place + 8 + n + r) ≡ slice_range behind_head n (n + r) =
    ap (λ (k : ℕ). take k (drop (place + 8 + n) bytes)) size_a ∙ ap (λ (xs : List ℕ). take r xs) (sym (drop-drop n (place + 8) bytes)) ∙ ap (λ (k : ℕ). take k (drop n behind_head)) (sym size_b) in
    let zeros : are_zero (slice_range behind_head n (n + r)) ≡ true = ap are_zero (sym same) ∙ not-false _ parts.1 in
    let content : List ℕ = take n behind_head in
    let content_len : length content ≡ n = omega (arith, within, length-take n behind_head, length-drop (place + 8) bytes) in
    let tail : behind_head ≡ content ++ (replicate r 0 ++ drop (n + r) behind_head) = zeros_there n behind_head (omega (arith, within, length-drop (place + 8) bytes)) zeros in
    let left : drop (n + r) behind_head ≡ drop (place + 8 + n + r) bytes = drop-drop (n + r) (place + 8) bytes ∙ ap (λ (k : ℕ). drop k bytes) (omega arith) in
    let rest : List ℕ = drop (place + 8 + n + r) bytes in
    let s0 : drop place bytes ≡ number (number_at place bytes) ++ drop (place + 4) bytes = split_number place bytes are (omega (arith, within)) in
    let s1 : drop (place + 4) bytes ≡ number n ++ behind_head = split_number (place + 4) bytes are (omega (arith, within)) ∙ ap (λ (k : ℕ). number n ++ drop k bytes) (omega arith) in
    let s2 : drop (place + 4) bytes ≡ number n ++ (content ++ (replicate r 0 ++ rest)) = s1 ∙ ap (λ (xs : List ℕ). number n ++ xs) (tail ∙ ap (λ (xs : List ℕ). content ++ (replicate r 0 ++ xs)) left) in
    let s3 : drop (place + 4) bytes ≡ opaque content ++ rest = s2 ∙ ap (λ (c : ℕ). number c ++ (content ++ (replicate (residue c) 0 ++ rest))) (sym content_len) ∙ sym (opaque_is content rest) in
    record {
      fits = record {
        flavor_fits = number_at_small place bytes are;
        body_fits = (omega (arith, content_len, few), omega (arith, content_len, few), AreBytes-take n behind_head (AreBytes-drop (place + 8) bytes are));
      };
      text = s0 ∙ ap (λ (xs : List ℕ). number (number_at place bytes) ++ xs) s3 ∙ sym (append_assoc (number (number_at place bytes)) (opaque content) rest);
      end_is = ap (λ (c : ℕ). place + 8 + c + residue c) (sym content_len) ∙ omega (arith, length-auth (number_at place bytes) content);
      within = within;
    }

-- what the places say of a spelled one
pub record AuthAgain (place flavor : ℕ) (body bytes : List ℕ) : Type 0 where
  pub flavor_is : number_at place bytes ≡ flavor
  pub body_is : body_of place bytes ≡ body
  pub end_is : auth_end place bytes ≡ place + length (auth flavor body)
  pub not_long : is_over_long place bytes ≡ false
  pub not_broken : is_broken place bytes ≡ false

pub auth_again : (front rest : List ℕ) (place flavor : ℕ) (body : List ℕ) → length front ≡ place → IsAuth flavor body → AuthAgain place flavor body (front ++ (auth flavor body ++ rest))
unfolding is_over_long is_broken auth_end body_length
auth_again front rest place flavor body len is =
    let n : ℕ = length body in
    let r : ℕ = residue n in
    let zeros : List ℕ = replicate r 0 in
    let bytes : List ℕ = front ++ (auth flavor body ++ rest) in
    let few : n ≤ max_auth_body = is.body_fits.0 in
    let fits : n < 2 ^ 32 = is.body_fits.1 in
    let t1 : auth flavor body ++ rest ≡ number flavor ++ (number n ++ (body ++ (zeros ++ rest))) = append_assoc (number flavor) (opaque body) rest ∙ ap (λ (xs : List ℕ). number flavor ++ xs) (opaque_is body rest) in
    let whole : bytes ≡ front ++ (number flavor ++ (number n ++ (body ++ (zeros ++ rest)))) = ap (λ (xs : List ℕ). front ++ xs) t1 in
    let flavor_is : number_at place bytes ≡ flavor =
    ap (λ (k : ℕ). number_at k bytes) (omega arith) ∙ number_at-append front (auth flavor body ++ rest) place 0 len ∙ ap (number_at 0) t1 ∙ number_at-number flavor _ is.flavor_fits in
    let count_is : number_at (place + 4) bytes ≡ n =
    number_at-append front (auth flavor body ++ rest) place 4 len ∙ ap (number_at 4) t1 ∙ number_at-append (number flavor) (number n ++ (body ++ (zeros ++ rest))) 4 0 (length-number flavor) ∙ number_at-number n _ fits in
    let head : List ℕ = front ++ (number flavor ++ number n) in
    let head_len : length head ≡ place + 8 = omega (arith, len, length-append front (number flavor ++ number n), length-append (number flavor) (number n), length-number flavor, length-number n) in
    let by_head : bytes ≡ head ++ (body ++ (zeros ++ rest)) = whole ∙ simp append_assoc refl in
    let behind_head : drop (place + 8) bytes ≡ body ++ (zeros ++ rest) = ap (λ (xs : List ℕ). drop (place + 8) xs) by_head ∙ drop_at head (body ++ (zeros ++ rest)) (place + 8) head_len in
    let behind_body : drop (place + 8 + n) bytes ≡ zeros ++ rest = sym (drop-drop n (place + 8) bytes) ∙ ap (λ (xs : List ℕ). drop n xs) behind_head ∙ drop_at body (zeros ++ rest) n refl in
    let size : place + 8 + n + r - (place + 8 + n) ≡ r = omega arith in
    let padding : slice_range bytes (place + 8 + n) (place + 8 + n + r) ≡ zeros = ap (λ (k : ℕ). take k (drop (place + 8 + n) bytes)) size ∙ ap (λ (xs : List ℕ). take r xs) behind_body ∙ take_at zeros rest r (length-replicate {A = ℕ} r 0) in
    let total : place + 8 + n + r ≤ length bytes = omega (arith, ap length by_head, head_len, length-append head (body ++ (zeros ++ rest)), length-append body (zeros ++ rest), length-append zeros rest, length-replicate {A = ℕ} r 0) in
    let long : ltb (length bytes) (place + 8 + n + r) ≡ false = le-ltb _ _ total in
    let under : ltb max_auth_body n ≡ false = le-ltb _ _ few in
    record {
      flavor_is = flavor_is;
      body_is = ap (λ (k : ℕ). take k (drop (place + 8) bytes)) count_is ∙ ap (λ (xs : List ℕ). take n xs) behind_head ∙ take_at body (zeros ++ rest) n refl;
      end_is = ap (λ (c : ℕ). place + 8 + c + residue c) count_is ∙ omega (arith, length-auth flavor body);
      not_long = ap (λ (c : ℕ). not (ltb (length bytes) (place + 8)) && ltb max_auth_body c) count_is ∙ ap (λ (b : Bool). not (ltb (length bytes) (place + 8)) && b) under ∙ and_no (not (ltb (length bytes) (place + 8)));
      not_broken =
          ap (λ (c : ℕ). ltb (length bytes) (place + 8 + c + residue c) || not (are_zero (slice_range bytes (place + 8 + c) (place + 8 + c + residue c)))) count_is
          ∙ ap (λ (b : Bool). b || not (are_zero (slice_range bytes (place + 8 + n) (place + 8 + n + r)))) long
          ∙ ap (λ (xs : List ℕ). not (are_zero xs)) padding ∙ ap not (are_zero-replicate r);
    }
  where
    and_no : (b : Bool) → (b && false) ≡ false
    and_no true = refl
    and_no false = refl
