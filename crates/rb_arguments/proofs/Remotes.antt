-- The bytes that a call to be forwarded was read from have its args.
use Rattle.std.proofs.Common.{◌≡◌, ◌≤◌, ◌+◌, ℕ, Bool, true, false, cond, ltb, List, length, take, drop, Result, Ok, Err, refl, sym, ap, subst, ◌∙◌, arith}
use Rattle.std.proofs.lemmas.List.{length-take, length-drop}
use Rattle.std.proofs.lemmas.Bool.{ltb-false}
use Rattle.rb_xdr.specs.Xdr.{Reader, refuse, number_at, residue, read_number, read_content, read_opaque}
use Rattle.rb_xdr.specs.declared.fault.XdrFault.{XdrFault}
use Rattle.rb_xdr.specs.declared.fault.XdrFault.TheVariants.{Short, TooLong}
use Rattle.rb_xdr.proofs.Readers.{ok_is, bind_ok}
use Rattle.rb_arguments.specs.Forwarded.{longest_forwarded}
use Rattle.rb_arguments.specs.declared.remote.RemoteCall.{RemoteCall}
use Rattle.rb_arguments.specs.Remote.{read_remote, HasContent}

refused : {A : Type 0} (b : Bool) (d : XdrFault) (r : Result A XdrFault) (y : A) → cond b (Err d) r ≡ Ok y → (b ≡ false) × (r ≡ Ok y)
refused true d r y e = absurd cc
refused false d r y e = (refl, e)

passed : {A : Type 0} (b : Bool) (d : XdrFault) (x y : A) → cond b (Ok x) (Err d) ≡ Ok y → x ≡ y
passed true d x y e = ok_is x y e
passed false d x y e = absurd cc

passed_on : {A : Type 0} (b : Bool) (d : XdrFault) (r : Reader A) (bytes : List ℕ) (y : A × ℕ) → (cond b (refuse d) r) bytes ≡ Ok y → (b ≡ false) × (r bytes ≡ Ok y)
passed_on true d r bytes y e = absurd cc
passed_on false d r bytes y e = (refl, e)

number_there : (bytes : List ℕ) (x n : ℕ) → read_number bytes ≡ Ok (x, n) → (n ≡ 4) × (4 ≤ length bytes)
unfolding read_number
number_there bytes x n e =
    let a = refused (ltb (length bytes) 4) Short (Ok (number_at 0 bytes, 4)) (x, n) e in
    (sym (ap (λ (p : ℕ × ℕ). p.1) (ok_is (number_at 0 bytes, 4) (x, n) a.1)), ltb-false _ _ a.0)

content_there : (count : ℕ) (bytes v : List ℕ) (n : ℕ) → read_content count bytes ≡ Ok (v, n) → (length v ≡ count) × (count ≤ length bytes)
unfolding read_content
content_there count bytes v n e =
    let a = refused (ltb (length bytes) (count + residue count)) Short _ (v, n) e in
    let long : count + residue count ≤ length bytes = ltb-false _ _ a.0 in
    let v_is : take count bytes ≡ v = ap (λ (p : List ℕ × ℕ). p.0) (passed _ _ (take count bytes, count + residue count) (v, n) a.1) in
    (sym (ap length v_is) ∙ omega (arith, long, length-take count bytes), omega (arith, long))

opaque_there : (limit : ℕ) (bytes v : List ℕ) (n : ℕ) → read_opaque limit bytes ≡ Ok (v, n) → (length v ≤ limit) × (4 + length v ≤ length bytes)
unfolding read_opaque
opaque_there limit bytes v n e =
    let b = bind_ok read_number (λ count. cond (ltb limit count) (refuse TooLong) (read_content count)) bytes v n e in
    let s = number_there bytes b.x b.used b.was in
    let a = passed_on (ltb limit b.x) TooLong (read_content b.x) (drop b.used bytes) (v, b.more) b.then_was in
    let low : b.x ≤ limit = ltb-false _ _ a.0 in
    let r = content_there b.x (drop b.used bytes) v b.more a.1 in
    (omega (arith, low, r.0), omega (arith, r.0, r.1, s.0, s.1, length-drop b.used bytes))

pub content_is_there : (bytes : List ℕ) (remote : RemoteCall) (n : ℕ) → read_remote bytes ≡ Ok (remote, n) → HasContent remote bytes
unfolding read_remote
content_is_there bytes remote n e =
    let a = bind_ok read_number _ bytes remote n e in
    let vers_at : List ℕ = drop a.used bytes in
    let b = bind_ok read_number _ vers_at remote a.more a.then_was in
    let proc_at : List ℕ = drop b.used vers_at in
    let c = bind_ok read_number _ proc_at remote b.more b.then_was in
    let args_at : List ℕ = drop c.used proc_at in
    let d = bind_ok (read_opaque longest_forwarded) _ args_at remote c.more c.then_was in
    let made : RemoteCall = record { prog = a.x; vers = b.x; proc = c.x; count = length d.x } in
    let same : made ≡ remote = ap (λ (p : RemoteCall × ℕ). p.0) (ok_is (made, 0) (remote, d.more) d.then_was) in
    let p = number_there bytes a.x a.used a.was in
    let q = number_there vers_at b.x b.used b.was in
    let r = number_there proc_at c.x c.used c.was in
    let o = opaque_there longest_forwarded args_at d.x d.used d.was in
    subst (λ (call : RemoteCall). HasContent call bytes) same
    (record {
      few = o.0;
      within = omega (arith, p.0, p.1, q.0, q.1, r.0, r.1, o.1, length-drop a.used bytes, length-drop b.used vers_at, length-drop c.used proc_at);
    })
