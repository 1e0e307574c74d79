-- The types are read as they are spelled.
use Rattle.std.proofs.Common.{◌≡◌, ℕ, ◌+◌, ◌-◌, List, ◌++◌, length, drop, refl, sym, ap, subst, ◌∙◌, append_assoc, length-append, arith, Ok, Some}
use Rattle.std.specs.Prelude.{replicate, slice_range}
use Rattle.std.proofs.lemmas.List.{drop_at, take_at}
use Rattle.rb_xdr.specs.Xdr.{Reader, Reading, ◌>>=◌, give, residue, IsNumber, IsContent, AreBytes, number, opaque, read_number, read_opaque}
use Rattle.rb_xdr.specs.XdrLaws.{IsSound, IsComplete, IsBounded}
use Rattle.rb_xdr.proofs.Words.{AreBytes-drop, length-number}
use Rattle.rb_xdr.proofs.Readers.{ok_is, bind_ok, bind_again, opaque_is, number_sound, number_complete, opaque_sound, opaque_complete}
use Rattle.rb_xdr.proofs.Types.{number_bounded, opaque_bounded}
use Rattle.rb_xdr.specs.Forms.{HasForm}
use Rattle.rb_xdr.specs.Forms.Form.{Number, Content, Then}
use Rattle.rb_xdr.proofs.FormLaws.{then_form, given_form}
use Rattle.rb_arguments.specs.declared.mapping.Mapping.{Mapping}
use Rattle.rb_arguments.specs.declared.rpcb.Rpcb.{Rpcb}
use Rattle.rb_arguments.specs.declared.netbuf.Netbuf.{Netbuf}
use Rattle.rb_arguments.specs.declared.entry.Entry.{Entry}
use Rattle.rb_arguments.specs.Forwarded.{longest_forwarded}
use Rattle.rb_arguments.specs.declared.remote.RemoteCall.{RemoteCall}
use Rattle.rb_arguments.specs.Arguments.{value_of, front}
use Rattle.rb_arguments.specs.Remote.{read_remote, args_of, SpellsRemote}
use Rattle.rb_arguments.specs.Types.{IsMapping, mapping_spelling, max_mapping, mapping_form, read_mapping, IsRpcb, rpcb_spelling, max_rpcb, rpcb_form, read_rpcb, IsNetbuf, netbuf_spelling, max_netbuf, netbuf_form, read_netbuf, IsEntry, entry_spelling, max_entry, entry_form, read_entry}

-- ---- one field after another

-- the first field was read, and what follows it is read next
record Step {A B : Type 0} (is_value : A → Type 0) (spelling : A → List ℕ) (next : A → Reader B) (bytes : List ℕ) (y : B) (n : ℕ) : Type 0 where
  x : A
  fits : is_value x
  rest : List ℕ
  are : AreBytes rest
  more : ℕ
  was : next x rest ≡ Ok (y, more)
  whole : bytes ≡ spelling x ++ rest
  size : length (spelling x) + more ≡ n

step : {A B : Type 0} (is_value : A → Type 0) (spelling : A → List ℕ) (first : Reader A) → IsSound is_value spelling first → (next : A → Reader B) (bytes : List ℕ) (y : B) (n : ℕ)
    → AreBytes bytes → (first >>= next) bytes ≡ Ok (y, n) → Step is_value spelling next bytes y n
step is_value spelling first sound next bytes y n are e =
    let b = bind_ok first next bytes y n e in
    let s = sound bytes b.x b.used are b.was in
    record { x = b.x; fits = s.0; rest = drop b.used bytes; are = AreBytes-drop b.used bytes are; more = b.more; was = b.then_was; whole = s.2; size = omega (arith, b.sum, s.1) }

-- all fields were read
record End {A : Type 0} (x y : A) (more : ℕ) : Type 0 where
  same : x ≡ y
  none : 0 ≡ more

ends : {A : Type 0} (x y : A) (rest : List ℕ) (more : ℕ) → (give x) rest ≡ Ok (y, more) → End x y more
ends x y rest more e =
    let both = ok_is (x, 0) (y, more) e in
    record { same = ap (λ p. p.0) both; none = ap (λ p. p.1) both }

module _ {B : Type 0} where
  number_first : (next : ℕ → Reader B) (bytes : List ℕ) (y : B) (n : ℕ) → AreBytes bytes → (read_number >>= next) bytes ≡ Ok (y, n) → Step IsNumber number next bytes y n
  number_first = step IsNumber number read_number number_sound

  opaque_first : (limit : ℕ) (next : List ℕ → Reader B) (bytes : List ℕ) (y : B) (n : ℕ) → AreBytes bytes → (read_opaque limit >>= next) bytes ≡ Ok (y, n) → Step (IsContent limit) opaque next bytes y n
  opaque_first limit = step (IsContent limit) opaque (read_opaque limit) (opaque_sound limit)

  number_again : (next : ℕ → Reader B) (x : ℕ) (rest : List ℕ) (y : B) (k : ℕ) → IsNumber x → next x rest ≡ Ok (y, k) → (read_number >>= next) (number x ++ rest) ≡ Ok (y, length (number x) + k)
  number_again next x rest y k fits = bind_again read_number next (number x) rest x y k (number_complete x rest fits)

  opaque_again : (limit : ℕ) (next : List ℕ → Reader B) (x : List ℕ) (rest : List ℕ) (y : B) (k : ℕ) → IsContent limit x → next x rest ≡ Ok (y, k) → (read_opaque limit >>= next) (opaque x ++ rest) ≡ Ok (y, length (opaque x) + k)
  opaque_again limit next x rest y k fits = bind_again (read_opaque limit) next (opaque x) rest x y k (opaque_complete limit x rest fits)

-- what is after this many bytes of a spelling
left_over : (bytes text rest : List ℕ) (n : ℕ) → bytes ≡ text ++ rest → length text ≡ n → bytes ≡ text ++ drop n bytes
left_over bytes text rest n whole size =
    whole ∙ ap (λ (xs : List ℕ). text ++ xs) (sym (drop_at text rest n size) ∙ ap (drop n) (sym whole))

-- ---- parts in a row

two_in_row : (a b rest : List ℕ) → (a ++ b) ++ rest ≡ a ++ (b ++ rest)
two_in_row a b rest = append_assoc a b rest

four_in_row : (a b c d rest : List ℕ) → (a ++ (b ++ (c ++ d))) ++ rest ≡ a ++ (b ++ (c ++ (d ++ rest)))
four_in_row a b c d rest = simp append_assoc

five_in_row : (a b c d e rest : List ℕ) → (a ++ (b ++ (c ++ (d ++ e)))) ++ rest ≡ a ++ (b ++ (c ++ (d ++ (e ++ rest))))
five_in_row a b c d e rest = simp append_assoc

length_of_two : (a b : List ℕ) → length (a ++ b) ≡ length a + length b
length_of_two a b = length-append a b

length_of_four : (a b c d : List ℕ) → length (a ++ (b ++ (c ++ d))) ≡ length a + (length b + (length c + length d))
length_of_four a b c d = omega (arith, length-append a (b ++ (c ++ d)), length-append b (c ++ d), length-append c d)

length_of_five : (a b c d e : List ℕ) → length (a ++ (b ++ (c ++ (d ++ e)))) ≡ length a + (length b + (length c + (length d + length e)))
length_of_five a b c d e = omega (arith, length-append a (b ++ (c ++ (d ++ e))), length_of_four b c d e)

-- the equation of a whole from those of its parts
joined : (text rest bytes left : List ℕ) → bytes ≡ text ++ rest → rest ≡ left → bytes ≡ text ++ left
joined text rest bytes left whole same = whole ∙ ap (λ (xs : List ℕ). text ++ xs) same

-- ---- mapping

pub mapping_sound : IsSound IsMapping mapping_spelling read_mapping
unfolding read_mapping
mapping_sound bytes m n are e =
    let a = number_first _ bytes m n are e in
    let b = number_first _ a.rest m a.more a.are a.was in
    let c = number_first _ b.rest m b.more b.are b.was in
    let d = number_first _ c.rest m c.more c.are c.was in
    let made : Mapping = record { prog = a.x; vers = b.x; prot = c.x; port = d.x } in
    let z = ends made m d.rest d.more d.was in
    let size : length (mapping_spelling made) ≡ n =
    length_of_four (number a.x) (number b.x) (number c.x) (number d.x) ∙ omega (arith, a.size, b.size, c.size, d.size, z.none) in
    let whole : bytes ≡ mapping_spelling made ++ d.rest =
    joined (number a.x) a.rest bytes _ a.whole (joined (number b.x) b.rest a.rest _ b.whole (joined (number c.x) c.rest b.rest _ c.whole d.whole))
    ∙ sym (four_in_row (number a.x) (number b.x) (number c.x) (number d.x) d.rest) in
    subst (λ (v : Mapping). IsMapping v × (n ≡ length (mapping_spelling v)) × (bytes ≡ mapping_spelling v ++ drop n bytes)) z.same
    (record { prog = a.fits; vers = b.fits; prot = c.fits; port = d.fits }, sym size, left_over bytes (mapping_spelling made) d.rest n whole size)

pub mapping_complete : IsComplete IsMapping mapping_spelling read_mapping
unfolding read_mapping
mapping_complete m rest is =
    ap read_mapping (four_in_row (number m.prog) (number m.vers) (number m.prot) (number m.port) rest)
    ∙ number_again _ m.prog _ m _ is.prog (number_again _ m.vers _ m _ is.vers (number_again _ m.prot _ m _ is.prot (number_again _ m.port rest m 0 is.port refl)))
    ∙ ap (λ (k : ℕ). Ok (m, k)) (omega (arith, length_of_four (number m.prog) (number m.vers) (number m.prot) (number m.port)))

pub mapping_bounded : IsBounded IsMapping mapping_spelling max_mapping
mapping_bounded m is =
    omega (arith, length_of_four (number m.prog) (number m.vers) (number m.prot) (number m.port), number_bounded m.prog is.prog, number_bounded m.vers is.vers, number_bounded m.prot is.prot, number_bounded m.port is.port)

-- ---- rpcb

pub rpcb_sound : IsSound IsRpcb rpcb_spelling read_rpcb
unfolding read_rpcb
rpcb_sound bytes v n are e =
    let a = number_first _ bytes v n are e in
    let b = number_first _ a.rest v a.more a.are a.was in
    let c = opaque_first 32 _ b.rest v b.more b.are b.was in
    let d = opaque_first 128 _ c.rest v c.more c.are c.was in
    let f = opaque_first 128 _ d.rest v d.more d.are d.was in
    let made : Rpcb = record { prog = a.x; vers = b.x; netid = c.x; addr = d.x; owner = f.x } in
    let z = ends made v f.rest f.more f.was in
    let size : length (rpcb_spelling made) ≡ n =
    length_of_five (number a.x) (number b.x) (opaque c.x) (opaque d.x) (opaque f.x) ∙ omega (arith, a.size, b.size, c.size, d.size, f.size, z.none) in
    let whole : bytes ≡ rpcb_spelling made ++ f.rest =
    joined (number a.x) a.rest bytes _ a.whole (joined (number b.x) b.rest a.rest _ b.whole (joined (opaque c.x) c.rest b.rest _ c.whole (joined (opaque d.x) d.rest c.rest _ d.whole f.whole)))
    ∙ sym (five_in_row (number a.x) (number b.x) (opaque c.x) (opaque d.x) (opaque f.x) f.rest) in
    subst (λ (v : Rpcb). IsRpcb v × (n ≡ length (rpcb_spelling v)) × (bytes ≡ rpcb_spelling v ++ drop n bytes)) z.same
    (record { prog = a.fits; vers = b.fits; netid = c.fits; addr = d.fits; owner = f.fits }, sym size, left_over bytes (rpcb_spelling made) f.rest n whole size)

pub rpcb_complete : IsComplete IsRpcb rpcb_spelling read_rpcb
unfolding read_rpcb
rpcb_complete v rest is =
    ap read_rpcb (five_in_row (number v.prog) (number v.vers) (opaque v.netid) (opaque v.addr) (opaque v.owner) rest)
    ∙ number_again _ v.prog _ v _ is.prog (number_again _ v.vers _ v _ is.vers (opaque_again 32 _ v.netid _ v _ is.netid (opaque_again 128 _ v.addr _ v _ is.addr (opaque_again 128 _ v.owner rest v 0 is.owner refl))))
    ∙ ap (λ (k : ℕ). Ok (v, k)) (omega (arith, length_of_five (number v.prog) (number v.vers) (opaque v.netid) (opaque v.addr) (opaque v.owner)))

pub rpcb_bounded : IsBounded IsRpcb rpcb_spelling max_rpcb
rpcb_bounded v is =
    omega (arith, length_of_five (number v.prog) (number v.vers) (opaque v.netid) (opaque v.addr) (opaque v.owner), number_bounded v.prog is.prog, number_bounded v.vers is.vers, opaque_bounded 32 v.netid is.netid, opaque_bounded 128 v.addr is.addr, opaque_bounded 128 v.owner is.owner)

-- ---- netbuf

pub netbuf_sound : IsSound IsNetbuf netbuf_spelling read_netbuf
unfolding read_netbuf
netbuf_sound bytes v n are e =
    let a = number_first _ bytes v n are e in
    let b = opaque_first 128 _ a.rest v a.more a.are a.was in
    let made : Netbuf = record { maxlen = a.x; buf = b.x } in
    let z = ends made v b.rest b.more b.was in
    let size : length (netbuf_spelling made) ≡ n = length_of_two (number a.x) (opaque b.x) ∙ omega (arith, a.size, b.size, z.none) in
    let whole : bytes ≡ netbuf_spelling made ++ b.rest =
    joined (number a.x) a.rest bytes _ a.whole b.whole ∙ sym (two_in_row (number a.x) (opaque b.x) b.rest) in
    subst (λ (v : Netbuf). IsNetbuf v × (n ≡ length (netbuf_spelling v)) × (bytes ≡ netbuf_spelling v ++ drop n bytes)) z.same
    (record { maxlen = a.fits; buf = b.fits }, sym size, left_over bytes (netbuf_spelling made) b.rest n whole size)

pub netbuf_complete : IsComplete IsNetbuf netbuf_spelling read_netbuf
unfolding read_netbuf
netbuf_complete v rest is =
    ap read_netbuf (two_in_row (number v.maxlen) (opaque v.buf) rest)
    ∙ number_again _ v.maxlen _ v _ is.maxlen (opaque_again 128 _ v.buf rest v 0 is.buf refl)
    ∙ ap (λ (k : ℕ). Ok (v, k)) (omega (arith, length_of_two (number v.maxlen) (opaque v.buf)))

pub netbuf_bounded : IsBounded IsNetbuf netbuf_spelling max_netbuf
netbuf_bounded v is =
    omega (arith, length_of_two (number v.maxlen) (opaque v.buf), number_bounded v.maxlen is.maxlen, opaque_bounded 128 v.buf is.buf)

-- ---- rpcb_entry

pub entry_sound : IsSound IsEntry entry_spelling read_entry
unfolding read_entry
entry_sound bytes v n are e =
    let a = opaque_first 128 _ bytes v n are e in
    let b = opaque_first 32 _ a.rest v a.more a.are a.was in
    let c = number_first _ b.rest v b.more b.are b.was in
    let d = opaque_first 32 _ c.rest v c.more c.are c.was in
    let f = opaque_first 32 _ d.rest v d.more d.are d.was in
    let made : Entry = record { maddr = a.x; netid = b.x; semantics = c.x; protofmly = d.x; proto = f.x } in
    let z = ends made v f.rest f.more f.was in
    let size : length (entry_spelling made) ≡ n =
    length_of_five (opaque a.x) (opaque b.x) (number c.x) (opaque d.x) (opaque f.x) ∙ omega (arith, a.size, b.size, c.size, d.size, f.size, z.none) in
    let whole : bytes ≡ entry_spelling made ++ f.rest =
    joined (opaque a.x) a.rest bytes _ a.whole (joined (opaque b.x) b.rest a.rest _ b.whole (joined (number c.x) c.rest b.rest _ c.whole (joined (opaque d.x) d.rest c.rest _ d.whole f.whole)))
    ∙ sym (five_in_row (opaque a.x) (opaque b.x) (number c.x) (opaque d.x) (opaque f.x) f.rest) in
    subst (λ (v : Entry). IsEntry v × (n ≡ length (entry_spelling v)) × (bytes ≡ entry_spelling v ++ drop n bytes)) z.same
    (record { maddr = a.fits; netid = b.fits; semantics = c.fits; protofmly = d.fits; proto = f.fits }, sym size, left_over bytes (entry_spelling made) f.rest n whole size)

pub entry_complete : IsComplete IsEntry entry_spelling read_entry
unfolding read_entry
entry_complete v rest is =
    ap read_entry (five_in_row (opaque v.maddr) (opaque v.netid) (number v.semantics) (opaque v.protofmly) (opaque v.proto) rest)
    ∙ opaque_again 128 _ v.maddr _ v _ is.maddr (opaque_again 32 _ v.netid _ v _ is.netid (number_again _ v.semantics _ v _ is.semantics (opaque_again 32 _ v.protofmly _ v _ is.protofmly (opaque_again 32 _ v.proto rest v 0 is.proto refl))))
    ∙ ap (λ (k : ℕ). Ok (v, k)) (omega (arith, length_of_five (opaque v.maddr) (opaque v.netid) (number v.semantics) (opaque v.protofmly) (opaque v.proto)))

pub entry_bounded : IsBounded IsEntry entry_spelling max_entry
entry_bounded v is =
    omega (arith, length_of_five (opaque v.maddr) (opaque v.netid) (number v.semantics) (opaque v.protofmly) (opaque v.proto), opaque_bounded 128 v.maddr is.maddr, opaque_bounded 32 v.netid is.netid, number_bounded v.semantics is.semantics, opaque_bounded 32 v.protofmly is.protofmly, opaque_bounded 32 v.proto is.proto)

pub mapping_has_form : HasForm mapping_form read_mapping
unfolding read_mapping
mapping_has_form = then_form read_number Number _ (Then Number (Then Number Number)) (λ bytes. refl) (λ prog. then_form read_number Number _ (Then Number Number) (λ bytes. refl) (λ vers. then_form read_number Number _ Number (λ bytes. refl) (λ prot. given_form read_number Number (λ port. record { prog = prog; vers = vers; prot = prot; port = port }) (λ bytes. refl))))

pub rpcb_has_form : HasForm rpcb_form read_rpcb
unfolding read_rpcb
rpcb_has_form = then_form read_number Number _ (Then Number (Then (Content 32) (Then (Content 128) (Content 128)))) (λ bytes. refl) (λ prog. then_form read_number Number _ (Then (Content 32) (Then (Content 128) (Content 128))) (λ bytes. refl) (λ vers. then_form (read_opaque 32) (Content 32) _ (Then (Content 128) (Content 128)) (λ bytes. refl) (λ netid. then_form (read_opaque 128) (Content 128) _ (Content 128) (λ bytes. refl) (λ addr. given_form (read_opaque 128) (Content 128) (λ owner. record { prog = prog; vers = vers; netid = netid; addr = addr; owner = owner }) (λ bytes. refl)))))

pub netbuf_has_form : HasForm netbuf_form read_netbuf
unfolding read_netbuf
netbuf_has_form = then_form read_number Number _ (Content 128) (λ bytes. refl) (λ maxlen. given_form (read_opaque 128) (Content 128) (λ buf. record { maxlen = maxlen; buf = buf }) (λ bytes. refl))

pub entry_has_form : HasForm entry_form read_entry
unfolding read_entry
entry_has_form = then_form (read_opaque 128) (Content 128) _ (Then (Content 32) (Then Number (Then (Content 32) (Content 32)))) (λ bytes. refl) (λ maddr. then_form (read_opaque 32) (Content 32) _ (Then Number (Then (Content 32) (Content 32))) (λ bytes. refl) (λ netid. then_form read_number Number _ (Then (Content 32) (Content 32)) (λ bytes. refl) (λ semantics. then_form (read_opaque 32) (Content 32) _ (Content 32) (λ bytes. refl) (λ protofmly. given_form (read_opaque 32) (Content 32) (λ proto. record { maddr = maddr; netid = netid; semantics = semantics; protofmly = protofmly; proto = proto }) (λ bytes. refl)))))

-- ---- a call that must be forwarded

-- the content of args stands after 16 bytes
content_in : (a b c : ℕ) (content rest : List ℕ)
    → slice_range (number a ++ (number b ++ (number c ++ (opaque content ++ rest)))) 16 (16 + length content) ≡ content
content_in a b c content rest =
    let n = length content in
    let front : List ℕ = number a ++ (number b ++ (number c ++ number n)) in
    let tail : List ℕ = replicate (residue n) 0 ++ rest in
    let count : 16 + n - 16 ≡ n = omega arith in
    let size : length front ≡ 16 =
    length_of_four (number a) (number b) (number c) (number n) ∙ omega (arith, length-number a, length-number b, length-number c, length-number n) in
    ap (λ (xs : List ℕ). slice_range (number a ++ (number b ++ (number c ++ xs))) 16 (16 + n)) (opaque_is content rest)
    ∙ ap (λ (xs : List ℕ). slice_range xs 16 (16 + n)) (sym (four_in_row (number a) (number b) (number c) (number n) (content ++ tail)))
    ∙ rw (count, drop_at front (content ++ tail) 16 size, take_at content tail n refl) refl

pub remote_spelled : (bytes : List ℕ) (remote : RemoteCall) (n : ℕ) → AreBytes bytes → read_remote bytes ≡ Ok (remote, n) → SpellsRemote remote bytes
unfolding read_remote
remote_spelled bytes remote n are e =
    let a = number_first _ bytes remote n are e in
    let b = number_first _ a.rest remote a.more a.are a.was in
    let c = number_first _ b.rest remote b.more b.are b.was in
    let d = opaque_first longest_forwarded _ c.rest remote c.more c.are c.was in
    let made : RemoteCall = record { prog = a.x; vers = b.x; proc = c.x; count = length d.x } in
    let z = ends made remote d.rest d.more d.was in
    let whole : bytes ≡ number a.x ++ (number b.x ++ (number c.x ++ (opaque d.x ++ d.rest))) =
    joined (number a.x) a.rest bytes _ a.whole (joined (number b.x) b.rest a.rest _ b.whole (joined (number c.x) c.rest b.rest _ c.whole d.whole)) in
    let args : args_of made bytes ≡ d.x = ap (λ (xs : List ℕ). args_of made xs) whole ∙ content_in a.x b.x c.x d.x d.rest in
    subst (λ (r : RemoteCall). SpellsRemote r bytes) z.same
    (record {
      prog = a.fits;
      vers = b.fits;
      proc = c.fits;
      args = subst (λ (xs : List ℕ). IsContent longest_forwarded xs) (sym args) d.fits;
      count = ap length args;
      rest = d.rest;
      whole = whole ∙ ap (λ (xs : List ℕ). number a.x ++ (number b.x ++ (number c.x ++ (opaque xs ++ d.rest)))) (sym args);
    })

pub remote_read : (remote : RemoteCall) (bytes : List ℕ) → SpellsRemote remote bytes → front read_remote bytes ≡ Some remote
unfolding read_remote
remote_read remote bytes is =
    let args : List ℕ = args_of remote bytes in
    let made : RemoteCall = record remote { count = length args } in
    ap (front read_remote) is.whole
    ∙ ap (λ (r : Reading RemoteCall). value_of r) (number_again _ remote.prog _ made _ is.prog (number_again _ remote.vers _ made _ is.vers (number_again _ remote.proc _ made _ is.proc (opaque_again longest_forwarded _ args is.rest made 0 is.args refl))))
    ∙ ap (λ (k : ℕ). Some (record remote { count = k })) is.count
