-- What is read of statistics fits its fields.
use Rattle.std.proofs.Common.{ℕ, List, refl}
use Rattle.std.specs.Prelude.{ℤ}
use Rattle.rb_xdr.specs.Xdr.{IsNumber, IsContent, number, opaque, read_number, read_opaque}
use Rattle.rb_xdr.specs.XdrTypes.{signed, read_signed, read_pair}
use Rattle.rb_xdr.specs.XdrLaws.{IsSound, both, pair}
use Rattle.rb_xdr.proofs.Readers.{number_sound, opaque_sound}
use Rattle.rb_xdr.proofs.Types.{signed_sound, pair_sound}
use Rattle.rb_show.specs.Statistics.{IsInt, Four, VersionFields, AddrFields, CallFields, IsVersionStat, IsAddrStat, IsCallStat, read_two, read_four, read_version, read_addr, read_call, version_stat, addr_stat, call_stat}

-- ---- rpcb_stat

abbrev AreTwo : ℤ × ℤ → Type 0
AreTwo = both IsInt IsInt

abbrev AreFour : Four → Type 0
AreFour = both AreTwo AreTwo

abbrev two : ℤ × ℤ → List ℕ
two = pair signed signed

abbrev four : Four → List ℕ
four = pair two two

two_sound : IsSound AreTwo two read_two
two_sound = pair_sound IsInt signed read_signed IsInt signed read_signed signed_sound signed_sound

four_sound : IsSound AreFour four read_four
four_sound = pair_sound AreTwo two read_two AreTwo two read_two two_sound two_sound

abbrev pub AreVersionFields : VersionFields → Type 0
AreVersionFields = both (both (both AreFour AreFour) (both AreFour IsInt)) AreTwo

abbrev pub version_spelling : VersionFields → List ℕ
version_spelling = pair (pair (pair four four) (pair four signed)) two

pub version_sound : IsSound AreVersionFields version_spelling read_version
version_sound =
    pair_sound (both (both AreFour AreFour) (both AreFour IsInt)) (pair (pair four four) (pair four signed)) (read_pair (read_pair read_four read_four) (read_pair read_four read_signed)) AreTwo two read_two
    (pair_sound (both AreFour AreFour) (pair four four) (read_pair read_four read_four) (both AreFour IsInt) (pair four signed) (read_pair read_four read_signed)
    (pair_sound AreFour four read_four AreFour four read_four four_sound four_sound)
    (pair_sound AreFour four read_four IsInt signed read_signed four_sound signed_sound))
    two_sound

pub is_version : (v : VersionFields) → AreVersionFields v → IsVersionStat (version_stat v)
is_version v are =
    let a = are.0.0.0 in
    let b = are.0.0.1 in
    let c = are.0.1.0 in
    record {
      info = (refl, (a.0.0, (a.0.1, (a.1.0, (a.1.1, (b.0.0, (b.0.1, (b.1.0, (b.1.1, (c.0.0, (c.0.1, (c.1.0, (c.1.1, (are.0.1.1, tt))))))))))))));
      setinfo = are.1.0;
      unsetinfo = are.1.1;
    }

-- ---- rpcbs_addrlist

abbrev AreCounted : ℤ × (ℤ × List ℕ) → Type 0
AreCounted = both IsInt (both IsInt (IsContent 32))

abbrev counted : ℤ × (ℤ × List ℕ) → List ℕ
counted = pair signed (pair signed opaque)

counted_sound : IsSound AreCounted counted (read_pair read_signed (read_pair read_signed (read_opaque 32)))
counted_sound =
    pair_sound IsInt signed read_signed (both IsInt (IsContent 32)) (pair signed opaque) (read_pair read_signed (read_opaque 32)) signed_sound
    (pair_sound IsInt signed read_signed (IsContent 32) opaque (read_opaque 32) signed_sound (opaque_sound 32))

abbrev pub AreAddrFields : AddrFields → Type 0
AreAddrFields = both IsNumber (both IsNumber AreCounted)

abbrev pub addr_spelling : AddrFields → List ℕ
addr_spelling = pair number (pair number counted)

pub addr_sound : IsSound AreAddrFields addr_spelling read_addr
addr_sound =
    pair_sound IsNumber number read_number (both IsNumber AreCounted) (pair number counted) (read_pair read_number (read_pair read_signed (read_pair read_signed (read_opaque 32)))) number_sound
    (pair_sound IsNumber number read_number AreCounted counted (read_pair read_signed (read_pair read_signed (read_opaque 32))) number_sound counted_sound)

pub is_addr : (a : AddrFields) → AreAddrFields a → IsAddrStat (addr_stat a)
is_addr a are = record { prog = are.0; vers = are.1.0; success = are.1.1.0; failure = are.1.1.1.0; netid = are.1.1.1.1 }

-- ---- rpcbs_rmtcalllist

abbrev pub AreCallFields : CallFields → Type 0
AreCallFields = both IsNumber (both IsNumber (both IsNumber (both IsInt AreCounted)))

abbrev pub call_spelling : CallFields → List ℕ
call_spelling = pair number (pair number (pair number (pair signed counted)))

pub call_sound : IsSound AreCallFields call_spelling read_call
call_sound =
    let passed = read_pair read_signed (read_pair read_signed (read_pair read_signed (read_opaque 32))) in
    pair_sound IsNumber number read_number (both IsNumber (both IsNumber (both IsInt AreCounted))) (pair number (pair number (pair signed counted))) (read_pair read_number (read_pair read_number passed)) number_sound
    (pair_sound IsNumber number read_number (both IsNumber (both IsInt AreCounted)) (pair number (pair signed counted)) (read_pair read_number passed) number_sound
    (pair_sound IsNumber number read_number (both IsInt AreCounted) (pair signed counted) passed number_sound
    (pair_sound IsInt signed read_signed AreCounted counted (read_pair read_signed (read_pair read_signed (read_opaque 32))) signed_sound counted_sound)))

pub is_call : (c : CallFields) → AreCallFields c → IsCallStat (call_stat c)
is_call c are = record { prog = are.0; vers = are.1.0; proc = are.1.1.0; success = are.1.1.1.0; failure = are.1.1.1.1.0; indirect = are.1.1.1.1.1.0; netid = are.1.1.1.1.1.1 }
