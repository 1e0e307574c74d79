-- The statistics of a version of rpcbind (RFC 1833 section 2.1): their values, and how they are read.
use Rattle.std.specs.Prelude.{◌≡◌, ℕ, ℤ, List, [], ◌∷◌, ◌++◌, length, FitsSigned}
use Rattle.std.specs.Int.{w32}
use Rattle.std.specs.List.{AllByRecursion}
use Rattle.rb_xdr.specs.Xdr.{Reader, IsNumber, IsContent, read_number, read_opaque}
use Rattle.rb_xdr.specs.XdrTypes.{read_signed, read_pair}

abbrev pub IsInt : ℤ → Type 0
IsInt z = FitsSigned w32 z

-- ---- rpcb_stat up to its lists: info[13], setinfo, unsetinfo

pub record VersionStat : Type 0 where
  pub info : List ℤ
  pub setinfo : ℤ
  pub unsetinfo : ℤ

abbrev pub AreInts : ℕ → List ℤ → Type 0
AreInts k ns = (length ns ≡ k) × AllByRecursion IsInt ns

-- info has a count for each procedure of version 4 (RPCBSTAT_HIGHPROC)
pub record IsVersionStat (s : VersionStat) : Type 0 where
  pub info : AreInts 13 s.info
  pub setinfo : IsInt s.setinfo
  pub unsetinfo : IsInt s.unsetinfo

-- ints in a row (RFC 4506 section 4.12)
abbrev pub Four : Type 0
Four = (ℤ × ℤ) × (ℤ × ℤ)

abbrev pub InfoFields : Type 0
InfoFields = (Four × Four) × (Four × ℤ)

abbrev pub VersionFields : Type 0
VersionFields = InfoFields × (ℤ × ℤ)

abbrev pub read_two : Reader (ℤ × ℤ)
read_two = read_pair read_signed read_signed

abbrev pub read_four : Reader Four
read_four = read_pair read_two read_two

abbrev pub read_version : Reader VersionFields
read_version = read_pair (read_pair (read_pair read_four read_four) (read_pair read_four read_signed)) read_two

abbrev pub four_in : Four → List ℤ
four_in t = t.0.0 ∷ t.0.1 ∷ t.1.0 ∷ t.1.1 ∷ []

abbrev pub info_in : InfoFields → List ℤ
info_in i = four_in i.0.0 ++ (four_in i.0.1 ++ (four_in i.1.0 ++ i.1.1 ∷ []))

abbrev pub version_stat : VersionFields → VersionStat
version_stat v = record { info = info_in v.0; setinfo = v.1.0; unsetinfo = v.1.1 }

-- ---- rpcbs_addrlist: prog, vers, success, failure, netid<32>

pub record AddrStat : Type 0 where
  pub prog : ℕ
  pub vers : ℕ
  pub success : ℤ
  pub failure : ℤ
  pub netid : List ℕ

pub record IsAddrStat (s : AddrStat) : Type 0 where
  pub prog : IsNumber s.prog
  pub vers : IsNumber s.vers
  pub success : IsInt s.success
  pub failure : IsInt s.failure
  pub netid : IsContent 32 s.netid

abbrev pub AddrFields : Type 0
AddrFields = ℕ × (ℕ × (ℤ × (ℤ × List ℕ)))

-- SHOW-5: A netid of the statistics has at most 32 bytes.
abbrev pub read_addr : Reader AddrFields
read_addr = read_pair read_number (read_pair read_number (read_pair read_signed (read_pair read_signed (read_opaque 32))))

abbrev pub addr_stat : AddrFields → AddrStat
addr_stat a = record { prog = a.0; vers = a.1.0; success = a.1.1.0; failure = a.1.1.1.0; netid = a.1.1.1.1 }

-- ---- rpcbs_rmtcalllist: prog, vers, proc, success, failure, indirect, netid<32>

pub record CallStat : Type 0 where
  pub prog : ℕ
  pub vers : ℕ
  pub proc : ℕ
  pub success : ℤ
  pub failure : ℤ
  pub indirect : ℤ
  pub netid : List ℕ

pub record IsCallStat (s : CallStat) : Type 0 where
  pub prog : IsNumber s.prog
  pub vers : IsNumber s.vers
  pub proc : IsNumber s.proc
  pub success : IsInt s.success
  pub failure : IsInt s.failure
  pub indirect : IsInt s.indirect
  pub netid : IsContent 32 s.netid

abbrev pub CallFields : Type 0
CallFields = ℕ × (ℕ × (ℕ × (ℤ × (ℤ × (ℤ × List ℕ)))))

abbrev pub read_call : Reader CallFields
read_call =
    read_pair read_number (read_pair read_number (read_pair read_number
    (read_pair read_signed (read_pair read_signed (read_pair read_signed (read_opaque 32))))))

abbrev pub call_stat : CallFields → CallStat
call_stat c = record {
  prog = c.0;
  vers = c.1.0;
  proc = c.1.1.0;
  success = c.1.1.1.0;
  failure = c.1.1.1.1.0;
  indirect = c.1.1.1.1.1.0;
  netid = c.1.1.1.1.1.1;
}
