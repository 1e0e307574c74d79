-- The types of arguments and results (RFC 1833 sections 2.1 and 3.1): their values, what spells them, and how they are read.
use Rattle.std.specs.Prelude.{ℕ, ◌+◌, List, ◌++◌}
use Rattle.rb_xdr.specs.Xdr.{Reader, IsNumber, IsContent, number, opaque, read_number, read_opaque, max_number, max_opaque, ◌>>=◌, give}
use Rattle.rb_xdr.specs.Forms.{Form}
use Rattle.rb_xdr.specs.Forms.Form.{Number, Content, Then}
use Rattle.rb_arguments.specs.declared.mapping.Mapping.{Mapping}
use Rattle.rb_arguments.specs.declared.rpcb.Rpcb.{Rpcb}
use Rattle.rb_arguments.specs.declared.netbuf.Netbuf.{Netbuf}
use Rattle.rb_arguments.specs.declared.entry.Entry.{Entry}

-- ---- mapping: prog, vers, prot, port

pub record IsMapping (m : Mapping) : Type 0 where
  pub prog : IsNumber m.prog
  pub vers : IsNumber m.vers
  pub prot : IsNumber m.prot
  pub port : IsNumber m.port

abbrev pub mapping_spelling : Mapping → List ℕ
mapping_spelling m = number m.prog ++ (number m.vers ++ (number m.prot ++ number m.port))

abbrev pub max_mapping : ℕ
max_mapping = max_number + max_number + max_number + max_number

abbrev pub mapping_form : Form
mapping_form = Then Number (Then Number (Then Number Number))

unfoldable pub read_mapping : Reader Mapping
read_mapping = do
  prog ← read_number
  vers ← read_number
  prot ← read_number
  port ← read_number
  give (record { prog = prog; vers = vers; prot = prot; port = port })

-- ---- rpcb: r_prog, r_vers, r_netid<32>, r_addr<128>, r_owner<128>

-- ARGS-6
pub record IsRpcb (r : Rpcb) : Type 0 where
  pub prog : IsNumber r.prog
  pub vers : IsNumber r.vers
  pub netid : IsContent 32 r.netid
  pub addr : IsContent 128 r.addr
  pub owner : IsContent 128 r.owner

abbrev pub rpcb_spelling : Rpcb → List ℕ
rpcb_spelling r = number r.prog ++ (number r.vers ++ (opaque r.netid ++ (opaque r.addr ++ opaque r.owner)))

abbrev pub max_rpcb : ℕ
max_rpcb = max_number + max_number + max_opaque 32 + max_opaque 128 + max_opaque 128

abbrev pub rpcb_form : Form
rpcb_form = Then Number (Then Number (Then (Content 32) (Then (Content 128) (Content 128))))

-- ARGS-6: A netid has at most 32 bytes, an address and an owner at most 128; what has a longer text
-- is unreadable.
unfoldable pub read_rpcb : Reader Rpcb
read_rpcb = do
  prog ← read_number
  vers ← read_number
  netid ← read_opaque 32
  addr ← read_opaque 128
  owner ← read_opaque 128
  give (record { prog = prog; vers = vers; netid = netid; addr = addr; owner = owner })

-- ---- netbuf: maxlen, buf<128>

pub record IsNetbuf (n : Netbuf) : Type 0 where
  pub maxlen : IsNumber n.maxlen
  pub buf : IsContent 128 n.buf

abbrev pub netbuf_spelling : Netbuf → List ℕ
netbuf_spelling n = number n.maxlen ++ opaque n.buf

abbrev pub max_netbuf : ℕ
max_netbuf = max_number + max_opaque 128

abbrev pub netbuf_form : Form
netbuf_form = Then Number (Content 128)

unfoldable pub read_netbuf : Reader Netbuf
read_netbuf = do
  maxlen ← read_number
  buf ← read_opaque 128
  give (record { maxlen = maxlen; buf = buf })

-- ---- rpcb_entry: r_maddr<128>, r_nc_netid<32>, r_nc_semantics, r_nc_protofmly<32>, r_nc_proto<32>

pub record IsEntry (e : Entry) : Type 0 where
  pub maddr : IsContent 128 e.maddr
  pub netid : IsContent 32 e.netid
  pub semantics : IsNumber e.semantics
  pub protofmly : IsContent 32 e.protofmly
  pub proto : IsContent 32 e.proto

abbrev pub entry_spelling : Entry → List ℕ
entry_spelling e = opaque e.maddr ++ (opaque e.netid ++ (number e.semantics ++ (opaque e.protofmly ++ opaque e.proto)))

abbrev pub max_entry : ℕ
max_entry = max_opaque 128 + max_opaque 32 + max_number + max_opaque 32 + max_opaque 32

abbrev pub entry_form : Form
entry_form = Then (Content 128) (Then (Content 32) (Then Number (Then (Content 32) (Content 32))))

unfoldable pub read_entry : Reader Entry
read_entry = do
  maddr ← read_opaque 128
  netid ← read_opaque 32
  semantics ← read_number
  protofmly ← read_opaque 32
  proto ← read_opaque 32
  give (record { maddr = maddr; netid = netid; semantics = semantics; protofmly = protofmly; proto = proto })
