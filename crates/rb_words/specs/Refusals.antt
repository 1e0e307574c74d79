-- Words that can't be read: what stands there, and what is expected.
use Rattle.std.specs.Prelude.{ℕ, List, [], ◌++◌, codes, Option, Some, None, slice_get, Result, OnOk}
use Rattle.std.specs.Borrow.{Bor}
use Rattle.std.specs.Io.KnownBytes.{Appends}
use Rattle.rb_words.specs.declared.shape.Flag.{Flag}
use Rattle.rb_words.specs.declared.shape.Flag.TheVariants as flags
use Rattle.rb_words.specs.declared.plan.Layout.{Layout}
use Rattle.rb_words.specs.declared.plan.Layout.TheVariants as layouts
use Rattle.rb_words.specs.declared.shape.Shape.{Shape}
use Rattle.rb_words.specs.declared.refusal.Refusal.{Refusal}
use Rattle.rb_words.specs.declared.refusal.Spot.{Spot}
use Rattle.rb_words.specs.declared.refusal.Spot.TheVariants as spots
use Rattle.rb_words.specs.declared.refusal.Expected.{Expected}
use Rattle.rb_words.specs.declared.refusal.Expected.TheVariants as wants

abbrev pub flag_text : Flag → List ℕ
flag_text flags.Table = codes "-p"
flag_text flags.Short = codes "-s"
flag_text flags.Summary = codes "--summary"
flag_text flags.List = codes "-l"
flag_text flags.Statistics = codes "-m"
flag_text flags.Tcp = codes "-t"
flag_text flags.Udp = codes "-u"
flag_text flags.Delete = codes "-d"
flag_text flags.Broadcast = codes "-b"

abbrev pub layout_text : Layout → List ℕ
layout_text layouts.Names = codes "--names"
layout_text layouts.Json = codes "--json"

abbrev pub text_or_none : Option (Bor (List ℕ)) → List ℕ
text_or_none (Some text) = text.now
text_or_none None = []

-- what stands at a spot
abbrev pub spot_text : Shape → Spot → List ℕ
spot_text shape (spots.Flag flag) = flag_text flag
spot_text shape spots.Port = text_or_none shape.port
spot_text shape spots.Uid = text_or_none shape.uid
spot_text shape spots.Target = text_or_none shape.target
spot_text shape spots.Netid = text_or_none shape.netid
spot_text shape spots.Address = text_or_none shape.address
spot_text shape spots.Local = text_or_none shape.local
spot_text shape spots.Broadcast = text_or_none shape.broadcast
spot_text shape (spots.Layout layout) = layout_text layout
spot_text shape (spots.Word i) = text_or_none (slice_get shape.words.now i)
spot_text shape spots.End = []

abbrev pub wanted_text : Expected → List ℕ
wanted_text wants.OneFlag = codes "one flag at most is wanted"
wanted_text wants.Port = codes "a number from 1 to 65535 is wanted"
wanted_text wants.Uid = codes "a number from 0 to 4294967295 is wanted"
wanted_text wants.Netid = codes "tcp, udp, tcp6, udp6 or local is wanted"
wanted_text wants.Socket = codes "tcp, udp, tcp6 or udp6 is wanted"
wanted_text wants.Address = codes "a universal address is wanted, as 192.0.2.1.0.111"
wanted_text wants.Host = codes "HOST is wanted, a name or an address"
wanted_text wants.Program = codes "PROGRAM is wanted, a number from 0 to 4294967295 or a name"
wanted_text wants.Version = codes "VERSION is wanted, a number from 0 to 4294967295"
wanted_text wants.NoWord = codes "no further word is wanted"
wanted_text wants.Ping = codes "-n goes with -t and -u alone"
wanted_text wants.NoFlagOrDelete = codes "-T goes with -d, or with no flag"
wanted_text wants.NetidAlone = codes "-a goes with -T, and with no flag"
wanted_text wants.NoHost = codes "--local goes with no HOST"
wanted_text wants.Broadcast = codes "an IPv4 address is wanted, as 192.0.2.255"
wanted_text wants.BroadcastAlone = codes "--broadcast goes with -b alone"
wanted_text wants.OneLayout = codes "one of --names and --json at most is wanted"
wanted_text wants.Objects = codes "--json goes with -p, -l, -m, or with no flag and no -T"
wanted_text wants.List = codes "--names goes with -p, -s, -l, or with no flag and no -T"

-- the word, if one is there
abbrev pub word_part : Shape → Spot → List ℕ
word_part shape spots.End = []
word_part shape at = codes "'" ++ (spot_text shape at ++ codes "': ")

-- if the writer does not fail, this is what was written
abbrev pub Prints : {W A E : Type 0} → (W → Option (List ℕ)) → W → W → List ℕ → Result A E → Type 0
Prints contents writer writer' text result = OnOk result (Appends (contents writer) (contents writer') text)

abbrev pub named_line : Shape → Refusal → List ℕ
named_line shape refusal = codes "rpcinfo: " ++ (word_part shape refusal.at ++ (wanted_text refusal.wanted ++ codes "\n"))

-- WORDS-9
abbrev pub refusal_lines : Shape → Refusal → List ℕ
refusal_lines shape refusal = codes "rpcinfo: the words can't be read; see --help\n" ++ named_line shape refusal
