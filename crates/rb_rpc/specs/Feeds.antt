-- The bytes that a reader of calls was fed, and what they are as a call (RFC 5531 section 9).
use Rattle.std.specs.Prelude.{◌≡◌, ◌<◌, ℕ, false, List, [], ◌++◌, length, drop, fold}
use Rattle.rb_xdr.specs.Xdr.{words, AreBytes, AreNumbers}
use Rattle.rb_rpc.specs.declared.call.Verdict.{Verdict}
use Rattle.rb_rpc.specs.declared.call.Verdict.TheVariants as verdicts
use Rattle.rb_rpc.specs.Marks.{number_so_far}
use Rattle.rb_rpc.specs.Verdict.{verdict}
use Rattle.rb_rpc.specs.declared.stage.Stage.TheVariants as stages
use Rattle.rb_rpc.specs.Stages.{stage_after, verdict_at, is_call}
pub use Rattle.rb_rpc.specs.declared.feed.CallFeed.{CallFeed}

-- ---- the bytes that a feed was fed

-- the front of one more word, and the number that it spells as far as it goes
pub record HasPart (feed : CallFeed) (front : List ℕ) : Type 0 where
  pub few : length front < 4
  pub bytes : AreBytes front
  pub seen_is : feed.seen ≡ length front
  pub number_is : feed.number ≡ number_so_far front

-- The feed was fed these bytes: whole words, and the front of one more, or after the head of a call any bytes.
-- FEED-1: A call that is fed in pieces is what `read_call` says of all its bytes.
pub record StandsForCall (feed : CallFeed) (fed : List ℕ) : Type 0 where
  pub numbers : List ℕ
  pub front : List ℕ
  pub fed_is : fed ≡ words numbers ++ front
  pub fit : AreNumbers numbers
  pub stage_is : feed.stage ≡ fold stage_after stages.Xid numbers
  pub part : is_call (verdict_at feed.stage) ≡ false → HasPart feed front

-- ---- calls and what follows their heads

-- the bytes after the head of a call
abbrev pub behind_head : Verdict → List ℕ → List ℕ
behind_head (verdicts.Call head place) bytes = drop place bytes
behind_head verdicts.NoCall bytes = []
behind_head (verdicts.RpcMismatch xid) bytes = []
behind_head (verdicts.AuthError xid stat) bytes = []

-- the arguments of a call as far as they have come; nothing if the bytes are no call yet, or none that is taken
unfoldable pub arguments_of : List ℕ → List ℕ
arguments_of bytes = behind_head (verdict bytes) bytes
