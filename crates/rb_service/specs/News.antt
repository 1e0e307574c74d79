-- What a service manager is told.
use Rattle.std.specs.Prelude.{ℕ, List, ◌++◌, codes, decimal}
use Rattle.rb_address.specs.Peers.{bare_host_text}
use Rattle.rb_turns.specs.declared.load.Load.{Load}
use Rattle.rb_service.specs.declared.manager.News.{News}
use Rattle.rb_service.specs.declared.manager.News.TheVariants.{Missing, Ready, Turn, End}

abbrev pub load_text : Load → List ℕ
load_text load =
    decimal load.rows ++ codes " of " ++ decimal load.most_rows ++ codes " rows, " ++ decimal load.connections
    ++ codes " of " ++ decimal load.places ++ codes " connections"

-- MANAGER-1: A service manager is told READY=1 once the rows that were kept are set again and each socket is served, with
-- WATCHDOG=1 of a turn, and STOPPING=1 at the end. Its status says how many rows and connections there are, of how many, or
-- for which address a start waits.
abbrev pub news_text : News → List ℕ
news_text (Missing host) = codes "STATUS=waits for the address " ++ bare_host_text host
news_text (Ready load) = codes "READY=1\nSTATUS=" ++ load_text load
news_text (Turn load) = codes "WATCHDOG=1\nSTATUS=" ++ load_text load
news_text End = codes "STOPPING=1"
