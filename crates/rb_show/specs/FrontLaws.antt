-- The lines that a front of a reply's data tells are a front of the lines that all of it tells.
use Rattle.std.specs.Prelude.{◌≡◌, ℕ, List, ◌++◌}
use Rattle.rb_show.specs.declared.ask.Ask.{Ask}
use Rattle.rb_show.specs.declared.fault.InfoFault.{InfoFault}
use Rattle.rb_show.specs.declared.form.Form.{Form}
use Rattle.rb_show.specs.Telling.{told_lines}
use Rattle.rb_show.specs.Replies.{tell_reply}

-- these lines, and perhaps more
pub record BeginsWithLines (all lines : List (List ℕ)) : Type 0 where
  pub more : List (List ℕ)
  pub whole : all ≡ lines ++ more

-- What was told stays, whatever data follows and however it ends.
-- SHOW-10
abbrev pub LinesStay : Type 0
LinesStay =
    (ask : Ask) (form : Form) (xid : ℕ) (end end' : InfoFault) (content more : List ℕ)
    → BeginsWithLines (told_lines (tell_reply ask form xid end' (content ++ more))) (told_lines (tell_reply ask form xid end content))
