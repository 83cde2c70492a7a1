-- The line that is printed for a reply: its text, with its line feed.
use Rattle.std.specs.Prelude.{ℕ, List, [], ◌∷◌, ◌++◌}
use Rattle.rules.specs.declared.Reply.{Reply}
use Rattle.rules.specs.Text.{line_feed}
use Rattle.rules.specs.Session.{text_of}

unfoldable pub reply_text : Reply → List ℕ
reply_text reply = text_of reply ++ (line_feed ∷ [])
