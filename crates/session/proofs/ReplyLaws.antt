-- The text of a reply in a buffer.
use mathlib.Core.Path.{◌≡◌}
use mathlib.Core.List.{List}
use Prim.Native.Nat.{ℕ, ◌+◌, ◌≤◌}
use native.Mathlib.Omega.{arith}
use lib.ListN.{length, take, drop}
use lib.Seq.{sets, sets-eq, take-append_seam}
use Rattle.rules.specs.declared.Reply.{Reply}
use Rattle.rules.specs.Session.{text_of}
use Rattle.text.specs.Printed.{loading_text, answer_text}
use Rattle.text.proofs.PrintLaws.{answer_most, loading_most}
use Rattle.session.specs.Replies.{reply_text}

pub reply_most : (reply : Reply) → length (reply_text reply) ≤ 85
unfolding reply_text text_of loading_text answer_text
reply_most Reply.Bad = omega arith
reply_most (Reply.Image a) = omega (arith, loading_most a)
reply_most (Reply.Event a) = answer_most a

-- the front of a buffer that holds a text
pub front : (m t : List ℕ) → length t ≤ length m → take (length t) (sets m 0 t) ≡ t
front m t h = rw (sets-eq t m 0 (omega arith)) (take-append_seam t (drop (0 + length t) m))
