-- `session::feeder::feed` meets its contract: each turn of its loop is a byte of the definition.
use mathlib.Core.Path.{◌≡◌}
use mathlib.Core.List.{[]}
use lib.ListN.{length}
use Rattle.session.proofs.Serving.{Serving}
use Rattle.session.proofs.FeedLaws.{at as start}
use Rattle.session.proofs.feeder.feed.Given as goal

abbrev pub invariant-loop-i : goal.invariant-loop-i
invariant-loop-i l =
    (l.taken ≡ length l.piece)
    × Serving (start l.initial.tables l.initial.mem l.initial.line l.initial.held []) l.piece l.initial.out l.initial.mem l.mem l.out l.tables l.line l.held l.door l.g l.guest l.at l.i
