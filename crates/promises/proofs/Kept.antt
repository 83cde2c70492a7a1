-- Promise: tables keep the rules from loading on. The proofs are those of crate kept, on which the session stands too.
use Rattle.kept.proofs.Accepted.{accepted_keeps, load_keeps}
use Rattle.kept.proofs.Tables.{event_keeps}
use Rattle.promises.specs.Promises.{Kept}

pub kept : Kept
kept = record { accepted_keeps = accepted_keeps; load_keeps = load_keeps; event_keeps = event_keeps }
