-- Where a queue stands in its cpu's record.
use Rattle.std.specs.Prelude.{ℕ, if◌then◌else◌, Option, Some, None}
use Rattle.rules.specs.Queues.{is_queue, index_of}

-- the place of a queue, where the number is a queue's
unfoldable pub place_of : ℕ → Option ℕ
place_of queue = if is_queue queue then Some (index_of queue) else None
