-- What several writes came to.
use Rattle.std.proofs.Common.{ℕ, List, take, ◌+◌, ◌-◌, drop, length, Option}
use Rattle.std.proofs.Math.Seq.{take-add}
use Rattle.std.proofs.lemmas.List.{take_rest}
use Rattle.std.proofs.KnownBytes.{Appends-trans}
use Rattle.std.specs.Io.KnownBytes.{Appends}

-- one write behind what was written before it
pub written_on : (done n : ℕ) (bytes : List ℕ) (old now new : Option (List ℕ)) → Appends old now (take done bytes) → Appends now new (take n (take (length bytes - done) (drop done bytes)))
    → Appends old new (take (done + n) bytes)
written_on done n bytes old now new p q = rw (take-add done n bytes) (Appends-trans old now new _ _ p (rw (take_rest bytes done) at q))
