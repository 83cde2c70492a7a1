-- `plants::rings::put_entry` meets its contract: the entry lies in the ring, which lies in the guest's memory.
use native.Mathlib.Omega.{arith}
use Rattle.rules.specs.Real.{valid}
use Rattle.memory.specs.Ready.{present}
use Rattle.memory.proofs.Places.{valid_part}
use Rattle.records.specs.Sound.{RingSound}
use Rattle.plants.proofs.PutLaws.{ring_held}
use Rattle.plants.proofs.Reach.{range_ends}
use Rattle.plants.proofs.rings.put_entry.Goals as goal

pub overflow_add-at : goal.overflow_add-at
overflow_add-at c = let r : RingSound (valid (present c.args.extents)) c.in-Set.ring = ring_held c.args.extents _ c.requires.held_sound _ c.in-Set.is in
    omega (arith, r.tail_below, range_ends c.args.extents _ _ _ c.well_formed.0 r.within (omega (arith, r.tail_below)))

pub write_at-requires : goal.write_at-requires
write_at-requires c = let r : RingSound (valid (present c.args.extents)) c.in-Set.ring = ring_held c.args.extents _ c.requires.held_sound _ c.in-Set.is in
    record { extents_le_extent_limit = c.requires.extents_le_extent_limit; ready = c.requires.ready; src_value = valid_part _ _ _ _ _ r.within (omega (arith, r.tail, r.whole, r.tail_below, c.well_formed)) }
