-- The ring that an entry goes to, and what each way through the putting shows.
use Rattle.std.proofs.Common.{Some, None, if◌then◌else◌}
use mathlib.Core.Path.{◌≡◌, refl, subst}
use mathlib.Core.Bool.{Bool, true, false}
use mathlib.Core.List.{List, []}
use Prim.Native.Nat.{ℕ}
use Rattle.rules.specs.declared.Extents.{Extents}
use Rattle.rules.specs.declared.QueueRecord.{QueueRecord}
use Rattle.rules.specs.declared.Ring.{Ring}
use Rattle.rules.specs.Real.{valid}
use Rattle.rules.specs.Queues.{has_room, PutIn, put_in}
use Rattle.memory.specs.Ready.{present}
use Rattle.records.specs.Sound.{RingSound, RecordSound}
use Rattle.plants.specs.Put.{PutsIn, HeldSound}

-- the ring that a record holds
pub ring_held : (extents : Extents) (held : QueueRecord) → HeldSound extents held → (ring : Ring) → held ≡ QueueRecord.Set ring → RingSound (valid (present extents)) ring
ring_held extents held h ring e = subst (RecordSound (valid (present extents))) e h

-- what the code gives back, of what a rule puts
module _ (extents : Extents) (p : PutIn) (m m' : List ℕ) where
  pub puts_none : PutsIn extents p m None m' → p.room ≡ false
  puts_none r = by p.room r.held
    where
      by : (b : Bool) → None ≡ (if b then Some p.held else None) → b ≡ false
      by true e = cc
      by false e = refl

  pub puts_some : (held : QueueRecord) → PutsIn extents p m (Some held) m' → (p.room ≡ true) × (held ≡ p.held)
  puts_some held r = by p.room r.held
    where
      by : (b : Bool) → Some held ≡ (if b then Some p.held else None) → (b ≡ true) × (held ≡ p.held)
      by true e = (refl, cc)
      by false e = cc

-- where there was no ring with room, the record is as it was, and nothing is written
pub put_full : (held : QueueRecord) (entry : List ℕ) → (put_in held entry).room ≡ false → put_in held entry ≡ record { room = false; held = held; writes = [] }
unfolding put_in
put_full QueueRecord.Unset entry e = refl
put_full (QueueRecord.Set ring) entry e = by (has_room ring) _ _ refl e
  where
    by : (b : Bool) (x y : PutIn) → x.room ≡ true → (if◌then◌else◌ {A = PutIn} b x y).room ≡ false → (if b then x else y) ≡ y
    by true x y r e = cc
    by false x y r e = refl
