-- The cpu whose record an event looks at: it has a place in the plant's record, and is the event's own where the plant has that cpu.
use Rattle.std.specs.Prelude.{if◌then◌else◌, Option, Some, None}
use mathlib.Core.Path.{◌≡◌, refl}
use mathlib.Core.Bool.{Bool, true, false}
use Prim.Native.Nat.{ℕ, ◌<◌}
use native.Mathlib.Omega.{arith}
use lib.Dec.{ltb}
use borrow.Author.Tests.{ltb-true, lt-ltb}
use Rattle.rules.specs.declared.Call.{Call}
use Rattle.rules.specs.declared.Cpu.{Cpu}
use Rattle.rules.specs.declared.Device.{Device}
use Rattle.rules.specs.declared.Event.{Event}
use Rattle.rules.specs.declared.Extents.{Extents}
use Rattle.rules.specs.declared.HeadWrite.{HeadWrite}
use Rattle.rules.specs.declared.Plant.{Plant}
use Rattle.rules.specs.declared.Source.{Source}
use Rattle.rules.specs.declared.TsbHit.{TsbHit}
use Rattle.rules.specs.Kept.{cpu_at, source_at}
use Rattle.rules.specs.Limits.{cpu_limit}
use Rattle.records.specs.Sound.{Sound}
use Rattle.sources.specs.Seen.{named_in}
use Rattle.sources.proofs.SourceLaws.{named_there, named_source}
use Rattle.calls.specs.Own.{cpu_below, target_of, cpu_of}

pub below_itself : (c : ℕ) → c < cpu_limit → c ≡ cpu_below c
unfolding cpu_below
below_itself c h = rw (lt-ltb c cpu_limit h)

-- the record that it names is there
place_below : (c : ℕ) → cpu_below c < cpu_limit
unfolding cpu_below
place_below c = go (ltb c cpu_limit) refl
  where
    go : (t : Bool) → ltb c cpu_limit ≡ t → (if t then c else 0) < cpu_limit
    go true e = ltb-true c cpu_limit e
    go false e = omega arith

target_below : (n : Option (ℕ × Source)) → target_of n < cpu_limit
unfolding target_of
target_below None = omega arith
target_below (Some (i, s)) = place_below s.target

pub cpu_below_lem : (plant : Plant) (event : Event) → cpu_of plant event < cpu_limit
unfolding cpu_of
cpu_below_lem plant (Event.Call c) = place_below _
cpu_below_lem plant (Event.Head h) = place_below _
cpu_below_lem plant (Event.Raise d) = target_below (named_in plant d.devhandle d.devino)
cpu_below_lem plant (Event.Load l) = omega arith
cpu_below_lem plant (Event.Store s) = omega arith
cpu_below_lem plant (Event.Hit t) = place_below _

-- c is what the code was told, and the record there is the event's
module _ (plant : Plant) (event : Event) (c : ℕ) (p : c ≡ cpu_of plant event) where
  pub own_below : c < cpu_limit
  own_below = rw p (cpu_below_lem plant event)

  pub own_taken : cpu_at plant c ≡ cpu_at plant (cpu_of plant event)
  own_taken = rw p

-- own is the record of the event's own cpu
module _ (extents : Extents) (plant : Plant) (n : ℕ) (s : Sound extents plant n) (own : Cpu) where
  own_itself : (c : ℕ) → c < plant.cpus → own ≡ cpu_at plant (cpu_below c) → own ≡ cpu_at plant c
  own_itself c h p = rw (below_itself c (omega (arith, s.cpus))) p

  pub own_call : (c : Call) → c.cpu < plant.cpus → own ≡ cpu_at plant (cpu_of plant (Event.Call c)) → own ≡ cpu_at plant c.cpu
  unfolding cpu_of
  own_call c h p = own_itself c.cpu h p

  pub own_head : (w : HeadWrite) → w.cpu < plant.cpus → own ≡ cpu_at plant (cpu_of plant (Event.Head w)) → own ≡ cpu_at plant w.cpu
  unfolding cpu_of
  own_head w h p = own_itself w.cpu h p

  pub own_hit : (t : TsbHit) → t.cpu < plant.cpus → own ≡ cpu_at plant (cpu_of plant (Event.Hit t)) → own ≡ cpu_at plant t.cpu
  unfolding cpu_of
  own_hit t h p = own_itself t.cpu h p

  -- a target is a cpuid of the guest
  pub own_target : (d : Device) (found : Option (ℕ × Source)) → found ≡ named_in plant d.devhandle d.devino → (i : ℕ) (source : Source) → found ≡ Some (i, source)
      → own ≡ cpu_at plant (cpu_of plant (Event.Raise d)) → own ≡ cpu_at plant source.target
  unfolding cpu_of target_of
  own_target d found p i source e q =
      let there : source ≡ source_at plant i = named_source plant _ _ found p i source e in
      let below : source.target < plant.cpus = rw there (s.targets i (named_there plant _ _ found p i source e)) in
      own_itself source.target below (rw (← p, e) at q)
