-- Not vacuous: TSB hits on the worked session's host (request No. 9).
use mathlib.Core.Path.{◌≡◌, refl}
use mathlib.Core.Bool.{true}
use mathlib.Core.List.{List, [], ◌∷◌}
use Prim.Native.Nat.{ℕ, ◌^◌, ◌<◌, ◌≤◌, ◌-◌}
use native.Mathlib.Omega.{arith}
use Rattle.rules.specs.declared.Answer.TheVariants.{Done}
use Rattle.rules.specs.declared.Event.{Event}
use Rattle.rules.specs.declared.TsbHit.{TsbHit}
use Rattle.rules.specs.Kept.{guest_at}
use Rattle.rules.specs.Host.{HostOutcome, owner_of}
use Rattle.rules.proofs.Computing.{computing}
use Rattle.rules.proofs.Examples.{next, after, negotiated, statistics}
use Rattle.rules.proofs.AcceptedCalls.{storing}
use Rattle.memory.specs.Cells.{cell}
use Rattle.promises.specs.Words.{Unchanged}
use Rattle.promises.specs.Hits.{HitThere, hit_named, word_seen, Counted}
use Rattle.promises.proofs.AcceptedEvents.{ready}
use Rattle.promises.proofs.Hits.{hits}
use Rattle.promises.proofs.NotVacuous.{Passing, passes_after, reached, worked_passes_after, neighbour_unchanged}

-- a hit of guest 0 on the data side, in a context that is not zero, with a page of 4 MB
abbrev hit : ℕ → ℕ → TsbHit
hit cpu ticks = record { guest = 0; cpu = cpu; side = 1; context = 1; index = 3; ticks = ticks }

-- the host whose cpu 0 has its buffer at 0x400, with the ticks of that row at their end; cpu 1 has none
abbrev at_end : HostOutcome
at_end = after ready (statistics 0x400 ∷ storing 0 0x5b8 (2 ^ 64 - 1) ∷ [])

end_passes : Passing at_end
end_passes = passes_after (statistics 0x400 ∷ storing 0 0x5b8 (2 ^ 64 - 1) ∷ []) ready (worked_passes_after negotiated)

named : (cpu : ℕ) → hit_named (hit cpu 2) ≡ true
unfolding computing
named cpu = refl

there : (cpu : ℕ) → cpu < 2 → HitThere at_end.tables (hit cpu 2)
unfolding computing next after
there cpu h = record { guest = omega arith; cpu = h }

-- A hit of 2 ticks on cpu 0 is what `counted` speaks of: the hits are 1, and the ticks pass their end and are 1.
abbrev counting : HostOutcome
counting = next at_end (Event.Hit (hit 0 2))

pub worked_counted : Counted at_end.tables at_end.memory (hit 0 2) counting
    × (word_seen counting.tables counting.memory 0 0x5b0 ≡ 1) × (word_seen counting.tables counting.memory 0 0x5b8 ≡ 1)
unfolding computing next after
worked_counted = ((hits.counted at_end.tables at_end.memory (hit 0 2) end_passes (there 0 (omega arith)) (named 0) (λ z. omega arith)).1, refl, refl)

-- The same on cpu 1 is done and changes nothing.
pub worked_uncounted : ((next at_end (Event.Hit (hit 1 2))).answer ≡ Done) × Unchanged at_end.tables at_end.memory (next at_end (Event.Hit (hit 1 2)))
unfolding computing next after
worked_uncounted = hits.uncounted at_end.tables at_end.memory (hit 1 2) end_passes (there 1 (omega arith)) (named 1) refl

-- Whatever came before, no hit of guest 0 is anything to guest 1.
pub hit_unseen : (events : List Event) (t : TsbHit) → t.guest ≡ 0
    → (guest_at (next (reached events) (Event.Hit t)).tables 1 ≡ guest_at (reached events).tables 1)
    × ((k : ℕ) → 8192 ≤ k → k < 16384 → cell (next (reached events) (Event.Hit t)).memory k ≡ cell (reached events).memory k)
unfolding owner_of
hit_unseen events t z = neighbour_unchanged events (Event.Hit t) (rw z)
