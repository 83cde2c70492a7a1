-- Not vacuous: targets and raises on the worked session's host (request No. 7).
use mathlib.Core.Path.{◌≡◌, refl, ◌∙◌}
use mathlib.Core.Bool.{false}
use mathlib.Core.List.{[], ◌∷◌}
use mathlib.Core.Logic.{inr}
use Prim.Native.Nat.{ℕ}
use Rattle.rules.specs.declared.Answer.TheVariants.{One}
use Rattle.rules.specs.declared.Device.{Device}
use Rattle.rules.specs.declared.Event.{Event}
use Rattle.rules.specs.declared.QueueRecord.{QueueRecord}
use Rattle.rules.specs.declared.Ring.{Ring}
use Rattle.rules.specs.Kept.{plant_at, cpu_at, queue_at, source_at}
use Rattle.rules.specs.Queues.{has_room}
use Rattle.rules.specs.Host.{HostOutcome}
use Rattle.rules.proofs.Computing.{computing}
use Rattle.rules.proofs.Examples.{next, after, call, cookie}
use Rattle.promises.specs.Words.{target_at, SetsTarget, Received}
use Rattle.promises.proofs.AcceptedEvents.{ready}
use Rattle.promises.proofs.Received.{received_why}
use Rattle.promises.proofs.Targets.{first_targets}

-- guest 0's source, and its raise
abbrev device : Device
device = record { devhandle = 0x100; devino = 5 }

abbrev rung : HostOutcome → HostOutcome
rung o = next o (Event.Raise device)

-- whether it is enabled, and the 0x3d queue of cpu 0
abbrev on : HostOutcome → ℕ
on o = (source_at (plant_at o.tables 0) 0).enabled

abbrev queue : HostOutcome → QueueRecord
queue o = queue_at (cpu_at (plant_at o.tables 0) 0) 1

-- the host with it enabled and no ring for it, and with a ring; no call chooses its target
abbrev ringless : HostOutcome
ringless = after ready (cookie 0x100 0x800 ∷ call 0x80 0xaa 0x100 5 1 ∷ [])

abbrev unchosen : HostOutcome
unchosen = next ringless (call 0x80 0x14 0x3d 0x80 2)

abbrev ring : ℕ → Ring
ring tail = record { base = 0x80; size = 128; head = 0; tail = tail }

-- Its raise is delivered, to cpu 0.
pub first_raise : (target_at unchosen.tables 0 0 ≡ 0) × ((rung unchosen).answer ≡ One 2) × (queue (rung unchosen) ≡ QueueRecord.Set (ring 64))
unfolding computing next after
first_raise = (refl, refl, refl)

-- 0xae to cpu 1 is an event that sets a target, and does;
abbrev to_one : Event
to_one = call 0x80 0xae 0x100 5 1

pub target_chosen : SetsTarget to_one × (target_at (next ready to_one).tables 0 0 ≡ 1)
unfolding computing next after
target_chosen = (inr refl, refl)

-- every event that is none leaves it there.
pub chosen_stays : (event : Event) → (SetsTarget event → ⊥) → target_at (next (next ready to_one) event).tables 0 0 ≡ 1
unfolding next
chosen_stays event other = first_targets.stays (next ready to_one).tables (next ready to_one).memory event other 0 0 ∙ target_chosen.1

-- the ring full, and the source idle again
abbrev full : HostOutcome
full = next (rung unchosen) (call 0x80 0xac 0x100 5 0)

-- Its raise answers 1, for each of the three reasons: it is disabled, cpu 0's ring is unset, and it is full.
abbrev Left : HostOutcome → Type 0
Left o = Received o.tables device

pub left_disabled : Left ready × (on ready ≡ 0)
unfolding computing next after
left_disabled = (received_why ready.tables ready.memory device refl, refl)

pub left_ringless : Left ringless × (on ringless ≡ 1) × (queue ringless ≡ QueueRecord.Unset)
unfolding computing next after
left_ringless = (received_why ringless.tables ringless.memory device refl, refl, refl)

pub left_full : Left full × (on full ≡ 1) × (queue full ≡ QueueRecord.Set (ring 64)) × (has_room (ring 64) ≡ false)
unfolding computing next after
left_full = (received_why full.tables full.memory device refl, refl, refl, refl)
