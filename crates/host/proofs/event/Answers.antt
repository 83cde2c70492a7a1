-- `host::event` meets its contract: by the seat of the event.
use native.Mathlib.Omega.{arith}
use mathlib.Core.Path.{refl}
use Rattle.calls.proofs.OwnLaws.{own_below, own_taken}
use Rattle.host.proofs.DoorLaws.{right_keeps, guest_below, guest_sound, guest_cpus, guest_sources, settles_refused, settles_answered}
use Rattle.host.proofs.event.Goals as goal

pub seat_of-requires : goal.seat_of-requires
seat_of-requires c = search right_keeps

pub offset_bounds-tables-i : goal.offset_bounds-tables-i
offset_bounds-tables-i c = omega (arith, guest_below _ _ _ c.door_of-door.ensures _ _ c.in-Ok.ensures)

pub bounds-tables-i : goal.bounds-tables-i
bounds-tables-i c = guest_below _ _ _ c.door_of-door.ensures _ _ c.in-Ok.ensures

pub cpu_of-requires : goal.cpu_of-requires
cpu_of-requires c = guest_sources _ _ _ c.door_of-door.ensures _ _ c.in-Ok.ensures

pub offset_bounds-plant-cpu_of : goal.offset_bounds-plant-cpu_of
offset_bounds-plant-cpu_of c = omega (arith, own_below _ _ _ c.cpu_of.ensures)

pub bounds-plant-cpu_of : goal.bounds-plant-cpu_of
bounds-plant-cpu_of c = own_below _ _ _ c.cpu_of.ensures

pub plant_event-done-requires : goal.plant_event-done-requires
plant_event-done-requires c = record { sound = guest_sound _ _ _ c.door_of-door.ensures _ _ c.in-Ok.ensures; own_value = own_taken _ _ _ c.cpu_of.ensures }

pub plant_after-requires : goal.plant_after-requires
plant_after-requires c = guest_cpus _ _ _ c.door_of-door.ensures _ _ c.in-Ok.ensures

pub with_plant-requires : goal.with_plant-requires
with_plant-requires c = omega (arith, guest_below _ _ _ c.door_of-door.ensures _ _ c.in-Ok.ensures)

pub returns-in-Err : goal.returns-in-Err
returns-in-Err c = settles_refused _ _ _ c.door_of-door.ensures _ _ _ c.in-Err.ensures c.refused.ensures

pub returns-in-Ok : goal.returns-in-Ok
returns-in-Ok c = settles_answered _ _ _ c.door_of-door.ensures _ _ _ c.in-Ok.ensures c.plant_event-done.result _ c.plant_event-done.ensures refl _ c.plant_after.ensures c.with_plant.ensures
