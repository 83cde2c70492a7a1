-- Not vacuous: demand 3, of the worked session's host and a second one that differs from it in all that may differ.
use Rattle.std.proofs.Common.{Option, Some, None}
use Rattle.rules.specs.declared.Host.{Host}
use mathlib.Core.Path.{◌≡◌, refl, sym, ◌∙◌}
use mathlib.Core.Bool.{true}
use mathlib.Core.List.{List, [], ◌∷◌}
use Prim.Native.Nat.{ℕ}
use native.Mathlib.Omega.{arith}
use lib.ListN.{length, replicate}
use Rattle.rules.specs.declared.Answer.TheVariants.{Done, One, Refused}
use Rattle.rules.specs.declared.Event.{Event}
use Rattle.rules.specs.declared.Extent.{Extent}
use Rattle.rules.specs.declared.Refusal.TheVariants.{NoSource}
use Rattle.rules.specs.declared.Tables.{Tables}
use Rattle.rules.specs.Kept.{blank_cpu, blank_source, blank_guest, no_versions}
use Rattle.rules.specs.Real.{located, byte_there, byte_at}
use Rattle.rules.specs.Rulings.{granted}
use Rattle.rules.specs.Image.{read_image}
use Rattle.rules.specs.Host.{owner_of, long_enough, host_event}
use Rattle.rules.proofs.Computing.{computing}
use Rattle.rules.proofs.Worked.{run, in_places}
use Rattle.rules.proofs.Examples.{worked_image, worked_guest, worked_tables, call, ring}
use Rattle.rules.proofs.AcceptedCalls.{storing, loading}
use Rattle.kept.proofs.Accepted.{past_blank}
use Rattle.promises.specs.Words.{belongs, own_events, own_answers}
use Rattle.promises.specs.Promises.{SamePlant, SameEnd}
use Rattle.promises.proofs.TwoHosts.{demand_3}
use Rattle.promises.proofs.NotVacuous.{worked_accepted}

-- `image 12 221 0000000 0001 0003 0000100 0b 120 0000000 0002 0000 0`: guest 0 has the same cpus, real page and source, on host
-- page 3; guest 1 has two pages, on host pages 0 and 1, and no source
abbrev pub other_image : List ℕ
other_image =
    0x12 ∷ 0x22 ∷ 0x10 ∷ 0x00 ∷ 0x00 ∷ 0x00 ∷ 0x00 ∷ 0x01 ∷ 0x00 ∷ 0x03 ∷ 0x00 ∷ 0x00 ∷ 0x10 ∷ 0x00 ∷ 0xb1
    ∷ 0x20 ∷ 0x00 ∷ 0x00 ∷ 0x00 ∷ 0x00 ∷ 0x00 ∷ 0x20 ∷ 0x00 ∷ 0x00 ∷ []

abbrev pub other_tables : Tables
other_tables = record {
  guests = 2;
  guest = worked_guest 2 3 0x100 ∷ record {
    extents = record { extents = 1; extent = in_places (run 0 2 0 ∷ []) };
    plant = record { versions = no_versions; cpus = 1; cpu = replicate 8 blank_cpu; sources = 0; source = replicate 16 blank_source };
  } ∷ blank_guest ∷ blank_guest ∷ [];
}

-- It is accepted.
pub other_accepted : read_image other_image ≡ granted other_tables
unfolding computing
other_accepted = refl

-- 32 KiB of zeros
abbrev pub zeros : List ℕ
zeros = replicate 32768 0

-- every byte that a guest sees of them is 0
pub zero_seen : (es : List Extent) (a : ℕ) → byte_at es zeros a ≡ 0
unfolding byte_at
zero_seen es a = there (located es a)
  where
    there : (p : Option Host) → byte_there zeros p ≡ 0
    there None = refl
    there (Some h) = past_blank 32768 0 h.0

-- They are enough for both.
enough : long_enough worked_tables (length zeros) ≡ true
unfolding computing
enough = refl

enough' : long_enough other_tables (length zeros) ≡ true
unfolding computing
enough' = refl

-- Guest 0 is the same plant in both.
pub same_plant : SamePlant worked_tables other_tables zeros zeros 0
same_plant = record {
  here = omega arith;
  there = omega arith;
  cpus = refl;
  extents = (refl, refl, tt);
  sources = refl;
  source = refl;
  byte = λ a. zero_seen _ a ∙ sym (zero_seen _ a);
}

-- Demand 3 of guest 0 on these two hosts: all that it asks holds, but for the events, which are any.
pub the_same_elsewhere : (events events' : List Event) → own_events (belongs worked_tables 0) events ≡ own_events (belongs other_tables 0) events'
    → SameEnd worked_tables other_tables zeros zeros 0 events events'
the_same_elsewhere = demand_3 worked_image other_image worked_tables other_tables zeros zeros worked_accepted enough other_accepted enough' 0 same_plant

-- events of guest 0, and the same with its neighbour's between them
abbrev pub own : List Event
own = call 0xff 0 1 1 0 ∷ ring 0x80 2 ∷ storing 0 0x100 7 ∷ loading 0 0x100 ∷ []

abbrev pub mixed : List Event
mixed = storing 1 0x100 9 ∷ call 0xff 0 1 1 0 ∷ ring 0x80 2 ∷ storing 0 0x100 7 ∷ storing 1 0x2100 9 ∷ loading 0 0x100 ∷ storing 1 0 9 ∷ []

own_events_lem : own_events (belongs worked_tables 0) own ≡ own_events (belongs other_tables 0) mixed
unfolding computing own_events
own_events_lem = refl

-- For instance: what the worked session's host answers to its own events alone,
pub own_answers_lem : own_answers (belongs worked_tables 0) worked_tables zeros own ≡ One 0 ∷ Done ∷ Done ∷ One 7 ∷ []
unfolding computing own_answers
own_answers_lem = refl

-- the other host answers with its neighbour's between them.
pub mixed_answers : own_answers (belongs other_tables 0) other_tables zeros mixed ≡ One 0 ∷ Done ∷ Done ∷ One 7 ∷ []
mixed_answers = sym (the_same_elsewhere own mixed own_events_lem).answers ∙ own_answers_lem

-- A raise that is the neighbour's in one host and nobody's in the other: guest 1 has the source 0x200 5 in the first only.
abbrev pub raising : Event
raising = Event.Raise (record { devhandle = 0x200; devino = 5 })

pub raise_here : (owner_of worked_tables raising ≡ Some 1) × ((host_event worked_tables zeros raising).answer ≡ One 1)
unfolding computing
raise_here = (refl, refl)

pub raise_there : (owner_of other_tables raising ≡ None) × ((host_event other_tables zeros raising).answer ≡ Refused NoSource)
unfolding computing
raise_there = (refl, refl)

-- one list of events for both hosts, with that raise between guest 0's own
abbrev pub raised : List Event
raised = call 0xff 0 1 1 0 ∷ raising ∷ ring 0x80 2 ∷ storing 0 0x100 7 ∷ raising ∷ loading 0 0x100 ∷ []

raised_own : own_events (belongs worked_tables 0) raised ≡ own_events (belongs other_tables 0) raised
unfolding computing own_events
raised_own = refl

-- Guest 0 gets the same from both, and ends the same.
pub raise_unseen : SameEnd worked_tables other_tables zeros zeros 0 raised raised
raise_unseen = the_same_elsewhere raised raised raised_own

-- Its own events are the four above, and their answers too.
pub raised_answers : (own_events (belongs worked_tables 0) raised ≡ own) × (own_answers (belongs other_tables 0) other_tables zeros raised ≡ One 0 ∷ Done ∷ Done ∷ One 7 ∷ [])
unfolding computing own_events own_answers
raised_answers = (refl, refl)
