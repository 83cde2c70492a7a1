-- The worked session's image and tables, and events by their numbers.
use mathlib.Core.Bool.{true}
use mathlib.Core.List.{List, [], ◌∷◌, ◌++◌}
use Prim.Native.Nat.{ℕ, ◌-◌}
use lib.ListN.{length, replicate}
use Rattle.rules.specs.Types.{Extent, Guest, Tables, Event}
use Rattle.rules.specs.Limits.{extent_limit}
use Rattle.rules.specs.Kept.{blank_extent, blank_cpu, blank_source, blank_guest, no_versions}

-- the image of the session's first line
abbrev pub worked_image : List ℕ
worked_image =
    0x12 ∷ 0x22 ∷ 0x10 ∷ 0x00 ∷ 0x00 ∷ 0x00 ∷ 0x00 ∷ 0x01 ∷ 0x00 ∷ 0x00 ∷ 0x00 ∷ 0x00 ∷ 0x10 ∷ 0x00 ∷ 0xb1
    ∷ 0x21 ∷ 0x00 ∷ 0x00 ∷ 0x00 ∷ 0x00 ∷ 0x00 ∷ 0x10 ∷ 0x00 ∷ 0x10 ∷ 0x00 ∷ 0x02 ∷ 0x00 ∷ 0x0b ∷ []

-- an extent; and all the places that a guest has for extents, with these in the first of them
abbrev pub run : ℕ → ℕ → ℕ → Extent
run real count host = record { real = real; count = count; host = host }

abbrev pub in_places : List Extent → List Extent
in_places list = list ++ replicate (extent_limit - length list) blank_extent

-- a guest of the image: its cpus, one page at real 0 on a host page, and one source of devino 5 that supports cookies
abbrev pub worked_guest : ℕ → ℕ → ℕ → Guest
worked_guest cpus host devhandle = record {
  extents = record { extents = 1; extent = in_places (run 0 1 host ∷ []) };
  plant = record {
    versions = no_versions;
    cpus = cpus;
    cpu = replicate 8 blank_cpu;
    sources = 1;
    source = record { devhandle = devhandle; devino = 5; cookies = true; enabled = 0; state = 0; target = 0; cookie = 0 } ∷ replicate 15 blank_source;
  };
}

abbrev pub worked_tables : Tables
worked_tables = record { guests = 2; guest = worked_guest 2 0 0x100 ∷ worked_guest 1 1 0x200 ∷ blank_guest ∷ blank_guest ∷ [] }

-- a call of guest 0, cpu 0
abbrev pub call : ℕ → ℕ → ℕ → ℕ → ℕ → Event
call trap function a b c =
    Event.Call (record { guest = 0; cpu = 0; trap = trap; function = function; arg0 = a; arg1 = b; arg2 = c; arg3 = 0; arg4 = 0 })

-- events: a call and a head write by any cpu of guest 0, a store and a load
abbrev pub call_by : ℕ → ℕ → ℕ → ℕ → ℕ → Event
call_by cpu function a b c =
    Event.Call (record { guest = 0; cpu = cpu; trap = 0x80; function = function; arg0 = a; arg1 = b; arg2 = c; arg3 = 0; arg4 = 0 })

abbrev pub head_by : ℕ → ℕ → ℕ → Event
head_by cpu queue value = Event.Head (record { guest = 0; cpu = cpu; queue = queue; value = value })

abbrev pub storing : ℕ → ℕ → ℕ → Event
storing guest address value = Event.Store (record { guest = guest; address = address; value = value })

abbrev pub loading : ℕ → ℕ → Event
loading guest address = Event.Load (record { guest = guest; address = address })
