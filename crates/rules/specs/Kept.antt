-- "What the host keeps": each record as it is after loading, where it is found in the tables, and the tables with it replaced.
use Rattle.std.specs.Prelude.{false, List, [], ℕ, get_or, set, replicate, take}
use Rattle.rules.specs.Types.{Extent, Extents, Ring, QueueRecord, Queue, Tsb, Tsbs, Cpu, Source, Versions, Plant, Guest, Tables}
use Rattle.rules.specs.Limits.{guest_limit, cpu_limit, extent_limit, source_limit, queue_limit, tsb_limit}

-- "After loading, all is unset, disabled, idle and 0, and the records of absent guests, cpus, extents, sources and list places stay so."

abbrev pub blank_extent : Extent
blank_extent = record { real = 0; count = 0; host = 0 }

abbrev pub blank_queue : Queue
blank_queue = record { held = QueueRecord.Unset }

abbrev pub blank_tsb : Tsb
blank_tsb = record { index = 0; associativity = 0; entries = 0; context = 0; mask = 0; base = 0 }

abbrev pub blank_tsbs : Tsbs
blank_tsbs = record { tsbs = 0; tsb = replicate tsb_limit blank_tsb }

abbrev pub blank_cpu : Cpu
blank_cpu = record { queue = replicate queue_limit blank_queue; ctx0 = blank_tsbs; ctxnon0 = blank_tsbs; statistics = 0 }

-- by request No. 7: "After loading, each source's target shall be cpu 0 and not unset"
abbrev pub blank_source : Source
blank_source = record { devhandle = 0; devino = 0; cookies = false; enabled = 0; state = 0; target = 0; cookie = 0 }

abbrev pub no_versions : Versions
no_versions = record { sun4v = 0; core = 0; interrupt = 0; statistics = 0 }

abbrev pub blank_guest : Guest
blank_guest = record {
  extents = record { extents = 0; extent = replicate extent_limit blank_extent };
  plant = record { versions = no_versions; cpus = 0; cpu = replicate cpu_limit blank_cpu; sources = 0; source = replicate source_limit blank_source };
}

-- the tables with no guest
unfoldable pub no_guests : Tables
no_guests = record { guests = 0; guest = replicate guest_limit blank_guest }

-- Where a record is found. What stands past the end of a list is a record with nothing in it; no rule reads there.

abbrev pub hollow_cpu : Cpu
hollow_cpu = record { queue = []; ctx0 = record { tsbs = 0; tsb = [] }; ctxnon0 = record { tsbs = 0; tsb = [] }; statistics = 0 }

abbrev pub hollow_guest : Guest
hollow_guest = record {
  extents = record { extents = 0; extent = [] };
  plant = record { versions = no_versions; cpus = 0; cpu = []; sources = 0; source = [] };
}

abbrev pub guest_at : Tables → ℕ → Guest
guest_at tables g = get_or tables.guest g hollow_guest

abbrev pub plant_at : Tables → ℕ → Plant
plant_at tables g = (guest_at tables g).plant

abbrev pub extent_at : Extents → ℕ → Extent
extent_at extents i = get_or extents.extent i blank_extent

-- the extents that are there, and those of a guest
abbrev pub present : Extents → List Extent
present extents = take extents.extents extents.extent

abbrev pub extents_of : Tables → ℕ → List Extent
extents_of tables g = present (guest_at tables g).extents

abbrev pub cpu_at : Plant → ℕ → Cpu
cpu_at plant c = get_or plant.cpu c hollow_cpu

abbrev pub queue_at : Cpu → ℕ → QueueRecord
queue_at cpu q = (get_or cpu.queue q blank_queue).held

abbrev pub tsb_at : Tsbs → ℕ → Tsb
tsb_at tsbs i = get_or tsbs.tsb i blank_tsb

abbrev pub source_at : Plant → ℕ → Source
source_at plant i = get_or plant.source i blank_source

-- A record replaced, and all else as it was.

abbrev pub with_plant : Tables → ℕ → Plant → Tables
with_plant tables g plant = record {
  guests = tables.guests;
  guest = set tables.guest g (record { extents = (guest_at tables g).extents; plant = plant });
}

abbrev pub with_versions : Plant → Versions → Plant
with_versions plant versions = record { versions = versions; cpus = plant.cpus; cpu = plant.cpu; sources = plant.sources; source = plant.source }

abbrev pub with_cpu : Plant → ℕ → Cpu → Plant
with_cpu plant c cpu = record { versions = plant.versions; cpus = plant.cpus; cpu = set plant.cpu c cpu; sources = plant.sources; source = plant.source }

abbrev pub with_sources : Plant → List Source → Plant
with_sources plant sources = record { versions = plant.versions; cpus = plant.cpus; cpu = plant.cpu; sources = plant.sources; source = sources }

unfoldable pub with_source : Plant → ℕ → Source → Plant
with_source plant i source = with_sources plant (set plant.source i source)

abbrev pub cpu_with_queue : Cpu → ℕ → QueueRecord → Cpu
cpu_with_queue cpu q held = record { queue = set cpu.queue q (record { held = held }); ctx0 = cpu.ctx0; ctxnon0 = cpu.ctxnon0; statistics = cpu.statistics }

unfoldable pub with_queue : Plant → ℕ → ℕ → QueueRecord → Plant
with_queue plant c q held = with_cpu plant c (cpu_with_queue (cpu_at plant c) q held)

abbrev pub cpu_with_ctx0 : Cpu → Tsbs → Cpu
cpu_with_ctx0 cpu tsbs = record { queue = cpu.queue; ctx0 = tsbs; ctxnon0 = cpu.ctxnon0; statistics = cpu.statistics }

unfoldable pub with_ctx0 : Plant → ℕ → Tsbs → Plant
with_ctx0 plant c tsbs = with_cpu plant c (cpu_with_ctx0 (cpu_at plant c) tsbs)

abbrev pub cpu_with_ctxnon0 : Cpu → Tsbs → Cpu
cpu_with_ctxnon0 cpu tsbs = record { queue = cpu.queue; ctx0 = cpu.ctx0; ctxnon0 = tsbs; statistics = cpu.statistics }

unfoldable pub with_ctxnon0 : Plant → ℕ → Tsbs → Plant
with_ctxnon0 plant c tsbs = with_cpu plant c (cpu_with_ctxnon0 (cpu_at plant c) tsbs)

abbrev pub cpu_with_statistics : Cpu → ℕ → Cpu
cpu_with_statistics cpu a = record { queue = cpu.queue; ctx0 = cpu.ctx0; ctxnon0 = cpu.ctxnon0; statistics = a }

unfoldable pub with_statistics : Plant → ℕ → ℕ → Plant
with_statistics plant c a = with_cpu plant c (cpu_with_statistics (cpu_at plant c) a)

abbrev pub with_head : Ring → ℕ → Ring
with_head ring head = record { base = ring.base; size = ring.size; head = head; tail = ring.tail }

abbrev pub with_tail : Ring → ℕ → Ring
with_tail ring tail = record { base = ring.base; size = ring.size; head = ring.head; tail = tail }

abbrev pub with_enabled : Source → ℕ → Source
with_enabled s enabled = record { devhandle = s.devhandle; devino = s.devino; cookies = s.cookies; enabled = enabled; state = s.state; target = s.target; cookie = s.cookie }

abbrev pub with_state : Source → ℕ → Source
with_state s state = record { devhandle = s.devhandle; devino = s.devino; cookies = s.cookies; enabled = s.enabled; state = state; target = s.target; cookie = s.cookie }

abbrev pub with_target : Source → ℕ → Source
with_target s target = record { devhandle = s.devhandle; devino = s.devino; cookies = s.cookies; enabled = s.enabled; state = s.state; target = target; cookie = s.cookie }

abbrev pub with_cookie : Source → ℕ → Source
with_cookie s cookie = record { devhandle = s.devhandle; devino = s.devino; cookies = s.cookies; enabled = s.enabled; state = s.state; target = s.target; cookie = cookie }
