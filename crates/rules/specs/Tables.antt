-- "Tables must hold": the rule on tables (101), as a test.
use Rattle.std.specs.Prelude.{Bool, true, false, Some, ◌&&◌, ◌||◌, not, ℕ, ◌/◌, ◌%◌, leb, ltb, eqb, if◌then◌else◌}
use Rattle.rules.specs.Types.{Group, Extent, Extents, Ring, QueueRecord, Tsb, Tsbs, Cpu, Source, Versions, Plant, Guest, Tables}
use Rattle.rules.specs.Limits.{guest_limit, cpu_limit, extent_limit, source_limit, queue_limit, tsb_limit, devhandles, devinos}
use Rattle.rules.specs.Scan.{all_below}
use Rattle.rules.specs.Kept.{guest_at, extent_at, present, cpu_at, queue_at, tsb_at, source_at}
use Rattle.rules.specs.Real.{valid}
use Rattle.rules.specs.Image.{extent_right, ascend, pages_shared, source_twice}
use Rattle.rules.specs.Versions.{major_of, newest}
use Rattle.rules.specs.Queues.{new_ring}
use Rattle.rules.specs.Tsb.{judged_tsb}
use Rattle.rules.specs.Memory.{new_statistics}
use Rattle.rules.specs.Sources.{enabled_value, state_value, cookie_value}
use Rattle.rules.specs.Rulings.{accepts}

-- a list of at most `limit` places, the first `count` of them right and the others blank
unfoldable pub list_right : ℕ → ℕ → (ℕ → Bool) → (ℕ → Bool) → Bool
list_right limit count right blank = leb count limit && all_below limit (λ i. if ltb i count then right i else blank i)

-- "the records of absent guests, cpus, extents, sources and list places stay so": unset, disabled, idle and 0

unfoldable pub extent_blank : Extent → Bool
extent_blank x = eqb x.real 0 && (eqb x.count 0 && eqb x.host 0)

abbrev pub record_blank : QueueRecord → Bool
record_blank QueueRecord.Unset = true
record_blank (QueueRecord.Set ring) = false

unfoldable pub tsb_blank : Tsb → Bool
tsb_blank t =
    (eqb t.index 0 && (eqb t.associativity 0 && eqb t.entries 0))
    && (eqb t.context 0 && (eqb t.mask 0 && eqb t.base 0))

unfoldable pub tsbs_blank : Tsbs → Bool
tsbs_blank tsbs = eqb tsbs.tsbs 0 && all_below tsb_limit (λ i. tsb_blank (tsb_at tsbs i))

unfoldable pub cpu_blank : Cpu → Bool
cpu_blank cpu =
    all_below queue_limit (λ q. record_blank (queue_at cpu q))
    && (tsbs_blank cpu.ctx0 && (tsbs_blank cpu.ctxnon0 && eqb cpu.statistics 0))

unfoldable pub source_blank : Source → Bool
source_blank s =
    (eqb s.devhandle 0 && (eqb s.devino 0 && not s.cookies))
    && ((eqb s.enabled 0 && eqb s.state 0) && (eqb s.target 0 && eqb s.cookie 0))

unfoldable pub versions_blank : Versions → Bool
versions_blank v = (eqb v.sun4v 0 && eqb v.core 0) && (eqb v.interrupt 0 && eqb v.statistics 0)

unfoldable pub extents_blank : Extents → Bool
extents_blank extents = eqb extents.extents 0 && all_below extent_limit (λ i. extent_blank (extent_at extents i))

unfoldable pub plant_blank : Plant → Bool
plant_blank plant =
    (versions_blank plant.versions && (eqb plant.cpus 0 && eqb plant.sources 0))
    && (all_below cpu_limit (λ c. cpu_blank (cpu_at plant c)) && all_below source_limit (λ i. source_blank (source_at plant i)))

unfoldable pub guest_blank : Guest → Bool
guest_blank guest = extents_blank guest.extents && plant_blank guest.plant

-- "each record unset or as its call would accept it; head and tail multiples of 64 below the ring's size"

unfoldable pub place_right : ℕ → ℕ → Bool
place_right size at = eqb (at % 64) 0 && ltb at size

unfoldable pub ring_right : (ℕ → ℕ → Bool) → Ring → Bool
ring_right valid ring =
    (eqb (ring.size % 64) 0 && accepts (new_ring valid ring.base (ring.size / 64)))
    && (place_right ring.size ring.head && place_right ring.size ring.tail)

abbrev pub record_right : (ℕ → ℕ → Bool) → QueueRecord → Bool
record_right valid QueueRecord.Unset = true
record_right valid (QueueRecord.Set ring) = ring_right valid ring

unfoldable pub tsbs_right : (ℕ → ℕ → Bool) → Tsbs → Bool
tsbs_right valid tsbs = list_right tsb_limit tsbs.tsbs (λ i. accepts (judged_tsb valid (tsb_at tsbs i))) (λ i. tsb_blank (tsb_at tsbs i))

unfoldable pub cpu_right : (ℕ → ℕ → Bool) → Cpu → Bool
cpu_right valid cpu =
    all_below queue_limit (λ q. record_right valid (queue_at cpu q))
    && (tsbs_right valid cpu.ctx0 && (tsbs_right valid cpu.ctxnon0 && accepts (new_statistics valid cpu.statistics)))

-- "versions as negotiable": the major of each group 0, where none is, or one that it has
abbrev pub major_right : Versions → Group → Bool
major_right v group = leb (major_of v (Some group)) (newest (Some group))

unfoldable pub versions_right : Versions → Bool
versions_right v = (major_right v Group.Sun4v && major_right v Group.Core) && (major_right v Group.Interrupt && major_right v Group.Statistics)

-- "a cookie 0, or above 2,047 with group 2 at 2.0 and support"
unfoldable pub cookie_right : ℕ → Source → Bool
cookie_right major s = eqb s.cookie 0 || (cookie_value s.cookie && (eqb major 2 && s.cookies))

-- "a source is disabled while group 2 is not negotiated, and under 2.0 with cookie 0"
unfoldable pub enabled_right : ℕ → Source → Bool
enabled_right major s = eqb s.enabled 0 || not (eqb major 0 || (eqb major 2 && eqb s.cookie 0))

-- "the image's rules" of a source; "enabled 0 or 1, state 0 to 2, target .. a cpuid of the guest" (left out: "unset or", by
-- request No. 7)
unfoldable pub source_right : Plant → Source → Bool
source_right plant s =
    (ltb s.devhandle devhandles && ltb s.devino devinos)
    && ((enabled_value s.enabled && state_value s.state)
    && (ltb s.target plant.cpus
    && (cookie_right plant.versions.interrupt s && enabled_right plant.versions.interrupt s)))

-- "the image's rules" of a guest's extents
unfoldable pub extents_keep : Extents → Bool
extents_keep extents =
    leb 1 extents.extents
    && (list_right extent_limit extents.extents (λ i. extent_right (extent_at extents i)) (λ i. extent_blank (extent_at extents i))
    && ascend extents)

unfoldable pub plant_keeps : (ℕ → ℕ → Bool) → Plant → Bool
plant_keeps valid plant =
    (leb 1 plant.cpus && versions_right plant.versions)
    && (list_right cpu_limit plant.cpus (λ c. cpu_right valid (cpu_at plant c)) (λ c. cpu_blank (cpu_at plant c))
    && list_right source_limit plant.sources (λ i. source_right plant (source_at plant i)) (λ i. source_blank (source_at plant i)))

unfoldable pub guest_keeps : Guest → Bool
guest_keeps guest = extents_keep guest.extents && plant_keeps (valid (present guest.extents)) guest.plant

-- the tables hold. "Tables with no guest keep these rules."
unfoldable pub keep_rules : Tables → Bool
keep_rules tables =
    list_right guest_limit tables.guests (λ g. guest_keeps (guest_at tables g)) (λ g. guest_blank (guest_at tables g))
    && (not (pages_shared tables) && not (source_twice tables))
