-- "Which calls exist", its second half: set version and get version.
use Rattle.std.specs.Prelude.{Bool, true, false, Option, Some, None, ◌&&◌, map, ℕ, leb, ltb, eqb, if◌then◌else◌}
use Rattle.rules.specs.Types.{Group, Source, Versions, Plant, One, Two, EINVAL, ENOTSUPPORTED}
use Rattle.rules.specs.Scan.{◌is_from◌to◌}
use Rattle.rules.specs.Kept.{with_versions, with_sources, with_enabled}
use Rattle.rules.specs.Rulings.{Ruling, Outcome, ◌or_refuse◌then◌, says}

-- groups 0, 1, 2 and 0x200
unfoldable pub group_of : ℕ → Option Group
group_of group =
    if eqb group 0 then Some Group.Sun4v else
    if eqb group 1 then Some Group.Core else
    if eqb group 2 then Some Group.Interrupt else
    if eqb group 0x200 then Some Group.Statistics else
    None

abbrev pub known : Option Group → Bool
known None = false
known (Some group) = true

-- "major not 1 (for group 2: not 1 or 2)": the majors that a group has, from 1 to this
abbrev pub newest : Option Group → ℕ
newest None = 0
newest (Some Group.Sun4v) = 1
newest (Some Group.Core) = 1
newest (Some Group.Interrupt) = 2
newest (Some Group.Statistics) = 1

-- the negotiated major, or 0
abbrev pub major_of : Versions → Option Group → ℕ
major_of v None = 0
major_of v (Some Group.Sun4v) = v.sun4v
major_of v (Some Group.Core) = v.core
major_of v (Some Group.Interrupt) = v.interrupt
major_of v (Some Group.Statistics) = v.statistics

abbrev pub with_major : Versions → Option Group → ℕ → Versions
with_major v None major = v
with_major v (Some Group.Sun4v) major = record { sun4v = major; core = v.core; interrupt = v.interrupt; statistics = v.statistics }
with_major v (Some Group.Core) major = record { sun4v = v.sun4v; core = major; interrupt = v.interrupt; statistics = v.statistics }
with_major v (Some Group.Interrupt) major = record { sun4v = v.sun4v; core = v.core; interrupt = major; statistics = v.statistics }
with_major v (Some Group.Statistics) major = record { sun4v = v.sun4v; core = v.core; interrupt = v.interrupt; statistics = major }

-- every source of the guest disabled
abbrev pub disabled : Source → Source
disabled s = with_enabled s 0

unfoldable pub all_disabled : Plant → Plant
all_disabled plant = with_sources plant (map disabled plant.source)

-- "Going to 2.0 in group 2 disables every source of the guest; repeating a version changes nothing." Only group 2 has a 2.0.
unfoldable pub negotiated : Plant → Option Group → ℕ → Plant
negotiated plant group major =
    if ltb (major_of plant.versions group) major && eqb major 2
    then all_disabled (with_versions plant (with_major plant.versions group major))
    else with_versions plant (with_major plant.versions group major)

-- "group not 0, 1, 2 or 0x200 EINVAL; major not 1 (for group 2: not 1 or 2) ENOTSUPPORTED; 2 back to 1 ENOTSUPPORTED.
-- Value 1 is the minor, always 0."
unfoldable pub set_version : Plant → ℕ → ℕ → Ruling Outcome
set_version plant group major =
    known (group_of group) or_refuse EINVAL then
    (major is_from 1 to newest (group_of group)) or_refuse ENOTSUPPORTED then
    leb (major_of plant.versions (group_of group)) major or_refuse ENOTSUPPORTED then
    says (One 0) (negotiated plant (group_of group) major)

-- "major and minor; EINVAL if unknown or not negotiated"
unfoldable pub get_version : Plant → ℕ → Ruling Outcome
get_version plant group =
    known (group_of group) or_refuse EINVAL then
    leb 1 (major_of plant.versions (group_of group)) or_refuse EINVAL then
    says (Two (major_of plant.versions (group_of group)) 0) plant
