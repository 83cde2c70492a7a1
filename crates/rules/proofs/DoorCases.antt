-- "Entry to every event": tables that each break one rule of the paper answer 101, and the other refusals at the door. A rule on
-- tables that is too wide would pass unseen otherwise, since no session leads to such tables.
use mathlib.Core.Path.{◌≡◌, refl}
use mathlib.Core.Bool.{Bool, true, false}
use mathlib.Core.List.{List, [], ◌∷◌, ◌++◌}
use Prim.Native.Nat.{ℕ, zero, suc, ◌+◌, ◌-◌, ◌*◌}
use Prim.Native.String.{String}
use lib.ListN.{replicate, set}
use Rattle.rules.specs.Types.{Extent, QueueRecord, Tsb, Tsbs, Source, Versions, Plant, Guest, Tables}
use Rattle.rules.specs.Limits.{extent_limit, page_size}
use Rattle.rules.specs.Kept.{blank_extent, blank_tsb, blank_cpu, blank_source, blank_guest, no_versions, source_at, with_plant, with_versions, with_source, with_queue, with_ctx0, with_ctxnon0, with_statistics, with_enabled, with_state, with_target, with_cookie}
use Rattle.rules.specs.Statuses.{numbers}
use Rattle.rules.specs.Image.{filled}
use Rattle.rules.specs.Tables.{keep_rules}
use Rattle.rules.specs.Host.{host_event}
use Rattle.rules.proofs.Computing.{computing}
use Rattle.rules.proofs.Worked.{run, in_places, worked_guest, loading}
use Rattle.rules.proofs.Changes.{comparing}
use Rattle.rules.proofs.Sessions.{Exchange, ◌prints◌, after, heard, Cases}

-- The right tables that the others are made from, by one change each: two guests of the worked image, on host pages 1 and 2.
abbrev pub guest0 : Guest
guest0 = worked_guest 2 1 0x100

abbrev pub guest1 : Guest
guest1 = worked_guest 1 2 0x200

abbrev pub base : Tables
base = record { guests = 2; guest = guest0 ∷ guest1 ∷ blank_guest ∷ blank_guest ∷ [] }

abbrev pub counting : ℕ → List Guest → Tables
counting guests list = record { guests = guests; guest = list }

-- another record in a guest's place; guest 0 with another plant; with extents in the first of its places, of which so many count
abbrev pub placed : ℕ → Guest → Tables
placed g guest = record { guests = 2; guest = set base.guest g guest }

abbrev pub plants : Plant → Tables
plants plant = with_plant base 0 plant

abbrev pub extended : ℕ → List Extent → Tables
extended count list = placed 0 (record { extents = record { extents = count; extent = in_places list }; plant = guest0.plant })

-- the places of a guest with these extents, and with one more in the last of them
abbrev pub last_place : List Extent → Extent → List Extent
last_place list x = set (in_places list) (extent_limit - 1) x

abbrev pub at : ℕ → ℕ → ℕ → ℕ → Versions
at sun4v core interrupt statistics = record { sun4v = sun4v; core = core; interrupt = interrupt; statistics = statistics }

abbrev pub counted : ℕ → ℕ → Plant → Plant
counted cpus sources plant = record { versions = plant.versions; cpus = cpus; cpu = plant.cpu; sources = sources; source = plant.source }

-- guest 0 with a queue record of a cpu; with a list for context 0, and for the others, and a statistics address
abbrev pub ringed : ℕ → ℕ → ℕ → ℕ → ℕ → ℕ → Tables
ringed c q base size head tail =
    plants (with_queue guest0.plant c q (QueueRecord.Set (record { base = base; size = size; head = head; tail = tail })))

abbrev pub listed : ℕ → List Tsb → Tsbs
listed count list = record { tsbs = count; tsb = list }

abbrev pub ctx0 : ℕ → Tsbs → Tables
ctx0 c list = plants (with_ctx0 guest0.plant c list)

abbrev pub ctxnon0 : ℕ → Tsbs → Tables
ctxnon0 c list = plants (with_ctxnon0 guest0.plant c list)

abbrev pub tsb : ℕ → ℕ → ℕ → ℕ → ℕ → ℕ → Tsb
tsb index associativity entries context mask base =
    record { index = index; associativity = associativity; entries = entries; context = context; mask = mask; base = base }

abbrev pub right_tsb : Tsb
right_tsb = tsb 0 1 512 0 1 0

-- a list of one, that one; a list of one right descriptor, and what stands in the place behind it
abbrev pub only : Tsb → Tables
only t = ctx0 0 (listed 1 (t ∷ replicate 3 blank_tsb))

abbrev pub behind : Tsb → Tables
behind t = ctx0 0 (listed 1 (right_tsb ∷ t ∷ replicate 2 blank_tsb))

-- a descriptor of 32 pages, where guest 0 has so many
abbrev pub spread : ℕ → Tables
spread pages = placed 0 (record {
  extents = record { extents = 1; extent = in_places (run 0 pages 3 ∷ []) };
  plant = with_ctx0 guest0.plant 0 (listed 1 (tsb 0 1 16384 0 1 0 ∷ replicate 3 blank_tsb));
})

abbrev pub statistics : ℕ → ℕ → Tables
statistics c address = plants (with_statistics guest0.plant c address)

-- group 2 at a version, and source i of guest 0 changed
abbrev pub sourced : ℕ → ℕ → (Source → Source) → Tables
sourced interrupt i f =
    let plant : Plant = with_versions guest0.plant (at 0 0 interrupt 0) in
    plants (with_source plant i (f (source_at plant i)))

abbrev pub described : ℕ → ℕ → Bool → Source → Source
described devhandle devino cookies s = record {
  devhandle = devhandle;
  devino = devino;
  cookies = cookies;
  enabled = s.enabled;
  state = s.state;
  target = s.target;
  cookie = s.cookie;
}

-- another devhandle and devino; cookie support; none, and a cookie
abbrev pub called : ℕ → ℕ → Source → Source
called devhandle devino s = described devhandle devino s.cookies s

abbrev pub supported : Source → Source
supported s = described s.devhandle s.devino true s

abbrev pub unsupported : ℕ → Source → Source
unsupported cookie s = with_cookie (described s.devhandle s.devino false s) cookie

-- n sources that are told apart by devino
unfoldable pub many : ℕ → List Source
many zero = []
many (suc n) = called 0x300 n blank_source ∷ many n

abbrev pub full : ℕ → Plant
full sources = record { versions = no_versions; cpus = 8; cpu = replicate 8 blank_cpu; sources = sources; source = many 16 }

-- as many extents as a guest can have, of a page each: the first two touch in real pages, and all of them on the host, from page 3 on
abbrev pub most_extents : List Extent
most_extents = filled extent_limit blank_extent (λ i. run (i * i) 1 (3 + i)) extent_limit

abbrev pub full_guest : Guest
full_guest = record { extents = record { extents = extent_limit; extent = most_extents }; plant = full 16 }

-- four guests
abbrev pub four : List Guest
four = guest0 ∷ guest1 ∷ full_guest ∷ worked_guest 1 0 0x400 ∷ []

-- an absent guest's place with something in it
abbrev pub ghost : Plant → Tables
ghost plant = placed 3 (record { extents = blank_guest.extents; plant = plant })

-- "Tables must hold": each of these breaks one rule
abbrev pub broken : List Tables
broken =
    -- "Guests 0 to 3"
    counting 5 four
    -- "the records of absent guests .. stay so": extents, versions, counts, a cpu's record, a source's
    ∷ placed 3 (record { extents = record { extents = 1; extent = in_places [] }; plant = blank_guest.plant })
    ∷ placed 3 (record { extents = record { extents = 0; extent = last_place [] (run 1 0 0) }; plant = blank_guest.plant })
    ∷ ghost (with_versions blank_guest.plant (at 1 0 0 0))
    ∷ ghost (with_versions blank_guest.plant (at 0 1 0 0))
    ∷ ghost (with_versions blank_guest.plant (at 0 0 1 0))
    ∷ ghost (with_versions blank_guest.plant (at 0 0 0 1))
    ∷ ghost (counted 1 0 blank_guest.plant)
    ∷ ghost (counted 0 1 blank_guest.plant)
    ∷ ghost (with_statistics blank_guest.plant 7 0x40)
    ∷ ghost (with_source blank_guest.plant 15 (with_state blank_source 1))
    -- "1 to 8 cpus"; "0 to 16 interrupt sources"; "1 to 4 extents", of which the limit "goes from 4 to 7"
    ∷ plants (counted 0 1 guest0.plant)
    ∷ plants (counted 9 1 guest0.plant)
    ∷ plants (full 17)
    ∷ extended 0 []
    ∷ extended 8 most_extents
    -- "page count at least 1; real page plus count at most 2^28; host page plus count at most 65,536"
    ∷ extended 1 (run 0 0 1 ∷ [])
    ∷ extended 1 (run 0xfff_ffff 2 5 ∷ [])
    ∷ extended 1 (run 0 2 0xffff ∷ [])
    ∷ extended 7 (last_place most_extents (run 99 0 9))
    -- "a guest's extents ascend in real page without overlap"
    ∷ extended 2 (run 8 1 1 ∷ run 0 1 5 ∷ [])
    ∷ extended 2 (run 0 2 5 ∷ run 1 1 1 ∷ [])
    ∷ extended 7 (last_place most_extents (run 24 1 9))
    -- "every run of host pages is compared with every other"; "no two sources on the host have the same devhandle and devino"
    ∷ extended 1 (run 0 1 2 ∷ [])
    ∷ extended 7 (last_place most_extents (run 99 1 3))
    ∷ sourced 0 0 (λ s. called 0x200 5 s)
    -- absent extents: on the host, page 0 is nobody's
    ∷ extended 1 (run 0 1 1 ∷ run 8 0 0 ∷ [])
    ∷ extended 1 (run 0 1 1 ∷ blank_extent ∷ run 0 1 0 ∷ [])
    ∷ extended 1 (last_place (run 0 1 1 ∷ []) (run 0 0 1))
    ∷ extended 6 most_extents
    -- absent cpus: a queue record, both lists with their counts and places, the statistics address
    ∷ ringed 2 0 0x80 128 0 0
    ∷ ringed 7 3 0x80 128 0 0
    ∷ ctx0 2 (listed 1 (replicate 4 blank_tsb))
    ∷ ctx0 2 (listed 0 (replicate 3 blank_tsb ++ (right_tsb ∷ [])))
    ∷ ctxnon0 2 (listed 1 (replicate 4 blank_tsb))
    ∷ ctxnon0 2 (listed 0 (right_tsb ∷ replicate 3 blank_tsb))
    ∷ statistics 2 0x40
    -- absent sources: each of their fields
    ∷ sourced 1 1 (called 1 0)
    ∷ sourced 1 15 (called 0 1)
    ∷ sourced 1 1 supported
    ∷ sourced 1 1 (λ s. with_enabled s 1)
    ∷ sourced 1 1 (λ s. with_state s 1)
    ∷ sourced 1 1 (λ s. with_target s 1)
    ∷ sourced 1 1 (λ s. with_cookie s 0x800)
    -- "each record unset or as its call would accept it": n 1, 3 and 512, base off 64n, range not valid; the last cpu and queue
    ∷ ringed 0 0 0x40 64 0 0
    ∷ ringed 0 0 0 192 0 0
    ∷ ringed 0 0 0x40 128 0 0
    ∷ ringed 0 0 0x2000 128 0 0
    ∷ ringed 1 3 0x2000 128 0 0
    -- a size off 64; "head and tail multiples of 64 below the ring's size"
    ∷ ringed 0 0 0x80 130 0 0
    ∷ ringed 0 0 0x80 128 32 0
    ∷ ringed 0 0 0x80 128 128 0
    ∷ ringed 0 0 0x80 128 0 32
    ∷ ringed 0 0 0x80 128 0 128
    -- a descriptor that 0x20 would refuse by each of its statuses; in the last place; in the other list
    ∷ only (tsb 2 1 512 0 1 0)
    ∷ only (tsb 0 1 512 0 5 0)
    ∷ only (tsb 0 2 512 0 1 0)
    ∷ only (tsb 0 1 512 1 1 0)
    ∷ only (tsb 0 1 512 0 1 0x10)
    ∷ only (tsb 0 1 512 0 1 0x2000)
    ∷ spread 31
    ∷ ctx0 1 (listed 4 (replicate 3 right_tsb ++ (blank_tsb ∷ [])))
    ∷ ctxnon0 1 (listed 1 (replicate 4 blank_tsb))
    -- "two TSB lists of at most 4"; list places behind the count: each of their fields
    ∷ ctx0 0 (listed 5 (replicate 4 right_tsb))
    ∷ behind (tsb 1 0 0 0 0 0)
    ∷ behind (tsb 0 1 0 0 0 0)
    ∷ behind (tsb 0 0 1 0 0 0)
    ∷ behind (tsb 0 0 0 1 0 0)
    ∷ behind (tsb 0 0 0 0 1 0)
    ∷ behind (tsb 0 0 0 0 0 1)
    ∷ ctxnon0 0 (listed 0 (replicate 3 blank_tsb ++ (right_tsb ∷ [])))
    -- a statistics address that 0x102 would refuse: off 64, 512 bytes not valid
    ∷ statistics 0 0x41
    ∷ statistics 1 0x1e40
    -- "versions as negotiable"
    ∷ plants (with_versions guest0.plant (at 2 0 0 0))
    ∷ plants (with_versions guest0.plant (at 0 2 0 0))
    ∷ plants (with_versions guest0.plant (at 0 0 3 0))
    ∷ plants (with_versions guest0.plant (at 0 0 0 2))
    -- devhandle 28 bits, devino 7; "enabled 0 or 1, state 0 to 2, target .. a cpuid of the guest"
    ∷ sourced 0 0 (called 0x1000_0000 5)
    ∷ sourced 0 0 (called 0x100 128)
    ∷ sourced 1 0 (λ s. with_enabled s 2)
    ∷ sourced 1 0 (λ s. with_state s 3)
    ∷ sourced 1 0 (λ s. with_target s 2)
    ∷ sourced 1 0 (λ s. with_target s 0xff)
    -- "a cookie 0, or above 2,047 with group 2 at 2.0 and support"
    ∷ sourced 2 0 (λ s. with_cookie s 2047)
    ∷ sourced 1 0 (λ s. with_cookie s 2048)
    ∷ sourced 2 0 (unsupported 2048)
    -- "a source is disabled while group 2 is not negotiated, and under 2.0 with cookie 0"
    ∷ sourced 0 0 (λ s. with_enabled s 1)
    ∷ sourced 2 0 (λ s. with_enabled s 1)
    ∷ []

-- beside them, tables that keep the rules
abbrev pub right : List Tables
right =
    base
    ∷ counting 4 four
    ∷ ringed 1 3 0x80 128 64 0
    ∷ ringed 0 0 0 0x2000 0 0x1fc0
    ∷ ctx0 0 (listed 4 (replicate 4 right_tsb))
    ∷ ctxnon0 1 (listed 1 (right_tsb ∷ replicate 3 blank_tsb))
    ∷ statistics 1 0x1e00
    ∷ plants (with_versions guest0.plant (at 1 1 2 1))
    ∷ sourced 0 0 (called 0xfff_ffff 127)
    ∷ sourced 0 0 (λ s. with_state s 2)
    ∷ sourced 0 0 (unsupported 0)
    ∷ sourced 1 0 (λ s. with_enabled s 1)
    ∷ sourced 2 0 (λ s. with_enabled (with_cookie s 2048) 1)
    ∷ sourced 2 0 (λ s. with_target s 1)
    ∷ []

-- what a load answers on each of some tables, with memory up to the last extent's end; and a status with four zeros for each
unfoldable pub statuses : List Tables → List (List ℕ)
statuses [] = []
statuses (t ∷ ts) = numbers (host_event t (replicate (page_size * (3 + extent_limit)) 0) (loading 0 0)).answer ∷ statuses ts

unfoldable pub each_answers : ℕ → List Tables → List (List ℕ)
each_answers status [] = []
each_answers status (t ∷ ts) = (status ∷ 0 ∷ 0 ∷ 0 ∷ 0 ∷ []) ∷ each_answers status ts

-- the worked image, with guest 1 on host page 1
abbrev pub worked : List String
worked = "image 12 221 0000000 0001 0000 0000100 0b 121 0000000 0001 0001 0000200 0b" ∷ []

-- "memory that ends before the end of any extent's host pages 102", before 103 and 104
abbrev pub short_memory : List Exchange
short_memory =
    "load 0 0" prints "66 0 0 0 0"
    ∷ "load 2 0" prints "66 0 0 0 0"
    ∷ "call 0 2 80 16" prints "66 0 0 0 0"
    ∷ "raise 300 5" prints "66 0 0 0 0"
    ∷ "hit 0 0 2 0 0 0" prints "66 0 0 0 0"
    ∷ []

-- an extent that is neither the last of its guest nor the last guest's ends last
abbrev pub apart : List String
apart = "image 12 140 0000000 0001 0002 0000005 0001 0000 120 0000000 0001 0001 0" ∷ []

abbrev pub one_short : List Exchange
one_short = "load 1 0" prints "66 0 0 0 0" ∷ []

abbrev pub just_enough : List Exchange
just_enough = "load 0 1ff8" prints "0 0 0 0 0" ∷ []

-- "no such guest or cpuid 103 (raise: no such source 104)", before anything of the event's own
abbrev pub no_caller : List Exchange
no_caller =
    "load 1 0" prints "0 0 0 0 0"
    ∷ "load 2 1" prints "67 0 0 0 0"
    ∷ "load 100000000 0" prints "67 0 0 0 0"
    ∷ "store 2 1 0" prints "67 0 0 0 0"
    ∷ "call 2 0 80 13" prints "67 0 0 0 0"
    ∷ "call 0 2 80 13" prints "67 0 0 0 0"
    ∷ "call 0 1 80 13" prints "7 0 0 0 0"
    ∷ "call 1 1 ff 0 1 1 0" prints "67 0 0 0 0"
    ∷ "head 2 0 3b 0" prints "67 0 0 0 0"
    ∷ "head 0 2 3b 0" prints "67 0 0 0 0"
    ∷ "head 0 1 3b 0" prints "6 0 0 0 0"
    ∷ "hit 2 0 2 0 0 0" prints "67 0 0 0 0"
    ∷ "hit 0 2 2 0 0 0" prints "67 0 0 0 0"
    ∷ "hit 0 1 2 0 0 0" prints "6 0 0 0 0"
    ∷ "raise 100 6" prints "68 0 0 0 0"
    ∷ "raise 300 5" prints "68 0 0 0 0"
    ∷ "raise 0 0" prints "68 0 0 0 0"
    ∷ []

pub record DoorCases : Type 0 where
  pub bad_tables : statuses broken ≡ each_answers 101 broken
  pub right_tables : statuses right ≡ each_answers 0 right
  pub right_spread : keep_rules (spread 32) ≡ true
  pub late_extent : numbers (host_event (counting 4 four) (replicate (page_size * (3 + extent_limit) - 1) 0) (loading 0 0)).answer ≡ 102 ∷ 0 ∷ 0 ∷ 0 ∷ 0 ∷ []
  pub before_memory : numbers (host_event (statistics 0 0x41) [] (loading 9 0)).answer ≡ 101 ∷ 0 ∷ 0 ∷ 0 ∷ 0 ∷ []
  pub short_memory_lem : Cases 16383 worked short_memory
  pub one_short_lem : Cases 24575 apart one_short
  pub just_enough_lem : Cases 24576 apart just_enough
  pub no_caller_lem : Cases 16384 worked no_caller

pub door_cases : DoorCases
unfolding computing comparing after heard many statuses each_answers
door_cases = record {
  bad_tables = refl;
  right_tables = refl;
  right_spread = refl;
  late_extent = refl;
  before_memory = refl;
  short_memory_lem = refl;
  one_short_lem = refl;
  just_enough_lem = refl;
  no_caller_lem = refl;
}
