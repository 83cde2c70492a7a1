-- The paper's examples that are marked P, about the host's rule itself: an image, the groups negotiated by calls, then the case.
use Rattle.std.proofs.Common.{Ok}
use mathlib.Core.Path.{◌≡◌, refl}
use mathlib.Core.List.{List, [], ◌∷◌}
use Prim.Native.Nat.{ℕ, ◌-◌, ◌^◌}
use Rattle.rules.specs.Types.{Event, Done}
use Rattle.rules.specs.Statuses.{numbers}
use Rattle.rules.specs.Image.{load}
use Rattle.rules.specs.Host.{HostOutcome, host_event}
use Rattle.rules.specs.Session.{begin}
use Rattle.rules.proofs.Computing.{computing}
pub use Rattle.rules.proofs.Worked.{worked_image, worked_guest, worked_tables, call}

-- the worked image loads to these tables
pub worked_image_lem : load worked_image ≡ record { answer = (Ok tt); tables = worked_tables }
unfolding computing
worked_image_lem = refl

-- "groups negotiated, 2.0"
abbrev pub negotiated : List Event
negotiated = call 0xff 0 1 1 0 ∷ call 0xff 0 2 2 0 ∷ call 0xff 0 0x200 1 0 ∷ []

-- the host after an event, and after a list of them
unfoldable pub next : HostOutcome → Event → HostOutcome
next o event = host_event o.tables o.memory event

unfoldable pub after : HostOutcome → List Event → HostOutcome
after o [] = o
after o (event ∷ events) = after (next o event) events

-- the session's host, with the image loaded
abbrev pub start : HostOutcome
start = record { answer = Done; tables = (load worked_image).tables; memory = begin.memory }

abbrev pub ring : ℕ → ℕ → Event
ring base n = call 0x80 0x14 0x3c base n

abbrev pub cookie : ℕ → ℕ → Event
cookie devhandle value = call 0x80 0xa8 devhandle 5 value

-- each of 0xa7 to 0xae with a handle of devino 5, and the value 1
abbrev pub named : ℕ → ℕ → Event
named function devhandle = call 0x80 function devhandle 5 1

abbrev pub statistics : ℕ → Event
statistics address = call 0x80 0x102 address 0 0

-- a case: what went before it, the event, and its status; the four values of each are 0
pub record Case : Type 0 where
  pub before : List Event
  pub event : Event
  pub status : ℕ

-- a case with nothing before it, and one with events before it
abbrev pub gives : Event → ℕ → Case
gives event status = record { before = []; event = event; status = status }

abbrev pub after_these : List Event → Event → ℕ → Case
after_these events event status = record { before = events; event = event; status = status }

-- the list: every case that the paper marks P, in its order
abbrev pub cases : List Case
cases =
    gives (ring 0x80 2) 0
    ∷ gives (ring 0x80 1) 6
    ∷ gives (ring 0x40 2) 8
    ∷ gives (ring 0x1f80 2) 0
    ∷ gives (ring 0x2000 2) 2
    ∷ gives (ring 0 256) 2
    ∷ gives (ring (2 ^ 64 - 128) 2) 2
    ∷ gives (cookie 0x100 2047) 6
    ∷ gives (cookie 0x100 2048) 0
    ∷ gives (cookie 0x200 2048) 6
    ∷ gives (cookie 0x300 2048) 6
    ∷ gives (named 0xa7 0x200) 6
    ∷ gives (named 0xa8 0x200) 6
    ∷ gives (named 0xa9 0x200) 6
    ∷ gives (named 0xaa 0x200) 6
    ∷ gives (named 0xab 0x200) 6
    ∷ gives (named 0xac 0x200) 6
    ∷ gives (named 0xad 0x200) 6
    ∷ gives (named 0xae 0x200) 6
    ∷ gives (named 0xa7 0x300) 6
    ∷ gives (named 0xa8 0x300) 6
    ∷ gives (named 0xa9 0x300) 6
    ∷ gives (named 0xaa 0x300) 6
    ∷ gives (named 0xab 0x300) 6
    ∷ gives (named 0xac 0x300) 6
    ∷ gives (named 0xad 0x300) 6
    ∷ gives (named 0xae 0x300) 6
    ∷ gives (call 0x80 0x13 0 0 0) 7
    ∷ gives (call 0x80 0xa0 0x100 5 0) 13
    ∷ gives (call 0x80 0x31 0 0 0) 6
    ∷ gives (statistics 0x40) 0
    ∷ after_these (statistics 0x40 ∷ []) (statistics 0x41) 8
    ∷ after_these (statistics 0x40 ∷ statistics 0x41 ∷ []) (call 0x80 0x103 0 0 0) 0
    ∷ []

-- the host of the cases: group 0 is negotiated too
abbrev pub ready : HostOutcome
ready = after start (call 0xff 0 0 1 0 ∷ negotiated)

-- the five numbers that each case's event answers; and its status and four zeros
unfoldable pub answers : HostOutcome → List Case → List (List ℕ)
answers o [] = []
answers o (c ∷ cs) = numbers (next (after o c.before) c.event).answer ∷ answers o cs

unfoldable pub expected : List Case → List (List ℕ)
expected [] = []
expected (c ∷ cs) = (c.status ∷ 0 ∷ 0 ∷ 0 ∷ 0 ∷ []) ∷ expected cs

-- the claim: each case of a list answers its status and four zeros
abbrev pub Hold : List Case → Type 0
Hold cs = answers ready cs ≡ expected cs

pub examples : Hold cases
unfolding computing next after answers expected
examples = refl
