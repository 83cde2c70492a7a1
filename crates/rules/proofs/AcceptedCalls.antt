-- The accepted calls: sessions of a few events, each with the five numbers that it answers, from the host that the event before
-- it left. A rule that refuses everything, answers 0 always, does nothing, or is right at the first event only, breaks one of them.
use mathlib.Core.Path.{◌≡◌, refl}
use mathlib.Core.List.{List, [], ◌∷◌}
use Prim.Native.Nat.{ℕ}
use lib.ListN.{replicate}
use Rattle.rules.specs.Types.{Event, Done}
use Rattle.rules.specs.Kept.{plant_at, extents_of}
use Rattle.rules.specs.Real.{sight_of}
use Rattle.rules.specs.Rulings.{outcome_of, Outcome}
use Rattle.rules.specs.Statuses.{numbers}
use Rattle.rules.specs.Image.{load}
use Rattle.rules.specs.Host.{HostOutcome, plant_rule}
use Rattle.rules.specs.Session.{output}
use Rattle.rules.proofs.Computing.{computing}
pub use Rattle.rules.proofs.Worked.{call_by, head_by, storing, loading}
use Rattle.rules.proofs.Worked.{call}
use Rattle.rules.proofs.Examples.{start, next}
use Rattle.rules.specs.Text.{bytes_of}
use Rattle.rules.proofs.WorkedText.{worked_input, worked_output, worked_session_prints}

-- an event and the five numbers that it answers
pub record Step : Type 0 where
  pub event : Event
  pub answer : List ℕ

-- status 0 with no value, with value 1, with values 1 and 2; and a status other than 0
abbrev pub accepted : Event → Step
accepted event = record { event = event; answer = 0 ∷ 0 ∷ 0 ∷ 0 ∷ 0 ∷ [] }

abbrev pub tells : Event → ℕ → Step
tells event v = record { event = event; answer = 0 ∷ v ∷ 0 ∷ 0 ∷ 0 ∷ [] }

abbrev pub tells_two : Event → ℕ → ℕ → Step
tells_two event v w = record { event = event; answer = 0 ∷ v ∷ w ∷ 0 ∷ 0 ∷ [] }

abbrev pub answers : Event → ℕ → Step
answers event status = record { event = event; answer = status ∷ 0 ∷ 0 ∷ 0 ∷ 0 ∷ [] }

-- what a host answers to the events of a session, each on the host that the one before it left; and what it should
unfoldable pub heard : HostOutcome → List Step → List (List ℕ)
heard o [] = []
heard o (s ∷ ss) =
    let one : HostOutcome = next o s.event in
    numbers one.answer ∷ heard one ss

unfoldable pub expected : List Step → List (List ℕ)
expected [] = []
expected (s ∷ ss) = s.answer ∷ expected ss

-- the claim: from a host, each event of a session answers its numbers
abbrev pub Answered : HostOutcome → List Step → Type 0
Answered o steps = heard o steps ≡ expected steps

-- a word is loaded by the guest that stored it, at the same real address of two guests
abbrev pub stored_words : List Step
stored_words =
    accepted (storing 0 0x100 0x0123_4567_89ab_cdef)
    ∷ accepted (storing 1 0x100 0xfedc_ba98_7654_3210)
    ∷ tells (loading 0 0x100) 0x0123_4567_89ab_cdef
    ∷ tells (loading 1 0x100) 0xfedc_ba98_7654_3210
    ∷ []

-- the paper's mondo from cpu 0 to the list 1, 1, where cpu 1's ring has n 2: one is sent and one left, until the head
-- moves and the list is sent again
abbrev pub mondo_left : List Step
mondo_left =
    accepted (call 0xff 0 1 1 0)
    ∷ accepted (call_by 1 0x14 0x3c 0x80 2)
    ∷ accepted (storing 0 0 0x0001_0001_0000_0000)
    ∷ accepted (storing 0 0x40 0x1122_3344_5566_7788)
    ∷ accepted (storing 0 0x78 0x99aa_bbcc_ddee_ff00)
    ∷ answers (call_by 0 0x42 2 0 0x40) 9
    ∷ tells (loading 0 0) 0xffff_0001_0000_0000
    ∷ tells (loading 0 0x80) 0x1122_3344_5566_7788
    ∷ tells (loading 0 0xb8) 0x99aa_bbcc_ddee_ff00
    ∷ tells (loading 0 0xc0) 0
    ∷ accepted (head_by 1 0x3c 0x40)
    ∷ accepted (call_by 0 0x42 2 0 0x40)
    ∷ tells (loading 0 0) 0xffff_ffff_0000_0000
    ∷ tells (loading 0 0xc0) 0x1122_3344_5566_7788
    ∷ []

-- a host with room for more, `image 11 320 0000000 0006 0000`: one guest, of three cpus and six pages at real 0
abbrev pub wide_image : List ℕ
wide_image = 0x11 ∷ 0x32 ∷ 0x00 ∷ 0x00 ∷ 0x00 ∷ 0x00 ∷ 0x00 ∷ 0x06 ∷ 0x00 ∷ 0x00 ∷ []

abbrev pub wide : HostOutcome
wide = record { answer = Done; tables = (load wide_image).tables; memory = replicate 49152 0 }

-- a mondo from cpu 0 to the list 1, 2 stands in both rings
abbrev pub mondo_to_two : List Step
mondo_to_two =
    accepted (call 0xff 0 1 1 0)
    ∷ accepted (call_by 1 0x14 0x3c 0x80 2)
    ∷ accepted (call_by 2 0x14 0x3c 0x100 2)
    ∷ accepted (storing 0 0 0x0001_0002_0000_0000)
    ∷ accepted (storing 0 0x40 0x1122_3344_5566_7788)
    ∷ accepted (call_by 0 0x42 2 0 0x40)
    ∷ tells (loading 0 0) 0xffff_ffff_0000_0000
    ∷ tells (loading 0 0x80) 0x1122_3344_5566_7788
    ∷ tells (loading 0 0x100) 0x1122_3344_5566_7788
    ∷ []

-- the greatest ring and the sizes around it; n 0 unsets
abbrev pub ring_sizes : List Step
ring_sizes =
    accepted (call 0xff 0 1 1 0)
    ∷ accepted (call 0x80 0x14 0x3c 0 256)
    ∷ tells_two (call 0x80 0x15 0x3c 0 0) 0 256
    ∷ answers (call 0x80 0x14 0x3c 0 512) 6
    ∷ answers (call 0x80 0x14 0x3c 0 3) 6
    ∷ tells_two (call 0x80 0x15 0x3c 0 0) 0 256
    ∷ accepted (call 0x80 0x14 0x3c 0x40 0)
    ∷ tells_two (call 0x80 0x15 0x3c 0 0) 0 0
    ∷ []

-- a scrub of a length from real 0 on, and the number that it returns
abbrev pub scrubbed : ℕ → ℕ → List Step
scrubbed length v = accepted (call 0xff 0 1 1 0) ∷ tells (call_by 0 0x31 0 length 0) v ∷ []

-- a sync of more than 0x31 would zero returns all of it
abbrev pub synced : List Step
synced = accepted (call 0xff 0 1 1 0) ∷ tells (call_by 0 0x32 0 0xa000 0) 0xa000 ∷ []

-- what a guest's own rule gives for an event, before its writes are put back: 32,768 of them are not evaluated in memory here
abbrev pub given : HostOutcome → ℕ → Event → Outcome
given o g event = outcome_of (plant_at o.tables g) (plant_rule (sight_of (extents_of o.tables g) o.memory) (plant_at o.tables g) event)

abbrev pub negotiated_core : HostOutcome
negotiated_core = next wide (call 0xff 0 1 1 0)

-- the list, under a single claim
pub record AcceptedCalls : Type 0 where
  pub worked_session : output (bytes_of worked_input) ≡ bytes_of worked_output
  pub stored_words_lem : Answered start stored_words
  pub mondo_left_lem : Answered start mondo_left
  pub mondo_to_two_lem : Answered wide mondo_to_two
  pub ring_sizes_lem : Answered wide ring_sizes
  pub scrub_one_page : Answered wide (scrubbed 0x2000 0x2000)
  pub scrub_four : Answered wide (scrubbed 0x8000 0x8000)
  pub scrub_five : Answered wide (scrubbed 0xa000 0x8000)
  pub sync_five : Answered wide synced
  pub scrub_zeros : (given negotiated_core 0 (call_by 0 0x31 0x2000 0xa000 0)).writes ≡ record { at = 0x2000; bytes = replicate 32768 0 } ∷ []

pub accepted_calls : AcceptedCalls
unfolding computing next heard expected
accepted_calls = record {
  worked_session = worked_session_prints;
  stored_words_lem = refl;
  mondo_left_lem = refl;
  mondo_to_two_lem = refl;
  ring_sizes_lem = refl;
  scrub_one_page = refl;
  scrub_four = refl;
  scrub_five = refl;
  sync_five = refl;
  scrub_zeros = refl;
}
