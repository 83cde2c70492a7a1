-- Not vacuous: demand 3 of a plant whose two extents touch, and lie in one order on the first host and in the other on the second.
use mathlib.Core.Path.{◌≡◌, refl, sym, ◌∙◌}
use mathlib.Core.Bool.{true}
use mathlib.Core.List.{List, [], ◌∷◌}
use Prim.Native.Nat.{ℕ}
use native.Mathlib.Omega.{arith}
use lib.ListN.{length, replicate}
use Rattle.rules.specs.declared.Answer.TheVariants.{Done, One}
use Rattle.rules.specs.declared.Event.{Event}
use Rattle.rules.specs.declared.Tables.{Tables}
use Rattle.rules.specs.Kept.{blank_cpu, blank_source, blank_guest, no_versions}
use Rattle.rules.specs.Rulings.{granted}
use Rattle.rules.specs.Image.{read_image}
use Rattle.rules.specs.Host.{long_enough}
use Rattle.rules.proofs.Computing.{computing}
use Rattle.rules.proofs.Worked.{run, in_places, call}
use Rattle.rules.proofs.AcceptedCalls.{call_by, storing, loading}
use Rattle.promises.specs.Words.{belongs, own_events, own_answers}
use Rattle.promises.specs.Promises.{SamePlant, SameEnd}
use Rattle.promises.proofs.TwoHosts.{demand_3}
use Rattle.promises.proofs.Elsewhere.{zeros, zero_seen}

-- `image 11 240 0000000 0001 0000 0000001 0001 0001 0`, and the same with the host pages 1 and 0
abbrev pub seam_image : ℕ → ℕ → List ℕ
seam_image first second =
    0x11 ∷ 0x24 ∷ 0x00 ∷ 0x00 ∷ 0x00 ∷ 0x00 ∷ 0x00 ∷ 0x01 ∷ 0x00 ∷ first ∷ 0x00 ∷ 0x00 ∷ 0x00 ∷ 0x10 ∷ 0x00 ∷ 0x10 ∷ 0x00 ∷ second ∷ []

abbrev pub seam_tables : ℕ → ℕ → Tables
seam_tables first second = record {
  guests = 1;
  guest = record {
    extents = record { extents = 2; extent = in_places (run 0 1 first ∷ run 1 1 second ∷ []) };
    plant = record { versions = no_versions; cpus = 2; cpu = replicate 8 blank_cpu; sources = 0; source = replicate 16 blank_source };
  } ∷ blank_guest ∷ blank_guest ∷ blank_guest ∷ [];
}

-- Both are accepted, and 32 KiB are enough for both.
pub in_order : (read_image (seam_image 0 0x10) ≡ granted (seam_tables 0 1)) × (long_enough (seam_tables 0 1) (length zeros) ≡ true)
unfolding computing
in_order = (refl, refl)

pub out_of_order : (read_image (seam_image 1 0x00) ≡ granted (seam_tables 1 0)) × (long_enough (seam_tables 1 0) (length zeros) ≡ true)
unfolding computing
out_of_order = (refl, refl)

-- The guest is the same plant in both.
pub same_plant : SamePlant (seam_tables 0 1) (seam_tables 1 0) zeros zeros 0
same_plant = record {
  here = omega arith;
  there = omega arith;
  cpus = refl;
  extents = (refl, refl, (refl, refl, tt));
  sources = refl;
  source = refl;
  byte = λ a. zero_seen _ a ∙ sym (zero_seen _ a);
}

-- So whatever it does, over the seam or not, it gets the same answers and ends with the same records and memory.
pub same_over_the_seam : (events : List Event) → own_events (belongs (seam_tables 0 1) 0) events ≡ own_events (belongs (seam_tables 1 0) 0) events
    → SameEnd (seam_tables 0 1) (seam_tables 1 0) zeros zeros 0 events events
same_over_the_seam events own =
    demand_3 (seam_image 0 0x10) (seam_image 1 0x00) (seam_tables 0 1) (seam_tables 1 0) zeros zeros in_order.0 in_order.1 out_of_order.0 out_of_order.1 0 same_plant events events own

-- For instance: words on both sides of the seam, a range over it, a list over it that is read and marked, and the words after that.
abbrev pub over_seam : List Event
over_seam =
    call 0xff 0 1 1 0
    ∷ storing 0 0x1ff8 1
    ∷ storing 0 0x2000 0x0001_0000_0000_0000
    ∷ call_by 0 0x32 0 0x4000 0
    ∷ call_by 1 0x14 0x3c 0x100 4
    ∷ call_by 0 0x42 2 0x1ffe 0x40
    ∷ loading 0 0x1ff8
    ∷ loading 0 0x2000
    ∷ []

over_seam_own : own_events (belongs (seam_tables 0 1) 0) over_seam ≡ own_events (belongs (seam_tables 1 0) 0) over_seam
unfolding computing own_events
over_seam_own = refl

-- what the host answers on which the two pages lie in the order of their real pages,
pub ordered_answers : own_answers (belongs (seam_tables 0 1) 0) (seam_tables 0 1) zeros over_seam
    ≡ One 0 ∷ Done ∷ Done ∷ One 0x4000 ∷ Done ∷ Done ∷ One 0xffff ∷ One 0xffff_0000_0000_0000 ∷ []
unfolding computing own_answers
ordered_answers = refl

-- the other answers too, where the list lies at both ends of the guest's memory
pub turned_answers : own_answers (belongs (seam_tables 1 0) 0) (seam_tables 1 0) zeros over_seam
    ≡ One 0 ∷ Done ∷ Done ∷ One 0x4000 ∷ Done ∷ Done ∷ One 0xffff ∷ One 0xffff_0000_0000_0000 ∷ []
turned_answers = sym (same_over_the_seam over_seam over_seam_own).answers ∙ ordered_answers
