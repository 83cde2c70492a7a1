-- Promise: the rules answer as the paper's examples say. The lists and their proofs stand beside the rules they speak of, in
-- crate rules, so that a wrong rule is refused there; these are the claims.
use Rattle.std.proofs.Common.{Ok}
use mathlib.Core.Path.{◌≡◌}
use Rattle.rules.specs.Types.{Loading}
use Rattle.rules.specs.Image.{load}
use Rattle.rules.proofs.Examples.{cases, Hold, examples, worked_image, worked_tables, worked_image_lem}
use Rattle.rules.proofs.AcceptedCalls.{AcceptedCalls, accepted_calls}
use Rattle.rules.proofs.DoorCases.{DoorCases, door_cases}
use Rattle.rules.proofs.CallCases.{CallCases, call_cases}
use Rattle.rules.proofs.QueueCases.{QueueCases, queue_cases}
use Rattle.rules.proofs.SeamCases.{SeamCases, seam_cases}
use Rattle.rules.proofs.MondoCases.{MondoCases, mondo_cases}
use Rattle.rules.proofs.TsbCases.{TsbCases, tsb_cases}
use Rattle.rules.proofs.MemoryCases.{MemoryCases, memory_cases}
use Rattle.rules.proofs.HitCases.{HitCases, hit_cases}
use Rattle.rules.proofs.SourceCases.{SourceCases, source_cases}
use Rattle.rules.proofs.ImageCases.{ImageCases, image_cases}
use Rattle.rules.proofs.TextCases.{TextCases, text_cases}
use Rattle.rules.proofs.KeptCases.{KeptCases, kept_cases}
use Rattle.rules.proofs.WriteCases.{WriteCases, write_cases}
use Rattle.rules.proofs.PlanCases.{PlanCases, plan_cases}

-- the image of the worked session loads to the tables that one expects
pub the_worked_image : load worked_image ≡ record { answer = (Ok tt); tables = worked_tables }
the_worked_image = worked_image_lem

-- every case that the paper marks P holds
pub the_examples : Hold cases
the_examples = examples

-- the worked session prints what the paper says, and the sessions of accepted calls answer their numbers
pub the_accepted_calls : AcceptedCalls
the_accepted_calls = accepted_calls

-- tables that each break one rule answer 101, and the other refusals at the door are as the paper says
pub the_door_cases : DoorCases
the_door_cases = door_cases

-- every refusal and every effect of a call, an event, an image and a line, section by section
pub the_cases : CallCases × QueueCases × MondoCases × TsbCases × MemoryCases × SeamCases × HitCases × SourceCases × ImageCases × TextCases × KeptCases
the_cases = (call_cases, queue_cases, mondo_cases, tsb_cases, memory_cases, seam_cases, hit_cases, source_cases, image_cases, text_cases, kept_cases)

-- tables that are written, and what the program `plan` prints
pub the_desk_cases : WriteCases × PlanCases
the_desk_cases = (write_cases, plan_cases)
