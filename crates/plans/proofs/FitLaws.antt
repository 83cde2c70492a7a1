-- What is printed has at most 8,192 bytes.
use Prim.Native.Nat.{ℕ, ◌<◌, ◌≤◌}
use Rattle.std.proofs.Common.{Ok, Err}
use mathlib.Core.Path.{◌≡◌, refl}
use mathlib.Core.Bool.{true}
use mathlib.Core.List.{List, [], ◌∷◌}
use native.Mathlib.Omega.{arith}
use lib.ListN.{length, length-append}
use lib.Seq.{sets, length-sets}
use Rattle.rules.specs.declared.Desk.{Desk}
use Rattle.rules.specs.Types.{Loading}
use Rattle.rules.specs.declared.Stage.{Stage}
use Rattle.rules.specs.declared.Tables.{Tables}
use Rattle.rules.specs.declared.WriteRefusal.{WriteRefusal}
use Rattle.rules.specs.Kept.{guest_at}
use Rattle.rules.specs.Rulings.{RulingBy, refused, granted}
use Rattle.rules.specs.Tables.{keep_rules}
use Rattle.rules.specs.Statuses.{write_status}
use Rattle.rules.specs.Text.{word_bad}
use Rattle.rules.specs.Writing.{write_rule}
use Rattle.rules.specs.Plan.{guest_lines, plan_text, image_line, written_text, loaded_text, stage_text, desk_text, desk_after, planned}
use Rattle.text.specs.Printed.{numbers_text, loading_text}
use Rattle.text.proofs.PrintLaws.{numbers_most, loading_most}
use Rattle.tables.proofs.SoundTables.{guests_few}
use Rattle.plans.specs.Loads.{LoadsKeep}
use Rattle.plans.proofs.EachLaws.{each_most}
use Rattle.plans.proofs.LineLaws.{line_most, guest_most}
use Rattle.plans.proofs.PairLaws.{pairs_length}
use Rattle.plans.proofs.FewLaws.{few_extents, few_sources}
use Rattle.plans.proofs.DeskLaws.{granted_fits, after_keeps}

image_fits : (bytes : List ℕ) → length bytes ≤ 1024 → length (image_line bytes) ≤ 8192
unfolding image_line
image_fits bytes h = simp length-append (omega (arith, pairs_length bytes))

written_fits : (tables : Tables) (x : RulingBy WriteRefusal (List ℕ)) → write_rule tables 1024 ≡ x → length (written_text x) ≤ 8192
unfolding numbers_text
written_fits tables (refused r) e = omega (arith, numbers_most (write_status r ∷ []) 0 (omega arith))
written_fits tables (granted bytes) e = image_fits bytes (granted_fits tables 1024 bytes e)

plan_fits : (tables : Tables) → keep_rules tables ≡ true → length (plan_text tables) ≤ 8192
unfolding plan_text
plan_fits tables keep =
    let short : (g : ℕ) → g < tables.guests → length (guest_lines (guest_at tables g)) ≤ 1357 =
    λ g h. guest_most (guest_at tables g) (few_extents tables keep g h) (few_sources tables keep g h) in
    omega (arith, guests_few tables keep, each_most (λ g. guest_lines (guest_at tables g)) 1357 tables.guests short)

loaded_fits : (tables : Tables) (answer : Loading) → keep_rules tables ≡ true → length (loaded_text tables answer) ≤ 8192
unfolding loading_text
loaded_fits tables (Ok u) keep = plan_fits tables keep
loaded_fits tables (Err r) keep = omega (arith, loading_most (Err r))

stage_fits : (tables : Tables) (stage : Stage) → ((answer : Loading) → stage ≡ Stage.Loaded answer → keep_rules tables ≡ true) → length (stage_text tables stage) ≤ 8192
stage_fits tables Stage.Fresh k = written_fits tables (write_rule tables 1024) refl
stage_fits tables Stage.Drawing k = written_fits tables (write_rule tables 1024) refl
stage_fits tables (Stage.Loaded answer) k = loaded_fits tables answer (k answer refl)
stage_fits tables (Stage.Bad n) k = omega (arith, line_most word_bad (n ∷ []) 0 (omega arith))

desk_fits : (desk : Desk) → LoadsKeep desk → length (desk_text desk) ≤ 8192
unfolding desk_text
desk_fits desk k = stage_fits desk.tables desk.stage k

planned_fits : (input : List ℕ) → length (planned input) ≤ 8192
unfolding planned
planned_fits input = desk_fits (desk_after input) (after_keeps input)

-- what `answer` gives is a length within its room, which was m and is o
pub answer_fits : (input m o : List ℕ) (r : ℕ) → 8192 ≤ length m → (r ≡ length (planned input)) × (o ≡ sets m 0 (planned input)) → r ≤ length o
answer_fits input m o r h w =
    let same : length o ≡ length m = rw w.1 (length-sets m 0 (planned input)) in
    omega (arith, planned_fits input)
