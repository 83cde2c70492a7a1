-- What is printed at each stage of the desk, and that tables which were loaded keep the rules.
use Rattle.std.specs.Prelude.{if◌then◌else◌, Option, Some, None, Ok, Err}
use Prim.Native.Nat.{ℕ, suc, ◌≤◌}
use mathlib.Core.Path.{◌≡◌, refl, sym, ◌∙◌}
use mathlib.Core.Bool.{Bool, true, false, ◌&&◌}
use mathlib.Core.List.{List, [], ◌∷◌}
use native.Mathlib.Omega.{arith}
use lib.Dec.{leb, ltb}
use lib.ListN.{length, take, drop}
use lib.Seq.{take-append_seam}
use borrow.Author.Tests.{leb-true}
use Rattle.rules.specs.declared.Desk.{Desk}
use Rattle.rules.specs.Types.{Writing}
use Rattle.rules.specs.declared.PlanLine.{PlanLine}
use Rattle.rules.specs.declared.Stage.{Stage}
use Rattle.rules.specs.declared.Tables.{Tables}
use Rattle.rules.specs.declared.WriteRefusal.{WriteRefusal}
use Rattle.rules.specs.Limits.{guest_limit, extent_limit, source_limit}
use Rattle.rules.specs.Rulings.{RulingBy, refused, granted, ◌or_refuse◌then◌}
use Rattle.rules.specs.Tables.{keep_rules}
use Rattle.rules.specs.Statuses.{write_status}
use Rattle.rules.specs.Text.{Line, bad, image, event, parse}
use Rattle.rules.specs.Session.{lines_from}
use Rattle.rules.specs.Writing.{image_of, write_rule, write_outcome, write_image}
use Rattle.rules.specs.Plan.{last_guest, some_guest, drawing, bad_at, drawn, plan_line, begun, stepped_by, stepped, steps, fresh, desk_after, image_line, written_text}
use Rattle.text.specs.Printed.{numbers_text}
use Rattle.kept.proofs.Accepted.{then_tells, then_rest, granted_same, load_keeps}
use Rattle.plans.specs.Loads.{LoadsKeep}

-- an image that is written fits its room
pub granted_fits : (tables : Tables) (room : ℕ) (bytes : List ℕ) → write_rule tables room ≡ granted bytes → length bytes ≤ room
unfolding write_rule
granted_fits tables room bytes e =
    let fits : Bool = leb (length (image_of tables)) room in
    let last : RulingBy WriteRefusal (List ℕ) = fits or_refuse WriteRefusal.ShortBuffer then granted (image_of tables) in
    let some : RulingBy WriteRefusal (List ℕ) = leb 1 tables.guests or_refuse WriteRefusal.NoGuest then last in
    let a = then_rest (keep_rules tables) WriteRefusal.BadTables some bytes e in
    let b = then_rest (leb 1 tables.guests) WriteRefusal.NoGuest last bytes a in
    rw (granted_same (image_of tables) bytes (then_rest fits WriteRefusal.ShortBuffer (granted (image_of tables)) bytes b))
    at (leb-true (length (image_of tables)) room (then_tells fits WriteRefusal.ShortBuffer (granted (image_of tables)) bytes b))

-- what writing into a buffer m that is o then answered
module _ (tables : Tables) (m o : List ℕ) (w : Writing) (a : (w ≡ (write_image tables m).answer) × (o ≡ (write_image tables m).buffer)) where
  pub written_fits : (n : ℕ) → w ≡ Ok n → n ≤ length m
  unfolding write_image
  written_fits n e = go (write_rule tables (length m)) refl (sym a.0 ∙ e)
    where
      go : (x : RulingBy WriteRefusal (List ℕ)) → write_rule tables (length m) ≡ x → (write_outcome m x).answer ≡ Ok n → n ≤ length m
      go (refused r) q f = cc
      go (granted bytes) q f =
          let l : length bytes ≡ n = cc in
          omega (arith, granted_fits tables (length m) bytes q)

  pub written_text_lem : (n : ℕ) → w ≡ Ok n → written_text (write_rule tables (length m)) ≡ image_line (take n o)
  unfolding write_image
  written_text_lem n e = go (write_rule tables (length m)) (sym a.0 ∙ e) a.1
    where
      go : (x : RulingBy WriteRefusal (List ℕ)) → (write_outcome m x).answer ≡ Ok n → o ≡ (write_outcome m x).buffer → written_text x ≡ image_line (take n o)
      go (refused r) f g = cc
      go (granted bytes) f g =
          let l : length bytes ≡ n = cc in
          rw (g, ← l, take-append_seam bytes (drop (length bytes) m))

  pub refused_text : (r : WriteRefusal) → w ≡ Err r → written_text (write_rule tables (length m)) ≡ numbers_text 1 (write_status r ∷ 0 ∷ 0 ∷ 0 ∷ 0 ∷ [])
  unfolding write_image numbers_text
  refused_text r e = go (write_rule tables (length m)) (sym a.0 ∙ e)
    where
      go : (x : RulingBy WriteRefusal (List ℕ)) → (write_outcome m x).answer ≡ Err r → written_text x ≡ numbers_text 1 (write_status r ∷ 0 ∷ 0 ∷ 0 ∷ 0 ∷ [])
      go (refused s) f = let l : s ≡ r = cc in rw l
      go (granted bytes) f = cc

-- A desk whose tables are drawn, or whose line is bad, has loaded none.

drawing_keeps : (tables : Tables) → LoadsKeep (drawing tables)
drawing_keeps tables answer e = cc

bad_keeps : (n : ℕ) (tables : Tables) → LoadsKeep (bad_at n tables)
bad_keeps n tables answer e = cc

either_keeps : (b : Bool) (n : ℕ) (more tables : Tables) → LoadsKeep (if b then drawing more else bad_at n tables)
either_keeps true n more tables = drawing_keeps more
either_keeps false n more tables = bad_keeps n tables

drawn_keeps : (n : ℕ) (tables : Tables) (line : Option PlanLine) → LoadsKeep (drawn n tables line)
unfolding drawn
drawn_keeps n tables None = bad_keeps n tables
drawn_keeps n tables (Some (PlanLine.Guest cpus)) = either_keeps (ltb tables.guests guest_limit) n _ tables
drawn_keeps n tables (Some (PlanLine.Extent x)) = either_keeps (some_guest tables && ltb (last_guest tables).extents.extents extent_limit) n _ tables
drawn_keeps n tables (Some (PlanLine.Source s)) = either_keeps (some_guest tables && ltb (last_guest tables).plant.sources source_limit) n _ tables

begun_keeps : (n : ℕ) (tables : Tables) (line : List ℕ) (l : Line) → LoadsKeep (begun n tables line l)
begun_keeps n tables line (image bytes) = λ answer e. load_keeps bytes
begun_keeps n tables line bad = drawn_keeps n tables (plan_line line)
begun_keeps n tables line (event e) = drawn_keeps n tables (plan_line line)

stepped_keeps : (n : ℕ) (tables : Tables) (line : List ℕ) (stage : Stage) → LoadsKeep (stepped_by n tables line stage)
stepped_keeps n tables line Stage.Fresh = begun_keeps n tables line (parse line)
stepped_keeps n tables line Stage.Drawing = drawn_keeps n tables (plan_line line)
stepped_keeps n tables line (Stage.Loaded answer) = bad_keeps n tables
stepped_keeps n tables line (Stage.Bad k) = bad_keeps k tables

steps_keep : (n : ℕ) (desk : Desk) (lines : List (List ℕ)) → LoadsKeep desk → LoadsKeep (steps n desk lines)
unfolding steps stepped
steps_keep n desk [] k = k
steps_keep n desk (line ∷ lines) k = steps_keep (suc n) (stepped n desk line) lines (stepped_keeps n desk.tables line desk.stage)

pub after_keeps : (input : List ℕ) → LoadsKeep (desk_after input)
unfolding desk_after fresh
after_keeps input = steps_keep 1 fresh (lines_from [] input) (λ answer e. cc)
