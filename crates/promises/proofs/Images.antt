-- Promise: what is loaded and written, written and loaded, over the theorems of crate roundtrip; and how much of its input the program `plan`
-- needs, over that of crate desk.
use Rattle.std.proofs.Common.{Ok, Err}
use mathlib.Core.Path.{◌≡◌, refl, sym, ap, ◌∙◌}
use mathlib.Core.Bool.{Bool, true, false}
use mathlib.Core.List.{List, ◌++◌}
use Prim.Native.Nat.{ℕ, ◌≤◌}
use native.Mathlib.Omega.{arith}
use lib.Dec.{leb}
use lib.ListN.{length, take, drop}
use lib.Seq.{take-append_seam}
use borrow.Author.Tests.{le-leb, leb-true}
use Rattle.rules.specs.Types.{Loading}
use Rattle.rules.specs.declared.Loaded.{Loaded}
use Rattle.rules.specs.declared.Tables.{Tables}
use Rattle.rules.specs.declared.WriteRefusal.{WriteRefusal}
use Rattle.rules.specs.Types.{Writing}
use Rattle.rules.specs.Rulings.{RulingBy, refused, granted, ◌or_refuse◌then◌}
use Rattle.rules.specs.Image.{Reading, read_image, loaded_as, load}
use Rattle.rules.specs.Tables.{keep_rules}
use Rattle.rules.specs.Writing.{image_of, write_rule, WriteOutcome, write_outcome, write_image}
use Rattle.rules.specs.Plan.{planned}
use Rattle.kept.proofs.Accepted.{accepted_keeps, granted_same}
use Rattle.desk.proofs.Enough.{enough}
use Rattle.roundtrip.specs.Again.{Bytes, Whole, as_loaded}
use Rattle.roundtrip.proofs.Same.{same_image}
use Rattle.roundtrip.proofs.Written.{written_again, accepted_guests}
use Rattle.roundtrip.proofs.Loaded.{loaded_again_lem}
use Rattle.promises.specs.Promises.{Images, PlanEnough}

-- an image that is accepted was read as the tables that are loaded
accepted_read : (bytes : List ℕ) → (load bytes).answer ≡ (Ok tt) → read_image bytes ≡ granted (load bytes).tables
unfolding load
accepted_read bytes e = go (read_image bytes) e
  where
    go : (m : Reading Tables) → (loaded_as m).answer ≡ (Ok tt) → m ≡ granted (loaded_as m).tables
    go (granted t) p = refl
    go (refused r) p = cc

-- the rule where nothing refuses
rule_grants : (tables : Tables) (room : ℕ) → keep_rules tables ≡ true → 1 ≤ tables.guests → length (image_of tables) ≤ room → write_rule tables room ≡ granted (image_of tables)
unfolding write_rule
rule_grants tables room k g l = rw (k, le-leb 1 tables.guests g, le-leb (length (image_of tables)) room l)

written : (tables : Tables) (buffer : List ℕ) → keep_rules tables ≡ true → 1 ≤ tables.guests → length (image_of tables) ≤ length buffer
    → write_image tables buffer ≡ record { answer = Ok (length (image_of tables)); buffer = image_of tables ++ drop (length (image_of tables)) buffer }
unfolding write_image
written tables buffer k g l = rw (rule_grants tables (length buffer) k g l)

again : (bytes buffer : List ℕ) → Bytes bytes → (load bytes).answer ≡ (Ok tt) → length bytes ≤ length buffer
    → write_image (load bytes).tables buffer ≡ record { answer = Ok (length bytes); buffer = bytes ++ drop (length bytes) buffer }
again bytes buffer b e l =
    let r = accepted_read bytes e in
    let same : image_of (load bytes).tables ≡ bytes = written_again bytes (load bytes).tables b r in
    let fits : length (image_of (load bytes).tables) ≤ length buffer = rw same l in
    written (load bytes).tables buffer (accepted_keeps bytes (load bytes).tables r) (accepted_guests bytes (load bytes).tables r) fits
    ∙ ap (λ (x : List ℕ). record { answer = Ok (length x); buffer = x ++ drop (length x) buffer }) same

-- what an answer tells of the rule
was_granted : (buffer : List ℕ) (m : RulingBy WriteRefusal (List ℕ)) (n : ℕ) → (write_outcome buffer m).answer ≡ Ok n
    → (image : List ℕ) × ((m ≡ granted image) × (n ≡ length image))
was_granted buffer (granted image) n e = (image, (refl, cc))
was_granted buffer (refused r) n e = absurd (let z : ◌≡◌ {A = ℕ} 0 1 = cc in omega arith)

was_refused : (buffer : List ℕ) (m : RulingBy WriteRefusal (List ℕ)) (r : WriteRefusal) → (write_outcome buffer m).answer ≡ Err r
    → (write_outcome buffer m).buffer ≡ buffer
was_refused buffer (refused s) r e = refl
was_refused buffer (granted image) r e = absurd (let z : ◌≡◌ {A = ℕ} 0 1 = cc in omega arith)

-- three tests one under another that all pass
three_pass : (a b c : Bool) (image other : List ℕ)
    → (a or_refuse WriteRefusal.BadTables then b or_refuse WriteRefusal.NoGuest then c or_refuse WriteRefusal.ShortBuffer then granted image) ≡ granted other
    → (a ≡ true) × ((b ≡ true) × (image ≡ other))
three_pass true true true image other e = (refl, (refl, granted_same image other e))
three_pass true true false image other e = (refl, (refl, cc))
three_pass true false c image other e = (refl, (cc, cc))
three_pass false b c image other e = (cc, (cc, cc))

-- what was written stands at the front
front : (buffer : List ℕ) (m : RulingBy WriteRefusal (List ℕ)) (n : ℕ) (image : List ℕ) → m ≡ granted image → n ≡ length image
    → take n (write_outcome buffer m).buffer ≡ image
front buffer m n image p q = rw (p, q) (take-append_seam image (drop (length image) buffer))

loads : (tables : Tables) (buffer : List ℕ) (n : ℕ) → Whole tables → (write_image tables buffer).answer ≡ Ok n
    → load (take n (write_image tables buffer).buffer) ≡ record { answer = (Ok tt); tables = as_loaded tables }
unfolding write_image write_rule
loads tables buffer n w e =
    let room = length buffer in
    let g = was_granted buffer (write_rule tables room) n e in
    let p = three_pass (keep_rules tables) (leb 1 tables.guests) (leb (length (image_of tables)) room) (image_of tables) g.0 g.1.0 in
    ap load (front buffer (write_rule tables room) n g.0 g.1.0 g.1.1 ∙ sym p.1.1) ∙ loaded_again_lem tables w p.0 (leb-true 1 tables.guests p.1.0)

pub images : Images
unfolding write_image
images = record {
  written_again = again;
  loaded_again_lem = loads;
  is_written = λ tables buffer k g l. ap (λ (o : WriteOutcome). o.answer) (written tables buffer k g l);
  same_image = same_image;
  same_partition = λ t u v w k l g h e. ap (λ (x : Loaded). x.tables) (sym (loaded_again_lem t v k g) ∙ (ap load e ∙ loaded_again_lem u w l h));
  refused_leaves = λ tables buffer r e. was_refused buffer (write_rule tables (length buffer)) r e;
}

-- the program `plan`
pub plan_enough : PlanEnough
unfolding planned
plan_enough input = enough input
