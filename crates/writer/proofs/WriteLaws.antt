-- What tables that keep the rules give a writer, and the answers of writing.
use Rattle.std.proofs.Common.{Ok, Err}
use mathlib.Core.Path.{◌≡◌, sym, ◌∙◌}
use mathlib.Core.Bool.{true, false}
use mathlib.Core.List.{List, ◌++◌}
use Prim.Native.Nat.{ℕ, ◌+◌, ◌-◌, ◌*◌, ◌<◌, ◌≤◌}
use native.Mathlib.Omega.{arith}
use Rattle.std.specs.Int.{div_ceil}
use lib.Dec.{leb}
use lib.ListN.{length, get_or, drop}
use borrow.Author.Tests.{le-leb, lt-leb}
use Rattle.rules.specs.declared.Tables.{Tables}
use Rattle.rules.specs.declared.WriteRefusal.{WriteRefusal}
use Rattle.rules.specs.Kept.{guest_at}
use Rattle.rules.specs.Limits.{extent_limit, source_limit}
use Rattle.rules.specs.Scan.{each_below}
use Rattle.rules.specs.Tables.{keep_rules}
use Rattle.rules.specs.Widths.{header_bits}
use Rattle.rules.specs.Writing.{guest_row, header_row, image_row, image_of, write_rule, write_image}
use Rattle.bits.specs.Put.{put_bits}
use Rattle.bits.proofs.PutLaws.{put_append}
use Rattle.records.proofs.SoundLaws.{plant_sources}
use Rattle.tables.proofs.SoundTables.{extents_few, extents_keep_lem, plant_keeps_lem}
use Rattle.writer.proofs.PackLaws.{packed_length, put_packed}
use Rattle.writer.proofs.RowLaws.{header_length, each_next_length, each_longer, image_length}

abbrev row_at : Tables → ℕ → List ℕ
row_at tables g = guest_row (guest_at tables g)

-- all guests are counted
pub image_end : (tables : Tables) (at i : ℕ) → at ≡ header_bits + length (each_below i (row_at tables)) → i ≤ tables.guests → tables.guests ≤ i → at ≡ length (image_row tables)
image_end tables at i e l m =
    let q : i ≡ tables.guests = omega arith in
    (rw q at e) ∙ sym (image_length tables)

-- a guest that is there: its lists are short, and its row lies in the image
module _ (tables : Tables) (g : ℕ) (there : g < tables.guests) where
  pub guest_few : keep_rules tables ≡ true → ((guest_at tables g).extents.extents ≤ extent_limit) × ((guest_at tables g).plant.sources ≤ source_limit)
  guest_few keep = (extents_few _ (extents_keep_lem tables keep g there), plant_sources _ _ (plant_keeps_lem tables keep g there))

  pub guest_inside : header_bits + length (each_below g (row_at tables)) + length (row_at tables g) ≤ length (image_row tables)
  guest_inside =
      let d = tables.guests - (g + 1) in
      let q : g + 1 + d ≡ tables.guests = omega arith in
      omega (arith, image_length tables, each_next_length (row_at tables) g, rw q at (each_longer (row_at tables) (g + 1) d))

-- the header and the guests behind it are the image
image_row_lem : (tables : Tables) (s t u : List ℕ) → t ≡ put_bits s 0 (header_row tables) → u ≡ put_bits t header_bits (each_below tables.guests (row_at tables)) → u ≡ put_bits s 0 (image_row tables)
unfolding image_row
image_row_lem tables s t u a b = rw (b, a, put_append, header_length tables)

image_put : (tables : Tables) (s t u : List ℕ) → ((i : ℕ) → get_or s i 0 < 256) → length (image_row tables) ≤ 8 * length s → t ≡ put_bits s 0 (header_row tables)
    → u ≡ put_bits t header_bits (each_below tables.guests (row_at tables)) → u ≡ image_of tables ++ drop (length (image_of tables)) s
unfolding image_of
image_put tables s t u bytes l a b = image_row_lem tables s t u a b ∙ put_packed s bytes (image_row tables) l

-- the answers, in order
module _ (tables : Tables) (s : List ℕ) where
  pub write_bad : keep_rules tables ≡ false → (Err WriteRefusal.BadTables ≡ (write_image tables s).answer) × (s ≡ (write_image tables s).buffer)
  unfolding write_image write_rule
  write_bad broken = (rw broken, rw broken)

  module _ (kept : keep_rules tables ≡ true) where
    pub write_none : tables.guests < 1 → (Err WriteRefusal.NoGuest ≡ (write_image tables s).answer) × (s ≡ (write_image tables s).buffer)
    unfolding write_image write_rule
    write_none l =
        let none : leb 1 tables.guests ≡ false = lt-leb 1 tables.guests l in
        (rw (kept, none), rw (kept, none))

    module _ (some : 1 ≤ tables.guests) (end : ℕ) (q : end ≡ length (image_row tables)) (n : ℕ) (c : n ≡ div_ceil end 8) where
      n_is : length (image_of tables) ≡ n
      unfolding image_of
      n_is = omega (arith, packed_length (image_row tables))

      pub write_short : length s < n → (Err WriteRefusal.ShortBuffer ≡ (write_image tables s).answer) × (s ≡ (write_image tables s).buffer)
      unfolding write_image write_rule
      write_short l =
          let there : leb 1 tables.guests ≡ true = le-leb 1 tables.guests some in
          let short : leb (length (image_of tables)) (length s) ≡ false = lt-leb (length (image_of tables)) (length s) (rw n_is l) in
          (rw (kept, there, short), rw (kept, there, short))

      pub write_done : (t u : List ℕ) → n ≤ length s → ((i : ℕ) → get_or s i 0 < 256) → t ≡ put_bits s 0 (header_row tables)
          → u ≡ put_bits t header_bits (each_below tables.guests (λ g. guest_row (guest_at tables g)))
          → (Ok n ≡ (write_image tables s).answer) × (u ≡ (write_image tables s).buffer)
      unfolding write_image write_rule
      write_done t u l bytes a b =
          let there : leb 1 tables.guests ≡ true = le-leb 1 tables.guests some in
          let room : leb (length (image_of tables)) (length s) ≡ true = le-leb (length (image_of tables)) (length s) (rw n_is l) in
          (rw (kept, there, room, n_is), rw (kept, there, room) (image_put tables s t u bytes (omega arith) a b))
