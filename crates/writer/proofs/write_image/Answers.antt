-- `write_image` meets its contract: each refusal before a byte is put, then the header and the guests.
use native.Mathlib.Omega.{arith}
use mathlib.Core.Path.{sym, ◌∙◌}
use Rattle.tables.proofs.SoundTables.{guests_few}
use Rattle.writer.proofs.WriteLaws.{write_bad, write_none, write_short, write_done}
use Rattle.writer.proofs.write_image.Goals as goal

pub returns-then-not-keep_rules : goal.returns-then-not-keep_rules
returns-then-not-keep_rules c = write_bad _ _ (sym c.keep_rules.ensures ∙ c.if-not-keep_rules.true)

pub returns-then-tables-lt1 : goal.returns-then-tables-lt1
returns-then-tables-lt1 c = write_none _ _ (sym c.keep_rules.ensures ∙ c.if-not-keep_rules.false) c.if-tables-lt1.true

pub image_bits-requires : goal.image_bits-requires
image_bits-requires c = guests_few _ (sym c.keep_rules.ensures ∙ c.if-not-keep_rules.false)

pub returns-then-out-n : goal.returns-then-out-n
returns-then-out-n c =
    write_short _ _ (sym c.keep_rules.ensures ∙ c.if-not-keep_rules.false) c.if-tables-lt1.false _ c.image_bits.ensures.0 _ c.div_ceil-n.ensures c.if-out-n.true

pub returns : goal.returns
returns c =
    write_done _ _ (sym c.keep_rules.ensures ∙ c.if-not-keep_rules.false) c.if-tables-lt1.false _ c.image_bits.ensures.0 _ c.div_ceil-n.ensures _ _ c.if-out-n.false
    (λ i. grind arith) c.put_header.ensures c.put_guests.ensures
