-- `words::put_field` meets its contract: three texts behind each other.
use Rattle.rules.specs.Text.{bytes_of}
use Rattle.reasons.proofs.PutLaws.{put_behind, decimal_most}
use native.Mathlib.Omega.{arith}
use Rattle.reasons.proofs.words.put_field.Goals as goal

pub put_decimal-next-requires : goal.put_decimal-next-requires
put_decimal-next-requires c = omega (arith, decimal_most 20 c.args.k, c.put_text-at.ensures.behind)

pub put_text-requires : goal.put_text-requires
put_text-requires c = omega (arith, decimal_most 20 c.args.k, c.put_text-at.ensures.behind, c.put_decimal-next.ensures.behind)

pub returns : goal.returns
returns c = put_behind (bytes_of "field ") _ _ _ _ _ _ _ c.put_text-at.ensures (put_behind _ _ _ _ _ _ _ _ c.put_decimal-next.ensures c.put_text.ensures)
