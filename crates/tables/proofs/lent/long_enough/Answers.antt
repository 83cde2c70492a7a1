-- `tables::lent::long_enough` meets its contract: each run passes the test.
use mathlib.Core.Path.{◌∙◌}
use Rattle.std.proofs.Common.{◌≡◌, arith, length, rules}
use Rattle.std.proofs.lemmas.Iterator.{YieldsList-from_slice}
use Rattle.std.proofs.lemmas.Iterator.Search.{all_from_yields_List}
use borrow.Author.Tests.{tests}
use Prim.Native.Nat.{◌+◌, ◌*◌}
use lib.Dec.{leb}
use Rattle.rules.specs.declared.Extent.{Extent}
use Rattle.rules.specs.Limits.{page_size}
use Rattle.rules.specs.Kept.{blank_extent}
use Rattle.rules.specs.Image.{run_at}
use Rattle.rules.specs.Host.{long_enough}
use Rattle.partition.specs.Collected.{run_limit, runs_of}
use Rattle.tables.proofs.Parts.{all_items, every_filled}
use Rattle.tables.proofs.lent.long_enough.Goals as goal

pub returns : goal.returns
unfolding runs_of long_enough
returns c =
    let n : length c.runs.result ≡ run_limit = omega arith in
    let within = λ (x : Extent). leb ((x.host + x.count) * page_size) c.args.n in
    all_from_yields_List within _ _ c.all.result c.all.ensures.ran (YieldsList-from_slice c.runs.result cc) (λ x b q k. search (rules, tests))
    ∙ rw n at (all_items blank_extent within c.runs.result)
    ∙ every_filled within blank_extent (run_at c.args.t) run_limit _ c.runs.ensures
