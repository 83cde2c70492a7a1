-- `guest::read_lists` meets its contract: the bits of both lists are there, or the image is short.
use Rattle.std.proofs.Common.{◌+◌, ◌*◌, rules}
use native.Mathlib.Omega.{arith}
use Rattle.rules.specs.Limits.{extent_limit, source_limit}
use Rattle.rules.specs.Kept.{blank_extent, blank_source}
use Rattle.rules.specs.Widths.{extent_bits, source_bits}
use Rattle.rules.specs.Image.{read_extent, read_source}
use Rattle.image.proofs.GuestLaws.{lists_short, lists_read}
use Rattle.image.proofs.guest.read_lists.Goals as goal

pub returns-then-s-div_ceil : goal.returns-then-s-div_ceil
returns-then-s-div_ceil c = lists_short _ _ _ _ _ _ c.behind_lists-end.ensures (omega arith)

pub returns : goal.returns
returns c =
    let s = c.args.s.now in
    let at = c.args.at in
    lists_read _ _ _ _ _ _ c.behind_lists-end.ensures _ _ _ _
    (c.read_list.ensures extent_limit blank_extent (λ i. read_extent s (at + extent_bits * i)) c.extents-extent.ensures (λ i x l k. search rules))
    (c.read_list-2.ensures source_limit blank_source (λ i. read_source s (at + extent_bits * c.args.extents + source_bits * i)) c.sources-source.ensures (λ i x l k. rw (← c.from.ensures) (search rules)))
    c.versions.ensures c.cpus.ensures (omega arith)
