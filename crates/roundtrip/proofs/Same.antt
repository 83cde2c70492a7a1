-- Tables that describe the same partition are written as the same image: what a guest set is not in it.
use mathlib.Core.Path.{◌≡◌, ap}
use Rattle.rules.specs.declared.Source.{Source}
use Rattle.rules.specs.declared.Guest.{Guest}
use Rattle.rules.specs.declared.Tables.{Tables}
use Rattle.rules.specs.Writing.{extent_row, source_row, counts_row, guest_row, header_row, image_row, image_of}
use Rattle.roundtrip.specs.Again.{SameSource, SameGuest, SamePartition}
use Rattle.roundtrip.proofs.BitLaws.{each_same}

same_source : (s r : Source) → SameSource s r → source_row s ≡ source_row r
unfolding source_row
same_source s r e = rw (e.devhandle, e.devino, e.cookies)

same_guest : (g h : Guest) → SameGuest g h → guest_row g ≡ guest_row h
unfolding guest_row counts_row
same_guest g h e =
    rw (
      each_same _ _ _ (λ i l. ap extent_row (e.extent i l)),
      each_same _ _ _ (λ i l. same_source _ _ (e.source i l)),
      e.cpus,
      e.extents,
      e.sources,
    )

pub same_image : (t u : Tables) → SamePartition t u → image_of t ≡ image_of u
unfolding image_of image_row header_row
same_image t u e = rw (each_same _ _ _ (λ g l. same_guest _ _ (e.guest g l)), e.guests)
