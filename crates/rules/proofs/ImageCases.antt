-- "The partition image": images that are refused and accepted, and what is loaded.
use mathlib.Core.Path.{◌≡◌, refl}
use mathlib.Core.Bool.{true, false}
use mathlib.Core.List.{List, [], ◌∷◌}
use Prim.Native.Nat.{ℕ}
use Prim.Native.String.{String, ◌++◌}
use lib.ListN.{replicate, length}
use Rattle.rules.specs.Types.{Cpu, Guest, Tables}
use Rattle.rules.specs.Kept.{blank_cpu, blank_source, blank_guest, no_versions, guest_at, cpu_at}
use Rattle.rules.proofs.Computing.{computing}
use Rattle.rules.proofs.Worked.{run, in_places}
use Rattle.rules.proofs.Changes.{comparing, guests, majors, word}
use Rattle.rules.proofs.Sessions.{Exchange, ◌prints◌, ◌prints◌setting◌, empty, given, after, heard, Cases, six, seven_with}

-- what each line of a list prints, on a session with no guest, and what stands beside it
unfoldable pub texts : List Exchange → List (List ℕ)
texts [] = []
texts (x ∷ xs) = (given (empty 0) x.line).text ∷ texts xs

unfoldable pub replies : List Exchange → List (List ℕ)
replies [] = []
replies (x ∷ xs) = x.reply ∷ replies xs

-- four guests of seven extents of a page each, which touch, on host pages in a row; but for the last of all, which is told
abbrev pub twenty_eight : String → String
twenty_eight last =
    "image 14"
    ++ " 1e0 0000000 0001 0000 0000001 0001 0001 0000002 0001 0002 0000003 0001 0003 0000004 0001 0004 0000005 0001 0005 0000006 0001 0006"
    ++ " 1e0 0000000 0001 0007 0000001 0001 0008 0000002 0001 0009 0000003 0001 000a 0000004 0001 000b 0000005 0001 000c 0000006 0001 000d"
    ++ " 1e0 0000000 0001 000e 0000001 0001 000f 0000002 0001 0010 0000003 0001 0011 0000004 0001 0012 0000005 0001 0013 0000006 0001 0014"
    ++ " 1e0 0000000 0001 0015 0000001 0001 0016 0000002 0001 0017 0000003 0001 0018 0000004 0001 0019 0000005 0001 001a 0000006 0001 "
    ++ last

-- eight cpus, seven extents, of which some touch in real pages and on the host, and 16 sources, the last of which is told
abbrev pub sixteen_with : String → String
sixteen_with last =
    "image 11 8f0 0000000 0001 0000 0000001 0001 0001 0000002 0002 0003 0000008 0001 0002 0000009 0001 0006 000000b 0001 0005 0000010 0003 0007"
    ++ " 0000000 01 0000000 03 0000000 05 0000000 07 0000000 09 0000000 0b 0000000 0d 0000000 0f"
    ++ " 0000001 01 0000001 03 0000001 05 0000001 07 0000001 09 0000001 0b 0000001 0d "
    ++ last

-- each image with the status and the place that loading answers
abbrev pub images : List Exchange
images =
    -- "missing bits 110 at once", with "both values 0": behind the cpus and the extents; behind the extents; in the extent; in the source
    "image" prints "6e 0 0"
    ∷ "image 11" prints "6e 0 0"
    ∷ "image 11 12" prints "6e 0 0"
    ∷ "image 11 120 0" prints "6e 0 0"
    ∷ "image 11 120 0000000 0001 00" prints "6e 0 0"
    ∷ "image 11 121 0000000 0001 0000 0000100 0" prints "6e 0 0"
    -- five extents and seven are counts like another; in the seventh
    ∷ "image 11 1a" prints "6e 0 0"
    ∷ "image 11 1e" prints "6e 0 0"
    ∷ seven_with "000000c 0001 00" prints "6e 0 0"
    -- the second guest's counts, and its extent
    ∷ "image 12 120 0000000 0001 0000" prints "6e 0 0"
    ∷ "image 12 120 0000000 0001 0000 120 0000000 0001 00" prints "6e 0 0"
    -- before the rules on what was read: an extent of no page, and the source is missing
    ∷ "image 11 121 0000000 0000 0000 00" prints "6e 0 0"
    -- "a header or count outside its limits answers 111 at once", whatever is missing behind it: edition 0 and 2, guests 0 and 5;
    -- "0 for the header"
    ∷ "image 01" prints "6f 0 0"
    ∷ "image 21" prints "6f 0 0"
    ∷ "image 10" prints "6f 0 0"
    ∷ "image 15" prints "6f 0 0"
    -- cpus 0 and 9 with one extent, extents 0, sources 17; the same of the second guest, and the cpus of the fourth
    ∷ "image 11 02" prints "6f 0 0"
    ∷ "image 11 92" prints "6f 0 0"
    ∷ "image 11 10" prints "6f 0 0"
    ∷ "image 11 131 0" prints "6f 0 0"
    ∷ "image 12 120 0000000 0001 0000 020 0" prints "6f 1 0"
    ∷ "image 12 120 0000000 0001 0000 920 0" prints "6f 1 0"
    ∷ "image 12 120 0000000 0001 0000 10" prints "6f 1 0"
    ∷ "image 12 120 0000000 0001 0000 131 0" prints "6f 1 0"
    ∷ "image 14 120 0000000 0001 0000 120 0000000 0001 0001 120 0000000 0001 0002 02" prints "6f 3 0"
    -- before the rules on what was read: an extent of no page in the guest before
    ∷ "image 12 120 0000000 0000 0000 02" prints "6f 1 0"
    -- 112, "page count at least 1": the first and the last extent, and the seventh; of two the first
    ∷ "image 11 120 0000000 0000 0000" prints "70 0 0"
    ∷ "image 11 140 0000000 0001 0000 0000001 0000 0001 0" prints "70 0 1"
    ∷ seven_with "000000c 0000 0000" prints "70 0 6"
    ∷ "image 11 140 0000000 0000 0000 0000001 0000 0001 0" prints "70 0 0"
    -- "real page plus count at most 2^28; host page plus count at most 65,536"
    ∷ "image 11 120 fffffff 0002 0000" prints "70 0 0"
    ∷ "image 11 120 0000000 0002 ffff" prints "70 0 0"
    -- 113, "a guest's extents ascend in real page without overlap": the second below the first, in it, at the same page; the third
    -- below the second, and in it; the seventh at the sixth's page; of two the first; in the second guest
    ∷ "image 11 140 0000005 0001 0000 0000000 0001 0001 0" prints "71 0 1"
    ∷ "image 11 140 0000000 0002 0000 0000001 0001 0002 0" prints "71 0 1"
    ∷ "image 11 140 0000000 0001 0000 0000000 0001 0001 0" prints "71 0 1"
    ∷ "image 11 160 0000000 0001 0000 0000005 0001 0001 0000001 0001 0002" prints "71 0 2"
    ∷ "image 11 160 0000000 0001 0000 0000001 0002 0001 0000002 0001 0003" prints "71 0 2"
    ∷ seven_with "000000a 0001 0000" prints "71 0 6"
    ∷ "image 11 160 0000005 0001 0000 0000004 0001 0001 0000003 0001 0002" prints "71 0 1"
    ∷ "image 12 120 0000000 0001 0000 140 0000005 0001 0001 0000005 0001 0002 0" prints "71 1 1"
    -- 112 is tried over all guests before 113
    ∷ "image 12 140 0000004 0001 0000 0000000 0001 0001 120 0000000 0000 0002 0" prints "70 1 0"
    ∷ "image 12 140 0000004 0001 0000 0000000 0001 0001 120 0000000 0001 0002 0" prints "71 0 1"
    -- 114, "every run of host pages is compared with every other": in a guest, a run in a run, the last page with the first, the first
    -- guest with the last; the seventh with the first and with the sixth, the last of 28 with the first
    ∷ "image 11 140 0000000 0001 0000 0000001 0001 0000 0" prints "72 0 1"
    ∷ "image 11 140 0000000 0004 0000 0000008 0001 0002 0" prints "72 0 1"
    ∷ "image 11 140 0000000 0001 0002 0000008 0003 0000 0" prints "72 0 1"
    ∷ "image 14 120 0000000 0001 0000 120 0000000 0001 0001 120 0000000 0001 0002 120 0000000 0001 0000" prints "72 3 0"
    ∷ seven_with "000000c 0001 0006" prints "72 0 6"
    ∷ seven_with "000000c 0001 0001" prints "72 0 6"
    ∷ twenty_eight "0000" prints "72 3 6"
    -- of two pairs the one whose later extent is the earlier: 1 and 2, not 0 and 3; the same over guests
    ∷ "image 11 180 0000000 0001 0000 0000002 0001 0001 0000004 0001 0001 0000006 0001 0000 0" prints "72 0 2"
    ∷ "image 13 140 0000000 0001 0000 0000001 0001 0001 120 0000000 0001 0001 120 0000000 0001 0000 0" prints "72 1 0"
    -- 115, "no two sources on the host have the same devhandle and devino": in a guest, whatever their support; in two guests; the
    -- sixteenth; of two pairs the one whose later source is the earlier
    ∷ "image 11 122 0000000 0001 0000 0000001 02 0000001 03" prints "73 0 1"
    ∷ "image 12 121 0000000 0001 0000 0000100 0b 122 0000000 0001 0001 0000200 0b 0000100 0b 0" prints "73 1 1"
    ∷ sixteen_with "0000000 01" prints "73 0 f"
    ∷ "image 11 124 0000000 0001 0000 0000001 02 0000001 04 0000001 04 0000001 02" prints "73 0 2"
    -- 116, "fill bits zero, nothing behind"; "the guest count for 116"
    ∷ "image 11 121 0000000 0001 0000 0000100 0b 1" prints "74 1 0"
    ∷ "image 11 121 0000000 0001 0000 0000100 0b 8" prints "74 1 0"
    ∷ "image 11 121 0000000 0001 0000 0000100 0b 0 00" prints "74 1 0"
    ∷ "image 11 120 0000000 0001 0000 00" prints "74 1 0"
    ∷ "image 13 120 0000000 0001 0000 120 0000000 0001 0001 120 0000000 0001 0002 00" prints "74 3 0"
    -- "112 to 116 in that order": one image with a fault of each, which are mended one after another
    ∷ "image 12 141 0000004 0001 0000 0000000 0001 0000 0000100 0b 121 0000000 0000 0002 0000100 0b 1" prints "70 1 0"
    ∷ "image 12 141 0000004 0001 0000 0000000 0001 0000 0000100 0b 121 0000000 0001 0002 0000100 0b 1" prints "71 0 1"
    ∷ "image 12 141 0000004 0001 0000 0000005 0001 0000 0000100 0b 121 0000000 0001 0002 0000100 0b 1" prints "72 0 1"
    ∷ "image 12 141 0000004 0001 0000 0000005 0001 0001 0000100 0b 121 0000000 0001 0002 0000100 0b 1" prints "73 1 0"
    ∷ "image 12 141 0000004 0001 0000 0000005 0001 0001 0000100 0b 121 0000000 0001 0002 0000200 0b 1" prints "74 2 0"
    ∷ "image 12 141 0000004 0001 0000 0000005 0001 0001 0000100 0b 121 0000000 0001 0002 0000200 0b 0" prints "0 0 0"
    -- "it and 0 have both values 0"
    ∷ "image 12 221 0000000 0001 0000 0000100 0b 121 0000000 0001 0001 0000200 0b" prints "0 0 0"
    ∷ "image 11 120 0000000 0001 0000" prints "0 0 0"
    ∷ "image 11 121 0000000 0001 0000 0000100 0b 0" prints "0 0 0"
    -- the limits: four guests; all that one guest can have
    ∷ "image 14 120 0000000 0001 0000 120 0000000 0001 0001 120 0000000 0001 0002 120 0000000 0001 0003" prints "0 0 0"
    ∷ sixteen_with "0000001 0f" prints "0 0 0"
    -- "memory in six places", and in seven; 28 places on the host
    ∷ ("image 11 1c0" ++ six ++ "0") prints "0 0 0"
    ∷ seven_with "000000c 0001 0000" prints "0 0 0"
    ∷ twenty_eight "001b" prints "0 0 0"
    -- devhandle 0 and devino 0 are a source like another, though an absent one has them too
    ∷ "image 12 120 0000000 0001 0000 121 0000000 0001 0001 0000000 00 0" prints "0 0 0"
    -- the last real page and the last host page
    ∷ "image 11 120 fffffff 0001 0000" prints "0 0 0"
    ∷ "image 11 120 0000000 0001 ffff" prints "0 0 0"
    ∷ []

-- "After loading, all is unset, disabled, idle and 0": two guests, with the last numbers that the fields hold
abbrev pub last_numbers : String
last_numbers = "image 12 842 0000001 0002 0003 0000003 0001 0001 fffffff ff 0000001 80 120 fffffff 0001 ffff 0"

abbrev pub loaded_tables : Tables
loaded_tables = record {
  guests = 2;
  guest =
      record {
        extents = record { extents = 2; extent = in_places (run 1 2 3 ∷ run 3 1 1 ∷ []) };
        plant = record {
          versions = no_versions;
          cpus = 8;
          cpu = replicate 8 blank_cpu;
          sources = 2;
          source =
              record { devhandle = 0xfff_ffff; devino = 127; cookies = true; enabled = 0; state = 0; target = 0; cookie = 0 }
              ∷ record { devhandle = 1; devino = 64; cookies = false; enabled = 0; state = 0; target = 0; cookie = 0 }
              ∷ replicate 14 blank_source;
        };
      }
      ∷ record {
        extents = record { extents = 1; extent = in_places (run 0xfff_ffff 1 0xffff ∷ []) };
        plant = record { versions = no_versions; cpus = 1; cpu = replicate 8 blank_cpu; sources = 0; source = replicate 16 blank_source };
      }
      ∷ blank_guest
      ∷ blank_guest
      ∷ [];
}

-- how many places there are for guests, extents, cpus, queue records, descriptors of both lists, and sources
abbrev pub places_of : Tables → List ℕ
places_of tables =
    let guest : Guest = guest_at tables 0 in
    let cpu : Cpu = cpu_at guest.plant 0 in
    length tables.guest
    ∷ length guest.extents.extent
    ∷ length guest.plant.cpu
    ∷ length cpu.queue
    ∷ length cpu.ctx0.tsb
    ∷ length cpu.ctxnon0.tsb
    ∷ length guest.plant.source
    ∷ []

-- "Loading touches no memory"; an image takes the place of the one before, and a refused one leaves "tables with no guest"
abbrev pub loaded_again : List Exchange
loaded_again =
    "store 0 8 11" prints "0 0 0 0 0" setting (word 8 0x11 ∷ [])
    ∷ "image 11 120 0000000 0001 0000" prints "0 0 0" setting (majors 0 0 0 0 0 ∷ [])
    ∷ "load 0 8" prints "0 11 0 0 0"
    ∷ "image 11 120 0000000 0001 0000 00" prints "74 1 0" setting (guests 0 ∷ [])
    ∷ "load 0 8" prints "67 0 0 0 0"
    ∷ "image 11 120 0000000 0001 00" prints "6e 0 0"
    ∷ []

pub record ImageCases : Type 0 where
  pub told : texts images ≡ replies images
  pub loaded : (given (empty 0) last_numbers).session.tables ≡ loaded_tables
  pub places : places_of loaded_tables ≡ 4 ∷ 7 ∷ 8 ∷ 4 ∷ 4 ∷ 4 ∷ 16 ∷ []
  pub again : Cases 8192 ("image 11 120 0000000 0001 0000" ∷ "call 0 0 ff 0 1 1 0" ∷ []) loaded_again

pub image_cases : ImageCases
unfolding computing texts replies comparing after heard
image_cases = record { told = refl; loaded = refl; places = refl; again = refl }
