-- The limits that the paper sets on the tables; src/lib.rt names the same ones for the arrays.
use Rattle.std.specs.Prelude.{ℕ, ◌^◌}
use Rattle.rules.specs.Widths.{devhandle_width, devino_width}

-- "Guests 0 to 3. Each has 1 to 8 cpus, 1 to 4 extents of memory, 0 to 16 interrupt sources."
abbrev pub guest_limit : ℕ
guest_limit = 4

abbrev pub cpu_limit : ℕ
cpu_limit = 8

-- of the extents, by request No. 6: "The limit for each guest goes from 4 to 7."
abbrev pub extent_limit : ℕ
extent_limit = 7

abbrev pub source_limit : ℕ
source_limit = 16

-- "Each of the eight cpus has four queue records and two TSB lists of at most 4."
abbrev pub queue_limit : ℕ
queue_limit = 4

abbrev pub tsb_limit : ℕ
tsb_limit = 4

-- "pages of 8,192 bytes"
abbrev pub page_size : ℕ
page_size = 8192

-- "real page plus count at most 2^28; host page plus count at most 65,536"
abbrev pub real_pages : ℕ
real_pages = 2 ^ 28

abbrev pub host_pages : ℕ
host_pages = 65536

-- "devhandle 28 bits, devino 7"
abbrev pub devhandles : ℕ
devhandles = 2 ^ devhandle_width

abbrev pub devinos : ℕ
devinos = 2 ^ devino_width
