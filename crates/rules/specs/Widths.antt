-- "The partition image": the widths of its fields in bits, and how many bits each part has; src/widths.rt names the same ones.
use Rattle.std.specs.Prelude.{ℕ, ◌+◌}

-- "Header: edition 4 bits (1), guests 4 bits (1 to 4)."
abbrev pub edition_width : ℕ
edition_width = 4

abbrev pub guests_width : ℕ
guests_width = 4

abbrev pub header_bits : ℕ
header_bits = edition_width + guests_width

-- "For each guest: cpus 4 bits, extents 3 bits, sources 5 bits"
abbrev pub cpus_width : ℕ
cpus_width = 4

abbrev pub extents_width : ℕ
extents_width = 3

abbrev pub sources_width : ℕ
sources_width = 5

abbrev pub counts_bits : ℕ
counts_bits = cpus_width + extents_width + sources_width

-- "then its extents, each real page 28 bits, page count 16, host page 16"
abbrev pub real_page_width : ℕ
real_page_width = 28

abbrev pub page_count_width : ℕ
page_count_width = 16

abbrev pub host_page_width : ℕ
host_page_width = 16

abbrev pub extent_bits : ℕ
extent_bits = real_page_width + page_count_width + host_page_width

-- "then its sources, each devhandle 28 bits, devino 7, cookie support 1"
abbrev pub devhandle_width : ℕ
devhandle_width = 28

abbrev pub devino_width : ℕ
devino_width = 7

abbrev pub cookie_support_width : ℕ
cookie_support_width = 1

abbrev pub source_bits : ℕ
source_bits = devhandle_width + devino_width + cookie_support_width
