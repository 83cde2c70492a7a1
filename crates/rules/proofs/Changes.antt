-- A host as rows of numbers, and the rows in which two differ: what a line changes, and so what it leaves.
use mathlib.Core.Bool.{Bool, true, false, cond}
use mathlib.Core.List.{List, [], ◌∷◌, ◌++◌}
use Prim.Native.Nat.{ℕ, zero, suc, ◌+◌, ◌*◌, ◌/◌}
use lib.Dec.{eqb}
use lib.ListN.{get_or}
use Rattle.rules.specs.Types.{Extent, QueueRecord, Tsb, Tsbs, Cpu, Source, Versions, Plant, Guest, Tables}
use Rattle.rules.specs.Limits.{extent_limit}
use Rattle.rules.specs.Kept.{guest_at, extent_at, cpu_at, queue_at, tsb_at, source_at}
use Rattle.rules.specs.Text.{same}
use Rattle.rules.specs.Session.{Session}

-- A row names its place first: what it is of (the function that sets it), the guest, and what follows.
abbrev pub Row : Type 0
Row = List ℕ

-- how many guests there are, and a guest's cpus, sources and extents
abbrev pub guests : ℕ → Row
guests n = 0 ∷ n ∷ []

abbrev pub counts : ℕ → ℕ → ℕ → ℕ → Row
counts guest cpus sources extents = 1 ∷ guest ∷ cpus ∷ sources ∷ extents ∷ []

abbrev pub extent : ℕ → ℕ → ℕ → ℕ → ℕ → Row
extent guest i real count host = 2 ∷ guest ∷ i ∷ real ∷ count ∷ host ∷ []

-- the majors of groups 0, 1, 2 and 0x200
abbrev pub majors : ℕ → ℕ → ℕ → ℕ → ℕ → Row
majors guest sun4v core interrupt statistics = 0xff ∷ guest ∷ sun4v ∷ core ∷ interrupt ∷ statistics ∷ []

abbrev pub unset : ℕ → ℕ → ℕ → Row
unset guest cpu queue = 0x14 ∷ guest ∷ cpu ∷ queue ∷ []

abbrev pub ring : ℕ → ℕ → ℕ → ℕ → ℕ → ℕ → ℕ → Row
ring guest cpu queue base size head tail = 0x14 ∷ guest ∷ cpu ∷ queue ∷ base ∷ size ∷ head ∷ tail ∷ []

-- the count of the list that 0x20 or 0x21 sets, and one of its places
abbrev pub tsbs : ℕ → ℕ → ℕ → ℕ → Row
tsbs function guest cpu count = function ∷ guest ∷ cpu ∷ count ∷ []

abbrev pub tsb : ℕ → ℕ → ℕ → ℕ → ℕ → ℕ → ℕ → ℕ → ℕ → ℕ → Row
tsb function guest cpu i index associativity entries context mask base =
    function ∷ guest ∷ cpu ∷ i ∷ index ∷ associativity ∷ entries ∷ context ∷ mask ∷ base ∷ []

abbrev pub statistics : ℕ → ℕ → ℕ → Row
statistics guest cpu address = 0x102 ∷ guest ∷ cpu ∷ address ∷ []

abbrev pub number_of_bool : Bool → ℕ
number_of_bool false = 0
number_of_bool true = 1

-- what a source is, and what its calls set
abbrev pub device : ℕ → ℕ → ℕ → ℕ → Bool → Row
device guest i devhandle devino cookies = 3 ∷ guest ∷ i ∷ devhandle ∷ devino ∷ number_of_bool cookies ∷ []

abbrev pub source : ℕ → ℕ → ℕ → ℕ → ℕ → ℕ → Row
source guest i enabled state target cookie = 4 ∷ guest ∷ i ∷ enabled ∷ state ∷ target ∷ cookie ∷ []

-- the rows of places 0 to n-1, in order
unfoldable pub each : ℕ → (ℕ → List Row) → List Row
each zero f = []
each (suc n) f = each n f ++ f n

abbrev pub queue_row : ℕ → ℕ → ℕ → QueueRecord → Row
queue_row g c q QueueRecord.Unset = unset g c q
queue_row g c q (QueueRecord.Set r) = ring g c q r.base r.size r.head r.tail

abbrev pub tsb_row : ℕ → ℕ → ℕ → ℕ → Tsb → Row
tsb_row function g c i t = tsb function g c i t.index t.associativity t.entries t.context t.mask t.base

abbrev pub tsb_rows : ℕ → ℕ → ℕ → Tsbs → List Row
tsb_rows function g c list = tsbs function g c list.tsbs ∷ each 4 (λ i. tsb_row function g c i (tsb_at list i) ∷ [])

abbrev pub cpu_rows : ℕ → ℕ → Cpu → List Row
cpu_rows g c cpu =
    each 4 (λ q. queue_row g c (0x3c + q) (queue_at cpu q) ∷ [])
    ++ tsb_rows 0x20 g c cpu.ctx0 ++ tsb_rows 0x21 g c cpu.ctxnon0 ++ (statistics g c cpu.statistics ∷ [])

abbrev pub source_rows : ℕ → ℕ → Source → List Row
source_rows g i s = device g i s.devhandle s.devino s.cookies ∷ source g i s.enabled s.state s.target s.cookie ∷ []

abbrev pub guest_rows : ℕ → Guest → List Row
guest_rows g guest =
    let plant : Plant = guest.plant in
    let v : Versions = plant.versions in
    (counts g plant.cpus plant.sources guest.extents.extents ∷ majors g v.sun4v v.core v.interrupt v.statistics ∷ [])
    ++ each extent_limit (λ i. let x : Extent = extent_at guest.extents i in extent g i x.real x.count x.host ∷ [])
    ++ each plant.cpus (λ c. cpu_rows g c (cpu_at plant c))
    ++ each plant.sources (λ i. source_rows g i (source_at plant i))

-- the guests, cpus and sources that are there. The absent ones are blank, or the next event would answer 101.
abbrev pub rows : Tables → List Row
rows tables = guests tables.guests ∷ each tables.guests (λ g. guest_rows g (guest_at tables g))

-- the rows of the second list that are not as in the first
unfoldable pub differing : List Row → List Row → List Row
differing [] [] = []
differing [] (y ∷ ys) = y ∷ differing [] ys
differing (x ∷ xs) [] = []
differing (x ∷ xs) (y ∷ ys) = cond (same x y) (differing xs ys) (y ∷ differing xs ys)

-- a word of the host's memory, by its offset
abbrev pub word : ℕ → ℕ → Row
word offset value = 5 ∷ offset ∷ value ∷ []

-- the numbers of the words in which two memories differ, one for each byte that does
unfoldable pub differing_at : ℕ → List ℕ → List ℕ → List ℕ
differing_at at [] m = []
differing_at at (x ∷ xs) [] = []
differing_at at (x ∷ xs) (y ∷ ys) = elim (eqb x y) [ true ↦ differing_at (suc at) xs ys | false ↦ at / 8 ∷ differing_at (suc at) xs ys ]

-- each of these words once, with its value, big-endian; the last one that was given is `k`, if it is one
unfoldable pub value : List ℕ → ℕ → ℕ → ℕ
value memory at zero = 0
value memory at (suc n) = value memory at n * 256 + get_or memory (at + n) 0

unfoldable pub words_of : List ℕ → ℕ → List ℕ → List Row
words_of memory k [] = []
words_of memory k (i ∷ is) =
    elim (eqb (suc i) k) [ true ↦ words_of memory k is | false ↦ word (8 * i) (value memory (8 * i) 8) ∷ words_of memory (suc i) is ]

abbrev pub changed_words : List ℕ → List ℕ → List Row
changed_words before after = words_of after 0 (differing_at 0 before after)

abbrev pub changed : Session → Session → List Row
changed before after = differing (rows before.tables) (rows after.tables) ++ changed_words before.memory after.memory

-- these under one name
unfoldable pub comparing : Unit {0}
unfolding each differing differing_at value words_of
comparing = tt
