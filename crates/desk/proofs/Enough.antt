-- Of a long input the first 97 lines of 2,049 bytes are enough: each good line takes a place of the tables, which have 96, and a longer line is bad.
use Rattle.std.specs.Prelude.{if◌then◌else◌, Option, Some, None}
use mathlib.Core.Bool.{Bool, true, false, ◌&&◌}
use mathlib.Core.Path.{◌≡◌, refl, sym, ◌∙◌}
use mathlib.Core.List.{List, [], ◌∷◌}
use mathlib.Core.Logic.{◌⊎◌, inl, inr, ⊎_elim}
use Prim.Native.Nat.{ℕ, zero, suc, ◌+◌, ◌-◌, ◌*◌, ◌<◌, ◌≤◌, min, max}
use native.Mathlib.Numerals.{unary_clauses}
use native.Mathlib.Omega.{arith}
use lib.Dec.{ltb, eqb}
use lib.ListN.{length, take, drop, set, length-take, length-set}
use lib.Seq.{take_all, take-nil, take-take, get_or-set_same}
use borrow.Author.Tests.{ltb-true, lt-leb}
use Rattle.rules.specs.declared.Guest.{Guest}
use Rattle.rules.specs.declared.Tables.{Tables}
use Rattle.rules.specs.declared.PlanLine.{PlanLine}
use Rattle.rules.specs.declared.Stage.{Stage}
use Rattle.rules.specs.declared.Desk.{Desk}
use Rattle.rules.specs.Kept.{no_guests, hollow_guest}
use Rattle.rules.specs.Text.{Line, bad, image, event, parse, line_feed, word_bad}
use Rattle.rules.specs.Session.{lines_from}
use Rattle.rules.specs.Plan.{last_guest, with_last, some_guest, drawing, bad_at, drawn, plan_line, begun, stepped_by, stepped, steps, fresh, desk_after, word_line, desk_text}
use Rattle.rules.proofs.Tests.{and_left, and_right}
use Rattle.rules.proofs.Tests.{lt_or_ge}
use Rattle.desk.specs.Ends.{line_length}
use Rattle.desk.proofs.LineLaws.{plan_long}
use Rattle.desk.proofs.DrawLaws.{some_last}
use Rattle.desk.proofs.EndLaws.{length_within, split_first}

-- the places that are left: 24 for each guest, itself, its extents and its sources
abbrev spare : Guest → ℕ
spare g = (7 - g.extents.extents) + (16 - g.plant.sources)

abbrev left : Tables → ℕ
left tables = (4 - tables.guests) * 24 + (if some_guest tables then spare (last_guest tables) else 0)

-- an image takes the room of a fresh desk, so there is some
abbrev room : Tables → Stage → ℕ
room tables Stage.Fresh = max 1 (left tables)
room tables Stage.Drawing = left tables
room tables (Stage.Loaded answer) = 0
room tables (Stage.Bad n) = 0

-- tables that are drawn have places for four guests; of others nothing is asked, which any number shows
abbrev Sized : Tables → Stage → Type 0
Sized tables Stage.Fresh = length tables.guest ≡ 4
Sized tables Stage.Drawing = length tables.guest ≡ 4
Sized tables (Stage.Loaded answer) = ℕ
Sized tables (Stage.Bad n) = ℕ

-- a desk that a bad line ended
record Ended (desk : Desk) : Type 0 where
  pub number : ℕ
  pub bad : desk.stage ≡ Stage.Bad number

-- or that goes on, with less room
record Less (desk : Desk) (most : ℕ) : Type 0 where
  pub sized : Sized desk.tables desk.stage
  pub less : room desk.tables desk.stage < most

bad_ended : (n : ℕ) (tables : Tables) → Ended (bad_at n tables)
bad_ended n tables = record { number = n; bad = refl }

-- a line that is added takes a place
abbrev more_guests : Tables → Guest → Tables
more_guests tables g = record { guests = tables.guests + 1; guest = set tables.guest tables.guests g }

guest_less : (tables : Tables) (g : Guest) → tables.guests < 4 → left (more_guests tables g) < left tables
guest_less tables g h = go (some_guest (more_guests tables g)) (spare (last_guest (more_guests tables g))) (omega arith)
  where
    go : (t : Bool) (k : ℕ) → k ≤ 23 → (4 - (tables.guests + 1)) * 24 + (if t then k else 0) < left tables
    go true k w = omega arith
    go false k w = omega arith

last_less : (tables : Tables) (g : Guest) → length tables.guest ≡ 4 → some_guest tables ≡ true → spare g < spare (last_guest tables) → left (with_last tables g) < left tables
last_less tables g e h w =
    let i : tables.guests - 1 < length tables.guest = omega (arith, some_last tables h) in
    rw (h, get_or-set_same tables.guest (tables.guests - 1) g hollow_guest i) (omega arith)

module _ (n : ℕ) (tables : Tables) (e : length tables.guest ≡ 4) where
  abbrev Goes : Desk → Type 0
  Goes desk = Ended desk ⊎ Less desk (left tables)

  drew : (t : Bool) (next : Tables) → (t ≡ true → (length next.guest ≡ 4) × (left next < left tables)) → Goes (if t then drawing next else bad_at n tables)
  drew true next f = inr (record { sized = (f refl).0; less = (f refl).1 })
  drew false next f = inl (bad_ended n tables)

  drew_last : (t u : Bool) (g : Guest) → t ≡ some_guest tables → (u ≡ true → spare g < spare (last_guest tables))
      → Goes (if t && u then drawing (with_last tables g) else bad_at n tables)
  drew_last t u g p f =
      drew (t && u) (with_last tables g)
      (λ h. (length-set tables.guest (tables.guests - 1) g ∙ e, last_less tables g e (sym p ∙ and_left t u h) (f (and_right t u h))))

  drawn_less : (line : Option PlanLine) → Goes (drawn n tables line)
  unfolding drawn
  drawn_less None = inl (bad_ended n tables)
  drawn_less (Some (PlanLine.Guest cpus)) =
      drew (ltb tables.guests 4) _
      (λ h. (length-set tables.guest tables.guests _ ∙ e, guest_less tables _ (ltb-true tables.guests 4 h)))
  drawn_less (Some (PlanLine.Extent x)) =
      drew_last (some_guest tables) (ltb (last_guest tables).extents.extents 7) _ refl
      (λ h. omega (arith, ltb-true (last_guest tables).extents.extents 7 h))
  drawn_less (Some (PlanLine.Source s)) =
      drew_last (some_guest tables) (ltb (last_guest tables).plant.sources 16) _ refl
      (λ h. omega (arith, ltb-true (last_guest tables).plant.sources 16 h))

-- so each line ends the plan or takes a place
module _ (n : ℕ) (line : List ℕ) where
  widen : (desk : Desk) (k m : ℕ) → k ≤ m → Ended desk ⊎ Less desk k → Ended desk ⊎ Less desk m
  widen desk k m h (inl b) = inl b
  widen desk k m h (inr l) = inr (record { sized = l.sized; less = omega (arith, l.less) })

  begun_less : (tables : Tables) (l : Line) → length tables.guest ≡ 4 → Ended (begun n tables line l) ⊎ Less (begun n tables line l) (max 1 (left tables))
  begun_less tables (image bytes) e = inr (record { sized = 0; less = omega arith })
  begun_less tables bad e = widen _ _ _ (omega arith) (drawn_less n tables e (plan_line line))
  begun_less tables (event v) e = widen _ _ _ (omega arith) (drawn_less n tables e (plan_line line))

  stage_less : (tables : Tables) (s : Stage) → Sized tables s → Ended (stepped_by n tables line s) ⊎ Less (stepped_by n tables line s) (room tables s)
  stage_less tables Stage.Fresh e = begun_less tables (parse line) e
  stage_less tables Stage.Drawing e = drawn_less n tables e (plan_line line)
  stage_less tables (Stage.Loaded answer) e = inl (bad_ended n tables)
  stage_less tables (Stage.Bad k) e = inl (bad_ended k tables)

  stepped_less : (desk : Desk) → Sized desk.tables desk.stage → Ended (stepped n desk line) ⊎ Less (stepped n desk line) (room desk.tables desk.stage)
  unfolding stepped
  stepped_less desk e = stage_less desk.tables desk.stage e

-- what is told of a desk that a bad line ended, whatever follows
ended_text : (n k : ℕ) (desk : Desk) (lines : List (List ℕ)) → desk.stage ≡ Stage.Bad k → desk_text (steps n desk lines) ≡ word_line word_bad (k ∷ [])
unfolding steps stepped desk_text
ended_text n k desk [] e = rw e
ended_text n k desk (line ∷ lines) e = ended_text (suc n) k (stepped n desk line) lines (rw e)

-- a line of more than 2,048 bytes is bad, whatever it says
abbrev number_of : ℕ → Stage → ℕ
number_of n Stage.Fresh = n
number_of n Stage.Drawing = n
number_of n (Stage.Loaded answer) = n
number_of n (Stage.Bad k) = k

module _ (n : ℕ) (line : List ℕ) (h : 2048 < length line) where
  long_drawn : (tables : Tables) → (drawn n tables (plan_line line)).stage ≡ Stage.Bad n
  unfolding drawn
  long_drawn tables = rw (← plan_long line h)

  long_begun : (tables : Tables) → (begun n tables line (parse line)).stage ≡ Stage.Bad n
  unfolding parse
  long_begun tables = rw (lt-leb (length line) 2048 h) (long_drawn tables)

  long_stage : (tables : Tables) (s : Stage) → (stepped_by n tables line s).stage ≡ Stage.Bad (number_of n s)
  long_stage tables Stage.Fresh = long_begun tables
  long_stage tables Stage.Drawing = long_drawn tables
  long_stage tables (Stage.Loaded answer) = refl
  long_stage tables (Stage.Bad k) = refl

  long_text : (desk : Desk) (lines : List (List ℕ)) → desk_text (steps n desk (line ∷ lines)) ≡ word_line word_bad (number_of n desk.stage ∷ [])
  unfolding steps stepped
  long_text desk lines = ended_text (suc n) (number_of n desk.stage) (stepped n desk line) lines (long_stage desk.tables desk.stage)

-- an input that is cut: its first line, and what is behind it
cut_length : (m : ℕ) (bs : List ℕ) → line_length (take m bs) ≡ min m (line_length bs)
unfolding line_length
cut_length zero bs = omega arith
cut_length (suc m) [] = omega arith
cut_length (suc m) (b ∷ bs) = go (eqb b line_feed) (cut_length m bs)
  where
    go : (t : Bool) → line_length (take m bs) ≡ min m (line_length bs)
        → (if t then 0 else suc (line_length (take m bs))) ≡ min (suc m) (if t then 0 else suc (line_length bs))
    go true w = omega arith
    go false w = omega arith

cut_behind : (k m : ℕ) (bs : List ℕ) → drop k (take m bs) ≡ take (m - k) (drop k bs)
cut_behind zero m bs = simp unary_clauses
cut_behind (suc k) zero bs = let z : 0 - suc k ≡ 0 = omega arith in rw z
cut_behind (suc k) (suc m) [] = simp (unary_clauses, take-nil)
cut_behind (suc k) (suc m) (b ∷ bs) = simp unary_clauses (cut_behind k m bs)

module _ (m : ℕ) (bs : List ℕ) (h : m < length bs) where
  cut_size : length (take m bs) ≡ m
  cut_size = rw length-take (omega arith)

  -- where the first line is short, it is whole
  cut_short : line_length bs < m → lines_from [] (take m bs) ≡ take (line_length bs) bs ∷ lines_from [] (take (m - suc (line_length bs)) (drop (suc (line_length bs)) bs))
  cut_short l =
      let z : line_length (take m bs) ≡ line_length bs = cut_length m bs ∙ omega arith in
      split_first [] (take m bs) (omega (arith, cut_size)) ∙ rw (z, cut_behind, take-take (line_length bs) m bs (omega arith))

-- k lines are enough where there is room for fewer
module _ (n : ℕ) (desk : Desk) (bs : List ℕ) (m : ℕ) where
  abbrev Same : Type 0
  Same = desk_text (steps n desk (lines_from [] (take m bs))) ≡ desk_text (steps n desk (lines_from [] bs))

  same_all : length bs ≤ m → Same
  same_all h = rw (take_all m bs h)

  same_long : m < length bs → 2048 < m → 2048 < line_length bs → Same
  same_long h l w =
      let a : 2048 < length (take (line_length (take m bs)) (take m bs)) = rw (length-take, cut_size m bs h, cut_length) (omega arith) in
      let b : 2048 < length (take (line_length bs) bs) = rw length-take (omega (arith, length_within bs)) in
      rw (split_first [] (take m bs) (omega (arith, cut_size m bs h)), split_first [] bs (omega arith))
      (long_text n _ a desk _ ∙ sym (long_text n _ b desk _))

-- behind a first line that is short the rest is cut
same_short : (n : ℕ) (desk : Desk) (bs : List ℕ) (m : ℕ) → m < length bs → line_length bs < m
    → Same (suc n) (stepped n desk (take (line_length bs) bs)) (drop (suc (line_length bs)) bs) (m - suc (line_length bs)) → Same n desk bs m
unfolding steps
same_short n desk bs m h l f = rw (cut_short m bs h l, split_first [] bs (omega arith)) f

same_ended : (n : ℕ) (desk : Desk) (bs : List ℕ) (m : ℕ) → Ended desk → Same n desk bs m
same_ended n desk bs m b = ended_text n b.number desk _ b.bad ∙ sym (ended_text n b.number desk _ b.bad)

same_text : (k n : ℕ) (desk : Desk) (bs : List ℕ) (m : ℕ) → Sized desk.tables desk.stage → room desk.tables desk.stage < k → k * 2049 ≤ m → Same n desk bs m
same_text zero n desk bs m e r h = absurd (omega arith)
same_text (suc k) n desk bs m e r h =
    let next : Desk = stepped n desk (take (line_length bs) bs) in
    let rest : List ℕ = drop (suc (line_length bs)) bs in
    let j : ℕ = m - suc (line_length bs) in
    let goes : Ended next ⊎ Less next (room desk.tables desk.stage) = stepped_less n (take (line_length bs) bs) desk e in
    ⊎_elim
    (λ l. ⊎_elim (λ w. same_long n desk bs m l (omega arith) w)
    (λ w. same_short n desk bs m l (omega arith)
    (⊎_elim (λ b. same_ended (suc n) next rest j b)
    (λ f. same_text k (suc n) next rest j f.sized (omega (arith, f.less)) (omega arith))
    goes))
    (lt_or_ge 2048 (line_length bs)))
    (λ l. same_all n desk bs m l)
    (lt_or_ge m (length bs))

-- what the program prints of its first bytes is what it prints of all
pub enough : (input : List ℕ) → desk_text (desk_after (take 198753 input)) ≡ desk_text (desk_after input)
unfolding desk_after fresh no_guests
enough input = same_text 97 1 fresh input 198753 refl (omega arith) (omega arith)
