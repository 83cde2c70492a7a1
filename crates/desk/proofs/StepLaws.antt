-- The desk behind a line of the input, at each return of the code.
use Rattle.std.proofs.Common.{Option}
use mathlib.Core.Path.{◌≡◌, sym, ap, ◌∙◌}
use mathlib.Core.List.{List}
use mathlib.Core.Logic.{◌⊎◌, ⊎_elim}
use Prim.Native.Nat.{ℕ}
use Rattle.rules.specs.declared.Event.{Event}
use Rattle.rules.specs.declared.PlanLine.{PlanLine}
use Rattle.rules.specs.declared.Tables.{Tables}
use Rattle.rules.specs.declared.Desk.{Desk}
use Rattle.rules.specs.Image.{load}
use Rattle.rules.specs.Text.{Line, bad, image, event, parse}
use Rattle.rules.specs.Plan.{plan_line, drawn, loaded_desk, begun}
use Rattle.text.specs.declared.line.Line.{Line as Told}
use Rattle.text.specs.Lines.{told, image_of}

-- the first line: which one the code's parser told
module _ (n : ℕ) (tables : Tables) (line : List ℕ) (t : Told) (p : t ≡ told (parse line)) (r : Desk) where
  pub begun_image : t ≡ Told.Image → r ≡ loaded_desk (load (image_of (parse line))) → r ≡ begun n tables line (parse line)
  unfolding told image_of
  begun_image q f = go (parse line) (sym p ∙ q) f
    where
      go : (l : Line) → told l ≡ Told.Image → r ≡ loaded_desk (load (image_of l)) → r ≡ begun n tables line l
      go bad x y = cc
      go (image bytes) x y = y
      go (event v) x y = cc

  module _ (l : Option PlanLine) (e : l ≡ plan_line line) (f : r ≡ drawn n tables l) where
    drew : r ≡ drawn n tables (plan_line line)
    drew = f ∙ ap (drawn n tables) e

    begun_bad : t ≡ Told.Bad → r ≡ begun n tables line (parse line)
    unfolding told
    begun_bad q = go (parse line) (sym p ∙ q)
      where
        go : (k : Line) → told k ≡ Told.Bad → r ≡ begun n tables line k
        go bad x = drew
        go (image bytes) x = cc
        go (event v) x = cc

    begun_event : (v : Event) → t ≡ Told.Event v → r ≡ begun n tables line (parse line)
    unfolding told
    begun_event v q = go (parse line) (sym p ∙ q)
      where
        go : (k : Line) → told k ≡ Told.Event v → r ≡ begun n tables line k
        go bad x = cc
        go (image bytes) x = cc
        go (event w) x = drew

    pub begun_drawn : (t ≡ Told.Bad) ⊎ ((v : Event) × (t ≡ Told.Event v)) → r ≡ begun n tables line (parse line)
    begun_drawn q = ⊎_elim begun_bad (λ w. begun_event w.0 w.1) q
