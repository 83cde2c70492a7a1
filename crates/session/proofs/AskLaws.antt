-- What a line asks for, at each return of the code.
use mathlib.Core.Path.{◌≡◌, refl, sym, ap, ◌∙◌}
use mathlib.Core.List.{List}
use Prim.Native.Nat.{ℕ, ◌≤◌}
use native.Mathlib.Omega.{arith}
use lib.ListN.{length, take}
use lib.Seq.{sets, length-sets, length-take-le}
use Rattle.rules.specs.declared.Event.{Event}
use Rattle.rules.specs.declared.Loaded.{Loaded}
use Rattle.rules.specs.declared.Reply.{Reply}
use Rattle.rules.specs.declared.Tables.{Tables}
use Rattle.rules.specs.Image.{load}
use Rattle.rules.specs.Text.{Line, bad, image, event, parse}
use Rattle.records.specs.Verdict.{Verdict}
use Rattle.text.specs.declared.line.Line.{Line as Told}
use Rattle.text.specs.Lines.{told, image_of}
use Rattle.text.proofs.SizeLaws.{image_few}
use Rattle.session.specs.declared.ask.Asked.{Asked}
use Rattle.session.specs.Asking.{asked, asked_of}
use Rattle.session.proofs.ReplyLaws.{front}

module _ (tables : Tables) (door : Verdict) where
  module _ (line : List ℕ) (t : Told) (p : t ≡ told (parse line)) where
    pub line_bad : t ≡ Told.Bad → Asked.Said Reply.Bad ≡ asked tables door (parse line)
    unfolding asked told
    line_bad q = go (parse line) (sym p ∙ q)
      where
        go : (l : Line) → told l ≡ Told.Bad → Asked.Said Reply.Bad ≡ asked tables door l
        go bad e = refl
        go (image bytes) e = cc
        go (event x) e = cc

    pub line_image : t ≡ Told.Image → Asked.Image ≡ asked tables door (parse line)
    unfolding asked told
    line_image q = go (parse line) (sym p ∙ q)
      where
        go : (l : Line) → told l ≡ Told.Image → Asked.Image ≡ asked tables door l
        go bad e = cc
        go (image bytes) e = refl
        go (event x) e = cc

    pub line_event : (e : Event) (r : Asked) → t ≡ Told.Event e → r ≡ asked_of tables door e → r ≡ asked tables door (parse line)
    unfolding asked told
    line_event e r q f = go (parse line) (sym p ∙ q)
      where
        go : (l : Line) → told l ≡ Told.Event e → r ≡ asked tables door l
        go bad x = cc
        go (image bytes) x = cc
        go (event y) x = let w : e ≡ y = cc in f ∙ ap (asked_of tables door) w

-- the bytes of an image, in a buffer of 1,024
module _ (line m o : List ℕ) (n : ℕ) (w : (n ≡ length (image_of (parse line))) × (o ≡ sets m 0 (image_of (parse line)))) (e : length m ≡ 1024) where
  pub bytes_fit : n ≤ 1024
  bytes_fit = omega (arith, image_few line, w.0)

  pub bytes_long : length o ≡ 1024
  bytes_long = rw w.1 (length-sets m 0 (image_of (parse line)) ∙ e)

  pub bytes_taken : n ≡ length (take n o)
  bytes_taken = sym (length-take-le n o (omega (arith, bytes_fit, bytes_long)))

  pub bytes_are : take n o ≡ image_of (parse line)
  bytes_are = rw (w.1, w.0) (front m (image_of (parse line)) (omega (arith, image_few line)))

  pub loaded_is : (r : Loaded) → r ≡ load (take n o) → r ≡ load (image_of (parse line))
  loaded_is r f = f ∙ ap load bytes_are
