-- A piece that is fed in parts: what is left of it comes, from where the session stands, to what the whole comes to.
use Rattle.rules.specs.Text.{line_feed}
use Rattle.session.proofs.InParts.{fed_behind}
use Rattle.session.specs.declared.feeder.Feeder.{Feeder}
use Rattle.session.specs.Feeding.{Progress, unprinted, fed, taken_up, AllFed}
use Rattle.std.proofs.Common.{◌≡◌, ◌<◌, ◌-◌, ◌+◌, List, [], ◌∷◌, ◌++◌, ℕ, length, get_or, take, drop, ap, sym, refl, ◌∙◌, add-one, drop-cons, Result, Ok, Err, IfOk}
use Rattle.std.proofs.lemmas.List.{take_rest}
use lib.ListN.{take-append-drop}

-- a part that has been fed whole
pub part_fed : (whole : Progress) (rest part behind : List ℕ) (feeder after : Feeder) (memory memory' : List ℕ) → unprinted (fed (taken_up feeder memory) rest) ≡ whole
    → rest ≡ part ++ behind → AllFed feeder memory part after memory' → unprinted (fed (taken_up after memory') behind) ≡ whole
part_fed whole rest part behind feeder after memory memory' h e f =
    fed_behind feeder after memory memory' part behind f ∙ ap (λ (bs : List ℕ). unprinted (fed (taken_up feeder memory) bs)) (sym e) ∙ h

-- a line, and then its end
pub line_fed : (whole : Progress) (rest : List ℕ) (n : ℕ) (feeder between after : Feeder) (memory memory' memory'' : List ℕ) → unprinted (fed (taken_up feeder memory) rest) ≡ whole
    → n < length rest → get_or rest n 0 ≡ line_feed → AllFed feeder memory (take n rest) between memory' → AllFed between memory' (line_feed ∷ []) after memory''
    → unprinted (fed (taken_up after memory'') (take (length rest - (n + 1)) (drop (n + 1) rest))) ≡ whole
line_fed whole rest n feeder between after memory memory' memory'' h within is f g =
    let behind = drop (n + 1) rest in
    let split : drop n rest ≡ line_feed ∷ behind = rw (add-one n, drop-cons rest n 0 within, is) in
    let e : rest ≡ take n rest ++ (line_feed ∷ behind) = sym (take-append-drop n rest) ∙ ap (λ (bs : List ℕ). take n rest ++ bs) split in
    rw (take_rest rest (n + 1))
    (part_fed whole (line_feed ∷ behind) (line_feed ∷ []) behind between after memory' memory'' (part_fed whole rest (take n rest) (line_feed ∷ behind) feeder between memory memory' h e f) refl g)

-- all that is left, where it could be fed
pub rest_fed : {E : Type 0} (r : Result Feeder E) (feeder between : Feeder) (memory memory' memory'' piece rest : List ℕ)
    → unprinted (fed (taken_up between memory') rest) ≡ unprinted (fed (taken_up feeder memory) piece)
    → IfOk r (λ after. AllFed between memory' rest after memory'') → IfOk r (λ after. AllFed feeder memory piece after memory'')
rest_fed (Ok after) feeder between memory memory' memory'' piece rest h f = f ∙ h
rest_fed (Err e) feeder between memory memory' memory'' piece rest h f = f
