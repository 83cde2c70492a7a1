-- A whole list of mondos, by its entries, one after another.
use mathlib.Core.Path.{refl, sym}
use mathlib.Core.Bool.{true, false, true≢false}
use mathlib.Core.List.{List, [], ◌∷◌}
use Prim.Native.Nat.{ℕ, suc, ◌+◌, ◌*◌, ◌≤◌, ◌<◌}
use native.Mathlib.Omega.{arith}
use lib.ListN.{length}
use borrow.Author.Tests.{eqb-true, eq-eqb, leb-false}
use Rattle.rules.specs.declared.Plant.{Plant}
use Rattle.rules.specs.Real.{Sight}
use Rattle.rules.specs.Mondo.{send_all}
use Rattle.promises.specs.Resent.{times, mondo_ring, room_in}
use Rattle.promises.proofs.SendSteps.{Step, passed, left, goes, step}
use Rattle.promises.proofs.SendState.{Setting, Stands, Ends, none, no_mark, others_read}
use Rattle.promises.proofs.SendLeft.{left_ends}
use Rattle.promises.proofs.SendDone.{stands, done_ends}

-- a cpu that stands in a list asks for room
asks : (x : ℕ) (xs : List ℕ) (room : ℕ) → times x (x ∷ xs) ≤ room → 0 < room
unfolding times
asks x xs room h = omega (arith, rw (eq-eqb x x refl) at h)

module _ (S : Setting) where
  open S use {v, part, cpus, packet}

  -- the rings may have room or not
  pub sending : (list : List ℕ) (plant : Plant) (s : Sight) (mark : ℕ) → Stands S plant s list mark → Ends S plant s list mark (send_all plant list packet mark)
  sending [] plant s mark st = none S plant s mark st
  sending (x ∷ xs) plant s mark st = go (λ plant s st. sending xs plant s (mark + 2) st) (step plant x packet mark)
    where
      behind_it : Stands S plant s xs (mark + 2)
      behind_it = record {
        seen = st.seen;
        sound = st.sound;
        based = st.based;
        sized = st.sized;
        own = part mark (2 * suc (length xs)) 2 (2 * length xs) st.own (omega arith);
        apart = λ c h b l u p q. st.apart c h b (omega arith) (omega arith) p q;
        reads = sym (others_read S plant s x xs mark st);
        known = st.known.1;
      }

      go : ((plant : Plant) (s : Sight) → Stands S plant s xs (mark + 2) → Ends S plant s xs (mark + 2) (send_all plant xs packet (mark + 2))) → Step plant x packet mark → Ends S plant s (x ∷ xs) mark (send_all plant (x ∷ xs) packet mark)
      go ih (passed p e) =
          left_ends S plant s x xs mark st true e (ih plant s behind_it)
          (λ c h a. rw (eqb-true x 0xffff p) (no_mark S c h)) (λ f. refl)
      go ih (left p no_room e) =
          let there : x < cpus = leb-false cpus x (rw p at st.known.0) in
          left_ends S plant s x xs mark st false e (ih plant s behind_it)
          (λ c h a. absurd (true≢false (sym a))) (λ f. absurd (no_room v (st.sound x there) (asks x xs (room_in (mondo_ring plant x)) (f x there))))
      go ih (goes p ring held room e) =
          let there : x < cpus = leb-false cpus x (rw p at st.known.0) in
          done_ends S plant s x xs mark st there ring held room e (ih _ _ (stands S plant s x xs mark st there ring held room))
