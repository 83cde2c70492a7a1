-- An entry of a mondo's list for which nothing is done: it is passed over, or left.
use mathlib.Core.Path.{◌≡◌}
use mathlib.Core.Bool.{Bool, true, false, ◌&&◌}
use mathlib.Core.List.{List, ◌∷◌}
use Prim.Native.Nat.{ℕ, suc, ◌+◌, ◌≤◌, ◌<◌}
use native.Mathlib.Omega.{arith}
use lib.Dec.{eqb}
use lib.ListN.{length}
use Rattle.rules.specs.declared.Plant.{Plant}
use Rattle.rules.specs.Real.{Sight}
use Rattle.rules.specs.Mondo.{listed_cpus, Sent, send_one, send_all}
use Rattle.rules.proofs.Tests.{and_left, and_right}
use Rattle.promises.specs.Machine.{all_written}
use Rattle.promises.specs.Resent.{times, mondo_ring, room_in}
use Rattle.promises.proofs.SendSteps.{nothing}
use Rattle.promises.proofs.SendState.{Setting, Stands, Gain, Ends, first_reads, wider, in_front}

module _ (S : Setting) (plant : Plant) (s : Sight) (x : ℕ) (xs : List ℕ) (mark : ℕ) (st : Stands S plant s (x ∷ xs) mark) where
  open S use {cpus, packet}

  abbrev rest : Sent
  rest = send_all plant xs packet (mark + 2)

  abbrev later : Sight
  later = all_written s rest.writes

  -- `all` is whether it does not count as left: then it names no cpu. Where each ring has room it does not count.
  module _ (all : Bool) (e : send_one plant x packet mark ≡ nothing plant x packet mark all) (ends : Ends S plant s xs (mark + 2) rest)
      (no-cpu : (c : ℕ) → c < cpus → all ≡ true → eqb x c ≡ false) (takes : ((c : ℕ) → c < cpus → times c (x ∷ xs) ≤ room_in (mondo_ring plant c)) → all ≡ true) where
    list_stays : listed_cpus later.byte mark (suc (length xs)) ≡ x ∷ listed_cpus later.byte (mark + 2) (length xs)
    list_stays = in_front S plant s x xs mark st s later x (first_reads S plant s x xs mark st) ends.others

    gain : (c : ℕ) → c < cpus → Gain S c plant s (x ∷ xs) mark (record { plant = rest.plant; all = all && rest.all; writes = rest.writes })
    unfolding times
    gain c h =
        let g = ends.gains c h in
        record {
          number = g.number;
          gets = g.gets;
          rest = rw list_stays (omega (arith, g.rest));
          whole = λ q. rw (no-cpu c h (and_left all rest.all q)) (omega (arith, g.whole (and_right all rest.all q)));
        }

    pub left_ends : Ends S plant s (x ∷ xs) mark (send_all plant (x ∷ xs) packet mark)
    unfolding send_all times
    left_ends = rw e (record {
      others = λ b o. ends.others b (wider S plant s x xs mark st b o);
      entries = λ P p f. rw list_stays (f.0, ends.entries P p f.1);
      gains = gain;
      enough = λ f. rw (takes f) (ends.enough (λ c h. omega (arith, f c h)));
    })
