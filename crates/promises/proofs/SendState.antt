-- A mondo's list on its way: what stands before an entry's turn, and what a list has come to in the end.
use mathlib.Core.Path.{◌≡◌, refl, ap, ◌∙◌}
use mathlib.Core.Bool.{Bool, true, false}
use mathlib.Core.List.{List, [], ◌∷◌}
use Prim.Native.Nat.{ℕ, zero, suc, ◌+◌, ◌*◌, ◌≤◌, ◌<◌}
use native.Mathlib.Nat.{add-zero}
use native.Mathlib.Omega.{arith}
use lib.Dec.{eqb}
use lib.ListN.{length}
use borrow.Author.Tests.{ne_eqb}
use Rattle.rules.specs.declared.Plant.{Plant}
use Rattle.rules.specs.Limits.{cpu_limit}
use Rattle.rules.specs.Real.{Sight}
use Rattle.rules.specs.Mondo.{listed_cpu, listed_cpus, is_stranger, Sent, send_all}
use Rattle.rules.proofs.Listed.{Each, listed_cons}
use Rattle.records.specs.Sound.{RecordSound}
use Rattle.memory.proofs.Numbers.{number_same}
use Rattle.promises.specs.Machine.{all_written}
use Rattle.promises.specs.Resent.{times, mondo_ring, room_in, ring_base, ring_size, Apart}
use Rattle.promises.proofs.RingGains.{Gets, gets_nothing}

-- lists that read the same bytes
pub listed_same : (f g : ℕ → ℕ) (list n : ℕ) → ((j : ℕ) → j < 2 * n → f (list + j) ≡ g (list + j)) → listed_cpus f list n ≡ listed_cpus g list n
unfolding listed_cpus
listed_same f g list zero e = refl
listed_same f g list (suc n) e =
    let here : listed_cpu f list n ≡ listed_cpu g list n = number_same f g (list + 2 * n) (list + 2 * n) 2 (λ j h.
    let q : list + 2 * n + j ≡ list + (2 * n + j) = omega arith in
    rw q (e (2 * n + j) (omega arith))) in
    rw (listed_same f g list n (λ j h. e j (omega arith)), here)

-- What stays the same during a send: which ranges are the guest's own, its cpus, where their rings lie, apart from each other, and
-- the data.
pub record Setting : Type 0 where
  pub v : ℕ → ℕ → Bool
  pub part : (b n k j : ℕ) → v b n ≡ true → k + j ≤ n → v (b + k) j ≡ true
  pub cpus : ℕ
  pub few : cpus ≤ cpu_limit
  pub base : ℕ → ℕ
  pub size : ℕ → ℕ
  pub rings : (c d : ℕ) → c < cpus → d < cpus → (c ≡ d → ⊥) → Apart (base c) (size c) (base d) (size d)
  pub packet : List ℕ
  pub full : length packet ≡ 64

module _ (S : Setting) where
  open S use {v, part, cpus, few, base, size, rings, packet, full}

  -- what there is before: rings that are right and lie where they did at first, and the list as it reads
  pub record Stands (plant : Plant) (s : Sight) (list : List ℕ) (mark : ℕ) : Type 0 where
    pub seen : s.valid ≡ v
    pub sound : (c : ℕ) → c < cpus → RecordSound v (mondo_ring plant c)
    pub based : (c : ℕ) → c < cpus → ring_base (mondo_ring plant c) ≡ base c
    pub sized : (c : ℕ) → c < cpus → ring_size (mondo_ring plant c) ≡ size c
    pub own : v mark (2 * length list) ≡ true
    pub apart : (c : ℕ) → c < cpus → Apart mark (2 * length list) (base c) (size c)
    pub reads : list ≡ listed_cpus s.byte mark (length list)
    pub known : Each (λ x. is_stranger cpus x ≡ false) list

  -- what a cpu's ring has got, and how often the list still names the cpu
  pub record Gain (c : ℕ) (plant : Plant) (s : Sight) (list : List ℕ) (mark : ℕ) (o : Sent) : Type 0 where
    pub number : ℕ
    pub gets : Gets (mondo_ring plant c) (mondo_ring o.plant c) s (all_written s o.writes) packet number
    pub rest : number + times c (listed_cpus (all_written s o.writes).byte mark (length list)) ≡ times c list
    pub whole : o.all ≡ true → number ≡ times c list

  -- an address is none of the list's and none of a ring's
  abbrev pub Outside : ℕ → ℕ → ℕ → Type 0
  Outside mark n b = (mark ≤ b → b < mark + 2 * n → ⊥) × ((c : ℕ) → c < cpus → base c ≤ b → b < base c + size c → ⊥)

  -- what a list has come to: no other byte changed; each entry reads what it did, or 0xffff; and if each ring had room, none is left
  pub record Ends (plant : Plant) (s : Sight) (list : List ℕ) (mark : ℕ) (o : Sent) : Type 1 where
    pub others : (b : ℕ) → Outside mark (length list) b → (all_written s o.writes).byte b ≡ s.byte b
    pub entries : (P : ℕ → Type 0) → P 0xffff → Each P list → Each P (listed_cpus (all_written s o.writes).byte mark (length list))
    pub gains : (c : ℕ) → c < cpus → Gain c plant s list mark o
    pub enough : ((c : ℕ) → c < cpus → times c list ≤ room_in (mondo_ring plant c)) → o.all ≡ true

  -- of an empty list nothing is got
  pub none : (plant : Plant) (s : Sight) (mark : ℕ) → Stands plant s [] mark → Ends plant s [] mark (send_all plant [] packet mark)
  unfolding send_all all_written listed_cpus times
  none plant s mark st = record {
    others = λ b o. refl;
    entries = λ P p e. e;
    gains = λ c h. record { number = 0; gets = gets_nothing v (mondo_ring plant c) s packet (st.sound c h); rest = refl; whole = λ e. refl };
    enough = λ e. refl;
  }

  pub no_mark : (c : ℕ) → c < cpus → eqb 0xffff c ≡ false
  no_mark c h = ne_eqb 0xffff c (λ e. omega arith)

  -- an entry in front of others
  module _ (plant : Plant) (s : Sight) (x : ℕ) (xs : List ℕ) (mark : ℕ) (st : Stands plant s (x ∷ xs) mark) where
    both : x ∷ xs ≡ listed_cpu s.byte mark 0 ∷ listed_cpus s.byte (mark + 2) (length xs)
    both = st.reads ∙ listed_cons s.byte mark (length xs)

    pub first_reads : listed_cpu s.byte mark 0 ≡ x
    first_reads = cc both

    pub others_read : listed_cpus s.byte (mark + 2) (length xs) ≡ xs
    others_read = cc both

    pub wider : (b : ℕ) → Outside mark (suc (length xs)) b → Outside (mark + 2) (length xs) b
    wider b o = (λ p q. o.0 (omega arith) (omega arith), o.1)

    -- it reads y before those behind it are done, and so it does afterwards
    pub in_front : (before after : Sight) (y : ℕ) → listed_cpu before.byte mark 0 ≡ y → ((b : ℕ) → Outside (mark + 2) (length xs) b → after.byte b ≡ before.byte b)
        → listed_cpus after.byte mark (suc (length xs)) ≡ y ∷ listed_cpus after.byte (mark + 2) (length xs)
    in_front before after y reads same = listed_cons after.byte mark (length xs) ∙ ap (λ (z : ℕ). z ∷ listed_cpus after.byte (mark + 2) (length xs)) (stays ∙ reads)
      where
        outside : (j : ℕ) → j < 2 → Outside (mark + 2) (length xs) (mark + j)
        outside j h = (λ p q. omega arith, λ c l p q. st.apart c l (mark + j) (omega arith) (omega arith) p q)

        stays : listed_cpu after.byte mark 0 ≡ listed_cpu before.byte mark 0
        stays = number_same after.byte before.byte (mark + 2 * 0) (mark + 2 * 0) 2 (λ j h. same (mark + 2 * 0 + j) (simp add-zero (outside j h)))
