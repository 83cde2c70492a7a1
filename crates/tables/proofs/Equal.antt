-- Laws of a comparison with a blank record.
use Rattle.std.proofs.Common.{replicate, arith}
use Rattle.std.specs.List.{list_all}
use mathlib.Core.Path.{◌≡◌, refl, ◌∙◌}
use mathlib.Core.Bool.{Bool, true, false, ◌&&◌}
use mathlib.Core.List.{List, [], ◌∷◌}
use Prim.Native.Nat.{ℕ, zero, suc}
use lib.Dec.{eqb}
use lib.ListN.{length, get_or}
use lib.Pointwise.{pointwise}
use Rattle.rules.specs.declared.Extent.{Extent}
use Rattle.rules.specs.declared.Extents.{Extents}
use Rattle.rules.specs.declared.Queue.{Queue}
use Rattle.rules.specs.declared.Ring.{Ring}
use Rattle.rules.specs.declared.QueueRecord.{QueueRecord}
use Rattle.rules.specs.declared.Tsb.{Tsb}
use Rattle.rules.specs.declared.Tsbs.{Tsbs}
use Rattle.rules.specs.declared.Cpu.{Cpu}
use Rattle.rules.specs.Limits.{extent_limit, queue_limit, tsb_limit}
use Rattle.rules.specs.Kept.{blank_extent, blank_queue, blank_tsb}
use Rattle.rules.specs.Scan.{all_below}
use Rattle.rules.specs.Tables.{extent_blank, extents_blank, record_blank, tsb_blank, tsbs_blank, cpu_blank}
use Rattle.tables.proofs.Parts.{all_items}

-- a list of n elements that is compared with b at each place
module _ {A : Type 0} (E : A → A → Bool) (p : A → Bool) (b d : A) (f : (x : A) → E x b ≡ p x) where
  each_compared : (n : ℕ) (l : List A) → length l ≡ n → pointwise E l (replicate n b) ≡ list_all p l
  each_compared zero [] e = refl
  each_compared (suc n) [] e = absurd (omega arith)
  each_compared zero (x ∷ l) e = absurd (omega arith)
  each_compared (suc n) (x ∷ l) e = rw (f x, each_compared n l (omega arith))

  pub all_compared : (n : ℕ) (l : List A) → length l ≡ n → pointwise E l (replicate n b) ≡ all_below n (λ i. p (get_or l i d))
  all_compared n l e = each_compared n l e ∙ all_items d p l ∙ rw e

module _ (Q : Queue → Queue → Bool) (T : Tsb → Tsb → Bool) (u : Q blank_queue blank_queue ≡ true) (s : (r : Ring) → Q (record { held = QueueRecord.Set r }) blank_queue ≡ false) (g : (x : Tsb) → T x blank_tsb ≡ tsb_blank x) where
  queue_compared : (held : QueueRecord) → Q (record { held = held }) blank_queue ≡ record_blank held
  queue_compared QueueRecord.Unset = u
  queue_compared (QueueRecord.Set r) = s r

  tsbs_compared : (x : Tsbs) → length x.tsb ≡ tsb_limit → (eqb x.tsbs 0 && pointwise T x.tsb (replicate tsb_limit blank_tsb)) ≡ tsbs_blank x
  unfolding tsbs_blank
  tsbs_compared x e = rw (all_compared T tsb_blank blank_tsb blank_tsb g tsb_limit x.tsb e)

  pub cpu_compared : (x : Cpu) → length x.queue ≡ queue_limit → length x.ctx0.tsb ≡ tsb_limit → length x.ctxnon0.tsb ≡ tsb_limit
      → (pointwise Q x.queue (replicate queue_limit blank_queue) && ((eqb x.ctx0.tsbs 0 && pointwise T x.ctx0.tsb (replicate tsb_limit blank_tsb)) && ((eqb x.ctxnon0.tsbs 0 && pointwise T x.ctxnon0.tsb (replicate tsb_limit blank_tsb)) && eqb x.statistics 0))) ≡ cpu_blank x
  unfolding cpu_blank
  cpu_compared x a b c =
      rw (all_compared Q (λ u. record_blank u.held) blank_queue blank_queue (λ x. queue_compared x.held) queue_limit x.queue a, tsbs_compared x.ctx0 b, tsbs_compared x.ctxnon0 c)

module _ (E : Extent → Extent → Bool) (f : (x : Extent) → E x blank_extent ≡ extent_blank x) where
  pub extents_compared : (x : Extents) → length x.extent ≡ extent_limit → (eqb x.extents 0 && pointwise E x.extent (replicate extent_limit blank_extent)) ≡ extents_blank x
  unfolding extents_blank
  extents_compared x e = rw (all_compared E extent_blank blank_extent blank_extent f extent_limit x.extent e)
