-- What a ruling grants, by the way a rule reads. A refusal grants nothing, so that there is nothing to show of it.
use Rattle.std.specs.Prelude.{if◌then◌else◌, Option, Some, None}
use mathlib.Core.Path.{◌≡◌, ap}
use native.Mathlib.Omega.{arith}
use mathlib.Core.Bool.{Bool, true, false, ◌&&◌, not}
use mathlib.Core.List.{List, []}
use Prim.Native.Nat.{ℕ, ◌%◌}
use lib.Dec.{eqb, leb}
use Rattle.rules.specs.declared.Answer.TheVariants.{Done}
use Rattle.rules.specs.declared.Call.{Call}
use Rattle.rules.specs.declared.Function.{Function}
use Rattle.rules.specs.declared.Plant.{Plant}
use Rattle.rules.specs.declared.Refusal.{Refusal}
use Rattle.rules.specs.declared.Refusal.TheVariants.{EINVAL, EBADTRAP, ENOTSUPPORTED, EBADALIGN, ENORADDR}
use Rattle.rules.specs.declared.TsbHit.{TsbHit}
use Rattle.rules.specs.declared.Versions.{Versions}
use Rattle.rules.specs.Kept.{cpu_at}
use Rattle.rules.specs.Real.{Sight, Write}
use Rattle.rules.specs.Rulings.{RulingBy, Ruling, refused, granted, Outcome, outcome_of, ◌or_refuse◌then◌, ◌refuses◌then◌, ◌grants◌}
use Rattle.rules.specs.Memory.{whole_pages, whole_word}
use Rattle.rules.specs.Tsb.{is_page_index}
use Rattle.rules.specs.Hits.{is_side, is_context_mark, tsb_hit}
use Rattle.rules.specs.Calls.{function_of, admitted, perform, call}
use Rattle.kept.proofs.Accepted.{granted_same}
use Rattle.promises.proofs.Ruled.{Ruled, Any, any_refused, ruled_then, ruled_scan, ruled_if, ruled_value, ruled_granted}

-- P holds of what the ruling grants, if it does
abbrev pub Granting : {R A : Type 0} → (A → Type 0) → RulingBy R A → Type 0
Granting P x = Ruled Any P x

module _ {R A : Type 0} (P : A → Type 0) where
  pub by_then : (t : Bool) (r : R) (x : RulingBy R A) → Granting P x → Granting P (t or_refuse r then x)
  by_then t r x h = ruled_then Any P t r x (λ _. tt) (λ _. h)

  pub by_scan : (found : Option ℕ) (r : ℕ → R) (x : RulingBy R A) → Granting P x → Granting P (found refuses r then x)
  by_scan found r x h = ruled_scan Any P found r x (λ _ _. tt) (λ _. h)

  pub by_if : (t : Bool) (x y : RulingBy R A) → Granting P x → Granting P y → Granting P (if t then x else y)
  by_if t x y = ruled_if Any P t x y

  pub by_value : {B : Type 0} (m : RulingBy R B) (k : B → RulingBy R A) → ((b : B) → m ≡ granted b → Granting P (k b)) → Granting P (m grants k)
  by_value m k h = ruled_value Any P m k (any_refused m) h

  -- of the value itself
  pub granted_has : (x : RulingBy R A) (a : A) → Granting P x → x ≡ granted a → P a
  granted_has x a = ruled_granted Any P x a

-- What a plant's event comes to: what its rule grants, or what a refusal leaves.
pub by_outcome : (P : Outcome → Type 0) (plant : Plant) (x : Ruling Outcome) → ((r : Refusal) → P (outcome_of plant (refused r))) → Granting P x → P (outcome_of plant x)
by_outcome P plant (refused r) left h = left r
by_outcome P plant (granted o) left h = h

module _ (P : Outcome → Type 0) (v : ℕ → ℕ → Bool) (address : ℕ) where
  -- what is done to whole pages, or to a word, that are valid
  pub by_pages : (length : ℕ) (x : Ruling Outcome) → Granting P x → Granting P (whole_pages v address length x)
  unfolding whole_pages
  by_pages length x h = by_then P (not (eqb length 0)) EINVAL _ (by_then P (eqb (address % 8192) 0 && eqb (length % 8192) 0) EBADALIGN _ (by_then P (v address length) ENORADDR x h))

  pub by_word : (x : Ruling Outcome) → Granting P x → Granting P (whole_word v address x)
  unfolding whole_word
  by_word x h = by_then P (eqb (address % 8) 0) EBADALIGN _ (by_then P (v address 8) ENORADDR x h)

-- a TSB hit that is done, with whatever it writes
pub by_hit : (P : Outcome → Type 0) (sight : Sight) (plant : Plant) (t : TsbHit) → ((writes : List Write) → P (record { answer = Done; plant = plant; writes = writes }))
    → Granting P (tsb_hit sight plant t.cpu t.side t.context t.index t.ticks)
unfolding tsb_hit
by_hit P sight plant t h =
    by_then P (is_side t.side) EINVAL _
    (by_then P (is_context_mark t.context) EINVAL _
    (by_then P (is_page_index t.index) EINVAL _ (by_if P (eqb (cpu_at plant t.cpu).statistics 0) _ _ (h []) (h _))))

-- A function that is admitted is the one that was asked for.
admits_group : (t : Bool) (g f : Function) → (t or_refuse EBADTRAP then granted g) ≡ granted f → ◌≡◌ {A = Option Function} (Some g) (Some f)
admits_group true g f e = ap Some (granted_same g f e)
admits_group false g f e = let z : ◌≡◌ {A = ℕ} 0 1 = cc in absurd (omega arith)

admits_one : (t u : Bool) (g f : Function) → (t or_refuse EBADTRAP then u or_refuse ENOTSUPPORTED then granted g) ≡ granted f → ◌≡◌ {A = Option Function} (Some g) (Some f)
admits_one true true g f e = ap Some (granted_same g f e)
admits_one true false g f e = let z : ◌≡◌ {A = ℕ} 0 1 = cc in absurd (omega arith)
admits_one false u g f e = let z : ◌≡◌ {A = ℕ} 0 1 = cc in absurd (omega arith)

admits_asked : (v : Versions) (asked : Option Function) (f : Function) → admitted v asked ≡ granted f → asked ≡ Some f
unfolding admitted
admits_asked v None f e = let z : ◌≡◌ {A = ℕ} 0 1 = cc in absurd (omega arith)
admits_asked v (Some Function.SetVersion) f e = ap Some (granted_same Function.SetVersion f e)
admits_asked v (Some Function.GetVersion) f e = ap Some (granted_same Function.GetVersion f e)
admits_asked v (Some Function.CpuQconf) f e = admits_group (leb 1 v.core) Function.CpuQconf f e
admits_asked v (Some Function.CpuQinfo) f e = admits_group (leb 1 v.core) Function.CpuQinfo f e
admits_asked v (Some Function.CpuMyid) f e = admits_group (leb 1 v.core) Function.CpuMyid f e
admits_asked v (Some Function.CpuMondoSend) f e = admits_group (leb 1 v.core) Function.CpuMondoSend f e
admits_asked v (Some Function.MmuTsbCtx0) f e = admits_group (leb 1 v.core) Function.MmuTsbCtx0 f e
admits_asked v (Some Function.MmuTsbCtxnon0) f e = admits_group (leb 1 v.core) Function.MmuTsbCtxnon0 f e
admits_asked v (Some Function.MemScrub) f e = admits_group (leb 1 v.core) Function.MemScrub f e
admits_asked v (Some Function.MemSync) f e = admits_group (leb 1 v.core) Function.MemSync f e
admits_asked v (Some Function.MmustatConf) f e = admits_group (leb 1 v.statistics) Function.MmustatConf f e
admits_asked v (Some Function.MmustatInfo) f e = admits_group (leb 1 v.statistics) Function.MmustatInfo f e
admits_asked v (Some Function.IntrDevino2sysino) f e = admits_one (leb 1 v.interrupt) (eqb v.interrupt 1) Function.IntrDevino2sysino f e
admits_asked v (Some (Function.Sysino k)) f e = admits_one (leb 1 v.interrupt) (eqb v.interrupt 1) (Function.Sysino k) f e
admits_asked v (Some (Function.Cookie k)) f e = admits_group (eqb v.interrupt 2) (Function.Cookie k) f e

-- A call performs its own function, or is refused.
pub by_call : (P : Outcome → Type 0) (sight : Sight) (plant : Plant) (c : Call) → ((f : Function) → function_of c.trap c.function ≡ Some f → Granting P (perform sight plant c f)) → Granting P (call sight plant c)
unfolding call
by_call P sight plant c h = by_value P (admitted plant.versions (function_of c.trap c.function)) _ (λ f e. h f (admits_asked plant.versions (function_of c.trap c.function) f e))
