-- A call of 0x42 by the tests that it passes: what it then does, and that an answer EWOULDBLOCK tells that it passed them all.
use mathlib.Core.Path.{◌≡◌, refl, sym, ap, ◌∙◌}
use mathlib.Core.Bool.{Bool, true, false, ◌&&◌, not, false≢true}
use Prim.Native.Nat.{◌*◌, ◌%◌}
use lib.Dec.{leb, ltb, eqb}
use Rattle.rules.specs.declared.Answer.TheVariants.{Refused}
use Rattle.rules.specs.declared.Call.{Call}
use Rattle.rules.specs.declared.Event.{Event}
use Rattle.rules.specs.declared.Function.{Function}
use Rattle.rules.specs.declared.Refusal.{Refusal}
use Rattle.rules.specs.declared.Refusal.TheVariants.{NoCaller, EBADTRAP, EINVAL, EBADALIGN, ENORADDR, ENOCPU, EWOULDBLOCK}
use Rattle.rules.specs.Scan.{◌is_from◌to◌, some_below}
use Rattle.rules.specs.Statuses.{status_of}
use Rattle.rules.specs.Rulings.{Ruling, granted, Outcome, outcome_of, ◌or_refuse◌then◌, ◌grants◌}
use Rattle.rules.specs.Calls.{admitted, perform, call}
use Rattle.rules.specs.Mondo.{listed_cpu, is_caller, is_stranger, Sent, send_all, sent_as, cpu_mondo_send}
use Rattle.rules.specs.Host.{plant_rule}
use Rattle.promises.specs.Machine.{Machine, did}
use Rattle.promises.specs.Resent.{MondoCall, list_of, data_of}

-- other refusals are told by another number
pub differ : (r : Refusal) → eqb (status_of r) 9 ≡ false → Refused r ≡ Refused EWOULDBLOCK → ⊥
unfolding status_of
differ r n e =
    let same : r ≡ EWOULDBLOCK = cc in
    false≢true (sym n ∙ ap (λ (x : Refusal). eqb (status_of x) 9) same)

module _ (m : Machine) (c : Call) where
  open m use {plant, sight}

  -- its tests, in the paper's order
  pub record Passed : Type 0 where
    pub caller : ltb c.cpu plant.cpus ≡ true
    pub core : leb 1 plant.versions.core ≡ true
    pub count : (c.arg0 is_from 1 to 64) ≡ true
    pub aligned : (eqb (c.arg2 % 64) 0 && eqb (c.arg1 % 2) 0) ≡ true
    pub ranges : (sight.valid c.arg2 64 && sight.valid c.arg1 (2 * c.arg0)) ≡ true
    pub others : not (some_below c.arg0 (λ i. is_caller c.cpu (listed_cpu sight.byte c.arg1 i))) ≡ true
    pub known : not (some_below c.arg0 (λ i. is_stranger plant.cpus (listed_cpu sight.byte c.arg1 i))) ≡ true

  abbrev pub sends : Sent
  sends = send_all plant (list_of sight c) (data_of sight c) c.arg1

  pub passed_sends : MondoCall c → Passed → did m (Event.Call c) ≡ sent_as sends
  unfolding plant_rule call admitted perform cpu_mondo_send
  passed_sends f p = rw (p.caller, f, p.core, p.count, p.aligned, p.ranges, p.others, p.known)

  -- a ruling that answers EWOULDBLOCK was refused by no test before
  abbrev Left : Ruling Outcome → Type 0
  Left x = (outcome_of plant x).answer ≡ Refused EWOULDBLOCK

  behind : (t : Bool) (r : Refusal) (x : Ruling Outcome) → eqb (status_of r) 9 ≡ false → Left (t or_refuse r then x) → (t ≡ true) × Left x
  behind true r x n e = (refl, e)
  behind false r x n e = absurd (differ r n e)

  pub left_passed : MondoCall c → (did m (Event.Call c)).answer ≡ Refused EWOULDBLOCK → Passed
  unfolding status_of plant_rule call admitted perform cpu_mondo_send
  left_passed f e =
      let a = behind (ltb c.cpu plant.cpus) NoCaller _ refl e in
      let b = grouped (leb 1 plant.versions.core) (rw f at a.1) in
      let d = behind _ EINVAL _ refl b.1 in
      let g = behind _ EBADALIGN _ refl d.1 in
      let h = behind _ ENORADDR _ refl g.1 in
      let k = behind _ EINVAL _ refl h.1 in
      let l = behind _ ENOCPU _ refl k.1 in
      record { caller = a.0; core = b.0; count = d.0; aligned = g.0; ranges = h.0; others = k.0; known = l.0 }
    where
      grouped : (t : Bool) → Left ((t or_refuse EBADTRAP then granted Function.CpuMondoSend) grants λ g. perform sight plant c g) → (t ≡ true) × Left (cpu_mondo_send sight plant c.cpu c.arg0 c.arg1 c.arg2)
      grouped true q = (refl, q)
      grouped false q = absurd (differ EBADTRAP refl q)
