-- The source calls and raise leave a record that keeps the rules.
use Rattle.std.specs.Prelude.{if◌then◌else◌, Option, Some, None}
use mathlib.Core.Path.{◌≡◌, refl, sym, ap}
use mathlib.Core.Bool.{Bool, true, false, ◌&&◌, ◌||◌, not, or-true, true≢false}
use Prim.Native.Nat.{ℕ, ◌≤◌, ◌<◌}
use native.Mathlib.Omega.{arith}
use lib.Dec.{leb, ltb, eqb}
use borrow.Author.Tests.{leb-true, ltb-true, eq-eqb, ne_eqb, eqb-false}
use Rattle.rules.specs.declared.Plant.{Plant}
use Rattle.rules.specs.declared.Refusal.{Refusal}
use Rattle.rules.specs.declared.Refusal.TheVariants.{EINVAL, ENOCPU, ENOTSUPPORTED, NoSource}
use Rattle.rules.specs.declared.Answer.TheVariants.{One}
use Rattle.rules.specs.declared.CookieCall.{CookieCall}
use Rattle.rules.specs.declared.Source.{Source}
use Rattle.rules.specs.declared.SourceCall.{SourceCall}
use Rattle.rules.specs.Limits.{devhandles, devinos}
use Rattle.rules.specs.Kept.{source_at, with_source, with_queue, with_enabled, with_state, with_target, with_cookie}
use Rattle.rules.specs.Rulings.{Ruling, granted, Outcome, says, done, ◌or_refuse◌then◌}
use Rattle.rules.specs.Queues.{Put, put}
use Rattle.rules.specs.Sources.{sysino_of, found, get_enabled, set_enabled, get_state, set_state, get_target, set_target, get_cookie, set_cookie, intr_devino2sysino, source_call, cookie_call, intr, vintr, device_entry, raise_at, raise}
use Rattle.rules.specs.Tables.{cookie_right, enabled_right, source_right, plant_keeps}
use Rattle.rules.proofs.Scan.{first_below_lem}
use Rattle.rules.proofs.Tests.{and_left, and_right}
use Rattle.kept.proofs.Plants.{Kept, unchanged, further, source_there, source_replaced}
use Rattle.kept.proofs.Queues.{put_kept}
use Rattle.kept.proofs.Rulings.{Fine, fine_then, fine_grants, fine_if}

-- the parts of the rule of a source, and the rule from its parts
module _ (plant : Plant) (s : Source) where
  abbrev pub name_part : Bool
  name_part = ltb s.devhandle devhandles && ltb s.devino devinos

  abbrev pub states_part : Bool
  states_part = leb s.enabled 1 && leb s.state 2

  abbrev pub cookies_part : Bool
  cookies_part = cookie_right plant.versions.interrupt s && enabled_right plant.versions.interrupt s

  abbrev pub settings_part : Bool
  settings_part = ltb s.target plant.cpus && cookies_part

  pub made : name_part ≡ true → leb s.enabled 1 ≡ true → leb s.state 2 ≡ true → ltb s.target plant.cpus ≡ true → cookie_right plant.versions.interrupt s ≡ true → enabled_right plant.versions.interrupt s ≡ true → source_right plant s ≡ true
  unfolding source_right
  made a b c d f g = rw (a, b, c, d, f, g)

  module _ (e : source_right plant s ≡ true) where
    pub name_part_lem : name_part ≡ true
    unfolding source_right
    name_part_lem = and_left name_part (states_part && settings_part) e

    states_part_lem : states_part ≡ true
    unfolding source_right
    states_part_lem = and_left states_part settings_part (and_right name_part (states_part && settings_part) e)

    settings_part_lem : settings_part ≡ true
    unfolding source_right
    settings_part_lem = and_right states_part settings_part (and_right name_part (states_part && settings_part) e)

    pub enabled_part : leb s.enabled 1 ≡ true
    enabled_part = and_left (leb s.enabled 1) (leb s.state 2) states_part_lem

    pub state_part : leb s.state 2 ≡ true
    state_part = and_right (leb s.enabled 1) (leb s.state 2) states_part_lem

    pub target_part : ltb s.target plant.cpus ≡ true
    target_part = and_left (ltb s.target plant.cpus) cookies_part settings_part_lem

    pub cookie_part : cookie_right plant.versions.interrupt s ≡ true
    cookie_part = and_left (cookie_right plant.versions.interrupt s) (enabled_right plant.versions.interrupt s) (and_right (ltb s.target plant.cpus) cookies_part settings_part_lem)

    pub allowed_part : enabled_right plant.versions.interrupt s ≡ true
    allowed_part = and_right (cookie_right plant.versions.interrupt s) (enabled_right plant.versions.interrupt s) (and_right (ltb s.target plant.cpus) cookies_part settings_part_lem)

module _ (v : ℕ → ℕ → Bool) (plant : Plant) (e : plant_keeps v plant ≡ true) (i : ℕ) (there : i < plant.sources) where
  abbrev s : Source
  s = source_at plant i

  right : source_right plant s ≡ true
  right = source_there v plant e i there

  -- the source at i replaced by itself with a setting changed
  stored : (x : Source) → source_right plant x ≡ true → x.devhandle ≡ s.devhandle → x.devino ≡ s.devino → Kept v plant (with_source plant i x)
  stored x r a b = source_replaced v plant e i x there r a b

  pub state_kept : (value : ℕ) → leb value 2 ≡ true → Kept v plant (with_source plant i (with_state s value))
  unfolding cookie_right enabled_right
  state_kept value h =
      stored (with_state s value)
      (made plant (with_state s value) (name_part_lem plant s right) (enabled_part plant s right) h (target_part plant s right) (cookie_part plant s right) (allowed_part plant s right))
      refl refl

  pub set_state_fine : (value : ℕ) → Fine v plant (set_state plant i value)
  unfolding set_state
  set_state_fine value = fine_then v plant e (leb value 2) EINVAL (done (with_source plant i (with_state s value))) (λ h. state_kept value h)

  pub set_target_fine : (value : ℕ) → Fine v plant (set_target plant i value)
  unfolding set_target cookie_right enabled_right
  set_target_fine value =
      fine_then v plant e (ltb value plant.cpus) ENOCPU (done (with_source plant i (with_target s value))) (λ h.
      stored (with_target s value)
      (made plant (with_target s value) (name_part_lem plant s right) (enabled_part plant s right) (state_part plant s right) h (cookie_part plant s right) (allowed_part plant s right))
      refl refl)

  -- a source may be enabled once group 2 is negotiated, under 2.0 with a cookie
  may_enable : (value : ℕ) → 1 ≤ plant.versions.interrupt → leb value 1 ≡ true → not (eqb value 1 && (eqb plant.versions.interrupt 2 && eqb s.cookie 0)) ≡ true → enabled_right plant.versions.interrupt (with_enabled s value) ≡ true
  unfolding enabled_right
  may_enable value m h l = go (eqb value 0) refl
    where
      rest : Bool
      rest = eqb plant.versions.interrupt 2 && eqb s.cookie 0

      none : (t : Bool) → rest ≡ t → not (true && t) ≡ true → not (eqb plant.versions.interrupt 0 || t) ≡ true
      none true q z = absurd (true≢false (sym z))
      none false q z = rw (ne_eqb plant.versions.interrupt 0 (λ w. omega arith))

      go : (t : Bool) → eqb value 0 ≡ t → (t || not (eqb plant.versions.interrupt 0 || rest)) ≡ true
      go true q = refl
      go false q =
          let one : value ≡ 1 = omega (arith, leb-true value 1 h, eqb-false value 0 q) in
          none rest refl (rw (eq-eqb value 1 one) at l)

  pub set_enabled_fine : (value : ℕ) → 1 ≤ plant.versions.interrupt → Fine v plant (set_enabled plant i value)
  unfolding set_enabled cookie_right
  set_enabled_fine value m =
      fine_then v plant e (leb value 1) EINVAL (not (eqb value 1 && (eqb plant.versions.interrupt 2 && eqb s.cookie 0)) or_refuse EINVAL then done (with_source plant i (with_enabled s value))) (λ h.
      fine_then v plant e (not (eqb value 1 && (eqb plant.versions.interrupt 2 && eqb s.cookie 0))) EINVAL (done (with_source plant i (with_enabled s value))) (λ l.
      stored (with_enabled s value)
      (made plant (with_enabled s value) (name_part_lem plant s right) h (state_part plant s right) (target_part plant s right) (cookie_part plant s right) (may_enable value m h l))
      refl refl))

  -- a cookie is taken under 2.0 from a source that supports cookies
  pub set_cookie_fine : (value : ℕ) → plant.versions.interrupt ≡ 2 → s.cookies ≡ true → Fine v plant (set_cookie plant i value)
  unfolding set_cookie cookie_right enabled_right
  set_cookie_fine value two support =
      fine_then v plant e (eqb value 0 || ltb 2047 value) EINVAL (if eqb value 0 then cleared else kept) (λ h.
      fine_if v plant (eqb value 0) cleared kept
      (λ z.
      stored (with_enabled (with_cookie s 0) 0)
      (made plant (with_enabled (with_cookie s 0) 0) (name_part_lem plant s right) refl (state_part plant s right) (target_part plant s right) refl refl)
      refl refl)
      (λ z.
      stored (with_cookie s value)
      (made plant (with_cookie s value) (name_part_lem plant s right) (enabled_part plant s right) (state_part plant s right) (target_part plant s right)
      (rw (z, high z h, two, support)) (rw (two, z) (or-true (eqb s.enabled 0))))
      refl refl))
    where
      cleared : Ruling Outcome
      cleared = done (with_source plant i (with_enabled (with_cookie s 0) 0))

      kept : Ruling Outcome
      kept = done (with_source plant i (with_cookie s value))

      high : eqb value 0 ≡ false → (eqb value 0 || ltb 2047 value) ≡ true → ltb 2047 value ≡ true
      high z h = rw z at h

  -- the cpu of a target is there
  target_there : s.target < plant.cpus
  target_there = ltb-true s.target plant.cpus (target_part plant s right)

-- a raise
module _ (v : ℕ → ℕ → Bool) (plant : Plant) (e : plant_keeps v plant ≡ true) (i : ℕ) (there : i < plant.sources) where
  abbrev entry : Put
  entry = put plant (source_at plant i).target 0x3d (device_entry plant i)

  one_kept : Kept v plant (with_source plant i (with_state (source_at plant i) 1))
  one_kept = state_kept v plant e i there 1 refl

  -- the entry is put, and then the state
  delivered_kept : Kept v plant (with_source entry.plant i (with_state (source_at plant i) 2))
  unfolding put with_queue
  delivered_kept =
      let k : Kept v plant entry.plant = put_kept v plant e (source_at plant i).target (target_there v plant e i there) 0x3d (device_entry plant i) (omega arith) in
      further v plant entry.plant (with_source entry.plant i (with_state (source_at plant i) 2)) k (state_kept v entry.plant k.keeps i there 2 refl)

  raise_at_fine : Fine v plant (raise_at plant i)
  unfolding raise_at
  raise_at_fine =
      fine_if v plant (eqb (source_at plant i).state 2) (says (One 2) plant) (if goes then delivered else received)
      (λ _. unchanged v plant e)
      (λ _. fine_if v plant goes delivered received
      (λ _. delivered_kept)
      (λ _. one_kept))
    where
      goes : Bool
      goes = eqb (source_at plant i).enabled 1 && entry.room

      delivered : Ruling Outcome
      delivered = granted (record { answer = One 2; plant = with_source entry.plant i (with_state (source_at plant i) 2); writes = entry.writes })

      received : Ruling Outcome
      received = says (One 1) (with_source plant i (with_state (source_at plant i) 1))

-- a source that is found is there
found_there : (plant : Plant) (devhandle devino : ℕ) (r : Refusal) (i : ℕ) → found r (sysino_of plant devhandle devino) ≡ granted i → i < plant.sources
unfolding sysino_of
found_there plant devhandle devino r i e = first_below_lem plant.sources i _ (is_at (sysino_of plant devhandle devino) e)
  where
    is_at : (f : Option ℕ) → found r f ≡ granted i → f ≡ Some i
    is_at None p = let z : ◌≡◌ {A = ℕ} 0 1 = cc in absurd (omega arith)
    is_at (Some j) p = let z : j ≡ i = cc in ap Some z

module _ (v : ℕ → ℕ → Bool) (plant : Plant) (e : plant_keeps v plant ≡ true) where
  pub raise_fine : (devhandle devino : ℕ) → Fine v plant (raise plant devhandle devino)
  unfolding raise
  raise_fine devhandle devino =
      fine_grants v plant e (found NoSource (sysino_of plant devhandle devino)) (λ i. raise_at plant i) (λ i g. raise_at_fine v plant e i (found_there plant devhandle devino NoSource i g))

  pub devino_fine : (devhandle devino : ℕ) → Fine v plant (intr_devino2sysino plant devhandle devino)
  unfolding intr_devino2sysino
  devino_fine devhandle devino =
      fine_grants v plant e (found EINVAL (sysino_of plant devhandle devino)) (λ i. says (One i) plant) (λ i g. unchanged v plant e)

  module _ (i value : ℕ) (there : i < plant.sources) where
    call_fine : (call : SourceCall) → 1 ≤ plant.versions.interrupt → Fine v plant (source_call plant i value call)
    unfolding source_call get_enabled get_state get_target
    call_fine SourceCall.GetEnabled m = unchanged v plant e
    call_fine SourceCall.SetEnabled m = set_enabled_fine v plant e i there value m
    call_fine SourceCall.GetState m = unchanged v plant e
    call_fine SourceCall.SetState m = set_state_fine v plant e i there value
    call_fine SourceCall.GetTarget m = unchanged v plant e
    call_fine SourceCall.SetTarget m = set_target_fine v plant e i there value

    cookie_call_fine : (call : CookieCall) → plant.versions.interrupt ≡ 2 → (source_at plant i).cookies ≡ true → Fine v plant (cookie_call plant i value call)
    unfolding cookie_call get_cookie
    cookie_call_fine CookieCall.GetCookie two s = unchanged v plant e
    cookie_call_fine CookieCall.SetCookie two s = set_cookie_fine v plant e i there value two s
    cookie_call_fine (CookieCall.Source call) two s = call_fine call (omega arith)

  pub intr_fine : (call : SourceCall) (sysino value : ℕ) → 1 ≤ plant.versions.interrupt → Fine v plant (intr plant call sysino value)
  unfolding intr
  intr_fine call sysino value m =
      fine_then v plant e (ltb sysino plant.sources) EINVAL (source_call plant sysino value call) (λ h.
      call_fine sysino value (ltb-true sysino plant.sources h) call m)

  pub vintr_fine : (call : CookieCall) (devhandle devino value : ℕ) → plant.versions.interrupt ≡ 2 → Fine v plant (vintr plant call devhandle devino value)
  unfolding vintr
  vintr_fine call devhandle devino value two =
      fine_grants v plant e (found EINVAL (sysino_of plant devhandle devino)) supported (λ i g.
      fine_then v plant e (source_at plant i).cookies ENOTSUPPORTED (cookie_call plant i value call) (λ s.
      cookie_call_fine i value (found_there plant devhandle devino EINVAL i g) call two s))
    where
      supported : ℕ → Ruling Outcome
      supported i = (source_at plant i).cookies or_refuse ENOTSUPPORTED then cookie_call plant i value call
