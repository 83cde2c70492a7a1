-- "Interrupt sources": 0xa0 to 0xae (000, section 10; 002, section 3) and raise.
use Rattle.std.specs.Prelude.{Bool, ◌&&◌, ◌||◌, not, List, ◌++◌, ℕ, leb, ltb, eqb, replicate, if◌then◌else◌, Option, Some, None}
use Rattle.rules.specs.Types.{Source, Plant, SourceCall, CookieCall, One, Refusal, EINVAL, ENOCPU, ENOTSUPPORTED, NoSource}
use Rattle.rules.specs.Scan.{first_below}
use Rattle.rules.specs.Kept.{source_at, with_source, with_enabled, with_state, with_target, with_cookie}
use Rattle.rules.specs.Real.{word_bytes}
use Rattle.rules.specs.Image.{named}
use Rattle.rules.specs.Rulings.{Ruling, refused, granted, Outcome, ◌or_refuse◌then◌, ◌grants◌, says, done}
use Rattle.rules.specs.Queues.{Put, put}

-- "Sysino is the position in the guest's own list."
unfoldable pub sysino_of : Plant → ℕ → ℕ → Option ℕ
sysino_of plant devhandle devino = first_below plant.sources (λ i. named (source_at plant i) devhandle devino)

-- the position, or the refusal where there is none: "source not the caller's EINVAL, a neighbour's and a missing one alike"
abbrev pub found : Refusal → Option ℕ → Ruling ℕ
found r None = refused r
found r (Some i) = granted i

-- the values that a setting has, and the rule on tables asks for: "enabled (0 or 1), state (idle 0, received 1, delivered 2)"
abbrev pub enabled_value : ℕ → Bool
enabled_value value = leb value 1

abbrev pub state_value : ℕ → Bool
state_value value = leb value 2

-- "Cookie 1 to 2,047 EINVAL": one that is not 0 is above
abbrev pub cookie_value : ℕ → Bool
cookie_value value = ltb 2047 value

module _ (plant : Plant) (i : ℕ) where
  -- "get and set enabled"; "Under 2.0, enabling with cookie 0 EINVAL."
  unfoldable pub get_enabled : Ruling Outcome
  get_enabled = says (One (source_at plant i).enabled) plant

  unfoldable pub set_enabled : ℕ → Ruling Outcome
  set_enabled value =
      enabled_value value or_refuse EINVAL then
      not (eqb value 1 && (eqb plant.versions.interrupt 2 && eqb (source_at plant i).cookie 0)) or_refuse EINVAL then
      done (with_source plant i (with_enabled (source_at plant i) value))

  -- "state"
  unfoldable pub get_state : Ruling Outcome
  get_state = says (One (source_at plant i).state) plant

  unfoldable pub set_state : ℕ → Ruling Outcome
  set_state value =
      state_value value or_refuse EINVAL then
      done (with_source plant i (with_state (source_at plant i) value))

  -- "target": "no such cpuid ENOCPU"
  unfoldable pub get_target : Ruling Outcome
  get_target = says (One (source_at plant i).target) plant

  unfoldable pub set_target : ℕ → Ruling Outcome
  set_target value =
      ltb value plant.cpus or_refuse ENOCPU then
      done (with_source plant i (with_target (source_at plant i) value))

  -- "Cookie 1 to 2,047 EINVAL; cookie 0 disables."
  unfoldable pub get_cookie : Ruling Outcome
  get_cookie = says (One (source_at plant i).cookie) plant

  unfoldable pub set_cookie : ℕ → Ruling Outcome
  set_cookie value =
      (eqb value 0 || cookie_value value) or_refuse EINVAL then
      if eqb value 0
      then done (with_source plant i (with_enabled (with_cookie (source_at plant i) 0) 0))
      else done (with_source plant i (with_cookie (source_at plant i) value))

-- 0xa0 (devhandle, devino): "turns devhandle, devino into it"
unfoldable pub intr_devino2sysino : Plant → ℕ → ℕ → Ruling Outcome
intr_devino2sysino plant devhandle devino =
    found EINVAL (sysino_of plant devhandle devino) grants λ i.
    says (One i) plant

-- "get and set enabled .., state .., target", of source i
unfoldable pub source_call : Plant → ℕ → ℕ → SourceCall → Ruling Outcome
source_call plant i value SourceCall.GetEnabled = get_enabled plant i
source_call plant i value SourceCall.SetEnabled = set_enabled plant i value
source_call plant i value SourceCall.GetState = get_state plant i
source_call plant i value SourceCall.SetState = set_state plant i value
source_call plant i value SourceCall.GetTarget = get_target plant i
source_call plant i value SourceCall.SetTarget = set_target plant i value

-- "0xa7, 0xa8 get and set the cookie"
unfoldable pub cookie_call : Plant → ℕ → ℕ → CookieCall → Ruling Outcome
cookie_call plant i value CookieCall.GetCookie = get_cookie plant i
cookie_call plant i value CookieCall.SetCookie = set_cookie plant i value
cookie_call plant i value (CookieCall.Source call) = source_call plant i value call

-- 0xa1 to 0xa6 (sysino, value): "source not the caller's EINVAL"
unfoldable pub intr : Plant → SourceCall → ℕ → ℕ → Ruling Outcome
intr plant call sysino value =
    ltb sysino plant.sources or_refuse EINVAL then
    source_call plant sysino value call

-- 0xa7 to 0xae (devhandle, devino, value): "0xa7 up, no cookie support, ENOTSUPPORTED"
unfoldable pub vintr : Plant → CookieCall → ℕ → ℕ → ℕ → Ruling Outcome
vintr plant call devhandle devino value =
    found EINVAL (sysino_of plant devhandle devino) grants λ i.
    (source_at plant i).cookies or_refuse ENOTSUPPORTED then
    cookie_call plant i value call

-- "word 0 cookie, or under 1.0 sysino; seven zero words"
unfoldable pub device_word : Plant → ℕ → ℕ
device_word plant i = if eqb plant.versions.interrupt 2 then (source_at plant i).cookie else i

unfoldable pub device_entry : Plant → ℕ → List ℕ
device_entry plant i = word_bytes (device_word plant i) ++ replicate 56 0

-- raise: "delivered stays. Else the state becomes received; if enabled .. and its [target's] 0x3d ring has room, an entry is
-- written at its tail, which moves on, .. and the state is delivered. Value 1 is the state after." (Left out: "target set", by
-- request No. 7.)
unfoldable pub raise_at : Plant → ℕ → Ruling Outcome
raise_at plant i =
    let source : Source = source_at plant i in
    let entry : Put = put plant source.target 0x3d (device_entry plant i) in
    if eqb source.state 2 then says (One 2) plant else
    if eqb source.enabled 1 && entry.room
    then granted (record { answer = One 2; plant = with_source entry.plant i (with_state source 2); writes = entry.writes })
    else says (One 1) (with_source plant i (with_state source 1))

-- (devhandle, devino): "no such source 104"
unfoldable pub raise : Plant → ℕ → ℕ → Ruling Outcome
raise plant devhandle devino =
    found NoSource (sysino_of plant devhandle devino) grants λ i.
    raise_at plant i
