-- Not vacuous: on every host that passes 101 and 102, a scrub that is granted zeroes min(length, 32,768) bytes and no others.
use mathlib.Core.Path.{◌≡◌, refl, sym, ap, ◌∙◌}
use mathlib.Core.Bool.{true}
use Prim.Native.Nat.{ℕ, ◌+◌, ◌%◌, ◌≤◌, ◌<◌, min}
use native.Mathlib.Omega.{arith}
use lib.ListN.{replicate, length-replicate, get_or-replicate}
use borrow.Author.Tests.{eq-eqb, ne_eqb, lt-ltb, le-leb}
use Rattle.rules.specs.declared.Answer.TheVariants.{One}
use Rattle.rules.specs.declared.Event.{Event}
use Rattle.rules.specs.Kept.{plant_at, extents_of}
use Rattle.rules.specs.Real.{Sight, valid, byte_at}
use Rattle.rules.specs.Rulings.{Outcome}
use Rattle.rules.specs.Calls.{fast_function, function_of, admitted, perform, call}
use Rattle.rules.specs.Memory.{whole_pages, mem_scrub}
use Rattle.rules.specs.Host.{HostOutcome, plant_rule, owner_of}
use Rattle.rules.proofs.Examples.{next}
use Rattle.memory.specs.Cells.{one}
use Rattle.memory.proofs.Places.{valid_part}
use Rattle.memory.proofs.Sights.{over, over_at, over_before, over_past}
use Rattle.promises.specs.Words.{Passes}
use Rattle.promises.specs.Machine.{Machine, all_written, did, machine_of}
use Rattle.promises.proofs.WrittenBytes.{over_written}
use Rattle.promises.proofs.AloneSteps.{own_step}

-- 0x31 (address, len) by a cpu of a guest
abbrev pub scrub : ℕ → ℕ → ℕ → ℕ → Event
scrub g cpu address len = Event.Call (record { guest = g; cpu = cpu; trap = 0x80; function = 0x31; arg0 = address; arg1 = len; arg2 = 0; arg3 = 0; arg4 = 0 })

-- a guest that is there, a cpu of it, group 1 negotiated, and a whole range of pages that is valid
module _ (o : HostOutcome) (p : Passes o.tables o.memory) (g cpu : ℕ) (there : g < o.tables.guests) (caller : cpu < (plant_at o.tables g).cpus) (core : 1 ≤ (plant_at o.tables g).versions.core) (address len : ℕ) (some : 1 ≤ len) (aligned : address % 8192 ≡ 0) (whole : len % 8192 ≡ 0) (own : valid (extents_of o.tables g) address len ≡ true) where
  abbrev before : Machine
  before = machine_of o.tables o.memory g

  abbrev number : ℕ
  number = min len 32768

  scrubbed : did before (scrub g cpu address len) ≡ record { answer = One number; plant = before.plant; writes = one address (replicate number 0) }
  unfolding plant_rule call fast_function function_of admitted perform mem_scrub whole_pages
  scrubbed =
      rw (
        lt-ltb cpu (plant_at o.tables g).cpus caller,
        le-leb 1 (plant_at o.tables g).versions.core core,
        ne_eqb len 0 (λ q. omega arith),
        eq-eqb (address % 8192) 0 aligned,
        eq-eqb (len % 8192) 0 whole,
        own,
      )

  abbrev scrubbed_host : HostOutcome
  scrubbed_host = next o (scrub g cpu address len)

  -- what the guest sees at a real address, before and after
  abbrev pub seen_before : ℕ → ℕ
  seen_before b = byte_at (extents_of o.tables g) o.memory b

  abbrev pub seen_after : ℕ → ℕ
  seen_after b = byte_at (extents_of scrubbed_host.tables g) scrubbed_host.memory b

  step : (scrubbed_host.answer ≡ One number) × (machine_of scrubbed_host.tables scrubbed_host.memory g ≡ record { plant = before.plant; sight = over before.sight address (replicate number 0) })
  unfolding next owner_of all_written
  step =
      let s = own_step o.tables o.memory (scrub g cpu address len) p.keep p.long g there (eq-eqb g g refl) in (
        s.0 ∙ ap (λ (x : Outcome). x.answer) scrubbed,
        s.1 ∙ ap (λ (x : Outcome). record { plant = x.plant; sight = all_written before.sight x.writes }) scrubbed
            ∙ ap (λ (t : Sight). record { plant = before.plant; sight = t }) (sym (over_written (replicate number 0) before.sight address)),
      )

  seen : (b : ℕ) → seen_after b ≡ (over before.sight address (replicate number 0)).byte b
  seen b = ap (λ (m : Machine). m.sight.byte b) step.1

  -- It tells the number; that many bytes from the address on are 0, and every other byte of the guest's is as it was.
  pub scrub_zeroes : (scrubbed_host.answer ≡ One number)
      × ((k : ℕ) → k < number → seen_after (address + k) ≡ 0)
      × ((b : ℕ) → b < address → seen_after b ≡ seen_before b)
      × ((b : ℕ) → address + number ≤ b → seen_after b ≡ seen_before b)
  scrub_zeroes = (
    step.0,
    λ k h. seen (address + k)
        ∙ over_at (replicate number 0) before.sight address k (rw length-replicate h) (λ j l. valid_part (extents_of o.tables g) address len j 1 own (inside j (rw length-replicate at l)))
        ∙ get_or-replicate number k 0 0 h,
    λ b h. seen b ∙ over_before (replicate number 0) before.sight address b h,
    λ b h. seen b ∙ over_past (replicate number 0) before.sight address b (rw length-replicate h),
  )
    where
      inside : (j : ℕ) → j < number → j + 1 ≤ len
      inside j h = omega arith
