-- By request No. 9, the event for a TSB hit on a guest's cpu: it fills the buffer that 0x102 takes (003, section 2.3).
use Rattle.std.specs.Prelude.{Bool, [], ◌∷◌, ℕ, ◌+◌, ◌*◌, ◌%◌, ◌^◌, leb, eqb, if◌then◌else◌}
use Rattle.rules.specs.Types.{Plant, Done, EINVAL}
use Rattle.rules.specs.Kept.{cpu_at}
use Rattle.rules.specs.Real.{Sight, number_of, word_bytes, Write}
use Rattle.rules.specs.Tsb.{is_page_index}
use Rattle.rules.specs.Rulings.{Ruling, granted, Outcome, ◌or_refuse◌then◌, done}

-- "instruction or data side": 0 or 1
abbrev pub is_side : ℕ → Bool
is_side side = leb side 1

-- "context zero or not": 0 or 1
abbrev pub is_context_mark : ℕ → Bool
is_context_mark context = leb context 1

-- where in the buffer the hits of a side, a context mark and a page index are counted; the ticks are counted 8 bytes behind. 003
-- has a row for each, and HitCases.antt has them all.
abbrev pub hits_offset : ℕ → ℕ → ℕ → ℕ
hits_offset side context index = 0x100 * side + 0x80 * context + 0x10 * index

-- "adds .., modulo 2^64": the write that adds n to the word at an address
abbrev pub adds : (ℕ → ℕ) → ℕ → ℕ → Write
adds byte at n = record { at = at; bytes = word_bytes ((number_of byte at 8 + n) % 2 ^ 64) }

-- (side, context mark, page index, ticks): "EINVAL for a side, context mark or page index that isn't one of these". "With
-- address 0 it answers EOK and does nothing." Else it "adds 1 to the hits word and the ticks to the ticks word .. and changes no
-- other byte".
unfoldable pub tsb_hit : Sight → Plant → ℕ → ℕ → ℕ → ℕ → ℕ → Ruling Outcome
tsb_hit sight plant cpu side context index ticks =
    let address : ℕ = (cpu_at plant cpu).statistics in
    let hits : ℕ = address + hits_offset side context index in
    is_side side or_refuse EINVAL then
    is_context_mark context or_refuse EINVAL then
    is_page_index index or_refuse EINVAL then
    if eqb address 0 then done plant else
    granted
    (record {
      answer = Done;
      plant = plant;
      writes = adds sight.byte hits 1 ∷ adds sight.byte (hits + 8) ticks ∷ [];
    })
