-- "TSB lists and memory", its second half: scrub, sync, store and load (000, section 9), and the statistics address (003).
use Rattle.std.specs.Prelude.{Bool, ◌&&◌, not, [], ◌∷◌, ℕ, ◌%◌, min, eqb, replicate, if◌then◌else◌}
use Rattle.rules.specs.Types.{Plant, Done, One, Refused, EINVAL, EBADALIGN, ENORADDR}
use Rattle.rules.specs.Limits.{page_size}
use Rattle.rules.specs.Kept.{cpu_at, with_statistics}
use Rattle.rules.specs.Real.{Sight, number_of, word_bytes}
use Rattle.rules.specs.Rulings.{Ruling, refused, granted, Outcome, ◌or_refuse◌then◌, says}

-- the whole range, for 0x31 and 0x32 (address, length): "length 0 EINVAL; either not on 8,192 EBADALIGN; whole range not
-- valid ENORADDR"
unfoldable pub whole_pages : (ℕ → ℕ → Bool) → ℕ → ℕ → Ruling Outcome → Ruling Outcome
whole_pages valid address length rest =
    not (eqb length 0) or_refuse EINVAL then
    (eqb (address % page_size) 0 && eqb (length % page_size) 0) or_refuse EBADALIGN then
    valid address length or_refuse ENORADDR then
    rest

-- 0x31: "zeroes the first min(length, 32,768) bytes and returns that number"
unfoldable pub mem_scrub : (ℕ → ℕ → Bool) → Plant → ℕ → ℕ → Ruling Outcome
mem_scrub valid plant address length =
    whole_pages valid address length
    (granted
    (record {
      answer = One (min length 32768);
      plant = plant;
      writes = record { at = address; bytes = replicate (min length 32768) 0 } ∷ [];
    }))

-- 0x32: "returns length"
unfoldable pub mem_sync : (ℕ → ℕ → Bool) → Plant → ℕ → ℕ → Ruling Outcome
mem_sync valid plant address length = whole_pages valid address length (says (One length) plant)

-- one word, for store and load: "not on 8 EBADALIGN; not valid ENORADDR"
unfoldable pub whole_word : (ℕ → ℕ → Bool) → ℕ → Ruling Outcome → Ruling Outcome
whole_word valid address rest =
    eqb (address % 8) 0 or_refuse EBADALIGN then
    valid address 8 or_refuse ENORADDR then
    rest

unfoldable pub store_word : (ℕ → ℕ → Bool) → Plant → ℕ → ℕ → Ruling Outcome
store_word valid plant address value =
    whole_word valid address
    (granted (record { answer = Done; plant = plant; writes = record { at = address; bytes = word_bytes value } ∷ [] }))

-- "Load returns its word as value 1."
unfoldable pub load_word : Sight → Plant → ℕ → Ruling Outcome
load_word sight plant address = whole_word sight.valid address (says (One (number_of sight.byte address 8)) plant)

-- "address 0, tried first, sets 0 and is accepted; not on 64 EBADALIGN, 512 bytes not valid ENORADDR"
unfoldable pub new_statistics : (ℕ → ℕ → Bool) → ℕ → Ruling ℕ
new_statistics valid address =
    if eqb address 0 then granted 0 else
    eqb (address % 64) 0 or_refuse EBADALIGN then
    valid address 512 or_refuse ENORADDR then
    granted address

-- "both set the statistics address to 0": this refusal changes the record. "Success returns the address before."
abbrev pub set_or_clear : Plant → ℕ → Ruling ℕ → Ruling Outcome
set_or_clear plant cpu (refused r) = says (Refused r) (with_statistics plant cpu 0)
set_or_clear plant cpu (granted address) = says (One (cpu_at plant cpu).statistics) (with_statistics plant cpu address)

-- 0x102 (address)
unfoldable pub mmustat_conf : (ℕ → ℕ → Bool) → Plant → ℕ → ℕ → Ruling Outcome
mmustat_conf valid plant cpu address = set_or_clear plant cpu (new_statistics valid address)

-- 0x103 "returns it"
unfoldable pub mmustat_info : Plant → ℕ → Ruling Outcome
mmustat_info plant cpu = says (One (cpu_at plant cpu).statistics) plant
