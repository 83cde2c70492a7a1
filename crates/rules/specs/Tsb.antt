-- "TSB lists": 0x20 and 0x21 (000, sections 8.2, 8.5.1 and 8.5.2).
use Rattle.std.specs.Prelude.{Bool, ◌&&◌, ◌||◌, not, List, ℕ, zero, suc, ◌+◌, ◌*◌, ◌/◌, ◌%◌, ◌^◌, leb, eqb, set, replicate, if◌then◌else◌}
use Rattle.rules.specs.Types.{Tsb, Tsbs, Plant, EINVAL, EBADALIGN, ENORADDR, EBADPGSZ, EBADTSB}
use Rattle.rules.specs.Limits.{tsb_limit}
use Rattle.rules.specs.Scan.{all_below, power_of_two◌from◌to◌}
use Rattle.rules.specs.Kept.{blank_tsb, blank_tsbs, with_ctx0, with_ctxnon0}
use Rattle.rules.specs.Real.{Sight, number_of}
use Rattle.rules.specs.Rulings.{Ruling, granted, Outcome, ◌or_refuse◌then◌, ◌grants◌, done}

-- "Descriptor, at byte 0 page index (16 bits), 2 associativity (16), 4 entries (32), 8 context index (32), 12 page mask (32),
-- 16 base (64), 24 reserved, not kept."
unfoldable pub descriptor_at : (ℕ → ℕ) → ℕ → Tsb
descriptor_at byte a = record {
  index = number_of byte a 2;
  associativity = number_of byte (a + 2) 2;
  entries = number_of byte (a + 4) 4;
  context = number_of byte (a + 8) 4;
  mask = number_of byte (a + 12) 4;
  base = number_of byte (a + 16) 8;
}

-- "index not 0, 1, 3 or 5"
unfoldable pub is_page_index : ℕ → Bool
is_page_index k = (eqb k 0 || eqb k 1) || (eqb k 3 || eqb k 5)

-- MASK is_inside ALLOWED: each of the mask's 32 bits is clear, or set in the allowed ones too
infix 40 ◌is_inside◌
unfoldable pub ◌is_inside◌ : ℕ → ℕ → Bool
◌is_inside◌ mask allowed = all_below 32 (λ k. leb (mask / 2 ^ k % 2) (allowed / 2 ^ k % 2))

-- of the mask's bits up to k, that one alone is set
abbrev pub is_lowest : ℕ → ℕ → Bool
is_lowest mask k = eqb (mask % 2 ^ (k + 1)) (2 ^ k)

-- "index not 0, 1, 3 or 5, mask 0 or outside 0x2b EBADPGSZ; associativity not 1, entries no power of two from 512 to
-- 1,048,576 EBADTSB; context index not 0, page index not the lowest bit set in the mask EINVAL; base not a multiple of
-- 16·entries EBADALIGN; 16·entries bytes not valid ENORADDR"
unfoldable pub judged_tsb : (ℕ → ℕ → Bool) → Tsb → Ruling Tsb
judged_tsb valid t =
    (is_page_index t.index && (not (eqb t.mask 0) && (t.mask is_inside 0x2b))) or_refuse EBADPGSZ then
    (eqb t.associativity 1 && (power_of_two t.entries from 512 to 1_048_576)) or_refuse EBADTSB then
    (eqb t.context 0 && is_lowest t.mask t.index) or_refuse EINVAL then
    eqb (t.base % (16 * t.entries)) 0 or_refuse EBADALIGN then
    valid t.base (16 * t.entries) or_refuse ENORADDR then
    granted t

-- "The first bad descriptor decides": the first n descriptors from the pointer on, in a list's places
unfoldable pub descriptors : Sight → ℕ → ℕ → Ruling (List Tsb)
descriptors sight pointer zero = granted (replicate tsb_limit blank_tsb)
descriptors sight pointer (suc n) =
    descriptors sight pointer n grants λ list.
    judged_tsb sight.valid (descriptor_at sight.byte (pointer + 32 * n)) grants λ t.
    granted (set list n t)

-- (ntsb, pointer): "ntsb 0 clears the list; above 4 EINVAL; pointer not on 8 EBADALIGN; 32·ntsb bytes not valid ENORADDR."
-- "All descriptors are stored or none."
unfoldable pub new_tsbs : Sight → ℕ → ℕ → Ruling Tsbs
new_tsbs sight ntsb pointer =
    if eqb ntsb 0 then granted blank_tsbs else
    leb ntsb tsb_limit or_refuse EINVAL then
    eqb (pointer % 8) 0 or_refuse EBADALIGN then
    sight.valid pointer (32 * ntsb) or_refuse ENORADDR then
    descriptors sight pointer ntsb grants λ list.
    granted (record { tsbs = ntsb; tsb = list })

-- 0x20
unfoldable pub mmu_tsb_ctx0 : Sight → Plant → ℕ → ℕ → ℕ → Ruling Outcome
mmu_tsb_ctx0 sight plant cpu ntsb pointer =
    new_tsbs sight ntsb pointer grants λ tsbs.
    done (with_ctx0 plant cpu tsbs)

-- 0x21
unfoldable pub mmu_tsb_ctxnon0 : Sight → Plant → ℕ → ℕ → ℕ → Ruling Outcome
mmu_tsb_ctxnon0 sight plant cpu ntsb pointer =
    new_tsbs sight ntsb pointer grants λ tsbs.
    done (with_ctxnon0 plant cpu tsbs)
