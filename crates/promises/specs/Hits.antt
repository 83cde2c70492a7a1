-- The words in which the promises speak of a TSB hit (request No. 9).
use Rattle.std.specs.Prelude.{◌≡◌, Bool, ◌&&◌, List, ◌⊎◌, ℕ, ◌+◌, ◌%◌, ◌^◌, ◌<◌, ◌≤◌}
use Rattle.rules.specs.declared.Tables.{Tables}
use Rattle.rules.specs.declared.TsbHit.{TsbHit}
use Rattle.rules.specs.Kept.{plant_at, cpu_at, extents_of}
use Rattle.rules.specs.Real.{byte_at, number_of}
use Rattle.rules.specs.Tsb.{is_page_index}
use Rattle.rules.specs.Hits.{is_side, is_context_mark, hits_offset}
use Rattle.rules.specs.Host.{HostOutcome}

-- the hit's guest and cpu are there
pub record HitThere (tables : Tables) (t : TsbHit) : Type 0 where
  pub guest : t.guest < tables.guests
  pub cpu : t.cpu < (plant_at tables t.guest).cpus

-- its side, context mark and page index are some of those that there are
abbrev pub hit_named : TsbHit → Bool
hit_named t = is_side t.side && (is_context_mark t.context && is_page_index t.index)

-- the statistics address of its cpu, and where its hits are counted
abbrev pub buffer_of : Tables → TsbHit → ℕ
buffer_of tables t = (cpu_at (plant_at tables t.guest) t.cpu).statistics

abbrev pub hits_at : Tables → TsbHit → ℕ
hits_at tables t = buffer_of tables t + hits_offset t.side t.context t.index

-- the word that a guest sees at a real address, which a load there tells
abbrev pub word_seen : Tables → List ℕ → ℕ → ℕ → ℕ
word_seen tables memory g a = number_of (byte_at (extents_of tables g) memory) a 8

-- "adds 1 to the hits word and the ticks to the ticks word .., modulo 2^64, and changes no other byte"; no record changes
pub record Counted (tables : Tables) (memory : List ℕ) (t : TsbHit) (after : HostOutcome) : Type 0 where
  pub records : after.tables ≡ tables
  pub hits : word_seen tables after.memory t.guest (hits_at tables t) ≡ (word_seen tables memory t.guest (hits_at tables t) + 1) % 2 ^ 64
  pub ticks : word_seen tables after.memory t.guest (hits_at tables t + 8) ≡ (word_seen tables memory t.guest (hits_at tables t + 8) + t.ticks) % 2 ^ 64
  pub others : (a : ℕ) → (a < hits_at tables t) ⊎ (hits_at tables t + 16 ≤ a)
      → byte_at (extents_of tables t.guest) after.memory a ≡ byte_at (extents_of tables t.guest) memory a
