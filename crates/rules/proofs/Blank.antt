-- The tests for a blank record: each holds of the record after loading, and of that record alone.
use mathlib.Core.Path.{◌≡◌, refl}
use mathlib.Core.Bool.{true, false, ◌&&◌, not, false≢true}
use mathlib.Core.List.{List, [], ◌∷◌}
use Prim.Native.Nat.{ℕ, zero, suc, ◌<◌}
use native.Mathlib.Omega.{arith}
use lib.Dec.{eqb}
use lib.ListN.{length, get_or, replicate}
use borrow.Author.Tests.{eqb-true, not-true}
use Rattle.rules.specs.Types.{Extent, QueueRecord, Queue, Tsb, Tsbs, Cpu, Source, Versions, Guest}
use Rattle.rules.specs.Limits.{cpu_limit, extent_limit, source_limit, queue_limit, tsb_limit}
use Rattle.rules.specs.Scan.{all_below}
use Rattle.rules.specs.Kept.{blank_extent, blank_queue, blank_tsb, blank_tsbs, blank_cpu, blank_source, no_versions, blank_guest, hollow_cpu, extent_at, queue_at, tsb_at, cpu_at, source_at}
use Rattle.rules.specs.Tables.{extent_blank, record_blank, tsb_blank, tsbs_blank, cpu_blank, source_blank, versions_blank, extents_blank, plant_blank, guest_blank}
use Rattle.rules.proofs.Computing.{computing}
use Rattle.rules.proofs.Scan.{all_at}
use Rattle.rules.proofs.Tests.{and_left, and_right}

-- Each holds of its blank record,
pub blank_is_blank : (extent_blank blank_extent ≡ true) × (tsbs_blank blank_tsbs ≡ true) × (tsb_blank blank_tsb ≡ true) × (cpu_blank blank_cpu ≡ true)
    × (source_blank blank_source ≡ true) × (guest_blank blank_guest ≡ true)
unfolding computing
blank_is_blank = (refl, refl, refl, refl, refl, refl)

-- a list of n elements that are each b
all_the_same : {A : Type 0} (b d : A) (n : ℕ) (l : List A) → length l ≡ n → ((i : ℕ) → i < n → get_or l i d ≡ b) → l ≡ replicate n b
all_the_same b d zero [] e f = refl
all_the_same b d (suc n) [] e f = absurd (omega arith)
all_the_same b d zero (x ∷ l) e f = absurd (omega arith)
all_the_same b d (suc n) (x ∷ l) e f = rw (f 0 (omega arith), all_the_same b d n l (omega arith) (λ i h. f (suc i) (omega arith)))

-- and of that record alone, among those whose lists have their lengths.
pub extent_blank_lem : (x : Extent) → extent_blank x ≡ true → x ≡ blank_extent
unfolding extent_blank
extent_blank_lem x e =
    let r = and_left (eqb x.real 0) _ e in
    let s = and_right (eqb x.real 0) _ e in
    let p : x.real ≡ 0 = eqb-true _ _ r in
    let q : x.count ≡ 0 = eqb-true _ _ (and_left (eqb x.count 0) _ s) in
    let t : x.host ≡ 0 = eqb-true _ _ (and_right (eqb x.count 0) _ s) in
    λ i. record { real = p i; count = q i; host = t i }

record_blank_lem : (held : QueueRecord) → record_blank held ≡ true → held ≡ QueueRecord.Unset
record_blank_lem QueueRecord.Unset e = refl
record_blank_lem (QueueRecord.Set ring) e = absurd (false≢true e)

pub tsb_blank_lem : (t : Tsb) → tsb_blank t ≡ true → t ≡ blank_tsb
unfolding tsb_blank
tsb_blank_lem t e =
    let r = and_left (eqb t.index 0 && (eqb t.associativity 0 && eqb t.entries 0)) _ e in
    let s = and_right (eqb t.index 0 && (eqb t.associativity 0 && eqb t.entries 0)) _ e in
    let a : t.index ≡ 0 = eqb-true _ _ (and_left (eqb t.index 0) _ r) in
    let b : t.associativity ≡ 0 = eqb-true _ _ (and_left (eqb t.associativity 0) _ (and_right (eqb t.index 0) _ r)) in
    let c : t.entries ≡ 0 = eqb-true _ _ (and_right (eqb t.associativity 0) _ (and_right (eqb t.index 0) _ r)) in
    let d : t.context ≡ 0 = eqb-true _ _ (and_left (eqb t.context 0) _ s) in
    let f : t.mask ≡ 0 = eqb-true _ _ (and_left (eqb t.mask 0) _ (and_right (eqb t.context 0) _ s)) in
    let g : t.base ≡ 0 = eqb-true _ _ (and_right (eqb t.mask 0) _ (and_right (eqb t.context 0) _ s)) in
    λ i. record { index = a i; associativity = b i; entries = c i; context = d i; mask = f i; base = g i }

pub tsbs_blank_lem : (tsbs : Tsbs) → length tsbs.tsb ≡ tsb_limit → tsbs_blank tsbs ≡ true → tsbs ≡ blank_tsbs
unfolding tsbs_blank
tsbs_blank_lem tsbs n e =
    let p : tsbs.tsbs ≡ 0 = eqb-true _ _ (and_left (eqb tsbs.tsbs 0) _ e) in
    let q : tsbs.tsb ≡ replicate tsb_limit blank_tsb =
    all_the_same blank_tsb blank_tsb tsb_limit tsbs.tsb n (λ i h. tsb_blank_lem (tsb_at tsbs i) (all_at (λ i. tsb_blank (tsb_at tsbs i)) tsb_limit i (and_right (eqb tsbs.tsbs 0) _ e) h)) in
    λ i. record { tsbs = p i; tsb = q i }

pub source_blank_lem : (s : Source) → source_blank s ≡ true → s ≡ blank_source
unfolding source_blank
source_blank_lem s e =
    let name = eqb s.devhandle 0 && (eqb s.devino 0 && not s.cookies) in
    let states = eqb s.enabled 0 && eqb s.state 0 in
    let r = and_left name _ e in
    let u = and_left states _ (and_right name _ e) in
    let w = and_right states _ (and_right name _ e) in
    let a : s.devhandle ≡ 0 = eqb-true _ _ (and_left (eqb s.devhandle 0) _ r) in
    let b : s.devino ≡ 0 = eqb-true _ _ (and_left (eqb s.devino 0) _ (and_right (eqb s.devhandle 0) _ r)) in
    let c : s.cookies ≡ false = not-true _ (and_right (eqb s.devino 0) _ (and_right (eqb s.devhandle 0) _ r)) in
    let d : s.enabled ≡ 0 = eqb-true _ _ (and_left (eqb s.enabled 0) _ u) in
    let f : s.state ≡ 0 = eqb-true _ _ (and_right (eqb s.enabled 0) _ u) in
    let g : s.target ≡ 0 = eqb-true _ _ (and_left (eqb s.target 0) _ w) in
    let h : s.cookie ≡ 0 = eqb-true _ _ (and_right (eqb s.target 0) _ w) in
    λ i. record { devhandle = a i; devino = b i; cookies = c i; enabled = d i; state = f i; target = g i; cookie = h i }

versions_blank_lem : (v : Versions) → versions_blank v ≡ true → v ≡ no_versions
unfolding versions_blank
versions_blank_lem v e =
    let r = and_left (eqb v.sun4v 0 && eqb v.core 0) _ e in
    let s = and_right (eqb v.sun4v 0 && eqb v.core 0) _ e in
    let a : v.sun4v ≡ 0 = eqb-true _ _ (and_left (eqb v.sun4v 0) _ r) in
    let b : v.core ≡ 0 = eqb-true _ _ (and_right (eqb v.sun4v 0) _ r) in
    let c : v.interrupt ≡ 0 = eqb-true _ _ (and_left (eqb v.interrupt 0) _ s) in
    let d : v.statistics ≡ 0 = eqb-true _ _ (and_right (eqb v.interrupt 0) _ s) in
    λ i. record { sun4v = a i; core = b i; interrupt = c i; statistics = d i }

-- a cpu and a guest whose lists have their lengths
pub record WholeCpu (cpu : Cpu) : Type 0 where
  pub queues : length cpu.queue ≡ queue_limit
  pub ctx0 : length cpu.ctx0.tsb ≡ tsb_limit
  pub ctxnon0 : length cpu.ctxnon0.tsb ≡ tsb_limit

pub record WholeGuest (guest : Guest) : Type 0 where
  pub extents : length guest.extents.extent ≡ extent_limit
  pub cpus : length guest.plant.cpu ≡ cpu_limit
  pub each : (c : ℕ) → c < cpu_limit → WholeCpu (cpu_at guest.plant c)
  pub sources : length guest.plant.source ≡ source_limit

pub cpu_blank_lem : (cpu : Cpu) → WholeCpu cpu → cpu_blank cpu ≡ true → cpu ≡ blank_cpu
unfolding cpu_blank
cpu_blank_lem cpu w e =
    let queues = all_below queue_limit (λ q. record_blank (queue_at cpu q)) in
    let rest = and_right queues _ e in
    let a : cpu.queue ≡ replicate queue_limit blank_queue =
    all_the_same blank_queue blank_queue queue_limit cpu.queue w.queues (λ q h. queue (get_or cpu.queue q blank_queue) (all_at (λ q. record_blank (queue_at cpu q)) queue_limit q (and_left queues _ e) h)) in
    let b : cpu.ctx0 ≡ blank_tsbs = tsbs_blank_lem _ w.ctx0 (and_left (tsbs_blank cpu.ctx0) _ rest) in
    let c : cpu.ctxnon0 ≡ blank_tsbs = tsbs_blank_lem _ w.ctxnon0 (and_left (tsbs_blank cpu.ctxnon0) _ (and_right (tsbs_blank cpu.ctx0) _ rest)) in
    let d : cpu.statistics ≡ 0 = eqb-true _ _ (and_right (tsbs_blank cpu.ctxnon0) _ (and_right (tsbs_blank cpu.ctx0) _ rest)) in
    λ i. record { queue = a i; ctx0 = b i; ctxnon0 = c i; statistics = d i }
  where
    queue : (u : Queue) → record_blank u.held ≡ true → u ≡ blank_queue
    queue u p = let z : u.held ≡ QueueRecord.Unset = record_blank_lem _ p in λ i. record { held = z i }

pub blank_alone : (guest : Guest) → WholeGuest guest → guest_blank guest ≡ true → guest ≡ blank_guest
unfolding guest_blank extents_blank plant_blank
blank_alone guest w e =
    let extents = guest.extents in
    let plant = guest.plant in
    let r = and_left (extents_blank extents) _ e in
    let s = and_right (extents_blank extents) _ e in
    let counts = versions_blank plant.versions && (eqb plant.cpus 0 && eqb plant.sources 0) in
    let cpus = all_below cpu_limit (λ c. cpu_blank (cpu_at plant c)) in
    let t = and_left counts _ s in
    let u = and_right counts _ s in
    let a : extents.extents ≡ 0 = eqb-true _ _ (and_left (eqb extents.extents 0) _ r) in
    let b : extents.extent ≡ replicate extent_limit blank_extent =
    all_the_same blank_extent blank_extent extent_limit extents.extent w.extents (λ i h. extent_blank_lem (extent_at extents i) (all_at (λ i. extent_blank (extent_at extents i)) extent_limit i (and_right (eqb extents.extents 0) _ r) h)) in
    let c : plant.versions ≡ no_versions = versions_blank_lem _ (and_left (versions_blank plant.versions) _ t) in
    let d : plant.cpus ≡ 0 = eqb-true _ _ (and_left (eqb plant.cpus 0) _ (and_right (versions_blank plant.versions) _ t)) in
    let f : plant.sources ≡ 0 = eqb-true _ _ (and_right (eqb plant.cpus 0) _ (and_right (versions_blank plant.versions) _ t)) in
    let g : plant.cpu ≡ replicate cpu_limit blank_cpu =
    all_the_same blank_cpu hollow_cpu cpu_limit plant.cpu w.cpus (λ c h. cpu_blank_lem (cpu_at plant c) (w.each c h) (all_at (λ c. cpu_blank (cpu_at plant c)) cpu_limit c (and_left cpus _ u) h)) in
    let k : plant.source ≡ replicate source_limit blank_source =
    all_the_same blank_source blank_source source_limit plant.source w.sources (λ i h. source_blank_lem (source_at plant i) (all_at (λ i. source_blank (source_at plant i)) source_limit i (and_right cpus _ u) h)) in
    λ i. record {
      extents = record { extents = a i; extent = b i };
      plant = record { versions = c i; cpus = d i; cpu = g i; sources = f i; source = k i };
    }
