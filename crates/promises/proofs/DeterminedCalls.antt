-- Promise: no second outcome, of the calls and of what they share, which the crates below `calls` give it and each other. As in
-- Determined. A call tells what it changes of a plant's record: there is one answer and one record after, however it is told.
use mathlib.Core.Path.{◌≡◌, refl, sym, ◌∙◌}
use mathlib.Core.List.{List, [], ◌∷◌}
use Prim.Native.Nat.{ℕ}
use Rattle.rules.specs.declared.Answer.{Answer}
use Rattle.rules.specs.declared.Cpu.{Cpu}
use Rattle.rules.specs.declared.Extents.{Extents}
use Rattle.rules.specs.declared.Plant.{Plant}
use Rattle.rules.specs.Kept.{no_versions, hollow_guest, cpu_at}
use Rattle.rules.specs.Rulings.{Ruling, Outcome}
use Rattle.plants.specs.declared.change.Done.{Done}
use Rattle.plants.specs.Changes.{plant_after}
use Rattle.plants.specs.Done.{quietly, saying}
use Rattle.plants.specs.Follows.{Follows}
use Rattle.plants.proofs.all_disabled.Reads as all-disabled-reads
use Rattle.plants.proofs.at_tail.Reads as at-tail-reads
use Rattle.plants.proofs.cpu_after.Reads as cpu-after-reads
use Rattle.plants.proofs.cpu_at_tail.Reads as cpu-at-tail-reads
use Rattle.plants.proofs.told.Reads as told-reads
use Rattle.plants.proofs.done_by.Reads as done-by-reads
use Rattle.plants.proofs.change_plant.Reads as change-plant-reads
use Rattle.plants.proofs.plant_after.Reads as plant-after-reads
use Rattle.plants.proofs.put_entry.Reads as put-entry-reads
use Rattle.versions.proofs.set_version.Reads as set-version-reads
use Rattle.versions.proofs.get_version.Reads as get-version-reads
use Rattle.queues.proofs.cpu_qconf.Reads as cpu-qconf-reads
use Rattle.queues.proofs.write_head.Reads as write-head-reads
use Rattle.queues.proofs.cpu_qinfo.Reads as cpu-qinfo-reads
use Rattle.queues.proofs.cpu_myid.Reads as cpu-myid-reads
use Rattle.mondo.proofs.cpu_mondo_send.Reads as cpu-mondo-send-reads
use Rattle.mmu.proofs.mmustat_conf.Reads as mmustat-conf-reads
use Rattle.mmu.proofs.mmustat_info.Reads as mmustat-info-reads
use Rattle.mmu.proofs.mmu_tsb_ctx0.Reads as mmu-tsb-ctx0-reads
use Rattle.mmu.proofs.mmu_tsb_ctxnon0.Reads as mmu-tsb-ctxnon0-reads
use Rattle.words.proofs.mem_sync.Reads as mem-sync-reads
use Rattle.words.proofs.mem_scrub.Reads as mem-scrub-reads
use Rattle.words.proofs.store_word.Reads as store-word-reads
use Rattle.words.proofs.load_word.Reads as load-word-reads
use Rattle.hits.proofs.tsb_hit.Reads as tsb-hit-reads
use Rattle.sources.proofs.intr.Reads as intr-reads
use Rattle.sources.proofs.vintr.Reads as vintr-reads
use Rattle.sources.proofs.intr_devino2sysino.Reads as intr-devino2sysino-reads
use Rattle.raise.proofs.raise_at.Reads as raise-at-reads
use Rattle.calls.proofs.cpu_of.Reads as cpu-of-reads
use Rattle.calls.proofs.plant_event.Reads as plant-event-reads

-- the same answer, and the same record after
abbrev Same : Plant → Done → Done → Type 0
Same plant r s = (r.answer ≡ s.answer) × (plant_after plant r ≡ plant_after plant s)

-- what gives one outcome is one: an answer and a record after, an answer alone, or both and the memory after
one_done : (plant : Plant) (o : Outcome) (r s : Done) → quietly plant r ≡ o → quietly plant s ≡ o → Same plant r s
one_done plant o r s p q = ((λ i. ((p ∙ sym q) i).answer), (λ i. ((p ∙ sym q) i).plant))

one_answer : (plant : Plant) (o : Outcome) (r s : Answer) → saying plant r ≡ o → saying plant s ≡ o → r ≡ s
one_answer plant o r s p q = λ i. ((p ∙ sym q) i).answer

one_following : (e : Extents) (plant : Plant) (x : Ruling Outcome) (before : List ℕ) (r s : Done) (m n : List ℕ) → Follows e plant x before r m → Follows e plant x before s n → Same plant r s × (m ≡ n)
one_following e plant x before r s m n p q = ((p.answer ∙ sym q.answer, p.plant ∙ sym q.plant), p.memory ∙ sym q.memory)

-- a plant that has one cpu
abbrev plant_of : Cpu → Plant
plant_of own = record { versions = no_versions; cpus = 1; cpu = own ∷ []; sources = 0; source = [] }

-- plants: what the calls share: what they give back, the record after, and an entry in a ring
pub at_tail_determined : (κs : _) (a : _) (r s : _) (ws vs : _) → at-tail-reads.Post κs a r ws → at-tail-reads.Post κs a s vs → r ≡ s
at_tail_determined κs a r s ws vs p q = p ∙ sym q

pub all_disabled_determined : (κs : _) (a : _) (r s : _) (ws vs : _) → all-disabled-reads.Post κs a r ws → all-disabled-reads.Post κs a s vs → r ≡ s
all_disabled_determined κs a r s ws vs p q = p ∙ sym q

pub cpu_after_determined : (κs : _) (a : _) (r s : _) (ws vs : _) → cpu-after-reads.Post κs a r ws → cpu-after-reads.Post κs a s vs → r ≡ s
cpu_after_determined κs a r s ws vs p q = p ∙ sym q

pub cpu_at_tail_determined : (κs : _) (a : _) (r s : _) (ws vs : _) → cpu-at-tail-reads.Post κs a r ws → cpu-at-tail-reads.Post κs a s vs → r ≡ s
cpu_at_tail_determined κs a r s ws vs p q = p ∙ sym q

pub told_determined : (κs : _) (a : _) (r s : _) (ws vs : _) → told-reads.Post κs a r ws → told-reads.Post κs a s vs → r ≡ s
told_determined κs a r s ws vs p q = p ∙ sym q

pub done_by_determined : (κs : _) (a : _) (r s : _) (ws vs : _) → done-by-reads.Post κs a r ws → done-by-reads.Post κs a s vs → r ≡ s
done_by_determined κs a r s ws vs p q = p ∙ sym q

pub change_plant_determined : (κs : _) (a : _) (r s : _) (ws vs : _) → change-plant-reads.Post κs a r ws → change-plant-reads.Post κs a s vs → ws.0.now ≡ vs.0.now
change_plant_determined κs a r s ws vs p q = p ∙ sym q

pub plant_after_determined : (κs : _) (a : _) (r s : _) (ws vs : _) → plant-after-reads.Post κs a r ws → plant-after-reads.Post κs a s vs → r ≡ s
plant_after_determined κs a r s ws vs p q = p ∙ sym q

pub put_entry_determined : (κs : _) (a : _) (r s : _) (ws vs : _) → put-entry-reads.Post κs a r ws → put-entry-reads.Post κs a s vs → (r ≡ s) × (ws.1.1.0.now ≡ vs.1.1.0.now)
put_entry_determined κs a r s ws vs p q = (p.held ∙ sym q.held, p.memory ∙ sym q.memory)

-- versions: set version and get version
pub set_version_determined : (κs : _) (a : _) (r s : _) (ws vs : _) → set-version-reads.Post κs a r ws → set-version-reads.Post κs a s vs → Same a.0 r s
set_version_determined κs a r s ws vs p q = one_done _ _ r s p q

pub get_version_determined : (κs : _) (a : _) (r s : _) (ws vs : _) → get-version-reads.Post κs a r ws → get-version-reads.Post κs a s vs → r ≡ s
get_version_determined κs a r s ws vs p q = one_answer _ _ r s p q

-- queues: 0x14, 0x15, 0x16 and the head write
pub cpu_qconf_determined : (κs : _) (a : _) (r s : _) (ws vs : _) → cpu-qconf-reads.Post κs a r ws → cpu-qconf-reads.Post κs a s vs → Same a.1.0 r s
cpu_qconf_determined κs a r s ws vs p q = one_done _ _ r s p q

pub write_head_determined : (κs : _) (a : _) (r s : _) (ws vs : _) → write-head-reads.Post κs a r ws → write-head-reads.Post κs a s vs → (plant : Plant) → cpu_at plant a.1.0 ≡ a.0 → Same plant r s
write_head_determined κs a r s ws vs p q plant h = one_done _ _ r s (p plant h) (q plant h)

pub cpu_qinfo_determined : (κs : _) (a : _) (r s : _) (ws vs : _) → cpu-qinfo-reads.Post κs a r ws → cpu-qinfo-reads.Post κs a s vs → r ≡ s
cpu_qinfo_determined κs a r s ws vs p q = one_answer _ _ r s (p (plant_of a.0) 0 refl) (q (plant_of a.0) 0 refl)

pub cpu_myid_determined : (κs : _) (a : _) (r s : _) (ws vs : _) → cpu-myid-reads.Post κs a r ws → cpu-myid-reads.Post κs a s vs → r ≡ s
cpu_myid_determined κs a r s ws vs p q = one_answer hollow_guest.plant _ r s (p hollow_guest.plant) (q hollow_guest.plant)

-- mondo: 0x42
pub cpu_mondo_send_determined : (κs : _) (a : _) (r s : _) (ws vs : _) → cpu-mondo-send-reads.Post κs a r ws → cpu-mondo-send-reads.Post κs a s vs → Same a.1.0 r s × (ws.1.1.0.now ≡ vs.1.1.0.now)
cpu_mondo_send_determined κs a r s ws vs p q = one_following _ _ _ _ r s _ _ p q

-- mmu: 0x20, 0x21, 0x102 and 0x103
pub mmustat_conf_determined : (κs : _) (a : _) (r s : _) (ws vs : _) → mmustat-conf-reads.Post κs a r ws → mmustat-conf-reads.Post κs a s vs → (plant : Plant) → cpu_at plant a.1.1.0 ≡ a.1.0 → Same plant r s
mmustat_conf_determined κs a r s ws vs p q plant h = one_done _ _ r s (p plant h) (q plant h)

pub mmustat_info_determined : (κs : _) (a : _) (r s : _) (ws vs : _) → mmustat-info-reads.Post κs a r ws → mmustat-info-reads.Post κs a s vs → r ≡ s
mmustat_info_determined κs a r s ws vs p q = one_answer _ _ r s (p (plant_of a.0) 0 refl) (q (plant_of a.0) 0 refl)

pub mmu_tsb_ctx0_determined : (κs : _) (a : _) (r s : _) (ws vs : _) → mmu-tsb-ctx0-reads.Post κs a r ws → mmu-tsb-ctx0-reads.Post κs a s vs → (plant : Plant) → Same plant r s
mmu_tsb_ctx0_determined κs a r s ws vs p q plant = (one_following _ _ _ _ r s _ _ (p plant) (q plant)).0

pub mmu_tsb_ctxnon0_determined : (κs : _) (a : _) (r s : _) (ws vs : _) → mmu-tsb-ctxnon0-reads.Post κs a r ws → mmu-tsb-ctxnon0-reads.Post κs a s vs → (plant : Plant) → Same plant r s
mmu_tsb_ctxnon0_determined κs a r s ws vs p q plant = (one_following _ _ _ _ r s _ _ (p plant) (q plant)).0

-- words: 0x31, 0x32, store and load
pub mem_sync_determined : (κs : _) (a : _) (r s : _) (ws vs : _) → mem-sync-reads.Post κs a r ws → mem-sync-reads.Post κs a s vs → (plant : Plant) → Same plant r s
mem_sync_determined κs a r s ws vs p q plant = one_done _ _ r s (p plant) (q plant)

pub mem_scrub_determined : (κs : _) (a : _) (r s : _) (ws vs : _) → mem-scrub-reads.Post κs a r ws → mem-scrub-reads.Post κs a s vs → (plant : Plant) → Same plant r s × (ws.1.0.now ≡ vs.1.0.now)
mem_scrub_determined κs a r s ws vs p q plant = one_following _ _ _ _ r s _ _ (p plant) (q plant)

pub store_word_determined : (κs : _) (a : _) (r s : _) (ws vs : _) → store-word-reads.Post κs a r ws → store-word-reads.Post κs a s vs → (plant : Plant) → Same plant r s × (ws.1.0.now ≡ vs.1.0.now)
store_word_determined κs a r s ws vs p q plant = one_following _ _ _ _ r s _ _ (p plant) (q plant)

pub load_word_determined : (κs : _) (a : _) (r s : _) (ws vs : _) → load-word-reads.Post κs a r ws → load-word-reads.Post κs a s vs → (plant : Plant) → Same plant r s
load_word_determined κs a r s ws vs p q plant = (one_following _ _ _ _ r s _ _ (p plant) (q plant)).0

-- hits: a TSB hit
pub tsb_hit_determined : (κs : _) (a : _) (r s : _) (ws vs : _) → tsb-hit-reads.Post κs a r ws → tsb-hit-reads.Post κs a s vs → (plant : Plant) (cpu : ℕ) → cpu_at plant cpu ≡ a.1.0 → Same plant r s × (ws.1.1.0.now ≡ vs.1.1.0.now)
tsb_hit_determined κs a r s ws vs p q plant cpu h = one_following _ _ _ _ r s _ _ (p plant cpu h) (q plant cpu h)

-- sources: 0xa0 to 0xae
pub intr_determined : (κs : _) (a : _) (r s : _) (ws vs : _) → intr-reads.Post κs a r ws → intr-reads.Post κs a s vs → Same a.0 r s
intr_determined κs a r s ws vs p q = one_done _ _ r s p q

pub vintr_determined : (κs : _) (a : _) (r s : _) (ws vs : _) → vintr-reads.Post κs a r ws → vintr-reads.Post κs a s vs → Same a.0 r s
vintr_determined κs a r s ws vs p q = one_done _ _ r s p q

pub intr_devino2sysino_determined : (κs : _) (a : _) (r s : _) (ws vs : _) → intr-devino2sysino-reads.Post κs a r ws → intr-devino2sysino-reads.Post κs a s vs → r ≡ s
intr_devino2sysino_determined κs a r s ws vs p q = one_answer _ _ r s p q

-- raise: raise
pub raise_at_determined : (κs : _) (a : _) (r s : _) (ws vs : _) → raise-at-reads.Post κs a r ws → raise-at-reads.Post κs a s vs → Same a.1.0 r s × (ws.1.1.1.0.now ≡ vs.1.1.1.0.now)
raise_at_determined κs a r s ws vs p q = one_following _ _ _ _ r s _ _ p q

-- calls: a plant's own event, and the cpu whose record it looks at
pub cpu_of_determined : (κs : _) (a : _) (r s : _) (ws vs : _) → cpu-of-reads.Post κs a r ws → cpu-of-reads.Post κs a s vs → r ≡ s
cpu_of_determined κs a r s ws vs p q = p ∙ sym q

pub plant_event_determined : (κs : _) (a : _) (r s : _) (ws vs : _) → plant-event-reads.Post κs a r ws → plant-event-reads.Post κs a s vs → Same a.1.0 r s × (ws.1.1.1.0.now ≡ vs.1.1.1.0.now)
plant_event_determined κs a r s ws vs p q = one_following _ _ _ _ r s _ _ p q
