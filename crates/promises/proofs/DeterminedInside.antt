-- Promise: no second outcome, of the functions that one crate gives another behind the surface. As in Determined.
use mathlib.Core.Path.{◌≡◌, sym, ◌∙◌}
use Rattle.bits.proofs.number_at.Reads as number-at-reads
use Rattle.bits.proofs.field_at.Reads as field-at-reads
use Rattle.memory.proofs.range_valid.Reads as range-valid-reads
use Rattle.memory.proofs.bytes.Reads as bytes-reads
use Rattle.memory.proofs.number.Reads as number-reads
use Rattle.memory.proofs.word_bytes.Reads as word-bytes-reads
use Rattle.partition.proofs.extent_right.Reads as extent-right-reads
use Rattle.partition.proofs.ascend.Reads as ascend-reads
use Rattle.partition.proofs.wrong_numbers.Reads as wrong-numbers-reads
use Rattle.partition.proofs.out_of_order.Reads as out-of-order-reads
use Rattle.partition.proofs.runs.Reads as runs-reads
use Rattle.partition.proofs.shares_before.Reads as shares-before-reads
use Rattle.partition.proofs.pages_shared.Reads as pages-shared-reads
use Rattle.partition.proofs.named_before.Reads as named-before-reads
use Rattle.partition.proofs.source_twice.Reads as source-twice-reads
use Rattle.records.proofs.is_page_index.Reads as is-page-index-reads
use Rattle.records.proofs.judge_ring.Reads as judge-ring-reads
use Rattle.records.proofs.judge_statistics.Reads as judge-statistics-reads
use Rattle.records.proofs.judge_tsb.Reads as judge-tsb-reads
use Rattle.records.proofs.blank.extent.Reads as blank-extent-reads
use Rattle.records.proofs.blank.extents.Reads as blank-extents-reads
use Rattle.records.proofs.blank.source.Reads as blank-source-reads
use Rattle.records.proofs.blank.sources.Reads as blank-sources-reads
use Rattle.records.proofs.blank.tsb.Reads as blank-tsb-reads
use Rattle.records.proofs.blank.cpu.Reads as blank-cpu-reads
use Rattle.records.proofs.blank.tsbs.Reads as blank-tsbs-reads
use Rattle.records.proofs.blank.cpus.Reads as blank-cpus-reads
use Rattle.records.proofs.blank.versions.Reads as blank-versions-reads
use Rattle.records.proofs.blank.guest.Reads as blank-guest-reads
use Rattle.records.proofs.blank.guests.Reads as blank-guests-reads
use Rattle.records.proofs.blank.no_guests.Reads as blank-no-guests-reads
use Rattle.sources.proofs.source_named.Reads as source-named-reads
use Rattle.sources.proofs.sysino_of.Reads as sysino-of-reads
use Rattle.memory.proofs.write.Reads as write-reads
use Rattle.memory.proofs.write_at.Reads as write-at-reads
use Rattle.memory.proofs.zero_at.Reads as zero-at-reads

-- bits: a field of an image
pub number_at_determined : (κs : _) (a : _) (r s : _) (ws vs : _) → number-at-reads.Post κs a r ws → number-at-reads.Post κs a s vs → r ≡ s
number_at_determined κs a r s ws vs p q = p ∙ sym q

pub field_at_determined : (κs : _) (a : _) (r s : _) (ws vs : _) → field-at-reads.Post κs a r ws → field-at-reads.Post κs a s vs → r ≡ s
field_at_determined κs a r s ws vs p q = p ∙ sym q

-- memory: where a range lies, and what stands there
pub range_valid_determined : (κs : _) (a : _) (r s : _) (ws vs : _) → range-valid-reads.Post κs a r ws → range-valid-reads.Post κs a s vs → r ≡ s
range_valid_determined κs a r s ws vs p q = p ∙ sym q

pub bytes_determined : (g k κs : _) (a : _) (r s : _) (ws vs : _) → bytes-reads.Post g k κs a r ws → bytes-reads.Post g k κs a s vs → r ≡ s
bytes_determined g k κs a r s ws vs p q = p ∙ sym q

pub number_determined : (g k κs : _) (a : _) (r s : _) (ws vs : _) → number-reads.Post g k κs a r ws → number-reads.Post g k κs a s vs → r ≡ s
number_determined g k κs a r s ws vs p q = p.0 ∙ sym q.0

pub word_bytes_determined : (κs : _) (a : _) (r s : _) (ws vs : _) → word-bytes-reads.Post κs a r ws → word-bytes-reads.Post κs a s vs → r ≡ s
word_bytes_determined κs a r s ws vs p q = p ∙ sym q

-- partition: the rules on pages and sources
pub extent_right_determined : (κs : _) (a : _) (r s : _) (ws vs : _) → extent-right-reads.Post κs a r ws → extent-right-reads.Post κs a s vs → r ≡ s
extent_right_determined κs a r s ws vs p q = p ∙ sym q

pub ascend_determined : (κs : _) (a : _) (r s : _) (ws vs : _) → ascend-reads.Post κs a r ws → ascend-reads.Post κs a s vs → r ≡ s
ascend_determined κs a r s ws vs p q = p ∙ sym q

pub wrong_numbers_determined : (κs : _) (a : _) (r s : _) (ws vs : _) → wrong-numbers-reads.Post κs a r ws → wrong-numbers-reads.Post κs a s vs → r ≡ s
wrong_numbers_determined κs a r s ws vs p q = p ∙ sym q

pub out_of_order_determined : (κs : _) (a : _) (r s : _) (ws vs : _) → out-of-order-reads.Post κs a r ws → out-of-order-reads.Post κs a s vs → r ≡ s
out_of_order_determined κs a r s ws vs p q = p ∙ sym q

pub runs_determined : (κs : _) (a : _) (r s : _) (ws vs : _) → runs-reads.Post κs a r ws → runs-reads.Post κs a s vs → r ≡ s
runs_determined κs a r s ws vs p q = p ∙ sym q

pub shares_before_determined : (κs : _) (a : _) (r s : _) (ws vs : _) → shares-before-reads.Post κs a r ws → shares-before-reads.Post κs a s vs → r ≡ s
shares_before_determined κs a r s ws vs p q = p ∙ sym q

pub pages_shared_determined : (κs : _) (a : _) (r s : _) (ws vs : _) → pages-shared-reads.Post κs a r ws → pages-shared-reads.Post κs a s vs → r ≡ s
pages_shared_determined κs a r s ws vs p q = p ∙ sym q

pub named_before_determined : (κs : _) (a : _) (r s : _) (ws vs : _) → named-before-reads.Post κs a r ws → named-before-reads.Post κs a s vs → r ≡ s
named_before_determined κs a r s ws vs p q = p ∙ sym q

pub source_twice_determined : (κs : _) (a : _) (r s : _) (ws vs : _) → source-twice-reads.Post κs a r ws → source-twice-reads.Post κs a s vs → r ≡ s
source_twice_determined κs a r s ws vs p q = p ∙ sym q

-- records: what each call accepts
pub is_page_index_determined : (κs : _) (a : _) (r s : _) (ws vs : _) → is-page-index-reads.Post κs a r ws → is-page-index-reads.Post κs a s vs → r ≡ s
is_page_index_determined κs a r s ws vs p q = p ∙ sym q

pub judge_ring_determined : (κs : _) (a : _) (r s : _) (ws vs : _) → judge-ring-reads.Post κs a r ws → judge-ring-reads.Post κs a s vs → r ≡ s
judge_ring_determined κs a r s ws vs p q = p ∙ sym q

pub judge_statistics_determined : (κs : _) (a : _) (r s : _) (ws vs : _) → judge-statistics-reads.Post κs a r ws → judge-statistics-reads.Post κs a s vs → r ≡ s
judge_statistics_determined κs a r s ws vs p q = p ∙ sym q

pub judge_tsb_determined : (κs : _) (a : _) (r s : _) (ws vs : _) → judge-tsb-reads.Post κs a r ws → judge-tsb-reads.Post κs a s vs → r ≡ s
judge_tsb_determined κs a r s ws vs p q = p ∙ sym q

-- records: each record as it is after loading
pub blank_extent_determined : (κs : _) (a : _) (r s : _) (ws vs : _) → blank-extent-reads.Post κs a r ws → blank-extent-reads.Post κs a s vs → r ≡ s
blank_extent_determined κs a r s ws vs p q = p ∙ sym q

pub blank_extents_determined : (κs : _) (a : _) (r s : _) (ws vs : _) → blank-extents-reads.Post κs a r ws → blank-extents-reads.Post κs a s vs → r ≡ s
blank_extents_determined κs a r s ws vs p q = p ∙ sym q

pub blank_source_determined : (κs : _) (a : _) (r s : _) (ws vs : _) → blank-source-reads.Post κs a r ws → blank-source-reads.Post κs a s vs → r ≡ s
blank_source_determined κs a r s ws vs p q = p ∙ sym q

pub blank_sources_determined : (κs : _) (a : _) (r s : _) (ws vs : _) → blank-sources-reads.Post κs a r ws → blank-sources-reads.Post κs a s vs → r ≡ s
blank_sources_determined κs a r s ws vs p q = p ∙ sym q

pub blank_tsb_determined : (κs : _) (a : _) (r s : _) (ws vs : _) → blank-tsb-reads.Post κs a r ws → blank-tsb-reads.Post κs a s vs → r ≡ s
blank_tsb_determined κs a r s ws vs p q = p ∙ sym q

pub blank_cpu_determined : (κs : _) (a : _) (r s : _) (ws vs : _) → blank-cpu-reads.Post κs a r ws → blank-cpu-reads.Post κs a s vs → r ≡ s
blank_cpu_determined κs a r s ws vs p q = p ∙ sym q

pub blank_tsbs_determined : (κs : _) (a : _) (r s : _) (ws vs : _) → blank-tsbs-reads.Post κs a r ws → blank-tsbs-reads.Post κs a s vs → r ≡ s
blank_tsbs_determined κs a r s ws vs p q = p ∙ sym q

pub blank_cpus_determined : (κs : _) (a : _) (r s : _) (ws vs : _) → blank-cpus-reads.Post κs a r ws → blank-cpus-reads.Post κs a s vs → r ≡ s
blank_cpus_determined κs a r s ws vs p q = p ∙ sym q

pub blank_versions_determined : (κs : _) (a : _) (r s : _) (ws vs : _) → blank-versions-reads.Post κs a r ws → blank-versions-reads.Post κs a s vs → r ≡ s
blank_versions_determined κs a r s ws vs p q = p ∙ sym q

pub blank_guest_determined : (κs : _) (a : _) (r s : _) (ws vs : _) → blank-guest-reads.Post κs a r ws → blank-guest-reads.Post κs a s vs → r ≡ s
blank_guest_determined κs a r s ws vs p q = p ∙ sym q

pub blank_guests_determined : (κs : _) (a : _) (r s : _) (ws vs : _) → blank-guests-reads.Post κs a r ws → blank-guests-reads.Post κs a s vs → r ≡ s
blank_guests_determined κs a r s ws vs p q = p ∙ sym q

pub blank_no_guests_determined : (κs : _) (a : _) (r s : _) (ws vs : _) → blank-no-guests-reads.Post κs a r ws → blank-no-guests-reads.Post κs a s vs → r ≡ s
blank_no_guests_determined κs a r s ws vs p q = p ∙ sym q

-- sources: the source of a name, and its position alone
pub source_named_determined : (κs : _) (a : _) (r s : _) (ws vs : _) → source-named-reads.Post κs a r ws → source-named-reads.Post κs a s vs → r ≡ s
source_named_determined κs a r s ws vs p q = p ∙ sym q

pub sysino_of_determined : (κs : _) (a : _) (r s : _) (ws vs : _) → sysino-of-reads.Post κs a r ws → sysino-of-reads.Post κs a s vs → r ≡ s
sysino_of_determined κs a r s ws vs p q = p ∙ sym q

-- memory: every byte that a write leaves
pub write_determined : (κs : _) (a : _) (r s : _) (ws vs : _) → write-reads.Post κs a r ws → write-reads.Post κs a s vs → ws.0.now ≡ vs.0.now
write_determined κs a r s ws vs p q = p ∙ sym q

pub write_at_determined : (κs : _) (a : _) (r s : _) (ws vs : _) → write-at-reads.Post κs a r ws → write-at-reads.Post κs a s vs → ws.1.0.now ≡ vs.1.0.now
write_at_determined κs a r s ws vs p q = p ∙ sym q

pub zero_at_determined : (κs : _) (a : _) (r s : _) (ws vs : _) → zero-at-reads.Post κs a r ws → zero-at-reads.Post κs a s vs → ws.1.0.now ≡ vs.1.0.now
zero_at_determined κs a r s ws vs p q = p ∙ sym q
