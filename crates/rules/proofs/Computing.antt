-- Every definition of specs/ under one name: under `unfolding computing` the rules compute.
use Rattle.rules.specs.Scan.{some_below, all_below, power_of_two◌from◌to◌, first_below, each_below}
use Rattle.rules.specs.Kept.{no_guests, with_source, with_queue, with_ctx0, with_ctxnon0, with_statistics}
use Rattle.rules.specs.Real.{located, reach, valid, byte_at, number_of, word_bytes, bytes_from, put_bytes, apply}
use Rattle.rules.specs.Bits.{bit_at, field_at, bits_of, number_at, packed_bytes, packed}
use Rattle.rules.specs.Statuses.{status_of, numbers, image_numbers, loading_numbers, write_status, writing_numbers}
use Rattle.rules.specs.Image.{◌bits_at◌of◌from◌to◌else◌, filled, read_lists, read_guest, read_guests, read_header, read_fields, extent_right, follows, ascend, breaks, first_breaking, run_at, share, shares_before, twins, named_before, filled_out, judged, read_image, load}
use Rattle.rules.specs.Calls.{version_function, fast_function, function_of, admitted, perform, call}
use Rattle.rules.specs.Versions.{group_of, all_disabled, negotiated, set_version, get_version}
use Rattle.rules.specs.Queues.{new_ring, has_room, put_in, put, cpu_qconf, cpu_qinfo, cpu_myid, write_head}
use Rattle.rules.specs.Mondo.{listed_cpus, send_one, send_all, cpu_mondo_send}
use Rattle.rules.specs.Tsb.{descriptor_at, is_page_index, ◌is_inside◌, judged_tsb, descriptors, new_tsbs, mmu_tsb_ctx0, mmu_tsb_ctxnon0}
use Rattle.rules.specs.Memory.{whole_pages, whole_word, mem_scrub, mem_sync, store_word, load_word, new_statistics, mmustat_conf, mmustat_info}
use Rattle.rules.specs.Hits.{tsb_hit}
use Rattle.rules.specs.Sources.{sysino_of, get_enabled, set_enabled, get_state, set_state, get_target, set_target, get_cookie, set_cookie, intr_devino2sysino, source_call, cookie_call, intr, vintr, device_word, device_entry, raise_at, raise}
use Rattle.rules.specs.Tables.{list_right, extent_blank, tsb_blank, tsbs_blank, cpu_blank, source_blank, versions_blank, extents_blank, plant_blank, guest_blank, place_right, ring_right, tsbs_right, cpu_right, versions_right, cookie_right, enabled_right, source_right, extents_keep, plant_keeps, guest_keeps, keep_rules}
use Rattle.rules.specs.Host.{plant_rule, owner_of, long_enough, host_rule, host_event}
use Rattle.rules.specs.Text.{same, pieces, digit_of, digits, value_of, field, fields, paired, joined, event_line, parse, hex_of, spaced}
use Rattle.rules.specs.Session.{begin, replied, text_of, answered, lines_from, printed, output}
use Rattle.rules.specs.Writing.{extent_row, source_row, counts_row, guest_row, header_row, image_row, image_of, write_rule, write_image}
use Rattle.rules.specs.Plan.{extent_held, source_held, addition_of, plan_line, drawn, stepped, steps, fresh, desk_after, digit_pairs, word_line, image_line, extent_line, source_line, guest_lines, plan_text, desk_text, planned}

unfoldable pub computing : Unit {0}
unfolding some_below all_below power_of_two◌from◌to◌ first_below each_below no_guests with_source with_queue with_ctx0 with_ctxnon0 with_statistics located reach valid byte_at number_of word_bytes bytes_from put_bytes apply bit_at field_at bits_of number_at packed_bytes packed status_of numbers image_numbers loading_numbers write_status writing_numbers ◌bits_at◌of◌from◌to◌else◌ filled read_lists read_guest read_guests read_header read_fields extent_right follows ascend breaks first_breaking run_at share shares_before twins named_before filled_out judged read_image load version_function fast_function function_of admitted perform call group_of all_disabled negotiated set_version get_version new_ring has_room put_in put cpu_qconf cpu_qinfo cpu_myid write_head listed_cpus send_one send_all cpu_mondo_send descriptor_at is_page_index ◌is_inside◌ judged_tsb descriptors new_tsbs mmu_tsb_ctx0 mmu_tsb_ctxnon0 whole_pages whole_word mem_scrub mem_sync store_word load_word new_statistics mmustat_conf mmustat_info tsb_hit sysino_of get_enabled set_enabled get_state set_state get_target set_target get_cookie set_cookie intr_devino2sysino source_call cookie_call intr vintr device_word device_entry raise_at raise list_right extent_blank tsb_blank tsbs_blank cpu_blank source_blank versions_blank extents_blank plant_blank guest_blank place_right ring_right tsbs_right cpu_right versions_right cookie_right enabled_right source_right extents_keep plant_keeps guest_keeps keep_rules plant_rule owner_of long_enough host_rule host_event same pieces digit_of digits value_of field fields paired joined event_line parse hex_of spaced begin replied text_of answered lines_from printed output extent_row source_row counts_row guest_row header_row image_row image_of write_rule write_image extent_held source_held addition_of plan_line drawn stepped steps fresh desk_after digit_pairs word_line image_line extent_line source_line guest_lines plan_text desk_text planned
computing = tt
