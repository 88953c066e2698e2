-- The one handle by which a proof about concrete steps computes: `unfolding runs` opens every definition that a step uses, with those
-- of the word rules. The table of cases, the longest calls, and the examples of demand 3 and of T-10 name it.
-- Assumes nothing.
use Rattle.std.specs.Prelude.{ℕ}
use Rattle.word.specs.Computes.{computes}
use Rattle.calls.specs.Records.{one_more, is_port, in_array, entry_at, is_free, is_clearing}
use Rattle.calls.specs.Hypervisor.{is_offset, accept_init, accept_expand, accept_port, begin_bind, begin_close, begin_priority, begin_link, reply_r1, reply_u1, reply_bind, reply_close, reply_first, stale_queue, after_r2, reply_r2, reply_r3, after_first_cas, after_later_cas, reply_r4, reply_set_busy, reply_clear_busy, reply_r5, reply_r6, staged, due_first, due, next_of, init_control, expand_array, started, bind_start, close_start, set_priority, raise_start, unmask_start, view_of, moved, reply_of}
use Rattle.calls.specs.Guest.{is_serving, takes_index, reply_g0, reply_g2, reply_g3, reply_g4, guest_staged, service_queue, guest_due, guest_next, service_start, guest_moved, service_reply, mask_of, tell_of}
use Rattle.calls.specs.ClearMask.{reply_read, reply_cas, clear_staged, clear_due, clear_next, clear_mask_start, guest_reply, guest_due_of}
use Rattle.machine.specs.Memory.{place_of, after_access, loaded, saved, performed, zeroed_from, zero_page}
use Rattle.machine.specs.Exec.{expand_of, start_of, perform_hypervisor, guest_access, perform_guest, perform_mask, guest_start_of, perform_side, hand_back, advance_of, exec_all}

unfoldable pub runs : ℕ
unfolding computes one_more is_port in_array entry_at is_free is_clearing is_offset accept_init accept_expand accept_port begin_bind begin_close begin_priority begin_link reply_r1 reply_u1 reply_bind reply_close reply_first stale_queue after_r2 reply_r2 reply_r3 after_first_cas after_later_cas reply_r4 reply_set_busy reply_clear_busy reply_r5 reply_r6 staged due_first due next_of init_control expand_array started bind_start close_start set_priority raise_start unmask_start view_of moved reply_of is_serving takes_index reply_g0 reply_g2 reply_g3 reply_g4 guest_staged service_queue guest_due guest_next service_start guest_moved service_reply mask_of tell_of reply_read reply_cas clear_staged clear_due clear_next clear_mask_start guest_reply guest_due_of place_of after_access loaded saved performed zeroed_from zero_page expand_of start_of perform_hypervisor guest_access perform_guest perform_mask guest_start_of perform_side hand_back advance_of exec_all
runs = 0
