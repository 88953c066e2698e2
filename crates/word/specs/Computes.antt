-- The one handle by which a proof about concrete words computes: `unfolding computes` opens every definition of the word
-- rules. Above this crate only the machine's handle for concrete steps and the worlds that demand 3's claim refuses name it. Every
-- other proof uses laws, and opens no definition of this crate.
-- Assumes nothing.
use Rattle.std.specs.Prelude.{ℕ}
use Rattle.std.specs.Int.Count.{count_trailing_zeros}
use Rattle.word.specs.Bits.{field, with_field, bit}
use Rattle.word.specs.Word.{has, mask, all_but, unlink_operand, link, with_link}
use Rattle.word.specs.Effect.{after_read, after_store, after_or, after_and, after_swap, cas_taken, after_cas}
use Rattle.word.specs.Ready.{ready_mask, is_ready, merged, cleared, lowest}
use Rattle.word.specs.Entry.{priority, last_queue, bound, ever_linked, with_priority, bound_entry, closed_entry, linked_entry}

unfoldable pub computes : ℕ
unfolding field with_field bit has mask all_but unlink_operand link with_link after_read after_store after_or after_and after_swap cas_taken after_cas ready_mask is_ready merged cleared lowest count_trailing_zeros priority last_queue bound ever_linked with_priority bound_entry closed_entry linked_entry
computes = 0
