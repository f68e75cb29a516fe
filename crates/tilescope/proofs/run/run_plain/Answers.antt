use Rattle.std.proofs.Common.{arith, sym, ap, ◌∙◌, Some}
use Rattle.tilescope.proofs.Answering.{answer_status, answer_refused, answer_searched, answer_told, answer_alone, answer_solved, answer_valid, answer_by_pack, answer_has_memory, answer_no_fault, answer_none, answer_beyond, answer_ended, answer_unread, answer_long, answer_speaks, answer_usage, answer_found, accepted_text, answer_none_written, answer_checked, answer_rejected, usage_prefix, search_prefix, text_prefix, not_silently, memory_status, memory_refused, memory_searched, memory_told, fault_status, fault_refused, fault_searched, fault_told, fault_speaks, answer_decided, answer_completed, memory_decided, memory_completed, answer_listing, answer_listed, answer_listed_whole, listing_prefix, memory_listed, memory_listed_whole, fault_listed}
use Rattle.tilescope.proofs.run.run_plain.Goals as goal

pub returns-in_default-clause-statuses : goal.returns-in_default-clause-statuses
returns-in_default-clause-statuses g c = memory_status

pub returns-in_default-clause-refused : goal.returns-in_default-clause-refused
returns-in_default-clause-refused g c = λ _. memory_refused

pub returns-in_default-clause-search : goal.returns-in_default-clause-search
returns-in_default-clause-search g c = λ _. memory_searched

pub returns-in_default-clause-text : goal.returns-in_default-clause-text
returns-in_default-clause-text g c = λ _. memory_told

pub returns-in_default-text-clause-statuses : goal.returns-in_default-text-clause-statuses
returns-in_default-text-clause-statuses g c = answer_status c.words_mean_one_thing.ensures _ _ _ _ _ _ _ _ c.in-Ok.ensures.answer

pub returns-in_default-text-clause-search : goal.returns-in_default-text-clause-search
returns-in_default-text-clause-search g c = answer_searched c.words_mean_one_thing.ensures _ _ _ _ _ _ _ _ c.in-Ok.ensures.answer

pub returns-in_default-text-clause-text : goal.returns-in_default-text-clause-text
returns-in_default-text-clause-text g c = answer_told c.words_mean_one_thing.ensures _ _ _ _ _ _ _ _ c.in-Ok.ensures.answer

pub returns-in_default-text-clause-found : goal.returns-in_default-text-clause-found
returns-in_default-text-clause-found g c = λ a e. absurd (not_silently c.words_mean_one_thing.ensures _ _ _ _ _ _ 0 _ _ c.in-Ok.ensures.answer c.in_default-text.is e (λ j. omega (arith, j)) (λ j. omega (arith, j)))

pub returns-in_default-text-clause-accepted_text : goal.returns-in_default-text-clause-accepted_text
returns-in_default-text-clause-accepted_text g c = λ a e. absurd (not_silently c.words_mean_one_thing.ensures _ _ _ _ _ _ 0 _ _ c.in-Ok.ensures.answer c.in_default-text.is e (λ j. omega (arith, j)) (λ j. omega (arith, j)))

pub returns-in_default-text-clause-valid : goal.returns-in_default-text-clause-valid
returns-in_default-text-clause-valid g c = answer_valid c.words_mean_one_thing.ensures _ _ _ _ _ _ _ _ c.in-Ok.ensures.answer

pub returns-in_default-text-clause-by_pack : goal.returns-in_default-text-clause-by_pack
returns-in_default-text-clause-by_pack g c = answer_by_pack c.words_mean_one_thing.ensures _ _ _ _ _ _ _ _ c.in-Ok.ensures.answer

pub returns-in_default-text-clause-none : goal.returns-in_default-text-clause-none
returns-in_default-text-clause-none g c = λ e. absurd (not_silently c.words_mean_one_thing.ensures _ _ _ _ _ _ 1 _ _ c.in-Ok.ensures.answer c.in_default-text.is e (λ j. omega (arith, j)) (λ j. omega (arith, j)))

pub returns-in_default-text-clause-no_specification : goal.returns-in_default-text-clause-no_specification
returns-in_default-text-clause-no_specification g c = answer_none c.words_mean_one_thing.ensures _ _ _ _ _ _ _ _ c.in-Ok.ensures.answer

pub returns-in_default-text-clause-ended : goal.returns-in_default-text-clause-ended
returns-in_default-text-clause-ended g c = answer_ended c.words_mean_one_thing.ensures _ _ _ _ _ _ _ _ c.in-Ok.ensures.answer

pub returns-in_default-text-clause-beyond : goal.returns-in_default-text-clause-beyond
returns-in_default-text-clause-beyond g c = answer_beyond c.words_mean_one_thing.ensures _ _ _ _ _ _ _ _ c.in-Ok.ensures.answer

pub returns-in_default-text-clause-usage : goal.returns-in_default-text-clause-usage
returns-in_default-text-clause-usage g c = λ e. absurd (not_silently c.words_mean_one_thing.ensures _ _ _ _ _ _ 2 _ _ c.in-Ok.ensures.answer c.in_default-text.is e (λ j. omega (arith, j)) (λ j. omega (arith, j)))

pub returns-in_default-text-clause-checked : goal.returns-in_default-text-clause-checked
returns-in_default-text-clause-checked g c = λ a e. absurd (not_silently c.words_mean_one_thing.ensures _ _ _ _ _ _ 0 _ _ c.in-Ok.ensures.answer c.in_default-text.is e (λ j. omega (arith, j)) (λ j. omega (arith, j)))

pub returns-in_default-text-clause-rejected : goal.returns-in_default-text-clause-rejected
returns-in_default-text-clause-rejected g c = λ e. absurd (not_silently c.words_mean_one_thing.ensures _ _ _ _ _ _ 3 _ _ c.in-Ok.ensures.answer c.in_default-text.is e (λ j. omega (arith, j)) (λ j. omega (arith, j)))

pub returns-in_default-text-clause-unread : goal.returns-in_default-text-clause-unread
returns-in_default-text-clause-unread g c = answer_unread c.words_mean_one_thing.ensures _ _ _ _ _ _ _ _ c.in-Ok.ensures.answer

pub returns-in_default-text-clause-write_fault : goal.returns-in_default-text-clause-write_fault
returns-in_default-text-clause-write_fault g c = λ e. absurd (answer_no_fault c.words_mean_one_thing.ensures _ _ _ _ _ _ _ _ c.in-Ok.ensures.answer e)

pub returns-in_default-text-clause-long : goal.returns-in_default-text-clause-long
returns-in_default-text-clause-long g c = answer_long c.words_mean_one_thing.ensures _ _ _ _ _ _ _ _ c.in-Ok.ensures.answer

pub returns-in_default-text-clause-solved : goal.returns-in_default-text-clause-solved
returns-in_default-text-clause-solved g c = λ a _. answer_solved c.words_mean_one_thing.ensures _ _ _ _ _ _ _ _ c.in-Ok.ensures.answer a

pub returns-in_default-text-clause-no_ledger : goal.returns-in_default-text-clause-no_ledger
returns-in_default-text-clause-no_ledger g c = answer_alone c.words_mean_one_thing.ensures _ _ _ _ _ _ _ _ c.in-Ok.ensures.answer

pub returns-in_default-text-clause-nothing_kept : goal.returns-in_default-text-clause-nothing_kept
returns-in_default-text-clause-nothing_kept g c = λ e. absurd (answer_has_memory c.words_mean_one_thing.ensures _ _ _ _ _ _ _ _ c.in-Ok.ensures.answer e)

pub returns-in_default-text-clause-search_prefix : goal.returns-in_default-text-clause-search_prefix
returns-in_default-text-clause-search_prefix g c = λ a e. absurd (answer_no_fault c.words_mean_one_thing.ensures _ _ _ _ _ _ _ _ c.in-Ok.ensures.answer e)

pub returns-in_default-text-clause-text_prefix : goal.returns-in_default-text-clause-text_prefix
returns-in_default-text-clause-text_prefix g c = λ a e. absurd (answer_no_fault c.words_mean_one_thing.ensures _ _ _ _ _ _ _ _ c.in-Ok.ensures.answer e)

pub returns-in-Ok-write_all-clause-statuses : goal.returns-in-Ok-write_all-clause-statuses
returns-in-Ok-write_all-clause-statuses g c = answer_status c.words_mean_one_thing.ensures _ _ _ _ _ _ _ _ c.in-Ok.ensures.answer

pub returns-in-Ok-write_all-clause-refused : goal.returns-in-Ok-write_all-clause-refused
returns-in-Ok-write_all-clause-refused g c = answer_refused c.words_mean_one_thing.ensures _ _ _ _ _ _ _ _ c.in-Ok.ensures.answer

pub returns-in-Ok-write_all-clause-search : goal.returns-in-Ok-write_all-clause-search
returns-in-Ok-write_all-clause-search g c = answer_searched c.words_mean_one_thing.ensures _ _ _ _ _ _ _ _ c.in-Ok.ensures.answer

pub returns-in-Ok-write_all-clause-text : goal.returns-in-Ok-write_all-clause-text
returns-in-Ok-write_all-clause-text g c = answer_told c.words_mean_one_thing.ensures _ _ _ _ _ _ _ _ c.in-Ok.ensures.answer

pub returns-in-Ok-write_all-clause-found : goal.returns-in-Ok-write_all-clause-found
returns-in-Ok-write_all-clause-found g c = λ a e. answer_found c.words_mean_one_thing.ensures _ _ _ _ _ c.as_slice.result.now _ _ _ _ _ c.in-Ok.ensures.answer (c.in-Some.is ∙ ap Some (sym c.as_slice.ensures)) a e c.in-Ok-write_all.ensures.all

pub returns-in-Ok-write_all-clause-accepted_text : goal.returns-in-Ok-write_all-clause-accepted_text
returns-in-Ok-write_all-clause-accepted_text g c = λ a e. accepted_text _ _ _ _ _ (answer_found c.words_mean_one_thing.ensures _ _ _ _ _ c.as_slice.result.now _ _ _ _ _ c.in-Ok.ensures.answer (c.in-Some.is ∙ ap Some (sym c.as_slice.ensures)) a e c.in-Ok-write_all.ensures.all)

pub returns-in-Ok-write_all-clause-valid : goal.returns-in-Ok-write_all-clause-valid
returns-in-Ok-write_all-clause-valid g c = answer_valid c.words_mean_one_thing.ensures _ _ _ _ _ _ _ _ c.in-Ok.ensures.answer

pub returns-in-Ok-write_all-clause-by_pack : goal.returns-in-Ok-write_all-clause-by_pack
returns-in-Ok-write_all-clause-by_pack g c = answer_by_pack c.words_mean_one_thing.ensures _ _ _ _ _ _ _ _ c.in-Ok.ensures.answer

pub returns-in-Ok-write_all-clause-none : goal.returns-in-Ok-write_all-clause-none
returns-in-Ok-write_all-clause-none g c = λ e. answer_none_written c.words_mean_one_thing.ensures _ _ _ _ _ c.as_slice.result.now _ _ _ _ _ c.in-Ok.ensures.answer (c.in-Some.is ∙ ap Some (sym c.as_slice.ensures)) e c.in-Ok-write_all.ensures.all

pub returns-in-Ok-write_all-clause-no_specification : goal.returns-in-Ok-write_all-clause-no_specification
returns-in-Ok-write_all-clause-no_specification g c = answer_none c.words_mean_one_thing.ensures _ _ _ _ _ _ _ _ c.in-Ok.ensures.answer

pub returns-in-Ok-write_all-clause-ended : goal.returns-in-Ok-write_all-clause-ended
returns-in-Ok-write_all-clause-ended g c = answer_ended c.words_mean_one_thing.ensures _ _ _ _ _ _ _ _ c.in-Ok.ensures.answer

pub returns-in-Ok-write_all-clause-beyond : goal.returns-in-Ok-write_all-clause-beyond
returns-in-Ok-write_all-clause-beyond g c = answer_beyond c.words_mean_one_thing.ensures _ _ _ _ _ _ _ _ c.in-Ok.ensures.answer

pub returns-in-Ok-write_all-clause-usage : goal.returns-in-Ok-write_all-clause-usage
returns-in-Ok-write_all-clause-usage g c = λ e. answer_usage c.words_mean_one_thing.ensures _ _ _ _ _ c.as_slice.result.now _ _ _ _ _ c.in-Ok.ensures.answer (c.in-Some.is ∙ ap Some (sym c.as_slice.ensures)) e c.in-Ok-write_all.ensures.all

pub returns-in-Ok-write_all-clause-checked : goal.returns-in-Ok-write_all-clause-checked
returns-in-Ok-write_all-clause-checked g c = λ a e. answer_checked c.words_mean_one_thing.ensures _ _ _ _ _ c.as_slice.result.now _ _ _ _ _ c.in-Ok.ensures.answer (c.in-Some.is ∙ ap Some (sym c.as_slice.ensures)) a e c.in-Ok-write_all.ensures.all

pub returns-in-Ok-write_all-clause-rejected : goal.returns-in-Ok-write_all-clause-rejected
returns-in-Ok-write_all-clause-rejected g c = λ e. answer_rejected c.words_mean_one_thing.ensures _ _ _ _ _ c.as_slice.result.now _ _ _ _ _ c.in-Ok.ensures.answer (c.in-Some.is ∙ ap Some (sym c.as_slice.ensures)) e c.in-Ok-write_all.ensures.all

pub returns-in-Ok-write_all-clause-unread : goal.returns-in-Ok-write_all-clause-unread
returns-in-Ok-write_all-clause-unread g c = answer_unread c.words_mean_one_thing.ensures _ _ _ _ _ _ _ _ c.in-Ok.ensures.answer

pub returns-in-Ok-write_all-clause-write_fault : goal.returns-in-Ok-write_all-clause-write_fault
returns-in-Ok-write_all-clause-write_fault g c = λ e. absurd (answer_no_fault c.words_mean_one_thing.ensures _ _ _ _ _ _ _ _ c.in-Ok.ensures.answer e)

pub returns-in-Ok-write_all-clause-long : goal.returns-in-Ok-write_all-clause-long
returns-in-Ok-write_all-clause-long g c = answer_long c.words_mean_one_thing.ensures _ _ _ _ _ _ _ _ c.in-Ok.ensures.answer

pub returns-in-Ok-write_all-clause-untouched : goal.returns-in-Ok-write_all-clause-untouched
returns-in-Ok-write_all-clause-untouched g c = λ h. absurd (answer_speaks c.words_mean_one_thing.ensures _ _ _ _ _ c.as_slice.result.now _ _ _ c.in-Ok.ensures.answer (c.in-Some.is ∙ ap Some (sym c.as_slice.ensures)) h)

pub returns-in-Ok-write_all-clause-silent : goal.returns-in-Ok-write_all-clause-silent
returns-in-Ok-write_all-clause-silent g c = λ h. absurd (answer_speaks c.words_mean_one_thing.ensures _ _ _ _ _ c.as_slice.result.now _ _ _ c.in-Ok.ensures.answer (c.in-Some.is ∙ ap Some (sym c.as_slice.ensures)) h)

pub returns-in-Ok-write_all-clause-solved : goal.returns-in-Ok-write_all-clause-solved
returns-in-Ok-write_all-clause-solved g c = λ a _. answer_solved c.words_mean_one_thing.ensures _ _ _ _ _ _ _ _ c.in-Ok.ensures.answer a

pub returns-in-Ok-write_all-clause-no_ledger : goal.returns-in-Ok-write_all-clause-no_ledger
returns-in-Ok-write_all-clause-no_ledger g c = answer_alone c.words_mean_one_thing.ensures _ _ _ _ _ _ _ _ c.in-Ok.ensures.answer

pub returns-in-Ok-write_all-clause-nothing_kept : goal.returns-in-Ok-write_all-clause-nothing_kept
returns-in-Ok-write_all-clause-nothing_kept g c = λ e. absurd (answer_has_memory c.words_mean_one_thing.ensures _ _ _ _ _ _ _ _ c.in-Ok.ensures.answer e)

pub returns-in-Ok-write_all-clause-search_prefix : goal.returns-in-Ok-write_all-clause-search_prefix
returns-in-Ok-write_all-clause-search_prefix g c = λ a e. absurd (answer_no_fault c.words_mean_one_thing.ensures _ _ _ _ _ _ _ _ c.in-Ok.ensures.answer e)

pub returns-in-Ok-write_all-clause-text_prefix : goal.returns-in-Ok-write_all-clause-text_prefix
returns-in-Ok-write_all-clause-text_prefix g c = λ a e. absurd (answer_no_fault c.words_mean_one_thing.ensures _ _ _ _ _ _ _ _ c.in-Ok.ensures.answer e)

pub returns-clause-statuses : goal.returns-clause-statuses
returns-clause-statuses g c = fault_status

pub returns-clause-refused : goal.returns-clause-refused
returns-clause-refused g c = λ _. fault_refused

pub returns-clause-search : goal.returns-clause-search
returns-clause-search g c = λ _. fault_searched

pub returns-clause-text : goal.returns-clause-text
returns-clause-text g c = λ _. fault_told

pub returns-clause-untouched : goal.returns-clause-untouched
returns-clause-untouched g c = λ h. absurd (fault_speaks h)

pub returns-clause-silent : goal.returns-clause-silent
returns-clause-silent g c = λ h. absurd (fault_speaks h)

pub returns-clause-solved : goal.returns-clause-solved
returns-clause-solved g c = λ a _. answer_solved c.words_mean_one_thing.ensures _ _ _ _ _ _ _ _ c.in-Ok.ensures.answer a

pub returns-clause-no_ledger : goal.returns-clause-no_ledger
returns-clause-no_ledger g c = answer_alone c.words_mean_one_thing.ensures _ _ _ _ _ _ _ _ c.in-Ok.ensures.answer

pub returns-clause-search_prefix : goal.returns-clause-search_prefix
returns-clause-search_prefix g c = λ a _. search_prefix c.words_mean_one_thing.ensures _ _ _ _ _ c.as_slice.result.now _ _ _ _ _ c.in-Ok.ensures.answer (c.in-Some.is ∙ ap Some (sym c.as_slice.ensures)) a c.in-Err.ensures.prefix

pub returns-clause-usage_prefix : goal.returns-clause-usage_prefix
returns-clause-usage_prefix g c = λ a _. usage_prefix c.words_mean_one_thing.ensures _ _ _ _ _ c.as_slice.result.now _ _ _ _ _ c.in-Ok.ensures.answer (c.in-Some.is ∙ ap Some (sym c.as_slice.ensures)) a c.in-Err.ensures.prefix

pub returns-clause-text_prefix : goal.returns-clause-text_prefix
returns-clause-text_prefix g c = λ a _. text_prefix c.words_mean_one_thing.ensures _ _ _ _ _ c.as_slice.result.now _ _ _ _ _ c.in-Ok.ensures.answer (c.in-Some.is ∙ ap Some (sym c.as_slice.ensures)) a c.in-Err.ensures.prefix

pub returns-in_default-clause-complete_text : goal.returns-in_default-clause-complete_text
returns-in_default-clause-complete_text g c = λ _ within _ _. memory_decided _ within.bytes

pub returns-in_default-clause-complete_search : goal.returns-in_default-clause-complete_search
returns-in_default-clause-complete_search g c = λ _ _ _. memory_completed

pub returns-in_default-text-clause-complete_text : goal.returns-in_default-text-clause-complete_text
returns-in_default-text-clause-complete_text g c = λ a within steady _. answer_decided c.words_mean_one_thing.ensures _ _ _ _ _ _ _ _ c.in-Ok.ensures.answer a within steady

pub returns-in_default-text-clause-complete_search : goal.returns-in_default-text-clause-complete_search
returns-in_default-text-clause-complete_search g c = λ a short _. answer_completed c.words_mean_one_thing.ensures _ _ _ _ _ _ _ _ c.in-Ok.ensures.answer a short

pub returns-in-Ok-write_all-clause-complete_text : goal.returns-in-Ok-write_all-clause-complete_text
returns-in-Ok-write_all-clause-complete_text g c = λ a within steady _. answer_decided c.words_mean_one_thing.ensures _ _ _ _ _ _ _ _ c.in-Ok.ensures.answer a within steady

pub returns-in-Ok-write_all-clause-complete_search : goal.returns-in-Ok-write_all-clause-complete_search
returns-in-Ok-write_all-clause-complete_search g c = λ a short _. answer_completed c.words_mean_one_thing.ensures _ _ _ _ _ _ _ _ c.in-Ok.ensures.answer a short

pub returns-clause-complete_text : goal.returns-clause-complete_text
returns-clause-complete_text g c = λ _ _ _ steady. absurd (steady c.in-Err.ensures.cause)

pub returns-clause-complete_search : goal.returns-clause-complete_search
returns-clause-complete_search g c = λ _ _ steady. absurd (steady c.in-Err.ensures.cause)

-- ---- listings
pub returns-in_default-clause-listing : goal.returns-in_default-clause-listing
returns-in_default-clause-listing g c = λ _. memory_listed

pub returns-in_default-clause-complete_listing : goal.returns-in_default-clause-complete_listing
returns-in_default-clause-complete_listing g c = λ _ _ _. memory_listed_whole

pub returns-in_default-text-clause-listing : goal.returns-in_default-text-clause-listing
returns-in_default-text-clause-listing g c = answer_listing c.words_mean_one_thing.ensures _ _ _ _ _ _ _ _ c.in-Ok.ensures.answer

pub returns-in_default-text-clause-listed : goal.returns-in_default-text-clause-listed
returns-in_default-text-clause-listed g c = λ a e. absurd (not_silently c.words_mean_one_thing.ensures _ _ _ _ _ _ 0 _ _ c.in-Ok.ensures.answer c.in_default-text.is e (λ j. omega (arith, j)) (λ j. omega (arith, j)))

pub returns-in_default-text-clause-complete_listing : goal.returns-in_default-text-clause-complete_listing
returns-in_default-text-clause-complete_listing g c = λ a short _. answer_listed_whole c.words_mean_one_thing.ensures _ _ _ _ _ _ _ _ c.in-Ok.ensures.answer a short

pub returns-in_default-text-clause-listing_prefix : goal.returns-in_default-text-clause-listing_prefix
returns-in_default-text-clause-listing_prefix g c = λ a e. absurd (answer_no_fault c.words_mean_one_thing.ensures _ _ _ _ _ _ _ _ c.in-Ok.ensures.answer e)

pub returns-in-Ok-write_all-clause-listing : goal.returns-in-Ok-write_all-clause-listing
returns-in-Ok-write_all-clause-listing g c = answer_listing c.words_mean_one_thing.ensures _ _ _ _ _ _ _ _ c.in-Ok.ensures.answer

pub returns-in-Ok-write_all-clause-listed : goal.returns-in-Ok-write_all-clause-listed
returns-in-Ok-write_all-clause-listed g c = λ a e. answer_listed c.words_mean_one_thing.ensures _ _ _ _ _ c.as_slice.result.now _ _ _ _ _ c.in-Ok.ensures.answer (c.in-Some.is ∙ ap Some (sym c.as_slice.ensures)) a e c.in-Ok-write_all.ensures.all

pub returns-in-Ok-write_all-clause-complete_listing : goal.returns-in-Ok-write_all-clause-complete_listing
returns-in-Ok-write_all-clause-complete_listing g c = λ a short _. answer_listed_whole c.words_mean_one_thing.ensures _ _ _ _ _ _ _ _ c.in-Ok.ensures.answer a short

pub returns-in-Ok-write_all-clause-listing_prefix : goal.returns-in-Ok-write_all-clause-listing_prefix
returns-in-Ok-write_all-clause-listing_prefix g c = λ a e. absurd (answer_no_fault c.words_mean_one_thing.ensures _ _ _ _ _ _ _ _ c.in-Ok.ensures.answer e)

pub returns-clause-listing : goal.returns-clause-listing
returns-clause-listing g c = λ _. fault_listed

pub returns-clause-complete_listing : goal.returns-clause-complete_listing
returns-clause-complete_listing g c = λ _ _ steady. absurd (steady c.in-Err.ensures.cause)

pub returns-clause-listing_prefix : goal.returns-clause-listing_prefix
returns-clause-listing_prefix g c = λ a _. listing_prefix c.words_mean_one_thing.ensures _ _ _ _ _ c.as_slice.result.now _ _ _ _ _ c.in-Ok.ensures.answer (c.in-Some.is ∙ ap Some (sym c.as_slice.ensures)) a c.in-Err.ensures.prefix

-- ---- refused words
pub returns-in_default-text-clause-refused : goal.returns-in_default-text-clause-refused
returns-in_default-text-clause-refused g c = answer_refused c.words_mean_one_thing.ensures _ _ _ _ _ _ _ _ c.in-Ok.ensures.answer

pub returns-in-Ok-write_all-clause-usage_prefix : goal.returns-in-Ok-write_all-clause-usage_prefix
returns-in-Ok-write_all-clause-usage_prefix g c = λ a e. absurd (answer_no_fault c.words_mean_one_thing.ensures _ _ _ _ _ _ _ _ c.in-Ok.ensures.answer e)
