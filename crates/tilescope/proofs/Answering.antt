-- Answers, from what was read and what was found.
use Rattle.std.proofs.Common.{◌≡◌, ℕ, true, Result, Ok, Err, refl, sym, ap, ◌∙◌, arith, inl, inr, length, subst, ⊎_elim}
use Rattle.std.specs.Prelude.{◌≢◌, ◌⊎◌, ◌≤◌, ◌<◌, ◌+◌, drop, IfOk, IsNone, Option, Some, None, List, [], ◌∷◌}
use Rattle.lists.specs.Members.IsIn.{here, later}
use Rattle.outside.specs.Bytes.{GrewBy, GrewByPrefix}
use Rattle.outside.specs.Reading.{IsWhole, Took}
use Rattle.css_domain.specs.Ledgers.{done, is_all_done}
use Rattle.css_domain.specs.Reasons.{Reason, EndsFor}
use Rattle.css_domain.specs.Reasons.Reason.{Found, Exhausted, Budget}
use Rattle.tile_rules.specs.Meaning.{tile_meaning}
use Rattle.command_words.specs.declared.command.Command.{Command}
use Rattle.command_words.specs.declared.command.Command.TheVariants as command
use Rattle.command_words.specs.declared.request.WordFault.TheVariants.{Memory}
use Rattle.perm_core.specs.Basis.{IsBasis}
use Rattle.tile_rules.specs.Complete.{rulebook_of}
use Rattle.tilescope.proofs.Letters.{some_pack_letter}
use Rattle.command_words.specs.Requests.{Reads, WordsMeanOneThing, IsSound, takes_basis}
use Rattle.command_words.specs.declared.request.Request.{Request}
use Rattle.command_words.specs.declared.request.WordFault.{WordFault}
use Rattle.tilescope.specs.Words.{Text, ReadsSearch, ReadsText, ReadsListing, AskForMore, IsRefusedFor}
use Rattle.tilescope.specs.Words.IsRefusedFor.{by_words, by_workers}
use Rattle.tilescope.specs.Verdicts.{most_bytes, IsVerdict}
use Rattle.tilescope.specs.Verdicts.IsVerdict.{accepted, rejected}
use Rattle.tilescope.specs.Answers.{IsMade, IsAnswer, IsSearchAnswer, IsTextAnswer, IsListingAnswer, IsUsageAnswer, IsUsagePrefix, AreRefused, AskForSearch, AskOfText, AskForListing, IsOneOf, IsStatus, IsSilent, IsUsage, IsFoundWritten, IsAcceptedText, IsNoneWritten, IsSearchPrefix, IsSearchOf, IsSolved, IsSearched, IsLedgerOf, HasSpecification, IsByPack, HasNoSpecification, HasEnded, IsBeyondPack, IsCheckedWritten, IsRejectedWritten, IsVerdictPrefix, IsUnread, IsTooLong, IsWithin, IsDecided, AreTextsShort, IsListingWritten, IsListingPrefix, AreListingsShort}
use Rattle.tilescope.specs.Searches.{TileBooks}
use Rattle.tilescope.specs.Answers.IsMade.{whole as made_whole, long as made_long}
use Rattle.tilescope.specs.Answers.IsAnswer.{usage, search, text, listing}
use Rattle.tilescope.specs.Answers.IsSearchAnswer.{found, none, long as long_search}
use Rattle.tilescope.specs.Answers.IsTextAnswer.{unread, too_many, told}
use Rattle.tilescope.specs.Answers.IsListingAnswer.{listed, long as long_listing}
use Rattle.tilescope.specs.Answers.IsTooLong.{read as long_read, search as long_answer, listing as long_listed}
use Rattle.tilescope.specs.Answers.IsDecided.{accepted as decided_for, rejected as decided_against, memory as undecided}

pub if_ok-weaker : {A E : Type 0} (P Q : A → Type 0) → ((a : A) → P a → Q a) → (r : Result A E) → IfOk r P → IfOk r Q
if_ok-weaker P Q w (Ok a) h = w a h
if_ok-weaker P Q w (Err e) h = tt

-- ---- an answer that is made of a status and a text
pub made_none : (request : Request) (l : TileBooks) (why : Reason) (line : Text) → why ≢ Found → IsSearched request l why line → (s : ℕ) (t : Option Text) (b : Option TileBooks) → IsMade 1 line (Some l) s t b → IsSearchAnswer request s t b
made_none request l why line ne h _ _ _ (made_whole short) = none l why line ne h short
made_none request l why line ne h _ _ _ (made_long over) = long_search l why line h over

pub made_found : (request : Request) (l : TileBooks) (line : Text) → IsSearched request l Found line → (s : ℕ) (t : Option Text) (b : Option TileBooks) → IsMade 0 line (Some l) s t b → IsSearchAnswer request s t b
made_found request l line h _ _ _ (made_whole short) = found l line h short
made_found request l line h _ _ _ (made_long over) = long_search l Found line h over

-- ---- words are read or refused, and not both, and ask for one thing
text_is_no_search : (c : Command) → (c ≡ command.Check) ⊎ (c ≡ command.Terms) → c ≡ command.Search → ⊥
text_is_no_search c e s = ⊎_elim (λ (i : c ≡ command.Check). absurd cc) (λ (i : c ≡ command.Terms). absurd cc) e

listing_is_no_search : (c : Command) → (c ≡ command.Count) ⊎ (c ≡ command.Sample) → c ≡ command.Search → ⊥
listing_is_no_search c e s = ⊎_elim (λ (i : c ≡ command.Count). absurd cc) (λ (i : c ≡ command.Sample). absurd cc) e

text_is_no_listing : (c : Command) → (c ≡ command.Check) ⊎ (c ≡ command.Terms) → (c ≡ command.Count) ⊎ (c ≡ command.Sample) → ⊥
text_is_no_listing c e l =
    ⊎_elim (λ (i : c ≡ command.Check). ⊎_elim (λ (j : c ≡ command.Count). absurd cc) (λ (j : c ≡ command.Sample). absurd cc) l)
    (λ (i : c ≡ command.Terms). ⊎_elim (λ (j : c ≡ command.Count). absurd cc) (λ (j : c ≡ command.Sample). absurd cc) l) e

-- what is read is refused only for its workers
module _ (law : WordsMeanOneThing) (most : ℕ) (words : List Text) (request : Request) (read : Reads words request) where
  one_command : (other : Request) → Reads words other → request.command ≡ other.command
  one_command other also = ap (λ (r : Request). r.command) ((law words).one_request request other read also)

  only_for_workers : (why : WordFault) → (AskForMore most words → ⊥) → IsRefusedFor most words why → why ≢ Memory → ⊥
  only_for_workers why enough (by_words _ refused) ne = (law words).not_both request why read refused ne
  only_for_workers _ enough (by_workers more) ne = enough more

  not_for_workers : (request.command ≡ command.Search → request.workers ≤ most) → AskForMore most words → ⊥
  not_for_workers enough more =
      let same = (law words).one_request request more.request read more.reads in
      let here : request.command ≡ command.Search = one_command more.request more.reads ∙ more.command in
      let few = enough here in
      let over : most < more.request.workers = more.more in
      let workers : request.workers ≡ more.request.workers = ap (λ (r : Request). r.workers) same in
      omega (arith, few, over, workers)

module _ (law : WordsMeanOneThing) (most : ℕ) (words : List Text) where
  searched_or_refused : AskForSearch most words → AreRefused most words → ⊥
  searched_or_refused a r = only_for_workers law most words a.request a.read.reads r.fault (not_for_workers law most words a.request a.read.reads (λ _. a.read.few)) r.refused r.not_memory

  told_or_refused : AskOfText words → AreRefused most words → ⊥
  told_or_refused a r = only_for_workers law most words a.request a.read.reads r.fault (not_for_workers law most words a.request a.read.reads (λ e. absurd (text_is_no_search a.request.command a.read.command e))) r.refused r.not_memory

  listed_or_refused : AskForListing words → AreRefused most words → ⊥
  listed_or_refused a r = only_for_workers law most words a.request a.read.reads r.fault (not_for_workers law most words a.request a.read.reads (λ e. absurd (listing_is_no_search a.request.command a.read.command e))) r.refused r.not_memory

  pub searched_or_told : AskForSearch most words → AskOfText words → ⊥
  searched_or_told a t = text_is_no_search t.request.command t.read.command (one_command law most words t.request t.read.reads a.request a.read.reads ∙ a.read.command)

  pub searched_or_listed : AskForSearch most words → AskForListing words → ⊥
  searched_or_listed a t = listing_is_no_search t.request.command t.read.command (one_command law most words t.request t.read.reads a.request a.read.reads ∙ a.read.command)

  pub told_or_listed : AskOfText words → AskForListing words → ⊥
  told_or_listed a t = text_is_no_listing t.request.command (subst (λ (c : Command). (c ≡ command.Check) ⊎ (c ≡ command.Terms)) (sym (one_command law most words t.request t.read.reads a.request a.read.reads)) a.read.command) t.read.command

-- ---- a request that was read keeps its ranges
module _ (law : WordsMeanOneThing) (words : List Text) (request : Request) (read : Reads words request) where
  pub sound_as : IsSound request
  sound_as = (law words).sound request read

  pub basis_by : takes_basis request.command ≡ true → IsBasis request.basis
  basis_by = sound_as.basis

  pub basis_of_text : (request.command ≡ command.Check) ⊎ (request.command ≡ command.Terms) → IsBasis request.basis
  basis_of_text e = ⊎_elim (λ (i : request.command ≡ command.Check). basis_by (ap takes_basis i)) (λ (i : request.command ≡ command.Terms). basis_by (ap takes_basis i)) e

  pub letter_by : 0 < rulebook_of request.packs
  letter_by = some_pack_letter request.packs sound_as.packs

module _ (most : ℕ) (words : List Text) (Rose : Type 0) (before after : Option Text) where
  pub refused_as : (why : WordFault) → IsRefusedFor most words why → (s : ℕ) (t : Option Text) (b : Option TileBooks) → IsUsageAnswer why s t b → IsAnswer most words Rose before after s t b
  refused_as why refused s t b h = rw (h.ends, h.says, h.no_ledger) (usage (record { fault = why; refused = refused; not_memory = h.not_memory }))

  pub searched_as : (request : Request) → ReadsSearch most words request → (s : ℕ) (t : Option Text) (b : Option TileBooks) → IsSearchAnswer request s t b → IsAnswer most words Rose before after s t b
  searched_as request read s t b h = search (record { request = request; read = read }) s t b h

  pub told_as : (request : Request) → ReadsText words request → (s : ℕ) (t : Option Text) (b : Option TileBooks) → IsTextAnswer request Rose before after s t → IsNone b → IsAnswer most words Rose before after s t b
  told_as request read s t None h alone = text (record { request = request; read = read }) s t h
  told_as request read s t (Some l) h alone = absurd cc

  pub listed_as : (request : Request) → ReadsListing words request → (s : ℕ) (t : Option Text) (b : Option TileBooks) → IsListingAnswer request s t → IsNone b → IsAnswer most words Rose before after s t b
  listed_as request read s t None h alone = listing (record { request = request; read = read }) s t h
  listed_as request read s t (Some l) h alone = absurd cc

-- two facts of an answer
pub if_ok-both : {A E : Type 0} (P Q S : A → Type 0) → ((a : A) → P a → Q a → S a) → (r : Result A E) → IfOk r P → IfOk r Q → IfOk r S
if_ok-both P Q S w (Ok a) h k = w a h k
if_ok-both P Q S w (Err e) h k = tt

-- ---- why a ledger ends without a specification
ended_by : (l : TileBooks) (why : Reason) → why ≢ Found → EndsFor tile_meaning l why → (is_all_done tile_meaning l ≡ true) ⊎ ((is_all_done tile_meaning l ≡ true → ⊥) × (length (done l) ≡ l.budget))
ended_by l Found ne e = absurd (ne refl)
ended_by l Exhausted ne e = inl e.1
ended_by l Budget ne e = inr (e.1, e.2)

-- ---- statuses
st0 : IsStatus 0
st0 = here

st1 : IsStatus 1
st1 = later 0 here

st2 : IsStatus 2
st2 = later 0 (later 1 here)

st3 : IsStatus 3
st3 = later 0 (later 1 (later 2 here))

st4 : IsStatus 4
st4 = later 0 (later 1 (later 2 (later 3 here)))

pub fault_status : IsStatus 5
fault_status = later 0 (later 1 (later 2 (later 3 (later 4 here))))

pub memory_status : IsStatus 6
memory_status = later 0 (later 1 (later 2 (later 3 (later 4 (later 5 here)))))

st7 : IsStatus 7
st7 = later 0 (later 1 (later 2 (later 3 (later 4 (later 5 (later 6 here))))))

pub memory_refused : IsOneOf 6 (2 ∷ 5 ∷ 6 ∷ [])
memory_refused = later 2 (later 5 here)

pub memory_searched : IsOneOf 6 (0 ∷ 1 ∷ 5 ∷ 6 ∷ 7 ∷ [])
memory_searched = later 0 (later 1 (later 5 here))

pub memory_told : IsOneOf 6 (0 ∷ 3 ∷ 4 ∷ 5 ∷ 6 ∷ 7 ∷ [])
memory_told = later 0 (later 3 (later 4 (later 5 here)))

pub memory_completed : IsOneOf 6 (0 ∷ 1 ∷ 6 ∷ [])
memory_completed = later 0 (later 1 here)

pub memory_decided : (words : List Text) (bytes : Text) → IsDecided words bytes 6
memory_decided words bytes = undecided

pub fault_refused : IsOneOf 5 (2 ∷ 5 ∷ 6 ∷ [])
fault_refused = later 2 here

pub fault_searched : IsOneOf 5 (0 ∷ 1 ∷ 5 ∷ 6 ∷ 7 ∷ [])
fault_searched = later 0 (later 1 here)

pub memory_listed : IsOneOf 6 (0 ∷ 5 ∷ 6 ∷ 7 ∷ [])
memory_listed = later 0 (later 5 here)

pub memory_listed_whole : IsOneOf 6 (0 ∷ 6 ∷ [])
memory_listed_whole = later 0 here

pub fault_listed : IsOneOf 5 (0 ∷ 5 ∷ 6 ∷ 7 ∷ [])
fault_listed = later 0 here

pub fault_told : IsOneOf 5 (0 ∷ 3 ∷ 4 ∷ 5 ∷ 6 ∷ 7 ∷ [])
fault_told = later 0 (later 3 (later 4 here))

-- a status with which something is written
not_silent : (n : ℕ) → (n ≡ 4 → ⊥) → (n ≡ 6 → ⊥) → (n ≡ 7 → ⊥) → IsSilent n → ⊥
not_silent _ f m l here = f refl
not_silent _ f m l (later _ here) = m refl
not_silent _ f m l (later _ (later _ here)) = l refl
not_silent _ f m l (later _ (later _ (later _ h))) = elim h [ ]

-- ---- how an answer ends, with a text that is to be written, or without
module _ (law : WordsMeanOneThing) (most : ℕ) (words : List Text) (Rose : Type 0) (before after : Option Text) where
  -- the verdict on a text
  verdict_status : (request : Request) (bytes : Text) (s : ℕ) (line : Text) → IsVerdict request bytes s line → IsStatus s
  verdict_status request bytes _ _ (accepted entries terms a c) = st0
  verdict_status request bytes _ _ (rejected why ne r other) = st3

  verdict_told : (request : Request) (bytes : Text) (s : ℕ) (line : Text) → IsVerdict request bytes s line → IsOneOf s (0 ∷ 3 ∷ 4 ∷ 5 ∷ 6 ∷ 7 ∷ [])
  verdict_told request bytes _ _ (accepted entries terms a c) = here
  verdict_told request bytes _ _ (rejected why ne r other) = later 0 here

  verdict_is : (request : Request) (bytes : Text) (s : ℕ) (line : Text) → IsVerdict request bytes s line → (s ≡ 0) ⊎ (s ≡ 3)
  verdict_is request bytes _ _ (accepted entries terms a c) = inl refl
  verdict_is request bytes _ _ (rejected why ne r other) = inr refl

  not_by_verdict : (request : Request) (bytes : Text) (s n : ℕ) (line : Text) → IsVerdict request bytes s line → s ≡ n → (n ≡ 0 → ⊥) → (n ≡ 3 → ⊥) → ⊥
  not_by_verdict request bytes s n line v e z t = ⊎_elim (λ i. z (sym e ∙ i)) (λ i. t (sym e ∙ i)) (verdict_is request bytes s line v)

  pub answer_status : (s : ℕ) (t : Option Text) (ledger : Option TileBooks) → IsAnswer most words Rose before after s t ledger → IsStatus s
  answer_status _ _ _ (usage r) = st2
  answer_status _ _ _ (search a _ _ _ (found l line h short)) = st0
  answer_status _ _ _ (search a _ _ _ (none l why line ne h short)) = st1
  answer_status _ _ _ (search a _ _ _ (long_search l why line h over)) = st7
  answer_status _ _ _ (text a _ _ (unread rose)) = st4
  answer_status _ _ _ (text a _ _ (too_many took)) = st7
  answer_status _ _ _ (text a _ _ (told s line h short)) = verdict_status a.request h.bytes s line h.verdict
  answer_status _ _ _ (listing a _ _ (listed line h short)) = st0
  answer_status _ _ _ (listing a _ _ (long_listing line h over)) = st7

  pub answer_refused : (s : ℕ) (t : Option Text) (ledger : Option TileBooks) → IsAnswer most words Rose before after s t ledger → AreRefused most words → IsOneOf s (2 ∷ 5 ∷ 6 ∷ [])
  answer_refused _ _ _ (usage r) h = here
  answer_refused _ _ _ (search a _ _ _ _) h = absurd (searched_or_refused law most words a h)
  answer_refused _ _ _ (text a _ _ _) h = absurd (told_or_refused law most words a h)
  answer_refused _ _ _ (listing a _ _ _) h = absurd (listed_or_refused law most words a h)

  pub answer_searched : (s : ℕ) (t : Option Text) (ledger : Option TileBooks) → IsAnswer most words Rose before after s t ledger → AskForSearch most words → IsOneOf s (0 ∷ 1 ∷ 5 ∷ 6 ∷ 7 ∷ [])
  answer_searched _ _ _ (usage r) h = absurd (searched_or_refused law most words h r)
  answer_searched _ _ _ (search a _ _ _ (found l line _ short)) h = here
  answer_searched _ _ _ (search a _ _ _ (none l why line ne _ short)) h = later 0 here
  answer_searched _ _ _ (search a _ _ _ (long_search l why line _ over)) h = later 0 (later 1 (later 5 (later 6 here)))
  answer_searched _ _ _ (text a _ _ _) h = absurd (searched_or_told law most words h a)
  answer_searched _ _ _ (listing a _ _ _) h = absurd (searched_or_listed law most words h a)

  pub answer_told : (s : ℕ) (t : Option Text) (ledger : Option TileBooks) → IsAnswer most words Rose before after s t ledger → AskOfText words → IsOneOf s (0 ∷ 3 ∷ 4 ∷ 5 ∷ 6 ∷ 7 ∷ [])
  answer_told _ _ _ (usage r) h = absurd (told_or_refused law most words h r)
  answer_told _ _ _ (search a _ _ _ _) h = absurd (searched_or_told law most words a h)
  answer_told _ _ _ (text a _ _ (unread rose)) h = later 0 (later 3 here)
  answer_told _ _ _ (text a _ _ (too_many took)) h = later 0 (later 3 (later 4 (later 5 (later 6 here))))
  answer_told _ _ _ (text a _ _ (told s line k short)) h = verdict_told a.request k.bytes s line k.verdict
  answer_told _ _ _ (listing a _ _ _) h = absurd (told_or_listed law most words h a)

  pub answer_listing : (s : ℕ) (t : Option Text) (ledger : Option TileBooks) → IsAnswer most words Rose before after s t ledger → AskForListing words → IsOneOf s (0 ∷ 5 ∷ 6 ∷ 7 ∷ [])
  answer_listing _ _ _ (usage r) h = absurd (listed_or_refused law most words h r)
  answer_listing _ _ _ (search a _ _ _ _) h = absurd (searched_or_listed law most words a h)
  answer_listing _ _ _ (text a _ _ _) h = absurd (told_or_listed law most words a h)
  answer_listing _ _ _ (listing a _ _ (listed line k short)) h = here
  answer_listing _ _ _ (listing a _ _ (long_listing line k over)) h = later 0 (later 5 (later 6 here))

  pub answer_alone : (s : ℕ) (t : Option Text) (ledger : Option TileBooks) → IsAnswer most words Rose before after s t ledger → (AskForSearch most words → ⊥) → IsNone ledger
  answer_alone _ _ _ (usage r) h = refl
  answer_alone _ _ _ (search a _ _ _ _) h = absurd (h a)
  answer_alone _ _ _ (text a _ _ _) h = refl
  answer_alone _ _ _ (listing a _ _ _) h = refl

  -- the search that the words ask for, and its ledger
  searched : (a : AskForSearch most words) (l : TileBooks) (why : Reason) (line : Text) → IsSearched a.request l why line → IsSearchOf most words (Some l) why line
  searched a l why line h = record { asks = a; books = l; kept = refl; searched = h }

  own : (a : AskForSearch most words) (l : TileBooks) (why : Reason) (line : Text) → IsSearched a.request l why line → IsLedgerOf most words (Some l)
  own a l why line h = record { asks = a; books = l; kept = refl; root = h.explored.root; of_pack = h.explored.filled.of_rulebook }

  pub answer_solved : (s : ℕ) (t : Option Text) (ledger : Option TileBooks) → IsAnswer most words Rose before after s t ledger → AskForSearch most words → IsSolved most words ledger
  answer_solved _ _ _ (usage r) h = absurd (searched_or_refused law most words h r)
  answer_solved _ _ _ (search a _ _ _ (found l line k short)) h = record { why = Found; text = line; search = searched a l Found line k }
  answer_solved _ _ _ (search a _ _ _ (none l why line ne k short)) h = record { why = why; text = line; search = searched a l why line k }
  answer_solved _ _ _ (search a _ _ _ (long_search l why line k over)) h = record { why = why; text = line; search = searched a l why line k }
  answer_solved _ _ _ (text a _ _ _) h = absurd (searched_or_told law most words h a)
  answer_solved _ _ _ (listing a _ _ _) h = absurd (searched_or_listed law most words h a)

  pub answer_valid : (s : ℕ) (t : Option Text) (ledger : Option TileBooks) → IsAnswer most words Rose before after s t ledger → AskForSearch most words → s ≡ 0 → HasSpecification most words ledger
  unfolding own
  answer_valid _ _ _ (usage r) h e = absurd (omega (arith, e))
  answer_valid _ _ _ (search a _ _ _ (found l line k short)) h e = record { own = own a l Found line k; entries = k.says.entries; spec = k.says.spec }
  answer_valid _ _ _ (search a _ _ _ (none l why line ne k short)) h e = absurd (omega (arith, e))
  answer_valid _ _ _ (search a _ _ _ (long_search l why line k over)) h e = absurd (omega (arith, e))
  answer_valid _ _ _ (text a _ _ _) h e = absurd (searched_or_told law most words h a)
  answer_valid _ _ _ (listing a _ _ _) h e = absurd (searched_or_listed law most words h a)

  pub answer_by_pack : (s : ℕ) (t : Option Text) (ledger : Option TileBooks) → IsAnswer most words Rose before after s t ledger → AskForSearch most words → s ≡ 0 → IsByPack most words ledger
  unfolding own
  answer_by_pack _ _ _ (usage r) h e = absurd (omega (arith, e))
  answer_by_pack _ _ _ (search a _ _ _ (found l line k short)) h e = record { own = own a l Found line k; tried = k.by_pack }
  answer_by_pack _ _ _ (search a _ _ _ (none l why line ne k short)) h e = absurd (omega (arith, e))
  answer_by_pack _ _ _ (search a _ _ _ (long_search l why line k over)) h e = absurd (omega (arith, e))
  answer_by_pack _ _ _ (text a _ _ _) h e = absurd (searched_or_told law most words h a)
  answer_by_pack _ _ _ (listing a _ _ _) h e = absurd (searched_or_listed law most words h a)

  -- an answer itself doesn't end for want of memory
  pub answer_has_memory : (s : ℕ) (t : Option Text) (ledger : Option TileBooks) → IsAnswer most words Rose before after s t ledger → s ≡ 6 → ⊥
  answer_has_memory _ _ _ (usage r) e = omega (arith, e)
  answer_has_memory _ _ _ (search a _ _ _ (found l line k short)) e = omega (arith, e)
  answer_has_memory _ _ _ (search a _ _ _ (none l why line ne k short)) e = omega (arith, e)
  answer_has_memory _ _ _ (search a _ _ _ (long_search l why line k over)) e = omega (arith, e)
  answer_has_memory _ _ _ (text a _ _ (unread rose)) e = omega (arith, e)
  answer_has_memory _ _ _ (text a _ _ (too_many took)) e = omega (arith, e)
  answer_has_memory _ _ _ (text a _ _ (told s line k short)) e = not_by_verdict a.request k.bytes s 6 line k.verdict e (λ i. omega (arith, i)) (λ i. omega (arith, i))
  answer_has_memory _ _ _ (listing a _ _ (listed line h short)) e = omega (arith, e)
  answer_has_memory _ _ _ (listing a _ _ (long_listing line h over)) e = omega (arith, e)

  -- nor as a fault of the sink
  pub answer_no_fault : (s : ℕ) (t : Option Text) (ledger : Option TileBooks) → IsAnswer most words Rose before after s t ledger → s ≡ 5 → ⊥
  answer_no_fault _ _ _ (usage r) e = omega (arith, e)
  answer_no_fault _ _ _ (search a _ _ _ (found l line k short)) e = omega (arith, e)
  answer_no_fault _ _ _ (search a _ _ _ (none l why line ne k short)) e = omega (arith, e)
  answer_no_fault _ _ _ (search a _ _ _ (long_search l why line k over)) e = omega (arith, e)
  answer_no_fault _ _ _ (text a _ _ (unread rose)) e = omega (arith, e)
  answer_no_fault _ _ _ (text a _ _ (too_many took)) e = omega (arith, e)
  answer_no_fault _ _ _ (text a _ _ (told s line k short)) e = not_by_verdict a.request k.bytes s 5 line k.verdict e (λ i. omega (arith, i)) (λ i. omega (arith, i))
  answer_no_fault _ _ _ (listing a _ _ (listed line h short)) e = omega (arith, e)
  answer_no_fault _ _ _ (listing a _ _ (long_listing line h over)) e = omega (arith, e)

  pub answer_none : (s : ℕ) (t : Option Text) (ledger : Option TileBooks) → IsAnswer most words Rose before after s t ledger → s ≡ 1 → HasNoSpecification most words ledger
  unfolding own
  answer_none _ _ _ (usage r) e = absurd (omega (arith, e))
  answer_none _ _ _ (search a _ _ _ (found l line k short)) e = absurd (omega (arith, e))
  answer_none _ _ _ (search a _ _ _ (none l why line ne k short)) e = record { own = own a l why line k; none = (k.without ne).none; none_filed = (k.without ne).none_filed }
  answer_none _ _ _ (search a _ _ _ (long_search l why line k over)) e = absurd (omega (arith, e))
  answer_none _ _ _ (text a _ _ (unread rose)) e = absurd (omega (arith, e))
  answer_none _ _ _ (text a _ _ (too_many took)) e = absurd (omega (arith, e))
  answer_none _ _ _ (text a _ _ (told s line k short)) e = absurd (not_by_verdict a.request k.bytes s 1 line k.verdict e (λ i. omega (arith, i)) (λ i. omega (arith, i)))
  answer_none _ _ _ (listing a _ _ (listed line h short)) e = absurd (omega (arith, e))
  answer_none _ _ _ (listing a _ _ (long_listing line h over)) e = absurd (omega (arith, e))

  pub answer_beyond : (s : ℕ) (t : Option Text) (ledger : Option TileBooks) → IsAnswer most words Rose before after s t ledger → s ≡ 1 → IsBeyondPack most words ledger
  unfolding own
  answer_beyond _ _ _ (usage r) e = absurd (omega (arith, e))
  answer_beyond _ _ _ (search a _ _ _ (found l line k short)) e = absurd (omega (arith, e))
  answer_beyond _ _ _ (search a _ _ _ (none l why line ne k short)) e = record { own = own a l why line k; beyond = (k.without ne).beyond }
  answer_beyond _ _ _ (search a _ _ _ (long_search l why line k over)) e = absurd (omega (arith, e))
  answer_beyond _ _ _ (text a _ _ (unread rose)) e = absurd (omega (arith, e))
  answer_beyond _ _ _ (text a _ _ (too_many took)) e = absurd (omega (arith, e))
  answer_beyond _ _ _ (text a _ _ (told s line k short)) e = absurd (not_by_verdict a.request k.bytes s 1 line k.verdict e (λ i. omega (arith, i)) (λ i. omega (arith, i)))
  answer_beyond _ _ _ (listing a _ _ (listed line h short)) e = absurd (omega (arith, e))
  answer_beyond _ _ _ (listing a _ _ (long_listing line h over)) e = absurd (omega (arith, e))

  pub answer_ended : (s : ℕ) (t : Option Text) (ledger : Option TileBooks) → IsAnswer most words Rose before after s t ledger → s ≡ 1 → HasEnded most words ledger
  unfolding own
  answer_ended _ _ _ (usage r) e = absurd (omega (arith, e))
  answer_ended _ _ _ (search a _ _ _ (found l line k short)) e = absurd (omega (arith, e))
  answer_ended _ _ _ (search a _ _ _ (none l why line ne k short)) e = record { own = own a l why line k; why = ended_by l why ne k.explored.ends; normal = k.explored.normal; complete = k.explored.filled.complete }
  answer_ended _ _ _ (search a _ _ _ (long_search l why line k over)) e = absurd (omega (arith, e))
  answer_ended _ _ _ (text a _ _ (unread rose)) e = absurd (omega (arith, e))
  answer_ended _ _ _ (text a _ _ (too_many took)) e = absurd (omega (arith, e))
  answer_ended _ _ _ (text a _ _ (told s line k short)) e = absurd (not_by_verdict a.request k.bytes s 1 line k.verdict e (λ i. omega (arith, i)) (λ i. omega (arith, i)))
  answer_ended _ _ _ (listing a _ _ (listed line h short)) e = absurd (omega (arith, e))
  answer_ended _ _ _ (listing a _ _ (long_listing line h over)) e = absurd (omega (arith, e))

  pub answer_unread : (s : ℕ) (t : Option Text) (ledger : Option TileBooks) → IsAnswer most words Rose before after s t ledger → s ≡ 4 → IsUnread words Rose
  answer_unread _ _ _ (usage r) e = absurd (omega (arith, e))
  answer_unread _ _ _ (search a _ _ _ (found l line k short)) e = absurd (omega (arith, e))
  answer_unread _ _ _ (search a _ _ _ (none l why line ne k short)) e = absurd (omega (arith, e))
  answer_unread _ _ _ (search a _ _ _ (long_search l why line k over)) e = absurd (omega (arith, e))
  answer_unread _ _ _ (text a _ _ (unread rose)) e = record { asks = a; rose = rose }
  answer_unread _ _ _ (text a _ _ (too_many took)) e = absurd (omega (arith, e))
  answer_unread _ _ _ (text a _ _ (told s line k short)) e = absurd (not_by_verdict a.request k.bytes s 4 line k.verdict e (λ i. omega (arith, i)) (λ i. omega (arith, i)))
  answer_unread _ _ _ (listing a _ _ (listed line h short)) e = absurd (omega (arith, e))
  answer_unread _ _ _ (listing a _ _ (long_listing line h over)) e = absurd (omega (arith, e))

  pub answer_long : (s : ℕ) (t : Option Text) (ledger : Option TileBooks) → IsAnswer most words Rose before after s t ledger → s ≡ 7 → IsTooLong most words before after ledger
  answer_long _ _ _ (usage r) e = absurd (omega (arith, e))
  answer_long _ _ _ (search a _ _ _ (found l line k short)) e = absurd (omega (arith, e))
  answer_long _ _ _ (search a _ _ _ (none l why line ne k short)) e = absurd (omega (arith, e))
  answer_long _ _ _ (search a _ _ _ (long_search l why line k over)) e = long_answer why line (searched a l why line k) over
  answer_long _ _ _ (text a _ _ (unread rose)) e = absurd (omega (arith, e))
  answer_long _ _ _ (text a _ _ (too_many took)) e = long_read a took
  answer_long _ _ _ (text a _ _ (told s line k short)) e = absurd (not_by_verdict a.request k.bytes s 7 line k.verdict e (λ i. omega (arith, i)) (λ i. omega (arith, i)))
  answer_long _ _ _ (listing a _ _ (listed line h short)) e = absurd (omega (arith, e))
  answer_long _ _ _ (listing a _ _ (long_listing line h over)) e = long_listed a line h over

  -- ---- where nothing fails
  -- a text that is told whole isn't too long
  not_too_many : (within : IsWithin before) → Took before after (most_bytes + 1) → ⊥
  not_too_many within took =
      let all : (most_bytes + 1 ≤ length within.bytes) × (after ≡ Some (drop (most_bytes + 1) within.bytes)) = subst (λ (b : Option Text). Took b after (most_bytes + 1)) within.told took in
      let few = within.few in
      omega (arith, all.0, few)

  all_of_it : (bytes : Text) (within : IsWithin before) → IsWhole before after bytes → bytes ≡ within.bytes
  all_of_it bytes within whole = (subst (λ (b : Option Text). IsWhole b after bytes) within.told whole).0

  by_verdict : (a : AskOfText words) (bytes : Text) (s : ℕ) (line : Text) → IsVerdict a.request bytes s line → IsDecided words bytes s
  by_verdict a bytes _ _ (accepted entries terms is counts) = decided_for a (is.file, is.accepted)
  by_verdict a bytes _ _ (rejected why ne r other) = decided_against a other

  pub answer_decided : (s : ℕ) (t : Option Text) (ledger : Option TileBooks) → IsAnswer most words Rose before after s t ledger → AskOfText words → (within : IsWithin before) → (Rose → ⊥) → IsDecided words within.bytes s
  answer_decided _ _ _ (usage r) h within steady = absurd (told_or_refused law most words h r)
  answer_decided _ _ _ (search a _ _ _ _) h within steady = absurd (searched_or_told law most words a h)
  answer_decided _ _ _ (text a _ _ (unread rose)) h within steady = absurd (steady rose)
  answer_decided _ _ _ (text a _ _ (too_many took)) h within steady = absurd (not_too_many within took)
  answer_decided _ _ _ (text a _ _ (told s line k short)) h within steady = subst (λ (bytes : Text). IsDecided words bytes s) (all_of_it k.bytes within k.whole) (by_verdict a k.bytes s line k.verdict)
  answer_decided _ _ _ (listing a _ _ _) h within steady = absurd (told_or_listed law most words h a)

  pub answer_completed : (s : ℕ) (t : Option Text) (ledger : Option TileBooks) → IsAnswer most words Rose before after s t ledger → AskForSearch most words → AreTextsShort most words ledger → IsOneOf s (0 ∷ 1 ∷ 6 ∷ [])
  answer_completed _ _ _ (usage r) h short = absurd (searched_or_refused law most words h r)
  answer_completed _ _ _ (search a _ _ _ (found l line k _)) h short = here
  answer_completed _ _ _ (search a _ _ _ (none l why line ne k _)) h short = later 0 here
  answer_completed _ _ _ (search a _ _ _ (long_search l why line k over)) h short = let fits = short why line (searched a l why line k) in absurd (omega (arith, fits, over))
  answer_completed _ _ _ (text a _ _ _) h short = absurd (searched_or_told law most words h a)
  answer_completed _ _ _ (listing a _ _ _) h short = absurd (searched_or_listed law most words h a)

  pub answer_listed_whole : (s : ℕ) (t : Option Text) (ledger : Option TileBooks) → IsAnswer most words Rose before after s t ledger → AskForListing words → AreListingsShort words → IsOneOf s (0 ∷ 6 ∷ [])
  answer_listed_whole _ _ _ (usage r) h short = absurd (listed_or_refused law most words h r)
  answer_listed_whole _ _ _ (search a _ _ _ _) h short = absurd (searched_or_listed law most words a h)
  answer_listed_whole _ _ _ (text a _ _ _) h short = absurd (told_or_listed law most words a h)
  answer_listed_whole _ _ _ (listing a _ _ (listed line k _)) h short = here
  answer_listed_whole _ _ _ (listing a _ _ (long_listing line k over)) h short = let fits = short a line k in absurd (omega (arith, fits, over))

  -- ---- where there is a text
  module _ (line : Text) where
    -- its status isn't one with which nothing is written
    pub answer_speaks : (s : ℕ) (t : Option Text) (ledger : Option TileBooks) → IsAnswer most words Rose before after s t ledger → t ≡ Some line → IsSilent s → ⊥
    answer_speaks _ _ _ (usage r) e h = not_silent 2 (λ i. omega (arith, i)) (λ i. omega (arith, i)) (λ i. omega (arith, i)) h
    answer_speaks _ _ _ (search a _ _ _ (found l _ k short)) e h = not_silent 0 (λ i. omega (arith, i)) (λ i. omega (arith, i)) (λ i. omega (arith, i)) h
    answer_speaks _ _ _ (search a _ _ _ (none l why _ ne k short)) e h = not_silent 1 (λ i. omega (arith, i)) (λ i. omega (arith, i)) (λ i. omega (arith, i)) h
    answer_speaks _ _ _ (search a _ _ _ (long_search l why _ k over)) e h = absurd cc
    answer_speaks _ _ _ (text a _ _ (unread rose)) e h = absurd cc
    answer_speaks _ _ _ (text a _ _ (too_many took)) e h = absurd cc
    answer_speaks _ _ _ (text a _ _ (told s _ k short)) e h =
        not_silent s (λ i. not_by_verdict a.request k.bytes s 4 _ k.verdict i (λ j. omega (arith, j)) (λ j. omega (arith, j)))
        (λ i. not_by_verdict a.request k.bytes s 6 _ k.verdict i (λ j. omega (arith, j)) (λ j. omega (arith, j)))
        (λ i. not_by_verdict a.request k.bytes s 7 _ k.verdict i (λ j. omega (arith, j)) (λ j. omega (arith, j))) h
    answer_speaks _ _ _ (listing a _ _ (listed _ k short)) e h = not_silent 0 (λ i. omega (arith, i)) (λ i. omega (arith, i)) (λ i. omega (arith, i)) h
    answer_speaks _ _ _ (listing a _ _ (long_listing _ k over)) e h = absurd cc

    module _ (held now : Option (List ℕ)) where
      -- what was written is the answer's own text
      own_text : (own_line : Text) → Some own_line ≡ Some line → GrewBy held now line → GrewBy held now own_line
      own_text own_line e g = let same : line ≡ own_line = cc in subst (λ (x : Text). GrewBy held now x) same g

      own_front : (own_line : Text) → Some own_line ≡ Some line → GrewByPrefix held now line → GrewByPrefix held now own_line
      own_front own_line e g = let same : line ≡ own_line = cc in subst (λ (x : Text). GrewByPrefix held now x) same g

      pub answer_usage : (s : ℕ) (t : Option Text) (ledger : Option TileBooks) → IsAnswer most words Rose before after s t ledger → t ≡ Some line → s ≡ 2 → GrewBy held now line → IsUsage most words held now
      answer_usage _ _ _ (usage r) i e g = record { refused = r; written = own_text _ i g }
      answer_usage _ _ _ (search a _ _ _ (found l _ k short)) i e g = absurd (omega (arith, e))
      answer_usage _ _ _ (search a _ _ _ (none l why _ ne k short)) i e g = absurd (omega (arith, e))
      answer_usage _ _ _ (search a _ _ _ (long_search l why _ k over)) i e g = absurd (omega (arith, e))
      answer_usage _ _ _ (text a _ _ (unread rose)) i e g = absurd (omega (arith, e))
      answer_usage _ _ _ (text a _ _ (too_many took)) i e g = absurd (omega (arith, e))
      answer_usage _ _ _ (text a _ _ (told s own_line k short)) i e g = absurd (not_by_verdict a.request k.bytes s 2 own_line k.verdict e (λ j. omega (arith, j)) (λ j. omega (arith, j)))
      answer_usage _ _ _ (listing a _ _ (listed _ h short)) i e g = absurd (omega (arith, e))
      answer_usage _ _ _ (listing a _ _ (long_listing _ h over)) i e g = absurd (omega (arith, e))

      pub answer_found : (s : ℕ) (t : Option Text) (ledger : Option TileBooks) → IsAnswer most words Rose before after s t ledger → t ≡ Some line → AskForSearch most words → s ≡ 0 → GrewBy held now line → IsFoundWritten most words ledger held now
      answer_found _ _ _ (usage r) i h e g = absurd (omega (arith, e))
      answer_found _ _ _ (search a _ _ _ (found l own_line k short)) i h e g = record { text = own_line; search = searched a l Found own_line k; short = short; written = own_text own_line i g }
      answer_found _ _ _ (search a _ _ _ (none l why _ ne k short)) i h e g = absurd (omega (arith, e))
      answer_found _ _ _ (search a _ _ _ (long_search l why _ k over)) i h e g = absurd (omega (arith, e))
      answer_found _ _ _ (text a _ _ _) i h e g = absurd (searched_or_told law most words h a)
      answer_found _ _ _ (listing a _ _ _) i h e g = absurd (searched_or_listed law most words h a)

      pub answer_none_written : (s : ℕ) (t : Option Text) (ledger : Option TileBooks) → IsAnswer most words Rose before after s t ledger → t ≡ Some line → s ≡ 1 → GrewBy held now line → IsNoneWritten most words ledger held now
      answer_none_written _ _ _ (usage r) i e g = absurd (omega (arith, e))
      answer_none_written _ _ _ (search a _ _ _ (found l _ k short)) i e g = absurd (omega (arith, e))
      answer_none_written _ _ _ (search a _ _ _ (none l why own_line ne k short)) i e g = record { text = own_line; why = why; not_found = ne; search = searched a l why own_line k; short = short; written = own_text own_line i g }
      answer_none_written _ _ _ (search a _ _ _ (long_search l why _ k over)) i e g = absurd (omega (arith, e))
      answer_none_written _ _ _ (text a _ _ (unread rose)) i e g = absurd (omega (arith, e))
      answer_none_written _ _ _ (text a _ _ (too_many took)) i e g = absurd (omega (arith, e))
      answer_none_written _ _ _ (text a _ _ (told s own_line k short)) i e g = absurd (not_by_verdict a.request k.bytes s 1 own_line k.verdict e (λ j. omega (arith, j)) (λ j. omega (arith, j)))
      answer_none_written _ _ _ (listing a _ _ (listed _ h short)) i e g = absurd (omega (arith, e))
      answer_none_written _ _ _ (listing a _ _ (long_listing _ h over)) i e g = absurd (omega (arith, e))

      -- the line of an accepted text
      by_accepted : (a : AskOfText words) (bytes : Text) (s : ℕ) (own_line : Text) → IsWhole before after bytes → length bytes ≤ most_bytes → IsVerdict a.request bytes s own_line → s ≡ 0 → length own_line ≤ most_bytes → GrewBy held now own_line → IsCheckedWritten words before after held now
      by_accepted a bytes _ _ whole few (accepted entries terms is counts) e short g = record { asks = a; bytes = bytes; whole = whole; few = few; entries = entries; terms = terms; accepted = is; counts = counts; short = short; written = g }
      by_accepted a bytes _ _ whole few (rejected why ne r other) e short g = absurd (omega (arith, e))

      by_rejected : (a : AskOfText words) (bytes : Text) (s : ℕ) (own_line : Text) → IsWhole before after bytes → length bytes ≤ most_bytes → IsVerdict a.request bytes s own_line → s ≡ 3 → length own_line ≤ most_bytes → GrewBy held now own_line → IsRejectedWritten words before after held now
      by_rejected a bytes _ _ whole few (accepted entries terms is counts) e short g = absurd (omega (arith, e))
      by_rejected a bytes _ _ whole few (rejected why ne r other) e short g = record { asks = a; bytes = bytes; whole = whole; few = few; why = why; not_memory = ne; refused = r; not_accepted = other; short = short; written = g }

      pub answer_checked : (s : ℕ) (t : Option Text) (ledger : Option TileBooks) → IsAnswer most words Rose before after s t ledger → t ≡ Some line → AskOfText words → s ≡ 0 → GrewBy held now line → IsCheckedWritten words before after held now
      answer_checked _ _ _ (usage r) i h e g = absurd (omega (arith, e))
      answer_checked _ _ _ (search a _ _ _ _) i h e g = absurd (searched_or_told law most words a h)
      answer_checked _ _ _ (text a _ _ (unread rose)) i h e g = absurd (omega (arith, e))
      answer_checked _ _ _ (text a _ _ (too_many took)) i h e g = absurd (omega (arith, e))
      answer_checked _ _ _ (text a _ _ (told s own_line k short)) i h e g = by_accepted a k.bytes s own_line k.whole k.few k.verdict e short (own_text own_line i g)
      answer_checked _ _ _ (listing a _ _ _) i h e g = absurd (told_or_listed law most words h a)

      pub answer_rejected : (s : ℕ) (t : Option Text) (ledger : Option TileBooks) → IsAnswer most words Rose before after s t ledger → t ≡ Some line → s ≡ 3 → GrewBy held now line → IsRejectedWritten words before after held now
      answer_rejected _ _ _ (usage r) i e g = absurd (omega (arith, e))
      answer_rejected _ _ _ (search a _ _ _ (found l _ k short)) i e g = absurd (omega (arith, e))
      answer_rejected _ _ _ (search a _ _ _ (none l why _ ne k short)) i e g = absurd (omega (arith, e))
      answer_rejected _ _ _ (search a _ _ _ (long_search l why _ k over)) i e g = absurd (omega (arith, e))
      answer_rejected _ _ _ (text a _ _ (unread rose)) i e g = absurd (omega (arith, e))
      answer_rejected _ _ _ (text a _ _ (too_many took)) i e g = absurd (omega (arith, e))
      answer_rejected _ _ _ (text a _ _ (told s own_line k short)) i e g = by_rejected a k.bytes s own_line k.whole k.few k.verdict e short (own_text own_line i g)
      answer_rejected _ _ _ (listing a _ _ (listed _ h short)) i e g = absurd (omega (arith, e))
      answer_rejected _ _ _ (listing a _ _ (long_listing _ h over)) i e g = absurd (omega (arith, e))

      pub answer_listed : (s : ℕ) (t : Option Text) (ledger : Option TileBooks) → IsAnswer most words Rose before after s t ledger → t ≡ Some line → AskForListing words → s ≡ 0 → GrewBy held now line → IsListingWritten words held now
      answer_listed _ _ _ (usage r) i h e g = absurd (omega (arith, e))
      answer_listed _ _ _ (search a _ _ _ _) i h e g = absurd (searched_or_listed law most words a h)
      answer_listed _ _ _ (text a _ _ _) i h e g = absurd (told_or_listed law most words a h)
      answer_listed _ _ _ (listing a _ _ (listed own_line k short)) i h e g = record { asks = a; text = own_line; listing = k; short = short; written = own_text own_line i g }
      answer_listed _ _ _ (listing a _ _ (long_listing _ k over)) i h e g = absurd cc

      pub usage_prefix : (s : ℕ) (t : Option Text) (ledger : Option TileBooks) → IsAnswer most words Rose before after s t ledger → t ≡ Some line → AreRefused most words → GrewByPrefix held now line → IsUsagePrefix most words held now
      usage_prefix _ _ _ (usage r) i h g = record { refused = r; written = own_front _ i g }
      usage_prefix _ _ _ (search a _ _ _ _) i h g = absurd (searched_or_refused law most words a h)
      usage_prefix _ _ _ (text a _ _ _) i h g = absurd (told_or_refused law most words a h)
      usage_prefix _ _ _ (listing a _ _ _) i h g = absurd (listed_or_refused law most words a h)

      pub search_prefix : (s : ℕ) (t : Option Text) (ledger : Option TileBooks) → IsAnswer most words Rose before after s t ledger → t ≡ Some line → AskForSearch most words → GrewByPrefix held now line → IsSearchPrefix most words ledger held now
      search_prefix _ _ _ (usage r) i h g = absurd (searched_or_refused law most words h r)
      search_prefix _ _ _ (search a _ _ _ (found l own_line k short)) i h g = record { why = Found; text = own_line; search = searched a l Found own_line k; short = short; written = own_front own_line i g }
      search_prefix _ _ _ (search a _ _ _ (none l why own_line ne k short)) i h g = record { why = why; text = own_line; search = searched a l why own_line k; short = short; written = own_front own_line i g }
      search_prefix _ _ _ (search a _ _ _ (long_search l why _ k over)) i h g = absurd cc
      search_prefix _ _ _ (text a _ _ _) i h g = absurd (searched_or_told law most words h a)
      search_prefix _ _ _ (listing a _ _ _) i h g = absurd (searched_or_listed law most words h a)

      pub text_prefix : (s : ℕ) (t : Option Text) (ledger : Option TileBooks) → IsAnswer most words Rose before after s t ledger → t ≡ Some line → AskOfText words → GrewByPrefix held now line → IsVerdictPrefix words before after held now
      text_prefix _ _ _ (usage r) i h g = absurd (told_or_refused law most words h r)
      text_prefix _ _ _ (search a _ _ _ _) i h g = absurd (searched_or_told law most words a h)
      text_prefix _ _ _ (text a _ _ (unread rose)) i h g = absurd cc
      text_prefix _ _ _ (text a _ _ (too_many took)) i h g = absurd cc
      text_prefix _ _ _ (text a _ _ (told s own_line k short)) i h g = record { asks = a; status = s; text = own_line; told = k; short = short; written = own_front own_line i g }
      text_prefix _ _ _ (listing a _ _ _) i h g = absurd (told_or_listed law most words h a)

      pub listing_prefix : (s : ℕ) (t : Option Text) (ledger : Option TileBooks) → IsAnswer most words Rose before after s t ledger → t ≡ Some line → AskForListing words → GrewByPrefix held now line → IsListingPrefix words held now
      listing_prefix _ _ _ (usage r) i h g = absurd (listed_or_refused law most words h r)
      listing_prefix _ _ _ (search a _ _ _ _) i h g = absurd (searched_or_listed law most words a h)
      listing_prefix _ _ _ (text a _ _ _) i h g = absurd (told_or_listed law most words a h)
      listing_prefix _ _ _ (listing a _ _ (listed own_line k short)) i h g = record { asks = a; text = own_line; listing = k; short = short; written = own_front own_line i g }
      listing_prefix _ _ _ (listing a _ _ (long_listing _ k over)) i h g = absurd cc

  -- ---- where there is no text, the status is one with which nothing is written
  pub answer_silent : (s : ℕ) (t : Option Text) (ledger : Option TileBooks) → IsAnswer most words Rose before after s t ledger → t ≡ None → (s ≡ 4) ⊎ (s ≡ 7)
  answer_silent _ _ _ (usage r) i = absurd cc
  answer_silent _ _ _ (search a _ _ _ (found l _ k short)) i = absurd cc
  answer_silent _ _ _ (search a _ _ _ (none l why _ ne k short)) i = absurd cc
  answer_silent _ _ _ (search a _ _ _ (long_search l why _ k over)) i = inr refl
  answer_silent _ _ _ (text a _ _ (unread rose)) i = inl refl
  answer_silent _ _ _ (text a _ _ (too_many took)) i = inr refl
  answer_silent _ _ _ (text a _ _ (told s _ k short)) i = absurd cc
  answer_silent _ _ _ (listing a _ _ (listed _ k short)) i = absurd cc
  answer_silent _ _ _ (listing a _ _ (long_listing _ k over)) i = inr refl

  -- so it is no other
  pub not_silently : (s n : ℕ) (t : Option Text) (ledger : Option TileBooks) → IsAnswer most words Rose before after s t ledger → t ≡ None → s ≡ n → (n ≡ 4 → ⊥) → (n ≡ 7 → ⊥) → ⊥
  not_silently s n t ledger h i e four seven = ⊎_elim (λ k. four (sym e ∙ k)) (λ k. seven (sym e ∙ k)) (answer_silent s t ledger h i)

-- a fault of the sink isn't such a status
pub fault_speaks : IsSilent 5 → ⊥
fault_speaks h = not_silent 5 (λ i. omega (arith, i)) (λ i. omega (arith, i)) (λ i. omega (arith, i)) h

-- the text that was found is accepted
pub accepted_text : (most : ℕ) (words : List Text) (ledger : Option TileBooks) (held now : Option (List ℕ)) → IsFoundWritten most words ledger held now → IsAcceptedText most words ledger held now
accepted_text most words ledger held now h = record { found = h; accepted = h.search.searched.says.accepted }
