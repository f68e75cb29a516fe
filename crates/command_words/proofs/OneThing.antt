-- Words mean one thing: they are read as one request, or refused with one fault.
use Rattle.std.proofs.Common.{◌≡◌, ◌<◌, ◌^◌, ℕ, zero, suc, List, refl, sym, ap, ◌∙◌, subst, arith, Bool, true, false, inl, inr}
use Rattle.std.specs.Prelude.{◌≢◌, ◌⊎◌, Option, Some, None}
use Rattle.std.proofs.lemmas.Fmt.{decimal_injective}
use Rattle.lists.specs.Members.IsIn.{here, later}
use Rattle.perm_core.specs.Places.{IsFirstPlace}
use Rattle.perm_core.specs.Basis.{IsBasisText}
use Rattle.perm_core.specs.Faults.{IsRefusedAsBasis, IsNoBasis}
use Rattle.perm_core.specs.declared.basis.BasisFault.{BasisFault}
use Rattle.perm_core.specs.declared.basis.BasisFault.TheVariants.{Empty, BadByte, Repeated, TooLong, TooMany, Memory as NoMemory}
use Rattle.rule_kinds.specs.Choices.{Packs}
use Rattle.command_words.specs.declared.command.Command.{Command}
use Rattle.command_words.specs.declared.command.Command.TheVariants as command
use Rattle.command_words.specs.Commands.{Text}
use Rattle.command_words.specs.declared.request.Request.{Request}
use Rattle.command_words.specs.declared.request.OptName.{OptName}
use Rattle.command_words.specs.declared.request.OptName.TheVariants.{Workers, Budget, Terms, Pack, Number}
use Rattle.command_words.specs.declared.request.WordFault.{WordFault}
use Rattle.command_words.specs.declared.request.WordFault.TheVariants.{Words, Opt, Basis, Memory}
use Rattle.command_words.specs.Requests.{Asked, asked_by, most_terms, default_terms, GivesNumber, GivesPacks, GivesBasis, Asks, Reads, IsGood, IsFirstBad, IsGivenNoBasis, IsBadBasis, IsRefused}

-- ---- one value
one_number : (least most default : ℕ) (given : Option Text) (m n : ℕ) → most < 2 ^ 64 → GivesNumber least most default given m → GivesNumber least most default given n → m ≡ n
one_number least most default None m n fits h k = h ∙ sym k
one_number least most default (Some text) m n fits h k =
    let small = h.to in
    let other = k.to in
    decimal_injective m n (omega arith) (omega arith) (sym h.spelled ∙ k.spelled)

one_pack : (given : Option Text) (p q : Packs) → GivesPacks given p → GivesPacks given q → p ≡ q
one_pack None p q h k = h ∙ sym k
one_pack (Some text) p q h k = cc

one_basis : (given : Option Text) (b c : List (List ℕ)) → GivesBasis given b → GivesBasis given c → b ≡ c
one_basis None b c h k = h ∙ sym k
one_basis (Some text) b c h k = h.is ∙ sym k.is

-- ---- one request
one_asked : (words : List Text) (a b : Asked) → asked_by words ≡ Some a → asked_by words ≡ Some b → a ≡ b
one_asked words a b h k = cc

few_terms : (what : Command) → most_terms what < 2 ^ 64
few_terms command.Search = omega arith
few_terms command.Check = omega arith
few_terms command.Terms = omega arith
few_terms command.Count = omega arith
few_terms command.Sample = omega arith

same_request : (asked : Asked) (r s : Request) → Asks asked r → Asks asked s → r ≡ s
same_request asked r s h k =
    let command = h.command ∙ sym k.command in
    let basis = one_basis asked.texts.basis r.basis s.basis h.basis k.basis in
    let workers = one_number 1 64 1 asked.texts.workers r.workers s.workers (omega arith) h.workers k.workers in
    let budget = one_number 1 5000 500 asked.texts.budget r.budget s.budget (omega arith) h.budget k.budget in
    let terms = one_number 0 (most_terms asked.command) (default_terms asked.command) asked.texts.terms r.terms s.terms (few_terms asked.command) h.terms k.terms in
    let packs = one_pack asked.texts.pack r.packs s.packs h.packs k.packs in
    let number = one_number 0 1000000 0 asked.texts.number r.number s.number (omega arith) h.number k.number in
    λ i. record { command = command i; basis = basis i; workers = workers i; budget = budget i; terms = terms i; packs = packs i; number = number i }

pub one_request : (words : List Text) (r s : Request) → Reads words r → Reads words s → r ≡ s
one_request words r s h k =
    same_request h.asked r s h.asks (subst (λ (a : Asked). Asks a s) (sym (one_asked words h.asked k.asked h.plain k.plain)) k.asks)

-- ---- not both
good_of : (asked : Asked) (r : Request) → Asks asked r → (name : OptName) → IsGood asked name
good_of asked r h Workers = (r.workers, h.workers)
good_of asked r h Budget = (r.budget, h.budget)
good_of asked r h Terms = (r.terms, h.terms)
good_of asked r h Pack = (r.packs, h.packs)
good_of asked r h Number = (r.number, h.number)

no_basis_text : (text : Text) (fault : BasisFault) → fault ≢ NoMemory → IsNoBasis text fault → IsBasisText text → ⊥
no_basis_text text Empty ne h b = h b
no_basis_text text (BadByte at) ne h b = h b
no_basis_text text (Repeated at) ne h b = h b
no_basis_text text (TooLong at) ne h b = h b
no_basis_text text TooMany ne h b = h b
no_basis_text text NoMemory ne h b = ne refl

not_basis : (given : Option Text) (basis : List (List ℕ)) (fault : BasisFault) → fault ≢ NoMemory → GivesBasis given basis → IsGivenNoBasis given fault → ⊥
not_basis None basis fault ne h k = k
not_basis (Some text) basis fault ne h k = no_basis_text text fault ne k.no_basis h.read

none_is_some : (a : Asked) → Some a ≡ None → ⊥
none_is_some a e = absurd cc

pub not_both : (words : List Text) (r : Request) (fault : WordFault) → Reads words r → IsRefused words fault → fault ≢ Memory → ⊥
not_both words r Words h k ne = none_is_some h.asked (sym h.plain ∙ k)
not_both words r (Opt name) h k ne =
    let same = one_asked words k.asked h.asked k.plain h.plain in
    k.refused.bad (good_of k.asked r (subst (λ (a : Asked). Asks a r) (sym same) h.asks) name)
not_both words r (Basis fault) h k ne =
    let same = one_asked words k.asked h.asked k.plain h.plain in
    not_basis k.asked.texts.basis r.basis fault k.refused.not_memory (subst (λ (a : Asked). Asks a r) (sym same) h.asks).basis k.refused.refused
not_both words r Memory h k ne = absurd (ne refl)

-- ---- one fault
first_name : (asked : Asked) (a b : OptName) → IsFirstBad asked a → IsFirstBad asked b → a ≡ b
first_name asked Workers Workers h k = refl
first_name asked Workers Budget h k = absurd (h.bad (k.before Workers here))
first_name asked Workers Terms h k = absurd (h.bad (k.before Workers here))
first_name asked Workers Pack h k = absurd (h.bad (k.before Workers here))
first_name asked Workers Number h k = absurd (h.bad (k.before Workers here))
first_name asked Budget Workers h k = absurd (k.bad (h.before Workers here))
first_name asked Budget Budget h k = refl
first_name asked Budget Terms h k = absurd (h.bad (k.before Budget (later Workers here)))
first_name asked Budget Pack h k = absurd (h.bad (k.before Budget (later Workers here)))
first_name asked Budget Number h k = absurd (h.bad (k.before Budget (later Workers here)))
first_name asked Terms Workers h k = absurd (k.bad (h.before Workers here))
first_name asked Terms Budget h k = absurd (k.bad (h.before Budget (later Workers here)))
first_name asked Terms Terms h k = refl
first_name asked Terms Pack h k = absurd (h.bad (k.before Terms (later Workers (later Budget here))))
first_name asked Terms Number h k = absurd (h.bad (k.before Terms (later Workers (later Budget here))))
first_name asked Pack Workers h k = absurd (k.bad (h.before Workers here))
first_name asked Pack Budget h k = absurd (k.bad (h.before Budget (later Workers here)))
first_name asked Pack Terms h k = absurd (k.bad (h.before Terms (later Workers (later Budget here))))
first_name asked Pack Pack h k = refl
first_name asked Pack Number h k = absurd (h.bad (k.before Pack (later Workers (later Budget (later Terms here)))))
first_name asked Number Workers h k = absurd (k.bad (h.before Workers here))
first_name asked Number Budget h k = absurd (k.bad (h.before Budget (later Workers here)))
first_name asked Number Terms h k = absurd (k.bad (h.before Terms (later Workers (later Budget here))))
first_name asked Number Pack h k = absurd (k.bad (h.before Pack (later Workers (later Budget (later Terms here)))))
first_name asked Number Number h k = refl

cases_below : (j k : ℕ) → (j < k) ⊎ ((k < j) ⊎ (j ≡ k))
cases_below zero zero = inr (inr refl)
cases_below zero (suc k) = inl (omega arith)
cases_below (suc j) zero = inr (inl (omega arith))
cases_below (suc j) (suc k) = go (cases_below j k)
  where
    go : (j < k) ⊎ ((k < j) ⊎ (j ≡ k)) → (suc j < suc k) ⊎ ((suc k < suc j) ⊎ (suc j ≡ suc k))
    go (inl l) = inl (omega arith)
    go (inr (inl l)) = inr (inl (omega arith))
    go (inr (inr e)) = inr (inr (ap suc e))

one_place : (n : ℕ) (Good : ℕ → Type 0) (j k : ℕ) → IsFirstPlace n Good j → IsFirstPlace n Good k → j ≡ k
one_place n Good j k h i = elim (cases_below j k) [
  | inl below ↦ absurd (h.bad (i.first j below))
  | inr rest ↦ elim rest [ inl above ↦ absurd (i.bad (h.first k above)) | inr same ↦ same ]
]

-- texts are refused as a basis with one fault: number the stages
stage_clash : (b : Bool) → b ≡ true → b ≡ false → ⊥
stage_clash b t f = absurd cc

one_basis_fault : (text : Text) (f g : BasisFault) → f ≢ NoMemory → g ≢ NoMemory → IsRefusedAsBasis text f → IsRefusedAsBasis text g → f ≡ g
one_basis_fault text Empty Empty nf ng q r = refl
one_basis_fault text Empty (BadByte y) nf ng q r = absurd (stage_clash _ q r.0)
one_basis_fault text Empty (Repeated y) nf ng q r = absurd (stage_clash _ q r.0.0)
one_basis_fault text Empty (TooLong y) nf ng q r = absurd (stage_clash _ q r.0.0.0)
one_basis_fault text Empty TooMany nf ng q r = absurd (stage_clash _ q r.0.0.0.0)
one_basis_fault text Empty NoMemory nf ng q r = absurd (ng refl)
one_basis_fault text (BadByte x) Empty nf ng q r = absurd (stage_clash _ r q.0)
one_basis_fault text (BadByte x) (BadByte y) nf ng q r = ap BadByte (one_place _ _ x y q.1 r.1)
one_basis_fault text (BadByte x) (Repeated y) nf ng q r = absurd (q.1.bad (r.0.1 x q.1.within))
one_basis_fault text (BadByte x) (TooLong y) nf ng q r = absurd (q.1.bad (r.0.0.1 x q.1.within))
one_basis_fault text (BadByte x) TooMany nf ng q r = absurd (q.1.bad (r.0.0.0.1 x q.1.within))
one_basis_fault text (BadByte x) NoMemory nf ng q r = absurd (ng refl)
one_basis_fault text (Repeated x) Empty nf ng q r = absurd (stage_clash _ r q.0.0)
one_basis_fault text (Repeated x) (BadByte y) nf ng q r = absurd (r.1.bad (q.0.1 y r.1.within))
one_basis_fault text (Repeated x) (Repeated y) nf ng q r = ap Repeated (one_place _ _ x y q.1 r.1)
one_basis_fault text (Repeated x) (TooLong y) nf ng q r = absurd (q.1.bad (r.0.1 x q.1.within))
one_basis_fault text (Repeated x) TooMany nf ng q r = absurd (q.1.bad (r.0.0.1 x q.1.within))
one_basis_fault text (Repeated x) NoMemory nf ng q r = absurd (ng refl)
one_basis_fault text (TooLong x) Empty nf ng q r = absurd (stage_clash _ r q.0.0.0)
one_basis_fault text (TooLong x) (BadByte y) nf ng q r = absurd (r.1.bad (q.0.0.1 y r.1.within))
one_basis_fault text (TooLong x) (Repeated y) nf ng q r = absurd (r.1.bad (q.0.1 y r.1.within))
one_basis_fault text (TooLong x) (TooLong y) nf ng q r = ap TooLong (one_place _ _ x y q.1 r.1)
one_basis_fault text (TooLong x) TooMany nf ng q r = absurd (q.1.bad (r.0.1 x q.1.within))
one_basis_fault text (TooLong x) NoMemory nf ng q r = absurd (ng refl)
one_basis_fault text TooMany Empty nf ng q r = absurd (stage_clash _ r q.0.0.0.0)
one_basis_fault text TooMany (BadByte y) nf ng q r = absurd (r.1.bad (q.0.0.0.1 y r.1.within))
one_basis_fault text TooMany (Repeated y) nf ng q r = absurd (r.1.bad (q.0.0.1 y r.1.within))
one_basis_fault text TooMany (TooLong y) nf ng q r = absurd (r.1.bad (q.0.1 y r.1.within))
one_basis_fault text TooMany TooMany nf ng q r = refl
one_basis_fault text TooMany NoMemory nf ng q r = absurd (ng refl)
one_basis_fault text NoMemory g nf ng q r = absurd (nf refl)

one_given_fault : (given : Option Text) (f g : BasisFault) → f ≢ NoMemory → g ≢ NoMemory → IsGivenNoBasis given f → IsGivenNoBasis given g → f ≡ g
one_given_fault None f g nf ng q r = absurd q
one_given_fault (Some text) f g nf ng q r = one_basis_fault text f g nf ng q.refused r.refused

pub one_fault : (words : List Text) (f g : WordFault) → IsRefused words f → IsRefused words g → f ≢ Memory → g ≢ Memory → f ≡ g
one_fault words Words Words h k nf ng = refl
one_fault words Words (Opt b) h k nf ng = absurd (none_is_some k.asked (sym k.plain ∙ h))
one_fault words Words (Basis b) h k nf ng = absurd (none_is_some k.asked (sym k.plain ∙ h))
one_fault words Words Memory h k nf ng = absurd (ng refl)
one_fault words (Opt a) Words h k nf ng = absurd (none_is_some h.asked (sym h.plain ∙ k))
one_fault words (Opt a) (Opt b) h k nf ng =
    ap Opt (first_name h.asked a b h.refused (subst (λ (x : Asked). IsFirstBad x b) (one_asked words k.asked h.asked k.plain h.plain) k.refused))
one_fault words (Opt a) (Basis b) h k nf ng =
    absurd (h.refused.bad (subst (λ (x : Asked). IsGood x a) (one_asked words k.asked h.asked k.plain h.plain) (k.refused.good a)))
one_fault words (Opt a) Memory h k nf ng = absurd (ng refl)
one_fault words (Basis a) Words h k nf ng = absurd (none_is_some h.asked (sym h.plain ∙ k))
one_fault words (Basis a) (Opt b) h k nf ng =
    absurd (k.refused.bad (subst (λ (x : Asked). IsGood x b) (one_asked words h.asked k.asked h.plain k.plain) (h.refused.good b)))
one_fault words (Basis a) (Basis b) h k nf ng =
    let there : IsBadBasis h.asked b = subst (λ (x : Asked). IsBadBasis x b) (one_asked words k.asked h.asked k.plain h.plain) k.refused in
    ap Basis (one_given_fault h.asked.texts.basis a b h.refused.not_memory there.not_memory h.refused.refused there.refused)
one_fault words (Basis a) Memory h k nf ng = absurd (ng refl)
one_fault words Memory g h k nf ng = absurd (nf refl)
