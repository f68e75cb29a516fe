-- A checking that is fed from a source.
use Rattle.std.proofs.Common.{◌≡◌, ℕ, ◌+◌, ◌≤◌, List, [], ◌++◌, append_assoc, Option, Some, None, length, take, drop, sym, ap, ◌∙◌, subst, arith}
use Rattle.std.specs.Prelude.{Result, Ok, Err}
use Rattle.std.proofs.lemmas.List.{length-append, length-take-le, take-append-le}
use Rattle.std.proofs.Math.Seq.{drop-length}
use Rattle.std.specs.Io.KnownBytes.{Consumes}
use Rattle.std.proofs.KnownBytes.{Consumes-trans}
use Rattle.outside.specs.Reading.{IsWhole, Took, TookAtMost}
use Rattle.spec_checker.specs.declared.verdict.Checked.{Checked}
use Rattle.spec_checker.specs.declared.verdict.CheckFault.{CheckFault}
use Rattle.spec_checker.specs.Accepting.{IsAccepted, AreCounts}
use Rattle.spec_checker.specs.Pieces.{CheckingState, HasReadFor, IsFoundOut}
use Rattle.tilescope.specs.Streams.{HasReadOn, HasFed, HasFedAll, IsFoundOutWhole, IsStreamAnswer}
use Rattle.tilescope.specs.declared.stream.StreamFault.{StreamFault}
use Rattle.tilescope.specs.declared.stream.StreamFault.TheVariants as stream
use Rattle.tilescope.specs.Words.{Text}
use Rattle.command_words.specs.declared.request.Request.{Request}
use Rattle.tilescope.specs.Verdicts.{most_bytes, checked_line, IsRejection}
use Rattle.tilescope.specs.Verdicts.IsVerdict.{accepted}
use Rattle.tilescope.specs.Answers.{IsTold}
use Rattle.tilescope.proofs.Judging.{rejected_by}
use Rattle.tilescope.proofs.Short.{checked_short}

-- one more piece is fed
pub fed_more : (many n : ℕ) (before between after : Option Text) (into rest : Text) (old now new : CheckingState) → HasFed many before between old now → Consumes between after (take n into) → n ≤ length into → HasReadOn now new (take n (into ++ rest)) → HasFed (many + n) before after old new
fed_more many n before between after into rest old now new f gave within on = record {
  bytes = f.bytes ++ take n into;
  took = Consumes-trans before between after f.bytes (take n into) f.took gave;
  counted = length-append f.bytes (take n into) ∙ ap (λ m. m + length (take n into)) f.counted ∙ ap (λ m. many + m) (length-take-le n into within);
  read = λ basis earlier h. subst (λ t. HasReadFor basis t new) (append_assoc earlier f.bytes (take n into)) (subst (λ p. HasReadFor basis (earlier ++ f.bytes ++ p) new) (take-append-le n into rest within) (on basis (earlier ++ f.bytes) (f.read basis earlier h)));
}

-- all that was given was taken
pub took_whole : (before after : Option Text) (bytes : Text) (most : ℕ) → IsWhole before after bytes → length bytes ≤ most → TookAtMost before after most
took_whole None after bytes most h few = (length bytes, few, tt)
took_whole (Some all) after bytes most h few =
    let many : length bytes ≡ length all = ap length h.0 in
    (length bytes, few, (omega (arith, many), h.1 ∙ ap Some (sym (ap (λ n. drop n all) many ∙ drop-length all))))

-- what is found is found of all that the source had left
pub found_whole : (basis : List (List ℕ)) (limit : ℕ) (before after : Option Text) (old new : CheckingState) (r : Result Checked CheckFault) → HasFedAll limit before after old new → HasReadFor basis [] old → ((words : List (List ℕ)) (bytes : Text) → HasReadFor words bytes new → IsFoundOut words bytes r) → IsFoundOutWhole basis limit before after r
found_whole basis limit before after old new r f none found = record {
  bytes = f.bytes;
  whole = f.whole;
  few = f.few;
  found = found basis f.bytes (f.read basis [] none);
}

-- ---- what a command says of it
pub told_accepted : (request : Request) (basis : List (List ℕ)) (before after : Option Text) (c : Checked) → basis ≡ request.basis → IsFoundOutWhole basis most_bytes before after (Ok c) → (status : ℕ) (line : Text) → status ≡ 0 → line ≡ checked_line request.command c.entries c.terms.items → IsTold request before after status line
told_accepted request basis before after c same f status line ends says = record {
  bytes = f.bytes;
  whole = f.whole;
  few = f.few;
  verdict =
      rw (ends, says)
      (accepted c.entries c.terms.items (subst (λ (words : List (List ℕ)). IsAccepted words f.bytes c.entries c.terms.items) same f.found.accepted) (subst (λ (words : List (List ℕ)). AreCounts words c.terms.items) same f.found.counts));
}

-- its line is not too long to be written
pub short_accepted : (request : Request) (basis : List (List ℕ)) (before after : Option Text) (c : Checked) → IsFoundOutWhole basis most_bytes before after (Ok c) → (line : Text) → line ≡ checked_line request.command c.entries c.terms.items → length line ≤ most_bytes
short_accepted request basis before after c f line says = rw says (checked_short request.command basis f.bytes c.entries c.terms.items f.few f.found.accepted)

pub told_rejected : (request : Request) (basis : List (List ℕ)) (before after : Option Text) (why : CheckFault) → basis ≡ request.basis → IsFoundOutWhole basis most_bytes before after (Err why) → (status : ℕ) (line : Text) → IsRejection why status line → IsTold request before after status line
told_rejected request basis before after why same f status line is = record {
  bytes = f.bytes;
  whole = f.whole;
  few = f.few;
  verdict = rejected_by Checked request basis f.bytes why same f.found.refused f.found.accepts status line is;
}

-- ---- why a text from a source is not accepted
pub refused_by : (basis : List (List ℕ)) (Rose : Type 0) (limit : ℕ) (before after : Option Text) (why : StreamFault) (f : CheckFault) → why ≡ stream.Check f → IsStreamAnswer basis Rose limit before after (Err why) → IsFoundOutWhole basis limit before after (Err f)
refused_by basis Rose limit before after why f e h = (subst (λ (w : StreamFault). IsStreamAnswer basis Rose limit before after (Err w)) e h).1

pub rose_of : (basis : List (List ℕ)) (Rose : Type 0) (limit : ℕ) (before after : Option Text) (why : StreamFault) → why ≡ stream.Read → IsStreamAnswer basis Rose limit before after (Err why) → Rose
rose_of basis Rose limit before after why e h = (subst (λ (w : StreamFault). IsStreamAnswer basis Rose limit before after (Err w)) e h).0

pub took_of : (basis : List (List ℕ)) (Rose : Type 0) (limit passed : ℕ) (before after : Option Text) (why : StreamFault) → why ≡ stream.TooLong passed → IsStreamAnswer basis Rose limit before after (Err why) → Took before after (limit + 1)
took_of basis Rose limit passed before after why e h = (subst (λ (w : StreamFault). IsStreamAnswer basis Rose limit before after (Err w)) e h).1
