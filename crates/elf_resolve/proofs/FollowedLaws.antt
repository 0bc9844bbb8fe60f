-- Results of parts, one after the other, up to the first refusal.
use Rattle.std.proofs.Common.{◌≡◌, List, [], ◌++◌, refl, ap, ◌∙◌, sym, append_assoc}
use Rattle.std.specs.Prelude.{Some, Result, Ok, Err}
use Rattle.std.proofs.lemmas.List.{append-nil}
use Rattle.elf_model.specs.LinkArchives.{refusal_of}
use Rattle.elf_model.specs.LinkSymbols.{and_then, followed}
use Rattle.elf_model.specs.declared.link_states.LinkRefusal.{LinkRefusal}
use Rattle.elf_resolve.specs.Taken.{IsLinkFault}
use Rattle.elf_resolve.specs.declared.link_faults.LinkFault.{LinkFault}
use Rattle.elf_resolve.proofs.LinkFaultLaws.{fault_of_part}

-- after nothing, after a part more, and after the last
pub followed_none : {A : Type 0} (whole : Result (List A) LinkRefusal) → whole ≡ followed [] whole
followed_none (Ok value) = refl
followed_none (Err refusal) = refl

followed-append : {A : Type 0} (rest : Result (List A) LinkRefusal) (first more : List A) → followed first (followed more rest) ≡ followed (first ++ more) rest
followed-append (Ok value) first more = ap Ok (sym (append_assoc first more value))
followed-append (Err refusal) first more = refl

pub followed_more : {A : Type 0} (whole left part rest : Result (List A) LinkRefusal) (first more : List A) → whole ≡ followed first left → left ≡ and_then part rest → part ≡ Ok more
    → whole ≡ followed (first ++ more) rest
followed_more whole left part rest first more so_far step is =
    so_far ∙ ap (followed first) (step ∙ ap (λ p. and_then p rest) is) ∙ followed-append rest first more

pub followed_all : {A : Type 0} (whole left : Result (List A) LinkRefusal) (first : List A) → whole ≡ followed first left → left ≡ Ok [] → whole ≡ Ok first
followed_all whole left first so_far none = so_far ∙ ap (followed first) none ∙ ap Ok (append-nil first)

-- A FAULT of a part is one of the whole
refusal_is : {A : Type 0} (part : Result A LinkRefusal) (refusal : LinkRefusal) → refusal_of part ≡ Some refusal → part ≡ Err refusal
refusal_is (Ok value) refusal is = absurd (cc)
refusal_is (Err other) refusal is = let same : other ≡ refusal = cc in ap Err same

pub followed_fault : {A : Type 0} (whole left part rest : Result (List A) LinkRefusal) (first : List A) (fault : LinkFault) → whole ≡ followed first left → left ≡ and_then part rest
    → IsLinkFault (refusal_of part) fault → IsLinkFault (refusal_of whole) fault
followed_fault whole left part rest first fault so_far step is =
    fault_of_part (refusal_of part) (refusal_of whole) fault
    (λ refusal e. ap refusal_of (so_far ∙ ap (followed first) (step ∙ ap (λ p. and_then p rest) (refusal_is part refusal e)))) is
