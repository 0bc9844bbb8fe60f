-- Faults of a link: whose refusal they may be.
use Rattle.std.proofs.Common.{◌≡◌, ℕ, ◌+◌, ◌<◌, ◌^◌, ap, arith, inl, inr}
use Rattle.std.specs.Prelude.{Option, None, Some}
use Rattle.elf_model.specs.LinkArchives.{moved}
use Rattle.elf_model.specs.declared.link_states.LinkRefusal.{LinkRefusal}
use Rattle.elf_resolve.specs.LinkFaults.{MovesWithin}
use Rattle.elf_resolve.specs.Taken.{IsLinkFault}
use Rattle.elf_resolve.specs.declared.link_faults.LinkFault.{LinkFault}
use Rattle.elf_resolve.specs.declared.link_faults.LinkFault.TheVariants.{Refused, Read, Open, Memory}

-- A FAULT OF A PART is one of the whole, if the part's refusal is that of the whole
pub fault_of_part : (part whole : Option LinkRefusal) (fault : LinkFault) → ((refusal : LinkRefusal) → part ≡ Some refusal → whole ≡ Some refusal)
    → IsLinkFault part fault → IsLinkFault whole fault
fault_of_part part whole (Refused refusal) same (inl limit) = inl limit
fault_of_part part whole (Refused refusal) same (inr is) = inr (same refusal is)
fault_of_part part whole Read same is = tt
fault_of_part part whole Open same is = tt
fault_of_part part whole Memory same is = tt

-- one of a limit or the system alone is one whatever is known
pub fault_of_any : (known : Option LinkRefusal) (fault : LinkFault) → IsLinkFault None fault → IsLinkFault known fault
fault_of_any known fault is = fault_of_part None known fault (λ refusal e. absurd (cc)) is

-- a refusal that is moved within an archive
pub fault_moved : (known : Option LinkRefusal) (start at : ℕ) (refusal : LinkRefusal) → MovesWithin start known
    → (start + refusal.at < 2 ^ 64 → at ≡ start + refusal.at) → IsLinkFault known (Refused refusal)
    → IsLinkFault (moved start known) (Refused (record { at = at; cause = refusal.cause }))
fault_moved known start at refusal within is (inl limit) = inl limit
fault_moved (Some other) start at refusal within is (inr e) =
    let same : other ≡ refusal = cc in
    let place : other.at ≡ refusal.at = ap (λ (r : LinkRefusal). r.at) same in
    let cause : other.cause ≡ refusal.cause = ap (λ (r : LinkRefusal). r.cause) same in
    let here : at ≡ start + other.at = omega (arith, is (omega (arith, within))) in
    inr cc
fault_moved None start at refusal within is (inr e) = absurd (cc)
