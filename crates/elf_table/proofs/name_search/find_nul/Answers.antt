-- The first byte that is a NUL is the first NUL.
use Rattle.std.proofs.Common.{◌≡◌, ℕ, List, Option, None, Some, refl, zero-le, arith}
use Rattle.std.proofs.lemmas.Bool.Decides.{nat_tests}
use Rattle.memchr.specs.Find.{IsFirstByte, is_byte}
use Rattle.elf_model.specs.Names.{nul_in}
use Rattle.elf_model.proofs.NameLoops.{nul_in-first, nul_in-nowhere}
use Rattle.elf_table.proofs.name_search.find_nul.Goals as goal

found : (bytes : List ℕ) (place : Option ℕ) → IsFirstByte (is_byte 0) bytes place → nul_in bytes ≡ place
found bytes (Some place) h =
    nul_in-first bytes place h.0.high (let t = h.1 in grind (arith, nat_tests)) (λ i l z. h.0.before i zero-le l (rw z refl))
found bytes None h = nul_in-nowhere bytes (λ i l z. h i zero-le l (rw z refl))

pub returns-clause-first : goal.returns-clause-first
returns-clause-first c = found _ _ c.memchr.ensures
