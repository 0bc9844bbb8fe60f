use Rattle.std.proofs.Common.{◌≡◌, ◌∙◌, ℕ, List, Option, None, Some, is_some, ap, sym, refl, arith, zero-le}
use Rattle.std.proofs.lemmas.Bool.Decides.{nat_tests}
use Rattle.memchr.specs.Find.{IsFirstByte, is_byte}
use Rattle.elf_model.specs.Names.{nul_in}
use Rattle.elf_model.proofs.NameLoops.{nul_in-first, nul_in-nowhere}
use Rattle.elf_options.proofs.row_names.has_nul.Goals as goal

-- a search that finds a NUL shows that there is one
nul_found : (word : List ℕ) (found : Option ℕ) → IsFirstByte (is_byte 0) word found → is_some found ≡ is_some (nul_in word)
nul_found word None h = sym (ap is_some (nul_in-nowhere word (λ i l z. h i zero-le l (rw z refl))))
nul_found word (Some place) h =
    sym (ap is_some (nul_in-first word place h.0.high (let t = h.1 in grind (arith, nat_tests)) (λ i l z. h.0.before i zero-le l (rw z refl))))

pub returns : goal.returns
returns c = c.is_some.ensures ∙ nul_found c.args.bytes.now c.memchr.result c.memchr.ensures
