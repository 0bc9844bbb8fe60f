-- The walk, and its result.
use Rattle.std.proofs.Common.{◌/◌, refl, ap, arith}
use Rattle.std.proofs.lemmas.Result.{err_from_is_err_and}
use Rattle.elf_table.proofs.LedgerLaws.{CallDid-as}
use Rattle.elf_hash.specs.Prelude.{walk_bytes}
use Rattle.elf_hash.specs.declared.place.HashTableLocation.{HashTableLocation}
use Rattle.elf_model.specs.Bindings.{defines, definer_walk}
use Rattle.elf_loader.specs.Prelude.{has_number, match_bytes}
use Rattle.elf_options.specs.Wants.{query_of}
use Rattle.elf_library.proofs.DefinerLaws.{defines_unwalked, defines_walked, definer_walks}
use Rattle.elf_library.proofs.definition.definition_along.Goals as goal

pub returns-in_err-walked : goal.returns-in_err-walked
returns-in_err-walked g c =
    let p = err_from_is_err_and c.from_residual.result c.from_residual.ensures.1 in
    let wanted = query_of c.args.wanted.now in
    let same = ap (λ (p : HashTableLocation). walk_bytes 12 (p.size / 4) (p.size / 4) (match_bytes wanted)) c.requires.place in
    rw (p.1, p.2)
    (CallDid-as _ (omega (arith, same)) c.in_err-walked.ensures
    (λ file walks costs told is before table.
    let walked = walks told (defines file told.symbols wanted (has_number c.args.numbers.now)) table (record { told = told.symbols; are = is.symbols; says_so = refl }) in
    defines_unwalked wanted before (definer_walk file told wanted (has_number c.args.numbers.now)) _ (definer_walks file told wanted (has_number c.args.numbers.now) _ _ walked)))

pub returns : goal.returns
returns g c =
    let wanted = query_of c.args.wanted.now in
    let same = ap (λ (p : HashTableLocation). walk_bytes 12 (p.size / 4) (p.size / 4) (match_bytes wanted)) c.requires.place in
    let found = c.index_found.ensures in
    rw found
    (CallDid-as _ (omega (arith, same)) c.in_ok-walked.ensures
    (λ file walks costs told is before table.
    let walked = walks told (defines file told.symbols wanted (has_number c.args.numbers.now)) table (record { told = told.symbols; are = is.symbols; says_so = refl }) in
    defines_walked wanted before (definer_walk file told wanted (has_number c.args.numbers.now)) c.in_ok-walked.walked (definer_walks file told wanted (has_number c.args.numbers.now) _ _ walked)))
