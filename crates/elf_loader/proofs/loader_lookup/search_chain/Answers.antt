-- The walk, and its result.
use Rattle.std.proofs.Common.{◌/◌, refl, ap, arith}
use Rattle.std.proofs.lemmas.Result.{err_from_is_err_and}
use Rattle.elf_table.proofs.LedgerLaws.{CallDid-as, CallDid-then}
use Rattle.elf_hash.specs.Prelude.{walk_bytes}
use Rattle.elf_hash.specs.declared.place.HashTableLocation.{HashTableLocation}
use Rattle.elf_model.specs.Prelude.{answers, walk_in}
use Rattle.elf_loader.specs.Prelude.{has_number, match_bytes}
use Rattle.elf_loader.proofs.LookLaws.{looks_unwalked, looks_walked, walks_as}
use Rattle.elf_options.specs.Wants.{query_of}
use Rattle.elf_loader.proofs.loader_lookup.search_chain.Goals as goal

pub returns-in_err-walked : goal.returns-in_err-walked
returns-in_err-walked g c =
    let p = err_from_is_err_and c.from_residual.result c.from_residual.ensures.1 in
    let wanted = query_of c.args.wanted.now in
    let same = ap (λ (p : HashTableLocation). walk_bytes 12 (p.size / 4) (p.size / 4) (match_bytes wanted)) c.requires.place in
    rw (p.1, p.2)
    (CallDid-as _ (omega (arith, same)) c.in_err-walked.ensures
    (λ file walks costs told is before table first.
    let walked = walks told (answers file told.symbols wanted (has_number c.args.numbers.now)) table (record { told = told.symbols; are = is.symbols; says_so = refl }) in
    looks_unwalked file told wanted before (walk_in file told wanted (has_number c.args.numbers.now)) first c.args.name.now _ (walks_as file told wanted (has_number c.args.numbers.now) _ _ walked)))

pub returns : goal.returns
returns g c =
    let wanted = query_of c.args.wanted.now in
    let same = ap (λ (p : HashTableLocation). walk_bytes 12 (p.size / 4) (p.size / 4) (match_bytes wanted)) c.requires.place in
    CallDid-as _ (omega (arith, same)) (CallDid-then c.in_ok-walked.ensures c.answer_of.ensures)
    (λ file read costs told is before table first.
    let walked = read.0 told (answers file told.symbols wanted (has_number c.args.numbers.now)) table (record { told = told.symbols; are = is.symbols; says_so = refl }) in
    let walks = walks_as file told wanted (has_number c.args.numbers.now) _ _ walked in
    let walk = walk_in file told wanted (has_number c.args.numbers.now) in
    looks_walked file told wanted before walk first c.answer_of.new.name c.in_ok-walked.walked _ walks (read.1 told is walk before walks.gives first))
