-- The lookup tables, then the entries.
use Rattle.std.proofs.Common.{ℕ, ◌/◌, ap, arith}
use Rattle.std.proofs.lemmas.Result.{err_from_is_err_and}
use Rattle.elf_table.proofs.LedgerLaws.{CallDid-as, CallDid-then}
use Rattle.elf_library.proofs.ReadingLaws.{links_as, loaded_is, lookup_stops}
use Rattle.elf_library.proofs.link_reader.link_info_by_segments.Goals as goal

pub returns-in_err-check_lookup : goal.returns-in_err-check_lookup
returns-in_err-check_lookup g c =
    let p = err_from_is_err_and c.from_residual.result c.from_residual.ensures.1 in
    rw (p.1, p.2)
    (CallDid-as _ (omega arith) c.in_err-check_lookup.ensures
    (λ file told costs views. (lookup_stops file c.args.links.now.held.room c.args.links.now c.args.links.now _ (told views), tt)))

pub returns : goal.returns
returns g c =
    let same = c.in_ok-check_lookup.ensures.costs.reads.keeps.same_size in
    let part = ap (λ (n : ℕ). n / 16) same in
    CallDid-as _ (omega (arith, same, part)) (CallDid-then c.in_ok-check_lookup.ensures c.entry_links.ensures)
    (λ file told costs views.
    let links = told.1 views in
    (links_as _ _ _ _ _ (loaded_is file c.args.links.now.held.room (told.0 views)) links.0, links.1))
