-- The headers decide.
use Rattle.std.proofs.Common.{ℕ, ◌+◌, ◌*◌, ◌/◌, ◌≡◌, length, sym, ap, ◌∙◌, arith}
use Rattle.elf_model.specs.LoaderCache.{LoaderCache, aligned_to_8, if_within}
use Rattle.elf_table.proofs.LedgerLaws.{CallDid-as, CallDid-sized, CallDid-then}
use Rattle.elf_library.specs.CacheReads.{new_cache_in}
use Rattle.elf_library.proofs.CacheLaws.{loader-after, loader-old, not-some}
use Rattle.elf_library.proofs.cache_table.find_table.Goals as goal

pub returns-in-Some-3-clause-did : goal.returns-in-Some-3-clause-did
returns-in-Some-3-clause-did g c =
    let found = c.in_ok-found.ensures.did in
    let old = c.in_ok-old.ensures.did in
    let newer = c.in_ok-found-2.ensures.did in
    let first = not-some c.in_ok-found.field-0 c.in_default.not-Some in
    let before = old.costs.reads.keeps.same_size ∙ found.costs.reads.keeps.same_size in
    let place : (c.old.inside.strings + 7) / 8 * 8 ≡ aligned_to_8 c.in-Some-within.old.strings = omega (arith, ap (λ (t : LoaderCache). t.strings) c.old.view_is) in
    CallDid-as 112 (omega arith) (CallDid-sized (CallDid-then (CallDid-then found old) newer))
    (λ file told costs.
    let size : c.length-2.result ≡ length file = c.length-2.ensures.value ∙ before ∙ sym told.0 in
    let size-after : c.length-in-Some-3.result ≡ length file = c.length-in-Some-3.ensures.value ∙ newer.costs.reads.keeps.same_size ∙ before ∙ sym told.0 in
    c.within-in-Some-3.ensures ∙ ap (λ (n : ℕ). if_within n c.in-Some-3.found) size-after
    ∙ sym (loader-after file c.in-Some-2.old c.in-Some-within.old c.in-Some-3.found (first ∙ told.1.0.0) (sym c.in-Some-2.is ∙ told.1.0.1)
    (ap (λ (n : ℕ). if_within n c.in-Some-2.old) (sym size) ∙ sym c.within-2.ensures ∙ c.in-Some-within.is) (sym c.in-Some-3.is ∙ told.1.1 ∙ ap (new_cache_in file) place)))

pub returns-in-None-clause-did : goal.returns-in-None-clause-did
returns-in-None-clause-did g c =
    let found = c.in_ok-found.ensures.did in
    let old = c.in_ok-old.ensures.did in
    let first = not-some c.in_ok-found.field-0 c.in_default.not-Some in
    let before = old.costs.reads.keeps.same_size ∙ found.costs.reads.keeps.same_size in
    let place : (c.old.inside.strings + 7) / 8 * 8 ≡ aligned_to_8 c.in-Some-within.old.strings = omega (arith, ap (λ (t : LoaderCache). t.strings) c.old.view_is) in
    CallDid-as 112 (omega arith) (CallDid-sized (CallDid-then (CallDid-then found old) c.in_ok-found-2.ensures.did))
    (λ file told costs.
    let size : c.length-2.result ≡ length file = c.length-2.ensures.value ∙ before ∙ sym told.0 in
    sym (loader-old file c.in-Some-2.old c.in-Some-within.old (first ∙ told.1.0.0) (sym c.in-Some-2.is ∙ told.1.0.1)
    (ap (λ (n : ℕ). if_within n c.in-Some-2.old) (sym size) ∙ sym c.within-2.ensures ∙ c.in-Some-within.is) (sym c.in-None.is ∙ told.1.1 ∙ ap (new_cache_in file) place)))
