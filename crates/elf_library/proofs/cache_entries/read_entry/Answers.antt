-- An entry lies in the file, whose length is below 2^64.
use Rattle.std.proofs.Common.{ℕ, ◌*◌, ap, arith}
use Rattle.elf_library.proofs.CacheLaws.{entry-within}
use Rattle.elf_library.proofs.cache_entries.read_entry.Goals as goal

pub overflow_mul-at : goal.overflow_mul-at
overflow_mul-at g c =
    let cache = c.args.cache.now in
    let ends = entry-within cache.entries cache.entry_size cache.count c.args.index c.requires.below c.requires.bounds.sizes in
    let product = ap (λ (n : ℕ). n * c.args.index) c.entry_size.ensures in
    omega (arith, ends, product, c.entries.ensures, c.requires.bounds.entries, c.requires.bounds.small)

pub overflow_add-at : goal.overflow_add-at
overflow_add-at g c =
    let cache = c.args.cache.now in
    let ends = entry-within cache.entries cache.entry_size cache.count c.args.index c.requires.below c.requires.bounds.sizes in
    let product = ap (λ (n : ℕ). n * c.args.index) c.entry_size.ensures in
    omega (arith, ends, product, c.entries.ensures, c.requires.bounds.entries, c.requires.bounds.small)
