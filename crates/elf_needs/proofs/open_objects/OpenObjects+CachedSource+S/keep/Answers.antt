-- The object is opened, what its lookups have in common is read, and it is kept; or it is closed.
use Rattle.elf_needs.proofs.OpenLaws.{closed_asks, kept_asks}
use Rattle.elf_needs.proofs.open_objects.OpenObjects+CachedSource+S.keep.Goals as goal

pub returns-in-Ok : goal.returns-in-Ok
returns-in-Ok g c =
    let pages = c.with_pages-file.ensures in
    kept_asks _ pages.asked pages.counts pages.grows c.prepare_if.new.object c.in-Ok.ensures.opens c.prepare_if.ensures c.push.ensures.one

pub returns-in-Err : goal.returns-in-Err
returns-in-Err g c =
    let pages = c.with_pages-file.ensures in
    closed_asks _ pages.asked pages.counts pages.grows _ c.in-Err.ensures.opens
