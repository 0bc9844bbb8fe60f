-- A member that is an ELF file is listed after the four bytes that identify it, and its listing is
-- that of a file of its own.
use Rattle.std.proofs.Common.{rules, ◌≡◌, true, false, refl, ap, ◌∙◌, arith}
use Rattle.std.proofs.lemmas.Result.{err_from_is_err_and}
use Rattle.elf_model.specs.Prelude.{bytes_in, is_elf, listing_cost, lists_members, style_ceiling}
use Rattle.elf_source.proofs.GrowthLaws.{grows_not}
use Rattle.elf_source.proofs.PutsLaws.{SinkTakes-nothing}
use Rattle.elf_source.proofs.ReadsLaws.{ReadsUpTo-none, ReadsUpTo-to}
use Rattle.elf_options.specs.Permitted.{style_of}
use Rattle.elf_archive.specs.Prelude.{IsAll, IsInBounds, extent_of, member_at}
use Rattle.elf_archive.proofs.ConsumeLaws.{ReadsAtMostIn-fault, ReadsAtMostIn-then, lies_within, still_whole}
use Rattle.elf_archive.proofs.ListingLaws.{member_listed, member_elf}
use Rattle.elf_archive.proofs.NarrowLaws.{part_consumes, part_file}
use Rattle.elf_archive.proofs.ToldLaws.{lists_part, own_part, part_unread}
use Rattle.elf_archive.proofs.parts.list_member.Goals as goal

pub returns-then-known-eq0-clause-lists : goal.returns-then-known-eq0-clause-lists
returns-then-known-eq0-clause-lists g c = record {
  slots = refl;
  grows = grows_not _;
  ceiling = (ReadsUpTo-none c.args.src.now _, tt);
  cost = λ file held. (ReadsUpTo-none c.args.src.now _, tt);
  shows = λ file held.
      let none : lists_members (style_of c.args.style) c.args.parts.0 ≡ false = search rules in
      rw none (record { takes = SinkTakes-nothing c.args.out.now; no_fault = refl });
}

pub returns-in_err-has_elf_magic-clause-lists : goal.returns-in_err-has_elf_magic-clause-lists
returns-in_err-has_elf_magic-clause-lists g c =
    let p = err_from_is_err_and c.from_residual.result c.from_residual.ensures.1 in
    let fails = c.in_err-has_elf_magic.ensures in
    record {
      slots = refl;
      grows = grows_not _;
      ceiling = rw (p.1, p.2) (ReadsAtMostIn-fault _ _ c.args.out.now _ 4 _ (omega arith) fails.asks.0 fails.asks.1);
      cost = λ file held.
          let asked : lists_members (style_of c.args.style) c.args.parts.0 ≡ true = search rules in
          let cost = member_listed file c.args.store.now.slots (style_of c.args.style) c.args.parts.0 (member_at (extent_of c.args.extent)) asked in
          rw (p.1, p.2) (ReadsAtMostIn-fault _ _ c.args.out.now _ 4 _ (omega (arith, cost)) fails.asks.0 fails.asks.1);
      shows = λ file held. rw (p.1, p.2) (part_unread _ _ _ fails.fault);
    }

pub returns-then-not-branch-clause-lists : goal.returns-then-not-branch-clause-lists
returns-then-not-branch-clause-lists g c =
    let reads = c.in_ok-has_elf_magic.ensures.asks.0 in
    let asked : lists_members (style_of c.args.style) c.args.parts.0 ≡ true = search rules in
    record {
      slots = refl;
      grows = grows_not _;
      ceiling = (ReadsUpTo-to reads (omega (arith, reads.at_most)), tt);
      cost = λ file held.
          let cost = member_listed file c.args.store.now.slots (style_of c.args.style) c.args.parts.0 (member_at (extent_of c.args.extent)) asked in
          (ReadsUpTo-to reads (omega (arith, cost, reads.at_most)), tt);
      shows = λ file held.
          let told = c.in_ok-has_elf_magic.ensures.read file held in
          let none : is_elf (bytes_in file (extent_of c.args.extent)) ≡ false = search rules in
          rw (asked, none) (record { takes = SinkTakes-nothing c.args.out.now; no_fault = refl });
    }

pub narrow-requires : goal.narrow-requires
narrow-requires g c =
    let reads = c.in_ok-has_elf_magic.ensures.asks.0 in
    let lies : IsInBounds c.has_elf_magic.new.src.seen.size (extent_of c.args.extent) = rw reads.keeps.same_size c.requires.lies in
    lies_within _ _ _ (still_whole _ _ _ c.requires.whole reads) lies

pub returns-clause-lists : goal.returns-clause-lists
returns-clause-lists g c =
    let reads = c.in_ok-has_elf_magic.ensures.asks.0 in
    let whole : IsAll c.has_elf_magic.new.src = still_whole _ _ _ c.requires.whole reads in
    let lies : IsInBounds c.has_elf_magic.new.src.seen.size (extent_of c.args.extent) = rw reads.keeps.same_size c.requires.lies in
    let asked : lists_members (style_of c.args.style) c.args.parts.0 ≡ true = search rules in
    let same = ap (λ size. style_ceiling size c.args.store.now.slots (style_of c.args.style)) c.narrow.ensures.size_is in
    record {
      slots = c.list-listed.ensures.slots;
      grows = c.list-listed.ensures.grows;
      ceiling = ReadsAtMostIn-then _ _ _ c.list-listed.new.out c.end_part.result 4 (style_ceiling c.narrow.new.self.seen.size c.args.store.now.slots (style_of c.args.style)) _ (omega (arith, same)) reads
          (part_consumes _ _ _ _ _ _ _ _ _ _ whole lies c.narrow.ensures c.list-listed.ensures.ceiling c.widen.ensures c.end_part.ensures);
      cost = λ file held.
          let now = reads.keeps.same_file ∙ held in
          let told = c.in_ok-has_elf_magic.ensures.read file held in
          let elf : is_elf (bytes_in file (extent_of c.args.extent)) ≡ true = search rules in
          let cost = member_elf file c.args.store.now.slots (style_of c.args.style) c.args.parts.0 (member_at (extent_of c.args.extent)) (extent_of c.args.extent) asked refl elf in
          let part = part_file _ _ file _ _ whole c.narrow.ensures now in
          ReadsAtMostIn-then _ _ _ c.list-listed.new.out c.end_part.result 4 (listing_cost (bytes_in file (extent_of c.args.extent)) c.args.store.now.slots (style_of c.args.style) c.args.parts.0) _ (omega (arith, cost)) reads
          (part_consumes _ _ _ _ _ _ _ _ _ _ whole lies c.narrow.ensures (c.list-listed.ensures.cost (bytes_in file (extent_of c.args.extent)) part) c.widen.ensures c.end_part.ensures);
      shows = λ file held.
          let now = reads.keeps.same_file ∙ held in
          let told = c.in_ok-has_elf_magic.ensures.read file held in
          let elf : is_elf (bytes_in file (extent_of c.args.extent)) ≡ true = search rules in
          let part = part_file _ _ file _ _ whole c.narrow.ensures now in
          rw (asked, elf) (lists_part _ _ _ _ _ _ (c.list-listed.ensures.text (bytes_in file (extent_of c.args.extent)) part) c.end_part.ensures);
    }

pub returns-clause-own : goal.returns-clause-own
returns-clause-own g c = own_part _ _ _ c.end_part.ensures
