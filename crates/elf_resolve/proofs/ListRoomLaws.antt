-- A link of which nothing is listed, and what keeps it so.
use Rattle.std.proofs.Common.{◌≡◌, ℕ, ◌≤◌, false, List, [], ◌∷◌, ◌++◌, length, get_or, refl, sym, ap, subst, ◌∙◌, arith}
use Rattle.std.specs.Prelude.{None}
use Rattle.elf_resolve.specs.EntryRows.{AreConsecutive}
use Rattle.elf_resolve.specs.KeptLimits.{KeepsLimits}
use Rattle.elf_resolve.specs.KeyChains.{ChainTable}
use Rattle.elf_resolve.specs.KeyTables.{KeyList}
use Rattle.elf_resolve.specs.ListRooms.{HasListRoom, KeepsLists, KeepsWithin}
use Rattle.elf_resolve.specs.declared.archives.ArchiveTables.{ArchiveTables}
use Rattle.elf_resolve.specs.declared.archives.OpenedArchive.{OpenedArchive}
use Rattle.elf_resolve.specs.declared.resolver.Resolver.{Resolver}

pub lists_itself : (a : Resolver) → KeepsLists a a
lists_itself a = record { offers = refl; further = refl; spare = refl; kinds = refl; problems = refl; most_rows = refl }

pub lists_then : (a b c : Resolver) → KeepsLists a b → KeepsLists b c → KeepsLists a c
lists_then a b c first second = record {
  offers = second.offers ∙ first.offers;
  further = second.further ∙ first.further;
  spare = second.spare ∙ first.spare;
  kinds = second.kinds ∙ first.kinds;
  problems = second.problems ∙ first.problems;
  most_rows = second.most_rows ∙ first.most_rows;
}

pub lists_of : (a b c : Resolver) → b ≡ c → KeepsLists a b → KeepsLists a c
lists_of a b c same kept = subst (λ r. KeepsLists a r) same kept

pub limits_itself : (a : KeyList) → KeepsLimits a a
limits_itself a = record { most = refl; most_further = refl }

pub limits_then : (a b c : KeyList) → KeepsLimits a b → KeepsLimits b c → KeepsLimits a c
limits_then a b c first second = record { most = second.most ∙ first.most; most_further = second.most_further ∙ first.most_further }

pub limits_same : (a b : KeyList) → b ≡ a → KeepsLimits a b
limits_same a b same = record { most = ap (λ (k : KeyList). k.most) same; most_further = ap (λ (k : KeyList). k.most_further) same }

pub within_itself : (a : ArchiveTables) → KeepsWithin a a
within_itself a = record { most = refl; within = λ fits. fits }

pub within_then : (a b c : ArchiveTables) → KeepsWithin a b → KeepsWithin b c → KeepsWithin a c
within_then a b c first second = record { most = second.most ∙ first.most; within = λ fits. second.within (first.within fits) }

-- an archive more, with the entries after those that there are
pub consecutive_push : (from count : ℕ) (archives : List OpenedArchive) (archive : OpenedArchive) → AreConsecutive from archives count → archive.entries.0 ≡ count → count ≤ archive.entries.1
    → AreConsecutive from (archives ++ archive ∷ []) archive.entries.1
consecutive_push from count [] archive are start up = (start ∙ sym are, omega (arith, are, up), refl)
consecutive_push from count (a ∷ archives) archive are start up = (are.0, are.1, consecutive_push a.entries.1 count archives archive are.2 start up)

-- WHAT KEEPS IT
pub room_by : (old new : Resolver) → HasListRoom old → KeepsLists old new → KeepsLimits old.link.keys new.link.keys → KeepsWithin old.tables new.tables
    → AreConsecutive 0 new.tables.archives.items (length new.tables.entries.items) → HasListRoom new
room_by old new room lists limits within consecutive = record {
  offers = ap (λ (t : ChainTable). t.heads) lists.offers ∙ room.offers;
  further = ap (λ (t : ChainTable). t.heads) lists.further ∙ room.further;
  spare = ap (λ s. s.chains.heads) lists.spare ∙ room.spare;
  kinds = λ index. ap (λ v. get_or v.items index None) lists.kinds ∙ room.kinds index;
  problems = λ index. ap (λ v. get_or v.items index false) lists.problems ∙ room.problems index;
  marks = omega (arith, lists.most_rows, ap (λ v. length v.items) lists.problems, room.marks);
  offers_keys = omega (arith, limits.most, ap (λ (t : ChainTable). t.keys) lists.offers, room.offers_keys);
  further_keys = omega (arith, limits.most, ap (λ (t : ChainTable). t.keys) lists.further, room.further_keys);
  offers_numbers = omega (arith, within.most, ap (λ (t : ChainTable). t.numbers) lists.offers, room.offers_numbers);
  offers_end = omega (arith, ap (λ (t : ChainTable). t.numbers) lists.offers, room.offers_end);
  further_numbers = omega (arith, limits.most_further, ap (λ (t : ChainTable). t.numbers) lists.further, room.further_numbers);
  further_end = omega (arith, ap (λ (t : ChainTable). t.numbers) lists.further, room.further_end);
  within = within.within room.within;
  consecutive = consecutive;
}

pub room_still : (old new : Resolver) → HasListRoom old → KeepsLists old new → KeepsLimits old.link.keys new.link.keys → new.tables ≡ old.tables → HasListRoom new
room_still old new room lists limits tables =
    room_by old new room lists limits
    (subst (λ (t : ArchiveTables). KeepsWithin old.tables t) (sym tables) (within_itself old.tables))
    (subst (λ (t : ArchiveTables). AreConsecutive 0 t.archives.items (length t.entries.items)) (sym tables) room.consecutive)
