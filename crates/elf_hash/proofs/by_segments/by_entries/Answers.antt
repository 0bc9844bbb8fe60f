-- The entry of the hash table decides.
use Rattle.elf_hash.specs.HashStyles.{hash_style_of}
use Rattle.elf_hash.proofs.LookupTableLaws.{entries_find, entries_none}
use Rattle.elf_table.proofs.Absent.{none-of}
use Rattle.elf_model.specs.Records.{segment_at}
use Rattle.elf_hash.proofs.SettleLaws.{refuses}
use Rattle.elf_hash.proofs.by_segments.by_entries.Goals as goal

pub returns-in_default : goal.returns-in_default
returns-in_default c =
    rw c.refused.ensures
    (refuses _ (λ budget. cc) (λ bytes views are other.
    let at = segment_at bytes c.args.segment in
    let all = c.hash_entry.ensures bytes at are in
    entries_none bytes c.args.segment at (rw (none-of c.hash_entry.result c.in_default.not-Some) at all)))

pub returns : goal.returns
returns c = record {
  held = λ bytes views are.
      let at = segment_at bytes c.args.segment in
      let all = c.hash_entry.ensures bytes at are in
      let told = rw c.in-Some.is at all in
      entries_find bytes c.args.segment at (hash_style_of c.in-Some.kind, c.in-Some.row.at) told.0 _ (c.segment_lookup_tables.ensures.held bytes views are told.1);
  within = c.segment_lookup_tables.ensures.within;
  refusal = c.segment_lookup_tables.ensures.refusal;
}
