-- The tables that a lookup searches, by the section headers.
use Rattle.std.proofs.Common.{◌≡◌, ℕ, List, [], None, Some, Result, Ok, Err, refl, ap, ◌∙◌}
use Rattle.elf_model.specs.Prelude.{GnuTable, HashStyle as IsHashKind, SHT_GNU_HASH, SHT_GNU_VERDEF, SHT_GNU_VERNEED, SHT_HASH, SysvTable, e_machine, first_of_type, hash_checks_from, hash_section, least_size, records_of_type, scope_by_sections, section_at, section_checks, section_lookup_tables, section_words, sh_offset, sh_size, version_checks}
use Rattle.elf_model.specs.declared.versions.VersionKind.TheVariants.{Definition, File}
use Rattle.elf_model.specs.declared.causes.Cause.TheVariants.{NoHash}
use Rattle.elf_table.specs.Prelude.{AreHashed, ChecksThenValue, StringTableRange, TableRange, strings_in}
use Rattle.elf_table.specs.declared.fault.Fault.{Fault}
use Rattle.elf_table.specs.declared.fault.Fault.TheVariants.{Refused, Source}
use Rattle.elf_hash.specs.Prelude.{AreVersions, FindsLookupTables, IsLookupTables, hash_style_of}
use Rattle.elf_hash.specs.declared.lookup_tables.LookupTables.{LookupTables}
use Rattle.elf_hash.specs.declared.versions.VersionTables.{VersionTables}
use Rattle.elf_hash.proofs.SettleLaws.{passed_both}

-- the first section with a hash table
module _ (file : List ℕ) where
  pub gnu_first : (i : ℕ) → first_of_type file SHT_GNU_HASH ≡ Some i → hash_section file ≡ Some (GnuTable, section_at file i)
  unfolding hash_section
  gnu_first i e = rw (e, hash_section) refl

  pub sysv_first : (i : ℕ) → first_of_type file SHT_GNU_HASH ≡ None → first_of_type file SHT_HASH ≡ Some i → hash_section file ≡ Some (SysvTable, section_at file i)
  unfolding hash_section
  sysv_first i none e = rw (none, e, hash_section) refl

  pub none_first : first_of_type file SHT_GNU_HASH ≡ None → first_of_type file SHT_HASH ≡ None → hash_section file ≡ None
  unfolding hash_section
  none_first none e = rw (none, e, hash_section) refl

  -- the tables that a lookup searches, by that section
  pub sections_none : hash_section file ≡ None → scope_by_sections file ≡ Err (record { at = 0x28; cause = NoHash })
  unfolding scope_by_sections
  sections_none e = rw (e, scope_by_sections) refl

  pub sections_find : (found : IsHashKind × ℕ) → hash_section file ≡ Some found → (result : Result LookupTables Fault)
      → ChecksThenValue (section_checks file found.0 found.1) (IsLookupTables file (section_lookup_tables file found.0 found.1)) result → FindsLookupTables file (scope_by_sections file) result
  unfolding scope_by_sections
  sections_find found e (Ok scope) s = (section_lookup_tables file found.0 found.1, rw (e, s.0, scope_by_sections) refl, s.1)
  sections_find found e (Err (Refused refusal)) s = λ other. rw (e, s, scope_by_sections) refl
  sections_find found e (Err (Source fault at)) s = absurd s

-- the result for a section with a hash table, once its checks pass
pub section_is : (file : List ℕ) (kind : IsHashKind) (at : ℕ) (scope : LookupTables) (found : ℕ × (TableRange × StringTableRange)) (versions : VersionTables)
    → ChecksThenValue (hash_checks_from (least_size kind) file at) (AreHashed file at) (Ok found)
    → ChecksThenValue (version_checks file at) (AreVersions file (section_words file) (records_of_type file SHT_GNU_VERDEF Definition (records_of_type file SHT_GNU_VERNEED File []))) (Ok versions)
    → scope.machine ≡ e_machine file → hash_style_of scope.hash.kind ≡ kind → scope.hash.head ≡ at → scope.hash.at ≡ sh_offset file at → scope.hash.size ≡ sh_size file at
    → scope.hash.symbols ≡ found.1.0.count → scope.symbols.index ≡ found.0 → scope.symbols.table ≡ found.1.0 → scope.symbols.names ≡ found.1.1
    → scope.symbols.words ≡ versions.words → scope.symbols.definitions ≡ versions.definitions → scope.symbols.needs ≡ versions.needs
    → ChecksThenValue (section_checks file kind at) (IsLookupTables file (section_lookup_tables file kind at)) (Ok scope)
unfolding section_lookup_tables
section_is file kind at scope found versions h v machine is_kind head place size count index table names words definitions needs = (
  passed_both (hash_checks_from (least_size kind) file at) (version_checks file at) h.0 v.0,
  record {
    machine = machine;
    kind = is_kind;
    head = head;
    place = place;
    size = size;
    count = count ∙ h.1.symbols.counted;
    symbols = record {
      index = index ∙ h.1.link;
      place = ap (λ (t : TableRange). t.at) table ∙ h.1.symbols.placed;
      names = λ some. ap (strings_in file) names ∙ ap (strings_in file) (h.1.symbols.named (rw table at some));
      names_at = λ some. ap (λ (s : StringTableRange). s.at) (names ∙ h.1.symbols.named (rw table at some));
      words = rw words v.1.words;
      records = rw (definitions, needs) v.1.records;
    };
  },
)
