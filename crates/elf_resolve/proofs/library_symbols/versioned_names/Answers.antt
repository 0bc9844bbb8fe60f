-- The names of the keys of a symbol by its version.
use Rattle.std.proofs.Common.{◌==◌, refl, sym, ap, subst, ◌∙◌}
use Rattle.std.specs.Prelude.{Option, Some, ◌||◌, not}
use Rattle.elf_model.specs.Loader.{is_hidden}
use Rattle.elf_model.specs.Numbers.{SHN_UNDEF}
use Rattle.elf_model.specs.Tables.{entry_at}
use Rattle.elf_model.specs.Versions.{VERSYM_SIZE, number_in}
use Rattle.elf_resolve.specs.LibraryKeys.{is_undefined_at, name_alone, version_name, version_index_at}
use Rattle.elf_resolve.specs.ObjectSymbols.{HoldsSome}
use Rattle.elf_resolve.specs.VersionTexts.{version_text}
use Rattle.elf_resolve.specs.declared.string_buffer.HeldText.{HeldText}
use Rattle.elf_resolve.proofs.LibrarySymbolLaws.{names_held, some_held, version_held, word_plain, word_versioned}
use Rattle.elf_resolve.proofs.library_symbols.versioned_names.Goals as goal

pub returns-then-has_no_version-clause-finds : goal.returns-then-has_no_version-clause-finds
returns-then-has_no_version-clause-finds c = λ file header at known name indexes held is text. (
  name_alone name,
  word_plain file known at (entry_at file header VERSYM_SIZE c.args.named.0) c.in_ok-word.word name (version_index_at file header c.args.named.0) (c.in_ok-word.ensures file header indexes)
      (sym (c.has_no_version.ensures file at is) ∙ c.if-has_no_version.true),
  record { name = text; default_name = refl },
)

pub returns-clause-finds : goal.returns-clause-finds
returns-clause-finds c = λ file header at known name indexes held is text.
    let bytes = c.args.strings.now.bytes in
    let word = c.in_ok-word.word in
    let reference = is_undefined_at file at in
    let same = ap (λ n. n == SHN_UNDEF) is.st_shndx in
    let of = c.version_of.ensures ∙ ap (version_text c.args.versions.now (number_in word)) same in
    let some = subst (λ (t : Option HeldText). HoldsSome bytes t (version_name known (number_in word) reference)) (sym of ∙ c.in-Some.is)
    (version_held file bytes (Some c.args.indexes) c.args.versions.now known (number_in word) reference held) in
    let version = some_held bytes c.in-Some.version (version_name known (number_in word) reference) some in (
      _,
      word_versioned file known at (entry_at file header VERSYM_SIZE c.args.named.0) word name (version_index_at file header c.args.named.0) (Some version.0) (c.in_ok-word.ensures file header indexes)
          (sym (c.has_no_version.ensures file at is) ∙ c.if-has_no_version.false) version.1,
      names_held c.args.strings.now c.join.new.self name version.0 c.args.named.1 c.in_ok-joined.joined c.default_name.result (not (reference || is_hidden word)) c.in_ok-joined.ensures.stays.first text
          (c.in_ok-joined.ensures.joins name version.0 text version.2) (c.default_name.ensures file at is),
    )
