-- How a library is linked: its flags, and that a program is refused.
use Rattle.std.proofs.Common.{◌≡◌, ℕ, ◌/◌, true, false, List, Option, None, Some, Result, Ok, Err, unwrap_or, refl, sym, ap, ◌∙◌}
use Rattle.elf_model.specs.Prelude.{LinkState, TextRoom, dynamic_segment_index, flags_1_by_segments, is_program_file, library_links, links_of, listed_value, p_filesz, p_offset, segment_at, without_sections}
use Rattle.elf_model.specs.TraitNumbers.{DT_FLAGS_1}
use Rattle.elf_model.specs.declared.causes.Cause.TheVariants.{Unsupported}
use Rattle.elf_model.specs.declared.causes.Refusal.{Refusal}
use Rattle.elf_table.specs.Prelude.{TableRange, rows}
use Rattle.elf_table.specs.declared.fault.Fault.{Fault}
use Rattle.elf_table.specs.declared.fault.Fault.TheVariants.{Refused, Source}
use Rattle.elf_library.specs.Entries.{HasFlags, SameTexts}
use Rattle.elf_library.specs.Prelude.{LinkInfoState, ReturnsLinks}
use Rattle.elf_library.specs.declared.links.LinkInfo.{LinkInfo}

-- links with the same texts are of the same state
pub links_same : (told : Result LinkState Refusal) (old new : LinkInfoState) (links other : LinkInfo) → ReturnsLinks told old new (Ok links) → SameTexts links other
    → ReturnsLinks told old new (Ok other)
links_same told old new links other (state, is, keeps) same = (
  state,
  is,
  record {
    more = keeps.more;
    texts = keeps.texts;
    needed = keeps.needed;
    needs = keeps.needs;
    are = keeps.are;
    soname = rw same.same_soname keeps.soname;
    rpath = rw same.same_rpath keeps.rpath;
    runpath = rw same.same_runpath keeps.runpath;
    room = keeps.room;
  },
)

-- and so are those of a state in other words
pub links_found : (told other : Result LinkState Refusal) (old new : LinkInfoState) (links shown : LinkInfo) → told ≡ other → ReturnsLinks told old new (Ok links) → SameTexts links shown
    → ReturnsLinks other old new (Ok shown)
links_found told other old new links shown is (state, said, keeps) same = links_same other old new links shown (state, sym is ∙ said, keeps) same

module _ (file : List ℕ) where
  -- THE FLAGS
  pub flags_none : dynamic_segment_index file ≡ None → 0 ≡ flags_1_by_segments file
  unfolding flags_1_by_segments
  flags_none none = rw (none, flags_1_by_segments) refl

  flags_in : (i : ℕ) → dynamic_segment_index file ≡ Some i
      → unwrap_or (listed_value file (p_offset file (segment_at file i)) (p_filesz file (segment_at file i) / 16) DT_FLAGS_1) 0 ≡ flags_1_by_segments file
  unfolding flags_1_by_segments
  flags_in i some = rw (some, flags_1_by_segments) refl

  pub flags_some : (i : ℕ) → dynamic_segment_index file ≡ Some i → (table : TableRange) → rows (p_offset file (segment_at file i)) (p_filesz file (segment_at file i) / 16) 16 ≡ table
      → (flags : Option ℕ) → flags ≡ listed_value file table.at table.count DT_FLAGS_1 → unwrap_or flags 0 ≡ flags_1_by_segments file
  flags_some i some table is flags found =
      ap (λ f. unwrap_or f 0) (found ∙ ap (λ (t : TableRange). listed_value file t.at t.count DT_FLAGS_1) (sym is)) ∙ flags_in i some

  -- A PROGRAM
  module _ (headers : ℕ) (room : TextRoom) where
    library_fails : (refusal : Refusal) → links_of file headers room ≡ Err refusal → library_links file headers room ≡ Err refusal
    unfolding library_links
    library_fails refusal is = rw (is, library_links) refl

    library_program : (state : LinkState) → links_of file headers room ≡ Ok state → is_program_file (without_sections file) ≡ true
        → library_links file headers room ≡ Err (record { at = 16; cause = Unsupported })
    unfolding library_links
    library_program state is program = rw (is, program, library_links) refl

    library_found : (state : LinkState) → links_of file headers room ≡ Ok state → is_program_file (without_sections file) ≡ false → library_links file headers room ≡ Ok state
    unfolding library_links
    library_found state is library = rw (is, library, library_links) refl

    pub library_stops : (old new : LinkInfoState) (fault : Fault) → ReturnsLinks (links_of file headers room) old new (Err fault) → ReturnsLinks (library_links file headers room) old new (Err fault)
    library_stops old new (Refused refusal) tells = λ other. library_fails refusal (tells other)
    library_stops old new (Source fault at) tells = tt

    pub program_stops : (old new : LinkInfoState) (links : LinkInfo) → ReturnsLinks (links_of file headers room) old new (Ok links) → HasFlags (without_sections file) (Ok links)
        → links.is_program ≡ true → ReturnsLinks (library_links file headers room) old new (Err (Refused (record { at = 16; cause = Unsupported })))
    program_stops old new links (state, is, keeps) (flags, program) true_is = λ other. library_program state is (sym program ∙ true_is)

    pub library_is : (old new : LinkInfoState) (links : LinkInfo) → ReturnsLinks (links_of file headers room) old new (Ok links) → HasFlags (without_sections file) (Ok links)
        → links.is_program ≡ false → ReturnsLinks (library_links file headers room) old new (Ok links)
    library_is old new links (state, is, keeps) (flags, program) false_is = (state, library_found state is (sym program ∙ false_is), keeps)
