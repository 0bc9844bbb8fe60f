-- The words of this crate, for one import elsewhere.
pub use Rattle.elf_needs.specs.Binds.{AreObjectFiles, AskedFirst, AskedOf, BindsAcross, ReturnsBinding, asked_of_all, reached}
pub use Rattle.elf_needs.specs.Bound.{AsksAll, IsBudgetShort, ReturnsItem, SameObject, bound_among, bound_lines}
pub use Rattle.elf_needs.specs.ItemLines.{WritesSoFar}
pub use Rattle.elf_needs.specs.Searching.{COLON, DOLLAR, MOST_PATH_BYTES, SearchPathText, Token, default_dirs, dir_paths, if_short, is_below, is_below_default, is_separator, library_dirs, path_in, root_before, rpath_of, search_dirs, unless_runpath}
unfoldable pub use Rattle.elf_needs.specs.Searching.{after_dir, default_for, dir_of_entry, entry_path, entry_paths, expanded, first_runpath, is_below_any, rpath_dirs, searched_paths, token_at, token_in}
pub use Rattle.elf_needs.specs.Steps.{IsMade, PutsText, dirs_in, dirs_of, left_bytes, left_entries, needer_of, needers_of, origin_of, token_of}
