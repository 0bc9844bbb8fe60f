-- What opens the definitions of a search, so that they compute on texts that are written out.
use Rattle.elf_needs.specs.Searching.{is_name_byte, token_size, token_in, token_at, expanded, parted, entries_of, dir_of_entry, after_dir, entry_path, entry_paths, rpath_dirs, first_runpath, searched_paths, default_for, is_below_any, replaced_name, paths_of_name, paths_tried}

unfoldable pub on_search : Unit {0}
unfolding is_name_byte token_size token_in token_at expanded parted entries_of dir_of_entry after_dir entry_path entry_paths rpath_dirs first_runpath searched_paths default_for is_below_any replaced_name paths_of_name paths_tried
on_search = tt
