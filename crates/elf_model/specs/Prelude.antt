-- The words of this crate, for one import elsewhere.
pub use Rattle.elf_model.specs.Answer.{Answer, IsShown, show_answer, show_answer_by, status_of}
pub use Rattle.elf_model.specs.Apply.{ApplyTarget, Fails, Put, SectionChange, StoredBytes, applies_to, before_entries, has_no_bytes, is_compressed, relocation_entries, section_headers, symbol_checks, target_of, terms_of, value_checks}
pub use Rattle.elf_model.specs.ApplyCost.{cost_of_passes, window_passes}
unfoldable pub use Rattle.elf_model.specs.ApplyCost.{apply_cost, apply_cost_by_order, apply_cost_in_order, cost_with, entries_for, entries_in, layout_names_cost, longest, lookup_cost, never_fall_from, offsets_at, offsets_never_fall}
pub use Rattle.elf_model.specs.ApplyLaws.{AllInside, AppliedKeepsLength, BytePatched, ChangesInside, EntryStoresValue, FinalBelow, IsInside, KeptAbove, LengthKept, WindowPatched}
unfoldable pub use Rattle.elf_model.specs.ApplyLaws.{byte_after, byte_with, clipped}
unfoldable pub use Rattle.elf_model.specs.Apply.{and_patches, applied, apply_checks, change_of, changes_of, entry_changes, entry_checks, held_bytes, named_value, patched, patches_of, places_from, put, section_changes, where_based}
pub use Rattle.elf_model.specs.Archive.{ARCHIVE_MAGIC, FileRange, Member, MemberWalkState, Members, NextMember, OneMember, THIN_MAGIC, archive, archive_checks, archive_length_checks, are_all, before_members, before_some, behind, bytes_in, end_items, is_decimal, is_elf, is_name_table, is_refused, line_before, lists_members, long_of, member_items, member_line, member_listing, member_named, name_field, names_behind, newline_in, padded_end, told, with_member}
pub use Rattle.elf_model.specs.ArchiveCost.{IsArchiveBudgeted, allowance, any_refused, data_ceiling, data_most, long_name_bytes}
unfoldable pub use Rattle.elf_model.specs.ArchiveCost.{archive_ceiling, archive_cost, header_cost, is_elsewhere, member_cost, members_cost}
pub use Rattle.elf_model.specs.ArchiveLaws.{ArchiveCostIsWithinCeiling, DataLieInTheFile}
unfoldable pub use Rattle.elf_model.specs.Archive.{archive_items, bsd_name, bsd_name_length, data_after, long_name, long_offset, member_data, member_name, member_prefix, member_size, members_from, members_items, members_of, name_in_data, next_member, padded_number, parse_padded_decimal, parsed_member_name, parsed_member_size, short_name, trimmed, walk_items, without_slash}
pub use Rattle.elf_model.specs.BindingLines.{binding_line, definer_fields, is_unbound}
unfoldable pub use Rattle.elf_model.specs.BindingLines.{binding_front, binding_state_name}
pub use Rattle.elf_model.specs.Bindings.{Binding, BoundTo, BoundToNone, DefinerLookup, SOUGHT_BYTES, StoppedIn, bound_in, bound_or, definer_by, is_weak, unwalked}
unfoldable pub use Rattle.elf_model.specs.Bindings.{bound_from, definer_walk, defines, definition_cost, definition_in, definition_lookup, is_reference, reference_at, reference_by_index, reference_version, symbols_hashed, whole_name}
pub use Rattle.elf_model.specs.BoundSymbols.{BoundItem, BoundObjects, Faulty, Told, any_unbound, before_items, bound_items, bound_text, file_or, is_definition, is_failed, is_none_of, item_line}
unfoldable pub use Rattle.elf_model.specs.BoundSymbols.{bound_item, counted_items, definitions_among, file_before, file_of_version, items_from, lacks_among, lacks_version, object_items, objects_items}
pub use Rattle.elf_model.specs.Budget.{IsBudgetRefusal, IsBudgeted, IsCut, IsReport}
pub use Rattle.elf_model.specs.Bytes.{IsBytes, slice}
unfoldable pub use Rattle.elf_model.specs.Bytes.{field, little, number}
pub use Rattle.elf_model.specs.BytesQuery.{BytesQuery, OfName, OfSection, OfSegment, bytes_answer, bytes_status, bytes_text, compared_bytes, headers_cost, is_of_segment, queried_file, range_by_section, range_by_segment, range_if_passed, range_size, section_bytes_checks, segment_bytes_checks}
unfoldable pub use Rattle.elf_model.specs.BytesQuery.{bytes_ceiling, bytes_cost, first_section_named, queried_range, range_in, range_of_name, range_of_section, range_of_segment, section_named_from}
unfoldable pub use Rattle.elf_model.specs.Causes.{cause_meaning, cause_word}
pub use Rattle.elf_model.specs.Chains.{Answers, ChainResult, HashTable, Last, NotThere, Untried, WalkEnd, end_of_match, nothing_tried, refused_walk}
pub use Rattle.elf_model.specs.Checking.{IsStateOf, cause_width, check_line, fault_fields, is_not_elf, state_of}
unfoldable pub use Rattle.elf_model.specs.Checking.{check_front, file_status_name, unnamed_line}
pub use Rattle.elf_model.specs.Checks.{Check, HeaderCounts, before_headers, counts_in, early_checks, early_checks_of, first_refusal, has_section_names, header_checks, ident_checks, is_outside, is_section_outside, is_symbol_table, length_checks, load_checks, pass, range_checks, range_checks_of, refuse, section_name_checks, strings_checks, table_checks, table_checks_of, unless_empty, whole_checks_of}
pub use Rattle.elf_model.specs.Choice.{EveryRow, NoSuffix, RowFilter, RowsOf, Suffix, Suffixed, chooses, is_named, is_whole, suits, wanted_text}
pub use Rattle.elf_model.specs.ChoiceLaws.{CutNamesAreNone, NamesAloneAreChosen, NamesAreChosen, NamesFitEveryVersion, OrderChoosesNothing, VersionsAreChosen, has_sign, has_sign_first, has_version}
unfoldable pub use Rattle.elf_model.specs.Choice.{most_bytes}
pub use Rattle.elf_model.specs.Cost.{after_header, cost, cost_where, has_located, lies_in_segments, located_most, located_count, locates_tables, needs_segments, suffixes_most, table_most}
pub use Rattle.elf_model.specs.CostLaws.{AnyRowsAreWithinCeiling, AnySegmentsAreWithinCeiling, CostIsWithinCeiling, LastCostIsAdded, PlacesDecideNothing, RowsCostWhatTheFileCosts, SegmentsCostWhatTheFileCosts, SumsGrow, TablesCostKindByKind}
unfoldable pub use Rattle.elf_model.specs.CostLaws.{kind_by_kind}
unfoldable pub use Rattle.elf_model.specs.Cost.{ceiling, is_loadable, kinds_cost, listing_cost, located_cost, sections_cost, segments_cost, style_ceiling, sum_over, table_cost, tables_ceiling, tables_cost}
pub use Rattle.elf_model.specs.Dynamic.{CountedIsListed, IsFirstValue, IsListed, ListedIsCounted, NoValueHasNoTag, ValueIsFirst, dynamic_at, listed_value}
unfoldable pub use Rattle.elf_model.specs.Dynamic.{dynamic_count, dynamic_value}
pub use Rattle.elf_model.specs.DynamicRelocations.{LocatedSymbols, LocatedTable, TableTags, form_by, form_if, form_size, tags_of}
unfoldable pub use Rattle.elf_model.specs.DynamicRelocations.{entries_rows, form_rows, located_row, located_rows, located_symbols, located_table, named_among, relocation_table_rows, segment_relocations, symbols_by, symbols_mapped, table_by, table_mapped, table_of_rows}
unfoldable pub use Rattle.elf_model.specs.DynamicTables.{dynamic_tables, first_segment_tables, segment_tables}
pub use Rattle.elf_model.specs.Explain.{ITEM_NAME_SIZE, MissingEntry, lack_with}
pub use Rattle.elf_model.specs.ExplainLine.{explanation, item_text, where_named}
unfoldable pub use Rattle.elf_model.specs.ExplainLine.{entry_item_text, entry_text, help_text, items_text, missing_line, place_text, type_prefix}
unfoldable pub use Rattle.elf_model.specs.Explain.{explained, has_entry, lack_of, missing, missing_for_type, missing_ifunc_entry, missing_of, missing_place, name_wanted, refused_in, relocates_at, resolved_symbol_name, symbol_place, wanted}
pub use Rattle.elf_model.specs.FaultRows.{entry_number, fault_row, is_in_section, is_in_segment, listed_range, row_index, section_entry_size, segment_entry_size, table_segments}
unfoldable pub use Rattle.elf_model.specs.FaultRows.{row_among, row_in_segments, row_in_tables}
pub use Rattle.elf_model.specs.Fields.{ADDEND_WIDTH, CAUSE_WIDTH, Field, Fields, LinePrefix, cell, closed_line, front, name_or_value, sign_of, with_fields}
pub use Rattle.elf_model.specs.Fields.Field.{ArgSpec, Decimal, Hexadecimal, IndexField, NameOrDecimal, NameOrHexadecimal, NameOrNumber, NoAddend}
unfoldable pub use Rattle.elf_model.specs.Fields.{begun, closing, member_key, quoted, signed_text, string_byte, string_text, with_field}
pub use Rattle.elf_model.specs.FileLists.{front_size, headed, list_status, may_read_bytes, member_fault, members_alone, path_line, placed_after}
unfoldable pub use Rattle.elf_model.specs.FileLists.{archive_fault, file_magic, first_fault, path_front}
pub use Rattle.elf_model.specs.Find.{has_64_bit_words, hash_checks_from}
pub use Rattle.elf_model.specs.FindApplyAnswer.{IsAnswered, applied_status, applied_text, apply_answer, find_answer, lookup_status, lookup_text}
unfoldable pub use Rattle.elf_model.specs.Find.{find_cost, first_hash, first_that, hash_checks, looked, looked_in, shape_checks}
unfoldable pub use Rattle.elf_model.specs.FixturesApply.{defined_layout, empty_layout, entry_layout, falling_relocations, full_layout, linked_to_zero, one_call, overlapping_in_other_order, overlapping_relocations, placed_layout, relocated, relocation, rising_relocations, special_layout, table_layout, third_overflows, two_relocation_sections, unplaced_layout, with_entries_header, with_symbol}
unfoldable pub use Rattle.elf_model.specs.FixturesArchive.{archive_of, library, long_names, member, member_header, padded_to}
unfoldable pub use Rattle.elf_model.specs.FixturesHash.{hash_file, hash_with_cycle, hash_with_end, with_hash_header, with_strings_header, with_symbols_header, words}
unfoldable pub use Rattle.elf_model.specs.FixturesSegments.{library_strings, library_without_sections, loaded, loaded_at, needed_with, object, object_with}
unfoldable pub use Rattle.elf_model.specs.FixturesTables.{aligned_note, build_note, linked_to_first, named_section, needed_library, note_segment, numbers_from, odd_name, one_load, one_segment, one_table, plain_note, program_header, repeated_tags, special_places, tables_over_headers, tagged}
unfoldable pub use Rattle.elf_model.specs.FixturesVersions.{defined_name, definition, halfwords, hostile_library, library_header, loaded_section, needed_file, needed_version, symbols_with_versions, versioned_body, versioned_dynamic, versioned_hash, versioned_library, versioned_records, versioned_sections, versioned_segments, versioned_strings, versioned_without_sections}
unfoldable pub use Rattle.elf_model.specs.Fixtures.{bare_header, file_header, one_symbol_table, section_header, symbol, with_bytes, zeros}
pub use Rattle.elf_model.specs.GnuHash.{EndsInChain, IsGnuLookup, before_chains, chain_word, end_of_chain, gnu_bucket_at, gnu_chain_at, gnu_first, gnu_hash_byte, gnu_nbloom, gnu_nbucket, gnu_shift, gnu_start, gnu_symbol, gnu_walked_by, hash_bits_match, holds_none, in_chains, is_chain_end, is_chained, is_set}
pub use Rattle.elf_model.specs.GnuHashLaws.{GnuAbsentMeansNone, GnuFoundAnswers, GnuFoundIsFirst, GnuLookupAnswers, GnuLookupIsBounded, GnuLookupIsOne, IsFound, IsHeld, IsWithinTable}
unfoldable pub use Rattle.elf_model.specs.GnuHash.{filter_may_contain, gnu_bucket_of, gnu_end, gnu_hash, gnu_looked_up, gnu_tried, gnu_walk_end, gnu_walked_at, gnu_word_at}
pub use Rattle.elf_model.specs.Hash.{Absent, ChainEnd, Found, IsEndless, IsFirst, IsLookup, Lookup, LookupEnd, Nameless, NoIndex, Outcome, Wanted, chain_at, cycle, end_of_name, hash_byte, is_index, lookup_by, lookup_word, nchain, next_in_chain, refused_after, symbol_at, symbol_count, sysv_chain_at, sysv_nbucket, sysv_nchain}
pub use Rattle.elf_model.specs.HashLaws.{ComparedWithinChains, CycleExactly, CycleIsEndless, GoesOn, IsBounded, LongWalkNeverEnds, LongWalkRepeats, LookupAnswers, LookupIsBounded, LookupIsOne, RepeatNeverEnds, Repeats}
unfoldable pub use Rattle.elf_model.specs.Hash.{bucket_of, end_among, end_at_word, looked_up, lookup_at, lookup_end, same_symbol, sysv_hash, walk_word, word_at}
unfoldable pub use Rattle.elf_model.specs.HashedSymbols.{counted_rows, hashed_symbol_row, hashed_symbol_rows, rows_by_hash, segment_symbol_rows}
pub use Rattle.elf_model.specs.HeaderTables.{HeaderTable, TableKind, file_sections, file_segments, first_typed, header_field, held_headers}
pub use Rattle.elf_model.specs.Interpreters.{interpreter_line}
unfoldable pub use Rattle.elf_model.specs.Interpreters.{interpreter_at, interpreter_by_segments, interpreter_front, interpreter_of, interpreter_state, is_interpreter, loaded_interpreter}
pub use Rattle.elf_model.specs.LibraryFiles.{Accepted, DF_1_NODEFLIB, LibraryFile, RefusedAt, Skipped, library_front_checks, has_other_abi, is_for_machine, library_checks}
unfoldable pub use Rattle.elf_model.specs.LibraryFiles.{flags_1_by_segments, is_program_file, library_file, library_links}
unfoldable pub use Rattle.elf_model.specs.LineFronts.{dynamic_prefix, note_prefix, relocation_prefix, relr_prefix, section_prefix, symbol_prefix}
pub use Rattle.elf_model.specs.FlagWords.{separator, value_text}
unfoldable pub use Rattle.elf_model.specs.FlagWords.{dynamic_flags, dynamic_flags_1, flag_words, flags_text, words_from}
pub use Rattle.elf_model.specs.NoteLines.{GNU_PROPERTY_X86_ISA_1_NEEDED, NT_GNU_ABI_TAG, NT_GNU_GOLD_VERSION, SHOWN_DESCRIPTOR, abi_version, descriptor_mark, descriptor_text, is_note_name, note_line, property_words}
unfoldable pub use Rattle.elf_model.specs.NoteLines.{abi_systems, abi_tag, core_types, descriptor_cell, descriptor_digits, gnu_content, line_described, linux_core_types, note_content, properties_text, property_text, with_properties, x86_features, x86_levels}
pub use Rattle.elf_model.specs.Lines.{cut_mark, name_member, named_line, refusal_line}
pub use Rattle.elf_model.specs.LineFronts.{names_of_types, type_width}
unfoldable pub use Rattle.elf_model.specs.RelocationNames.{aarch64_relocation_types, psabi_relocation_types, riscv_relocation_types, x86_64_relocation_types}
pub use Rattle.elf_model.specs.TableTexts.{TableIsInPieces, before_line, names_line, place_after, table_start, table_text}
unfoldable pub use Rattle.elf_model.specs.TableTexts.{byte_in_table, headings, state_after, state_at_end, table_from}
unfoldable pub use Rattle.elf_model.specs.Lines.{entry_words, fault_row_text, told_line}
unfoldable pub use Rattle.elf_model.specs.Lines.{escaped, header_line, hex_bytes, line_named, name_byte_text, name_text, refusal_line_in, segment_line, steps_line}
pub use Rattle.elf_model.specs.Links.{LINK_TEXT_BYTES, LinkState, NeededName, TextRoom, first_text, has_room, is_link, no_link_info, room_after}
unfoldable pub use Rattle.elf_model.specs.Links.{link_text, linked_by, linked_from, linked_in, linked_with, links_by_segments, links_ceiling, links_of, loaded_links, lookup_refusal, machine_in}
pub use Rattle.elf_model.specs.Listing.{ALL, DYNAMIC, Fault, GNU_ALL, HEADER, Line, ListingItem, NOTES, RELOCS, SECTIONS, SEGMENTS, SYMBOLS, VERSIONS, all_parts, end_by, end_text, fault_of, guarded, has, has_tables, header_row, known_parts, lines_of, placed_line, report_by, report_of, where_asked}
pub use Rattle.elf_model.specs.ListingLaws.{HeaderAloneIsListed, HeaderFaultIsListedAlone, LastRowIsLast, ListingsAppend, LoadFaultIsListedSecond, NothingAfterTheFault, OtherBitsMeanNothing, RowsSplit}
unfoldable pub use Rattle.elf_model.specs.Listing.{each, file_header_items}
pub use Rattle.elf_model.specs.Loader.{AT_SIGN, CompareResult, DefaultVersion, DynamicSymbols, Meets, Misses, NoVersion, NumberNameSource, Refuses, SymbolQuery, Version, VersionQuery, VersionRecordRead, VersionRecordTable, VersymTable, asked_after, asked_name, compared_until, end_reading, has_record, is_among, is_hidden, one_later, one_more, symbol_offset, versym_at, with_number}
pub use Rattle.elf_model.specs.LoaderAnswer.{loader_answer, loader_text}
unfoldable pub use Rattle.elf_model.specs.LoaderAnswer.{found_version_line, loader_answer_for}
unfoldable pub use Rattle.elf_model.specs.LoaderCache.{after_old_cache, bisected, cache_name_order, cache_text, cached_path, first_path, first_same, is_new_header, is_old_header, key_order, loader_cache, name_ranks, path_in_cache, path_of_entry, rank_order}
pub use Rattle.elf_model.specs.LoaderFind.{FoundVersion, LoaderLookup, TOLD_BYTES, found_lookup, record_cost, refused_lookup}
unfoldable pub use Rattle.elf_model.specs.LoaderFind.{counts_check, found_in, loaded_in, loader_ceiling, loader_cost, loader_looked, looked_by, lookup_asks, named_by_record, segments_asked, version_indices, walk_in}
pub use Rattle.elf_model.specs.LoaderLaws.{ComparedNumbersAreRecords, ComparingEndsAtTheFirst, EndsReadings, FirstEntriesAreAlike, IsComparable, IsRefusedAt, IsTaken, LoaderCostIsWithinCeiling, LoaderFoundIsTaken, NumbersAreNamedAlike, ReadingsAreRecords, StandsAtItsEnd, WalksStandAtRecords, WalksStandAtTheirEnd, names_wanted, numbers_under, records_in, records_read}
pub use Rattle.elf_model.specs.LoaderScope.{GnuTable, HashStyle, LookupTables, SysvTable, checks_of_row, checks_of_section, checks_of_type, has_bytes, has_wide_kind, least_size, records_of_tag, records_of_type, records_with, rest_place, section_checks}
unfoldable pub use Rattle.elf_model.specs.LoaderScope.{dynamic_segment_index, hash_row, hash_section, lookup_tables_by_segments, lookup_tables_of, rest_checks, rest_size, rows_checks, scope_by_sections, scope_in_segment, scope_in_segments, section_lookup_tables, section_words, segment_checks, segment_lookup_tables, segment_strings, segment_strings_at, segment_symbols, segment_words, tagged_row, version_checks, words_row, words_section}
unfoldable pub use Rattle.elf_model.specs.Loader.{answers, compared_with, fits, is_complete, is_exported, meetings, naming_of, parse_query, position_after, readings, readings_of, version_fits}
pub use Rattle.elf_model.specs.Mapped.{is_mapped_by, mapped_at, mapped_bytes, mapped_checks, mapped_offset, mapped_place}
unfoldable pub use Rattle.elf_model.specs.Mapped.{mapped_from, mapped_strings, strings_at}
pub use Rattle.elf_model.specs.NameLaws.{Differ, IsNameOutside, IsWanted, OneNameAtMost, PadsToPieces, SameCauses, SameExactly, SameNotExactly, SameOutsideExactly, SameUnendedExactly, ShownCauses, ShownCutExactly, ShownOutsideExactly, ShownUnendedExactly, ShownWholeExactly}
pub use Rattle.elf_model.specs.NameTables.{flags_with_letters, name_or_number, names_where, relocation_names}
unfoldable pub use Rattle.elf_model.specs.NameTables.{bindings, dynamic_tag_text, dynamic_tags, file_type_text, file_types, flags_column, further_relocation_types, further_section_flags, further_section_types, gnu_bindings, gnu_dynamic_tags, gnu_section_flags, gnu_section_types, gnu_segment_types, gnu_symbol_types, letter_or_dash, letters_and_mark, letters_of, number_sign, places, processor_section_flags, relocation_type_text, relocation_types, section_flags, section_flags_text, section_type_text, section_types, segment_flags_text, segment_type_text, segment_types, standard_bindings, standard_dynamic_tags, standard_places, standard_relocation_types, standard_section_flags, standard_section_types, standard_segment_types, standard_symbol_types, symbol_types, visibilities, x86_64_places, x86_64_section_flags, x86_64_section_types}
pub use Rattle.elf_model.specs.Names.{DisplayedName, IsEmptyAtZero, IsNameBytesAt, IsNameOf, IsNulTerminatedAt, is_empty_at_zero, name_bytes, nul_in, pad64, shown_of}
pub use Rattle.elf_model.specs.Names.DisplayedName.{Cut}
unfoldable pub use Rattle.elf_model.specs.Names.{begins, same, shown}
pub use Rattle.elf_model.specs.NeededVersions.{RecordsRefused, NeedRefused, InterpreterAlone, VersionAbsent, NeededVersion, NeededVersionRead, Needs, NoProvider, ProvidedBy, Provider, VersionItem, VersionedObjects, any_lacking, file_of_index, index_of_provider, item_by_state, needed_version_fields, needed_version_line, provider_field, state_by_records, version_item_line, version_items, version_items_text, versions_needed}
unfoldable pub use Rattle.elf_model.specs.NeededVersions.{define_version, needed_version_front, needed_versions, version_records_at, state_by_segments, state_in_file, state_of_needed, version_item, version_items_from, version_items_of, version_state_name, versions_needed_at, versions_needed_by_segments}
pub use Rattle.elf_model.specs.NoteLaws.{BeforeNulExactly, CutIsWalked, FitsOrIsCut, FittingIsWalked, IsAligned, IsNoteInTable, NoteShownCutExactly, NoteShownWholeExactly, OneListAtMost, RowsAligned, RowsStand, WalkedFits, WalkedIsCut}
pub use Rattle.elf_model.specs.Notes.{AllPadded, CutAt, EndsInSpelling, EndsInZeros, IsNoteEncoding, NextNote, Note, NoteRow, NoteScan, Notes, OneNote, Padded, alignment_gap, are_zeros, before_nul, bytes_to_alignment, capped, descriptor_start, escaped_size, first_end, first_note, note_align, padded_size, with_note}
unfoldable pub use Rattle.elf_model.specs.Notes.{next_note, note_rows, note_shown, walk_from, walked}
pub use Rattle.elf_model.specs.Numbers.{DT_GNU_HASH, DT_HASH, DT_JMPREL, DT_NULL, DT_PLTREL, DT_PLTRELSZ, DT_REL, DT_RELA, DT_RELAENT, DT_RELASZ, DT_RELENT, DT_RELR, DT_RELRENT, DT_RELRSZ, DT_RELSZ, DT_RPATH, DT_RUNPATH, DT_SONAME, DT_STRSZ, DT_STRTAB, DT_SYMTAB, DT_VERDEF, DT_VERNEED, DT_VERSYM, EM_X86_64, ET_REL, PT_DYNAMIC, PT_NOTE, R_X86_64_COPY, R_X86_64_NONE, SHN_ABS, SHN_COMMON, SHN_LORESERVE, SHN_UNDEF, SHT_DYNAMIC, SHT_DYNSYM, SHT_GNU_HASH, SHT_GNU_VERDEF, SHT_GNU_VERNEED, SHT_GNU_VERSYM, SHT_HASH, SHT_NOTE, SHT_REL, SHT_RELA, SHT_RELR, SHT_STRTAB, STB_GLOBAL, STB_GNU_UNIQUE, STB_WEAK, STT_COMMON, STT_FUNC, STT_GNU_IFUNC, STT_NOTYPE, STT_OBJECT, STT_TLS, STV_DEFAULT, STV_PROTECTED}
pub use Rattle.elf_model.specs.OverlapLaws.{NoPageIsShared, OverlapIsListedElsewhere, OverlapIsListedSecond}
pub use Rattle.elf_model.specs.Overlaps.{first_page, page_behind, takes_memory}
unfoldable pub use Rattle.elf_model.specs.Overlaps.{loads_from, overlap_checks, overlaps_from}
pub use Rattle.elf_model.specs.Pieces.{onto_first}
unfoldable pub use Rattle.elf_model.specs.Pieces.{pieces_at}
pub use Rattle.elf_model.specs.Overflow.{OverflowEntry, overflow_with, value_by, value_outside, value_there}
unfoldable pub use Rattle.elf_model.specs.Overflow.{base_there, entry_symbol_name, overflow_in, overflowed, place_there, value_unfit}
pub use Rattle.elf_model.specs.OverflowLine.{overflow_text}
unfoldable pub use Rattle.elf_model.specs.OverflowLine.{is_overflow, numbered_symbol, overflow_line, truncated_text, unfit_text, whole_type_text, why_refused}
pub use Rattle.elf_model.specs.PlaceFilters.{every_place, is_placed, nowhere, range_has, range_if, shows_place}
pub use Rattle.elf_model.specs.Placing.{Compared, Layout, NameSearch, Searched, named_or, no_items, placed_at, undefined_value}
unfoldable pub use Rattle.elf_model.specs.Placing.{address_in, address_named, base_value, entry_value, has_base, is_system_specific, place_value, plt_entry_value, section_symbol_value, symbol_value, system_value, unnamed_value}
pub use Rattle.elf_model.specs.Properties.{GNU_PROPERTY_X86_FEATURE_1_AND, NT_GNU_PROPERTY_TYPE_0, ListEnds, NoProperty, OneProperty, PROPERTY_HEAD_SIZE, Property, PropertyList, PropertyWalk, bare_property, is_gnu_name, is_property_note, padded_property, pr_datasz, pr_type, property_word, with_property}
unfoldable pub use Rattle.elf_model.specs.Properties.{features_in, first_listing, first_property, listed_from, listed_in, next_property, properties_from, properties_in, property_list}
pub use Rattle.elf_model.specs.RecordLaws.{FieldsOfSlices, LinesOfSlices}
pub use Rattle.elf_model.specs.Records.{ELF_MAGIC_SIZE, FILE_HEADER_SIZE, PROGRAM_HEADER_SIZE, SECTION_HEADER_SIZE, d_tag, d_un, e_entry, e_flags, e_machine, e_phentsize, e_phnum, e_phoff, e_shentsize, e_shnum, e_shoff, e_shstrndx, e_type, has_elf_magic, n_descsz, n_namesz, n_type, p_align, p_filesz, p_flags, p_memsz, p_offset, p_paddr, p_type, p_vaddr, r_addend, r_info, r_offset, r_sym, r_type, relr_word, section_at, segment_at, sh_addr, sh_addralign, sh_entsize, sh_flags, sh_info, sh_link, sh_name, sh_offset, sh_size, sh_type, st_info, st_name, st_other, st_shndx, st_size, st_type, st_value, twos_complement, vd_aux, versym, vn_aux, vn_file, vn_next, vna_name}
pub use Rattle.elf_model.specs.Report.{items, report, report_fault, listing_refusal_line, listing_report}
unfoldable pub use Rattle.elf_model.specs.Report.{kinds_rows, listing, load_items, loaded_items, located_items, table_items, table_rows, view_checks, listing_fault_row}
pub use Rattle.elf_model.specs.RelativeRelocations.{LAST_ADDRESS, RELR_BITS, base_after, is_bitmap, relr_rows_at}
unfoldable pub use Rattle.elf_model.specs.RelativeRelocations.{bit_row, bitmap_base, relr_row, relr_rows, word_rows}
pub use Rattle.elf_model.specs.RowPlaces.{is_address, is_in_memory_type, place_of_dynamic, place_of_header, place_of_record, place_of_relocation, place_of_relr, place_of_section, place_of_segment, place_of_symbol}
pub use Rattle.elf_model.specs.Rows.{chosen_row, class_choice, entry_row, is_string_tag, named_row, no_name, placed_choice, refused_row, relocation_choice, symbol_choice, value_name}
unfoldable pub use Rattle.elf_model.specs.Rows.{dynamic_row, note_row, notes_rows, relocation_row, section_name, section_row, segment_row, symbol_named, symbol_row, walk_rows}
pub use Rattle.elf_model.specs.Searches.{NulFound}
pub use Rattle.elf_model.specs.ShownNames.{shown_as}
pub use Rattle.elf_model.specs.Style.{ListingStyle, follows_dynamic, looked_at, standard, viewed, without_sections}
pub use Rattle.elf_model.specs.StyleLaws.{ViewIsAsLong, ViewIsCheckedAlike, ViewIsItsOwnView, ViewIsSeenInSlices, ViewIsTheFileAfterTheHeader, ViewIsTheFileElsewhere, ViewTellsOfNone}
unfoldable pub use Rattle.elf_model.specs.Style.{tells_of_sections, without_sections_from}
pub use Rattle.elf_model.specs.SuffixLaws.{SuffixesAreWithinMost, UndefinedHaveNoDefault, UnversionedEntriesArePlain, UnversionedSymbolsArePlain}
pub use Rattle.elf_model.specs.Suffixes.{after_refusal, first_numbers, is_default, or_refusal, suffix_of, suffixed_line, suffixed_row, version_numbers_of, version_sign}
unfoldable pub use Rattle.elf_model.specs.Suffixes.{line_suffixed, relocation_row_with_version, suffix_at, suffix_members, suffix_text, suffixed_relocation_rows, suffixed_symbol_rows, suffixes_refusal, symbol_row_with_version, symbol_suffix, version_member, walk_refusal, word_suffix}
pub use Rattle.elf_model.specs.SymbolFilterLaws.{EveryPlaceIsShown, EverySymbolIsShown, NarrowedChooses, SelectionsHideNoFault}
pub use Rattle.elf_model.specs.SymbolFilters.{every_symbol, is_narrow, narrowed, shows_symbol}
pub use Rattle.elf_model.specs.SysvWalk.{EndsAtWord, IsSysvWalk, fault_at, has_name, is_sysv_index, lookup_answer, parse_lookup, section_table_of, sysv_cycle, sysv_walked_by, sysv_word}
pub use Rattle.elf_model.specs.SysvWalkLaws.{SysvFoundAnswers, SysvWalkAnswers, SysvWalkIsBounded, SysvWalkIsLookup, SysvWalkIsOne}
unfoldable pub use Rattle.elf_model.specs.SysvWalk.{sysv_bucket_of, sysv_end, sysv_walk_end, sysv_walked, sysv_walked_at, sysv_word_at}
pub use Rattle.elf_model.specs.TableKinds.{TableHeaders, by_sections, by_segments, either_kind, entries_kind, relocation_type, section_kinds, segment_kinds}
unfoldable pub use Rattle.elf_model.specs.TableKinds.{gnu_relocations, relative_relocations, relocations, relocations_with_versions, section_dynamic, section_notes, segment_dynamic, segment_notes, suffixed_symbols, suffixes_cost, symbols, table_headers}
pub use Rattle.elf_model.specs.Tables.{DYNAMIC_SIZE, RELA_SIZE, RELR_SIZE, REL_SIZE, SYMBOL_SIZE, all_checks, dynamic_table_checks, entries_table, entry_at, entry_count, has_symbols, linked_at, linked_table_checks, relocation_size, relocation_table_checks, relr_table, segment_dynamic_checks, strings_of, symbol_checks_of, symbol_table, symbol_table_checks}
pub use Rattle.elf_model.specs.Text.{newline, space, spaces}
unfoldable pub use Rattle.elf_model.specs.Text.{digit, hex, left_in, name_of, right_decimal, right_in, short_hex, without_zeros}
unfoldable pub use Rattle.elf_model.specs.TraitCost.{hash_words_asked, properties_asked, sections_asked, segment_traits_cost, stack_asked, symbols_asked, trait_entries_asked, traits_ceiling, traits_cost}
pub use Rattle.elf_model.specs.TraitCost.{named_section_bytes, segment_traits_ceiling}
pub use Rattle.elf_model.specs.TraitNumbers.{SHF_EXECINSTR, DT_BIND_NOW, DT_FLAGS, DT_FLAGS_1, DT_TEXTREL, has_bits, is_linked_type}
pub use Rattle.elf_model.specs.TraitWords.{Required, alternatives, either_word, has_word, lacking_status, lacking_text, segments_word, trait_line}
unfoldable pub use Rattle.elf_model.specs.TraitWords.{canary_word, cet_word, column_name, column_word, file_kind_name, fortify_word, is_program, lacking, lacking_columns, lacking_line, lacking_lines, pages_word, path_word, relro_text, relro_word, stack_word, text_word, trait_front, traits_status, traits_text}
pub use Rattle.elf_model.specs.Traits.{STACK_SECTION, SymbolTraitFlags, TRAIT_NAME_BYTES, has_none, is_last_in, is_stack_section, is_that_name, is_writable_code, linked_stack, marked_by, marked_with_symbol, no_symbol_traits, segment_of, with_stack}
unfoldable pub use Rattle.elf_model.specs.Traits.{before_strings, binds_now, dynamic_entry_value, find_symbol_traits, gnu_symbols, has_text_relocations, has_wx_load, hashed_symbol_count, is_any_of, is_fortify_call, is_relocatable, is_stack_executable, kind_of_shared, known_symbols, loaded_stack, loaded_traits, marks_from, max_bucket, path_of, program_kind, relro_of, segment_traits, stack_by_sections, stack_by_segments, stack_section, traits_by_segments, traits_of, traits_with, traits_with_stack, unfound, x86_feature_word}
pub use Rattle.elf_model.specs.ValueLaws.{AddendIsItsBits, DifferenceWraps, SignedFits, SumWraps, sign_extended}
pub use Rattle.elf_model.specs.Values.{FormulaTerms, base_address, is_signed, is_unsigned, low_bytes, overflows, takes_place, value_of}
unfoldable pub use Rattle.elf_model.specs.Values.{fits_in_range, kind_in, kind_of, kinds, modulo_2_64, patch_of, value, whole}
pub use Rattle.elf_model.specs.VersionCost.{has_strings, has_symbol_table, is_inside, links, versioned_rows}
unfoldable pub use Rattle.elf_model.specs.VersionCost.{versioned_cost, walk_cost, walks_cost}
pub use Rattle.elf_model.specs.VersionLaws.{CheckedRowsAreCounted, FirstListNamesFirst, NamedIsFirst, NamesOfNumbersAreShown, NumbersAreSmall, RecordIsRefused, RecordIsVisited, RecordsAreBounded, RecordsStand, RowsAreSymbols, StandsInTable, UnnamedHasNone, records_rows}
pub use Rattle.elf_model.specs.VersionRows.{end_rows, first_of_type, first_strings, first_versions, section_versions, place_of_version, symbols_checks, version_records, version_table, versioned_count, versioned_symbols}
unfoldable pub use Rattle.elf_model.specs.VersionRows.{kind_text, numbered_row, symbol_version_prefix, symbol_version_row, symbol_version_rows, symbol_versions, version_definitions, version_named, version_needs, version_prefix, version_row, version_strings, versions_rows, visited_rows}
pub use Rattle.elf_model.specs.Versions.{DEFINED_NAME_SIZE, DEFINITION_SIZE, NEED_SIZE, RecordCursorState, VERSION_NUMBERS, VERSYM_SIZE, Versions, VisitedRecord, along, along_needs, first_position, max_records, named_at, names_version_index, no_versions, number_in, record_size, visited_at, with_visited, word_checks}
unfoldable pub use Rattle.elf_model.specs.Versions.{flags_word, hash_word, name_distance, name_end, name_index, named_by, names_version, next_position, next_word, number_word, record_checks, version_of, version_word, versions_in, visited_from}
