-- How files that are written out are linked.
use Rattle.std.specs.Prelude.{ℕ, ◌≡◌, List, [], ◌∷◌, ◌++◌, codes, None, Some, Ok, Err}
use Rattle.elf_model.specs.Prelude.{library_without_sections, links_of, loaded, needed_with, tagged}
use Rattle.elf_model.specs.declared.causes.Cause.TheVariants.{NameOutside, TooLong, Unmapped}

-- a file with four dynamic entries, at 0xb0, and 11 bytes of strings at the address 0x4000f0
abbrev pub four_entries : List ℕ → List ℕ
four_entries entries = loaded 0xfb 0x40 entries

-- one with five, and the strings at 0x400100
abbrev pub five_entries : List ℕ → List ℕ
five_entries entries = loaded 0x10b 0x50 entries

abbrev pub libc : List ℕ
libc = codes "libc.so.6"

-- one library is needed, and its name fills the room
abbrev pub NeedsLibc : Type 0
NeedsLibc =
    links_of library_without_sections 2 (record { bytes = 9; texts = 1 })
    ≡ Ok (record {
      links = record { needed = record { at = 0xb0; name = libc } ∷ []; soname = None; rpath = None; runpath = None };
      room = record { bytes = 0; texts = 0 };
    })

-- a name as a library; of two texts with a tag the first; none after the first DT_NULL
abbrev pub FirstTextsCount : Type 0
FirstTextsCount =
    (links_of (four_entries (needed_with (tagged 5 0x4000f0) (tagged 10 11))) 2 (record { bytes = 99; texts = 9 })
    ≡ Ok (record {
      links = record { needed = record { at = 0xb0; name = libc } ∷ []; soname = None; rpath = None; runpath = None };
      room = record { bytes = 90; texts = 8 };
    }))
    × (links_of (five_entries (tagged 29 6 ++ tagged 29 1 ++ tagged 5 0x400100 ++ tagged 10 11 ++ tagged 0 0)) 2 (record { bytes = 99; texts = 9 })
    ≡ Ok (record {
      links = record { needed = []; soname = None; rpath = None; runpath = Some (codes "so.6") };
      room = record { bytes = 86; texts = 7 };
    }))
    × (links_of (five_entries (tagged 14 1 ++ tagged 5 0x400100 ++ tagged 10 11 ++ tagged 0 0 ++ tagged 15 1)) 2 (record { bytes = 99; texts = 9 })
    ≡ Ok (record {
      links = record { needed = []; soname = Some libc; rpath = None; runpath = None };
      room = record { bytes = 90; texts = 8 };
    }))

-- a refusal is at the entry: of a text without room, of its place among the strings, of the place
-- of these
abbrev pub EntriesAreRefused : Type 0
EntriesAreRefused =
    (links_of library_without_sections 2 (record { bytes = 8; texts = 1 }) ≡ Err (record { at = 0xb0; cause = TooLong }))
    × (links_of library_without_sections 2 (record { bytes = 9; texts = 0 }) ≡ Err (record { at = 0xb0; cause = TooLong }))
    × (links_of (four_entries (tagged 5 0x4000f0 ++ tagged 10 11 ++ tagged 1 11 ++ tagged 0 0)) 2 (record { bytes = 99; texts = 9 })
    ≡ Err (record { at = 0xd0; cause = NameOutside }))
    × (links_of (four_entries (needed_with (tagged 5 0x5000f0) (tagged 10 11))) 2 (record { bytes = 99; texts = 9 })
    ≡ Err (record { at = 0xb0; cause = Unmapped }))
