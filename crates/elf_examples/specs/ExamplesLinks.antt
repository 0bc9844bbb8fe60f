-- Worked examples of what dynamic entries say of how a file is linked, and of their refusals in
-- order.
use Rattle.std.specs.Prelude.{ℕ, ◌≡◌, ◌+◌, ◌*◌, List, [], ◌∷◌, codes, Option, None, Some, Result, Ok, Err}
use Rattle.elf_model.specs.Prelude.{LinkState, links_ceiling, links_of, little, no_link_info, one_load, tagged, versioned_library, versioned_without_sections, with_bytes}
use Rattle.elf_model.specs.declared.causes.Cause.TheVariants.{LoadOverlap, NameOutside, NotElf, Unmapped}
use Rattle.elf_model.specs.declared.causes.Refusal.{Refusal}

-- how a file is linked, with room for three texts of twenty bytes
abbrev LinksAre : List ℕ → Result LinkState Refusal → Type 0
LinksAre file links = links_of file 2 (record { bytes = 20; texts = 3 }) ≡ links

-- a library that needs `libc.so.6`, with other texts and this much room left
abbrev needing_libc : (soname rpath runpath : Option (List ℕ)) → (bytes texts : ℕ) → Result LinkState Refusal
needing_libc soname rpath runpath bytes texts =
    Ok (record {
      links = record { needed = record { at = 0x230; name = codes "libc.so.6" } ∷ []; soname = soname; rpath = rpath; runpath = runpath };
      room = record { bytes = bytes; texts = texts };
    })

abbrev libf : Option (List ℕ)
libf = Some (codes "libf.so")

-- the text of each tag, and those of two; section headers are not read, for any contents and number
abbrev pub EachTagHasItsText : Type 0
EachTagHasItsText =
    LinksAre versioned_without_sections (needing_libc libf None None 4 1)
    × LinksAre versioned_library (needing_libc libf None None 4 1)
    × LinksAre (with_bytes 0x240 (tagged 15 0x2a) versioned_without_sections) (needing_libc None (Some (codes "V1")) None 9 1)
    × LinksAre (with_bytes 0x240 (tagged 29 0x2a) versioned_without_sections) (needing_libc None None (Some (codes "V1")) 9 1)
    × LinksAre (with_bytes 0x2b0 (tagged 15 0x2d) versioned_without_sections) (needing_libc libf (Some (codes "V2")) None 2 0)
    × LinksAre one_load (Ok (record { links = no_link_info; room = record { bytes = 20; texts = 3 } }))

-- refusals: of the file header; of overlapping LOAD segments, before the entries; of the lookup
-- tables, before their texts; of the first text
abbrev pub LinksAreRefusedInOrder : Type 0
LinksAreRefusedInOrder =
    let nameless = with_bytes 0x238 (little 8 0x30) versioned_without_sections in
    LinksAre (with_bytes 0 (little 1 0) nameless) (Err (record { at = 0; cause = NotElf }))
    × LinksAre (with_bytes 0x78 (little 4 1) nameless) (Err (record { at = 0x78; cause = LoadOverlap }))
    × LinksAre (with_bytes 0x258 (little 8 0x5000) nameless) (Err (record { at = 0x250; cause = Unmapped }))
    × LinksAre nameless (Err (record { at = 0x230; cause = NameOutside }))

-- 120 bytes have room for seven entries
abbrev pub LinksCeiling : Type 0
LinksCeiling = links_ceiling 120 1 ≡ 64 + 56 + 3 * 120 + 7 * 4160
