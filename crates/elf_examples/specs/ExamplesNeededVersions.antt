-- Worked examples of the versions that objects need and don't find, and of the lines for them.
use Rattle.std.specs.Prelude.{ℕ, ◌≡◌, true, false, Bool, List, [], ◌∷◌, codes, Option, None, Some}
use Rattle.elf_model.specs.Prelude.{RecordsRefused, InterpreterAlone, VersionAbsent, NeedRefused, NeededVersion, Needs, NoProvider, ProvidedBy, Provider, VersionItem, VersionedObjects, any_lacking, little, state_by_segments, version_items, version_items_text, versioned_library, versioned_without_sections, versions_needed, with_bytes}
use Rattle.elf_model.specs.declared.causes.Cause.TheVariants.{BadVersion, NameOutside, Unmapped}
use Rattle.elf_model.specs.declared.formats.Format.TheVariants.{Columns, Object}
use Rattle.elf_model.specs.declared.states.VersionState.{VersionState}
use Rattle.elf_model.specs.declared.states.VersionState.TheVariants as state

-- a library that needs a version of another file, and defines its own name, V1 and V2; the same
-- with the needed version as its V1
abbrev library : List ℕ
library = versioned_without_sections

abbrev providing : List ℕ
providing = with_bytes 0x1d4 (little 4 0x09691a75) (with_bytes 0x1e0 (little 4 0x16) library)

abbrev glibc : (weak : Bool) → NeededVersion
glibc weak = record { library = codes "libc.so.6"; name = codes "GLIBC_2.2.5"; hash = 0x09691a75; weak = weak }

-- what a file needs, with section headers too; a weak version; none without an entry for records
abbrev pub NeedsAreRead : Type 0
NeedsAreRead =
    (versions_needed library ≡ Needs (glibc false) ∷ [])
    × (versions_needed versioned_library ≡ Needs (glibc false) ∷ [])
    × (versions_needed (with_bytes 0x224 (little 2 2) library) ≡ Needs (glibc true) ∷ [])
    × (versions_needed (with_bytes 0x2c0 (little 4 0x21) library) ≡ [])

-- refusals end them: of an entry whose address no segment loads, of a record, of a name
abbrev pub NeedsAreFaulty : Type 0
NeedsAreFaulty =
    (versions_needed (with_bytes 0x2c8 (little 2 0x5000) library) ≡ NeedRefused (record { at = 0x2c0; cause = Unmapped }) ∷ [])
    × (versions_needed (with_bytes 0x210 (little 2 2) library) ≡ NeedRefused (record { at = 0x210; cause = BadVersion }) ∷ [])
    × (versions_needed (with_bytes 0x228 (little 4 0x30) library) ≡ NeedRefused (record { at = 0x220; cause = NameOutside }) ∷ [])

-- a version of this name and hash, which need not be there or must be
abbrev StateIs : List ℕ → (name : List ℕ) → (hash : ℕ) → (weak : Bool) → Option VersionState → Type 0
StateIs file name hash weak found = state_by_segments file (record { library = []; name = name; hash = hash; weak = weak }) ≡ found

-- the name and the hash are compared, of the definition of the file's own name too; a weak version
-- is not listed
abbrev pub DefinitionsAreCompared : Type 0
DefinitionsAreCompared =
    StateIs library (codes "V1") 0x591 false None
    × StateIs library (codes "V2") 0x592 false None
    × StateIs library (codes "libf.so") 0x02f895ef false None
    × StateIs library (codes "V1") 0x592 false (Some state.NoVersion)
    × StateIs library (codes "V3") 0x591 false (Some state.NoVersion)
    × StateIs library (codes "V3") 0x591 true None

-- a fault of the definitions counts if it is before the version, or of the name of one with its
-- hash
abbrev pub DefinitionsAreFaulty : Type 0
DefinitionsAreFaulty =
    StateIs (with_bytes 0x1e8 (little 2 2) library) (codes "V1") 0x591 false None
    × StateIs (with_bytes 0x1e8 (little 2 2) library) (codes "V2") 0x592 true (Some state.Refused)
    × StateIs (with_bytes 0x1e0 (little 4 0x30) library) (codes "V2") 0x592 false None
    × StateIs (with_bytes 0x1e0 (little 4 0x30) library) (codes "V1") 0x591 false (Some state.Refused)
    × StateIs (with_bytes 0x2a8 (little 2 0x5000) library) (codes "V1") 0x591 false (Some state.Refused)

-- a file without definitions: it has a versym table, or it has not
abbrev pub DefinitionsAreMissing : Type 0
DefinitionsAreMissing =
    StateIs (with_bytes 0x2a0 (little 4 0x21) library) (codes "V1") 0x591 false None
    × StateIs (with_bytes 0x290 (little 4 0x21) (with_bytes 0x2a0 (little 4 0x21) library)) (codes "V1") 0x591 true (Some state.Bare)

-- the objects 0 and 2, and whose version it is
abbrev objects_of : List (List ℕ) → Provider → VersionedObjects
objects_of files provider = record { files = files; indexes = 0 ∷ 2 ∷ []; provider = λ name. provider }

abbrev ItemsAre : List (List ℕ) → Provider → List VersionItem → Type 0
ItemsAre files provider items = version_items (objects_of files provider) ≡ items

abbrev lacking : (object : ℕ) → Option ℕ → VersionState → VersionItem
lacking object provider found = VersionAbsent object provider found (codes "GLIBC_2.2.5")

-- an object has the version, or lacks it; no object is the file, or only the interpreter; the file
-- is an object that is not compared
abbrev pub VersionsAreLooked : Type 0
VersionsAreLooked =
    ItemsAre (library ∷ providing ∷ []) (ProvidedBy 2) []
    × ItemsAre (library ∷ library ∷ []) (ProvidedBy 2) (lacking 0 (Some 2) state.NoVersion ∷ lacking 2 (Some 2) state.NoVersion ∷ [])
    × ItemsAre (library ∷ []) NoProvider (lacking 0 None state.NoFile ∷ [])
    × ItemsAre (library ∷ []) InterpreterAlone []
    × ItemsAre (library ∷ []) (ProvidedBy 1) []

-- the refusal of an object's own records is the last of it
abbrev pub FaultsEndAnObject : Type 0
FaultsEndAnObject =
    ItemsAre (with_bytes 0x210 (little 2 2) library ∷ library ∷ []) NoProvider
    (RecordsRefused (record { at = 0x210; cause = BadVersion }) ∷ lacking 2 None state.NoFile ∷ [])

-- the lines, in columns and as an object; any makes the exit status 1
abbrev pub VersionLinesAreShown : Type 0
VersionLinesAreShown =
    (version_items_text Columns (lacking 0 (Some 2) state.NoVersion ∷ lacking 13 None state.NoFile ∷ VersionAbsent 1 (Some 3) state.Bare (codes "V 1") ∷ [])
    ≡ codes "U     0     2 nover    GLIBC_2.2.5\nU    13 -     nofile   GLIBC_2.2.5\nU     1     3 bare     V 1\n")
    × (version_items_text Columns (lacking 0 (Some 1) state.Refused ∷ RecordsRefused (record { at = 0x210; cause = BadVersion }) ∷ [])
    ≡ codes "U     0     1 refused  GLIBC_2.2.5\n! 0000000000000210 version\n")
    × (version_items_text Object (lacking 0 None state.NoFile ∷ [])
    ≡ codes "{\"line\":\"U\",\"object\":0,\"provider\":\"-\",\"state\":\"nofile\",\"version\":\"GLIBC_2.2.5\"}\n")
    × (any_lacking [] ≡ false)
    × (any_lacking (lacking 0 None state.NoFile ∷ []) ≡ true)
