-- Worked examples of what binds the symbols of some objects, and of the lines for them.
use Rattle.std.specs.Prelude.{ℕ, ◌≡◌, true, false, if◌then◌else◌, List, [], ◌∷◌, ◌++◌, codes, Option, None, Some}
use Rattle.std.specs.Str.{bytes_eq}
use Rattle.elf_model.specs.Prelude.{BoundItem, BoundObjects, Faulty, Told, any_unbound, bound_items, bound_text, little, needed_file, needed_version, versioned_without_sections, with_bytes}
use Rattle.elf_model.specs.declared.states.BindingState.{BindingState}
use Rattle.elf_model.specs.declared.formats.Format.TheVariants.{Columns, Object}
use Rattle.elf_model.specs.declared.causes.Cause.TheVariants.{HashShape, NameOutside}
use Rattle.elf_model.specs.declared.states.BindingState.TheVariants as state

-- a library that references a version of `puts`, of a needed file, and defines two versions of `f`;
-- with a weak `puts`; that references its last `f`; that has a hash table without a bucket; and
-- whose `puts` has a name outside the strings
abbrev library : List ℕ
library = versioned_without_sections

abbrev weak : List ℕ
weak = with_bytes 0xfc (little 1 0x22) library

abbrev asking : List ℕ
asking = with_bytes 0x146 (little 2 0) library

abbrev shapeless : List ℕ
shapeless = with_bytes 0xb0 (little 4 0) library

abbrev nameless : List ℕ
nameless = with_bytes 0xf8 (little 4 0x30) asking

-- the objects 0 and so on except for 1, which is not searched; the needed file is the object of an
-- index, if it is one
abbrev objects_of : List (List ℕ) → Option ℕ → BoundObjects
objects_of files libc = record { files = files; indexes = 0 ∷ 2 ∷ 3 ∷ []; headers = 8; called = λ name. libc }

-- what is reported of `puts`
abbrev puts : ℕ → BindingState → BoundItem
puts object found = Told object 1 found (codes "puts") (Some (codes "GLIBC_2.2.5"))

abbrev AreBound : List (List ℕ) → Option ℕ → List BoundItem → Type 0
AreBound files libc items = bound_items (objects_of files libc) ≡ items

-- the first object that defines it is used, by its index among all
abbrev pub FirstBinds : Type 0
FirstBinds =
    AreBound (asking ∷ library ∷ library ∷ []) None
    (puts 0 state.Unbound ∷ Told 0 4 (state.Bound 2 4) (codes "f") (Some (codes "V2")) ∷ puts 2 state.Unbound ∷ puts 3 state.Unbound ∷ [])

-- none defines it: a weak one may be undefined; the object of the needed file has versions and not
-- that one; or it is not searched, or there is none
abbrev pub NoneBinds : Type 0
NoneBinds =
    AreBound (weak ∷ library ∷ []) (Some 2) (puts 0 state.Weak ∷ puts 2 state.NoVersion ∷ [])
    × AreBound (library ∷ []) (Some 1) (puts 0 state.Unbound ∷ [])
    × AreBound (library ∷ []) None (puts 0 state.Unbound ∷ [])

-- a lookup that is refused in an object ends there, and is reported of the symbol; a fault of an
-- object's own symbols is the last that is reported of it
abbrev pub FaultsAreTold : Type 0
FaultsAreTold =
    AreBound (library ∷ shapeless ∷ []) None
    (puts 0 (state.Refused 2) ∷ Faulty (record { at = 0x250; cause = HashShape }) ∷ [])
    × AreBound (nameless ∷ library ∷ []) None (Faulty (record { at = 0xf8; cause = NameOutside }) ∷ puts 2 state.Unbound ∷ [])

-- the lines, and whether they say that something is missing
abbrev pub LinesTell : Type 0
LinesTell =
    let all = bound_items (objects_of (asking ∷ weak ∷ []) None) in
    (bound_text Columns all
    ≡ codes "B     0          1 unbound  -     -          puts@GLIBC_2.2.5\n" ++ codes "B     0          4 bound        2          4 f@V2\n"
    ++ codes "B     2          1 weak     -     -          puts@GLIBC_2.2.5\n")
    × (any_unbound all ≡ true)
    × (any_unbound (bound_items (objects_of (weak ∷ []) None)) ≡ false)

-- the objects 0 and 2, where the second is the object of one name
abbrev AreBoundBy : List ℕ → List ℕ → List ℕ → List BoundItem → Type 0
AreBoundBy first second name items =
    bound_items (record {
      files = first ∷ second ∷ [];
      indexes = 0 ∷ 2 ∷ [];
      headers = 8;
      called = λ other. if bytes_eq other name then Some 2 else None;
    })
    ≡ items

abbrev libc : List ℕ
libc = codes "libc.so.6"

-- a library that needs the version GLIBC_2.2.5 of two files, under two indices, and references
-- `puts` with one of these
abbrev two_files : (number : ℕ) → List ℕ
two_files number =
    with_bytes 0x1a2 (little 2 number) (with_bytes 0x2a0 (little 8 99) (with_bytes 0x2c8 (little 8 0x1b0)
    (with_bytes 0x1b0 (needed_file 1 12 16 32 ++ needed_version 0 0 4 0x16 0 ++ needed_file 1 0x22 16 0 ++ needed_version 0 0 5 0x16 0) library)))

-- the object of the needed file is checked for the version: of that file, of several, before whose
-- next the version is
abbrev pub NeededFilesAreAsked : Type 0
NeededFilesAreAsked =
    AreBoundBy library library libc (puts 0 state.NoVersion ∷ puts 2 state.NoVersion ∷ [])
    × AreBoundBy library library (codes "libf.so") (puts 0 state.Unbound ∷ puts 2 state.Unbound ∷ [])
    × AreBoundBy (two_files 5) library (codes "libf.so") (puts 0 state.NoVersion ∷ puts 2 state.Unbound ∷ [])
    × AreBoundBy (two_files 4) library (codes "libf.so") (puts 0 state.Unbound ∷ puts 2 state.Unbound ∷ [])
    × AreBoundBy (two_files 5) library libc (puts 0 state.Unbound ∷ puts 2 state.NoVersion ∷ [])
    × AreBoundBy (two_files 4) library libc (puts 0 state.NoVersion ∷ puts 2 state.NoVersion ∷ [])

-- it lacks none that it has; nor if it defines no versions, or has no versym entries
abbrev pub VersionsAreLacked : Type 0
VersionsAreLacked =
    AreBoundBy (with_bytes 0x228 (little 4 0x2a) library) library libc (Told 0 1 state.Unbound (codes "puts") (Some (codes "V1")) ∷ puts 2 state.NoVersion ∷ [])
    × AreBoundBy library (with_bytes 0x2a0 (little 8 99) library) libc (puts 0 state.Unbound ∷ puts 2 state.Unbound ∷ [])
    × AreBoundBy library (with_bytes 0x290 (little 8 99) library) libc (puts 0 state.Unbound ∷ Told 2 1 state.Unbound (codes "puts") None ∷ [])

-- the name of the needed file is read only if it is requested
abbrev pub NeededNamesAreRefused : Type 0
NeededNamesAreRefused =
    AreBound (with_bytes 0x214 (little 4 0x30) library ∷ []) None (Faulty (record { at = 0x210; cause = NameOutside }) ∷ [])
    × AreBound (with_bytes 0x214 (little 4 0x30) weak ∷ []) None (puts 0 state.Weak ∷ [])

-- the last symbol is one of them
abbrev pub LastSymbolsAreBound : Type 0
LastSymbolsAreBound =
    AreBound (with_bytes 0x15e (little 2 0) library ∷ []) None (puts 0 state.Unbound ∷ Told 0 5 state.Unbound (codes "h") (Some (codes "V2")) ∷ [])

-- the other lines, and as objects; what says that something is missing
abbrev pub OtherLinesTell : Type 0
OtherLinesTell =
    let fault = Faulty (record { at = 0x250; cause = HashShape }) in
    (bound_text Columns (puts 0 state.NoVersion ∷ puts 0 (state.Refused 2) ∷ fault ∷ [])
    ≡ codes "B     0          1 nover    -     -          puts@GLIBC_2.2.5\n" ++ codes "B     0          1 refused      2 -          puts@GLIBC_2.2.5\n"
    ++ codes "! 0000000000000250 hash-shape\n")
    × (bound_text Object (puts 0 state.Unbound ∷ puts 0 (state.Bound 2 4) ∷ [])
    ≡ codes "{\"line\":\"B\",\"object\":0,\"symbol\":1,\"state\":\"unbound\",\"definer\":\"-\",\"definition\":\"-\",\"name\":\"puts\",\"version\":\"GLIBC_2.2.5\"}\n"
    ++ codes "{\"line\":\"B\",\"object\":0,\"symbol\":1,\"state\":\"bound\",\"definer\":2,\"definition\":4,\"name\":\"puts\",\"version\":\"GLIBC_2.2.5\"}\n")
    × (any_unbound (puts 0 state.Weak ∷ puts 0 (state.Bound 2 4) ∷ []) ≡ false)
    × (any_unbound (puts 0 state.Weak ∷ puts 0 state.NoVersion ∷ []) ≡ true)
    × (any_unbound (puts 0 (state.Refused 2) ∷ []) ≡ true)
    × (any_unbound (puts 0 state.Weak ∷ fault ∷ []) ≡ true)

-- a name with an `@` in it: in columns it looks like one with a version, as an object it does not;
-- bytes of both are escaped
abbrev pub NamesAndVersionsArePartedInObjects : Type 0
NamesAndVersionsArePartedInObjects =
    (bound_text Columns (Told 0 1 state.Weak (codes "a@b") None ∷ Told 0 2 state.Weak (codes "a") (Some (codes "b")) ∷ [])
    ≡ codes "B     0          1 weak     -     -          a@b\n" ++ codes "B     0          2 weak     -     -          a@b\n")
    × (bound_text Object (Told 0 1 state.Weak (codes "a@b") None ∷ Told 0 2 state.Weak (codes "a") (Some (codes "b\"\\")) ∷ [])
    ≡ codes "{\"line\":\"B\",\"object\":0,\"symbol\":1,\"state\":\"weak\",\"definer\":\"-\",\"definition\":\"-\",\"name\":\"a@b\"}\n"
    ++ codes "{\"line\":\"B\",\"object\":0,\"symbol\":2,\"state\":\"weak\",\"definer\":\"-\",\"definition\":\"-\",\"name\":\"a\",\"version\":\"b\\\"\\\\\\\\\"}\n")
