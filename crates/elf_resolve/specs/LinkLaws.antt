-- What is so of every link.
use Rattle.std.specs.Prelude.{◌≡◌, ◌⊎◌, ◌<◌, ℕ, Contains, true, false, List, [], Option, length}
use Rattle.std.specs.List.Sorted.{IsPermutation}
use Rattle.elf_model.specs.LinkInputs.{IndexSymbol, InputFile, LinkInputs, Linking, group_settled, index_entered, inputs_again, linked, rounds_made, untaken_in}
use Rattle.elf_model.specs.LinkKeys.{LinkKeys, LinkSymbol, entry_named, entry_named_as, symbols_taken}
use Rattle.elf_model.specs.LinkPasses.{ArchivePass, LinkArchive, archive_searched, asks_for, is_taken, key_of_entry, member_taken, passes_made, untaken}
use Rattle.elf_model.specs.declared.link_states.IndexEntry.{IndexEntry}
use Rattle.elf_model.specs.declared.link_states.KeyState.TheVariants.{New, Undefined}
use Rattle.elf_model.specs.declared.link_states.SymbolRole.{SymbolRole}
use Rattle.elf_resolve.specs.KeyOrders.{AreDistinctInputs, AreUnrestricted, AskedAreKnown, IsUnrestricted}
use Rattle.elf_resolve.specs.KeyStates.{AreOwn, ArePlain, after_all, alone, is_above_state, roles_of}

-- ONE STATE COMES FROM ANOTHER BY TAKING MEMBERS, each of which was not taken, and for an entry of the
-- index whose key asked for it just before
pub data Reaches (archive : LinkArchive) (entries : List IndexEntry) : ArchivePass → ArchivePass → Type 0 where
  Stays : (pass : ArchivePass) → Reaches archive entries pass pass
  TakesMembers : (pass end : ArchivePass) (entry : IndexEntry) → Contains entries entry → asks_for archive.members pass.keys entry ≡ true → is_taken pass.taken entry.member ≡ false
      → Reaches archive entries (member_taken archive pass entry) end → Reaches archive entries pass end

-- members of an archive that is searched are taken only so
abbrev pub MembersAreAskedFor : Type 0
MembersAreAskedFor = (archive : LinkArchive) (entries : List IndexEntry) (pass : ArchivePass) → Reaches archive entries pass (archive_searched archive entries pass)

-- the state that symbols of objects make of a key is not below what any of them makes alone, and one
-- of them makes it alone, unless there are none
abbrev pub StateIsLargest : Type 0
StateIsLargest = (roles : List SymbolRole) → AreOwn roles → ((r : SymbolRole) → Contains roles r → is_above_state (alone r) (after_all New roles) ≡ false)
    × ((after_all New roles ≡ New) ⊎ ((r : SymbolRole) × Contains roles r × (after_all New roles ≡ alone r)))

-- whatever their order
abbrev pub OrderMeansNothing : Type 0
OrderMeansNothing = (roles others : List SymbolRole) → AreOwn roles → AreOwn others → IsPermutation roles others → after_all New roles ≡ after_all New others

-- the state of a name after the symbols of a file is what the symbols of that name make of it, if none
-- has a default version or another visibility than DEFAULT
abbrev pub NamesAreApart : Type 0
NamesAreApart = (row : Option ℕ) (keys : LinkKeys) (symbols : List LinkSymbol) (name : List ℕ) → ArePlain symbols → length keys.entries ≡ length keys.names
    → (entry_named (symbols_taken row keys symbols) name).state ≡ after_all (entry_named keys name).state (roles_of name symbols)

-- after an archive is searched whose members have symbols of default visibility alone, an undefined key
-- of its index that no dropped section has is only one of members that are taken
abbrev pub NoneIsLeft : Type 0
NoneIsLeft = (archive : LinkArchive) (entries : List IndexEntry) (pass : ArchivePass) (entry : IndexEntry)
    → ((member : ℕ) → AreUnrestricted (archive.members.objects member).symbols) → AskedAreKnown pass.keys → Contains entries entry
    → (let end = archive_searched archive entries pass in let known = entry_named_as end.keys (key_of_entry end.keys entry) in
    known.state ≡ Undefined → known.is_gone ≡ false → is_taken end.taken entry.member ≡ true)

-- and so it is of the keys of any link of such inputs, of which an archive may then be searched
abbrev pub AskedAreKnownInLinks : Type 0
AskedAreKnownInLinks = (files : ℕ → InputFile) (arguments : List (List ℕ)) (inputs : LinkInputs) (symbols : List IndexSymbol)
    → ((index : ℕ) → IsUnrestricted (files index)) → AskedAreKnown (index_entered (record { keys = (linked files arguments inputs).keys; entries = [] }) symbols).keys

-- a search is passes until one asks for nothing new: no more passes than members change that
abbrev pub SearchIsLeast : Type 0
SearchIsLeast = (archive : LinkArchive) (entries : List IndexEntry) (pass : ArchivePass) (most : ℕ) → untaken pass.taken < most
    → passes_made most archive entries pass ≡ archive_searched archive entries pass

-- so an archive offers a key whose member is not taken only if the key was not undefined yet when the
-- archive was searched for the last time, or a dropped section has it
abbrev pub OffersCameBefore : Type 0
OffersCameBefore = (archive : LinkArchive) (entries : List IndexEntry) (pass : ArchivePass) (entry : IndexEntry)
    → ((member : ℕ) → AreUnrestricted (archive.members.objects member).symbols) → AskedAreKnown pass.keys → Contains entries entry
    → (let end = archive_searched archive entries pass in let known = entry_named_as end.keys (key_of_entry end.keys entry) in
    is_taken end.taken entry.member ≡ false → known.is_gone ≡ false → known.state ≡ Undefined → ⊥)

-- a group is its inputs again until a round asks for nothing new: no more rounds than members change
-- that
abbrev pub GroupIsLeast : Type 0
GroupIsLeast = (files : ℕ → InputFile) (group : LinkInputs) (link : Linking) (asked most : ℕ) → AreDistinctInputs link.archives → untaken_in link.archives < most
    → rounds_made most (inputs_again files group) asked link ≡ group_settled (inputs_again files group) asked link
