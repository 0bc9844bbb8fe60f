-- What is listed by keys at the end of a link without shared libraries.
use Rattle.std.proofs.Common.{◌≡◌, ℕ, zero, suc, ◌+◌, ◌-◌, ◌≤◌, Bool, List, [], ◌∷◌, length, get_or, drop, take, sym, ap, subst, ◌∙◌, arith}
use Rattle.std.specs.Prelude.{map}
use Rattle.std.proofs.lemmas.List.{drop_all, drop-drop}
use Rattle.elf_model.specs.LinkKeys.{new_key}
use Rattle.elf_model.specs.declared.link_states.IndexEntry.{IndexEntry}
use Rattle.elf_resolve.specs.EntryRows.{AreConsecutive}
use Rattle.elf_resolve.specs.KeptLimits.{HasRoomForKeys}
use Rattle.elf_resolve.specs.KeyChains.{ChainTable, HasLists, LIST_END, number_or_end}
use Rattle.elf_resolve.specs.KeyLists.{AreKeyedEntries, AreKeyedFurther, HasNumberRoom, entry_numbers, further_places}
use Rattle.elf_resolve.specs.KeyStates.{IsOwnState}
use Rattle.elf_resolve.specs.KeyTables.{KeyList}
use Rattle.elf_resolve.specs.ListRooms.{HasListRoom}
use Rattle.elf_resolve.specs.OwnLinks.{AreKeyedArchives, IsOwnLink}
use Rattle.elf_resolve.specs.Resolved.{linking_of, open_archive}
use Rattle.elf_resolve.specs.StaticLinks.{AreKeysListed}
use Rattle.elf_resolve.specs.declared.archives.ArchiveTables.{ArchiveTables}
use Rattle.elf_resolve.specs.declared.archives.OpenedArchive.{OpenedArchive}
use Rattle.elf_resolve.specs.declared.linker_names.OutputKind.{OutputKind}
use Rattle.elf_resolve.specs.declared.passes.Link.{Link}
use Rattle.elf_resolve.specs.declared.resolver.Resolver.{Resolver}
use Rattle.elf_resolve.proofs.OwnKeyLaws.{entries_at, further_more, keyed_more}

-- the entries of consecutive archives are all entries
keyed_both : (n count : ℕ) (entries : List IndexEntry) → AreKeyedEntries n (take count entries) → AreKeyedEntries n (drop count entries) → AreKeyedEntries n entries
keyed_both n zero entries first rest = rest
keyed_both n (suc count) [] first rest = tt
keyed_both n (suc count) (e ∷ entries) first rest = (first.0, first.1, keyed_both n count entries first.2 rest)

keyed_from : (n from : ℕ) (entries : List IndexEntry) (archives : List OpenedArchive) (taken : List Bool) → AreConsecutive from archives (length entries) → AreKeyedArchives n (map (open_archive entries taken) archives)
    → AreKeyedEntries n (drop from entries)
keyed_from n from entries [] taken are keyed = subst (λ l. AreKeyedEntries n l) (sym (drop_all from entries (omega (arith, are)))) tt
keyed_from n from entries (a ∷ archives) taken are keyed =
    let count = a.entries.1 - a.entries.0 in
    let sum : from + count ≡ a.entries.1 = omega (arith, are.0, are.1) in
    let rest = keyed_from n a.entries.1 entries archives taken are.2 keyed.1 in
    keyed_both n count (drop from entries) (subst (λ m. AreKeyedEntries n (take count (drop m entries))) are.0 keyed.0)
    (subst (λ l. AreKeyedEntries n l) (sym (drop-drop count from entries ∙ ap (λ m. drop m entries) sum)) rest)

pub entries_keyed : (link : Resolver) → IsOwnLink (linking_of link) → AreConsecutive 0 link.tables.archives.items (length link.tables.entries.items)
    → AreKeyedEntries (length link.link.keys.keys.names) link.tables.entries.items
entries_keyed link own are = keyed_from (length link.link.keys.keys.names) 0 link.tables.entries.items link.tables.archives.items link.taken.items are own.archives

-- ALL IS LISTED
pub all_listed : (old chained listed : Resolver) → chained ≡ record old { offers = chained.offers } → listed ≡ record chained { further = listed.further }
    → HasListRoom old → IsOwnLink (linking_of old) → HasRoomForKeys chained.link.keys
    → (AreKeyedEntries old.offers.keys old.tables.entries.items → HasNumberRoom old.offers (length old.tables.entries.items + length old.tables.entries.items)
    → HasLists chained.offers 0 (λ key. entry_numbers key 0 old.tables.entries.items))
    → (AreKeyedFurther chained.further.keys chained.link.keys.keys.further → HasNumberRoom chained.further (length chained.link.keys.keys.further)
    → HasLists listed.further 0 (λ key. further_places key 0 chained.link.keys.keys.further))
    → AreKeysListed listed
all_listed old chained listed first second room own fits offers further =
    let keys : chained.link.keys ≡ old.link.keys = ap (λ (r : Resolver). r.link.keys) first in
    let chains : chained.further ≡ old.further = ap (λ (r : Resolver). r.further) first in
    let names : length old.link.keys.keys.names ≤ old.link.keys.most = subst (λ (k : KeyList). length k.keys.names ≤ k.most) keys fits.names in
    let count : length old.link.keys.keys.further ≤ old.link.keys.most_further = subst (λ (k : KeyList). length k.keys.further ≤ k.most_further) keys fits.further in
    let keyed = entries_keyed old own room.consecutive in
    let offered = offers (keyed_more (length old.link.keys.keys.names) old.offers.keys old.tables.entries.items (omega (arith, names, room.offers_keys)) keyed)
    (record { empty = room.offers; fits = omega (arith, room.within, room.offers_numbers); ends = room.offers_end }) in
    let further_are = further_more (length old.link.keys.keys.names) old.further.keys old.link.keys.keys.further (omega (arith, names, room.further_keys)) own.keys.further in
    let again = further
    (subst (λ (k : KeyList). AreKeyedFurther chained.further.keys k.keys.further) (sym keys) (subst (λ (f : ChainTable). AreKeyedFurther f.keys old.link.keys.keys.further) (sym chains) further_are))
    (record {
      empty = ap (λ (f : ChainTable). f.heads) chains ∙ room.further;
      fits = omega (arith, ap (λ (k : KeyList). length k.keys.further) keys, count, ap (λ (f : ChainTable). f.numbers) chains, room.further_numbers);
      ends = omega (arith, ap (λ (f : ChainTable). f.numbers) chains, room.further_end);
    }) in
    let all_keys : listed.link.keys ≡ chained.link.keys = ap (λ (r : Resolver). r.link.keys) second in
    let tables : listed.tables ≡ old.tables = ap (λ (r : Resolver). r.tables) second ∙ ap (λ (r : Resolver). r.tables) first in
    record {
      own = λ key. subst (λ (k : KeyList). IsOwnState (get_or k.keys.entries key new_key).state) (sym (all_keys ∙ keys)) (entries_at old.link.keys.keys.entries key own.keys.own);
      spare = λ key. ap (λ (r : Resolver). number_or_end (get_or r.spare.chains.heads key LIST_END)) second ∙ ap (λ (r : Resolver). number_or_end (get_or r.spare.chains.heads key LIST_END)) first
          ∙ ap (λ (heads : List ℕ). number_or_end (get_or heads key LIST_END)) room.spare;
      further = subst (λ (k : KeyList). HasLists listed.further 0 (λ key. further_places key 0 k.keys.further)) (sym all_keys) again;
      offers = subst (λ (f : ChainTable). HasLists f 0 (λ key. entry_numbers key 0 listed.tables.entries.items)) (sym (ap (λ (r : Resolver). r.offers) second))
          (subst (λ (t : ArchiveTables). HasLists chained.offers 0 (λ key. entry_numbers key 0 t.entries.items)) (sym tables) offered);
      archives = subst (λ (t : ArchiveTables). AreConsecutive 0 t.archives.items (length t.entries.items)) (sym tables) room.consecutive;
    }

-- and still is, if the marks of rows alone are others, or the end of the link is
listed_by : (old new : Resolver) → new.link ≡ old.link → new.spare ≡ old.spare → new.further ≡ old.further → new.offers ≡ old.offers → new.tables ≡ old.tables → AreKeysListed old → AreKeysListed new
listed_by old new link spare further offers tables listed = record {
  own = λ key. subst (λ (l : Link). IsOwnState (get_or l.keys.keys.entries key new_key).state) (sym link) (listed.own key);
  spare = λ key. ap (λ s. number_or_end (get_or s.chains.heads key LIST_END)) spare ∙ listed.spare key;
  further = subst (λ (f : ChainTable). HasLists f 0 (λ key. further_places key 0 new.link.keys.keys.further)) (sym further)
      (subst (λ (l : Link). HasLists old.further 0 (λ key. further_places key 0 l.keys.keys.further)) (sym link) listed.further);
  offers = subst (λ (f : ChainTable). HasLists f 0 (λ key. entry_numbers key 0 new.tables.entries.items)) (sym offers)
      (subst (λ (t : ArchiveTables). HasLists old.offers 0 (λ key. entry_numbers key 0 t.entries.items)) (sym tables) listed.offers);
  archives = subst (λ (t : ArchiveTables). AreConsecutive 0 t.archives.items (length t.entries.items)) (sym tables) listed.archives;
}

pub listed_marked : (old new : Resolver) (output : OutputKind) → new ≡ record old { output = output; problems = new.problems } → AreKeysListed old → AreKeysListed new
listed_marked old new output same listed =
    listed_by old new (ap (λ (r : Resolver). r.link) same) (ap (λ (r : Resolver). r.spare) same) (ap (λ (r : Resolver). r.further) same) (ap (λ (r : Resolver). r.offers) same) (ap (λ (r : Resolver). r.tables) same) listed

pub listed_ended : (old new : Resolver) → new ≡ record old { end = new.end } → AreKeysListed old → AreKeysListed new
listed_ended old new same listed =
    listed_by old new (ap (λ (r : Resolver). r.link) same) (ap (λ (r : Resolver). r.spare) same) (ap (λ (r : Resolver). r.further) same) (ap (λ (r : Resolver). r.offers) same) (ap (λ (r : Resolver). r.tables) same) listed
