-- What a layout lacks, as reported: the bytes of a symbol's name are few.
use Rattle.std.proofs.Common.{◌≡◌, ℕ, ◌-◌, ◌<◌, ◌≤◌, ◌==◌, Bool, true, false, List, [], ◌++◌, length, length-take, take, drop, Option, None, Some, Result, Ok, Err, option_map, refl, sym, ap, arith}
use Rattle.elf_model.specs.Prelude.{Cut, DisplayedName, ITEM_NAME_SIZE, IsBudgetRefusal, Layout, MissingEntry, explained, first_refusal, header_checks, lack_of, lack_with, linked_at, load_checks, missing, refused_in, resolved_symbol_name, section_at, shown, strings_of}
use Rattle.elf_model.specs.declared.causes.Cause.{Cause}
use Rattle.elf_model.specs.declared.missing.MissingAddress.{MissingAddress}
use Rattle.elf_model.specs.declared.causes.Refusal.{Refusal}
use Rattle.elf_model.specs.Names.DisplayedName.{Whole}
use Rattle.elf_model.proofs.NameLaws.{shown_cut, shown_whole}
use Rattle.elf_source.specs.Source.{CountedState}
use Rattle.elf_table.specs.Prelude.{IsReadRefusal, shown_by}
use Rattle.elf_table.specs.declared.names.NameEnd.TheVariants.{Cut as IsCut, Whole as IsWhole}
use Rattle.elf_table.specs.declared.names.NameEnd.{NameEnd}
use Rattle.elf_reloc.specs.Explained.{explain_bytes, lack_as}
use Rattle.elf_layout.specs.Prelude.{Follows, KeysAscend, MayBorrow, MayFollow, lent_name, name_order}
use Rattle.elf_layout.specs.declared.lent.LentName.{LentName}
use Rattle.elf_capi.specs.Prelude.{CannotBeKnown, ReturnsSymbol, cut_number}
use Rattle.elf_capi.specs.declared.missing.CallerMissing.{CallerMissing}
use Rattle.elf_capi.proofs.BudgetLaws.{rest_wanting, wanting_read}
use Rattle.std.specs.declared.cmp.Ordering.{Ordering}

-- a name of few bytes
abbrev AreFew : DisplayedName → Type 0
AreFew (Whole name) = length name ≤ 255
AreFew (Cut front) = length front ≤ 255

abbrev named_by_record : List ℕ → ℕ → Bool → Result DisplayedName Cause
named_by_record strings index true = Ok (Whole [])
named_by_record strings index false = shown strings index ITEM_NAME_SIZE

few_by : (strings : List ℕ) (index : ℕ) (none : Bool) (name : DisplayedName) → named_by_record strings index none ≡ Ok name → AreFew name
few_by strings index true (Whole name) e = let same : [] ≡ name = cc in omega (arith, ap length same)
few_by strings index true (Cut front) e = cc
few_by strings index false (Whole name) e = ((shown_whole strings index ITEM_NAME_SIZE name).0 e).1
few_by strings index false (Cut front) e =
    let is = ((shown_cut strings index ITEM_NAME_SIZE front).0 e).2 in omega (arith, ap length is, length-take ITEM_NAME_SIZE (drop index strings))

told_few : (strings : List ℕ) (index : ℕ) (name : DisplayedName) → resolved_symbol_name strings index ≡ Ok name → AreFew name
unfolding resolved_symbol_name
told_few strings index name e = few_by strings index (index == 0) name e

with_few : (missed : MissingAddress) (told : Result DisplayedName Cause) (lack : MissingEntry) → ((name : DisplayedName) → told ≡ Ok name → AreFew name) → lack_with missed told ≡ Some lack → AreFew lack.name
with_few missed (Ok name) lack few is = let same : name ≡ lack.name = ap (λ (o : Option MissingEntry). name_of name o) is in rw (← same) (few name refl)
  where
    name_of : DisplayedName → Option MissingEntry → DisplayedName
    name_of none None = none
    name_of none (Some l) = l.name
with_few missed (Err cause) lack few is = absurd (cc)

lack_few : (file : List ℕ) (header : ℕ) (missed : Option MissingAddress) (lack : MissingEntry) → lack_of file header missed ≡ Some lack → AreFew lack.name
unfolding lack_of
lack_few file header None lack is = absurd (cc)
lack_few file header (Some missed) lack is =
    with_few missed (resolved_symbol_name (strings_of file (linked_at file header)) missed.name) lack (told_few (strings_of file (linked_at file header)) missed.name) is

abbrev lack_by : List ℕ → ℕ → Layout → Refusal → Option ℕ → Option MissingEntry
lack_by file section layout refusal None = None
lack_by file section layout refusal (Some index) = lack_of file (section_at file index) (missing file (section_at file index) layout section refusal)

lack_by_few : (file : List ℕ) (section : ℕ) (layout : Layout) (refusal : Refusal) (found : Option ℕ) (lack : MissingEntry) → lack_by file section layout refusal found ≡ Some lack → AreFew lack.name
lack_by_few file section layout refusal None lack is = cc
lack_by_few file section layout refusal (Some index) lack is = lack_few file (section_at file index) (missing file (section_at file index) layout section refusal) lack is

explained_few : (file : List ℕ) (section : ℕ) (layout : Layout) (refusal : Refusal) (lack : MissingEntry) → explained file section layout refusal ≡ Some lack → AreFew lack.name
unfolding explained
explained_few file section layout refusal lack is = lack_by_few file section layout refusal (refused_in file section refusal.at) lack is

-- the bytes of a symbol's name that are reported are few
pub few_told : (file : List ℕ) (section : ℕ) (layout : Layout) (refusal : Refusal) (missed : MissingAddress) (end : NameEnd) (name : List ℕ)
    → lack_as name (Some (missed, end)) ≡ explained file section layout refusal → length name ≤ 255
few_told file section layout refusal missed IsWhole name is = explained_few file section layout refusal _ (sym is)
few_told file section layout refusal missed IsCut name is = explained_few file section layout refusal _ (sym is)

-- ascending keys follow one another
pub each_follows : {X K : Type 0} (order : K → K → Ordering) (key : X → K) (items : List X) (i : ℕ) → i < length items → KeysAscend order key items → Follows order key items i
each_follows order key items i within rise d some = rise (i - 1) i d (omega (arith, some)) within

-- and so do names that may be borrowed
pub name_follows : (items : List LentName) (i : ℕ) → i < length items → MayBorrow items → MayFollow items i
name_follows items i within lend = (λ d. lend.names i d within, each_follows {K = List ℕ} name_order lent_name items i within lend.rise)

-- the name of a symbol is reported, by its bytes and by whether it has more
pub tells_symbol : (missing : CallerMissing) (end : NameEnd) (name : List ℕ) → take missing.name_len missing.name ≡ name → missing.is_cut ≡ cut_number end → ReturnsSymbol missing (shown_by end name)
tells_symbol missing IsWhole name is cut = (is, cut)
tells_symbol missing IsCut name is cut = (is, cut)

-- why nothing can be known: the refusal is the file's own, or the rest of the budget is less than
-- finding out costs
pub cannot_be_known : (file : List ℕ) (headers : ℕ) (budget : Option ℕ) (asked : ℕ) (s1 s2 : CountedState) (refusal : Refusal) → s1.most ≡ option_map (λ bytes. bytes - asked) budget → s1.asked ≡ 0
    → length file ≡ s1.seen.size → IsReadRefusal s1 s2 (explain_bytes headers) refusal
    → ((IsBudgetRefusal refusal → ⊥) → first_refusal (header_checks file ++ load_checks file headers) ≡ Some refusal) → CannotBeKnown file headers budget asked
cannot_be_known file headers budget asked s1 s2 refusal limit first sized says checks = (
  refusal,
  checks,
  λ is.
      rest_wanting budget asked (explain_bytes headers) (length file) refusal
      (wanting_read (option_map (λ bytes. bytes - asked) budget) s1 s2 (explain_bytes headers) (length file) refusal limit first sized says is),
)
