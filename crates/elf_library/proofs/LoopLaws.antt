-- A loop over dynamic entries that give how a file is linked: what it reads, and what the entries
-- that are left give.
use Rattle.std.proofs.Common.{◌≡◌, ℕ, suc, ◌+◌, ◌-◌, ◌*◌, ◌≤◌, List, [], Option, None, Result, Ok, Err, refl, sym, ap, ◌∙◌, arith, append-nil}
use Rattle.elf_model.specs.Prelude.{LinkState, dynamic_count, linked_from, linked_with, no_link_info}
use Rattle.elf_model.specs.declared.causes.Refusal.{Refusal}
use Rattle.elf_source.specs.Source.{CountedState, ReadsUpTo}
use Rattle.elf_source.proofs.ReadsLaws.{ReadsUpTo-to}
use Rattle.elf_table.proofs.LedgerLaws.{CallReads-then}
use Rattle.elf_table.specs.Prelude.{CallReads, CursorState, IsAt, IsOfRead, TableRange, next_row, row_at, size_of, unread_bytes}
use Rattle.elf_table.specs.declared.fault.Fault.{Fault}
use Rattle.elf_table.specs.declared.fault.Fault.TheVariants.{Refused, Source}
use Rattle.elf_note.specs.DynCursors.{DynCursorState, StartsEntries, entries_left}
use Rattle.elf_library.specs.Prelude.{KeepsLinks, LinkInfoState, ReturnsLinks, no_info}
use Rattle.elf_library.specs.declared.links.LinkInfo.{LinkInfo}

-- a call after reads that leave this much of what all may read
pub charges_after : {a b c : CountedState} {stop : Option Fault} {n m : ℕ} (k : ℕ) → ReadsUpTo a b n → b.asked + m ≤ a.asked + k → CallReads b c stop m → CallReads a c stop k
charges_after {a} {b} k reads within costs =
    CallReads-then k (omega (arith, reads.grows, within))
    (record { reads = ReadsUpTo-to {k = b.asked - a.asked} reads (omega (arith, reads.grows)); says = tt })
    costs

-- one entry is read with its text
pub account_next : (unread read left rest before between later all : ℕ) → rest + 1 ≡ left → between + read ≤ before + unread → later ≤ between + 4160
    → before + (unread + left * 4160) ≤ all → later + (read + rest * 4160) ≤ all
account_next unread read left rest before between later all less reads spends within =
    let product = ap (λ (n : ℕ). n * 4160) less in omega (arith, product, reads, spends, within)

pub account_start : (c : CursorState) (table : TableRange) → c.failed ≡ None → c.unread ≡ size_of table → c.left ≡ table.count
    → unread_bytes c + c.left * 4160 ≡ size_of table + table.count * 4160
account_start c table none unread left = rw (none, unread, left) refl

-- nothing is stored yet
pub keeps_none : (held : LinkInfoState) (links : LinkInfo) → links ≡ no_info
    → KeepsLinks held held links (record { links = no_link_info; room = held.held.room })
keeps_none held links is = rw is (record {
  more = [];
  texts = sym (append-nil held.held.texts);
  needed = [];
  needs = sym (append-nil held.needs);
  are = tt;
  soname = refl;
  rpath = refl;
  runpath = refl;
  room = refl;
})

-- the entries that are left give what all do
pub record LeftLinks (told : Result LinkState Refusal) (file : List ℕ) (address size : Option ℕ) (at left : ℕ) (old now : LinkInfoState) (links : LinkInfo) : Type 0 where
  pub state : LinkState
  pub keeps : KeepsLinks old now links state
  pub rest : told ≡ linked_from file address size at state left

module _ (file : List ℕ) (address size : Option ℕ) where
  from_none : (at : ℕ) (state : LinkState) → linked_from file address size at state 0 ≡ Ok state
  unfolding linked_from
  from_none at state = refl

  from_more : (at n : ℕ) (state more : LinkState) → linked_with file address size at state ≡ Ok more → linked_from file address size at state (suc n) ≡ linked_from file address size (at + 16) more n
  unfolding linked_from
  from_more at n state more e = rw (e, linked_from) refl

  from_fails : (at n : ℕ) (state : LinkState) (refusal : Refusal) → linked_with file address size at state ≡ Err refusal → linked_from file address size at state (suc n) ≡ Err refusal
  unfolding linked_from
  from_fails at n state refusal e = rw (e, linked_from) refl

  -- before the first entry
  pub links_start : (table : TableRange) (d : DynCursorState) → StartsEntries table d → (held : LinkInfoState) (links : LinkInfo)
      → links ≡ no_info
      → LeftLinks (linked_from file address size table.at (record { links = no_link_info; room = held.held.room }) (dynamic_count file table.at table.count))
      file address size (next_row d.cursor) (entries_left file d) held held links
  links_start table d s held links is =
      let index = s.index in
      let place : next_row d.cursor ≡ table.at =
      ap (λ (t : TableRange). row_at t d.cursor.index) s.its_table ∙ ap (row_at table) index ∙ first table.at table.entry in
      record {
        state = _;
        keeps = keeps_none held links is;
        rest =
            ap (λ (n : ℕ). linked_from file address size n (record { links = no_link_info; room = held.held.room }) (dynamic_count file table.at table.count)) (sym place)
            ∙ ap (linked_from file address size (next_row d.cursor) (record { links = no_link_info; room = held.held.room })) (sym (s.entries file));
      }
    where
      first : (at entry : ℕ) → at + 0 * entry ≡ at
      first at entry = omega arith

  module _ (told : Result LinkState Refusal) (at left : ℕ) (old now : LinkInfoState) (links : LinkInfo) (l : LeftLinks told file address size at left old now links) where
    pub link_more : (n : ℕ) → left ≡ suc n → (there : ℕ) → there ≡ at → (next : ℕ) → next ≡ at + 16 → (new : LinkInfoState) (more : LinkInfo)
        → ReturnsLinks (linked_with file address size there l.state) old new (Ok more) → LeftLinks told file address size next n old new more
    link_more n some there same next on new more tells =
        let here = ap (λ (k : ℕ). linked_with file address size k l.state) (sym same) ∙ tells.1 in
        record {
          state = tells.0;
          keeps = tells.2;
          rest =
              l.rest ∙ ap (linked_from file address size at l.state) some ∙ from_more at n l.state tells.0 here
              ∙ ap (λ (k : ℕ). linked_from file address size k tells.0 n) (sym on);
        }

    pub link_stops : (n : ℕ) → left ≡ suc n → (there : ℕ) → there ≡ at → (new : LinkInfoState) (fault : Fault) → ReturnsLinks (linked_with file address size there l.state) old new (Err fault)
        → ReturnsLinks told old new (Err fault)
    link_stops n some there same new (Refused refusal) tells = λ other.
        let here = ap (λ (k : ℕ). linked_with file address size k l.state) (sym same) ∙ tells other in
        l.rest ∙ ap (linked_from file address size at l.state) some ∙ from_fails at n l.state refusal here
    link_stops n some there same new (Source fault offset) tells = tt

    pub links_end : left ≡ 0 → ReturnsLinks told old now (Ok links)
    links_end none = (l.state, l.rest ∙ ap (linked_from file address size at l.state) none ∙ from_none at l.state, l.keeps)

-- a read fault gives nothing
pub read_links_stop : (told : Result LinkState Refusal) (old new : LinkInfoState) (fault : Fault) → IsOfRead fault → ReturnsLinks told old new (Err fault)
read_links_stop told old new (Refused refusal) budget = λ other. absurd (other budget)
read_links_stop told old new (Source fault at) budget = tt

pub at_is_read : (fault : Fault) (at : ℕ) → IsAt at fault → IsOfRead fault
at_is_read (Refused refusal) at is = rw is refl
at_is_read (Source fault offset) at is = tt
