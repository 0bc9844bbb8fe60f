-- Passes over the index of an archive, in code: one entry and one pass after another.
use Rattle.std.proofs.Common.{◌≡◌, ℕ, ◌+◌, ◌<◌, true, false, List, [], ◌∷◌, ◌++◌, length, get_or, set, take, refl, sym, ap, ◌∙◌, arith}
use Rattle.std.specs.Prelude.{◌==◌, Some}
use Rattle.std.proofs.lemmas.Bool.Decides.{nat_tests}
use Rattle.std.proofs.lemmas.List.{take_more}
use Rattle.elf_model.specs.LinkKeys.{LinkKeys}
use Rattle.elf_model.specs.LinkObjects.{object_taken}
use Rattle.elf_model.specs.LinkPasses.{ArchiveMembers, ArchivePass, LinkArchive, archive_searched, entry_visited, index_passed, is_taken, member_row, member_taken, untaken}
use Rattle.elf_model.specs.declared.link_states.IndexEntry.{IndexEntry}
use Rattle.elf_model.specs.declared.link_states.LinkRow.{LinkRow}
use Rattle.elf_resolve.specs.Passing.{Moved, PassedTo, searched_archive}
use Rattle.elf_resolve.specs.declared.passes.ArchiveInput.{ArchiveInput}
use Rattle.elf_resolve.proofs.PassLaws.{index_passed-push, searched_end, searched_more, untaken-set}

-- a member is taken if its symbols, its row and its mark are
pub member_by : (archive : LinkArchive) (p : ArchivePass) (e : IndexEntry) (index : ℕ) (keys : LinkKeys) (row : LinkRow) (rows : List LinkRow) → index ≡ length p.rows
    → keys ≡ object_taken (Some index) p.keys (archive.members.objects e.member) → row ≡ member_row archive.input archive.row p.keys e → rows ≡ p.rows ++ row ∷ []
    → (let now : ArchivePass = record { keys = keys; rows = rows; taken = set p.taken e.member true } in now ≡ member_taken archive p e)
unfolding member_taken
member_by archive p e index keys row rows next taken row_is added =
    let with_keys : LinkKeys → ArchivePass = λ k. record { keys = k; rows = rows; taken = set p.taken e.member true } in
    let with_rows : List LinkRow → ArchivePass = λ r. record { keys = object_taken (Some (length p.rows)) p.keys (archive.members.objects e.member); rows = r; taken = set p.taken e.member true } in
    ap with_keys (taken ∙ ap (λ i. object_taken (Some i) p.keys (archive.members.objects e.member)) next)
    ∙ ap with_rows (added ∙ ap (λ r. p.rows ++ r ∷ []) row_is)

-- passes move others, whatever members are
pub moved_not : (p : ArchivePass) → Moved p p
moved_not p = record { fewer = omega arith; still = λ same. refl }

pub moved_then : (a b c : ArchivePass) → Moved a b → Moved b c → Moved a c
moved_then a b c first second = record {
  fewer = omega (arith, first.fewer, second.fewer);
  still = λ same. second.still (omega (arith, first.fewer, second.fewer, same)) ∙ first.still (omega (arith, first.fewer, second.fewer, same));
}

pub moved_by : (p new : ArchivePass) (member : ℕ) → is_taken p.taken member ≡ false → new.taken ≡ set p.taken member true → Moved p new
moved_by p new member free is =
    let one_less : untaken new.taken + 1 ≡ untaken p.taken = ap (λ t. untaken t + 1) is ∙ untaken-set p.taken member free in
    record { fewer = omega (arith, one_less); still = λ same. absurd (omega (arith, one_less, same)) }

pub fewer_moved : (p new : ArchivePass) → Moved p new → (new.keys.asked ≡ p.keys.asked → ⊥) → untaken new.taken < untaken p.taken
fewer_moved p new moved differ =
    let not_still : untaken new.taken ≡ untaken p.taken → ⊥ = λ same. differ (ap (λ (k : LinkKeys). k.asked) (moved.still same)) in
    omega (arith, moved.fewer, not_still)

module _ (archive : ArchiveInput) (m0 m1 m2 : ArchiveMembers) (k0 k1 k2 : Type 0) (start now new : ArchivePass) (es : List IndexEntry) where
  -- one entry more
  pub one_more : (i : ℕ) (d : IndexEntry) → i < length es → PassedTo m0 m1 k0 k1 (index_passed (searched_archive archive m0) start (take i es)) now → m2 ≡ m1 → (k1 → k2)
      → (k1 → new ≡ entry_visited (searched_archive archive m1) now (get_or es i d)) → PassedTo m0 m2 k0 k2 (index_passed (searched_archive archive m0) start (take (i + 1) es)) new
  one_more i d there before same known visited = record {
    same = same ∙ before.same;
    known = λ k. known (before.known k);
    holds = λ k.
        visited (before.known k)
        ∙ ap (λ m. entry_visited (searched_archive archive m) now (get_or es i d)) before.same
        ∙ ap (λ p. entry_visited (searched_archive archive m0) p (get_or es i d)) (before.holds k)
        ∙ sym (index_passed-push (searched_archive archive m0) start (take i es) (get_or es i d))
        ∙ ap (λ l. index_passed (searched_archive archive m0) start l) (sym (take_more es i d there));
  }

  passed : m1 ≡ m0 → new ≡ index_passed (searched_archive archive m1) now es → new ≡ index_passed (searched_archive archive m0) now es
  passed same is = is ∙ ap (λ m. index_passed (searched_archive archive m) now es) same

  -- the last pass
  pub last_pass : PassedTo m0 m1 k0 k1 (archive_searched (searched_archive archive m0) es start) (archive_searched (searched_archive archive m0) es now) → (k1 → new ≡ index_passed (searched_archive archive m1) now es)
      → new.keys.asked ≡ now.keys.asked → k0 → new ≡ archive_searched (searched_archive archive m0) es start
  last_pass before is same_asked k =
      let this : new ≡ index_passed (searched_archive archive m0) now es = passed before.same (is (before.known k)) in
      this ∙ sym (searched_end (searched_archive archive m0) es now (ap (λ (p : ArchivePass). p.keys.asked) (sym this) ∙ same_asked)) ∙ before.holds k

  differ_by : (a b c : ℕ) → a ≡ b → (a ≡ c → ⊥) → (b == c) ≡ false
  differ_by a b c same differ = grind (arith, nat_tests)

  another_by : PassedTo m0 m1 k0 k1 (archive_searched (searched_archive archive m0) es start) (archive_searched (searched_archive archive m0) es now) → new ≡ index_passed (searched_archive archive m0) now es
      → (new.keys.asked ≡ now.keys.asked → ⊥) → k0 → archive_searched (searched_archive archive m0) es new ≡ archive_searched (searched_archive archive m0) es start
  another_by before this differ k =
      ap (λ p. archive_searched (searched_archive archive m0) es p) this
      ∙ sym (searched_more (searched_archive archive m0) es now (differ_by _ _ _ (ap (λ (p : ArchivePass). p.keys.asked) this) differ))
      ∙ before.holds k

  -- another pass
  pub another : PassedTo m0 m1 k0 k1 (archive_searched (searched_archive archive m0) es start) (archive_searched (searched_archive archive m0) es now) → m2 ≡ m1 → (k1 → k2) → (k1 → new ≡ index_passed (searched_archive archive m1) now es)
      → (new.keys.asked ≡ now.keys.asked → ⊥) → PassedTo m0 m2 k0 k2 (archive_searched (searched_archive archive m0) es start) (archive_searched (searched_archive archive m0) es new)
  another before same known is differ = record {
    same = same ∙ before.same;
    known = λ k. known (before.known k);
    holds = λ k. another_by before (passed before.same (is (before.known k))) differ k;
  }
