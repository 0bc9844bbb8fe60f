-- What is left after an archive is searched: no undefined key of its index, except of members that are
-- taken.
use Rattle.std.proofs.Common.{◌≡◌, ℕ, zero, suc, ◌<◌, Bool, true, false, List, [], ◌∷◌, length, get_or, set, refl, sym, ap, subst, ◌∙◌, arith}
use Rattle.std.specs.Prelude.{Contains, Some, ◌==◌, not, if◌then◌else◌}
use Rattle.std.proofs.lemmas.Bool.{eq-eqb, eqb-true}
use Rattle.elf_model.specs.LinkKeys.{LinkKeys, entry_named_as}
use Rattle.elf_model.specs.LinkPasses.{ArchivePass, LinkArchive, archive_searched, asks_for, entry_visited, index_name, index_passed, is_new, is_taken, key_of_entry, member_taken, passes_made, takes_member, takes_members, untaken}
use Rattle.elf_model.specs.declared.link_states.IndexEntry.{IndexEntry}
use Rattle.elf_model.specs.declared.link_states.KeyEntry.{KeyEntry}
use Rattle.elf_model.specs.declared.link_states.KeyState.{KeyState}
use Rattle.elf_model.specs.declared.link_states.KeyState.TheVariants.{Undefined}
use Rattle.elf_resolve.specs.KeyOrders.{AreUnrestricted, AskedAreKnown, IsQuiet}
use Rattle.elf_resolve.proofs.FollowLaws.{Follows, follows_itself, follows_object, follows_then}
use Rattle.elf_resolve.proofs.PassLaws.{fewer_untaken, visited_again, visited_takes}

-- a member that is taken stays so
taken_set : (taken : List Bool) (i j : ℕ) → get_or taken j true ≡ true → get_or (set taken i true) j true ≡ true
taken_set [] i j is = is
taken_set (b ∷ taken) zero zero is = refl
taken_set (b ∷ taken) zero (suc j) is = is
taken_set (b ∷ taken) (suc i) zero is = is
taken_set (b ∷ taken) (suc i) (suc j) is = taken_set taken i j is

taken_here : (taken : List Bool) (i : ℕ) → get_or (set taken i true) i true ≡ true
taken_here [] i = refl
taken_here (b ∷ taken) zero = refl
taken_here (b ∷ taken) (suc i) = taken_here taken i

apart : (b : Bool) → b ≡ false → b ≡ true → ⊥
apart b first second = cc

module _ (archive : LinkArchive) (plain : (member : ℕ) → AreUnrestricted (archive.members.objects member).symbols) where
  -- an entry, and a pass
  visit_by : (p : ArchivePass) (e : IndexEntry) (does : Bool) → AskedAreKnown p.keys → Follows p.keys (if does then member_taken archive p e else p).keys
  unfolding member_taken
  visit_by p e true known = follows_object (Some (length p.rows)) p.keys (archive.members.objects e.member) (plain e.member) known
  visit_by p e false known = follows_itself p.keys known

  follows_visit : (p : ArchivePass) (e : IndexEntry) → AskedAreKnown p.keys → Follows p.keys (entry_visited archive p e).keys
  unfolding entry_visited
  follows_visit p e known = visit_by p e (takes_member archive p e) known

  pub follows_pass : (p : ArchivePass) (es : List IndexEntry) → AskedAreKnown p.keys → Follows p.keys (index_passed archive p es).keys
  follows_pass p [] known = follows_itself p.keys known
  follows_pass p (e ∷ es) known =
      let first = follows_visit p e known in
      follows_then p.keys (entry_visited archive p e).keys (index_passed archive (entry_visited archive p e) es).keys first (follows_pass (entry_visited archive p e) es first.known)

  -- what is taken stays so
  visit_taken_by : (p : ArchivePass) (e : IndexEntry) (does : Bool) (m : ℕ) → is_taken p.taken m ≡ true → is_taken (if does then member_taken archive p e else p).taken m ≡ true
  unfolding member_taken
  visit_taken_by p e true m is = taken_set p.taken e.member m is
  visit_taken_by p e false m is = is

  visit_taken : (p : ArchivePass) (e : IndexEntry) (m : ℕ) → is_taken p.taken m ≡ true → is_taken (entry_visited archive p e).taken m ≡ true
  unfolding entry_visited
  visit_taken p e m is = visit_taken_by p e (takes_member archive p e) m is

  pass_taken : (p : ArchivePass) (es : List IndexEntry) (m : ℕ) → is_taken p.taken m ≡ true → is_taken (index_passed archive p es).taken m ≡ true
  pass_taken p [] m is = is
  pass_taken p (e ∷ es) m is = pass_taken (entry_visited archive p e) es m (visit_taken p e m is)

  -- an entry whose key asks has its member taken when it is visited
  member_is_taken : (p : ArchivePass) (e : IndexEntry) → is_taken (member_taken archive p e).taken e.member ≡ true
  unfolding member_taken
  member_is_taken p e = taken_here p.taken e.member

  asked_by : (p : ArchivePass) (e : IndexEntry) (taken : Bool) → is_taken p.taken e.member ≡ taken → asks_for archive.members p.keys e ≡ true → is_taken (entry_visited archive p e).taken e.member ≡ true
  asked_by p e true is asks = subst (λ (q : ArchivePass). is_taken q.taken e.member ≡ true) (sym (visited_again archive p e is)) is
  asked_by p e false is asks = subst (λ (q : ArchivePass). is_taken q.taken e.member ≡ true) (sym (visited_takes archive p e asks is)) (member_is_taken p e)

  -- the key of an entry is the same one before, if nothing new is asked for
  same_key_by : (p q : LinkKeys) (e : IndexEntry) (before after : Bool) → is_new (entry_named_as p e.key).state ≡ before → is_new (entry_named_as q e.key).state ≡ after → (after ≡ true → before ≡ true)
      → (entry_named_as p (if after then e.default_key else e.key)).state ≡ Undefined → (if before then e.default_key else e.key) ≡ (if after then e.default_key else e.key)
  same_key_by p q e true true was is kept u = refl
  same_key_by p q e false false was is kept u = refl
  same_key_by p q e false true was is kept u = let lost = kept refl in cc
  same_key_by p q e true false was is kept u = absurd (apart (is_new (entry_named_as p e.key).state) (ap is_new u) was)

  same_key : (p q : LinkKeys) (e : IndexEntry) → IsQuiet p q → (entry_named_as p (key_of_entry q e)).state ≡ Undefined → key_of_entry p e ≡ key_of_entry q e
  same_key p q e quiet u = same_key_by p q e (is_new (entry_named_as p e.key).state) (is_new (entry_named_as q e.key).state) refl refl (quiet.new e.key) u

  not_gone : (p q : KeyEntry) (gone : Bool) → p.is_gone ≡ gone → (p.is_gone ≡ true → q.is_gone ≡ true) → q.is_gone ≡ false → gone ≡ false
  not_gone p q true is kept none = let lost = kept is in cc
  not_gone p q false is kept none = refl

  takes_undefined : (s : KeyState) (gone defines : Bool) → s ≡ Undefined → gone ≡ false → takes_members s gone defines ≡ true
  takes_undefined s gone defines u none = ap (λ t. takes_members t gone defines) u ∙ ap not none

  asks_undefined : (p q : LinkKeys) (e : IndexEntry) → IsQuiet p q → (entry_named_as q (key_of_entry q e)).state ≡ Undefined → (entry_named_as q (key_of_entry q e)).is_gone ≡ false → asks_for archive.members p e ≡ true
  unfolding asks_for
  asks_undefined p q e quiet u none =
      let before : (entry_named_as p (key_of_entry q e)).state ≡ Undefined = quiet.undefined (key_of_entry q e) u in
      let key : key_of_entry p e ≡ key_of_entry q e = same_key p q e quiet before in
      takes_undefined (entry_named_as p (key_of_entry p e)).state (entry_named_as p (key_of_entry p e)).is_gone (archive.members.defines e.member (index_name p e))
      (ap (λ k. (entry_named_as p k).state) key ∙ before)
      (ap (λ k. (entry_named_as p k).is_gone) key
      ∙ not_gone (entry_named_as p (key_of_entry q e)) (entry_named_as q (key_of_entry q e)) (entry_named_as p (key_of_entry q e)).is_gone refl (quiet.gone (key_of_entry q e)) none)

  -- A LAST PASS takes the members of all undefined keys
  last_takes : (p : ArchivePass) (es : List IndexEntry) (e : IndexEntry) → AskedAreKnown p.keys → (index_passed archive p es).keys.asked ≡ p.keys.asked → Contains es e
      → (let q = index_passed archive p es in (entry_named_as q.keys (key_of_entry q.keys e)).state ≡ Undefined → (entry_named_as q.keys (key_of_entry q.keys e)).is_gone ≡ false → is_taken q.taken e.member ≡ true)
  last_takes p [] e known same (k, within, is) u none = absurd (omega arith)
  last_takes p (x ∷ es) e known same (zero, within, is) u none =
      let q = index_passed archive p (x ∷ es) in
      let quiet : IsQuiet p.keys q.keys = (follows_pass p (x ∷ es) known).quiet same in
      subst (λ y. is_taken q.taken y.member ≡ true) is
      (pass_taken (entry_visited archive p x) es x.member
      (asked_by p x (is_taken p.taken x.member) refl
      (subst (λ y. asks_for archive.members p.keys y ≡ true) (sym is) (asks_undefined p.keys q.keys e quiet u none))))
  last_takes p (x ∷ es) e known same (suc k, within, is) u none =
      let first = follows_visit p x known in
      let rest = follows_pass (entry_visited archive p x) es first.known in
      last_takes (entry_visited archive p x) es e first.known (omega (arith, first.grows, rest.grows, same)) (k, omega (arith, within), is) u none

  -- A SEARCH ENDS IN A LAST PASS
  record EndsIn (es : List IndexEntry) (end : ArchivePass) : Type 0 where
    start : ArchivePass
    known : AskedAreKnown start.keys
    same : (index_passed archive start es).keys.asked ≡ start.keys.asked
    is : end ≡ index_passed archive start es

  ends_by : (n : ℕ) (es : List IndexEntry) (p : ArchivePass) (same : Bool) → AskedAreKnown p.keys → ((index_passed archive p es).keys.asked == p.keys.asked) ≡ same
      → (same ≡ false → EndsIn es (passes_made n archive es (index_passed archive p es))) → EndsIn es (if same then index_passed archive p es else passes_made n archive es (index_passed archive p es))
  ends_by n es p true known is rest = record { start = p; known = known; same = eqb-true (index_passed archive p es).keys.asked p.keys.asked is; is = refl }
  ends_by n es p false known is rest = rest refl

  same_itself : (b : ℕ) → (b == b) ≡ true
  same_itself b = eq-eqb b b refl

  differs : (a b : ℕ) → (a == b) ≡ false → a ≡ b → ⊥
  differs a b is same = let at : (b == b) ≡ false = subst (λ x. (x == b) ≡ false) same is in apart (b == b) at (same_itself b)

  ends_in : (n : ℕ) (es : List IndexEntry) (p : ArchivePass) → untaken p.taken < n → AskedAreKnown p.keys → EndsIn es (passes_made n archive es p)
  ends_in zero es p below known = absurd (omega (arith, below))
  ends_in (suc n) es p below known =
      ends_by n es p ((index_passed archive p es).keys.asked == p.keys.asked) known refl
      (λ is. ends_in n es (index_passed archive p es)
      (omega (arith, below, fewer_untaken archive p es (λ same. differs (index_passed archive p es).keys.asked p.keys.asked is same)))
      (follows_pass p es known).known)

  taken_at_end : (es : List IndexEntry) (end : ArchivePass) (e : IndexEntry) → EndsIn es end → Contains es e
      → (entry_named_as end.keys (key_of_entry end.keys e)).state ≡ Undefined → (entry_named_as end.keys (key_of_entry end.keys e)).is_gone ≡ false → is_taken end.taken e.member ≡ true
  taken_at_end es end e ends there u none =
      ap (λ (q : ArchivePass). is_taken q.taken e.member) ends.is
      ∙ last_takes ends.start es e ends.known ends.same there
      (ap (λ (q : ArchivePass). (entry_named_as q.keys (key_of_entry q.keys e)).state) (sym ends.is) ∙ u)
      (ap (λ (q : ArchivePass). (entry_named_as q.keys (key_of_entry q.keys e)).is_gone) (sym ends.is) ∙ none)

  searched_ends : (es : List IndexEntry) (p : ArchivePass) → AskedAreKnown p.keys → EndsIn es (archive_searched archive es p)
  unfolding archive_searched
  searched_ends es p known = ends_in (suc (untaken p.taken)) es p (omega arith) known

-- AFTER A SEARCH
pub none_left : (archive : LinkArchive) (entries : List IndexEntry) (pass : ArchivePass) (entry : IndexEntry)
    → ((member : ℕ) → AreUnrestricted (archive.members.objects member).symbols) → AskedAreKnown pass.keys → Contains entries entry
    → (let end = archive_searched archive entries pass in let known = entry_named_as end.keys (key_of_entry end.keys entry) in
    known.state ≡ Undefined → known.is_gone ≡ false → is_taken end.taken entry.member ≡ true)
none_left archive entries pass entry plain known there =
    taken_at_end archive plain entries (archive_searched archive entries pass) entry (searched_ends archive plain entries pass known) there
