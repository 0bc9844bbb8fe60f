-- Passes over the index of an archive: what they take, and that they end.
use Rattle.std.proofs.Common.{◌≡◌, ℕ, zero, suc, ◌+◌, ◌<◌, ◌≤◌, Bool, true, false, List, [], ◌∷◌, ◌++◌, length, length-append, get_or, set, refl, sym, ap, subst, ◌∙◌, arith}
use Rattle.std.specs.Prelude.{Contains, not, ◌&&◌, ◌==◌, if◌then◌else◌}
use Rattle.std.proofs.lemmas.Bool.{eq-eqb}
use Rattle.std.proofs.lemmas.Grind.{common_steps}
use Rattle.elf_model.specs.LinkPasses.{ArchivePass, LinkArchive, archive_searched, asks_for, entry_visited, index_passed, is_taken, member_taken, passes_made, takes_member, untaken}
use Rattle.elf_model.specs.declared.link_states.IndexEntry.{IndexEntry}
use Rattle.elf_resolve.specs.LinkLaws.{Reaches}
use Rattle.elf_resolve.specs.LinkLaws.Reaches.{Stays, TakesMembers}

-- an entry whose key takes no members, or whose member is taken, changes nothing
not_asked : (asks taken : Bool) → asks ≡ false → (asks && not taken) ≡ false
not_asked true taken e = cc
not_asked false taken e = refl

taken_already : (asks taken : Bool) → taken ≡ true → (asks && not taken) ≡ false
taken_already true taken e = ap not e
taken_already false taken e = refl

both_of : (asks taken : Bool) → asks ≡ true → taken ≡ false → (asks && not taken) ≡ true
both_of true taken a t = ap not t
both_of false taken a t = cc

asks_of : (asks taken : Bool) → (asks && not taken) ≡ true → asks ≡ true
asks_of true taken e = refl
asks_of false taken e = e

free_of : (asks taken : Bool) → (asks && not taken) ≡ true → taken ≡ false
free_of true true e = sym e
free_of true false e = refl
free_of false taken e = cc

-- a member that is taken is one less that is not
pub untaken-set : (taken : List Bool) (member : ℕ) → get_or taken member true ≡ false → untaken (set taken member true) + 1 ≡ untaken taken
untaken-set [] member free = cc
untaken-set (true ∷ taken) zero free = cc
untaken-set (false ∷ taken) zero free = grind (arith, common_steps)
untaken-set (true ∷ taken) (suc member) free = untaken-set taken member free
untaken-set (false ∷ taken) (suc member) free = grind (arith, common_steps, untaken-set taken member free)

-- two choices are equal if what differs in them does not count
choose : {A : Type 0} (b : Bool) (k x y : A) → (b ≡ false → x ≡ y) → (if b then k else x) ≡ (if b then k else y)
choose true k x y same = refl
choose false k x y same = same refl

differ_of : (a b : ℕ) → (a == b) ≡ false → a ≡ b → ⊥
differ_of a b differs same = let yes : (a == b) ≡ true = eq-eqb a b same in cc

module _ (archive : LinkArchive) where
  not_visited : (p : ArchivePass) (e : IndexEntry) → takes_member archive p e ≡ false → entry_visited archive p e ≡ p
  unfolding entry_visited
  not_visited p e isnt = ap (λ b. if b then member_taken archive p e else p) isnt

  visited : (p : ArchivePass) (e : IndexEntry) → takes_member archive p e ≡ true → entry_visited archive p e ≡ member_taken archive p e
  unfolding entry_visited
  visited p e does = ap (λ b. if b then member_taken archive p e else p) does

  pub visited_unasked : (p : ArchivePass) (e : IndexEntry) → asks_for archive.members p.keys e ≡ false → entry_visited archive p e ≡ p
  unfolding takes_member
  visited_unasked p e isnt = not_visited p e (not_asked (asks_for archive.members p.keys e) (is_taken p.taken e.member) isnt)

  pub visited_again : (p : ArchivePass) (e : IndexEntry) → is_taken p.taken e.member ≡ true → entry_visited archive p e ≡ p
  unfolding takes_member
  visited_again p e does = not_visited p e (taken_already (asks_for archive.members p.keys e) (is_taken p.taken e.member) does)

  pub visited_takes : (p : ArchivePass) (e : IndexEntry) → asks_for archive.members p.keys e ≡ true → is_taken p.taken e.member ≡ false → entry_visited archive p e ≡ member_taken archive p e
  unfolding takes_member
  visited_takes p e asks free = visited p e (both_of (asks_for archive.members p.keys e) (is_taken p.taken e.member) asks free)

  -- an entry after others
  pub index_passed-push : (p : ArchivePass) (es : List IndexEntry) (e : IndexEntry) → index_passed archive p (es ++ e ∷ []) ≡ entry_visited archive (index_passed archive p es) e
  index_passed-push p [] e = refl
  index_passed-push p (x ∷ es) e = index_passed-push (entry_visited archive p x) es e

  -- rows and members that are not taken are as many as before
  rows_after : (p : ArchivePass) (e : IndexEntry) → length (member_taken archive p e).rows ≡ length p.rows + 1
  unfolding member_taken
  rows_after p e = length-append p.rows _

  member_keeps : (p : ArchivePass) (e : IndexEntry) → is_taken p.taken e.member ≡ false → untaken (member_taken archive p e).taken + length (member_taken archive p e).rows ≡ untaken p.taken + length p.rows
  unfolding member_taken
  member_keeps p e free = omega (arith, untaken-set p.taken e.member free, rows_after p e)

  visit_by : (p : ArchivePass) (e : IndexEntry) (is : Bool) → takes_member archive p e ≡ is → untaken (entry_visited archive p e).taken + length (entry_visited archive p e).rows ≡ untaken p.taken + length p.rows
  unfolding takes_member
  visit_by p e true is = rw (visited p e is) (member_keeps p e (free_of (asks_for archive.members p.keys e) (is_taken p.taken e.member) is))
  visit_by p e false is = rw (not_visited p e is) refl

  visit_keeps : (p : ArchivePass) (e : IndexEntry) → untaken (entry_visited archive p e).taken + length (entry_visited archive p e).rows ≡ untaken p.taken + length p.rows
  visit_keeps p e = visit_by p e (takes_member archive p e) refl

  pub pass_keeps : (p : ArchivePass) (es : List IndexEntry) → untaken (index_passed archive p es).taken + length (index_passed archive p es).rows ≡ untaken p.taken + length p.rows
  pass_keeps p [] = refl
  pass_keeps p (e ∷ es) = pass_keeps (entry_visited archive p e) es ∙ visit_keeps p e

  -- rows are only added, and if none is, nothing changed
  grows_by : (p : ArchivePass) (e : IndexEntry) (is : Bool) → takes_member archive p e ≡ is → length p.rows ≤ length (entry_visited archive p e).rows
  grows_by p e true is = rw (visited p e is) (omega (arith, rows_after p e))
  grows_by p e false is = rw (not_visited p e is) (omega arith)

  visit_grows : (p : ArchivePass) (e : IndexEntry) → length p.rows ≤ length (entry_visited archive p e).rows
  visit_grows p e = grows_by p e (takes_member archive p e) refl

  pub pass_grows : (p : ArchivePass) (es : List IndexEntry) → length p.rows ≤ length (index_passed archive p es).rows
  pass_grows p [] = omega arith
  pass_grows p (e ∷ es) = omega (arith, visit_grows p e, pass_grows (entry_visited archive p e) es)

  still_by : (p : ArchivePass) (e : IndexEntry) (is : Bool) → takes_member archive p e ≡ is → length (entry_visited archive p e).rows ≡ length p.rows → takes_member archive p e ≡ false
  still_by p e true is same = absurd (omega (arith, same, ap (λ (q : ArchivePass). length q.rows) (visited p e is), rows_after p e))
  still_by p e false is same = is

  pub visit_still : (p : ArchivePass) (e : IndexEntry) → length (entry_visited archive p e).rows ≡ length p.rows → takes_member archive p e ≡ false
  visit_still p e same = still_by p e (takes_member archive p e) refl same

  pub pass_still : (p : ArchivePass) (es : List IndexEntry) → length (index_passed archive p es).rows ≡ length p.rows → index_passed archive p es ≡ p
  pass_still p [] same = refl
  pass_still p (e ∷ es) same =
      let first : length (entry_visited archive p e).rows ≡ length p.rows = omega (arith, visit_grows p e, pass_grows (entry_visited archive p e) es, same) in
      let stays : entry_visited archive p e ≡ p = not_visited p e (visit_still p e first) in
      ap (λ q. index_passed archive q es) stays ∙ pass_still p es (ap (λ (q : ArchivePass). length (index_passed archive q es).rows) (sym stays) ∙ same)

  -- a pass that asks for more keys takes a member
  pub fewer_untaken : (p : ArchivePass) (es : List IndexEntry) → ((index_passed archive p es).keys.asked ≡ p.keys.asked → ⊥) → untaken (index_passed archive p es).taken < untaken p.taken
  fewer_untaken p es differs =
      let not_still : length (index_passed archive p es).rows ≡ length p.rows → ⊥ = λ same. differs (ap (λ (q : ArchivePass). q.keys.asked) (pass_still p es same)) in
      omega (arith, pass_keeps p es, pass_grows p es, not_still)

  fewer : (p : ArchivePass) (es : List IndexEntry) → ((index_passed archive p es).keys.asked == p.keys.asked) ≡ false → untaken (index_passed archive p es).taken < untaken p.taken
  fewer p es differs = fewer_untaken p es (differ_of (index_passed archive p es).keys.asked p.keys.asked differs)

  -- enough passes are as good as more
  pub passes_enough : (n m : ℕ) (es : List IndexEntry) (p : ArchivePass) → untaken p.taken < n → untaken p.taken < m → passes_made n archive es p ≡ passes_made m archive es p
  passes_enough zero m es p below other = absurd (omega arith)
  passes_enough (suc n) zero es p below other = absurd (omega arith)
  passes_enough (suc n) (suc m) es p below other =
      let next = index_passed archive p es in
      choose (next.keys.asked == p.keys.asked) next (passes_made n archive es next) (passes_made m archive es next)
      (λ differs. passes_enough n m es next (omega (arith, fewer p es differs, below)) (omega (arith, fewer p es differs, other)))

  pub searched_as : (es : List IndexEntry) (p : ArchivePass) (n : ℕ) → untaken p.taken < n → passes_made n archive es p ≡ archive_searched archive es p
  unfolding archive_searched
  searched_as es p n below = passes_enough n (suc (untaken p.taken)) es p below (omega arith)

  -- a pass, and then the others
  searched_step : (es : List IndexEntry) (p : ArchivePass) → archive_searched archive es p
      ≡ (if (index_passed archive p es).keys.asked == p.keys.asked then index_passed archive p es else archive_searched archive es (index_passed archive p es))
  unfolding archive_searched
  searched_step es p =
      let next = index_passed archive p es in
      choose (next.keys.asked == p.keys.asked) next (passes_made (untaken p.taken) archive es next) (passes_made (suc (untaken next.taken)) archive es next)
      (λ differs. passes_enough (untaken p.taken) (suc (untaken next.taken)) es next (fewer p es differs) (omega arith))

  pub searched_end : (es : List IndexEntry) (p : ArchivePass) → (index_passed archive p es).keys.asked ≡ p.keys.asked → archive_searched archive es p ≡ index_passed archive p es
  searched_end es p same =
      searched_step es p ∙ ap (λ b. if b then index_passed archive p es else archive_searched archive es (index_passed archive p es)) (eq-eqb (index_passed archive p es).keys.asked p.keys.asked same)

  pub searched_more : (es : List IndexEntry) (p : ArchivePass) → ((index_passed archive p es).keys.asked == p.keys.asked) ≡ false → archive_searched archive es p ≡ archive_searched archive es (index_passed archive p es)
  searched_more es p differs =
      searched_step es p ∙ ap (λ b. if b then index_passed archive p es else archive_searched archive es (index_passed archive p es)) differs

  -- A MEMBER IS TAKEN ONLY FOR A KEY THAT ASKED FOR IT JUST BEFORE
  and_then : (entries : List IndexEntry) (p q r : ArchivePass) → Reaches archive entries p q → Reaches archive entries q r → Reaches archive entries p r
  and_then entries p q r (Stays same) rest = rest
  and_then entries p q r (TakesMembers from end entry there asks free taken) rest = TakesMembers from r entry there asks free (and_then entries (member_taken archive from entry) end r taken rest)

  visit_reaches : (entries : List IndexEntry) (p : ArchivePass) (e : IndexEntry) (is : Bool) → Contains entries e → takes_member archive p e ≡ is → Reaches archive entries p (entry_visited archive p e)
  unfolding takes_member
  visit_reaches entries p e true there is =
      subst (λ q. Reaches archive entries p q) (sym (visited p e is))
      (TakesMembers p (member_taken archive p e) e there (asks_of (asks_for archive.members p.keys e) (is_taken p.taken e.member) is)
      (free_of (asks_for archive.members p.keys e) (is_taken p.taken e.member) is) (Stays (member_taken archive p e)))
  visit_reaches entries p e false there is = subst (λ q. Reaches archive entries p q) (sym (not_visited p e is)) (Stays p)

  pass_reaches : (entries : List IndexEntry) (p : ArchivePass) (es : List IndexEntry) → ((e : IndexEntry) → Contains es e → Contains entries e) → Reaches archive entries p (index_passed archive p es)
  pass_reaches entries p [] among = Stays p
  pass_reaches entries p (e ∷ es) among =
      and_then entries p (entry_visited archive p e) (index_passed archive (entry_visited archive p e) es)
      (visit_reaches entries p e (takes_member archive p e) (among e (0, omega arith, refl)) refl)
      (pass_reaches entries (entry_visited archive p e) es (λ x c. among x (suc c.0, omega (arith, c.1), c.2)))

  passes_reach : (n : ℕ) (es : List IndexEntry) (p : ArchivePass) → Reaches archive es p (passes_made n archive es p)
  passes_reach zero es p = Stays p
  passes_reach (suc n) es p =
      let next = index_passed archive p es in
      let first = pass_reaches es p es (λ e c. c) in
      elim (next.keys.asked == p.keys.asked) as (λ b. Reaches archive es p (if b then next else passes_made n archive es next)) [
        | true ↦ first
        | false ↦ and_then es p next (passes_made n archive es next) first (passes_reach n es next)
      ]

  pub searched_reaches : (es : List IndexEntry) (p : ArchivePass) → Reaches archive es p (archive_searched archive es p)
  unfolding archive_searched
  searched_reaches es p = passes_reach (suc (untaken p.taken)) es p
