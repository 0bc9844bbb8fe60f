-- The names of members that are held for the rows of a link.
use Rattle.std.proofs.Common.{◌≡◌, ℕ, zero, suc, ◌+◌, ◌<◌, ◌≤◌, true, false, List, [], ◌∷◌, ◌++◌, get_or, length, map, append_assoc, refl, sym, ap, ◌∙◌, arith}
use Rattle.std.specs.Prelude.{◌==◌, if◌then◌else◌, Option, None, Some}
use Rattle.std.specs.List.{slice_get}
use Rattle.std.specs.List.Sorted.{IsStrictlyIncreasing}
use Rattle.std.proofs.lemmas.Bool.Decides.{nat_tests}
use Rattle.std.proofs.lemmas.List.{append-nil}
use Rattle.elf_model.specs.Archive.{FileRange, member_name}
use Rattle.elf_model.specs.LinkArchives.{LINK_NAME_BYTES, link_members, name_table, or_no_name, table_before}
use Rattle.elf_model.specs.Names.{DisplayedName}
use Rattle.elf_model.specs.declared.link_states.LinkRow.{LinkRow}
use Rattle.elf_resolve.specs.MemberNames.{NamedMember, RowName, name_of_row_in, row_of_name}
use Rattle.elf_resolve.specs.RowNames.{AddsName, HeldNames, KeepsMemberNames, member_names, names_of_row, names_of_rows}
use Rattle.elf_resolve.proofs.MemberTaking.{member_of_index}

-- ONE ROW MORE
pub names_push : (named : ℕ → ℕ → DisplayedName) (i : ℕ) (rows : List LinkRow) (row : LinkRow)
    → names_of_rows named i (rows ++ row ∷ []) ≡ names_of_rows named i rows ++ names_of_row named (i + length rows) row.input row.member
names_push named i [] row =
    let here : i + 0 ≡ i = omega arith in
    append-nil (names_of_row named i row.input row.member) ∙ ap (λ n. names_of_row named n row.input row.member) (sym here)
names_push named i (r ∷ rows) row =
    let next : i + 1 + length rows ≡ i + suc (length rows) = omega arith in
    ap (λ l. names_of_row named i r.input r.member ++ l) (names_push named (i + 1) rows row)
    ∙ sym (append_assoc (names_of_row named i r.input r.member) (names_of_rows named (i + 1) rows) (names_of_row named (i + 1 + length rows) row.input row.member))
    ∙ ap (λ n. (names_of_row named i r.input r.member ++ names_of_rows named (i + 1) rows) ++ names_of_row named n row.input row.member) next

-- of a file that is no member
pub file_named : (named : ℕ → ℕ → DisplayedName) (rows now : List LinkRow) (row : LinkRow) (held : List RowName) → now ≡ rows ++ row ∷ [] → row.member ≡ None → held ≡ names_of_rows named 0 rows
    → held ≡ names_of_rows named 0 now
file_named named rows now row held added none is =
    is ∙ sym (append-nil (names_of_rows named 0 rows)) ∙ ap (λ m. names_of_rows named 0 rows ++ names_of_row named (0 + length rows) row.input m) (sym none)
    ∙ sym (names_push named 0 rows row) ∙ ap (λ l. names_of_rows named 0 l) (sym added)

-- of a member, whose name is added
pub member_named : (named : ℕ → ℕ → DisplayedName) (rows now : List LinkRow) (row : LinkRow) (index member : ℕ) (held after : List RowName) → now ≡ rows ++ row ∷ [] → index ≡ length rows → row.member ≡ Some member
    → AddsName held after index (named row.input member) → held ≡ names_of_rows named 0 rows → after ≡ names_of_rows named 0 now
member_named named rows now row index member held after added at is_member name is =
    let one = λ (n : ℕ). (record { row = n; name = named row.input member }) ∷ [] in
    let place : index ≡ 0 + length rows = omega (arith, at) in
    name ∙ ap (λ h. h ++ one index) is ∙ ap (λ n. names_of_rows named 0 rows ++ one n) place
    ∙ ap (λ m. names_of_rows named 0 rows ++ names_of_row named (0 + length rows) row.input m) (sym is_member)
    ∙ sym (names_push named 0 rows row) ∙ ap (λ l. names_of_rows named 0 l) (sym added)

-- NAMES ARE KEPT
pub keeps_itself : (input : ℕ) (mine : ℕ → DisplayedName) (rows : List LinkRow) (held : List RowName) → KeepsMemberNames input mine rows rows held held
keeps_itself input mine rows held = record { keeps = λ named same is. is }

pub keeps_then : (input : ℕ) (mine then_mine : ℕ → DisplayedName) (a b c : List LinkRow) (x y z : List RowName) → then_mine ≡ mine → KeepsMemberNames input mine a b x y → KeepsMemberNames input then_mine b c y z → KeepsMemberNames input mine a c x z
keeps_then input mine then_mine a b c x y z same first second =
    record { keeps = λ named is held. second.keeps named (is ∙ sym same) (first.keeps named is held) }

pub held_first : (input : ℕ) (known : Type 0) (mine : ℕ → DisplayedName) (rows : List LinkRow) (held : List RowName) → HeldNames input known mine mine rows rows held held
held_first input known mine rows held = record { same = refl; keeps = λ k. keeps_itself input mine rows held }

pub held_then : (input : ℕ) (known : Type 0) (mine then_mine after : ℕ → DisplayedName) (a b c : List LinkRow) (x y z : List RowName) (still : Type 0) → (known → still) → HeldNames input known mine then_mine a b x y → after ≡ then_mine
    → (still → KeepsMemberNames input then_mine b c y z) → HeldNames input known mine after a c x z
held_then input known mine then_mine after a b c x y z still known_still first same second = record {
  same = same ∙ first.same;
  keeps = λ k. keeps_then input mine then_mine a b c x y z first.same (first.keeps k) (second (known_still k));
}

pub keeps_member : (mine : ℕ → DisplayedName) (rows now : List LinkRow) (row : LinkRow) (index input member : ℕ) (held after : List RowName) → now ≡ rows ++ row ∷ [] → index ≡ length rows → row.input ≡ input → row.member ≡ Some member
    → AddsName held after index (mine member) → KeepsMemberNames input mine rows now held after
keeps_member mine rows now row index input member held after added at input_is is_member name = record {
  keeps = λ named is. member_named named rows now row index member held after added at is_member
      (name ∙ ap (λ f. held ++ (record { row = index; name = f member }) ∷ []) (sym (ap named input_is ∙ is)));
}

-- THE NAME OF A MEMBER that was read
pub name_by_file : (known : Option (List ℕ)) (file : List ℕ) (member at : ℕ) (table : Option FileRange) (extent : FileRange) (name : DisplayedName) → known ≡ Some file → (member_of_index file member).header ≡ at
    → table ≡ table_before (name_table file (link_members file).members) (member_of_index file member).header → NamedMember file table at extent name → name ≡ member_names known member
unfolding member_names
name_by_file known file member at table extent name is here names read =
    let members = (link_members file).members in
    let other : member_name file LINK_NAME_BYTES (table_before (name_table file members) (member_of_index file member).header) (member_of_index file member).header ≡ member_name file LINK_NAME_BYTES table at =
    ap (λ t. member_name file LINK_NAME_BYTES t (member_of_index file member).header) (sym names) ∙ ap (λ n. member_name file LINK_NAME_BYTES table n) here in
    sym (ap (λ k. member_names k member) is ∙ ap or_no_name (other ∙ read.named))

-- THE ROWS OF NAMES ascend from an index on
record RisesFrom (first : ℕ) (rows : List ℕ) : Type 0 where
  rises : IsStrictlyIncreasing rows
  from : 0 < length rows → first ≤ get_or rows 0 0

rises_more : (first : ℕ) (rows : List ℕ) → RisesFrom (first + 1) rows → RisesFrom first (first ∷ rows)
rises_more first rows rest = record { rises = by; from = λ some. omega arith } where
  by : (k : ℕ) → k + 1 < length (first ∷ rows) → get_or (first ∷ rows) k 0 < get_or (first ∷ rows) (k + 1) 0
  by zero below = let later = rest.from (omega (arith, below)) in omega (arith, later)
  by (suc k) below =
      let next : suc k + 1 ≡ suc (k + 1) = omega arith in
      let less = rest.rises k (omega (arith, below)) in
      omega (arith, less, ap (λ n. get_or (first ∷ rows) n 0) next)

names_rise : (named : ℕ → ℕ → DisplayedName) (i : ℕ) (rows : List LinkRow) → RisesFrom i (map row_of_name (names_of_rows named i rows))
names_rise named i [] = record { rises = λ k below. absurd (omega (arith, below)); from = λ some. absurd (omega (arith, some)) }
names_rise named i (row ∷ rows) = by row.member (names_rise named (i + 1) rows) where
  by : (member : Option ℕ) → RisesFrom (i + 1) (map row_of_name (names_of_rows named (i + 1) rows)) → RisesFrom i (map row_of_name (names_of_row named i row.input member ++ names_of_rows named (i + 1) rows))
  by None rest = record { rises = rest.rises; from = λ some. let later = rest.from some in omega (arith, later) }
  by (Some member) rest = rises_more i (map row_of_name (names_of_rows named (i + 1) rows)) rest

pub names_ascend : (named : ℕ → ℕ → DisplayedName) (rows : List LinkRow) → IsStrictlyIncreasing (map row_of_name (names_of_rows named 0 rows))
names_ascend named rows = (names_rise named 0 rows).rises

-- THE NAME OF A ROW is its member's
pub name_held : (named : ℕ → ℕ → DisplayedName) (i k : ℕ) (rows : List LinkRow) (row : LinkRow) (member : ℕ) → slice_get rows k ≡ Some row → row.member ≡ Some member
    → name_of_row_in (names_of_rows named i rows) (i + k) ≡ named row.input member
name_held named i k [] row member at is = absurd cc
name_held named i zero (r ∷ rows) row member at is =
    let same : r ≡ row = cc in
    let yes : (i == i + 0) ≡ true = grind (arith, nat_tests) in
    ap (λ (x : LinkRow). name_of_row_in (names_of_row named i x.input x.member ++ names_of_rows named (i + 1) rows) (i + 0)) same
    ∙ ap (λ m. name_of_row_in (names_of_row named i row.input m ++ names_of_rows named (i + 1) rows) (i + 0)) is
    ∙ ap (λ t. if t then named row.input member else name_of_row_in (names_of_rows named (i + 1) rows) (i + 0)) yes
name_held named i (suc k) (r ∷ rows) row member at is = by r.member (ap (λ n. name_of_row_in (names_of_rows named (i + 1) rows) n) (sym next) ∙ name_held named (i + 1) k rows row member at is) where
  next : i + 1 + k ≡ i + suc k
  next = omega arith

  no_match : (i == i + suc k) ≡ false
  no_match = grind (arith, nat_tests)

  by : (m : Option ℕ) → name_of_row_in (names_of_rows named (i + 1) rows) (i + suc k) ≡ named row.input member → name_of_row_in (names_of_row named i r.input m ++ names_of_rows named (i + 1) rows) (i + suc k) ≡ named row.input member
  by None rest = rest
  by (Some other) rest = ap (λ t. if t then named r.input other else name_of_row_in (names_of_rows named (i + 1) rows) (i + suc k)) no_match ∙ rest
