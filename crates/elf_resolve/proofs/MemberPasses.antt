-- A walk over the members of an archive so far, and what its end says.
use Rattle.std.proofs.Common.{◌≡◌, ◌==◌, ◌&&◌, add-zero, ℕ, ◌+◌, ◌<◌, ◌≤◌, Bool, true, false, List, [], ◌∷◌, ◌++◌, length, Option, None, Some, Result, Ok, Err, refl, sym, ap, subst, ◌∙◌, arith, append_assoc}
use Rattle.std.specs.Prelude.{if◌then◌else◌, map, option_map}
use Rattle.std.proofs.lemmas.List.{append-nil, map-append}
use Rattle.elf_archive.specs.Members.{names_passed}
use Rattle.elf_model.specs.Archive.{FileRange, is_name_table, member_data, padded_end}
use Rattle.elf_model.specs.Bytes.{field, slice}
use Rattle.elf_model.specs.LinkArchives.{LinkMember, LinkMembers, link_members, link_members_from, name_table}
use Rattle.elf_model.specs.LinkSymbols.{as_any}
use Rattle.elf_model.specs.declared.causes.Cause.{Cause}
use Rattle.elf_model.proofs.Slices.{field-slice}
use Rattle.elf_resolve.specs.MemberExtents.{ReadMemberHeader, member_refused}
use Rattle.elf_resolve.specs.MemberWalks.{PassedMembers}
use Rattle.elf_resolve.specs.Taken.{IsLinkFault, data_of, header_of}
use Rattle.elf_resolve.specs.declared.link_faults.LinkFault.{LinkFault}
use Rattle.elf_resolve.proofs.LinkFaultLaws.{fault_of_any}
use Rattle.elf_resolve.proofs.MemberWalks.{fewer_by_one, from_cut, from_end, from_member, one_fewer}
use Rattle.elf_resolve.proofs.MemberOffsets.{earlier_or, if_table, name_table_more}

-- members that were passed, and those that are left are found in so many turns
pub record PassedSoFar (file : List ℕ) (old now : List ℕ) (at : ℕ) (names : Option FileRange) : Type 0 where
  pub done : List LinkMember
  pub most : ℕ
  pub enough : length file < at + most
  pub members_are : (link_members file).members ≡ done ++ (link_members_from most file at).members
  pub refusal_is : (link_members file).refusal ≡ (link_members_from most file at).refusal
  pub added : now ≡ old ++ map header_of done
  pub names_are : names ≡ option_map data_of (name_table file done)

pub passes_begin : (file old : List ℕ) → PassedSoFar file old old 8 None
passes_begin file old = record {
  done = [];
  most = length file;
  enough = omega arith;
  members_are = refl;
  refusal_is = refl;
  added = sym (append-nil old);
  names_are = refl;
}

-- the table of names, by a header
pub table_by : (file header : List ℕ) (at : ℕ) → header ≡ slice file at 60 → is_name_table header 0 ≡ is_name_table file at
table_by file header at is =
    rw is (ap (λ n. n == 0x2020202020202f2f && field (slice file at 60) 8 8 == 0x2020202020202020) (field-slice file at 60 0 8 (omega arith) ∙ ap (λ n. field file n 8) (add-zero at))
    ∙ ap (λ n. field file at 8 == 0x2020202020202f2f && n == 0x2020202020202020) (field-slice file at 60 8 8 (omega arith)))

one_table : (names : Option FileRange) (before : Option LinkMember) (file header : List ℕ) (m : LinkMember) → names ≡ option_map data_of before → is_name_table header 0 ≡ is_name_table file m.header
    → names_passed names header m.extent ≡ option_map data_of (earlier_or before (if_table file m))
one_table names (Some table) file header m are is = rw are refl
one_table names None file header m are is = rw are (ap (λ t. if t then Some m.extent else None) is ∙ chosen (is_name_table file m.header))
  where
    chosen : (t : Bool) → (if t then Some m.extent else None) ≡ option_map data_of (if t then Some m else None)
    chosen true = refl
    chosen false = refl

pub passes_member : (file old now new header : List ℕ) (at : ℕ) (names after : Option FileRange) (extent : FileRange) → PassedSoFar file old now at names → ReadMemberHeader file at header extent → at + 60 ≤ extent.at
    → new ≡ now ++ at ∷ [] → after ≡ names_passed names header extent → PassedSoFar file old new (padded_end at (extent.at + extent.size)) after
passes_member file old now new header at names after extent p head past added named =
    let m : LinkMember = record { header = at; extent = extent } in
    let next = padded_end at (extent.at + extent.size) in
    let rest = link_members_from (one_fewer p.most) file next in
    let step = from_member file p.most at extent p.enough head.below head.data_are in
    record {
      done = p.done ++ m ∷ [];
      most = one_fewer p.most;
      enough = omega (arith, p.enough, fewer_by_one p.most, past);
      members_are = p.members_are ∙ ap (λ (w : LinkMembers). p.done ++ w.members) step ∙ sym (append_assoc p.done (m ∷ []) rest.members);
      refusal_is = p.refusal_is ∙ ap (λ (w : LinkMembers). w.refusal) step;
      added = added ∙ ap (λ l. l ++ at ∷ []) p.added ∙ append_assoc old (map header_of p.done) (at ∷ []) ∙ ap (λ l. old ++ l) (sym (map-append header_of p.done (m ∷ [])));
      names_are = named ∙ one_table names (name_table file p.done) file header m p.names_are (table_by file header at head.bytes) ∙ ap (λ t. option_map data_of t) (sym (name_table_more file p.done m));
    }

pub passes_end : (file old now : List ℕ) (at : ℕ) (names : Option FileRange) → length file ≤ at → PassedSoFar file old now at names → PassedMembers file old now names
passes_end file old now at names past p =
    let none = from_end file p.most at past in
    let all : (link_members file).members ≡ p.done = p.members_are ∙ ap (λ (w : LinkMembers). p.done ++ w.members) none ∙ append-nil p.done in
    record {
      none_cut = p.refusal_is ∙ ap (λ (w : LinkMembers). w.refusal) none;
      members = p.added ∙ ap (λ l. old ++ map header_of l) (sym all);
      names_are = p.names_are ∙ ap (λ l. option_map data_of (name_table file l)) (sym all);
    }

-- a member that is cut is the refusal
pub passes_cut : (file old now : List ℕ) (at : ℕ) (names : Option FileRange) (f : LinkFault) → PassedSoFar file old now at names → at < length file → IsLinkFault (member_refused at (member_data file at)) f
    → IsLinkFault (option_map as_any (link_members file).refusal) f
passes_cut file old now at names f p below says = by_data (member_data file at) refl
  where
    by_data : (found : Result FileRange Cause) → member_data file at ≡ found → IsLinkFault (option_map as_any (link_members file).refusal) f
    by_data (Ok extent) is = fault_of_any (option_map as_any (link_members file).refusal) f (subst (λ d. IsLinkFault (member_refused at d) f) is says)
    by_data (Err cause) is =
        let cut = p.refusal_is ∙ ap (λ (w : LinkMembers). w.refusal) (from_cut file p.most at cause p.enough below is) in
        subst (λ r. IsLinkFault r f) (sym (ap (λ r. option_map as_any r) cut)) (subst (λ d. IsLinkFault (member_refused at d) f) is says)
