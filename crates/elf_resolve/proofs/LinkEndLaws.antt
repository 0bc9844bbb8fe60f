-- Where a link ends that is refused.
use Rattle.std.proofs.Common.{◌≡◌, ℕ, List, [], ◌∷◌, ◌++◌, length, take, refl, sym, ap, subst, ◌∙◌, inl, inr}
use Rattle.std.specs.Prelude.{Option, Some, Result, Ok, Err}
use Rattle.std.specs.List.{slice_get}
use Rattle.elf_model.specs.LinkArchives.{LinkFiles, row_refusal}
use Rattle.elf_model.specs.declared.link_states.LinkRow.{LinkRow}
use Rattle.elf_model.specs.declared.link_states.LinkRowKind.{LinkRowKind}
use Rattle.elf_resolve.specs.EndsAtRefusal.{EndsAtRefusal, EndsLink, HasBadScript, LeavesRows, NoneRefused, RefusedLast, StopsLink}
use Rattle.elf_resolve.specs.declared.link_faults.LinkFault.{LinkFault}
use Rattle.elf_resolve.specs.declared.link_faults.LinkFault.TheVariants.{Refused}
use Rattle.elf_resolve.specs.declared.link_files.LinkPlan.{LinkPlan}
use Rattle.elf_resolve.specs.declared.resolver.LinkEnd.{LinkEnd}
use Rattle.elf_resolve.specs.declared.resolver.Resolver.{Resolver}

get_after : (xs ys : List LinkRow) (y : LinkRow) → slice_get (xs ++ (y ∷ ys)) (length xs) ≡ Some y
get_after [] ys y = refl
get_after (x ∷ xs) ys y = get_after xs ys y

take_before : (xs ys : List LinkRow) → take (length xs) (xs ++ ys) ≡ xs
take_before [] [] = refl
take_before [] (y ∷ ys) = refl
take_before (x ∷ xs) ys = ap (λ l. x ∷ l) (take_before xs ys)

-- a refusal does not depend on the kind of a row
same_refusal : (files : LinkFiles) (row : LinkRow) (kind : LinkRowKind) → row_refusal files (record row { kind = kind }) ≡ row_refusal files row
unfolding row_refusal
same_refusal files row kind = refl

ends_at : (files : LinkFiles) (whole rows : List LinkRow) (index : Option ℕ) (end : LinkEnd) → end.row ≡ index → RefusedLast files rows whole index end.refusal → EndsAtRefusal files whole rows end
ends_at files whole rows index end row_is last =
    let first : take (length last.before) whole ≡ last.before =
    ap (λ w. take (length last.before) w) last.whole_is ∙ take_before last.before (record last.row { kind = last.kind } ∷ last.rest) in
    record {
      index = length last.before;
      row = record last.row { kind = last.kind };
      at = ap (λ w. slice_get w (length last.before)) last.whole_is ∙ get_after last.before last.rest (record last.row { kind = last.kind });
      refusal_is = λ moves. same_refusal files last.row last.kind ∙ last.refusal_is moves;
      none_before = subst (λ l. NoneRefused files l) (sym first) last.unrefused;
      row_is = row_is ∙ last.index_is;
      kind = last.row.kind;
      rows_are = last.rows_are ∙ ap (λ l. l ++ last.row ∷ []) (sym first);
    }

link_ends : (files : LinkFiles) (plan : LinkPlan) (whole rows : List LinkRow) (index : Option ℕ) (end : LinkEnd) → end.row ≡ index → StopsLink files (HasBadScript plan) rows whole index (Refused end.refusal) → EndsLink files plan whole rows end
link_ends files plan whole rows index end row_is (inl limit) = inl limit
link_ends files plan whole rows index end row_is (inr (inl script)) = inr (inl script)
link_ends files plan whole rows index end row_is (inr (inr last)) = inr (inr (ends_at files whole rows index end row_is last))

-- the fault at which inputs ended
pub taken_ends : (files : LinkFiles) (plan : LinkPlan) (link new : Resolver) (whole : List LinkRow) (end : LinkEnd) (r : Result (Unit {0}) LinkFault) → r ≡ Err (Refused end.refusal) → end.row ≡ link.row → new.link.rows.rows ≡ link.link.rows.rows
    → LeavesRows files (HasBadScript plan) link whole r → EndsLink files plan whole new.link.rows.rows end
taken_ends files plan link new whole end r is row_is rows leaves =
    subst (λ l. EndsLink files plan whole l end) (sym rows)
    (link_ends files plan whole link.link.rows.rows link.row end row_is (subst (λ q. LeavesRows files (HasBadScript plan) link whole q) is leaves))

-- a link of which nothing more is taken
pub leaves_ended : (files : LinkFiles) (is_script : Type 0) (link new : Resolver) (whole : List LinkRow) (r : Result (Unit {0}) LinkFault) → new ≡ link → r ≡ Ok tt → NoneRefused files link.link.rows.rows → LeavesRows files is_script new whole r
leaves_ended files is_script link new whole (Ok done) same is none = subst (λ (n : Resolver). NoneRefused files n.link.rows.rows) (sym same) none
leaves_ended files is_script link new whole (Err fault) same is none = absurd cc
