use Rattle.std.proofs.Common.{◌≡◌, List, ℕ, ◌++◌, drop, length, ◌∙◌, sym, ap, nat_cmp}
use Rattle.std.specs.Cmp.Lexicographic.{slice_cmp}
use Rattle.std.specs.Ordering.{ordering_then}
use Rattle.elf_options.proofs.JoinedLaws.{compared_after, decided}
use Rattle.elf_options.proofs.versioned_name.VersionedName.compare.Goals as goal

pub returns-in-Equal : goal.returns-in-Equal
returns-in-Equal c =
    let name : List ℕ = c.args.self.now.name.now in
    let behind : List ℕ = c.args.self.now.sign.now ++ c.args.self.now.version.now in
    let law = compared_after c.args.text.now name behind in
    let front = sym c.in-Equal.is ∙ c.cmp.ensures ∙ ap (λ text. slice_cmp nat_cmp text name) c.split_at_sign.ensures.front in
    let order : slice_cmp nat_cmp c.args.text.now (name ++ behind) ≡ slice_cmp nat_cmp (drop (length name) c.args.text.now) behind =
    law ∙ ap (λ order. ordering_then order (slice_cmp nat_cmp (drop (length name) c.args.text.now) behind)) (sym front) in
    c.compare_after.ensures ∙ ap (λ text. slice_cmp nat_cmp text behind) c.split_at_sign.ensures.behind ∙ sym order

pub returns-in_default : goal.returns-in_default
returns-in_default c =
    let name : List ℕ = c.args.self.now.name.now in
    let behind : List ℕ = c.args.self.now.sign.now ++ c.args.self.now.version.now in
    let law = compared_after c.args.text.now name behind in
    let front = c.cmp.ensures ∙ ap (λ text. slice_cmp nat_cmp text name) c.split_at_sign.ensures.front in
    decided c.cmp.result _ c.in_default.not-Equal ∙ ap (λ order. ordering_then order (slice_cmp nat_cmp (drop (length name) c.args.text.now) behind)) front ∙ sym law
