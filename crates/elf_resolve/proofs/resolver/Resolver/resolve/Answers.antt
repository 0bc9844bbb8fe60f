use Rattle.std.proofs.Common.{List, ℕ, ap, get_or, map, sym, subst, ◌∙◌}
use Rattle.std.specs.Borrow.{Bor}
use Rattle.elf_model.specs.LinkArchives.{files_as_inputs}
use Rattle.elf_resolve.specs.ListRooms.{HasListRoom}
use Rattle.elf_resolve.specs.OwnLinks.{IsOwnLink}
use Rattle.elf_resolve.specs.declared.resolver.Resolver.{Resolver}
use Rattle.elf_resolve.proofs.KeyMarkLaws.{faults_ended}
use Rattle.elf_resolve.proofs.ListedLaws.{listed_ended}
use Rattle.elf_resolve.proofs.ProblemLineLaws.{problems_are}
use Rattle.elf_resolve.proofs.OwnFileLaws.{files_own}
use Rattle.elf_resolve.proofs.OwnLinkLaws.{linked_own}
use Rattle.elf_resolve.proofs.TakenMemberLaws.{on_ok, on_ok_then}
use Rattle.elf_model.specs.LinkInputs.{Linking}
use Rattle.elf_resolve.proofs.LinkEndLaws.{taken_ends}
use Rattle.std.specs.Prelude.{None, Option}
use Rattle.elf_resolve.specs.Plans.{planned_files}
use Rattle.elf_resolve.specs.declared.room.LinkRoom.{LinkRoom}
use Rattle.elf_resolve.proofs.NamedRowLaws.{rows_are_named, rows_still}
use Rattle.elf_resolve.proofs.resolver.Resolver.resolve.Goals as goal

pub returns-clause-links : goal.returns-clause-links
returns-clause-links g c = λ inputs fresh static steps ends.
    on_ok_then _ _ c.end_with.result (λ was. c.end_with.ensures.same ∙ c.list_by_keys.ensures.same ∙ on_ok _ _ _ was (c.take_all-taken.ensures.links inputs fresh static steps)) (c.end_with.ensures.ends ends)

pub returns-clause-listed : goal.returns-clause-listed
returns-clause-listed g c = λ inputs fresh static steps ends.
    let all = planned_files (g.F.InputFiles.file c.args.files.now.files) c.args.plan.now c.args.self.now.room.headers in
    let names = map (λ (a : Bor (List ℕ)). a.now) c.args.asked.now in
    on_ok_then _ _ c.end_with.result (λ was.
    let made = on_ok _ _ _ was (c.take_all-taken.ensures.links inputs fresh static steps) in
    let own = subst (λ l. IsOwnLink l) (sym made) (linked_own (files_as_inputs all) names inputs (files_own all)) in
    listed_ended c.list_by_keys.new.self c.end_with.new.self c.end_with.ensures.rest
    (c.list_by_keys.ensures.lists (on_ok _ _ _ was (c.take_all-taken.ensures.room inputs fresh static steps)) own)) (c.end_with.ensures.ends ends)

pub returns-clause-marked : goal.returns-clause-marked
returns-clause-marked g c = λ inputs fresh static steps ends.
    let all = planned_files (g.F.InputFiles.file c.args.files.now.files) c.args.plan.now c.args.self.now.room.headers in
    let names = map (λ (a : Bor (List ℕ)). a.now) c.args.asked.now in
    on_ok_then _ _ c.end_with.result (λ was.
    let made = on_ok _ _ _ was (c.take_all-taken.ensures.links inputs fresh static steps) in
    let own = subst (λ l. IsOwnLink l) (sym made) (linked_own (files_as_inputs all) names inputs (files_own all)) in
    faults_ended c.list_by_keys.new.self c.end_with.new.self c.end_with.ensures.rest
    (c.list_by_keys.ensures.marks (on_ok _ _ _ was (c.take_all-taken.ensures.room inputs fresh static steps)) own)) (c.end_with.ensures.ends ends)

pub returns-clause-problems : goal.returns-clause-problems
returns-clause-problems g c = λ inputs format names_of fresh static steps ends.
    let all = planned_files (g.F.InputFiles.file c.args.files.now.files) c.args.plan.now c.args.self.now.room.headers in
    let names = map (λ (a : Bor (List ℕ)). a.now) c.args.asked.now in
    on_ok_then _ _ c.end_with.result (λ was.
    let made = on_ok _ _ _ was (c.take_all-taken.ensures.links inputs fresh static steps) in
    let own = subst (λ l. IsOwnLink l) (sym made) (linked_own (files_as_inputs all) names inputs (files_own all)) in
    problems_are format names_of c.end_with.new.self ends
    (faults_ended c.list_by_keys.new.self c.end_with.new.self c.end_with.ensures.rest
    (c.list_by_keys.ensures.marks (on_ok _ _ _ was (c.take_all-taken.ensures.room inputs fresh static steps)) own))) (c.end_with.ensures.ends ends)

pub returns-clause-output : goal.returns-clause-output
returns-clause-output g c = ap (λ (r : Resolver). r.output) c.end_with.ensures.rest ∙ c.list_by_keys.ensures.output

pub returns-clause-names : goal.returns-clause-names
returns-clause-names g c = λ inputs fresh static steps ends.
    let all = planned_files (g.F.InputFiles.file c.args.files.now.files) c.args.plan.now c.args.self.now.room.headers in
    let names = ap (λ (r : LinkRoom). r.names) (c.end_with.ensures.room ∙ c.list_by_keys.ensures.room) in
    let rows = ap (λ (l : Linking). l.rows) (c.end_with.ensures.same ∙ c.list_by_keys.ensures.same) in
    on_ok_then _ _ c.end_with.result (λ was. rows_still all c.take_all-taken.new.self c.end_with.new.self names rows (on_ok _ _ _ was (c.take_all-taken.ensures.names inputs fresh static steps))) (c.end_with.ensures.ends ends)

pub returns-clause-named : goal.returns-clause-named
returns-clause-named g c = λ inputs path fresh static steps paths ends.
    let all = planned_files (g.F.InputFiles.file c.args.files.now.files) c.args.plan.now c.args.self.now.room.headers in
    let names = ap (λ (r : LinkRoom). r.names) (c.end_with.ensures.room ∙ c.list_by_keys.ensures.room) in
    let rows = ap (λ (l : Linking). l.rows) (c.end_with.ensures.same ∙ c.list_by_keys.ensures.same) in
    on_ok_then _ _ c.end_with.result
    (λ was.
    let room : HasListRoom c.take_all-taken.new.self = on_ok _ _ _ was (c.take_all-taken.ensures.room inputs fresh static steps) in
    rows_are_named all path (g.F.InputFiles.text c.take_all-taken.new.files.files) c.end_with.new.self (λ input. ap (λ (t : ℕ → Option (List ℕ)). t input) c.take_all-taken.ensures.text ∙ paths input)
    (λ index. ap (λ v. get_or v.items index None) (c.end_with.ensures.kinds ∙ c.list_by_keys.ensures.kinds) ∙ room.kinds index)
    (rows_still all c.take_all-taken.new.self c.end_with.new.self names rows (on_ok _ _ _ was (c.take_all-taken.ensures.names inputs fresh static steps))))
    (c.end_with.ensures.ends ends)

pub returns-clause-kinds : goal.returns-clause-kinds
returns-clause-kinds g c = λ inputs fresh static steps ends.
    on_ok_then _ _ c.end_with.result
    (λ was.
    let room : HasListRoom c.take_all-taken.new.self = on_ok _ _ _ was (c.take_all-taken.ensures.room inputs fresh static steps) in
    λ index.
    ap (λ (r : Resolver). get_or r.kinds.items index None) c.end_with.ensures.rest
    ∙ ap (λ v. get_or v.items index None) c.list_by_keys.ensures.kinds
    ∙ room.kinds index) (c.end_with.ensures.ends ends)

pub returns-clause-refused : goal.returns-clause-refused
returns-clause-refused g c = λ inputs end fresh static steps ends.
    let all = planned_files (g.F.InputFiles.file c.args.files.now.files) c.args.plan.now c.args.self.now.room.headers in
    on_ok_then _ _ c.end_with.result (λ was.
    taken_ends all c.args.plan.now c.take_all-taken.new.self c.end_with.new.self _ end c.take_all-taken.result was.0 (was.1 ∙ c.list_by_keys.ensures.row)
    (ap (λ (l : Linking). l.rows) (c.end_with.ensures.same ∙ c.list_by_keys.ensures.same)) (c.take_all-taken.ensures.leaves inputs fresh static steps)) (c.end_with.ensures.refused end ends)
