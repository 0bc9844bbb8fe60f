-- What is reported of a file, by its type.
use Rattle.std.proofs.Common.{rules, ◌≡◌, None, Some, Ok, false, refl, subst, ◌∙◌, arith, true}
use Rattle.elf_walk.specs.Prelude.{ReturnsListing}
use Rattle.elf_walk.specs.ToldListings.{is_unlisted}
use Rattle.elf_walk.specs.declared.options.ListOptions.{ListOptions}
use Rattle.elf_walk.proofs.FileMagicLaws.{left_front}
use Rattle.elf_walk.proofs.ListingToldLaws.{end_fails, fault_after, fault_fails, file_told, nothing_told, rest_within}
use Rattle.elf_walk.proofs.file_lists.ListFilesFileVisitor.visit.Goals as goal

pub returns-in-Err-clause-tells : goal.returns-in-Err-clause-tells
returns-in-Err-clause-tells g c =
    let rule = c.self.inside.rule in
    let asks = c.in-Err.ensures.asks in
    subst (λ (r : ListOptions). ReturnsListing r c.args.path.now c.args.src.now c.find_file_type.new.src c.args.out.now c.report_unread.new.out c.report_unread.result) c.self.view_is (record {
      kind = None;
      finds = λ file held. tt;
      told = c.report_unread.ensures;
      read = λ is. fault_fails c.args.src.now c.find_file_type.new.src c.in-Err.field-0 c.in-Err.ensures.fails;
      cost = λ file held. omega (arith, asks);
      ceiling = omega (arith, asks);
      budget = c.in-Err.ensures.within;
    })

pub returns-then-is_unlisted-clause-tells : goal.returns-then-is_unlisted-clause-tells
returns-then-is_unlisted-clause-tells g c =
    let rule = c.self.inside.rule in
    let asks = c.in-Ok.ensures.asks in
    let nothing : is_unlisted c.in-Ok.sort ≡ true = search rules in
    subst (λ (r : ListOptions). ReturnsListing r c.args.path.now c.args.src.now c.find_file_type.new.src c.args.out.now c.args.out.now (Ok 0)) c.self.view_is (record {
      kind = Some c.in-Ok.sort;
      finds = λ file held. c.in-Ok.ensures.finds file held;
      told = nothing_told c.in-Ok.sort rule c.args.path.now c.args.src.now c.args.out.now nothing;
      read = λ is. absurd (cc);
      cost = λ file held. omega (arith, asks);
      ceiling = omega (arith, asks);
      budget = c.in-Ok.ensures.within;
    })

pub returns-clause-tells : goal.returns-clause-tells
returns-clause-tells g c =
    let rule = c.self.inside.rule in
    let asks = c.in-Ok.ensures.asks in
    let keeps = c.in-Ok.ensures.keeps in
    let some : is_unlisted c.in-Ok.sort ≡ false = search rules in
    let pays = c.in-Ok.ensures.pays in
    let most = rw keeps.same_size at c.list_with_path_line-listed.ensures.asks.ceiling in
    subst (λ (r : ListOptions). ReturnsListing r c.args.path.now c.args.src.now c.list_with_path_line-listed.new.src c.args.out.now c.end_list.new.out c.end_list.result) c.self.view_is (record {
      kind = Some c.in-Ok.sort;
      finds = λ file held. c.in-Ok.ensures.finds file held;
      told = file_told c.in-Ok.sort rule c.args.path.now c.args.src.now c.args.out.now c.end_list.new.out c.end_list.result some (record {
        limits = _;
        after = record { headers = refl; budget = left_front rule.members rule.caps.limits.budget _ _ _ _ (omega (arith, c.requires.few)) asks pays };
        result = c.list_with_path_line-listed.result;
        between = c.list_with_path_line-listed.new.out;
        lists = λ file held. rw c.locate_file.ensures at (c.list_with_path_line-listed.ensures.lists file (keeps.same_file ∙ held));
        ends = c.end_list.ensures;
      });
      read = λ is. fault_after c.args.src.now c.find_file_type.new.src c.list_with_path_line-listed.new.src keeps
          (end_fails rule.caps.style.format c.args.path.now c.list_with_path_line-listed.result c.list_with_path_line-listed.new.out c.end_list.new.out c.end_list.result c.find_file_type.new.src c.list_with_path_line-listed.new.src
          c.end_list.ensures c.list_with_path_line-listed.ensures.says is);
      cost = λ file held.
          let cost = c.list_with_path_line-listed.ensures.cost file (keeps.same_file ∙ held) in
          omega (arith, asks, cost);
      ceiling = omega (arith, asks, most);
      budget = rest_within rule.caps.limits.budget _ _ _ (omega (arith, c.requires.few, asks)) c.in-Ok.ensures.within (rw pays at c.list_with_path_line-listed.ensures.asks.budget);
    })
