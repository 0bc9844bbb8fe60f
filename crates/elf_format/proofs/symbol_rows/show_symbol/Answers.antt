-- In the standards' names a symbol's line is the same on every machine.
use Rattle.std.proofs.Common.{◌≡◌, ℕ, false, List, refl, ap, ◌∙◌, subst}
use Rattle.elf_model.specs.Prelude.{e_machine, named_line, places, symbol_prefix}
use Rattle.elf_model.specs.declared.formats.Format.{Format}
use Rattle.elf_model.specs.Names.DisplayedName.{Whole}
use Rattle.elf_source.specs.Output.{OutPuts}
use Rattle.elf_source.proofs.GrowthLaws.{grows_put}
use Rattle.elf_format.proofs.symbol_rows.show_symbol.Goals as goal

any-machine : (format : Format) (machine other : ℕ) (file : List ℕ) (at section index : ℕ)
    → symbol_prefix format false machine file at section index ≡ symbol_prefix format false other file at section index
unfolding symbol_prefix places
any-machine format machine other file at section index = refl

pub returns-clause-puts : goal.returns-clause-puts
returns-clause-puts g c = λ file at is.
    let built = c.symbol_front_in.ensures.front file at is in
    let named = c.standard.ensures in
    let same = built
    ∙ ap (λ gnu. symbol_prefix c.args.format gnu c.standard.result.machine file at c.args.section c.args.index) named.gnu
    ∙ any-machine c.args.format c.standard.result.machine (e_machine file) file at c.args.section c.args.index in
    subst (λ front. OutPuts c.args.out.now c.show_named.new.out c.show_named.result (named_line front (Whole c.args.name.now))) same c.show_named.ensures.puts

pub returns-clause-grows : goal.returns-clause-grows
returns-clause-grows g c = grows_put _ _ c.show_named.ensures.puts
