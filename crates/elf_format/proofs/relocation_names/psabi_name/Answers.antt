-- The names are those of the machine's table.
use Rattle.std.proofs.Common.{refl}
use Rattle.elf_model.specs.RelocationNames.{aarch64_relocation_types, psabi_relocation_types, riscv_relocation_types, x86_64_relocation_types}
use Rattle.elf_format.proofs.Names.{short_name}
use Rattle.elf_format.proofs.relocation_names.psabi_name.Goals as goal

pub returns-in-62-clause-name : goal.returns-in-62-clause-name
unfolding psabi_relocation_types x86_64_relocation_types
returns-in-62-clause-name c = rw c.in-62.is (rw c.from-kind.ensures at c.name_of.ensures)

pub returns-in-62-clause-short : goal.returns-in-62-clause-short
unfolding x86_64_relocation_types
returns-in-62-clause-short c =
    short_name 40 x86_64_relocation_types c.args.kind c.name_of.result refl (rw c.from-kind.ensures at c.name_of.ensures)

pub returns-in-183-clause-name : goal.returns-in-183-clause-name
unfolding psabi_relocation_types aarch64_relocation_types
returns-in-183-clause-name c = rw c.in-183.is (rw c.from-kind.ensures at c.name_of-in-183.ensures)

pub returns-in-183-clause-short : goal.returns-in-183-clause-short
unfolding aarch64_relocation_types
returns-in-183-clause-short c =
    short_name 40 aarch64_relocation_types c.args.kind c.name_of-in-183.result refl (rw c.from-kind.ensures at c.name_of-in-183.ensures)

pub returns-in-243-clause-name : goal.returns-in-243-clause-name
unfolding psabi_relocation_types riscv_relocation_types
returns-in-243-clause-name c = rw c.in-243.is (rw c.from-kind.ensures at c.name_of-in-243.ensures)

pub returns-in-243-clause-short : goal.returns-in-243-clause-short
unfolding riscv_relocation_types
returns-in-243-clause-short c =
    short_name 40 riscv_relocation_types c.args.kind c.name_of-in-243.result refl (rw c.from-kind.ensures at c.name_of-in-243.ensures)
