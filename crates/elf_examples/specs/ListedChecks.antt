-- Files among many: their states and their lines.
use Rattle.std.specs.Prelude.{ℕ, ◌≡◌, [], ◌∷◌, List, codes, take, map, Some, None}
use Rattle.elf_model.specs.Prelude.{ALL, bare_header, check_line, little, numbers_from, one_symbol_table, report_fault, state_of, unnamed_line, with_bytes}
use Rattle.elf_model.specs.declared.causes.Cause.TheVariants.{BadClass, Budget, Short, TableOutside}
use Rattle.elf_model.specs.declared.formats.Format.TheVariants.{Columns}
use Rattle.elf_model.specs.declared.states.FileStatus.{FileStatus}
use Rattle.elf_model.specs.declared.causes.Refusal.{Refusal}
use Rattle.elf_model.specs.declared.states.FileStatus.TheVariants as state

-- the state of a file by its whole report
abbrev pub whole_state : List ℕ → FileStatus
whole_state file = state_of None file (report_fault file 3 63 ALL)

-- a refusal for a cause at an offset
abbrev pub refused : Refusal → FileStatus
refused refusal = state.Refused refusal

-- files without a fault, with one, and of another type
abbrev pub StatesOfFiles : Type 0
StatesOfFiles =
    (whole_state one_symbol_table ≡ state.Ok)
    × (whole_state bare_header ≡ state.Ok)
    × (whole_state (with_bytes 0x4 (little 1 0x1) bare_header) ≡ refused (record { at = 4; cause = BadClass }))
    × (whole_state (take 100 one_symbol_table) ≡ refused (record { at = 0x28; cause = TableOutside }))
    × (whole_state (with_bytes 0x3 (little 1 0x47) bare_header) ≡ state.NoElf)

-- each prefix of a file header is refused once the magic number is whole, and is not ELF before
abbrev pub StatesOfFronts : Type 0
StatesOfFronts =
    (map (λ n. whole_state (take n bare_header)) (numbers_from 0 4) ≡ map (λ n. state.NoElf) (numbers_from 0 4))
    × (map (λ n. whole_state (take n bare_header)) (numbers_from 4 60)
    ≡ map (λ n. refused (record { at = n; cause = Short })) (numbers_from 4 60))
    × (whole_state (with_bytes 0x0 (little 1 0x7e) (take 63 bare_header)) ≡ state.NoElf)
    × (whole_state (codes "#!/bin/sh\n") ≡ state.NoElf)

-- the state of some bytes within a budget
abbrev StateIs : ℕ → List ℕ → FileStatus → Type 0
StateIs budget file found = state_of (Some budget) file (report_fault file 3 63 ALL) ≡ found

abbrev over_budget : FileStatus
over_budget = refused (record { at = 0; cause = Budget })

-- what a short file is is decided by four bytes within the budget, or by none if it has fewer; a
-- longer file by its file header
abbrev pub StatesWithinBudgets : Type 0
StatesWithinBudgets =
    StateIs 4 (codes "text\n") state.NoElf × StateIs 63 (codes "text\n") state.NoElf
    × StateIs 3 (codes "text\n") over_budget × StateIs 0 (codes "text\n") over_budget × StateIs 0 (codes "abc") state.NoElf
    × StateIs 4 (take 10 bare_header) (refused (record { at = 10; cause = Short })) × StateIs 3 (take 10 bare_header) over_budget
    × (state_of (Some 63) bare_header (Some (record { at = 0; cause = Budget })) ≡ over_budget)

-- a line each: the states' words in their column, where and why, and the path escaped as names are
abbrev pub LinesOfStates : Type 0
LinesOfStates =
    (check_line Columns state.Ok (codes "/usr/bin/ls") ≡ codes "C ok           - /usr/bin/ls\n")
    × (check_line Columns (refused (record { at = 0x28; cause = TableOutside })) (codes "broken.so")
    ≡ codes "C refused      0000000000000028 table-outside broken.so\n")
    × (check_line Columns state.NoElf (codes "/etc/passwd") ≡ codes "C no-elf       - /etc/passwd\n")
    × (check_line Columns state.Unread (codes "secret") ≡ codes "C unread       - secret\n")
    × (check_line Columns state.Memory (codes "a b") ≡ codes "C memory       - a b\n")
    × (check_line Columns state.Ok [] ≡ codes "C ok           - \n")
    × (check_line Columns state.Ok (27 ∷ 91 ∷ 10 ∷ 92 ∷ 0xc3 ∷ 0xa9 ∷ []) ≡ codes "C ok           - \\x1b[\\x0a\\\\\\xc3\\xa9\n")

-- the last line, if paths could not be named
abbrev pub LinesOfTheUnnamed : Type 0
LinesOfTheUnnamed =
    (unnamed_line Columns 3 ≡ codes "C unnamed               3\n")
    × (unnamed_line Columns 1234567890 ≡ codes "C unnamed      1234567890\n")
