-- The state of a file that is too short, or refused.
use Rattle.std.proofs.Common.{◌≡◌, ℕ, ◌<◌, ◌≤◌, true, false, if◌then◌else◌, List, length, Option, Some, refl, sym, ap, ◌∙◌, nat_lt, arith}
use Rattle.std.proofs.lemmas.Bool.Decides.{nat_tests}
use Rattle.elf_model.specs.Prelude.{is_not_elf, state_of}
use Rattle.elf_model.specs.declared.states.FileMagic.TheVariants as sort
use Rattle.elf_model.specs.Checking.{listed_state, short_file_status}
use Rattle.elf_model.specs.FileLists.{file_magic}
use Rattle.elf_model.specs.declared.states.FileMagic.{FileMagic}
use Rattle.elf_model.specs.declared.states.FileStatus.{FileStatus}
use Rattle.elf_model.specs.declared.causes.Refusal.{Refusal}
use Rattle.elf_model.specs.declared.states.FileStatus.TheVariants as state
use Rattle.elf_source.specs.Source.{CountedState}
use Rattle.elf_walk.specs.Checked.{FailsRead, FindsShort, short_refusal}

-- the state of a file that is too short, by what it is
pub short_is : (budget : Option ℕ) (file : List ℕ) (at : ℕ) (kind : FileMagic) (found : FileStatus) → length file ≡ at → at < 64 → kind ≡ file_magic false budget file
    → found ≡ short_file_status at kind → FindsShort budget file found
short_is budget file at kind found sized short decides is = finds_short budget file found (
    let few : nat_lt (length file) 64 ≡ true = grind (arith, nat_tests) in
    rw few (is ∙ (ap (λ n. short_file_status n kind) (sym sized) ∙ ap (short_file_status (length file)) decides))
    )
  where
    finds_short : (budget : Option ℕ) (file : List ℕ) (found : FileStatus) → found ≡ state_of budget file (Some (short_refusal file)) → FindsShort budget file found
    finds_short budget file state.Ok is = is
    finds_short budget file (state.Refused refusal) is = is
    finds_short budget file state.NoElf is = is
    finds_short budget file state.Unread is = tt
    finds_short budget file state.Memory is = is

-- such a state is not that of a file that was not read
pub short_read : (a b : CountedState) (size : ℕ) (kind : FileMagic) (found : FileStatus) → found ≡ short_file_status size kind → FailsRead a b found
short_read a b size sort.Elf found is = rw is tt
short_read a b size sort.Archive found is = rw is tt
short_read a b size sort.Thin found is = rw is tt
short_read a b size sort.Foreign found is = rw is tt
short_read a b size sort.Undecided found is = rw is tt

-- the state of one that has room for a file header is that of its listing
pub long_state : (budget : Option ℕ) (file : List ℕ) (fault : Option Refusal) → 64 ≤ length file → state_of budget file fault ≡ listed_state fault
long_state budget file fault long =
    let few : nat_lt (length file) 64 ≡ false = grind (arith, nat_tests) in
    rw few refl

pub judged_long : (budget : Option ℕ) (file : List ℕ) (refusal : Refusal) → 64 ≤ length file
    → (if is_not_elf refusal.cause then state.NoElf else state.Refused refusal) ≡ state_of budget file (Some refusal)
judged_long budget file refusal long =
    let few : nat_lt (length file) 64 ≡ false = grind (arith, nat_tests) in
    rw few refl
