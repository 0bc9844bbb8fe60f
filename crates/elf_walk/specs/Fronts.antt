-- What is read to determine the type of a file, by its first bytes.
use Rattle.std.specs.Prelude.{ℕ, ◌≡◌, ◌-◌, nat_lt, if◌then◌else◌, Bool, List, Option, Some, Result, Ok, IfErr, IfOk, option_map}
use Rattle.elf_model.specs.Prelude.{ELF_MAGIC_SIZE, file_magic, front_size, may_read_bytes}
use Rattle.elf_model.specs.declared.states.FileMagic.{FileMagic}
use Rattle.elf_model.specs.declared.states.FileMagic.TheVariants.{Archive}
use Rattle.elf_archive.specs.FirstFault.{BeginsArchive}
use Rattle.elf_options.specs.declared.caps.Limits.{Limits}
use Rattle.elf_source.specs.Source.{CountedState, IsSourceFault, KeepsSource, counted}
use Rattle.elf_source.specs.declared.faults.SourceFault.{SourceFault}

-- how many bytes are read: if the file and the budget have them
abbrev pub front_asked : Bool → Option ℕ → (size : ℕ) → ℕ
front_asked members budget size =
    if nat_lt size ELF_MAGIC_SIZE then 0
    else if may_read_bytes budget (front_size members size) then front_size members size
    else 0

-- what is left of a budget after them
abbrev pub left_after : Bool → Option ℕ → (size : ℕ) → Option ℕ
left_after members budget size = option_map (λ bytes. bytes - front_asked members budget size) budget

-- the limits for what follows them
pub record AreLimitsAfter (members : Bool) (limits : Limits) (size : ℕ) (left : Limits) : Type 0 where
  pub headers : left.headers ≡ limits.headers
  pub budget : left.budget ≡ left_after members limits.budget size

-- a read of the type of a file, if a budget has its bytes
pub record ReadsFileType (members : Bool) (budget : Option ℕ) (old new : CountedState) (result : Result FileMagic SourceFault) : Type 0 where
  pub keeps : KeepsSource old.seen new.seen
  pub shows : new.hides ≡ old.hides
  pub asks : new.asked ≡ counted old.asked (front_asked members budget old.seen.size)
  pub fails : IfErr result (IsSourceFault old.seen new.seen)
  pub finds : (file : List ℕ) → old.seen.file ≡ Some file → IfOk result (λ sort. sort ≡ file_magic members budget file)
  pub begins : result ≡ Ok Archive → BeginsArchive old.seen
