-- How a file whose program headers are loaded is linked, stage by stage.
use Rattle.std.specs.Prelude.{ℕ, ◌≡◌, ◌/◌, ◌&&◌, if◌then◌else◌, Bool, true, false, List, Option, None, Some, Result, Ok, Err}
use Rattle.elf_model.specs.Prelude.{IsBudgetRefusal, LinkState, TextRoom, dynamic_segment_index, first_refusal, has_none, linked_in, no_link_info, p_filesz, p_offset, segment_at, segment_dynamic_checks}
use Rattle.elf_model.specs.Links.{has_class_and_encoding, machine_in}
use Rattle.elf_model.specs.Records.{e_machine, has_elf_magic}
use Rattle.elf_model.specs.declared.causes.Refusal.{Refusal}
use Rattle.elf_library.specs.declared.needs_fault.NeedsFault.{NeedsFault}
use Rattle.elf_table.specs.declared.fault.Fault.{Fault}
use Rattle.elf_table.specs.declared.fault.Fault.TheVariants.{Refused, Source}

-- a fault of the lookup tables: a file without a hash table has none
abbrev pub lookup_passed : Fault → Result (Unit {0}) Fault
lookup_passed (Refused refusal) = elim (has_none refusal.cause) [ true ↦ Ok tt | false ↦ Err (Refused refusal) ]
lookup_passed (Source fault at) = Err (Source fault at)

-- it is not refused, or it is, except for lack of budget
abbrev pub ReturnsLookupRefusal : Option Refusal → Result (Unit {0}) Fault → Type 0
ReturnsLookupRefusal told (Ok passed) = told ≡ None
ReturnsLookupRefusal told (Err (Refused refusal)) = (IsBudgetRefusal refusal → ⊥) → told ≡ Some refusal
ReturnsLookupRefusal told (Err (Source fault at)) = Unit {0}

-- what the first segment of dynamic entries gives
abbrev pub linked_in_segments : List ℕ → TextRoom → Result LinkState Refusal
linked_in_segments file room = elim (dynamic_segment_index file) [
  | None ↦ Ok (record { links = no_link_info; room = room })
  | Some i ↦ elim (first_refusal (segment_dynamic_checks file (segment_at file i))) [
    | Some refusal ↦ Err refusal
    | None ↦ linked_in file (p_offset file (segment_at file i)) (p_filesz file (segment_at file i) / 16) room
  ]
]

-- which machine a file is for, by its first bytes
abbrev pub machine_by : List ℕ → Option ℕ
machine_by front = if has_elf_magic front && has_class_and_encoding front then Some (e_machine front) else None

-- it is the file's; or a read failed, or the budget is used up
abbrev pub ReturnsMachine : List ℕ → Result (Option ℕ) Fault → Type 0
ReturnsMachine file (Ok machine) = machine ≡ machine_in file
ReturnsMachine file (Err (Refused refusal)) = IsBudgetRefusal refusal
ReturnsMachine file (Err (Source fault at)) = Unit {0}

-- the same, with so much left of a budget: without one it is not used up
abbrev pub ReturnsMachineWithin : Option ℕ → List ℕ → Result (Option ℕ) Fault → Type 0
ReturnsMachineWithin left file (Ok machine) = machine ≡ machine_in file
ReturnsMachineWithin left file (Err (Refused refusal)) = left ≡ None → ⊥
ReturnsMachineWithin left file (Err (Source fault at)) = Unit {0}

-- a file fits if it is for a machine, or if the budget is too small to read for which it is
abbrev pub ReturnsMachineFit : (machine : ℕ) → Option ℕ → List ℕ → Result Bool NeedsFault → Type 0
ReturnsMachineFit machine left file (Ok true) = left ≡ None → machine_in file ≡ Some machine
ReturnsMachineFit machine left file (Ok false) = machine_in file ≡ Some machine → ⊥
ReturnsMachineFit machine left file (Err fault) = Unit {0}
