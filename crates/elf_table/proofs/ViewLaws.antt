-- A store that was loaded with a file's program headers holds them.
use Rattle.std.proofs.Common.{◌≡◌, ℕ, ◌+◌, ◌*◌, if◌then◌else◌, List, Result, Ok, Err, is_ok, OnOk, sym, ◌∙◌, ap, arith}
use Rattle.elf_model.specs.Prelude.{first_refusal, load_checks, slice}
use Rattle.elf_table.specs.Prelude.{AreRowSlices, HoldsProgramHeaders, HoldsSectionHeaders, LoadedFile, StoreState}
use Rattle.elf_table.specs.declared.fault.Fault.{Fault}

-- a file that was loaded without sections, and then its program headers, if they were read
pub views_read : (result : Result (Unit {0}) Fault) (file : List ℕ) (loaded : LoadedFile) (old new : StoreState) → HoldsSectionHeaders file loaded old → loaded.header.e_shnum ≡ 0
    → new.slots ≡ old.slots → new.loaded ≡ 0 → new.segments ≡ (if is_ok result then loaded.header.e_phnum else 0)
    → OnOk result (AreRowSlices file loaded.header.e_phoff 56 loaded.header.e_phnum new.segment_rows) → OnOk result (HoldsProgramHeaders file loaded new)
views_read (Ok x) file loaded old new b none slots empty counted are = record {
  belongs = record {
    size = b.size;
    header = b.header;
    count = empty ∙ sym none;
    rows = λ i below. absurd (omega arith);
    passes = ap (λ (n : ℕ). first_refusal (load_checks file n)) slots ∙ b.passes;
  };
  count = counted;
  rows = λ i below. are i (omega arith) ∙ ap (λ (n : ℕ). slice file (n + 56 * i) 56) b.header.e_phoff;
}
views_read (Err fault) file loaded old new b none slots empty counted are = tt
