-- The file whose header locates no section headers, and its load.
use Rattle.std.proofs.Common.{◌≡◌, ℕ, ◌+◌, ◌*◌, ◌≤◌, Bool, true, false, List, Some, Err, refl, sym, ap, ◌∙◌, arith}
use Rattle.std.specs.Prelude.{is_none}
use Rattle.elf_model.specs.Checks.{first_refusal}
use Rattle.elf_model.specs.Image.{image}
use Rattle.elf_model.specs.Prelude.{before_headers, cost_where, e_phnum, e_shnum}
use Rattle.elf_model.specs.Style.{without_sections}
use Rattle.elf_model.proofs.StyleLemmas.{view_is_as_long, view_tells_of_none}
use Rattle.elf_source.specs.Prelude.{CountedState, MasksSectionHeaders, ReadsUpTo, SourceState, file_by}
use Rattle.elf_table.specs.Prelude.{StoreState}
use Rattle.elf_hash.specs.Loading.{LoadsSegments, segments_load_cost}
use Rattle.elf_table.specs.declared.fault.Fault.{Fault}
use Rattle.elf_table.specs.declared.fault.Fault.TheVariants as fault
use Rattle.elf_image.specs.ImageWrites.{IsMaskedFile, asked_image, request_items}
use Rattle.elf_image.specs.declared.segment_image.ImageRequest.{ImageRequest}
use Rattle.elf_image.proofs.ImageSteps.{FaultOf, load_refused}

-- THE FILE without section headers
pub masked_file : (old new : CountedState) (file : List ℕ) → old.seen.file ≡ Some file → MasksSectionHeaders old new true → IsMaskedFile new old.hides file (without_sections file)
masked_file old new file held masks = record {
  seen = masks.shows refl file held;
  whole_is =
      ap (λ (s : SourceState). file_by old.hides s.file) masks.same_source
      ∙ (sym (ap (λ (s : SourceState). s.file) old.is_seen) ∙ held);
  long = sym (view_is_as_long file);
}

-- it stays so while it is read
pub masked_after : (old new : CountedState) (n : ℕ) (hides : Bool) (whole file : List ℕ) → ReadsUpTo old new n → IsMaskedFile old hides whole file → IsMaskedFile new hides whole file
masked_after old new n hides whole file reads mask = record {
  seen = reads.keeps.same_file ∙ mask.seen;
  whole_is = ap (file_by hides) reads.view.keeps.same_file ∙ mask.whole_is;
  long = mask.long;
}

pub no_sections : (file : List ℕ) → e_shnum (without_sections file) ≡ 0
no_sections file = (view_tells_of_none file).1

pub image_is : (file : List ℕ) (headers : ℕ) (request : ImageRequest) → image file headers request.segment request.most (request_items request) ≡ asked_image file (without_sections file) headers request
unfolding image
image_is file headers request = refl

-- the load fails
pub load_stops : (whole file : List ℕ) (headers : ℕ) (request : ImageRequest) (store : StoreState) (fault : Fault) → LoadsSegments file headers store (Err fault) → FaultOf (asked_image whole file headers request) fault
load_stops whole file headers request store (fault.Refused refusal) loads = λ other. load_refused whole file headers request refusal (loads other)
load_stops whole file headers request store (fault.Source reason at) loads = tt

pub load_costs : (file : List ℕ) (headers : ℕ) → segments_load_cost file headers ≤ 64 + 56 * e_phnum file
load_costs file headers = go (is_none (first_refusal (before_headers file headers))) (56 * e_phnum file)
  where
    go : (b : Bool) (n : ℕ) → 64 + cost_where b n ≤ 64 + n
    go true n = omega arith
    go false n = omega arith
