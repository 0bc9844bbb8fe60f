-- A segment window by window.
use Rattle.std.proofs.Common.{◌≡◌, ◌∙◌, ℕ, zero, suc, ◌+◌, ◌-◌, ◌*◌, ◌/◌, ◌<◌, ◌≤◌, min, Bool, true, false, List, [], ◌++◌, length, take, drop, map, get_or, replicate, Ok, Err, inl, inr, ap, sym, refl, subst, arith, length-append}
use Rattle.std.specs.List.{list_any}
use Rattle.std.proofs.Math.Nat.{le-div_iff_mul-le, mul-le-mul_right, mul-div_cancel_left}
use Rattle.std.proofs.Math.Seq.{take-add}
use Rattle.std.proofs.lemmas.Bool.{cases_lt, le-ltb}
use Rattle.std.proofs.lemmas.List.{ext_get_or, get_or_append_left, get_or-append_right, get_or_past, get_or-replicate, length-replicate, take-append-drop, take_all}
use Rattle.elf_model.specs.Apply.{patched}
use Rattle.elf_model.specs.ApplyLaws.{AllInside, clipped}
use Rattle.elf_model.specs.Bytes.{slice}
use Rattle.elf_model.specs.Image.{ImageSource, SegmentWrite, relocated_segment, relocation_changes, stored_in, unrelocated, writes_in, writes_of}
use Rattle.elf_model.specs.ImageCost.{MARKED_WINDOWS, meets_window}
use Rattle.elf_model.specs.Records.{p_filesz, p_memsz, p_offset, segment_at}
use Rattle.elf_model.proofs.ImageLaws.{windows_are_parts}
use Rattle.elf_model.proofs.PatchLaws.{length_kept}
use Rattle.elf_model.proofs.Slices.{get_or-slice, slice-size}
use Rattle.elf_source.specs.Prelude.{CountedState, ExceedsBudget, OutState, ReadsUpTo, SinkTakes, SinkTakesPrefix, file_by}
use Rattle.elf_source.proofs.PutsLaws.{SinkTakes-nothing, SinkTakes-then, SinkTakesPrefix-then, SinkTakesPrefix-more}
use Rattle.elf_source.proofs.ReadsLaws.{ExceedsBudget-then, ReadsUpTo-then, ReadsUpTo-to}
use Rattle.elf_table.specs.Prelude.{IsOfRead, stop_of}
use Rattle.elf_table.specs.declared.fault.Fault.{Fault}
use Rattle.elf_table.specs.declared.fault.Fault.TheVariants as fault
use Rattle.elf_table.specs.declared.run_fault.RunFault.{RunFault}
use Rattle.elf_table.specs.declared.run_fault.RunFault.TheVariants.{Out, Refused, Source}
use Rattle.elf_image.specs.Marks.{is_window_marked, marked_windows}
use Rattle.elf_image.specs.SegmentParts.{IsPartOf, IsWindowOf}
use Rattle.elf_image.specs.Changes.{image_pass}
use Rattle.elf_image.specs.SegmentWrites.{WritesFrom, window_cost}
use Rattle.elf_image.specs.Written.{IsTargetOf, MarksWrites, PatchesWindow, WritesWithinLimit, bytes_after, bytes_before, window_count, windows_cost}
use Rattle.elf_image.specs.declared.changes.ImageFile.{ImageFile}
use Rattle.elf_image.specs.declared.marks.WindowMarks.{WindowMarks}
use Rattle.elf_image.specs.declared.segment_windows.ImageTarget.{ImageTarget}
use Rattle.elf_image.specs.declared.window.ImageWindow.{ImageWindow}
use Rattle.elf_image.proofs.MarkSteps.{marked-more}
use Rattle.elf_image.proofs.WindowSteps.{unmet-all}
use Rattle.elf_image.proofs.WriteLaws.{fitting-few, fitting-inside, writes_fit}

-- ZEROS. Bytes with zeros after them read as the bytes alone
zero-bytes : (k j : ℕ) → ◌≡◌ {A = ℕ} (get_or (replicate k 0) j 0) 0
zero-bytes k j = elim (cases_lt j k) [
  | inl below ↦ get_or-replicate k j 0 0 below
  | inr past ↦ get_or_past (replicate k 0) j 0 (omega (arith, past, length-replicate {A = ℕ} k 0))
]

zeros-after : (xs : List ℕ) (k j : ℕ) → get_or (xs ++ replicate k 0) j 0 ≡ get_or xs j 0
zeros-after xs k j = elim (cases_lt j (length xs)) [
  | inl below ↦ get_or_append_left xs (replicate k 0) 0 j below
  | inr past ↦ get_or-append_right xs (replicate k 0) (length xs) j 0 refl past ∙ (zero-bytes k (j - length xs) ∙ sym (get_or_past xs j 0 past))
]

pub window-whole : (base : List ℕ) (k low : ℕ) (window : ImageWindow) → IsWindowOf base low window → IsWindowOf (base ++ replicate k 0) low window
window-whole base k low window is = record {
  start = is.start;
  bytes = λ i below. is.bytes i below ∙ sym (zeros-after base k (low + i));
  edges = record {
    before = λ i below least. is.edges.before i below least ∙ sym (zeros-after base k (window.low + i - 7));
    after = λ i below. is.edges.after i below ∙ sym (zeros-after base k (window.low + length window.bytes.now + i));
  };
}

pub window-itself : (base : List ℕ) (low : ℕ) (window : ImageWindow) → IsWindowOf base low window → IsWindowOf base window.low window
window-itself base low window is = record { start = refl; bytes = subst (λ l. IsPartOf base l window.bytes.now) (sym is.start) is.bytes; edges = is.edges }

-- the bytes of a window that lies in a segment
pub window-bytes : (base : List ℕ) (low : ℕ) (window : ImageWindow) → IsWindowOf base low window → low + length window.bytes.now ≤ length base
    → window.bytes.now ≡ slice base low (length window.bytes.now)
window-bytes base low window is fits =
    let n : ℕ = length window.bytes.now in
    ext_get_or 0 window.bytes.now (slice base low n) (sym (slice-size base low n fits))
    (λ i h. is.bytes i h ∙ sym (get_or-slice base low n i h))

-- THE SEGMENT
module _ (source : ImageSource) (target : ImageTarget) (is : IsTargetOf source target) where
  abbrev header : ℕ
  header = segment_at source.file target.index

  pub before-long : length (bytes_before source target) ≡ target.size
  unfolding unrelocated
  before-long =
      let bytes : List ℕ = slice source.whole (p_offset source.file header) (p_filesz source.file header) in
      let zeros : List ℕ = replicate (p_memsz source.file header - p_filesz source.file header) 0 in
      let front : length bytes ≡ p_filesz source.file header = slice-size source.whole (p_offset source.file header) (p_filesz source.file header) (omega (arith, is.place, is.held, is.whole)) in
      let rest : length zeros ≡ p_memsz source.file header - p_filesz source.file header = length-replicate {A = ℕ} (p_memsz source.file header - p_filesz source.file header) 0 in
      let both : length (bytes ++ zeros) ≡ length bytes + length zeros = length-append bytes zeros in
      omega (arith, front, rest, both, is.held, is.size, is.fits)

  -- a window that was read
  pub window-before : (low : ℕ) (window : ImageWindow) → IsWindowOf (slice source.whole target.bytes.at target.bytes.size) low window
      → IsWindowOf (bytes_before source target) low window
  unfolding unrelocated
  window-before low window read =
      window-whole (slice source.whole (p_offset source.file header) (p_filesz source.file header)) (p_memsz source.file header - p_filesz source.file header) low window
      (rw (← is.place, ← is.held) read)

  module _ (partial : Bool) (writes : List SegmentWrite) (are : writes_of partial (relocation_changes source) ≡ Ok writes) where
    inside : AllInside (length (bytes_before source target)) (stored_in target.index writes)
    inside = subst (λ size. AllInside size (stored_in target.index writes)) (sym is.size ∙ sym before-long) (fitting-inside source.file target.index writes (writes_fit source partial writes are))

    pub after-long : length (bytes_after source target writes) ≡ target.size
    unfolding relocated_segment
    after-long = length_kept (stored_in target.index writes) (bytes_before source target) inside ∙ before-long

    -- a window with what is stored is that of the segment with it
    module _ (low n : ℕ) (window : ImageWindow) (read : IsWindowOf (bytes_before source target) low window) (long : length window.bytes.now ≡ n) (fits : low + n ≤ target.size) where
      pub window-after : patched (map (clipped low n) (stored_in target.index writes)) window.bytes.now ≡ slice (bytes_after source target writes) low n
      window-after =
          let all = before-long in
          let here : window.bytes.now ≡ slice (bytes_before source target) low n =
          window-bytes (bytes_before source target) low window read (omega (arith, all, long, fits)) ∙ ap (slice (bytes_before source target) low) long in
          ap (patched (map (clipped low n) (stored_in target.index writes))) here
          ∙ sym (windows_are_parts source.whole source.file target.index low n writes inside (omega (arith, all, fits)))

      pub window-met : (new : ImageWindow) → PatchesWindow target writes window new → new.bytes.now ≡ slice (bytes_after source target writes) low n
      window-met new patches =
          patches
          ∙ (ap (λ l. patched (map (clipped l (length window.bytes.now)) (stored_in target.index writes)) window.bytes.now) read.start
          ∙ (ap (λ k. patched (map (clipped low k) (stored_in target.index writes)) window.bytes.now) long ∙ window-after))

      -- also if nothing is stored in it
      pub window-unmet : (k : ℕ) → low ≡ target.window * k → n ≤ target.window → list_any (meets_window target.window k) (writes_in target.index writes) ≡ false
          → window.bytes.now ≡ slice (bytes_after source target writes) low n
      window-unmet k place few unmet =
          let none = unmet-all target.window k n window.bytes.now long few target.index writes (fitting-few source.file writes (writes_fit source partial writes are)) unmet in
          sym none ∙ (ap (λ l. patched (map (clipped l n) (stored_in target.index writes)) window.bytes.now) (sym place) ∙ window-after)

-- a segment is written from the same after reads
pub from-after : {a b : CountedState} {n : ℕ} (image : ImageFile) (source : ImageSource) (target : ImageTarget) (writes : List SegmentWrite) → ReadsUpTo a b n
    → WritesFrom a image source target writes → WritesFrom b image source target writes
from-after image source target writes reads from = record {
  file = reads.keeps.same_file ∙ from.file;
  whole = ap (file_by target.hides) reads.view.keeps.same_file ∙ from.whole;
  small = omega (arith, reads.keeps.same_size, from.small);
  is_image = from.is_image;
  is_target = from.is_target;
  are_writes = from.are_writes;
}

-- WHAT IS WRITTEN. Nothing yet
pub front-none : (a : OutState) (text : List ℕ) → SinkTakesPrefix a a text
front-none a text = record { front = []; rest = text; split = refl; takes = SinkTakes-nothing a }

-- a read failed
pub unread : (X : Type 0) (a : OutState) (fault : Fault) (text : List ℕ) → IsOfRead fault → WritesWithinLimit {X = X} a a (Err (stop_of fault)) text
unread X a (fault.Refused refusal) text says = (says, front-none a text)
unread X a (fault.Source reason at) text says = front-none a text

-- all of a window, or a prefix on a fault of the output
pub takes-as : (a b : OutState) (value text : List ℕ) → value ≡ text → SinkTakes a b value → SinkTakes a b text
takes-as a b value text e h = rw e at h

pub front-as : (a b : OutState) (value text : List ℕ) → value ≡ text → SinkTakesPrefix a b value → SinkTakesPrefix a b text
front-as a b value text e h = rw e at h

-- one more window
take-more : (text : List ℕ) (done n : ℕ) → take (done + n) text ≡ take done text ++ slice text done n
take-more text done n = take-add done n text

pub window-more : (a b c : OutState) (text : List ℕ) (done n next : ℕ) → next ≡ done + n → SinkTakes a b (take done text) → SinkTakes b c (slice text done n) → SinkTakes a c (take next text)
window-more a b c text done n next step before this = rw (step, take-more text done n) (SinkTakes-then (take done text) (slice text done n) before this)

front-then : (a b c : OutState) (text : List ℕ) (done n : ℕ) → SinkTakes a b (take done text) → SinkTakesPrefix b c (slice text done n) → SinkTakesPrefix a c text
front-then a b c text done n before this =
    let part : SinkTakesPrefix a c (take (done + n) text) =
    subst (λ t. SinkTakesPrefix a c t) (sym (take-more text done n)) (SinkTakesPrefix-then (take done text) (slice text done n) before this) in
    rw (take-append-drop (done + n) text) at (SinkTakesPrefix-more (take (done + n) text) (drop (done + n) text) part)

-- a window that stopped
pub window-stopped : (X Y : Type 0) (a b c : OutState) (text : List ℕ) (done n : ℕ) (fault : RunFault) → SinkTakes a b (take done text)
    → WritesWithinLimit {X = X} b c (Err fault) (slice text done n) → WritesWithinLimit {X = Y} a c (Err fault) text
window-stopped X Y a b c text done n (Refused refusal) before this = (this.0, front-then a b c text done n before this.1)
window-stopped X Y a b c text done n (Source fault at) before this = front-then a b c text done n before this
window-stopped X Y a b c text done n (Out fault) before this = front-then a b c text done n before this

-- all windows
pub windows-end : (a b : OutState) (text : List ℕ) (done size : ℕ) → length text ≡ size → size ≤ done → SinkTakes a b (take done text) → SinkTakes a b text
windows-end a b text done size long past h = subst (λ t. SinkTakes a b t) (take_all done text (omega (arith, long, past))) h

-- PLACES. The offset of the window of an index, or the end of the segment
pub record IsAtWindow (target : ImageTarget) (low k : ℕ) : Type 0 where
  pub place : low ≡ min (target.window * k) target.size
  pub few : k ≤ window_count target

next-product : (window k : ℕ) → window * suc k ≡ window * k + window
next-product window k = omega arith

pub window-next : (target : ImageTarget) (low count next k : ℕ) → 0 < target.window → low < target.size → count ≡ min (target.size - low) target.window → next ≡ low + count
    → IsAtWindow target low k → IsAtWindow target next (suc k)
window-next target low count next k some below is step at =
    let product = next-product target.window k in
    let swap : suc k * target.window ≡ target.window * suc k = omega arith in
    let enough = le-div_iff_mul-le {k = target.window} {x = suc k} {y = target.size + (target.window - 1)} some in
    record {
      place = omega (arith, below, is, step, at.place, product);
      few = enough.1 (omega (arith, below, at.place, product, swap));
    }

pub window-index : (target : ImageTarget) (low k : ℕ) → 0 < target.window → low < target.size → IsAtWindow target low k → (low ≡ target.window * k) × (low / target.window ≡ k)
window-index target low k some below at =
    let place : low ≡ target.window * k = omega (arith, below, at.place) in
    (place, ap (λ n. n / target.window) place ∙ mul-div_cancel_left k some)

pub window-start : (target : ImageTarget) → IsAtWindow target 0 0
window-start target = record { place = omega arith; few = omega arith }

-- COSTS. As many windows are marked as before, or more
marked-grow : (met : List Bool) (k more : ℕ) → marked_windows met k ≤ marked_windows met (k + more)
marked-grow met k zero = let same : k + 0 ≡ k = omega arith in rw same (omega arith)
marked-grow met k (suc more) =
    let before = marked-grow met k more in
    let one = marked-more met (k + more) (k + suc more) (is_window_marked met (k + more)) (omega arith) refl in
    omega (arith, before, one)

-- what the windows before one may read
abbrev pub reads_before : (image : ImageFile) (target : ImageTarget) (met : List Bool) (low k : ℕ) → ℕ
reads_before image target met low k = marked_windows met k * image_pass image + min target.bytes.size low + 14 * k

pub reads-more : (image : ImageFile) (target : ImageTarget) (met : List Bool) (low count next k : ℕ) (is : Bool) → is ≡ is_window_marked met k → next ≡ low + count
    → reads_before image target met low k + window_cost image target (record { low = low; met = is }) count ≡ reads_before image target met next (suc k)
reads-more image target met low count next k true is step =
    let one = marked-more met k (suc k) true refl is in
    let all : marked_windows met (suc k) * image_pass image ≡ (marked_windows met k + 1) * image_pass image = ap (λ n. n * image_pass image) one in
    let split : (marked_windows met k + 1) * image_pass image ≡ marked_windows met k * image_pass image + image_pass image = omega arith in
    omega (arith, step, all, split)
reads-more image target met low count next k false is step =
    let one = marked-more met k (suc k) false refl is in
    let all : marked_windows met (suc k) * image_pass image ≡ marked_windows met k * image_pass image = ap (λ n. n * image_pass image) (one ∙ omega arith) in
    omega (arith, step, all)

pub reads-within : (image : ImageFile) (target : ImageTarget) (marks : WindowMarks) (low k : ℕ) → k ≤ window_count target
    → reads_before image target marks.met low k ≤ windows_cost image target marks
reads-within image target marks low k few =
    let rest : k + (window_count target - k) ≡ window_count target = omega (arith, few) in
    let fewer : marked_windows marks.met k ≤ marked_windows marks.met (window_count target) = rw rest at (marked-grow marks.met k (window_count target - k)) in
    let product : marked_windows marks.met k * image_pass image ≤ marked_windows marks.met (window_count target) * image_pass image = mul-le-mul_right (image_pass image) fewer in
    omega (arith, product, few)

-- one window more
module _ {a b c : CountedState} (image : ImageFile) (target : ImageTarget) (marks : WindowMarks) (low n next k : ℕ) (is : Bool) (marked : is ≡ is_window_marked marks.met k) (step : next ≡ low + n)
    (before : ReadsUpTo a b (reads_before image target marks.met low k)) where
  pub windows-read : ReadsUpTo b c (window_cost image target (record { low = low; met = is }) n) → ReadsUpTo a c (reads_before image target marks.met next (suc k))
  windows-read this =
      let sum = reads-more image target marks.met low n next k is marked step in
      ReadsUpTo-to (ReadsUpTo-then before this) (omega (arith, sum, before.at_most, this.at_most))

  pub windows-refuse : IsAtWindow target next (suc k) → ExceedsBudget b c (window_cost image target (record { low = low; met = is }) n) → ExceedsBudget a c (windows_cost image target marks)
  windows-refuse there over =
      let sum = reads-more image target marks.met low n next k is marked step in
      let all = reads-within image target marks next (suc k) there.few in
      ExceedsBudget-then (reads_before image target marks.met low k) (windows_cost image target marks) (omega (arith, sum, all, before.at_most)) before over

pub windows-reads : {a b : CountedState} (image : ImageFile) (target : ImageTarget) (marks : WindowMarks) (low k : ℕ) → IsAtWindow target low k
    → ReadsUpTo a b (reads_before image target marks.met low k) → ReadsUpTo a b (windows_cost image target marks)
windows-reads image target marks low k there reads =
    let all = reads-within image target marks low k there.few in
    ReadsUpTo-to reads (omega (arith, all, reads.at_most))

-- MARKS. A window that is not marked is not met
pub unmarked-unmet : (window segment k : ℕ) (writes : List SegmentWrite) (marks : WindowMarks) → MarksWrites window segment writes marks → is_window_marked marks.met k ≡ false
    → list_any (meets_window window k) (writes_in segment writes) ≡ false
unmarked-unmet window segment k writes marks are none = elim (cases_lt k MARKED_WINDOWS) [
  | inl few ↦ sym (are k few) ∙ none
  | inr past ↦ let f = rw (le-ltb k 4096 past) at none in absurd (cc)
]
