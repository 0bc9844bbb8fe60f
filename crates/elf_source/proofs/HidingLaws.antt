-- Zeros written one byte at a time over the fields of a file header that locate section headers.
use Rattle.std.proofs.Common.{◌≡◌, ℕ, suc, ◌+◌, ◌<◌, if◌then◌else◌, Bool, true, false, Option, None, Some, List, [], ◌∷◌, ◌++◌, length, take, drop, slice_set, slice_index_or, refl, ap, sym, ◌∙◌, arith, append_assoc, append-nil}
use Rattle.std.proofs.Math.Seq.{drop-length, take-length}
use Rattle.std.proofs.lemmas.List.{take_more_set, drop_more, drop-set-lt}
use Rattle.elf_model.specs.Style.{tells_of_sections, without_sections, without_sections_from}
use Rattle.elf_model.proofs.StyleLemmas.{view_in_slices, view_is_its_own}
use Rattle.std.specs.Prelude.{option_map}
use Rattle.elf_source.specs.Prelude.{CountedState, ExceedsBudget, IsHonest, IsSourceFault, KeepsSource, MasksSectionHeaders, ReadsUpTo, SourceState, file_by, seen_by}
use Rattle.elf_source.specs.declared.faults.SourceFault.TheVariants.{Device, Ended}
use Rattle.elf_source.specs.declared.faults.SourceFault.{SourceFault}

-- one byte more
pub one_more : (at i x : ℕ) (bytes all : List ℕ) → i < length bytes
    → x ≡ (if tells_of_sections (at + i) then 0 else slice_index_or bytes i 0)
    → take i bytes ++ without_sections_from (at + i) (drop i bytes) ≡ all
    → take (i + 1) (slice_set bytes i x) ++ without_sections_from (at + (i + 1)) (drop (i + 1) (slice_set bytes i x)) ≡ all
unfolding without_sections_from
one_more at i x bytes all h is so =
    let rest : List ℕ = drop (i + 1) bytes in
    let next : at + (i + 1) ≡ suc (at + i) = omega arith in
    let front = take_more_set bytes i x h in
    let behind : drop (i + 1) (slice_set bytes i x) ≡ rest = drop-set-lt (i + 1) bytes i x (omega arith) in
    let here : without_sections_from (at + i) (drop i bytes) ≡ x ∷ without_sections_from (at + (i + 1)) rest =
    ap (without_sections_from (at + i)) (drop_more bytes i 0 h)
    ∙ ap (λ (b : ℕ). b ∷ without_sections_from (suc (at + i)) rest) (sym is)
    ∙ ap (λ (n : ℕ). x ∷ without_sections_from n rest) (sym next) in
    ap (λ l. l ++ without_sections_from (at + (i + 1)) (drop (i + 1) (slice_set bytes i x))) front
    ∙ ap (λ l. (take i bytes ++ x ∷ []) ++ without_sections_from (at + (i + 1)) l) behind
    ∙ append_assoc (take i bytes) (x ∷ []) (without_sections_from (at + (i + 1)) rest)
    ∙ ap (λ l. take i bytes ++ l) (sym here)
    ∙ so

-- all bytes are done
pub all_done : (at i : ℕ) (bytes all : List ℕ) → i ≡ length bytes → take i bytes ++ without_sections_from (at + i) (drop i bytes) ≡ all → bytes ≡ all
unfolding without_sections_from
all_done at i bytes all h so =
    let none : drop i bytes ≡ [] = ap (λ n. drop n bytes) h ∙ drop-length bytes in
    let whole : take i bytes ≡ bytes = ap (λ n. take n bytes) h ∙ take-length bytes in
    sym (append-nil bytes)
    ∙ ap (λ l. l ++ []) (sym whole)
    ∙ ap (λ l. take i bytes ++ without_sections_from (at + i) l) (sym none)
    ∙ so

-- what was read of a file is what is shown of it
pub read_shown : (hides : Bool) (source : Option (List ℕ)) (at n : ℕ) (read file : List ℕ) → hides ≡ false → file_by hides source ≡ Some file
    → ((bytes : List ℕ) → source ≡ Some bytes → read ≡ take n (drop at bytes)) → read ≡ take n (drop at file)
read_shown false source at n read file h is slice = slice file is
read_shown true source at n read file h is slice = cc

-- and with zeros for what is hidden, if it is hidden
pub read_hidden : (hides : Bool) (source : Option (List ℕ)) (at n : ℕ) (read file : List ℕ) → hides ≡ true → file_by hides source ≡ Some file
    → ((bytes : List ℕ) → source ≡ Some bytes → read ≡ take n (drop at bytes)) → without_sections_from at read ≡ take n (drop at file)
read_hidden false source at n read file h is slice = cc
read_hidden true None at n read file h is slice = cc
read_hidden true (Some bytes) at n read file h is slice =
    let same : without_sections bytes ≡ file = cc in
    ap (without_sections_from at) (slice bytes refl) ∙ sym (view_in_slices bytes at n) ∙ ap (λ l. take n (drop at l)) same

-- what is shown of a masked file, if all of it or the same part was shown before
pub view_of : (hides : Bool) (source : Option (List ℕ)) (file : List ℕ) → file_by hides source ≡ Some file → file_by true source ≡ Some (without_sections file)
view_of false source file is = ap (option_map without_sections) is
view_of true None file is = cc
view_of true (Some bytes) file is =
    let same : without_sections bytes ≡ file = cc in
    ap Some (sym (view_is_its_own bytes) ∙ ap without_sections same)

-- what is kept of a source is kept of its state
keeps_seen : (hides : Bool) (s t : SourceState) → KeepsSource s t → KeepsSource (seen_by hides s) (seen_by hides t)
keeps_seen hides s t k = record { same_size = k.same_size; no_fewer = k.no_fewer; same_file = ap (file_by hides) k.same_file; same_whole = k.same_whole }

-- reads while something is hidden, after which it is shown again as before
pub ReadsUpTo-hidden : {a b c d : CountedState} {n : ℕ} → MasksSectionHeaders a b true → ReadsUpTo b c n → MasksSectionHeaders c d a.hides → ReadsUpTo a d n
ReadsUpTo-hidden {a} {b} {c} {d} {n} hide p show =
    let kept : KeepsSource a.source d.source = rw (hide.same_source, ← show.same_source) at p.view.keeps in
    record {
      keeps = rw (a.is_seen, d.is_seen, show.is_hidden) (keeps_seen a.hides a.source d.source kept);
      grows = omega (arith, hide.same_asked, show.same_asked, p.grows);
      at_most = omega (arith, hide.same_asked, show.same_asked, p.at_most);
      same_limit = show.same_limit ∙ p.same_limit ∙ hide.same_limit;
      view = record { keeps = kept; hides = show.is_hidden };
    }

-- an honest source is honest, hidden fields or not
file_seen : (first second : Bool) (source : Option (List ℕ)) (file : List ℕ) → file_by first source ≡ Some file
    → (bytes : List ℕ) × (file_by second source ≡ Some bytes)
file_seen first second None file is = elim first as (λ b. file_by b None ≡ Some file → (bytes : List ℕ) × (file_by second None ≡ Some bytes)) [ true ↦ λ no. cc | false ↦ λ no. cc ] is
file_seen first true (Some bytes) file is = (without_sections bytes, refl)
file_seen first false (Some bytes) file is = (bytes, refl)

IsHonest-seen : (first second : Bool) (s : SourceState) → IsHonest (seen_by first s) → IsHonest (seen_by second s)
IsHonest-seen first second s honest =
    let shown = file_seen first second s.file honest.file honest.gives in
    record { file = shown.0; gives = shown.1; not_worn = honest.not_worn }

-- a fault of a read while something is hidden
pub IsSourceFault-hidden : {a b c d : CountedState} (fault : SourceFault) → MasksSectionHeaders a b true → MasksSectionHeaders c d a.hides → IsSourceFault b.seen c.seen fault → IsSourceFault a.seen d.seen fault
IsSourceFault-hidden Device hide show p = omega (arith, hide.same_failures, show.same_failures, p)
IsSourceFault-hidden {a} {b} {c} {d} Ended hide show p = λ honest.
    p (rw (c.is_seen) (IsHonest-seen d.hides c.hides c.source (rw (show.same_source) at (rw (d.is_seen) at honest))))

-- a budget refusal while something is hidden
pub ExceedsBudget-hidden : {a b c d : CountedState} {n : ℕ} → MasksSectionHeaders a b true → MasksSectionHeaders c d a.hides → ExceedsBudget b c n → ExceedsBudget a d n
ExceedsBudget-hidden hide show p = record {
  most = p.most;
  is_set = sym hide.same_limit ∙ p.is_set;
  above = omega (arith, hide.same_asked, p.above);
  late = omega (arith, show.same_asked, p.late);
}

-- what is shown of a masked file comes from a file of which all or the same part was shown before
pub hidden_file : {a b : CountedState} → MasksSectionHeaders a b true → (viewed : List ℕ) → b.seen.file ≡ Some viewed
    → (file : List ℕ) × (a.seen.file ≡ Some file) × (viewed ≡ without_sections file)
hidden_file {a} {b} hide viewed is =
    let under : file_by true a.source.file ≡ Some viewed = rw (hide.is_hidden, hide.same_source) at (rw (b.is_seen) at is) in
    let found = file_seen true a.hides a.source.file viewed under in
    let before : a.seen.file ≡ Some found.0 = rw (a.is_seen) found.1 in
    let same : Some viewed ≡ Some (without_sections found.0) = sym is ∙ hide.shows refl found.0 before in
    (found.0, before, cc)
