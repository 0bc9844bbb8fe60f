-- A section window by window.
use Rattle.std.proofs.Common.{◌≡◌, ℕ, ◌+◌, ◌-◌, ◌*◌, ◌<◌, ◌≤◌, List, [], ◌∷◌, ◌++◌, length, take, drop, min, map, Result, Ok, Err, refl, sym, ap, ◌∙◌, subst, arith, length-take-le, length-append, replicate}
use Rattle.std.proofs.lemmas.Result.{err_from_is_err_and}
use Rattle.std.proofs.lemmas.List.{take_all, take-append-drop, length-replicate}
use Rattle.std.proofs.Math.Nat.{mul-le-mul_right}
use Rattle.std.proofs.Math.Seq.{take-add}
use Rattle.elf_model.specs.Prelude.{AllInside, Fails, Put, SectionChange, StoredBytes, and_patches, clipped, patched, patches_of, put, slice}
use Rattle.elf_model.specs.declared.causes.Refusal.{Refusal}
use Rattle.elf_model.proofs.PatchLaws.{window_patched, length_kept}
use Rattle.elf_source.specs.Prelude.{CountedState, OutState, ReadsUpTo, SinkTakes, SinkTakesPrefix}
use Rattle.elf_source.proofs.PutsLaws.{SinkTakes-nothing, SinkTakes-then, SinkTakesPrefix-then, SinkTakesPrefix-more}
use Rattle.elf_source.proofs.ReadsLaws.{IsSourceFault-then}
use Rattle.elf_table.specs.Prelude.{IsUnlimitedReadFault, stop_of}
use Rattle.elf_table.specs.declared.fault.Fault.{Fault}
use Rattle.elf_table.specs.declared.run_fault.RunFault.TheVariants.{Out}
use Rattle.elf_table.specs.declared.run_fault.RunFault.{RunFault}
use Rattle.elf_reloc.specs.Prelude.{ApplyFaultSays, Folds, NotForBudget, WritesBytes, folded, storing, windows}
use Rattle.elf_table.specs.declared.run_fault.RunFault.TheVariants.{Refused, Source}
use Rattle.elf_model.proofs.Slices.{slice-size, slice-slice}

-- a pass in a window is the patches' parts, stored one after another
pub and_is : (patch : StoredBytes) (rest : Result (List StoredBytes) Refusal) (patches : List StoredBytes) → and_patches patch rest ≡ Ok patches → (more : List StoredBytes) × (rest ≡ Ok more) × (patches ≡ patch ∷ more)
unfolding and_patches
and_is patch (Ok more) patches h = (more, refl, let same : patch ∷ more ≡ patches = cc in sym same)
and_is patch (Err refusal) patches h = cc

pub folded_window : (low n : ℕ) (changes : List SectionChange) (patches : List StoredBytes) (window : List ℕ) → patches_of changes ≡ Ok patches
    → folded (storing low n) window changes ≡ Ok (patched (map (clipped low n) patches) window)
unfolding folded patches_of patched
folded_window low n [] patches window h = let none : patches ≡ [] = cc in rw none refl
folded_window low n (Put patch ∷ changes) patches window h =
    let p = and_is patch (patches_of changes) patches h in
    folded_window low n changes p.0 (put (clipped low n patch) window) p.1 ∙ ap (λ ps. Ok (patched (map (clipped low n) ps) window)) (sym p.2)
folded_window low n (Fails refusal ∷ changes) patches window h = cc

-- the window after a pass is the patched section's
pub window_is : (file : List ℕ) (at size low n : ℕ) (changes : List SectionChange) (patches : List StoredBytes) (read : List ℕ) → at + size ≤ length file → low + n ≤ size → read ≡ slice file (at + low) n
    → patches_of changes ≡ Ok patches → AllInside size patches → folded (storing low n) read changes ≡ Ok (slice (patched patches (slice file at size)) low n)
window_is file at size low n changes patches read within fits is h inside =
    let base : List ℕ = slice file at size in
    let long : length base ≡ size = slice-size file at size within in
    let same : read ≡ slice base low n = is ∙ sym (slice-slice file at size low n fits) in
    let all : AllInside (length base) patches = rw long inside in
    folded_window low n changes patches read h ∙ ap Ok (ap (patched (map (clipped low n) patches)) same ∙ sym (window_patched patches base low n all (omega arith)))

pub folds_ok : (value expected : List ℕ) (answer : Result (List ℕ) Refusal) → answer ≡ Ok value → answer ≡ Ok expected → value ≡ expected
folds_ok value expected answer h e = cc

-- nothing was written yet
pub front_none : (a : OutState) (text : List ℕ) → SinkTakesPrefix a a text
front_none a text = record { front = []; rest = text; split = refl; takes = SinkTakes-nothing a }

-- a pass failed: a refusal is impossible, and a fault of the source leaves nothing written
pub pass_failed : (X : Type 0) (b c : CountedState) (a : OutState) (fault : Fault) (result : Result X RunFault) (text value : List ℕ) (answer : Result (List ℕ) Refusal)
    → result ≡ Err (stop_of fault) → answer ≡ Ok text → IsUnlimitedReadFault b c fault → Folds {X = X} (Err fault) value answer → WritesBytes a a result text
pass_failed X b c a fault result text value answer is ok other folds = grind (arith, front_none)

-- a fault of a read is one of a call that writes
pub fault_says : (a b : CountedState) (out : OutState) (fault : Fault) → IsUnlimitedReadFault a b fault → ApplyFaultSays NotForBudget a b out (stop_of fault)
fault_says a b out fault says = grind arith

-- a fault after other reads
pub says_behind : (IsReadFault : Refusal → Type 0) (a b c : CountedState) (n : ℕ) (out : OutState) (stop : RunFault) → ReadsUpTo a b n → ApplyFaultSays IsReadFault b c out stop → ApplyFaultSays IsReadFault a c out stop
says_behind IsReadFault a b c n out (Refused refusal) reads says = says
says_behind IsReadFault a b c n out (Source fault at) reads says = (IsSourceFault-then a.seen b.seen c.seen fault reads.keeps says.0, says.1)
says_behind IsReadFault a b c n out (Out fault) reads says = says

-- a prefix is no longer than all
pub front_written : (a b : OutState) (text : List ℕ) → SinkTakesPrefix a b text → b.written ≤ a.written + length text
front_written a b text h =
    let long = ap length h.split ∙ length-append h.front h.rest in
    let counts = h.takes.counts in
    omega (arith, long, counts)

-- one more window
pub take_more : (text : List ℕ) (done n : ℕ) → take (done + n) text ≡ take done text ++ slice text done n
take_more text done n = take-add done n text

pub window_more : (a b c : OutState) (text : List ℕ) (done n next : ℕ) → next ≡ done + n → SinkTakes a b (take done text) → SinkTakes b c (slice text done n) → SinkTakes a c (take next text)
window_more a b c text done n next step before this = rw (step, take_more text done n) (SinkTakes-then (take done text) (slice text done n) before this)

-- a window that stopped
pub front_all : (a c : OutState) (text : List ℕ) (k : ℕ) → SinkTakesPrefix a c (take k text) → SinkTakesPrefix a c text
front_all a c text k h = rw (take-append-drop k text) at (SinkTakesPrefix-more (take k text) (drop k text) h)

front_then : (a b c : OutState) (text : List ℕ) (done n : ℕ) → SinkTakes a b (take done text) → SinkTakesPrefix b c (slice text done n) → SinkTakesPrefix a c text
front_then a b c text done n before this =
    let P : List ℕ → Type 0 = λ t. SinkTakesPrefix a c t in
    front_all a c text (done + n) (subst P (sym (take_more text done n)) (SinkTakesPrefix-then (take done text) (slice text done n) before this))

pub window_stopped : (X : Type 0) (a b c : OutState) (text : List ℕ) (done n : ℕ) (fault : RunFault) → SinkTakes a b (take done text) → WritesBytes {X = X} b c (Err fault) (slice text done n) → WritesBytes {X = X} a c (Err fault) text
window_stopped X a b c text done n fault before this = grind (arith, front_then a b c text done n)

-- a patched section is as long as the section
pub length_patched : (patches : List StoredBytes) (base : List ℕ) (size : ℕ) → length base ≡ size → AllInside size patches → length (patched patches base) ≡ size
length_patched patches base size long inside =
    let all : AllInside (length base) patches = rw long inside in length_kept patches base all ∙ long

-- all windows
pub windows_end : (a b : OutState) (patches : List StoredBytes) (base : List ℕ) (done size : ℕ) → length base ≡ size → AllInside size patches → size ≤ done → SinkTakes a b (take done (patched patches base)) → SinkTakes a b (patched patches base)
windows_end a b patches base done size long inside past h =
    let kept = length_patched patches base size long inside in
    let P : List ℕ → Type 0 = λ t. SinkTakes a b t in subst P (take_all done (patched patches base) (omega (arith, kept, past))) h

-- the sum of the reads
pub windows_account : (size done count next walk before after start bound : ℕ) → done < size → count ≡ min (size - done) 64 → next ≡ done + count → after ≤ before + (walk + count)
    → before + (windows (size - done) * walk + (size - done)) ≤ bound → after + (windows (size - next) * walk + (size - next)) ≤ bound
windows_account size done count next walk before after start bound below is step asked within =
    let fewer : windows (size - next) + 1 ≤ windows (size - done) = omega arith in
    let product : (windows (size - next) + 1) * walk ≤ windows (size - done) * walk = mul-le-mul_right walk fewer in
    let split : (windows (size - next) + 1) * walk ≡ windows (size - next) * walk + walk = omega arith in
    omega (arith, product, split)

-- the result of a pass over a window that was read: the patched section's, or none of it was
-- written
pub window_done : (file : List ℕ) (at size low n m : ℕ) (changes : List SectionChange) (patches : List StoredBytes) (read : List ℕ) → at + size ≤ length file → low + n ≤ size → read ≡ slice file (at + low) n → m ≡ n
    → patches_of changes ≡ Ok patches → AllInside size patches → folded (storing low m) read changes ≡ Ok (slice (patched patches (slice file at size)) low n)
window_done file at size low n m changes patches read within fits is same h inside =
    ap (λ k. folded (storing low k) read changes) same ∙ window_is file at size low n changes patches read within fits is h inside

pub takes_as : (a b : OutState) (value text : List ℕ) → value ≡ text → SinkTakes a b value → SinkTakes a b text
takes_as a b value text e h = rw e at h

pub front_as : (a b : OutState) (value text : List ℕ) → value ≡ text → SinkTakesPrefix a b value → SinkTakesPrefix a b text
front_as a b value text e h = rw e at h

pub takes_start : (a : OutState) (text : List ℕ) → SinkTakes a a (take 0 text)
takes_start a text = SinkTakes-nothing a

pub short_take : (n size : ℕ) → n ≤ size → length {A = ℕ} (take n (replicate size 0)) ≡ n
short_take n size few = let zeros : List ℕ = replicate size 0 in length-take-le n zeros (let long : length zeros ≡ size = length-replicate {A = ℕ} size 0 in omega (arith, long))

-- what a call that stops implies
pub ruleset stopping = (err_from_is_err_and, front_none, front_written, IsSourceFault-then)
