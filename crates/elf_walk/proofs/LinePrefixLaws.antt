-- The numbers in the first bytes of a file, what these decide, and what their read did.
use Rattle.std.proofs.Common.{◌≡◌, ℕ, ◌+◌, ◌≤◌, ◌<◌, Bool, true, false, ◌&&◌, not, if◌then◌else◌, List, length, Option, None, Some, Result, Ok, take, drop, refl, ap, subst, ◌∙◌, arith}
use Rattle.std.specs.Prelude.{◌==◌, IfErr, IfOk, IfSome, nat_le, nat_lt}
use Rattle.std.proofs.lemmas.Bool.Decides.{nat_tests}
use Rattle.elf_model.specs.Archive.{ARCHIVE_MAGIC, THIN_MAGIC}
use Rattle.elf_model.specs.Bytes.{field}
use Rattle.elf_model.specs.FileLists.{file_magic, front_size, may_read_bytes}
use Rattle.elf_model.specs.Records.{has_elf_magic}
use Rattle.elf_model.specs.declared.states.FileMagic.{FileMagic}
use Rattle.elf_model.specs.declared.states.FileMagic.TheVariants as sort
use Rattle.elf_model.proofs.Slices.{field-slice}
use Rattle.elf_archive.specs.FirstFault.{BeginsArchive}
use Rattle.elf_source.specs.Source.{CountedState, FillsUnlimited, IsSourceFault, SetsLimit, counted}
use Rattle.elf_source.specs.declared.faults.SourceFault.{SourceFault}
use Rattle.elf_walk.specs.Fronts.{ReadsFileType, front_asked}

pub front_word : (file bytes : List ℕ) → bytes ≡ take 8 (drop 0 file) → field bytes 0 4 ≡ field file 0 4
front_word file bytes is = ap (λ b. field b 0 4) is ∙ field-slice file 0 8 0 4 (omega arith)

pub front_words : (file bytes : List ℕ) → bytes ≡ take 8 (drop 0 file) → field bytes 0 8 ≡ field file 0 8
front_words file bytes is = ap (λ b. field b 0 8) is ∙ field-slice file 0 8 0 8 (omega arith)

-- how many bytes decide, by whether the file has as many as a magic string
eight_wide : (t : Bool) → ◌≡◌ {A = ℕ} (if t then 4 else 8) 8 → t ≡ false
eight_wide true is = absurd (cc)
eight_wide false is = refl

four_narrow : (t : Bool) → (◌≡◌ {A = ℕ} (if t then 4 else 8) 8 → ⊥) → t ≡ true
four_narrow true is = refl
four_narrow false is = absurd (is refl)

by_eight : (few may elf long archive thin : Bool) → few ≡ false → may ≡ true → long ≡ true
    → (if elf then sort.Elf else if archive then sort.Archive else if thin then sort.Thin else sort.Foreign)
    ≡ (if few then sort.Foreign else if not may then sort.Undecided else if elf then sort.Elf else if true && (long && archive) then sort.Archive else if true && (long && thin) then sort.Thin else sort.Foreign)
by_eight few may elf long archive thin f m l = rw (f, m, l) refl

by_four : (few may elf long archive thin : Bool) → few ≡ false → may ≡ true → long ≡ false
    → (if elf then sort.Elf else sort.Foreign)
    ≡ (if few then sort.Foreign else if not may then sort.Undecided else if elf then sort.Elf else if true && (long && archive) then sort.Archive else if true && (long && thin) then sort.Thin else sort.Foreign)
by_four few may elf long archive thin f m l = rw (f, m, l) refl

alone_by_four : (few may elf : Bool) → few ≡ false → may ≡ true
    → (if elf then sort.Elf else sort.Foreign) ≡ (if few then sort.Foreign else if not may then sort.Undecided else if elf then sort.Elf else sort.Foreign)
alone_by_four few may elf f m = rw (f, m) refl

-- what a file is, if eight bytes decide it
pub eight_decide : (members : Bool) (budget : Option ℕ) (file : List ℕ) → 4 ≤ length file → may_read_bytes budget (front_size members (length file)) ≡ true → front_size members (length file) ≡ 8
    → (if has_elf_magic file then sort.Elf else if field file 0 8 == ARCHIVE_MAGIC then sort.Archive else if field file 0 8 == THIN_MAGIC then sort.Thin else sort.Foreign) ≡ file_magic members budget file
unfolding file_magic
eight_decide true budget file long may front =
    let few : nat_lt (length file) 4 ≡ false = grind (arith, nat_tests) in
    let below : nat_lt (length file) 8 ≡ false = eight_wide _ front in
    let room : nat_le 8 (length file) ≡ true = grind (arith, nat_tests) in
    by_eight (nat_lt (length file) 4) (may_read_bytes budget (front_size true (length file))) (has_elf_magic file) (nat_le 8 (length file)) (field file 0 8 == ARCHIVE_MAGIC) (field file 0 8 == THIN_MAGIC) few may room
eight_decide false budget file long may front = absurd (cc)

-- and if four do
pub four_decide : (members : Bool) (budget : Option ℕ) (file : List ℕ) → 4 ≤ length file → may_read_bytes budget (front_size members (length file)) ≡ true → (front_size members (length file) ≡ 8 → ⊥)
    → (if has_elf_magic file then sort.Elf else sort.Foreign) ≡ file_magic members budget file
unfolding file_magic
four_decide true budget file long may front =
    let few : nat_lt (length file) 4 ≡ false = grind (arith, nat_tests) in
    let below : nat_lt (length file) 8 ≡ true = four_narrow _ front in
    let room : nat_le 8 (length file) ≡ false = grind (arith, nat_tests) in
    by_four (nat_lt (length file) 4) (may_read_bytes budget (front_size true (length file))) (has_elf_magic file) (nat_le 8 (length file)) (field file 0 8 == ARCHIVE_MAGIC) (field file 0 8 == THIN_MAGIC) few may room
four_decide false budget file long may front =
    let few : nat_lt (length file) 4 ≡ false = grind (arith, nat_tests) in
    alone_by_four (nat_lt (length file) 4) (may_read_bytes budget 4) (has_elf_magic file) few may

-- an archive has eight bytes that decide
pub eight_long : (members : Bool) (size : ℕ) → front_size members size ≡ 8 → 8 ≤ size
eight_long true size front = let below : nat_lt size 8 ≡ false = eight_wide _ front in grind (arith, nat_tests)
eight_long false size front = absurd (cc)

-- what is not eight bytes is four
pub four_front : (members : Bool) (size : ℕ) → (front_size members size ≡ 8 → ⊥) → front_size members size ≡ 4
four_front true size other = let less : nat_lt size 8 ≡ true = four_narrow _ other in rw less refl
four_front false size other = refl

-- of a file with fewer bytes none is read
pub short_type : (members : Bool) (budget : Option ℕ) (s : CountedState) → s.seen.size < 4 → ReadsFileType members budget s s (Ok sort.Foreign)
unfolding file_magic
short_type members budget s short =
    let few : nat_lt s.seen.size 4 ≡ true = grind (arith, nat_tests) in
    let fits = s.fits in
    record {
      keeps = record { same_size = refl; no_fewer = omega arith; same_file = refl; same_whole = refl };
      shows = refl;
      asks = rw few (omega (arith, fits));
      fails = tt;
      finds = λ file held. let sized = s.seen.sized file held in rw (sized, few) refl;
      begins = λ is. absurd (cc);
    }

-- nor if a budget does not have them
pub undecided_type : (members : Bool) (budget : Option ℕ) (s : CountedState) → 4 ≤ s.seen.size → may_read_bytes budget (front_size members s.seen.size) ≡ false
    → ReadsFileType members budget s s (Ok sort.Undecided)
unfolding file_magic
undecided_type members budget s long may =
    let more : nat_lt s.seen.size 4 ≡ false = grind (arith, nat_tests) in
    let fits = s.fits in
    record {
      keeps = record { same_size = refl; no_fewer = omega arith; same_file = refl; same_whole = refl };
      shows = refl;
      asks = rw (more, may) (omega (arith, fits));
      fails = tt;
      finds = λ file held. let sized = s.seen.sized file held in rw (sized, more, may) refl;
      begins = λ is. absurd (cc);
    }

-- THE READ of those bytes
pub front_type : (members : Bool) (budget : Option ℕ) (old new : CountedState) (n : ℕ) → 4 ≤ old.seen.size → front_size members old.seen.size ≡ n → may_read_bytes budget (front_size members old.seen.size) ≡ true
    → FillsUnlimited old new n → (result : Result FileMagic SourceFault) → IfErr result (IsSourceFault old.seen new.seen)
    → (by : List ℕ → FileMagic) → ((file : List ℕ) → old.seen.file ≡ Some file → IfOk result (λ kind. kind ≡ by file))
    → ((file : List ℕ) → 4 ≤ length file → may_read_bytes budget (front_size members (length file)) ≡ true → front_size members (length file) ≡ n → by file ≡ file_magic members budget file)
    → (result ≡ Ok sort.Archive → BeginsArchive old.seen) → ReadsFileType members budget old new result
front_type members budget old new n long front may fills result fails by finds decide begins =
    let more : nat_lt old.seen.size 4 ≡ false = grind (arith, nat_tests) in
    record {
      keeps = fills.keeps;
      shows = fills.view.hides;
      asks = rw (more, may, front) fills.asks;
      fails = fails;
      finds = λ file held.
          let sized = old.seen.sized file held in
          subst (λ (kind : FileMagic). IfOk result (λ (s : FileMagic). s ≡ kind)) (decide file (omega (arith, sized, long)) (rw sized may) (rw sized front)) (finds file held);
      begins = begins;
    }

-- no more is read than a budget has
few_within : (members : Bool) (bytes size : ℕ) (t u : Bool) → nat_lt bytes (front_size members size) ≡ u
    → (if t then 0 else if not u then front_size members size else 0) ≤ bytes
few_within members bytes size true u is = omega arith
few_within members bytes size false true is = omega arith
few_within members bytes size false false is = let most : front_size members size ≤ bytes = grind (arith, nat_tests) in omega (arith, most)

front_within : (members : Bool) (budget : Option ℕ) (size before after : ℕ) → after ≤ before + front_asked members budget size → IfSome budget (λ bytes. after ≤ before + bytes)
front_within members None size before after asks = tt
front_within members (Some bytes) size before after asks =
    let few = few_within members bytes size (nat_lt size 4) (nat_lt bytes (front_size members size)) refl in omega (arith, asks, few)

-- THE READ of those bytes while a limit is set
module _ (members : Bool) {a b c d : CountedState} {budget : Option ℕ} {result : Result FileMagic SourceFault} (set : SetsLimit a b budget) (free : SetsLimit c d None) (did : ReadsFileType members budget b c result) where
  pub type_found : (file : List ℕ) → a.seen.file ≡ Some file → IfOk result (λ kind. kind ≡ file_magic members budget file)
  type_found file held = did.finds file (rw set.seen held)

  pub type_asked : d.asked ≡ counted a.asked (front_asked members budget a.seen.size)
  type_asked = let asks = rw (set.seen, set.asked) at did.asks in free.asked ∙ asks

  pub type_within : IfSome budget (λ bytes. d.asked ≤ a.asked + bytes)
  type_within = let asks = type_asked in front_within members budget a.seen.size a.asked d.asked (omega (arith, asks))
