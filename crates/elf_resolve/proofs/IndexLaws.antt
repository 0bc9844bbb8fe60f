-- The index of an archive: its width, its parts, and its entries one after the other.
use Rattle.std.proofs.Common.{◌≡◌, ℕ, zero, suc, ◌+◌, ◌-◌, ◌*◌, ◌/◌, ◌^◌, ◌<◌, ◌≤◌, Bool, true, false, nat_lt, List, [], ◌∷◌, ◌++◌, length, get_or, take, drop, Option, None, Some, Result, Ok, Err, refl, sym, ap, ◌∙◌, add-one, arith, append_assoc}
use Rattle.std.specs.Prelude.{if◌then◌else◌, ◌==◌, not, reverse}
use Rattle.std.proofs.Math.Nat.{le-div_iff_mul-le, mul-le-mul_left, pow-le-pow_right, pow-succ'}
use Rattle.std.proofs.lemmas.Bool.Decides.{nat_tests}
use Rattle.std.proofs.lemmas.List.{reverse-append, take_all, take_more}
use Rattle.elf_model.specs.Archive.{FileRange, bytes_in}
use Rattle.elf_model.specs.Bytes.{field, number, slice}
use Rattle.elf_model.specs.LinkArchives.{LinkMember, big, index_in, index_symbols, index_width, link_member_at, symbol_of_index, symbols_after}
use Rattle.elf_model.specs.LinkInputs.{EnteredIndex, IndexSymbol, index_entered, symbol_entered}
use Rattle.elf_model.specs.Names.{nul_in}
use Rattle.elf_model.specs.declared.link_states.LinkCause.TheVariants as cause
use Rattle.elf_model.specs.declared.link_states.LinkRefusal.{LinkRefusal}
use Rattle.elf_resolve.specs.ArchiveIndexes.{width_at}
use Rattle.elf_model.proofs.Slices.{field-slice, slice-size, slice-slice}

-- THE WIDTH of its numbers, by its header
abbrev width_by : (first second : ℕ) → Option ℕ
width_by first second =
    if not (second == 0x2020202020202020) then None
    else if first == 0x202020202020202f then Some 4
    else if first == 0x202f34364d59532f then Some 8
    else None

pub width_of_header : (file header : List ℕ) → header ≡ slice file 8 60 → width_at header 0 ≡ index_width file
width_of_header file header is =
    rw is (ap (λ n. width_by n (field (slice file 8 60) 8 8)) (field-slice file 8 60 0 8 (omega arith)) ∙ ap (λ n. width_by (field file 8 8) n) (field-slice file 8 60 8 8 (omega arith)))

-- ITS PARTS: the count is within it, or it is cut
pub cut_index : (file : List ℕ) (members : List LinkMember) (width : ℕ) (extent : FileRange) → length (bytes_in file extent) < width * (big (bytes_in file extent) 0 width + 1)
    → index_in file members width extent ≡ Err (record { at = 8; cause = cause.IndexCut })
cut_index file members width extent short =
    let count = big (bytes_in file extent) 0 width in
    let yes : nat_lt (length (bytes_in file extent)) (width * (count + 1)) ≡ true = grind (arith, nat_tests) in
    ap (λ t. if t then Err (record { at = 8; cause = cause.IndexCut }) else index_symbols members (bytes_in file extent) extent.at width 0 count (drop (width * (count + 1)) (bytes_in file extent))) yes

pub too_short : (size width count : ℕ) → size < width → size < width * (count + 1)
too_short size width count short = let all : width ≤ width * (count + 1) = omega arith in omega (arith, all, short)

pub too_many : (size width count : ℕ) → 0 < width → width ≤ size → (size - width) / width < count → size < width * (count + 1)
too_many size width count some enough over = by_test (nat_lt size (width * (count + 1))) refl
  where
    by_test : (t : Bool) → nat_lt size (width * (count + 1)) ≡ t → size < width * (count + 1)
    by_test true is = grind (arith, nat_tests)
    by_test false is =
        let not_less : width * (count + 1) ≤ size = grind (arith, nat_tests) in
        let rest : count * width ≤ size - width = omega (arith, not_less) in
        let within : count ≤ (size - width) / width = (le-div_iff_mul-le some).1 rest in
        absurd (omega (arith, within, over))

pub enough_for : (size width count : ℕ) → 0 < width → width ≤ size → count ≤ (size - width) / width → width * (count + 1) ≤ size
enough_for size width count some enough within =
    let rest : count * width ≤ size - width = (le-div_iff_mul-le some).0 within in
    omega (arith, rest, enough)

pub whole_index : (file : List ℕ) (members : List LinkMember) (width count : ℕ) (extent : FileRange) → count ≡ big (bytes_in file extent) 0 width → width * (count + 1) ≤ length (bytes_in file extent)
    → index_in file members width extent ≡ index_symbols members (bytes_in file extent) extent.at width 0 count (drop (width * (count + 1)) (bytes_in file extent))
whole_index file members width count extent is enough =
    let no : nat_lt (length (bytes_in file extent)) (width * (count + 1)) ≡ false = grind (arith, nat_tests) in
    ap (λ n. if nat_lt (length (bytes_in file extent)) (width * (n + 1)) then Err (record { at = 8; cause = cause.IndexCut }) else index_symbols members (bytes_in file extent) extent.at width 0 n (drop (width * (n + 1)) (bytes_in file extent))) (sym is)
    ∙ ap (λ t. if t then Err (record { at = 8; cause = cause.IndexCut }) else index_symbols members (bytes_in file extent) extent.at width 0 count (drop (width * (count + 1)) (bytes_in file extent))) no

-- ITS ENTRIES, one after the other
abbrev pub all_after : List IndexSymbol → Result (List IndexSymbol) LinkRefusal → Result (List IndexSymbol) LinkRefusal
all_after done (Ok rest) = Ok (done ++ rest)
all_after done (Err refusal) = Err refusal

pub none_before : (rest : Result (List IndexSymbol) LinkRefusal) → all_after [] rest ≡ rest
none_before (Ok rest) = refl
none_before (Err refusal) = refl

pub one_more_before : (done : List IndexSymbol) (s : IndexSymbol) (rest : Result (List IndexSymbol) LinkRefusal) → all_after done (symbols_after s rest) ≡ all_after (done ++ s ∷ []) rest
one_more_before done s (Ok rest) = ap (λ all. Ok all) (sym (append_assoc done (s ∷ []) rest))
one_more_before done s (Err refusal) = refl

module _ (members : List LinkMember) (bytes : List ℕ) (start width index : ℕ) where
  pub no_entry : (names : List ℕ) → index_symbols members bytes start width index zero names ≡ Ok []
  unfolding index_symbols
  no_entry names = refl

  pub entry_cut : (count : ℕ) (names : List ℕ) → nul_in names ≡ None → index_symbols members bytes start width index (suc count) names ≡ Err (record { at = 8; cause = cause.IndexCut })
  unfolding index_symbols
  entry_cut count names none = rw (none, index_symbols) refl

  pub entry_astray : (count end : ℕ) (names : List ℕ) → nul_in names ≡ Some end → link_member_at members (big bytes (width * (index + 1)) width) ≡ None
      → index_symbols members bytes start width index (suc count) names ≡ Err (record { at = start + width * (index + 1); cause = cause.IndexMember })
  unfolding index_symbols
  entry_astray count end names ends none = rw (ends, none, index_symbols) refl

  pub entry_found : (count end member : ℕ) (names : List ℕ) → nul_in names ≡ Some end → link_member_at members (big bytes (width * (index + 1)) width) ≡ Some member
      → index_symbols members bytes start width index (suc count) names
      ≡ symbols_after (symbol_of_index (take end names) member) (index_symbols members bytes start width (index + 1) count (drop (end + 1) names))
  unfolding index_symbols
  entry_found count end member names ends found = rw (ends, found, index_symbols) refl

-- symbols entered one after the other
pub entered_more : (before : EnteredIndex) (done : List IndexSymbol) (s : IndexSymbol) → index_entered before (done ++ s ∷ []) ≡ symbol_entered (index_entered before done) s
entered_more before [] s = refl
entered_more before (x ∷ done) s = entered_more (symbol_entered before x) done s

-- BIG-ENDIAN NUMBERS, byte by byte
pub big_more : (bytes : List ℕ) (i : ℕ) → i < length bytes → number (reverse (take (i + 1) bytes)) ≡ get_or bytes i 0 + 256 * number (reverse (take i bytes))
unfolding number
big_more bytes i below =
    ap (λ b. number (reverse b)) (take_more bytes i 0 below) ∙ ap number (reverse-append (take i bytes) (get_or bytes i 0 ∷ []))

-- fewer than nine bytes are a number of 64 bits
pub big_fits : (i n byte : ℕ) → i < 8 → n < 256 ^ i → byte < 256 → (256 * n + byte < 2 ^ 64) × (256 * n + byte < 256 ^ (i + 1))
big_fits i n byte few small one =
    let more : 256 ^ (i + 1) ≡ 256 * 256 ^ i = ap (λ k. 256 ^ k) (add-one i) ∙ pow-succ' 256 i in
    let seven : i ≤ 7 = omega (arith, few) in
    let most : 256 ^ i ≤ 256 ^ 7 = pow-le-pow_right (omega arith) seven in
    (omega (arith, most), omega (arith, more))

pub big_start : (bytes : List ℕ) → 0 ≡ number (reverse (take 0 bytes))
unfolding number
big_start bytes = refl

pub big_all : (bytes : List ℕ) (i : ℕ) → length bytes ≤ i → number (reverse (take i bytes)) ≡ number (reverse bytes)
big_all bytes i past = ap (λ b. number (reverse b)) (take_all i bytes past)

-- A NUMBER in a slice
pub big_slice : (bytes : List ℕ) (from size at width : ℕ) → at + width ≤ size → big (slice bytes from size) at width ≡ big bytes (from + at) width
big_slice bytes from size at width within = ap (λ b. number (reverse b)) (slice-slice bytes from size at width within)

-- the offset of an entry is within the offsets
pub place_within : (width index count : ℕ) → index < count → width * (index + 1) ≤ width * count
place_within width index count below = mul-le-mul_left width (omega (arith, below))

pub offset_read : (bytes text : List ℕ) (width index count from result : ℕ) → index < count → width * (count + 1) ≤ length bytes → text ≡ slice bytes width (width * count) → from ≡ width * index
    → (from + width ≤ length text → result ≡ big text from width) → result ≡ big bytes (width * (index + 1)) width
offset_read bytes text width index count from result below enough is begin read =
    let fits = place_within width index count below in
    let sized : length text ≡ width * count = ap length is ∙ slice-size bytes width (width * count) (omega (arith, enough)) in
    let place : width + width * index ≡ width * (index + 1) = omega arith in
    read (omega (arith, sized, begin, fits)) ∙ ap (λ b. big b from width) is ∙ ap (λ n. big (slice bytes width (width * count)) n width) begin
    ∙ big_slice bytes width (width * count) (width * index) width (omega (arith, fits)) ∙ ap (λ n. big bytes n width) place
