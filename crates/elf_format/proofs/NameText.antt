-- A name as it is written, byte by byte, and the line that ends in it, in columns and in an object.
use Rattle.std.proofs.Common.{◌≡◌, ℕ, zero, suc, ◌+◌, ◌-◌, ◌/◌, ◌%◌, ◌^◌, ◌<◌, ◌≤◌, ◌==◌, ◌≢◌, ◌&&◌, nat_lt, nat_le, Bool, true, false, if◌then◌else◌, refl, sym, inl, inr}
use Rattle.std.proofs.Common.{List, codes, [], ◌∷◌, ◌++◌, length, take, drop, get_or, ap, ◌∙◌, arith}
use Rattle.std.proofs.Common.{append_assoc, append-nil, add-one, drop-cons}
use Rattle.std.proofs.lemmas.Bool.{cases_lt}
use Rattle.std.proofs.lemmas.List.{drop_all, get_or-drop, get_or-take}
use Rattle.std.proofs.lemmas.Bool.Decides.{nat_tests}
use Rattle.elf_model.specs.Prelude.{DisplayedName, digit, escaped, hex, member_key, name_byte_text, name_text, quoted, string_byte, string_text}
use Rattle.elf_model.specs.declared.formats.Format.TheVariants.{Columns, Object, Table}
use Rattle.elf_model.specs.declared.formats.Format.{Format}
use Rattle.elf_source.specs.Output.{OutState}
use Rattle.elf_format.specs.Prelude.{TakesBefore, byte_text, escaped_bytes, line_tailed, name_closing, name_start, shown_as, spelt}
use Rattle.elf_format.proofs.Pieces.{TakesBefore-more, TakesBefore-then}

-- the bytes of two consecutive texts
string_text-append : (xs ys : List ℕ) → string_text (xs ++ ys) ≡ string_text xs ++ string_text ys
unfolding string_text
string_text-append [] ys = refl
string_text-append (x ∷ xs) ys = ap (λ zs. string_byte x ++ zs) (string_text-append xs ys) ∙ sym (append_assoc (string_byte x) (string_text xs) (string_text ys))

-- a byte that is no quotation mark and no backslash is unchanged in a string
string_plain : (byte : ℕ) → byte ≢ 34 → byte ≢ 92 → string_byte byte ≡ byte ∷ []
unfolding string_byte
string_plain byte mark backslash = grind (arith, nat_tests)

-- a hexadecimal digit is such a byte
string_digit : (n : ℕ) → n < 16 → string_byte (digit n) ≡ digit n ∷ []
unfolding digit
string_digit n small = by_cases (nat_lt n 10) refl
  where
    by_cases : (t : Bool) → nat_lt n 10 ≡ t
        → string_byte (if t then 48 + n else 87 + n) ≡ (if t then 48 + n else 87 + n) ∷ []
    by_cases true is = string_plain (48 + n) (λ e. omega arith) (λ e. let h : n < 10 = grind (arith, nat_tests) in omega arith)
    by_cases false is = string_plain (87 + n) (λ e. omega arith) (λ e. let h : 10 ≤ n = grind (arith, nat_tests) in omega arith)

pub string_hex : (k n : ℕ) → string_text (hex k n) ≡ hex k n
unfolding string_text hex
string_hex zero n = refl
string_hex (suc k) n = rw (string_digit (n / 16 ^ k % 16) (omega arith), string_hex k n) refl

-- a byte that is escaped in digits, in a string
string_spelt : (byte : ℕ) → byte ≢ 92 → (nat_le 0x20 byte && nat_le byte 0x7e) ≡ false
    → string_text (name_byte_text byte) ≡ codes "\\\\x" ++ hex 2 byte
unfolding name_byte_text string_text string_byte
string_spelt byte other odd =
    let no : (byte == 92) ≡ false = grind (arith, nat_tests) in rw (no, odd) (rw (string_hex 2 byte) refl)

pub string_low : (byte : ℕ) → byte < 32 → string_text (name_byte_text byte) ≡ codes "\\\\x" ++ hex 2 byte
string_low byte low = string_spelt byte (λ e. omega arith) (grind (arith, nat_tests))

pub string_high : (byte : ℕ) → 127 ≤ byte → string_text (name_byte_text byte) ≡ codes "\\\\x" ++ hex 2 byte
string_high byte high = string_spelt byte (λ e. omega arith) (grind (arith, nat_tests))

string-next : (text : List ℕ) (i : ℕ) → i < length text → string_text (drop i text) ≡ string_byte (get_or text i 0) ++ string_text (drop (i + 1) text)
unfolding string_text
string-next text i inside = rw (add-one, drop-cons text i 0 inside) refl

string-none : (items text : List ℕ) (i : ℕ) → length text ≤ i → items ++ string_text (drop i text) ≡ items
unfolding string_text
string-none items text i over = rw (drop_all i text over) (append-nil items)

-- one more byte of a string is appended
pub string_put : (items put front text : List ℕ) (i : ℕ) → i < length text → items ++ string_text (drop i text) ≡ front
    → put ≡ items ++ string_byte (get_or text i 0) → put ++ string_text (drop (i + 1) text) ≡ front
string_put items put front text i inside before is =
    rw is (append_assoc items (string_byte (get_or text i 0)) (string_text (drop (i + 1) text)) ∙ ap (λ xs. items ++ xs) (sym (string-next text i inside)) ∙ before)

-- a string is appended, and its last quotation mark
pub string_end : (items put line text : List ℕ) (i : ℕ) → length text ≤ i
    → items ++ string_text (drop i text) ≡ (line ++ 34 ∷ []) ++ string_text text → put ≡ items ++ 34 ∷ []
    → put ≡ line ++ 34 ∷ (string_text text ++ 34 ∷ [])
string_end items put line text i over before is =
    is ∙ ap (λ xs. xs ++ 34 ∷ []) (sym (string-none items text i over) ∙ before)
    ∙ append_assoc (line ++ 34 ∷ []) (string_text text) (34 ∷ [])
    ∙ append_assoc line (34 ∷ []) (string_text text ++ 34 ∷ [])

-- the bytes that are left are the next byte and those after it
pub spelt-next : (format : Format) (name : List ℕ) (i : ℕ) → i < length name → spelt format (drop i name) ≡ byte_text format (get_or name i 0) ++ spelt format (drop (i + 1) name)
unfolding spelt
spelt-next format name i inside = rw (add-one, drop-cons name i 0 inside) refl

-- no bytes are left
pub spelt-none : (format : Format) (items name : List ℕ) (i : ℕ) → length name ≤ i → items ++ spelt format (drop i name) ≡ items
unfolding spelt
spelt-none format items name i over = rw (drop_all i name over) (append-nil items)

-- a byte is appended to a line that may have been begun again
pub TakesBefore-name_byte : {a b c : OutState} {text line room put : List ℕ} (format : Format) (name : List ℕ) (i : ℕ)
    → i < length name → TakesBefore a b text (line ++ spelt format (drop i name))
    → TakesBefore b c line room → put ≡ room ++ byte_text format (get_or name i 0)
    → TakesBefore a c text (put ++ spelt format (drop (i + 1) name))
TakesBefore-name_byte {a} {b} {c} {text} {line} {room} {put} format name i inside before made is =
    let byte = byte_text format (get_or name i 0) in
    let rest = spelt format (drop (i + 1) name) in
    let same : room ++ spelt format (drop i name) ≡ put ++ rest =
    ap (λ xs. room ++ xs) (spelt-next format name i inside)
    ∙ sym (append_assoc room byte rest)
    ∙ ap (λ xs. xs ++ rest) (sym is) in
    rw (sym same) (TakesBefore-then before (TakesBefore-more (spelt format (drop i name)) made))

-- a printing ASCII character that is no backslash is unchanged in a name
name_plain : (byte : ℕ) → 32 ≤ byte → byte ≤ 126 → byte ≢ 92 → byte_text Columns byte ≡ byte ∷ []
unfolding byte_text name_byte_text
name_plain byte low high other =
    let no : (byte == 92) ≡ false = grind (arith, nat_tests) in
    let in_it : (nat_le 0x20 byte && nat_le byte 0x7e) ≡ true = grind (arith, nat_tests) in rw (no, in_it) refl

-- and if it is no quotation mark it is so in a string
object_plain : (byte : ℕ) → 32 ≤ byte → byte ≤ 126 → byte ≢ 34 → byte ≢ 92 → byte_text Object byte ≡ byte ∷ []
unfolding byte_text name_byte_text string_text
object_plain byte low high mark other =
    let no : (byte == 92) ≡ false = grind (arith, nat_tests) in
    let in_it : (nat_le 0x20 byte && nat_le byte 0x7e) ≡ true = grind (arith, nat_tests) in rw (no, in_it) (rw (string_plain byte mark other) refl)

-- a name is escaped in a table as in columns
table_plain : (byte : ℕ) → 32 ≤ byte → byte ≤ 126 → byte ≢ 92 → byte_text Table byte ≡ byte ∷ []
unfolding byte_text
table_plain byte low high other = name_plain byte low high other

-- so it is in all
pub plain : (format : Format) (byte : ℕ) → 32 ≤ byte → byte ≤ 126 → byte ≢ 34 → byte ≢ 92 → byte_text format byte ≡ byte ∷ []
plain Columns byte low high mark other = name_plain byte low high other
plain Table byte low high mark other = table_plain byte low high other
plain Object byte low high mark other = object_plain byte low high mark other

-- sixteen more bytes that are unchanged
pub stand_more : (format : Format) (name piece : List ℕ) (count : ℕ) → piece ≡ take 16 (drop count name)
    → ((k : ℕ) → k < count → byte_text format (get_or name k 0) ≡ get_or name k 0 ∷ [])
    → ((k : ℕ) → k < 16 → byte_text format (get_or piece k 0) ≡ get_or piece k 0 ∷ [])
    → (k : ℕ) → k < count + 16 → byte_text format (get_or name k 0) ≡ get_or name k 0 ∷ []
stand_more format name piece count same before here k less = elim (cases_lt k count) [
  | inl below ↦ before k below
  | inr over ↦
      let few : k - count < 16 = omega (arith, less, over) in
      let back : count + (k - count) ≡ k = omega (arith, over) in
      let at : get_or piece (k - count) 0 ≡ get_or name k 0 =
      rw same (get_or-take 16 (drop count name) (k - count) 0 few ∙ get_or-drop count name (k - count) 0 ∙ ap (λ m. get_or name m 0) back) in
      rw at at (here (k - count) few)
]

-- the bytes at the start of a name that are unchanged, and the others as they are escaped
pub spelt-plain : (format : Format) (name : List ℕ) (n : ℕ) → n ≤ length name
    → ((k : ℕ) → k < n → byte_text format (get_or name k 0) ≡ get_or name k 0 ∷ [])
    → spelt format name ≡ take n name ++ spelt format (drop n name)
unfolding spelt
spelt-plain format name zero within stand = refl
spelt-plain format [] (suc n) within stand = absurd (omega arith)
spelt-plain format (byte ∷ name) (suc n) within stand =
    let first = stand 0 (omega arith) in
    rw (first, spelt-plain format name n (omega arith) (λ k less. stand (suc k) (omega arith))) refl

-- in columns a name is escaped as in a listing
pub spelt-columns : (name : List ℕ) → spelt Columns name ≡ escaped name
unfolding spelt escaped byte_text
spelt-columns [] = refl
spelt-columns (byte ∷ name) = ap (λ xs. name_byte_text byte ++ xs) (spelt-columns name)

-- and so it is in a table
pub spelt-table : (name : List ℕ) → spelt Table name ≡ escaped name
unfolding spelt escaped byte_text
spelt-table [] = refl
spelt-table (byte ∷ name) = ap (λ xs. name_byte_text byte ++ xs) (spelt-table name)

-- in an object the escaped name is a string
pub spelt-object : (name : List ℕ) → spelt Object name ≡ string_text (escaped name)
unfolding spelt escaped byte_text string_text
spelt-object [] = refl
spelt-object (byte ∷ name) =
    ap (λ xs. string_text (name_byte_text byte) ++ xs) (spelt-object name)
    ∙ sym (string_text-append (name_byte_text byte) (escaped name))

-- so it is escaped in both
pub spelt-all : (format : Format) (name : List ℕ) → spelt format name ≡ escaped_bytes format name
unfolding escaped_bytes
spelt-all Columns name = spelt-columns name
spelt-all Table name = spelt-table name
spelt-all Object name = spelt-object name

-- a member with a string, between the texts before and after it
member-whole : (a k q s : List ℕ) → a ++ ((k ++ (q ++ s ++ q)) ++ []) ≡ ((a ++ (k ++ q)) ++ s) ++ (q ++ [])
member-whole a k q s = simp (append_assoc, append-nil)

member-cut : (a k q s m : List ℕ) → a ++ ((k ++ (q ++ s ++ q) ++ m) ++ []) ≡ ((a ++ (k ++ q)) ++ s) ++ (q ++ m)
member-cut a k q s m = simp (append_assoc, append-nil)

-- a line up to the end of its name, as its pieces
pub named-pieces : (format : Format) (key line name : List ℕ) (is_cut : Bool)
    → line_tailed format key line (shown_as is_cut name) [] ≡ ((line ++ name_start format key) ++ spelt format name) ++ name_closing format is_cut
unfolding line_tailed name_text name_start name_closing quoted member_key
named-pieces Columns key line name true = rw (spelt-columns name) (simp (append_assoc, append-nil))
named-pieces Columns key line name false = rw (spelt-columns name) (simp (append_assoc, append-nil))
named-pieces Table key line name true = rw (spelt-table name) (simp (append_assoc, append-nil))
named-pieces Table key line name false = rw (spelt-table name) (simp (append_assoc, append-nil))
named-pieces Object key line name true =
    rw (spelt-object name) (member-cut line (member_key key) (codes "\"") (string_text (escaped name)) (codes ",\"cut\":true"))
named-pieces Object key line name false =
    rw (spelt-object name) (member-whole line (member_key key) (codes "\"") (string_text (escaped name)))

-- more follows a name
pub tailed-more : (format : Format) (key line : List ℕ) (name : DisplayedName) (tail more : List ℕ)
    → line_tailed format key line name tail ++ more ≡ line_tailed format key line name (tail ++ more)
unfolding line_tailed
tailed-more Columns key line name tail more = simp append_assoc
tailed-more Table key line name tail more = simp append_assoc
tailed-more Object key line name tail more = simp append_assoc

-- so does a text
pub tailed-pieces : (format : Format) (key line : List ℕ) (name : DisplayedName) (tail : List ℕ)
    → line_tailed format key line name tail ≡ line_tailed format key line name [] ++ tail
tailed-pieces format key line name tail = sym (tailed-more format key line name [] tail)

-- and another name
pub joined-pieces : (format : Format) (key line : List ℕ) (name : DisplayedName) (between other tail : List ℕ)
    → line_tailed format key line name (between ++ (escaped_bytes format other ++ tail))
    ≡ ((line_tailed format key line name [] ++ between) ++ spelt format other) ++ tail
joined-pieces format key line name between other tail =
    let front = line_tailed format key line name [] in
    let bytes = spelt format other in
    rw (← spelt-all format other)
    (tailed-pieces format key line name (between ++ (bytes ++ tail))
    ∙ sym (append_assoc front between (bytes ++ tail))
    ∙ sym (append_assoc (front ++ between) bytes tail))
