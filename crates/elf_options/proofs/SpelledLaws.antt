-- Which texts are required traits.
use Rattle.std.proofs.Common.{◌≡◌, ◌≢◌, ◌==◌, ◌<◌, ℕ, zero, suc, Bool, true, false, List, [], ◌∷◌, ◌++◌, length, get_or, codes, Option, None, Some, option_map, refl, ap, sym, ◌∙◌, subst, inl, inr, append_assoc, arith}
use Rattle.std.specs.Prelude.{All, bytes_eq, if◌then◌else◌, ◌&&◌, ◌||◌, ◌⊎◌}
use Rattle.std.specs.Borrow.{Bor}
use Rattle.std.specs.List.{list_all, list_any}
use Rattle.std.proofs.lemmas.Bool.Decides.{nat_tests}
use Rattle.std.proofs.lemmas.Slice.Eq.{bytes_eq-Decides}
use Rattle.std.proofs.lemmas.Str.Pattern.{IsSplitOnceResult, split_parts}
use Rattle.elf_model.specs.Prelude.{Required, alternatives, canary_word, cet_word, column_name, column_word, either_word, file_kind_name, fortify_word, lacking_text, pages_word, path_word, pieces_at, relro_text, relro_word, segments_word, stack_word, text_word}
use Rattle.elf_model.specs.declared.traits.Hardening.{Hardening}
use Rattle.elf_model.specs.declared.traits.ProgramKind.{ProgramKind}
use Rattle.elf_model.specs.declared.traits.Relro.{Relro}
use Rattle.elf_model.specs.declared.traits.SearchPath.{SearchPath}
use Rattle.elf_model.specs.declared.traits.SegmentTraits.{SegmentTraits}
use Rattle.elf_model.specs.declared.traits.TraitColumn.{TraitColumn}
use Rattle.elf_model.specs.declared.traits.ProgramKind.TheVariants as kind
use Rattle.elf_model.specs.declared.traits.Relro.TheVariants as relro
use Rattle.elf_model.specs.declared.traits.SearchPath.TheVariants as path
use Rattle.elf_model.specs.declared.traits.TraitColumn.TheVariants as column
use Rattle.elf_options.specs.Spelled.{AreWordsOf, IsNameOfColumn, column_named, column_words, is_word_in, split_at_sign, parsed_trait_word, word_in, word_of_parts, word_under}

-- THE FIRST EQUALS SIGN splits a text
not_same : (a b : ℕ) → a ≢ b → (a == b) ≡ false
not_same a b other = grind (arith, nat_tests, other)

is_equal_name : (a : ℕ) → (a == a) ≡ true
is_equal_name a = grind (arith, nat_tests)

-- how one more byte changes the parts
parted_behind : (byte : ℕ) (bytes : List ℕ) → (byte == 61) ≡ false
    → split_at_sign 61 (byte ∷ bytes) ≡ option_map {T = List ℕ × List ℕ} {U = List ℕ × List ℕ} (λ parts. (byte ∷ parts.0, parts.1)) (split_at_sign 61 bytes)
unfolding split_at_sign
parted_behind byte bytes other =
    let onto = option_map {T = List ℕ × List ℕ} {U = List ℕ × List ℕ} (λ parts. (byte ∷ parts.0, parts.1)) (split_at_sign 61 bytes) in
    subst (λ (b : Bool). elim b as (λ _. Option (List ℕ × List ℕ)) [ true ↦ Some ([], bytes) | false ↦ onto ] ≡ onto) (sym other) refl

without : (text : List ℕ) → ((i : ℕ) → i < length text → get_or text i 0 ≢ 61) → split_at_sign 61 text ≡ None
unfolding split_at_sign
without [] lacks = refl
without (byte ∷ bytes) lacks =
    let other : (byte == 61) ≡ false = not_same byte 61 (lacks zero (omega arith)) in
    parted_behind byte bytes other ∙ ap (option_map (λ parts. (byte ∷ parts.0, parts.1))) (without bytes (λ i low. lacks (suc i) (omega arith)))

first_at : (front back : List ℕ) → ((i : ℕ) → i < length front → get_or front i 0 ≢ 61) → split_at_sign 61 (front ++ 61 ∷ back) ≡ Some (front, back)
unfolding split_at_sign
first_at [] back lacks = refl
first_at (byte ∷ front) back lacks =
    let other : (byte == 61) ≡ false = not_same byte 61 (lacks zero (omega arith)) in
    parted_behind byte (front ++ 61 ∷ back) other ∙ ap (option_map (λ parts. (byte ∷ parts.0, parts.1))) (first_at front back (λ i low. lacks (suc i) (omega arith)))

pub parted : (text : List ℕ) (r : Option (Bor (List ℕ) × Bor (List ℕ))) → IsSplitOnceResult 61 text r
    → option_map (λ parts. (parts.0.now, parts.1.now)) r ≡ split_at_sign 61 text
parted text None h = sym (without text (split_parts 61 text None h (omega arith)))
parted text (Some x) h =
    let parts = split_parts 61 text (Some x) h (omega arith) in
    sym (ap (split_at_sign 61) parts.0 ∙ first_at x.0.now x.1.now parts.1)

-- THE PARTS OF A TEXT THAT IS A REQUIRED TRAIT. What is before the sign and after it makes up the
-- text
abbrev Makes : List ℕ → Option (List ℕ × List ℕ) → Type 0
Makes text None = Unit {0}
Makes text (Some parts) = text ≡ parts.0 ++ 61 ∷ parts.1

made_behind : (byte : ℕ) (bytes : List ℕ) (o : Option (List ℕ × List ℕ)) → Makes bytes o → Makes (byte ∷ bytes) (option_map {T = List ℕ × List ℕ} {U = List ℕ × List ℕ} (λ parts. (byte ∷ parts.0, parts.1)) o)
made_behind byte bytes None made = tt
made_behind byte bytes (Some parts) made = ap (λ l. byte ∷ l) made

made_by : (byte : ℕ) (bytes : List ℕ) (same : Bool) → (byte == 61) ≡ same → Makes bytes (split_at_sign 61 bytes) → Makes (byte ∷ bytes) (split_at_sign 61 (byte ∷ bytes))
unfolding split_at_sign
made_by byte bytes true is made =
    let sign : byte ≡ 61 = grind (arith, nat_tests, is) in
    let onto = option_map {T = List ℕ × List ℕ} {U = List ℕ × List ℕ} (λ parts. (byte ∷ parts.0, parts.1)) (split_at_sign 61 bytes) in
    subst (λ (b : Bool). Makes (byte ∷ bytes) (elim b as (λ _. Option (List ℕ × List ℕ)) [ true ↦ Some ([], bytes) | false ↦ onto ])) (sym is) (ap (λ b. b ∷ bytes) sign)
made_by byte bytes false is made = subst (Makes (byte ∷ bytes)) (sym (parted_behind byte bytes is)) (made_behind byte bytes (split_at_sign 61 bytes) made)

makes : (text : List ℕ) → Makes text (split_at_sign 61 text)
unfolding split_at_sign
makes [] = tt
makes (byte ∷ bytes) = made_by byte bytes (byte == 61) refl (makes bytes)

-- a name is one of its column
abbrev NamesColumn : List ℕ → Option TraitColumn → Type 0
NamesColumn name None = Unit {0}
NamesColumn name (Some its_column) = IsNameOfColumn name its_column

named_or : (name text : List ℕ) (its_column : TraitColumn) (rest : Option TraitColumn) → IsNameOfColumn text its_column → NamesColumn name rest
    → NamesColumn name (if bytes_eq name text then Some its_column else rest)
named_or name text its_column rest is other = by (bytes_eq name text) refl
  where
    by : (same : Bool) → bytes_eq name text ≡ same → NamesColumn name (if same then Some its_column else rest)
    by true same = subst (λ n. IsNameOfColumn n its_column) (sym ((bytes_eq-Decides name text).0 same)) is
    by false same = other

is_named : (name : List ℕ) → NamesColumn name (column_named name)
unfolding column_named column_name
is_named name =
    named_or name (codes "kind") column.Kind _ (inl refl) (named_or name (codes "relro") column.Relro _ (inl refl) (named_or name (codes "stack") column.Stack _ (inl refl)
    (named_or name (codes "pages") column.Pages _ (inl refl) (named_or name (codes "text") column.Text _ (inl refl) (named_or name (codes "cet") column.Cet _ (inl refl)
    (named_or name (codes "canary") column.Canary _ (inl refl) (named_or name (codes "fortify") column.Fortify _ (inl refl) (named_or name (codes "path") column.Path _ (inl refl)
    (named_or name (codes "rpath") column.Path _ (inr (refl, refl)) tt)))))))))

-- THE WORDS OF A COLUMN. Each is that of some file
abbrev Each : (List ℕ → Type 0) → List (List ℕ) → Type 0
Each P [] = Unit {0}
Each P (word ∷ words) = P word × Each P words

first_listed : (P : List ℕ → Type 0) (word other : List ℕ) (rest : Bool) (same : Bool) → bytes_eq word other ≡ same → P other → (rest ≡ true → P word) → (same || rest) ≡ true → P word
first_listed P word other rest true is here behind e = subst P (sym ((bytes_eq-Decides word other).0 is)) here
first_listed P word other rest false is here behind e = behind e

listed : (P : List ℕ → Type 0) (word : List ℕ) (words : List (List ℕ)) → Each P words → list_any (bytes_eq word) words ≡ true → P word
listed P word [] each is = cc
listed P word (other ∷ words) each is = first_listed P word other (list_any (bytes_eq word) words) (bytes_eq word other) refl each.0 (listed P word words each.1) is

abbrev plain : Hardening
plain = record { kind = kind.Exec; segments = None; stack = None; ibt = false; shstk = false; canary = false; fortify = false; path = path.Absent }

abbrev segments : SegmentTraits
segments = record { relro = relro.Full; pages_writable = false; text_patched = false }

abbrev with_segments : SegmentTraits → Hardening
with_segments told = record plain { segments = Some told }

abbrev Tells : TraitColumn → List ℕ → Type 0
Tells its_column word = (t : Hardening) × (word ≡ column_word t its_column)

each_told : (its_column : TraitColumn) → Each (Tells its_column) (column_words its_column)
unfolding column_words column_word file_kind_name relro_text relro_word stack_word pages_word text_word cet_word canary_word fortify_word path_word
each_told column.Kind = ((plain, refl), ((record plain { kind = kind.Pie }, refl), ((record plain { kind = kind.Static }, refl), ((record plain { kind = kind.Lib }, refl), ((record plain { kind = kind.Object }, refl), ((record plain { kind = kind.Core }, refl), ((record plain { kind = kind.Other }, refl), tt)))))))
each_told column.Relro = ((with_segments segments, refl), ((with_segments (record segments { relro = relro.Partial }), refl), ((with_segments (record segments { relro = relro.Absent }), refl), ((plain, refl), tt))))
each_told column.Stack = ((record plain { stack = Some false }, refl), ((record plain { stack = Some true }, refl), ((plain, refl), tt)))
each_told column.Pages = ((with_segments segments, refl), ((with_segments (record segments { pages_writable = true }), refl), ((plain, refl), tt)))
each_told column.Text = ((with_segments segments, refl), ((with_segments (record segments { text_patched = true }), refl), ((plain, refl), tt)))
each_told column.Cet = ((record plain { ibt = true; shstk = true }, refl), ((record plain { ibt = true }, refl), ((record plain { shstk = true }, refl), ((plain, refl), tt))))
each_told column.Canary = ((record plain { canary = true }, refl), ((plain, refl), tt))
each_told column.Fortify = ((record plain { fortify = true }, refl), ((plain, refl), tt))
each_told column.Path = ((record plain { path = path.Rpath }, refl), ((record plain { path = path.Runpath }, refl), ((plain, refl), tt)))

-- and that of each file is one of them
kind_listed : (k : ProgramKind) → list_any (bytes_eq (file_kind_name k)) (column_words column.Kind) ≡ true
unfolding column_words file_kind_name
kind_listed kind.Exec = refl
kind_listed kind.Pie = refl
kind_listed kind.Static = refl
kind_listed kind.Lib = refl
kind_listed kind.Object = refl
kind_listed kind.Core = refl
kind_listed kind.Other = refl

relro_listed : (r : Relro) → list_any (bytes_eq (relro_text r)) (column_words column.Relro) ≡ true
unfolding column_words relro_text
relro_listed relro.Full = refl
relro_listed relro.Partial = refl
relro_listed relro.Absent = refl

path_listed : (p : SearchPath) → list_any (bytes_eq (path_word p)) (column_words column.Path) ≡ true
unfolding column_words path_word
path_listed path.Runpath = refl
path_listed path.Rpath = refl
path_listed path.Absent = refl

cet_listed : (ibt shstk : Bool) → list_any (bytes_eq (cet_word ibt shstk)) (column_words column.Cet) ≡ true
unfolding column_words cet_word
cet_listed true true = refl
cet_listed true false = refl
cet_listed false true = refl
cet_listed false false = refl

-- one of two words is listed if both are
either_listed : (words : List (List ℕ)) (first second : List ℕ) → list_any (bytes_eq first) words ≡ true → list_any (bytes_eq second) words ≡ true
    → (b : Bool) → list_any (bytes_eq (either_word b first second)) words ≡ true
either_listed words first second one other true = one
either_listed words first second one other false = other

segments_listed : (words : List (List ℕ)) (word : SegmentTraits → List ℕ) → list_any (bytes_eq (codes "-")) words ≡ true
    → ((s : SegmentTraits) → list_any (bytes_eq (word s)) words ≡ true) → (o : Option SegmentTraits) → list_any (bytes_eq (segments_word o word)) words ≡ true
segments_listed words word absent told None = absent
segments_listed words word absent told (Some s) = told s

either_of : (its_column : TraitColumn) (first second : List ℕ) (tells_first : SegmentTraits → Bool) → list_any (bytes_eq (codes "-")) (column_words its_column) ≡ true
    → list_any (bytes_eq first) (column_words its_column) ≡ true → list_any (bytes_eq second) (column_words its_column) ≡ true
    → (o : Option SegmentTraits) → list_any (bytes_eq (segments_word o (λ s. either_word (tells_first s) first second))) (column_words its_column) ≡ true
either_of its_column first second tells_first absent one other =
    segments_listed (column_words its_column) (λ s. either_word (tells_first s) first second) absent
    (λ s. either_listed (column_words its_column) first second one other (tells_first s))

stack_listed : (stack : Option Bool) → list_any (bytes_eq (stack_word stack)) (column_words column.Stack) ≡ true
unfolding column_words stack_word
stack_listed None = refl
stack_listed (Some executable) = either_listed (column_words column.Stack) (codes "exec") (codes "nx") refl refl executable

word_listed : (t : Hardening) (its_column : TraitColumn) → list_any (bytes_eq (column_word t its_column)) (column_words its_column) ≡ true
unfolding column_words column_word relro_word pages_word text_word canary_word fortify_word
word_listed t column.Kind = kind_listed t.kind
word_listed t column.Relro = segments_listed (column_words column.Relro) (λ s. relro_text s.relro) refl (λ s. relro_listed s.relro) t.segments
word_listed t column.Stack = stack_listed t.stack
word_listed t column.Pages = either_of column.Pages (codes "wx") (codes "w^x") (λ s. s.pages_writable) refl refl refl t.segments
word_listed t column.Text = either_of column.Text (codes "patch") (codes "fixed") (λ s. s.text_patched) refl refl refl t.segments
word_listed t column.Cet = cet_listed t.ibt t.shstk
word_listed t column.Canary = either_listed (column_words column.Canary) (codes "canary") (codes "-") refl refl t.canary
word_listed t column.Fortify = either_listed (column_words column.Fortify) (codes "fortify") (codes "-") refl refl t.fortify
word_listed t column.Path = path_listed t.path

-- no word of a column has alternatives
abbrev IsOne : List ℕ → Type 0
IsOne word = alternatives word ≡ word ∷ []

each_is_one : (its_column : TraitColumn) → Each IsOne (column_words its_column)
unfolding column_words pieces_at
each_is_one column.Kind = (refl, (refl, (refl, (refl, (refl, (refl, (refl, tt)))))))
each_is_one column.Relro = (refl, (refl, (refl, (refl, tt))))
each_is_one column.Stack = (refl, (refl, (refl, tt)))
each_is_one column.Pages = (refl, (refl, (refl, tt)))
each_is_one column.Text = (refl, (refl, (refl, tt)))
each_is_one column.Cet = (refl, (refl, (refl, (refl, tt))))
each_is_one column.Canary = (refl, (refl, tt))
each_is_one column.Fortify = (refl, (refl, tt))
each_is_one column.Path = (refl, (refl, (refl, tt)))

-- SOME WORDS of a column: all are listed just if each is that of some file
both : (a b : Bool) → a ≡ true → b ≡ true → (a && b) ≡ true
both true b one other = other
both false b one other = cc

all_listed : (its_column : TraitColumn) (words : List (List ℕ)) → All (Tells its_column) words → list_all (is_word_in its_column) words ≡ true
all_listed its_column [] told = refl
all_listed its_column (word ∷ words) told =
    let file : Tells its_column word = told zero [] (omega arith) in
    both (is_word_in its_column word) (list_all (is_word_in its_column) words)
    (subst (λ w. is_word_in its_column w ≡ true) (sym file.1) (word_listed file.0 its_column))
    (all_listed its_column words (λ k d low. told (suc k) d (omega arith)))

onto : (P : List ℕ → Type 0) (word : List ℕ) (words : List (List ℕ)) → P word → All P words → All P (word ∷ words)
onto P word words here others zero d low = here
onto P word words here others (suc k) d low = others k d (omega (arith, low))

-- the words after the first, once that is listed
all_by : (its_column : TraitColumn) (word : List ℕ) (words : List (List ℕ)) (b : Bool) → is_word_in its_column word ≡ b
    → (list_all (is_word_in its_column) words ≡ true → All (Tells its_column) words)
    → (b && list_all (is_word_in its_column) words) ≡ true → All (Tells its_column) (word ∷ words)
all_by its_column word words false isnt others e = cc
all_by its_column word words true among others e =
    onto (Tells its_column) word words (listed (Tells its_column) word (column_words its_column) (each_told its_column) among) (others e)

all_told : (its_column : TraitColumn) (words : List (List ℕ)) → list_all (is_word_in its_column) words ≡ true → All (Tells its_column) words
all_told its_column [] is = λ k d low. absurd (omega (arith, low))
all_told its_column (word ∷ words) is = all_by its_column word words (is_word_in its_column word) refl (all_told its_column words) is

-- what follows a name of a column and the sign is words of that column
spelled : (its_column : TraitColumn) (word : List ℕ) → parsed_trait_word (column_name its_column ++ 61 ∷ word) ≡ word_in its_column word
unfolding parsed_trait_word split_at_sign column_named column_name
spelled column.Kind word = refl
spelled column.Relro word = refl
spelled column.Stack word = refl
spelled column.Pages word = refl
spelled column.Text word = refl
spelled column.Cet word = refl
spelled column.Canary word = refl
spelled column.Fortify word = refl
spelled column.Path word = refl

spelled_by_key : (word : List ℕ) → parsed_trait_word (codes "rpath" ++ 61 ∷ word) ≡ word_in column.Path word
unfolding parsed_trait_word split_at_sign column_named
spelled_by_key word = refl

-- a word after the sign
signed : (name word : List ℕ) → name ++ codes "=" ++ word ≡ name ++ 61 ∷ word
signed name word = append_assoc name (codes "=") word

spelled_by : (name word : List ℕ) (its_column : TraitColumn) → IsNameOfColumn name its_column → parsed_trait_word (name ++ codes "=" ++ word) ≡ word_in its_column word
spelled_by name word its_column (inl is) = ap parsed_trait_word (signed name word) ∙ ap (λ n. parsed_trait_word (n ++ 61 ∷ word)) is ∙ spelled its_column word
spelled_by name word its_column (inr key) =
    ap parsed_trait_word (signed name word) ∙ ap (λ n. parsed_trait_word (n ++ 61 ∷ word)) key.0 ∙ spelled_by_key word ∙ ap (λ c. word_in c word) (sym key.1)

-- a word, by whether it is listed
abbrev word_by : Bool → TraitColumn → List ℕ → Option Required
word_by is its_column word = elim is as (λ _. Option Required) [ true ↦ Some (record { column = its_column; word = word }) | false ↦ None ]

pub told : (name word : List ℕ) (its_column : TraitColumn) → IsNameOfColumn name its_column → AreWordsOf its_column word
    → parsed_trait_word (name ++ codes "=" ++ word) ≡ Some (record { column = its_column; word = word })
told name word its_column named words =
    spelled_by name word its_column named ∙ ap (λ b. word_by b its_column word) (all_listed its_column (alternatives word) words)

-- the word of a file alone
alone : (t : Hardening) (its_column : TraitColumn) → AreWordsOf its_column (column_word t its_column)
alone t its_column =
    subst (All (Tells its_column)) (sym (listed IsOne (column_word t its_column) (column_words its_column) (each_is_one its_column) (word_listed t its_column)))
    (onto (Tells its_column) (column_word t its_column) [] (t, refl) (all_told its_column [] refl))

pub lacked : (t : Hardening) (its_column : TraitColumn) → parsed_trait_word (lacking_text t its_column) ≡ Some (record { column = its_column; word = column_word t its_column })
lacked t its_column = told (column_name its_column) (column_word t its_column) its_column (inl refl) (alone t its_column)

-- the words that a text which is taken names
abbrev IsTaken : List ℕ → Required → Type 0
IsTaken text required =
    (name : List ℕ) × (text ≡ name ++ codes "=" ++ required.word) × IsNameOfColumn name required.column × AreWordsOf required.column required.word

told_word : (text name word : List ℕ) (its_column : TraitColumn) (required : Required) → text ≡ name ++ 61 ∷ word → IsNameOfColumn name its_column
    → word_in its_column word ≡ Some required → IsTaken text required
told_word text name word its_column required made named is = by (list_all (is_word_in its_column) (alternatives word)) refl is
  where
    by : (b : Bool) → list_all (is_word_in its_column) (alternatives word) ≡ b → word_by b its_column word ≡ Some required → IsTaken text required
    by true among e =
        let same : record { column = its_column; word = word } ≡ required = cc in
        subst (IsTaken text) same (name, made ∙ sym (signed name word), named, all_told its_column (alternatives word) among)
    by false among e = cc

told_under : (text name word : List ℕ) (o : Option TraitColumn) (required : Required) → text ≡ name ++ 61 ∷ word → NamesColumn name o → word_under o word ≡ Some required → IsTaken text required
told_under text name word None required made named is = cc
told_under text name word (Some its_column) required made named is = told_word text name word its_column required made named is

told_parts : (text : List ℕ) (o : Option (List ℕ × List ℕ)) (required : Required) → Makes text o → word_of_parts o ≡ Some required → IsTaken text required
told_parts text None required made is = cc
told_parts text (Some parts) required made is = told_under text parts.0 parts.1 (column_named parts.0) required made (is_named parts.0) is

pub tells : (text : List ℕ) (required : Required) → parsed_trait_word text ≡ Some required → IsTaken text required
unfolding parsed_trait_word
tells text required is = told_parts text (split_at_sign 61 text) required (makes text) is
