-- What an entry stores fits its place.
use Rattle.std.proofs.Common.{◌≡◌, ℕ, ◌+◌, ◌%◌, ◌^◌, ◌≤◌, ◌==◌, nat_lt, inl, inr, Bool, true, false, List, [], ◌++◌, length, length-append, Option, None, Some, Result, Ok, Err, refl, arith}
use Rattle.std.proofs.lemmas.Bool.{cases_Bool, ltb-false}
use Rattle.elf_model.specs.ImageItems.{ItemValues, FromPointer, InBlock, ModuleId, bound_value, bytes_for, called_value, is_looked_up, thread_value}
use Rattle.elf_model.specs.ImageValues.{changed_size, copied_bytes, descriptor_bytes, low_four_bytes, placed_value, stored_bytes, word_if_bound, word_of}
use Rattle.elf_model.specs.Placing.{address_in}
use Rattle.elf_model.specs.Prelude.{kind_of, little, r_addend, r_sym, st_size, twos_complement, value}
use Rattle.elf_model.specs.Values.{kind_in, kinds}
use Rattle.elf_model.specs.declared.causes.Cause.{Cause}
use Rattle.elf_model.specs.declared.dynamic_types.DynamicType.{DynamicType}
use Rattle.elf_model.specs.declared.dynamic_types.DynamicType.TheVariants as type
use Rattle.elf_model.specs.declared.relocation_types.RelocationType.{RelocationType}
use Rattle.elf_model.proofs.ChangeLaws.{length-little, length-patch_of}

word_fits : (found : Result ℕ Cause) (addend : ℕ) (bytes : List ℕ) → word_of found addend ≡ Ok bytes → length bytes ≤ 8
word_fits (Err cause) addend bytes e = absurd (cc)
word_fits (Ok n) addend bytes e = let word = (n + addend) % 2 ^ 64 in long (little 8 word) (length-little 8 word) (cc)
  where
    long : (word : List ℕ) → length word ≡ 8 → word ≡ bytes → length bytes ≤ 8
    long word eight same = rw (← same) (omega (arith, eight))

bound_fits : (found : Result (Option ℕ) Cause) (addend : ℕ) (bytes : List ℕ) → word_if_bound found addend ≡ Ok bytes → length bytes ≤ 8
bound_fits (Err cause) addend bytes e = absurd (cc)
bound_fits (Ok None) addend bytes e = let same : [] ≡ bytes = cc in rw (← same) (omega arith)
bound_fits (Ok (Some n)) addend bytes e = word_fits (Ok n) addend bytes e

-- the value of one of the two types of four bytes
low_value : (number : ℕ) (type : RelocationType) (s : ℕ) (addend place : ℕ) (bytes : List ℕ) → (number == 0) ≡ false → kind_of number ≡ Some type → type.width ≡ 4
    → value number s s (twos_complement addend) place ≡ Ok bytes → length bytes ≤ 4
unfolding value
low_value number type s addend place bytes some k four e =
    let patch = rw (some, k, value) at e in
    let long = length-patch_of type _ bytes patch in omega (arith, long, four)

low_fits : (number : ℕ) (type : RelocationType) (found : Result ℕ Cause) (addend place : ℕ) (bytes : List ℕ) → (number == 0) ≡ false → kind_of number ≡ Some type → type.width ≡ 4
    → low_four_bytes number found addend place ≡ Ok bytes → length bytes ≤ 4
low_fits number type (Err cause) addend place bytes some k four e = absurd (cc)
low_fits number type (Ok s) addend place bytes some k four e =
    low_value number type s addend place bytes some k four e

copied_fits : (asked : Bool) (bytes : Option (List ℕ)) (size : ℕ) (stored : List ℕ) → copied_bytes asked bytes size ≡ Ok stored → length stored ≤ size
unfolding copied_bytes
copied_fits false bytes size stored e = absurd (cc)
copied_fits true None size stored e = absurd (cc)
copied_fits true (Some bytes) size stored e = elim (cases_Bool (nat_lt size (length bytes))) [
  | inl over ↦ let f = rw over at e in absurd (cc)
  | inr fits ↦ let f = rw fits at e in let same : bytes ≡ stored = cc in rw (← same) (ltb-false size (length bytes) fits)
]

descriptor_fits : (function : Option ℕ) (found : Result (Option ℕ) Cause) (addend : ℕ) (bytes : List ℕ) → descriptor_bytes function found addend ≡ Ok bytes → length bytes ≤ 16
unfolding descriptor_bytes
descriptor_fits function (Err cause) addend bytes e = absurd (cc)
descriptor_fits function (Ok None) addend bytes e = absurd (cc)
descriptor_fits None (Ok (Some n)) addend bytes e = absurd (cc)
descriptor_fits (Some first) (Ok (Some n)) addend bytes e =
    let word = (n + addend) % 2 ^ 64 in long (little 8 first) (little 8 word) (length-little 8 first) (length-little 8 word) (cc)
  where
    long : (word other : List ℕ) → length word ≡ 8 → length other ≡ 8 → word ++ other ≡ bytes → length bytes ≤ 16
    long word other eight also same = let both = length-append word other in rw (← same) (omega (arith, both, eight, also))

pub stored_fits : (type : DynamicType) (file : List ℕ) (items : ItemValues) (rela symbol : ℕ) (bytes : List ℕ)
    → stored_bytes type file items rela symbol ≡ Ok bytes → length bytes ≤ changed_size type file symbol
unfolding stored_bytes changed_size kind_of kind_in kinds
stored_fits type.Relative file items rela symbol bytes e = word_fits (Ok items.base) _ bytes e
stored_fits type.Absolute file items rela symbol bytes e = word_fits (bound_value file items (r_sym file rela) symbol) _ bytes e
stored_fits type.Address file items rela symbol bytes e = word_fits (bound_value file items (r_sym file rela) symbol) _ bytes e
stored_fits type.Call file items rela symbol bytes e = word_fits (called_value file items (r_sym file rela) symbol) _ bytes e
stored_fits type.Low file items rela symbol bytes e = low_fits 10 _ (bound_value file items (r_sym file rela) symbol) _ _ bytes refl refl refl e
stored_fits type.RelativeLow file items rela symbol bytes e = low_fits 2 _ (bound_value file items (r_sym file rela) symbol) _ _ bytes refl refl refl e
stored_fits type.Resolved file items rela symbol bytes e = word_fits (placed_value (address_in items.resolved (r_addend file rela))) _ bytes e
stored_fits type.Module file items rela symbol bytes e = bound_fits (thread_value ModuleId file items (r_sym file rela) symbol) _ bytes e
stored_fits type.BlockOffset file items rela symbol bytes e = bound_fits (thread_value InBlock file items (r_sym file rela) symbol) _ bytes e
stored_fits type.ThreadOffset file items rela symbol bytes e = bound_fits (thread_value FromPointer file items (r_sym file rela) symbol) _ bytes e
stored_fits type.Copy file items rela symbol bytes e = copied_fits (is_looked_up file symbol) (bytes_for items.copies (r_sym file rela)) (st_size file symbol) bytes e
stored_fits type.Descriptor file items rela symbol bytes e = descriptor_fits items.descriptor (thread_value FromPointer file items (r_sym file rela) symbol) _ bytes e
