-- What is left for the members after a member is reduced by what that may cost.
use Rattle.std.proofs.Common.{◌≡◌, ℕ, ◌+◌, ◌-◌, ◌*◌, ◌/◌, ◌≤◌, if◌then◌else◌, Bool, true, false, refl, ap, arith}
use Rattle.std.proofs.Math.Nat.{mul-le-mul_left, mul-le-mul_right, mul-add, add-mul}
use Rattle.elf_model.specs.Prelude.{ListingStyle, allowance, archive_ceiling, cost_where, data_ceiling, data_most, follows_dynamic, located_most, long_name_bytes, name_bytes, style_ceiling, suffixes_most}
use Rattle.elf_model.proofs.CostLemmas.{tables_ceiling-is}
use Rattle.elf_model.proofs.TableBounds.{most_bound}

-- an empty file has no data
no_data : (versions : Bool) (cap : ℕ) → most_bound versions 0 cap ≡ 0
no_data true cap = omega arith
no_data false cap = omega arith

-- a ceiling is that of an empty file, and what the data may cost
none_located : (follows : Bool) (cap : ℕ) → cost_where follows (located_most 0 cap) ≡ 0
none_located true cap = omega arith
none_located false cap = refl

pub ceiling_is : (size headers : ℕ) (style : ListingStyle) → style_ceiling size headers style ≡ style_ceiling 0 headers style + data_ceiling size headers style
unfolding style_ceiling
ceiling_is size headers style =
    let bare : ℕ = 120 + name_bytes style.cap in
    let more : ℕ = most_bound style.versions size style.cap in
    let split : headers * (bare + more) ≡ headers * bare + headers * more = mul-add headers bare more in
    let none : headers * (bare + most_bound style.versions 0 style.cap) ≡ headers * bare =
    ap (λ k. headers * k) (omega (arith, no_data style.versions style.cap)) in
    let same : headers * data_most size style ≡ headers * more = ap (λ k. headers * k) (omega arith) in
    omega (arith, split, none, same, none_located (follows_dynamic style) style.cap, tables_ceiling-is size headers style, tables_ceiling-is 0 headers style)

-- the data of a part and of the rest cost no more than all
each_within : (part rest all each : ℕ) → part + rest ≤ all → (part + part / 16 * each) + (rest + rest / 16 * each) ≤ all + all / 16 * each
each_within part rest all each within =
    let few : part / 16 + rest / 16 ≤ all / 16 = omega arith in
    let product : (part / 16 + rest / 16) * each ≤ all / 16 * each = mul-le-mul_right each few in
    let split : (part / 16 + rest / 16) * each ≡ part / 16 * each + rest / 16 * each = add-mul (part / 16) (rest / 16) each in
    omega (arith, product, split)

suffixes_within : (part rest all cap : ℕ) → part + rest ≤ all → suffixes_most part cap + suffixes_most rest cap ≤ suffixes_most all cap
suffixes_within part rest all cap within =
    let each : ℕ = 2 + name_bytes cap in
    let few : part / 16 + rest / 16 ≤ all / 16 = omega arith in
    let product : (part / 16 + rest / 16) * each ≤ all / 16 * each = mul-le-mul_right each few in
    let split : (part / 16 + rest / 16) * each ≡ part / 16 * each + rest / 16 * each = add-mul (part / 16) (rest / 16) each in
    omega (arith, product, split)

more_within : (versions : Bool) (part rest all cap : ℕ) → part + rest ≤ all
    → (if versions then suffixes_most part cap else 0) + (if versions then suffixes_most rest cap else 0) ≤ (if versions then suffixes_most all cap else 0)
more_within true part rest all cap within = suffixes_within part rest all cap within
more_within false part rest all cap within = omega arith

data_within : (part rest all : ℕ) (style : ListingStyle) → part + rest ≤ all → data_most part style + data_most rest style ≤ data_most all style
data_within part rest all style within =
    let plain = each_within part rest all (32 + name_bytes style.cap) within in
    let more = more_within style.versions part rest all style.cap within in
    omega (arith, plain, more)

located_parts : (follows : Bool) (part rest all cap : ℕ) → part + rest ≤ all
    → cost_where follows (located_most part cap) + cost_where follows (located_most rest cap) ≤ cost_where follows (located_most all cap)
located_parts true part rest all cap within = omega (arith, each_within part rest all (32 + name_bytes cap) within)
located_parts false part rest all cap within = omega arith

-- a member takes what it may cost of an allowance
pub allowed : (room rest size headers : ℕ) (style : ListingStyle) → 60 + size + rest ≤ room
    → (60 + long_name_bytes style.cap) + (4 + style_ceiling size headers style) + allowance rest headers style ≤ allowance room headers style
allowed room rest size headers style within =
    let bare : ℕ = 64 + long_name_bytes style.cap + style_ceiling 0 headers style in
    let one_more : rest / 60 + 1 ≤ room / 60 = omega arith in
    let product : (rest / 60 + 1) * bare ≤ room / 60 * bare = mul-le-mul_right bare one_more in
    let split : (rest / 60 + 1) * bare ≡ rest / 60 * bare + 1 * bare = add-mul (rest / 60) 1 bare in
    let less = data_within size rest room style (omega arith) in
    let filled : headers * (data_most size style + data_most rest style) ≤ headers * data_most room style = mul-le-mul_left headers less in
    let both : headers * (data_most size style + data_most rest style) ≡ headers * data_most size style + headers * data_most rest style =
    mul-add headers (data_most size style) (data_most rest style) in
    let located = located_parts (follows_dynamic style) size rest room style.cap (omega arith) in
    omega (arith, product, split, filled, both, located, ceiling_is size headers style)

-- a member's header takes no more
pub header_allowed : (room headers : ℕ) (style : ListingStyle) → 60 ≤ room → 60 + long_name_bytes style.cap ≤ allowance room headers style
header_allowed room headers style within = omega (arith, allowed room 0 0 headers style (omega arith))

-- an allowance of all bytes after the magic string is within the ceiling
pub allowance_within : (size headers : ℕ) (style : ListingStyle) → 8 + allowance (size - 8) headers style ≤ archive_ceiling size headers style
unfolding archive_ceiling
allowance_within size headers style =
    let bare : ℕ = 64 + long_name_bytes style.cap + style_ceiling 0 headers style in
    let few : (size - 8) / 60 ≤ size / 60 = omega arith in
    let product : (size - 8) / 60 * bare ≤ size / 60 * bare = mul-le-mul_right bare few in
    let less : data_most (size - 8) style ≤ data_most size style = omega (arith, data_within (size - 8) 0 size style (omega arith)) in
    let filled : headers * data_most (size - 8) style ≤ headers * data_most size style = mul-le-mul_left headers less in
    let located = located_parts (follows_dynamic style) (size - 8) 0 size style.cap (omega arith) in
    omega (arith, product, filled, located, ceiling_is size headers style)
