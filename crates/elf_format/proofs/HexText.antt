-- The digits that an encoder of bytes writes.
use Rattle.std.proofs.Common.{◌≡◌, ℕ, zero, suc, ◌/◌, ◌%◌, ◌<◌, List, [], ◌∷◌, ◌++◌, get_or, refl, ap, ◌∙◌, arith}
use Rattle.hex.specs.Hex.{lower_digits, encode_with}
use Rattle.elf_model.specs.Prelude.{IsBytes, digit, hex, hex_bytes}

digit_at : (k : ℕ) → k < 16 → get_or lower_digits k 0 ≡ digit k
unfolding digit
digit_at zero small = refl
digit_at (suc zero) small = refl
digit_at (suc (suc zero)) small = refl
digit_at (suc (suc (suc zero))) small = refl
digit_at (suc (suc (suc (suc zero)))) small = refl
digit_at (suc (suc (suc (suc (suc zero))))) small = refl
digit_at (suc (suc (suc (suc (suc (suc zero)))))) small = refl
digit_at (suc (suc (suc (suc (suc (suc (suc zero))))))) small = refl
digit_at (suc (suc (suc (suc (suc (suc (suc (suc zero)))))))) small = refl
digit_at (suc (suc (suc (suc (suc (suc (suc (suc (suc zero))))))))) small = refl
digit_at (suc (suc (suc (suc (suc (suc (suc (suc (suc (suc zero)))))))))) small = refl
digit_at (suc (suc (suc (suc (suc (suc (suc (suc (suc (suc (suc zero))))))))))) small = refl
digit_at (suc (suc (suc (suc (suc (suc (suc (suc (suc (suc (suc (suc zero)))))))))))) small = refl
digit_at (suc (suc (suc (suc (suc (suc (suc (suc (suc (suc (suc (suc (suc zero))))))))))))) small = refl
digit_at (suc (suc (suc (suc (suc (suc (suc (suc (suc (suc (suc (suc (suc (suc zero)))))))))))))) small = refl
digit_at (suc (suc (suc (suc (suc (suc (suc (suc (suc (suc (suc (suc (suc (suc (suc zero))))))))))))))) small = refl
digit_at (suc (suc (suc (suc (suc (suc (suc (suc (suc (suc (suc (suc (suc (suc (suc (suc n)))))))))))))))) small = absurd (omega arith)

byte_digits : (b : ℕ) → b < 256 → get_or lower_digits (b / 16) 0 ∷ get_or lower_digits (b % 16) 0 ∷ [] ≡ hex 2 b
unfolding hex
byte_digits b small =
    let high : b / 16 % 16 ≡ b / 16 = omega arith in
    let low : b / 1 % 16 ≡ b % 16 = omega arith in
    rw (high, low, digit_at (b / 16) (omega arith), digit_at (b % 16) (omega arith)) refl

pub encoded : (bytes : List ℕ) → IsBytes bytes → encode_with lower_digits bytes ≡ hex_bytes bytes
unfolding encode_with hex_bytes
encoded [] byte = refl
encoded (b ∷ bytes) byte = ap (λ xs. xs ++ encode_with lower_digits bytes) (byte_digits b (byte 0)) ∙ ap (λ xs. hex 2 b ++ xs) (encoded bytes (λ i. byte (suc i)))
