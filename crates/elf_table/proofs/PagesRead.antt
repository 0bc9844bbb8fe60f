-- Pages of a file that are read one after another.
use Rattle.std.proofs.Common.{◌≡◌, ℕ, ◌+◌, ◌-◌, ◌≤◌, List, ◌++◌, length, take, drop, sym, ap, ◌∙◌, arith, length-drop, length-take-le}
use Rattle.std.proofs.Math.Seq.{take-add}
use Rattle.std.proofs.lemmas.List.{drop-drop}
use Rattle.std.proofs.lemmas.Slice.{take-put_mid}
use Rattle.elf_model.specs.Bytes.{slice}
use borrow.Rule.Slice.PartMut.{put_mid, mid_of}

-- how many bytes a page has
pub page-size : (done count : ℕ) (bytes : List ℕ) → done + count ≤ length bytes → length (mid_of done (done + count - done) bytes) ≡ count
page-size done count bytes within =
    let width : done + count - done ≡ count = omega arith in
    length-take-le (done + count - done) (drop done bytes) (omega (arith, length-drop done bytes)) ∙ width

-- a page appended to those before it
pub page-added : (file bytes page : List ℕ) (from done count room : ℕ) → done ≤ length bytes → length page ≡ count
    → take done bytes ≡ slice file from done → page ≡ slice file (from + done) count
    → take (done + count) (put_mid done room bytes page) ≡ slice file from (done + count)
page-added file bytes page from done count room within size before turn =
    take-put_mid done room bytes page (done + count) (ap (λ (n : ℕ). done + n) (sym size)) within
    ∙ ap (λ front. front ++ page) before
    ∙ ap (λ rest. slice file from done ++ rest) (turn ∙ ap (take count) (sym (drop-drop done from file)))
    ∙ sym (take-add done count (drop from file))
