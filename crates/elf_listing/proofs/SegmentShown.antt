-- The items of one program header, by what the store and the checks of a viewed file return.
use Rattle.elf_model.specs.Prelude.{ListingStyle, place_of_segment, placed_line, segment_at, segment_line, segment_row}
use Rattle.std.proofs.Common.{◌≡◌, ℕ, ◌<◌, List, Option, Some, sym, ap}
use Rattle.elf_table.specs.Prelude.{HoldsProgramHeaders, HoldsSectionHeaders, LoadedFile, StoreState}
use Rattle.elf_listing.specs.Viewed.{IsViewed}

-- a file whose program headers are loaded is viewed
pub views : (file : List ℕ) (loaded : LoadedFile) (store : StoreState) (known : Option (List ℕ)) → HoldsSectionHeaders file loaded store → IsViewed known loaded store → known ≡ Some file → 0 < store.segments
    → HoldsProgramHeaders file loaded store
views file loaded store known belongs viewed held some = record { belongs = belongs; count = viewed.all some; rows = viewed.held file held }

-- a program header's line
pub segment_line_is : (file line : List ℕ) (style : ListingStyle) (index : ℕ) → line ≡ segment_line style.format style.gnu file (segment_at file index) index → segment_row file style index ≡ placed_line style (place_of_segment file (segment_at file index)) line
unfolding segment_row
segment_line_is file line style index same = sym (ap (λ text. placed_line style (place_of_segment file (segment_at file index)) text) same)
