-- The laws of links, each by what proves it.
use Rattle.elf_resolve.specs.LinkLaws.{OffersCameBefore, OrderMeansNothing, SearchIsLeast, StateIsLargest}
use Rattle.elf_resolve.proofs.LeftLaws.{none_left}
use Rattle.elf_resolve.proofs.PassLaws.{searched_as}
use Rattle.elf_resolve.proofs.StateLaws.{any_order, largest, largest_one}

pub state_is_largest : StateIsLargest
state_is_largest roles are_own = (largest roles are_own, largest_one roles are_own)

pub order_means_nothing : OrderMeansNothing
order_means_nothing = any_order

pub search_is_least : SearchIsLeast
search_is_least = searched_as

pub offers_came_before : OffersCameBefore
offers_came_before archive entries pass entry plain known there free none undefined =
    let taken = none_left archive entries pass entry plain known there undefined none in cc
