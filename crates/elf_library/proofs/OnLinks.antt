-- What opens the definitions of how a file is linked, so that they compute on a file that is
-- written out.
use Rattle.elf_model.specs.Links.{link_text, linked_by, linked_with, linked_from, linked_in, lookup_refusal, loaded_links, links_by_segments, links_of}

unfoldable pub on_links : Unit {0}
unfolding link_text linked_by linked_with linked_from linked_in lookup_refusal loaded_links links_by_segments links_of
on_links = tt
