-- Each argument is what its reader returns, a line for each.
use Rattle.elf_cli.proofs.command_args.read.Goals as goal

pub returns-clause-options : goal.returns-clause-options
returns-clause-options c = record {
  file = c.text.ensures;
  name = c.text_or_empty.ensures;
  section = c.count.ensures;
  wanted = c.text-2.ensures;
  wanted_index = c.place.ensures;
  segment = c.number.ensures;
  items = c.in_ok-items.ensures;
  layout = c.text-3.ensures;
  explain = c.is_set.ensures;
  paths = c.in_ok-paths.ensures;
  causes = c.in_ok-causes.ensures;
  list = c.text-4.ensures;
  members = c.is_set-2.ensures;
  caps = c.caps_of.ensures;
  two_formats = c.has_two_formats.ensures;
  limits_names = c.is_given.ensures;
  only = c.text-5.ensures;
  parts = c.parts.ensures;
  names = c.in_ok-names.ensures;
  name_list = c.text-6.ensures;
  at = c.text-7.ensures;
  address = c.text-8.ensures;
  require = c.text-9.ensures;
  library_path = c.text_or_empty-2.ensures;
  default = c.text-10.ensures;
  root = c.text_or_empty-3.ensures;
  cache = c.text-11.ensures;
  no_cache = c.has_no_cache.ensures;
  max_tries = c.number-2.ensures;
  symbols = c.is_set-3.ensures;
  unused = c.is_set-4.ensures;
  problems = c.is_set-5.ensures;
  image = c.text-12.ensures;
  image_index = c.place-2.ensures;
  max_write = c.number-3.ensures;
  missing = c.is_set-6.ensures;
  leave = c.is_set-7.ensures;
  keys = c.number-4.ensures;
  key_bytes = c.number-5.ensures;
  index = c.number-6.ensures;
  link_rows = c.number-7.ensures;
  words = c.in_ok-words.ensures;
}
