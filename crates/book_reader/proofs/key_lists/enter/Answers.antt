-- `enter` meets its contract: the key stands in its place, and its list begins with it.
use Rattle.book_reader.specs.EnteredLaws.{entered-more}
use Rattle.book_reader.proofs.key_lists.enter.Goals as goal

pub returns-clause-lists : goal.returns-clause-lists
returns-clause-lists c = entered-more c.requires.entered _ _ c.requires.list_value c.requires.list_lt_lists c.requires.count_bound
