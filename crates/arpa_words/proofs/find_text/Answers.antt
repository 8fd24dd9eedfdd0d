-- What is left to show. Assumes nothing.
use mathlib.Core.Path.{sym, ◌∙◌}
use Rattle.arpa_words.proofs.Searches.{scan-start, scan-end}
use Rattle.arpa_words.proofs.find_text.Goals as goal

pub returns-then-words-le4 : goal.returns-then-words-le4
returns-then-words-le4 c =
    sym (scan-start c.args.store.now c.args.text.now c.args.words ∙ scan-end c.args.store.now c.args.text.now c.args.words 4 c.if-words-le4.true)

pub scan_words-requires : goal.scan_words-requires
scan_words-requires c =
    (c.requires.room c.if-words-le4.false, c.requires.short)

pub find_word-requires : goal.find_word-requires
find_word-requires c =
    (c.args.words, c.requires.index c.if-words-le4.false c.if-words-gt-LINK_LIMIT.false)

pub returns : goal.returns
returns c =
    c.find_word.ensures c.args.words (c.requires.index c.if-words-le4.false c.if-words-gt-LINK_LIMIT.false)
