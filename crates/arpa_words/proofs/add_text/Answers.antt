-- A reserved word has no place in the index, nor has one that is too large for it. Assumes nothing.
use Rattle.arpa_words.proofs.Words.{text-short}
use Rattle.arpa_words.proofs.WordsHeld.{added-reserved, added_unindexed, adding_indexed, added_indexed}
use Rattle.arpa_words.proofs.add_text.Goals as goal
use Rattle.arpa_words.proofs.add_text.Goals.{then-k-lt4-via-then-k-lt4, then-k-lt4-via-else-k-lt4+then-words-gt-LINK_LIMIT}

pub write_record-requires : goal.write_record-requires
write_record-requires c = (c.requires.record_room, text-short c.args.text.now c.requires.in_form_lem)

pub returns-then-k-lt4 : goal.returns-then-k-lt4
returns-then-k-lt4 c =
    elim c.then-k-lt4.branch [
      | then-k-lt4-via-then-k-lt4 w ↦ added-reserved c.args.table.now c.args.store.now c.args.buckets c.args.words c.args.k c.args.text.now c.requires w.if-k-lt4.true c.write_record.ensures
      | then-k-lt4-via-else-k-lt4+then-words-gt-LINK_LIMIT w ↦
          added_unindexed c.args.table.now c.args.store.now c.args.buckets c.args.words c.args.k c.args.text.now c.requires w.if-k-lt4.false w.if-words-gt-LINK_LIMIT.true c.write_record.ensures
    ]

pub add_word-requires : goal.add_word-requires
add_word-requires c = adding_indexed c.args.table.now c.args.store.now c.args.buckets c.args.words c.args.k c.args.text.now c.requires c.if-k-lt4.false c.if-words-gt-LINK_LIMIT.false

pub returns : goal.returns
returns c =
    added_indexed c.args.table.now c.args.store.now c.args.buckets c.args.words c.args.k c.args.text.now c.requires c.if-k-lt4.false c.if-words-gt-LINK_LIMIT.false
    c.add_word.ensures
