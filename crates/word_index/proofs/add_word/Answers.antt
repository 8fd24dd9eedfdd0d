-- The word is in the index once it is written and linked. Assumes nothing.
use Rattle.word_index.proofs.Indexes.{word-added}
use Rattle.word_index.proofs.add_word.Goals as goal

pub returns : goal.returns
returns c =
    word-added c.args.table.now c.args.store.now c.args.buckets c.args.words c.args.text.now c.requires.0 c.requires.1 c.requires.2 c.requires.3
    c.bucket_of-h.ensures.0 c.link_word.ensures c.write_record.ensures
