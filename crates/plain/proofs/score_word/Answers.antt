-- The words in use are the history.
use Rattle.std.proofs.Common.{◌∙◌, arith}
use mir.Syntax.{w32}
use mir.Val.{SFits}
use mir.Facts.{to_z-of_z}
use Rattle.rows.specs.Table.{word_of}
use Rattle.list.specs.ListModel.{model_of}
use Rattle.list.proofs.ListModel.{accepted-model}
use Rattle.plain_word.proofs.TextRule.{text-fits, text-matched}
use Rattle.plain_history.specs.History.{in_use}
use Rattle.plain_history.proofs.Newest.{history_part, history-are_words, history-length}
use Rattle.plain.proofs.score_word.Goals as goal

pub score_after-score-requires : goal.score_after-score-requires
score_after-score-requires c =
    let k = c.requires.1 in
    (c.requires.0, rw (history_part _ k) (history-are_words _ k), rw (to_z-of_z c.ranges.word) c.requires.2)

pub byte_of-requires : goal.byte_of-requires
byte_of-requires c =
    let k = c.requires.1 in
    let s = rw (history_part _ k, to_z-of_z c.ranges.word) at c.score_after-score.ensures in
    (c.requires.0, s.row_is.within, rw s.matched-is (omega (arith, k.few, history-length _ k, text-matched (model_of c.args.table.now) (word_of c.args.word) (in_use c.args.recent))))

pub returns : goal.returns
returns c =
    let s = rw (history_part _ c.requires.1, to_z-of_z c.ranges.word) at c.score_after-score.ensures in
    let fits : SFits w32 c.score_after-score.result.points = rw s.points_are (text-fits (accepted-model _ c.requires.0) _ _) in
    record {
      points_are = to_z-of_z fits ∙ s.points_are;
      byte_is = rw (s.matched-is, to_z-of_z c.ranges.word, s.row_is.extended-is) at c.byte_of.ensures;
    }
