-- The words passed are scored by the rule, each after all before it, and the newest of them are held.
use Rattle.list.specs.ListModel.{model_of}
use Rattle.plain.proofs.Run.{Scoring}
use Rattle.plain.proofs.score_words.Given as goal

abbrev pub invariant-loop-i : goal.invariant-loop-i
invariant-loop-i l =
    Scoring (model_of l.table) l.after_start l.words l.initial.points l.initial.lengths l.points l.lengths l.recent l.total l.i
