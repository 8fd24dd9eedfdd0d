-- A call answers the rule for the history it is given, where the call for the shorter one does.
use mathlib.Core.Path.{◌≡◌, ap₂, ◌∙◌}
use mathlib.Core.Bool.{true, false}
use mathlib.Core.List.{List, [], ◌∷◌, reverse}
use Prim.Native.Nat.{ℕ, ◌-◌, ◌<◌}
use native.Mathlib.Omega.{arith}
use lib.IntN.{ℤ, ◌+ℤ◌}
use lib.ListN.{length, drop, length-map, length-reverse}
use mir.Syntax.{w32}
use mir.Val.{SFits, to_z, of_z}
use mir.Facts.{to_z-of_z}
use Rattle.backoff.specs.Model.{Model, AcceptedModel, listed, backoff}
use Rattle.backoff.specs.Rule as rule
use Rattle.backoff.specs.Refusal.{Accepted}
use Rattle.rows.specs.Table.{word_of, words_of}
use Rattle.rows.proofs.Table.{are_words-drop, are_words-take}
use Rattle.row_search.specs.declared.Row.{Row}
use Rattle.list.specs.Check.{verdict}
use Rattle.list.specs.ListModel.{model_of}
use Rattle.list.proofs.ListModel.{accepted-model}
use Rattle.plain_word.specs.Score.{IsScore}
use Rattle.plain_word.specs.declared.Score.{Score}
use Rattle.plain_word.proofs.Rows.{IsRow, with-some, with-none}
use Rattle.plain_word.proofs.TextRule.{history-some, probability-fits, backoff-fits, text-fits, sum_fits, shorter_length, shorter_words, score_here, score_shorter}
use Rattle.plain_word.proofs.+score_after.Goals as goal

-- a list that the check accepts, a history and a word
module _ (t zs : List ℤ) (w : ℕ) (good : verdict t ≡ Accepted) (there : listed (model_of t) (w ∷ []) ≡ true) where
  abbrev model : Model
  model = model_of t

  accepted : AcceptedModel model
  accepted = accepted-model _ good

  -- the row of history and word
  module _ {row : Row} (is : IsRow t (w ∷ reverse (words_of zs)) row) where
    row-p : to_z w32 (of_z w32 row.p) ≡ row.p
    row-p = let f : SFits w32 row.p = rw is.p-is (probability-fits accepted _) in to_z-of_z f

    row-few : length zs < 5
    unfolding words_of
    row-few =
        omega (arith, accepted.short _ is.is_listed, accepted.order-high, length-reverse (words_of zs), length-map zs (λ (z : ℤ). word_of z))

  -- there is a history where there is no such row
  some : listed model (w ∷ reverse (words_of zs)) ≡ false → 0 < length zs
  unfolding words_of
  some e =
      omega (arith, history-some model w (words_of zs) there e, length-map zs (λ (z : ℤ). word_of z))

  shorter_points : (s : Score) → IsScore t (rule.text_rule model (drop 1 (words_of zs)) w) s → to_z w32 (of_z w32 s.points) ≡ (rule.text_rule model (drop 1 (words_of zs)) w).points
  shorter_points s is =
      let f : SFits w32 s.points = rw is.points_are (text-fits accepted _ _) in
      to_z-of_z f ∙ is.points_are

-- the back-off that is added
owed : (t zs : List ℤ) → verdict t ≡ Accepted → (b : ℤ) → b ≡ backoff (model_of t) (reverse (words_of zs)) → to_z w32 (of_z w32 b) ≡ backoff (model_of t) (reverse (words_of zs))
owed t zs good b e = let f : SFits w32 b = rw e (backoff-fits (accepted-model _ good) _) in to_z-of_z f ∙ e

pub row_with-row-requires : goal.row_with-row-requires
row_with-row-requires t c =
    (c.requires.0, c.requires.1, rw (to_z-of_z c.ranges.word) ((accepted-model _ c.requires.0).in_words (word_of c.args.word ∷ []) c.requires.2))

pub overflow_cast-result : goal.overflow_cast-result
overflow_cast-result t c =
    let k = with-some _ _ _ (rw (to_z-of_z c.ranges.word) at c.in-Some.ensures) in
    omega (arith, row-few c.args.table.now c.args.history.now (word_of c.args.word) c.requires.0 c.requires.2 k)

pub returns-in-Some : goal.returns-in-Some
returns-in-Some t c =
    let k = with-some _ _ _ (rw (to_z-of_z c.ranges.word) at c.in-Some.ensures) in
    score_here (word_of c.args.word) c.args.history.now k (row-p c.args.table.now c.args.history.now (word_of c.args.word) c.requires.0 c.requires.2 k)

pub slice_bounds-shorter-count : goal.slice_bounds-shorter-count
slice_bounds-shorter-count t c =
    let u = with-none _ _ _ (rw (to_z-of_z c.ranges.word) at c.in_default.ensures) in
    omega (arith, some c.args.table.now c.args.history.now (word_of c.args.word) c.requires.0 c.requires.2 u)

pub slice_bounds-shorter-start : goal.slice_bounds-shorter-start
slice_bounds-shorter-start t c =
    let u = with-none _ _ _ (rw (to_z-of_z c.ranges.word) at c.in_default.ensures) in
    omega (arith, some c.args.table.now c.args.history.now (word_of c.args.word) c.requires.0 c.requires.2 u)

pub score_after-score-requires : goal.score_after-score-requires
score_after-score-requires t c =
    let u = with-none _ _ _ (rw (to_z-of_z c.ranges.word) at c.in_default.ensures) in
    let zs = c.args.history.now in (
      omega (arith, c.decreases, shorter_length zs, some c.args.table.now zs (word_of c.args.word) c.requires.0 c.requires.2 u),
      (c.requires.0, are_words-take (length zs - 1) (drop 1 zs) (are_words-drop 1 zs c.requires.1), rw (to_z-of_z c.ranges.word) c.requires.2),
    )

pub overflow_add-result-2 : goal.overflow_add-result-2
overflow_add-result-2 t c =
    let x = rw (shorter_words c.args.history.now, to_z-of_z c.ranges.word) at c.score_after-score.ensures in
    rw (owed c.args.table.now c.args.history.now c.requires.0 _ c.back_off_of-back_off.ensures, shorter_points c.args.table.now c.args.history.now (word_of c.args.word) c.requires.0 c.requires.2 c.score_after-score.result x)
    (sum_fits (accepted-model _ c.requires.0) _ _ _)

pub returns : goal.returns
returns t c =
    let u = with-none _ _ _ (rw (to_z-of_z c.ranges.word) at c.in_default.ensures) in
    let x = rw (shorter_words c.args.history.now, to_z-of_z c.ranges.word) at c.score_after-score.ensures in
    let o = owed c.args.table.now c.args.history.now c.requires.0 _ c.back_off_of-back_off.ensures in
    let p = shorter_points c.args.table.now c.args.history.now (word_of c.args.word) c.requires.0 c.requires.2 c.score_after-score.result x in
    let f : SFits w32 (to_z w32 (of_z w32 c.back_off_of-back_off.result) +ℤ to_z w32 (of_z w32 c.score_after-score.result.points)) = rw (o, p) (sum_fits (accepted-model _ c.requires.0) _ _ _) in
    score_shorter (word_of c.args.word) c.args.history.now (some c.args.table.now c.args.history.now (word_of c.args.word) c.requires.0 c.requires.2 u) u (to_z-of_z f ∙ ap₂ ◌+ℤ◌ o p) x
