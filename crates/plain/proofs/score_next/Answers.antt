-- The word as it is replaced is a listed word.
use Rattle.std.proofs.Common.{◌≡◌, ap, ◌∙◌, [], ℕ, ℤ, pos}
use mir.Syntax.{w32}
use mir.Val.{SFits}
use mir.Facts.{to_z-of_z}
use borrow.Author.Rules.{sfits_of}
use Rattle.backoff.specs.Model.{Model, AcceptedModel}
use Rattle.backoff.specs.Rule.{replaced}
use Rattle.backoff.proofs.Words.{first_limit}
use Rattle.backoff.proofs.Rule.{replaced-listed}
use Rattle.rows.specs.Table.{word_of}
use Rattle.rows.proofs.Rows.{word_of-pos}
use Rattle.list.proofs.ListModel.{accepted-model}
use Rattle.plain_word.proofs.TextRule.{text-fits}
use Rattle.plain_word.proofs.Words.{replaced-is-word}
use Rattle.plain.proofs.score_next.Goals as goal

-- z is the word w, replaced
module _ {M : Model} (A : AcceptedModel M) (w : ℕ) {z : ℤ} (is : z ≡ pos (replaced M w)) where
  word-is : word_of z ≡ replaced M w
  word-is = ap word_of is ∙ word_of-pos _ (first_limit _ [] (replaced-is-word M w A))

pub score_word-scored-requires : goal.score_word-scored-requires
score_word-scored-requires c =
    let A = accepted-model _ c.requires.0 in
    let fits : SFits w32 c.replaced-known.result = sfits_of c.replaced-known.type_inv in
    (c.requires.0, c.requires.1, rw (word-is A c.args.word (to_z-of_z fits ∙ c.replaced-known.ensures)) (replaced-listed _ A c.args.word))

pub returns : goal.returns
returns c =
    let A = accepted-model _ c.requires.0 in
    let known : SFits w32 c.replaced-known.result = sfits_of c.replaced-known.type_inv in
    let is = to_z-of_z known ∙ c.replaced-known.ensures in
    let s = rw (word-is A c.args.word is) at c.score_word-scored.ensures in
    let fits : SFits w32 c.score_word-scored.result.points = rw s.points_are (text-fits A _ _) in
    record {
      points_are = to_z-of_z fits ∙ s.points_are;
      byte_is = s.byte_is;
      recent_is = rw is at c.push.ensures;
    }
