-- The word as a sequence of one, whose row says whether it is known.
use Rattle.std.proofs.Common.{◌≡◌, refl, sym, ap, ◌∙◌, arith, [], ◌∷◌, ℕ, ◌≤◌, pos}
use mir.Syntax.{w32}
use mir.Val.{to_z}
use mir.Facts.{to_z_pos}
use Rattle.backoff.specs.Words.{are_words}
use Rattle.backoff.proofs.Words.{words_more}
use Rattle.rows.specs.Table.{words_of}
use Rattle.rows.proofs.Rows.{word_of-pos}
use Rattle.list.proofs.ListModel.{accepted-model}
use Rattle.plain_word.proofs.Rows.{row-some, row-none}
use Rattle.plain_word.proofs.Words.{replaced-known, replaced-unknown, replaced-outside}
use Rattle.plain_word.proofs.replaced.Goals as goal
use Rattle.plain_word.proofs.replaced.Goals.{then-word-eq0-via-then-word-eq0, then-word-eq0-via-else-word-eq0+then-word}

one_word : (w : ℕ) → w ≤ 65535 → words_of (to_z w32 w ∷ []) ≡ w ∷ []
unfolding words_of
one_word w l = rw (to_z_pos w32 {n = w} (omega arith)) (ap (λ (v : ℕ). v ∷ []) (word_of-pos w (omega arith)))

pub returns-then-word-eq0 : goal.returns-then-word-eq0
returns-then-word-eq0 c =
    elim c.then-word-eq0.branch [
      | then-word-eq0-via-then-word-eq0 w ↦ ap pos (sym (replaced-outside _ _ (accepted-model _ c.requires) (λ l h. omega arith)))
      | then-word-eq0-via-else-word-eq0+then-word w ↦ ap pos (sym (replaced-outside _ _ (accepted-model _ c.requires) (λ l h. omega arith)))
    ]

pub row_of-requires : goal.row_of-requires
row_of-requires c = (c.requires, rw (one_word c.args.word (omega arith)) (words_more c.args.word [] (omega arith) (omega arith) (unfold are_words in refl)))

pub returns-in-Some : goal.returns-in-Some
returns-in-Some c =
    let e = rw (one_word c.args.word (omega arith)) at c.in-Some.ensures in
    to_z_pos w32 {n = c.args.word} (omega arith) ∙ ap pos (sym (replaced-known _ _ (row-some _ (c.args.word ∷ []) e).is_listed))

pub returns-in-None : goal.returns-in-None
returns-in-None c =
    let e = rw (one_word c.args.word (omega arith)) at c.in-None.ensures in
    ap pos (sym (replaced-unknown _ _ (row-none _ (c.args.word ∷ []) e).0))
